use Rattle.std.proofs.Common.{◌≡◌, codes, rules}
use Rattle.gc_commands.proofs.OperandLemmas.{operand_read}
use Rattle.gc_commands.proofs.operands.operand_of.Goals as goal

pub returns-in_default-word : goal.returns-in_default-word
returns-in_default-word c =
    let any : c.args.word.now ≡ codes "any:null" → ⊥ = search rules in
    let outer : c.args.word.now ≡ codes "extern:null" → ⊥ = search rules in
    let exn : c.args.word.now ≡ codes "exn:null" → ⊥ = search rules in
    operand_read c.args.word.now c.float_of.result c.in_default.ensures c.in_default-behind.ensures c.in_default-behind-2.ensures any outer exn
    c.float_of.ensures
