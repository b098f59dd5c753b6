use Rattle.std.proofs.Common.{◌≡◌, codes, rules}
use Rattle.gc_commands.proofs.TypeLemmas.{heap_read}
use Rattle.gc_commands.proofs.types.heap_of.Goals as goal

pub returns-in_default : goal.returns-in_default
returns-in_default c =
    let is_any : c.args.word.now ≡ codes "any" → ⊥ = search rules in
    let is_eq : c.args.word.now ≡ codes "eq" → ⊥ = search rules in
    let is_i31 : c.args.word.now ≡ codes "i31" → ⊥ = search rules in
    let is_struct : c.args.word.now ≡ codes "struct" → ⊥ = search rules in
    let is_array : c.args.word.now ≡ codes "array" → ⊥ = search rules in
    let is_none : c.args.word.now ≡ codes "none" → ⊥ = search rules in
    let is_extern : c.args.word.now ≡ codes "extern" → ⊥ = search rules in
    let is_noextern : c.args.word.now ≡ codes "noextern" → ⊥ = search rules in
    let is_exn : c.args.word.now ≡ codes "exn" → ⊥ = search rules in
    let is_noexn : c.args.word.now ≡ codes "noexn" → ⊥ = search rules in
    heap_read c.args.word.now c.named_of.result is_any is_eq is_i31 is_struct is_array is_none is_extern is_noextern is_exn is_noexn c.named_of.ensures
