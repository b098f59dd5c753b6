use Rattle.std.proofs.Common.{List, length, ap, arith}
use Rattle.std.specs.List.{list_any}
use Rattle.gc_values.specs.declared.subtypes.TypePair.{TypePair}
use Rattle.gc_values.specs.Subtypes.{same_pair}
use Rattle.gc_values.proofs.AskedTypes.{added, not_added, is_there}
use Rattle.gc_values.proofs.subtypes.AskedPairs.add.Goals as goal

pub returns-in-Ok : goal.returns-in-Ok
returns-in-Ok c =
    added c.args.types.now.declarations c.args.pair c.args.self.now (record { pairs = c.insert.new.self }) c.in-Ok.ensures.updates.0 _ (omega (arith, c.if-len-lt-MOST_PAIRS.true, c.len.ensures.len)) c.in-Ok.ensures.len
    (is_there _ _ c.kind_of.ensures c.if-is_none.ensures, is_there _ _ c.kind_of-else-is_none.ensures c.if-is_none-2.ensures)

pub returns-in-Err : goal.returns-in-Err
returns-in-Err c =
    not_added c.args.types.now.declarations c.args.pair c.args.self.now (record { pairs = c.insert.new.self })
    (λ p. ap (list_any (same_pair p)) c.in-Err.ensures.err) (ap (λ (keys : List TypePair). length keys) c.in-Err.ensures.err)
