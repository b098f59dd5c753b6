use Rattle.gc_tables.proofs.InternLemmas.{index-empty}
use Rattle.gc_tables.proofs.interner.Interner.new.Goals as goal

pub invariant_of-result : goal.invariant_of-result
invariant_of-result g c = index-empty g.K.PartialEq.eq c.new.result.entries c.new-2.result c.new.ensures c.new-2.ensures.empty
