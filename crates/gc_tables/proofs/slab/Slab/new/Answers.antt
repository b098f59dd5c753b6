use Rattle.gc_tables.proofs.LinkLemmas.{linked-empty, entry_map-empty}
use Rattle.gc_tables.proofs.slab.Slab.new.Goals as goal

pub invariant_of-result : goal.invariant_of-result
invariant_of-result g c = linked-empty _ c.new.ensures.items

pub returns : goal.returns
returns g c = entry_map-empty _ c.new.ensures.items
