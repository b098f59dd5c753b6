use Rattle.std.proofs.Common.{sym}
use Rattle.gc_tables.proofs.SlotLemmas.{none_of_absent, remove-absent}
use Rattle.gc_tables.proofs.slab.Slab.dealloc.Goals as goal

pub returns-then-not-contains-clause-removed : goal.returns-then-not-contains-clause-removed
returns-then-not-contains-clause-removed g c = sym (remove-absent _ c.args.id (none_of_absent _ c.if-not-contains.ensures.1))
