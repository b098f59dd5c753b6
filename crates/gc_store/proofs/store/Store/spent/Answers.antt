use Rattle.gc_store.specs.Stores.{tables_of}
use Rattle.gc_store.proofs.Sound.{none_told, sound_spent, is_spent, spent_view}
use Rattle.gc_store.proofs.store.Store.spent.Goals as goal

pub invariant_of-result : goal.invariant_of-result
invariant_of-result g c = sound_spent c.args.id c.args.config (tables_of c.new.result c.new-3.result) (none_told c.new.result c.new-3.result c.new.ensures c.new-3.ensures.count) c.spent.result.seen c.spent.ensures g.H.GcHeap.KIND c.new-2.result.items c.new-2.ensures.items

pub returns-clause-spent : goal.returns-clause-spent
returns-clause-spent g c = is_spent c.args.id c.args.config (tables_of c.new.result c.new-3.result) (none_told c.new.result c.new-3.result c.new.ensures c.new-3.ensures.count) c.spent.result.seen c.spent.ensures g.H.GcHeap.KIND

pub returns-clause-seen : goal.returns-clause-seen
returns-clause-seen g c = spent_view c.args.id c.args.config (tables_of c.new.result c.new-3.result) (none_told c.new.result c.new-3.result c.new.ensures c.new-3.ensures.count) c.spent.result.seen c.spent.ensures
