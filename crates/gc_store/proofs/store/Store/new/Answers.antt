use Rattle.gc_store.specs.Stores.{tables_of}
use Rattle.gc_store.proofs.Sound.{none_told, sound_new, starts_fresh, new_view}
use Rattle.gc_store.proofs.store.Store.new.Goals as goal

pub invariant_of-result : goal.invariant_of-result
invariant_of-result g c = sound_new c.args.id c.args.config (tables_of c.new-2.result c.new-4.result) (none_told c.new-2.result c.new-4.result c.new-2.ensures c.new-4.ensures.count) c.in_ok-new.field-0.seen c.in_ok-new.ensures.seen g.H.GcHeap.KIND c.new-3.result.items c.new-3.ensures.items

pub returns-clause-start : goal.returns-clause-start
returns-clause-start g c = starts_fresh c.args.id c.args.config (tables_of c.new-2.result c.new-4.result) (none_told c.new-2.result c.new-4.result c.new-2.ensures c.new-4.ensures.count) c.in_ok-new.field-0.seen c.in_ok-new.ensures.seen g.H.GcHeap.KIND

pub returns-clause-seen : goal.returns-clause-seen
returns-clause-seen g c = new_view c.args.id c.args.config (tables_of c.new-2.result c.new-4.result) (none_told c.new-2.result c.new-4.result c.new-2.ensures c.new-4.ensures.count) c.in_ok-new.field-0.seen c.in_ok-new.ensures.seen
