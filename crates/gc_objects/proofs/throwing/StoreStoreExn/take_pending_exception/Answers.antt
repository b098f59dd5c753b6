use Rattle.std.proofs.Common.{Ok, ap, ◌∙◌, refl, subst}
use Rattle.gc_types.specs.declared.kind.VMGcKind.TheVariants as kinds
use Rattle.gc_objects.proofs.Pushed.{handle_kind}
use Rattle.gc_objects.proofs.TakenExceptions.{taken, taken_kind}
use Rattle.gc_store.specs.Thrown.{AnswersPending}
use Rattle.gc_objects.proofs.throwing.StoreStoreExn.take_pending_exception.Goals as goal

pub from_gc_root_index-requires : goal.from_gc_root_index-requires
from_gc_root_index-requires g c =
    let held = c.stores_hold_tables.ensures in
    taken_kind g.H.GcHeap.KIND c.args.self.now c.take_pending.new.self held.0 held.1.0 held.1.1 c.in-Ok-Some.index
    (taken g.H.GcHeap.KIND held.0 held.1.0 c.take_pending.new.self c.take_pending.result c.in-Ok-Some.index c.in-Ok-Some.index (c.in-Ok-Some.is ∙ ap Ok c.in-Ok-Some.field-0-is) refl (c.take_pending.ensures.takes held.0 held.1.0 held.1.1))

pub returns-in-Ok-Some-clause-takes : goal.returns-in-Ok-Some-clause-takes
returns-in-Ok-Some-clause-takes g c t a holds =
    taken g.H.GcHeap.KIND t a c.take_pending.new.self c.take_pending.result c.in-Ok-Some.index c.from_gc_root_index.result.index (c.in-Ok-Some.is ∙ ap Ok c.in-Ok-Some.field-0-is) c.from_gc_root_index.ensures
    (c.take_pending.ensures.takes t a holds)

pub returns-in-Ok-Some-clause-kind : goal.returns-in-Ok-Some-clause-kind
returns-in-Ok-Some-clause-kind g c =
    let held = c.stores_hold_tables.ensures in
    handle_kind g.H.GcHeap.KIND c.take_pending.new.self kinds.ExnRef c.in-Ok-Some.index c.from_gc_root_index.result.index c.from_gc_root_index.ensures
    (taken_kind g.H.GcHeap.KIND c.args.self.now c.take_pending.new.self held.0 held.1.0 held.1.1 c.in-Ok-Some.index
    (taken g.H.GcHeap.KIND held.0 held.1.0 c.take_pending.new.self c.take_pending.result c.in-Ok-Some.index c.in-Ok-Some.index (c.in-Ok-Some.is ∙ ap Ok c.in-Ok-Some.field-0-is) refl (c.take_pending.ensures.takes held.0 held.1.0 held.1.1)))

pub returns-in-Ok-None-clause-takes : goal.returns-in-Ok-None-clause-takes
returns-in-Ok-None-clause-takes g c t a holds =
    subst (λ q. AnswersPending g.H.GcHeap.KIND t a q c.take_pending.new.self) (c.in-Ok-None.is ∙ ap Ok c.in-Ok-None.field-0-is) (c.take_pending.ensures.takes t a holds)
