use Rattle.gc_objects.proofs.FieldLemmas.{asks_field, finds_typed}
use Rattle.gc_objects.proofs.places.field_at.Goals as goal

pub returns-in-Ok-clause-typed : goal.returns-in-Ok-clause-typed
returns-in-Ok-clause-typed g c =
    finds_typed g.H.GcHeap.KIND c.args.store.now c.args.root c.args.index c.in-Ok.ty c.struct_at.result c.field_of.result c.in-Ok.is c.field_of.ensures c.struct_at.ensures.found

pub returns-in-Ok-clause-answers : goal.returns-in-Ok-clause-answers
returns-in-Ok-clause-answers g c t holds =
    asks_field g.H.GcHeap.KIND c.args.store.now c.args.root c.args.index c.in-Ok.ty c.struct_at.result c.field_of.result c.in-Ok.is c.field_of.ensures t holds (c.struct_at.ensures.answers t holds)
