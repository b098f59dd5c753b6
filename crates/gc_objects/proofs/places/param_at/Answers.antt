use Rattle.gc_objects.proofs.ExnLemmas.{asks_param, finds_param}
use Rattle.gc_objects.proofs.places.param_at.Goals as goal

pub returns-in-Ok-clause-typed : goal.returns-in-Ok-clause-typed
returns-in-Ok-clause-typed g c =
    finds_param g.H.GcHeap.KIND c.args.store.now c.args.root c.args.index c.in-Ok.exn c.exn_at.result c.field_of.result c.in-Ok.is c.field_of.ensures c.exn_at.ensures.found

pub returns-in-Ok-clause-answers : goal.returns-in-Ok-clause-answers
returns-in-Ok-clause-answers g c t holds =
    asks_param g.H.GcHeap.KIND c.args.store.now c.args.root c.args.index c.in-Ok.exn c.exn_at.result c.field_of.result c.in-Ok.is c.field_of.ensures t holds (c.exn_at.ensures.answers t holds)
