use Rattle.gc_objects.proofs.Naming.{object_answers}
use Rattle.gc_objects.proofs.places.object_at.Goals as goal

pub returns-clause-answers : goal.returns-clause-answers
returns-clause-answers g c = object_answers g.H.GcHeap.KIND c.args.store.now c.args.root c.object.result c.object.ensures.wrong_store c.object.ensures.live c.object.ensures.gone
