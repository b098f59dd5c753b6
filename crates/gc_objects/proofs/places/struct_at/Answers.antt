use Rattle.std.proofs.Common.{sym, ◌∙◌}
use Rattle.gc_store.specs.Roots.{is_of_store, IsReference}
use Rattle.gc_objects.specs.Answered.{IsStruct}
use Rattle.gc_objects.proofs.Questions.{answers_ok, answers_err, tells_struct, is_a_struct}
use Rattle.gc_objects.proofs.places.struct_at.Goals as goal

pub unreachable-requires : goal.unreachable-requires
unreachable-requires g c =
    is_a_struct g.H.GcHeap.KIND c.args.store.now c.args.root c.object_at.result c.in-Ok.object c.in-Ok.is c.object_at.ensures.answers c.requires (sym c.struct_in.ensures ∙ c.in-None.is)

pub returns-in-Some-clause-answers : goal.returns-in-Some-clause-answers
returns-in-Some-clause-answers g c t holds =
    answers_ok c.args.store.now t (is_of_store c.args.store.now c.args.root) c.args.root (IsReference t) (IsStruct t) c.object_at.result c.in-Ok.object c.in-Some.ty c.in-Ok.is
    (tells_struct t c.in-Ok.object c.in-Some.ty (sym c.struct_in.ensures ∙ c.in-Some.is)) (c.object_at.ensures.answers t holds)

pub returns-in-Err-clause-answers : goal.returns-in-Err-clause-answers
returns-in-Err-clause-answers g c t holds =
    answers_err c.args.store.now t (is_of_store c.args.store.now c.args.root) c.args.root (IsReference t) (IsStruct t) c.object_at.result c.in-Err.fault c.in-Err.is (c.object_at.ensures.answers t holds)
