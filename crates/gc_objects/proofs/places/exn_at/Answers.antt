use Rattle.std.proofs.Common.{sym, ◌∙◌, subst}
use Rattle.gc_store.specs.Roots.{is_of_store, IsReference, TellsReference}
use Rattle.gc_objects.specs.Exns.{IsNamedExn}
use Rattle.gc_objects.proofs.Questions.{answers_ok, answers_err}
use Rattle.gc_objects.proofs.ExnLemmas.{tells_exn, is_an_exn}
use Rattle.gc_objects.proofs.places.exn_at.Goals as goal

pub unreachable-requires : goal.unreachable-requires
unreachable-requires g c =
    is_an_exn g.H.GcHeap.KIND c.args.store.now c.args.root c.object_at.result c.in-Ok.object c.in-Ok.is c.object_at.ensures.answers c.requires (sym c.exn_in.ensures ∙ c.in-None.is)

pub returns-in-Some-clause-answers : goal.returns-in-Some-clause-answers
returns-in-Some-clause-answers g c t holds =
    answers_ok c.args.store.now t (is_of_store c.args.store.now c.args.root) c.args.root (IsReference t) (IsNamedExn t) c.object_at.result c.in-Ok.object c.in-Some.exn c.in-Ok.is
    (tells_exn t c.in-Ok.object c.in-Some.exn (sym c.exn_in.ensures ∙ c.in-Some.is)) (c.object_at.ensures.answers t holds)

pub returns-in-Err-clause-answers : goal.returns-in-Err-clause-answers
returns-in-Err-clause-answers g c t holds =
    answers_err c.args.store.now t (is_of_store c.args.store.now c.args.root) c.args.root (IsReference t) (IsNamedExn t) c.object_at.result c.in-Err.fault c.in-Err.is (c.object_at.ensures.answers t holds)

pub returns-in-Some-clause-everywhere : goal.returns-in-Some-clause-everywhere
returns-in-Some-clause-everywhere g c t r holds names =
    tells_exn t c.in-Ok.object c.in-Some.exn (sym c.exn_in.ensures ∙ c.in-Some.is) r
    (subst (TellsReference t r) c.in-Ok.is (c.object_at.ensures.live t r holds names))
