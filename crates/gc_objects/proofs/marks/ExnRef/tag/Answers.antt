use Rattle.gc_objects.specs.Exns.{IsExn, IsNamedExn, HasTag}
use Rattle.gc_objects.proofs.TypeLemmas.{refused_here, answers_here}
use Rattle.gc_objects.proofs.marks.ExnRef.tag.Goals as goal

pub returns-in-Ok : goal.returns-in-Ok
returns-in-Ok g c t holds =
    answers_here c.args.store.now t c.root_index.result (g.R.RootedGcRef.index c.args.this.now) c.root_index.ensures (IsExn t) (IsNamedExn t) c.exn_at.result (c.exn_at.ensures.answers t holds)
    c.in-Ok.exn c.in-Ok.exn.ty c.in-Ok.is (λ r told. (c.in-Ok.exn.tag, told)) (HasTag t) c.in-Ok.exn.tag (λ r told. (c.in-Ok.exn.ty, told))

pub returns-in-Err : goal.returns-in-Err
returns-in-Err g c t holds =
    refused_here c.args.store.now t c.root_index.result (g.R.RootedGcRef.index c.args.this.now) c.root_index.ensures (IsExn t) (IsNamedExn t) c.exn_at.result (c.exn_at.ensures.answers t holds)
    (HasTag t) c.in-Err.fault c.in-Err.is
