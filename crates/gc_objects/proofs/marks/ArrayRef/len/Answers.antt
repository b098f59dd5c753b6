use Rattle.gc_objects.specs.Answered.{IsArray, IsNamedArray, HasLength}
use Rattle.gc_objects.proofs.TypeLemmas.{refused_here, answers_here}
use Rattle.gc_objects.proofs.marks.ArrayRef.len.Goals as goal

pub returns-in-Ok : goal.returns-in-Ok
returns-in-Ok g c t holds =
    answers_here c.args.store.now t c.root_index.result (g.R.RootedGcRef.index c.args.this.now) c.root_index.ensures (IsArray t) (IsNamedArray t) c.array_at.result (c.array_at.ensures.answers t holds)
    c.in-Ok.array c.in-Ok.array.ty c.in-Ok.is (λ r told. (told.0, told.1.0)) (HasLength t) c.in-Ok.array.len (λ r told. (c.in-Ok.array.ty, told))

pub returns-in-Err : goal.returns-in-Err
returns-in-Err g c t holds =
    refused_here c.args.store.now t c.root_index.result (g.R.RootedGcRef.index c.args.this.now) c.root_index.ensures (IsArray t) (IsNamedArray t) c.array_at.result (c.array_at.ensures.answers t holds)
    (HasLength t) c.in-Err.fault c.in-Err.is
