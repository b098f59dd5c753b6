use Rattle.std.proofs.Common.{sym, ◌∙◌}
use Rattle.gc_objects.specs.declared.marks.StructRef.{StructRef}
use Rattle.gc_objects.specs.Answered.{IsStructRoot}
use Rattle.gc_objects.proofs.Questions.{asks_struct, asks_no_struct, asks_refused, struct_found}
use Rattle.gc_objects.proofs.marks.AnyRef.as_struct.Goals as goal

pub returns-in-Some-clause-answers : goal.returns-in-Some-clause-answers
returns-in-Some-clause-answers g c t holds =
    asks_struct g.H.GcHeap.KIND c.args.store.now c.root_index.result c.args.this.index c.root_index.ensures c.object_at.result StructRef t c.in-Ok.object c.in-Ok.is (c.object_at.ensures.answers t holds)
    c.in-Some.field-0 c.cast.result (sym c.struct_in.ensures ∙ c.in-Some.is) c.cast.ensures

pub returns-in-Some-clause-kind : goal.returns-in-Some-clause-kind
returns-in-Some-clause-kind g c =
    struct_found g.H.GcHeap.KIND c.args.store.now c.root_index.result c.args.this.index c.root_index.ensures c.object_at.result c.in-Ok.object c.in-Ok.is c.object_at.ensures.found
    c.in-Some.field-0 c.cast.result.index (sym c.struct_in.ensures ∙ c.in-Some.is) c.cast.ensures

pub returns-in-None-clause-answers : goal.returns-in-None-clause-answers
returns-in-None-clause-answers g c t holds =
    asks_no_struct g.H.GcHeap.KIND c.args.store.now c.root_index.result c.args.this.index c.root_index.ensures c.object_at.result StructRef t c.in-Ok.object c.in-Ok.is (c.object_at.ensures.answers t holds)
    (sym c.struct_in.ensures ∙ c.in-None.is)

pub returns-in-Err-clause-answers : goal.returns-in-Err-clause-answers
returns-in-Err-clause-answers g c t holds =
    asks_refused g.H.GcHeap.KIND c.args.store.now c.root_index.result c.args.this.index c.root_index.ensures c.object_at.result t (IsStructRoot {T = StructRef} t c.args.this.index) c.in-Err.fault c.in-Err.is (c.object_at.ensures.answers t holds)
