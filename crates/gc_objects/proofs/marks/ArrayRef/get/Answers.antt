use Rattle.std.proofs.Common.{subst}
use Rattle.gc_values.specs.declared.root.GcRootIndex.{GcRootIndex}
use Rattle.gc_objects.specs.Answered.{IsNamedArray}
use Rattle.gc_objects.specs.Reads.{IsOutside}
use Rattle.gc_store.specs.Roots.{is_of_store}
use Rattle.gc_objects.proofs.Questions.{asks_no_memory}
use Rattle.gc_objects.proofs.Pushing.{held_table}
use Rattle.gc_objects.proofs.ArrayLemmas.{array_told, element_there, element_past, may_read}
use Rattle.gc_objects.proofs.StructLemmas.{reads_no_root, reads_value, reads_fault}
use Rattle.gc_objects.proofs.marks.ArrayRef.get.Goals as goal

pub returns-in-Err-clause-reads : goal.returns-in-Err-clause-reads
returns-in-Err-clause-reads g c t a holds =
    reads_no_root g.H.GcHeap.KIND c.args.store.now c.root_index-root.result (g.R.RootedGcRef.index c.args.this.now) c.root_index-root.ensures c.args.index c.args.store.now t a (IsNamedArray t)
    c.array_at.result c.in-Err.fault c.accessed.result c.in-Err.is c.accessed.ensures (c.array_at.ensures.answers t (held_table g.H.GcHeap.KIND c.args.store.now t a holds))

pub returns-then-index-array-clause-reads : goal.returns-then-index-array-clause-reads
returns-then-index-array-clause-reads g c t a holds =
    let is = array_told c.args.store.now t c.root_index-root.result c.in-Ok.array c.array_at.result c.in-Ok.is (c.array_at.ensures.answers t (held_table g.H.GcHeap.KIND c.args.store.now t a holds)) in
    subst (λ (h : GcRootIndex). IsOutside c.args.store.now t h c.args.index) c.root_index-root.ensures
    (element_past c.args.store.now t c.root_index-root.result c.in-Ok.array is c.args.index c.if-index-array.true)

pub read-requires : goal.read-requires
read-requires g c = may_read g.H.GcHeap.KIND c.args.store.now c.root_index-root.result c.in-Ok.array c.in-Ok.ensures.found c.args.index c.if-index-array.false

pub returns-in-Ok-read-clause-reads : goal.returns-in-Ok-read-clause-reads
returns-in-Ok-read-clause-reads g c t a holds =
    let is = array_told c.args.store.now t c.root_index-root.result c.in-Ok.array c.array_at.result c.in-Ok.is (c.array_at.ensures.answers t (held_table g.H.GcHeap.KIND c.args.store.now t a holds)) in
    let there = element_there c.args.store.now t c.root_index-root.result c.in-Ok.array is c.args.index c.if-index-array.false in
    reads_value g.H.GcHeap.KIND c.args.store.now c.root_index-root.result (g.R.RootedGcRef.index c.args.this.now) c.root_index-root.ensures c.args.index c.read.new.store t a there.0 there.1
    c.read.result (c.read.ensures.reads t a there.0 holds there.1) c.in-Ok-read.value c.in-Ok-read.is

pub returns-in-Err-read-clause-reads : goal.returns-in-Err-read-clause-reads
returns-in-Err-read-clause-reads g c t a holds =
    let is = array_told c.args.store.now t c.root_index-root.result c.in-Ok.array c.array_at.result c.in-Ok.is (c.array_at.ensures.answers t (held_table g.H.GcHeap.KIND c.args.store.now t a holds)) in
    let there = element_there c.args.store.now t c.root_index-root.result c.in-Ok.array is c.args.index c.if-index-array.false in
    reads_fault g.H.GcHeap.KIND c.args.store.now c.root_index-root.result (g.R.RootedGcRef.index c.args.this.now) c.root_index-root.ensures c.args.index c.read.new.store t a there.0 there.1
    c.read.result (c.read.ensures.reads t a there.0 holds there.1) c.in-Err-read.fault c.accessed-in-Err-read.result c.in-Err-read.is c.accessed-in-Err-read.ensures

pub returns-in-Err-clause-reserved : goal.returns-in-Err-clause-reserved
returns-in-Err-clause-reserved g c some is =
    asks_no_memory c.args.store.now c.requires.table (is_of_store c.args.store.now c.root_index-root.result) c.root_index-root.result (IsNamedArray c.requires.table) c.array_at.result c.in-Err.fault c.accessed.result
    c.in-Err.is c.accessed.ensures (c.array_at.ensures.answers c.requires.table c.requires.holds) (cc is)
