use Rattle.std.proofs.Common.{refl, arith}
use Rattle.gc_objects.specs.Answered.{IsNamedArray}
use Rattle.gc_objects.proofs.Pushing.{held_table}
use Rattle.gc_objects.proofs.TypeLemmas.{array_declared}
use Rattle.gc_objects.proofs.ValueCounts.{array_counts}
use Rattle.gc_objects.proofs.ValueStarts.{no_values, reads_values}
use Rattle.gc_objects.proofs.marks.ArrayRef.elems.Goals as goal

pub count_elements-counts-requires : goal.count_elements-counts-requires
count_elements-counts-requires g c = (array_declared g.H.GcHeap.KIND c.args.store.now c.root_index-root.result c.in-Ok.array.ty c.in-Ok.array.len c.in-Ok.ensures.found).1

pub values_of-requires : goal.values_of-requires
values_of-requires g c t holds =
    array_counts g.H.GcHeap.KIND c.args.store.now t holds c.root_index-root.result c.count_elements-counts.result.len c.count_elements-counts.result.references c.array_at.result c.in-Ok.array c.in-Ok.is (c.array_at.ensures.answers t holds)
    c.count_elements-counts.ensures.len c.count_elements-counts.ensures.references

pub returns-in-Err : goal.returns-in-Err
returns-in-Err g c = (
  (refl, λ last. tt, record { rest = refl; more = omega (arith) }),
  record {
    rests = tt;
    reads = λ t a holds.
        no_values c.args.store.now c.root_index-root.result (g.R.RootedGcRef.index c.args.this.now) c.root_index-root.ensures t (IsNamedArray t)
        c.array_at.result c.in-Err.fault c.accessed.result c.in-Err.is c.accessed.ensures (c.array_at.ensures.answers t (held_table g.H.GcHeap.KIND c.args.store.now t a holds));
    ready = tt;
    leaves = tt;
    same_reference = tt;
  },
)

pub returns : goal.returns
returns g c = (
  (refl, λ last. c.values_of.follows.holds last, c.values_of.follows.holds-at-none),
  record {
    rests = tt;
    reads = λ t a holds.
        reads_values g.H.GcHeap.KIND c.args.store.now t a c.values_of.result c.root_index-root.result (g.R.RootedGcRef.index c.args.this.now) c.root_index-root.ensures (c.values_of.ensures.reads t a holds);
    ready = c.values_of.ensures.ready;
    leaves = c.values_of.ensures.leaves;
    same_reference = c.values_of.ensures.same_reference;
  },
)
