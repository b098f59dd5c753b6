use Rattle.std.proofs.Common.{refl, arith}
use Rattle.gc_objects.specs.Exns.{IsNamedExn}
use Rattle.gc_objects.proofs.Pushing.{held_table}
use Rattle.gc_objects.proofs.ValueCounts.{exn_listed}
use Rattle.gc_objects.proofs.ValueCounts.{exn_counts}
use Rattle.gc_objects.proofs.ValueStarts.{no_values, reads_values}
use Rattle.gc_objects.proofs.marks.ExnRef.fields.Goals as goal

pub count_fields-counts-requires : goal.count_fields-counts-requires
count_fields-counts-requires g c = exn_listed g.H.GcHeap.KIND c.args.store.now c.root_index-root.result c.in-Ok.exn c.in-Ok.ensures.found

pub values_of-requires : goal.values_of-requires
values_of-requires g c t holds =
    exn_counts g.H.GcHeap.KIND c.args.store.now t holds c.root_index-root.result c.count_fields-counts.result.len c.count_fields-counts.result.references c.exn_at.result c.in-Ok.exn c.in-Ok.is (c.exn_at.ensures.answers t holds)
    c.count_fields-counts.ensures.len c.count_fields-counts.ensures.references

pub returns-in-Err : goal.returns-in-Err
returns-in-Err g c = (
  (refl, λ last. tt, record { rest = refl; more = omega (arith) }),
  record {
    rests = tt;
    reads = λ t a holds.
        no_values c.args.store.now c.root_index-root.result (g.R.RootedGcRef.index c.args.this.now) c.root_index-root.ensures t (IsNamedExn t)
        c.exn_at.result c.in-Err.fault c.accessed.result c.in-Err.is c.accessed.ensures (c.exn_at.ensures.answers t (held_table g.H.GcHeap.KIND c.args.store.now t a holds));
    ready = tt;
    leaves = tt;
    same_reference = tt;
  },
)

pub returns : goal.returns
returns g c = (
  (refl, λ last. c.values_of.follows.holds last, c.values_of.follows.holds-at-none),
  record {
    rests = tt;
    reads = λ t a holds.
        reads_values g.H.GcHeap.KIND c.args.store.now t a c.values_of.result c.root_index-root.result (g.R.RootedGcRef.index c.args.this.now) c.root_index-root.ensures (c.values_of.ensures.reads t a holds);
    ready = c.values_of.ensures.ready;
    leaves = c.values_of.ensures.leaves;
    same_reference = c.values_of.ensures.same_reference;
  },
)
