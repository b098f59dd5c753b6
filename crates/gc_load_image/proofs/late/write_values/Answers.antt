use Rattle.std.proofs.Common.{◌≤◌, ◌<◌, List, length, sym, subst}
use Rattle.gc_types.specs.Declarations.{Declaration}
use Rattle.gc_image.specs.declared.image.ImageValue.{ImageValue}
use Rattle.gc_image.specs.Well.{AreWellObjects}
use Rattle.gc_image.proofs.ElementLemmas.{item_found}
use Rattle.gc_load_image.proofs.LateLemmas.{goes_none, goes_on, writing_next}
use Rattle.gc_load_image.proofs.PushedRoots.{same_itself, same_twice}
use Rattle.gc_load_image.proofs.late.write_values.Goals as goal

pub loop-index-init : goal.loop-index-init
loop-index-init g c = record { writing = c.requires.writing; goes = goes_none c.args.store.now; same = same_itself c.args.store.now }

pub loop-index-preserved : goal.loop-index-preserved
loop-index-preserved g c = record { writing = c.write_value.ensures.writing; goes = goes_on c.args.store.now c.loop-index.store c.write_value.new.store c.loop-index.invariant.goes c.write_value.ensures.goes; same = same_twice c.args.store.now c.loop-index.store c.write_value.new.store c.loop-index.invariant.same c.write_value.ensures.same }

pub write_value-requires-clause-value : goal.write_value-requires-clause-value
write_value-requires-clause-value g c = record {
  line = c.index-objects-number.result;
  line_is = item_found c.args.objects.now c.args.number c.index-objects-number.result c.requires.inside c.index-objects-number.is;
  inside = subst (λ (vs : List ImageValue). c.loop-index.index < length vs) c.values_of-index-end.ensures c.loop-index-test.true;
}

pub write_value-requires-clause-well : goal.write_value-requires-clause-well
write_value-requires-clause-well g c = subst (λ (ts : List Declaration). AreWellObjects ts c.args.objects.now) (sym c.loop-index.invariant.goes.types) c.requires.well

pub returns-clause-writing : goal.returns-clause-writing
returns-clause-writing g c =
    writing_next g.H.GcHeap.KIND c.args.objects.now c.args.handles.now c.args.number c.loop-index.index c.index-objects-number.result c.loop-index.store
    (item_found c.args.objects.now c.args.number c.index-objects-number.result c.requires.inside c.index-objects-number.is)
    (subst (λ (vs : List ImageValue). length vs ≤ c.loop-index.index) c.values_of-index-end.ensures c.loop-index-test.false) c.loop-index.invariant.writing
