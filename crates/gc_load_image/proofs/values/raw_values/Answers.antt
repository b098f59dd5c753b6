use Rattle.std.proofs.Common.{◌+◌, List, [], take, sym, subst}
use Rattle.std.proofs.lemmas.List.{take_all}
use Rattle.gc_values.specs.declared.root.RawValue.{RawValue}
use Rattle.gc_image.specs.declared.image.ImageValue.{ImageValue}
use Rattle.gc_image.proofs.ElementLemmas.{item_found}
use Rattle.gc_load_image.specs.Stages.{FailedValues, FoundValues}
use Rattle.gc_load_image.proofs.PushedRoots.{same_itself, same_twice}
use Rattle.gc_load_image.proofs.TypeLemmas.{err_matches}
use Rattle.gc_load_image.proofs.ValuesLoop.{front_more, front_part, values_failed, values_memory, values_more, values_start}
use Rattle.gc_load_image.proofs.values.raw_values.Goals as goal

pub loop-value-init : goal.loop-value-init
loop-value-init g c = record {
  goes = λ t a standing fits. subst (λ (rs : List RawValue). FoundValues g.H.GcHeap.KIND c.args.handles.now [] c.args.store.now t a rs c.args.store.now) (sym c.in_ok-raws.ensures.items)
      (values_start g.H.GcHeap.KIND c.args.handles.now c.args.store.now t a standing);
  same = same_itself c.args.store.now;
}

pub loop-value-preserved : goal.loop-value-preserved
loop-value-preserved g c = record {
  goes = λ t a standing fits.
      let found = c.loop-value.invariant.goes t a standing fits in
      subst (λ (rs : List RawValue). FoundValues g.H.GcHeap.KIND c.args.handles.now (take (c.loop-value.value-index + 1) c.args.values.now) c.args.store.now t a rs c.raw_value.new.store) (sym c.in_ok-extend_from_slice.ensures.items)
      (values_more g.H.GcHeap.KIND c.args.handles.now c.args.store.now t a (take c.loop-value.value-index c.args.values.now) c.loop-value.raws.items c.loop-value.store c.raw_value.new.store found c.value-item.result (take (c.loop-value.value-index + 1) c.args.values.now) c.in_ok-raw.raw (front_more c.args.values.now c.loop-value.value-index c.value-item.result c.loop-value-test.true c.value-item.is)
      (c.in_ok-raw.ensures.finds found.pushes.table a found.pushes.standing (fits c.loop-value.value-index c.value-item.result (item_found c.args.values.now c.loop-value.value-index c.value-item.result c.loop-value-test.true c.value-item.is))));
  same = same_twice c.args.store.now c.loop-value.store c.raw_value.new.store c.loop-value.invariant.same c.raw_value.ensures.same;
}

pub returns-clause-finds : goal.returns-clause-finds
returns-clause-finds g c t a standing fits = subst (λ (vs : List ImageValue). FoundValues g.H.GcHeap.KIND c.args.handles.now vs c.args.store.now t a c.loop-value.raws.items c.loop-value.store) (take_all c.loop-value.value-index c.args.values.now c.loop-value-test.false) (c.loop-value.invariant.goes t a standing fits)

pub returns-in_err-raw-clause-finds : goal.returns-in_err-raw-clause-finds
returns-in_err-raw-clause-finds g c t a standing fits =
    let found = c.loop-value.invariant.goes t a standing fits in
    err_matches c.from_residual-in_err-raw.result c.in_err-raw.field-0.0 (λ raws. FoundValues g.H.GcHeap.KIND c.args.handles.now c.args.values.now c.args.store.now t a raws.items c.raw_value.new.store)
    (λ why. FailedValues g.H.GcHeap.KIND c.args.handles.now c.args.values.now c.args.store.now t a why c.raw_value.new.store) c.from_residual-in_err-raw.ensures.1
    (values_failed g.H.GcHeap.KIND c.args.handles.now c.args.store.now t a (take c.loop-value.value-index c.args.values.now) c.loop-value.raws.items c.loop-value.store c.raw_value.new.store found c.value-item.result c.args.values.now c.in_err-raw.field-0.0 (front_part c.args.values.now c.loop-value.value-index c.value-item.result c.loop-value-test.true c.value-item.is) (c.in_err-raw.ensures.finds found.pushes.table a found.pushes.standing (fits c.loop-value.value-index c.value-item.result (item_found c.args.values.now c.loop-value.value-index c.value-item.result c.loop-value-test.true c.value-item.is))))

pub returns-in_err-extend_from_slice-clause-finds : goal.returns-in_err-extend_from_slice-clause-finds
returns-in_err-extend_from_slice-clause-finds g c t a standing fits =
    let found = c.loop-value.invariant.goes t a standing fits in
    err_matches c.from_residual-in_err-extend_from_slice.result _ (λ raws. FoundValues g.H.GcHeap.KIND c.args.handles.now c.args.values.now c.args.store.now t a raws.items c.raw_value.new.store)
    (λ why. FailedValues g.H.GcHeap.KIND c.args.handles.now c.args.values.now c.args.store.now t a why c.raw_value.new.store) c.from_residual-in_err-extend_from_slice.ensures.1
    (values_memory g.H.GcHeap.KIND c.args.handles.now c.args.store.now t a (take c.loop-value.value-index c.args.values.now) c.loop-value.raws.items c.loop-value.store c.raw_value.new.store found c.value-item.result c.args.values.now c.in_ok-raw.raw (front_part c.args.values.now c.loop-value.value-index c.value-item.result c.loop-value-test.true c.value-item.is) (c.in_ok-raw.ensures.finds found.pushes.table a found.pushes.standing (fits c.loop-value.value-index c.value-item.result (item_found c.args.values.now c.loop-value.value-index c.value-item.result c.loop-value-test.true c.value-item.is))))

pub returns-in_err-raw-clause-same : goal.returns-in_err-raw-clause-same
returns-in_err-raw-clause-same g c = same_twice c.args.store.now c.loop-value.store c.raw_value.new.store c.loop-value.invariant.same c.raw_value.ensures.same

pub returns-in_err-extend_from_slice-clause-same : goal.returns-in_err-extend_from_slice-clause-same
returns-in_err-extend_from_slice-clause-same g c = same_twice c.args.store.now c.loop-value.store c.raw_value.new.store c.loop-value.invariant.same c.raw_value.ensures.same
