use Rattle.std.proofs.Common.{◌+◌, List, [], map, take, ap, sym, subst}
use Rattle.std.proofs.lemmas.List.{take_all}
use Rattle.gc_values.specs.declared.root.RawValue.{RawValue}
use Rattle.gc_image.specs.declared.image.ImageValue.{ImageValue}
use Rattle.gc_image.proofs.ElementLemmas.{item_found}
use Rattle.gc_load_image.specs.Stages.{FailedValues, FoundValues, global_line_value}
use Rattle.gc_load_image.proofs.PushedRoots.{same_itself, same_twice}
use Rattle.gc_load_image.proofs.TypeLemmas.{err_matches}
use Rattle.gc_load_image.proofs.ValuesLoop.{mapped_more, mapped_part, values_failed, values_memory, values_more, values_start}
use Rattle.gc_load_image.proofs.values.global_values.Goals as goal

pub loop-global-init : goal.loop-global-init
loop-global-init g c = record {
  goes = λ t a standing fits. subst (λ (rs : List RawValue). FoundValues g.H.GcHeap.KIND c.args.handles.now [] c.args.store.now t a rs c.args.store.now) (sym c.in_ok-raws.ensures.items)
      (values_start g.H.GcHeap.KIND c.args.handles.now c.args.store.now t a standing);
  same = same_itself c.args.store.now;
}

pub loop-global-preserved : goal.loop-global-preserved
loop-global-preserved g c = record {
  goes = λ t a standing fits.
      let found = c.loop-global.invariant.goes t a standing fits in
      subst (λ (rs : List RawValue). FoundValues g.H.GcHeap.KIND c.args.handles.now (map global_line_value (take (c.loop-global.global-index + 1) c.args.globals.now)) c.args.store.now t a rs c.raw_value.new.store) (sym c.in_ok-extend_from_slice.ensures.items)
      (values_more g.H.GcHeap.KIND c.args.handles.now c.args.store.now t a (map global_line_value (take c.loop-global.global-index c.args.globals.now)) c.loop-global.raws.items c.loop-global.store c.raw_value.new.store found c.global-item.result.value (map global_line_value (take (c.loop-global.global-index + 1) c.args.globals.now)) c.in_ok-raw.raw (mapped_more global_line_value c.args.globals.now c.loop-global.global-index c.global-item.result c.loop-global-test.true c.global-item.is)
      (c.in_ok-raw.ensures.finds found.pushes.table a found.pushes.standing (fits c.loop-global.global-index c.global-item.result (item_found c.args.globals.now c.loop-global.global-index c.global-item.result c.loop-global-test.true c.global-item.is))));
  same = same_twice c.args.store.now c.loop-global.store c.raw_value.new.store c.loop-global.invariant.same c.raw_value.ensures.same;
}

pub returns-clause-finds : goal.returns-clause-finds
returns-clause-finds g c t a standing fits = subst (λ (vs : List ImageValue). FoundValues g.H.GcHeap.KIND c.args.handles.now vs c.args.store.now t a c.loop-global.raws.items c.loop-global.store) (ap (map global_line_value) (take_all c.loop-global.global-index c.args.globals.now c.loop-global-test.false)) (c.loop-global.invariant.goes t a standing fits)

pub returns-in_err-raw-clause-finds : goal.returns-in_err-raw-clause-finds
returns-in_err-raw-clause-finds g c t a standing fits =
    let found = c.loop-global.invariant.goes t a standing fits in
    err_matches c.from_residual-in_err-raw.result c.in_err-raw.field-0.0 (λ raws. FoundValues g.H.GcHeap.KIND c.args.handles.now (map global_line_value c.args.globals.now) c.args.store.now t a raws.items c.raw_value.new.store)
    (λ why. FailedValues g.H.GcHeap.KIND c.args.handles.now (map global_line_value c.args.globals.now) c.args.store.now t a why c.raw_value.new.store) c.from_residual-in_err-raw.ensures.1
    (values_failed g.H.GcHeap.KIND c.args.handles.now c.args.store.now t a (map global_line_value (take c.loop-global.global-index c.args.globals.now)) c.loop-global.raws.items c.loop-global.store c.raw_value.new.store found c.global-item.result.value (map global_line_value c.args.globals.now) c.in_err-raw.field-0.0 (mapped_part global_line_value c.args.globals.now c.loop-global.global-index c.global-item.result c.loop-global-test.true c.global-item.is) (c.in_err-raw.ensures.finds found.pushes.table a found.pushes.standing (fits c.loop-global.global-index c.global-item.result (item_found c.args.globals.now c.loop-global.global-index c.global-item.result c.loop-global-test.true c.global-item.is))))

pub returns-in_err-extend_from_slice-clause-finds : goal.returns-in_err-extend_from_slice-clause-finds
returns-in_err-extend_from_slice-clause-finds g c t a standing fits =
    let found = c.loop-global.invariant.goes t a standing fits in
    err_matches c.from_residual-in_err-extend_from_slice.result _ (λ raws. FoundValues g.H.GcHeap.KIND c.args.handles.now (map global_line_value c.args.globals.now) c.args.store.now t a raws.items c.raw_value.new.store)
    (λ why. FailedValues g.H.GcHeap.KIND c.args.handles.now (map global_line_value c.args.globals.now) c.args.store.now t a why c.raw_value.new.store) c.from_residual-in_err-extend_from_slice.ensures.1
    (values_memory g.H.GcHeap.KIND c.args.handles.now c.args.store.now t a (map global_line_value (take c.loop-global.global-index c.args.globals.now)) c.loop-global.raws.items c.loop-global.store c.raw_value.new.store found c.global-item.result.value (map global_line_value c.args.globals.now) c.in_ok-raw.raw (mapped_part global_line_value c.args.globals.now c.loop-global.global-index c.global-item.result c.loop-global-test.true c.global-item.is) (c.in_ok-raw.ensures.finds found.pushes.table a found.pushes.standing (fits c.loop-global.global-index c.global-item.result (item_found c.args.globals.now c.loop-global.global-index c.global-item.result c.loop-global-test.true c.global-item.is))))

pub returns-in_err-raw-clause-same : goal.returns-in_err-raw-clause-same
returns-in_err-raw-clause-same g c = same_twice c.args.store.now c.loop-global.store c.raw_value.new.store c.loop-global.invariant.same c.raw_value.ensures.same

pub returns-in_err-extend_from_slice-clause-same : goal.returns-in_err-extend_from_slice-clause-same
returns-in_err-extend_from_slice-clause-same g c = same_twice c.args.store.now c.loop-global.store c.raw_value.new.store c.loop-global.invariant.same c.raw_value.ensures.same
