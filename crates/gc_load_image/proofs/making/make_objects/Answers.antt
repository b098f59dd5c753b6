use Rattle.std.proofs.Common.{◌≡◌, ◌+◌, List, length, sym, ap, ◌∙◌, subst, arith}
use Rattle.std.specs.Prelude.{sum_by}
use Rattle.std.specs.List.{slice_get}
use Rattle.gc_types.specs.Declarations.{Declaration}
use Rattle.gc_values.specs.declared.root.GcRootIndex.{GcRootIndex}
use Rattle.gc_image.specs.Well.{AreWellObjects}
use Rattle.gc_image.proofs.ElementLemmas.{item_found}
use Rattle.gc_load_image.specs.Stages.{MadeAll, MadeNext, Making, Stops, line_roots}
use Rattle.gc_load_image.proofs.MakingLoop.{MadeFront, begun_stops, front_all, front_memory, front_more, front_none, front_stops}
use Rattle.gc_load_image.proofs.PushedRoots.{same_itself, same_twice}
use Rattle.gc_load_image.proofs.TypeLemmas.{err_matches}
use Rattle.gc_load_image.proofs.making.make_objects.Given.{Over}
use Rattle.gc_load_image.proofs.making.make_objects.Goals.{In_ok-handle}
use Rattle.gc_load_image.proofs.making.make_objects.Goals as goal

pub loop-line-init : goal.loop-line-init
loop-line-init g c = record {
  front = subst (λ (hs : List GcRootIndex). MadeFront g.H.GcHeap.KIND c.args.objects.now (g.L.ResourceLimiter.limits c.args.limiter.now) (g.L.ResourceLimiter.limits c.args.limiter.now) c.args.store.now hs 0 c.args.store.now) (sym c.in_ok-handles.ensures.items)
      (front_none g.H.GcHeap.KIND c.args.objects.now (g.L.ResourceLimiter.limits c.args.limiter.now) c.args.store.now c.requires.making);
  same = same_itself c.args.store.now;
}

-- the next one, by the handles so far
next_of : (g : Over) (c : In_ok-handle g) → MadeNext g.H.GcHeap.KIND c.args.objects.now c.loop-line.handles.items c.line-item.result (g.L.ResourceLimiter.limits c.loop-line.limiter) (g.L.ResourceLimiter.limits c.make_object.new.limiter) c.loop-line.store c.in_ok-handle.handle c.make_object.new.store
next_of g c =
    subst (λ (hs : List GcRootIndex). MadeNext g.H.GcHeap.KIND c.args.objects.now hs c.line-item.result (g.L.ResourceLimiter.limits c.loop-line.limiter) (g.L.ResourceLimiter.limits c.make_object.new.limiter) c.loop-line.store c.in_ok-handle.handle c.make_object.new.store)
    c.as_slice.ensures.value c.in_ok-handle.ensures.makes

pub loop-line-preserved : goal.loop-line-preserved
loop-line-preserved g c = record {
  front = subst (λ (hs : List GcRootIndex). MadeFront g.H.GcHeap.KIND c.args.objects.now (g.L.ResourceLimiter.limits c.args.limiter.now) (g.L.ResourceLimiter.limits c.make_object.new.limiter) c.args.store.now hs (c.loop-line.line-index + 1) c.make_object.new.store) (sym c.in_ok-extend_from_slice.ensures.items)
      (front_more g.H.GcHeap.KIND c.args.objects.now (g.L.ResourceLimiter.limits c.args.limiter.now) c.args.store.now (g.L.ResourceLimiter.limits c.loop-line.limiter) c.loop-line.handles.items c.loop-line.line-index c.loop-line.store c.loop-line.invariant.front c.line-item.result
      (item_found c.args.objects.now c.loop-line.line-index c.line-item.result c.loop-line-test.true c.line-item.is)
      (g.L.ResourceLimiter.limits c.make_object.new.limiter) c.in_ok-handle.handle c.make_object.new.store (next_of g (goal.at.loop-line-preserved g c).In_ok-handle));
  same = same_twice c.args.store.now c.loop-line.store c.make_object.new.store c.loop-line.invariant.same c.make_object.ensures.same;
}

pub make_object-requires-clause-here : goal.make_object-requires-clause-here
make_object-requires-clause-here g c =
    let count : length c.as_slice.result.now ≡ c.loop-line.line-index = ap length c.as_slice.ensures.value ∙ c.loop-line.invariant.front.count in
    ap (slice_get c.args.objects.now) count ∙ item_found c.args.objects.now c.loop-line.line-index c.line-item.result c.loop-line-test.true c.line-item.is

pub make_object-requires-clause-well : goal.make_object-requires-clause-well
make_object-requires-clause-well g c = subst (λ (ts : List Declaration). AreWellObjects ts c.args.objects.now) (sym c.loop-line.invariant.front.goes.types) c.requires.well

pub make_object-requires-clause-making : goal.make_object-requires-clause-making
make_object-requires-clause-making g c = subst (λ (hs : List GcRootIndex). Making g.H.GcHeap.KIND c.args.objects.now hs c.loop-line.store) (sym c.as_slice.ensures.value) c.loop-line.invariant.front.making

pub returns-clause-makes : goal.returns-clause-makes
returns-clause-makes g c =
    front_all g.H.GcHeap.KIND c.args.objects.now (g.L.ResourceLimiter.limits c.args.limiter.now) c.args.store.now (g.L.ResourceLimiter.limits c.loop-line.limiter) c.loop-line.handles.items c.loop-line.line-index c.loop-line.store
    (let past = c.loop-line-test.false in let within = c.loop-line.auto.line-index-end in omega (arith, past, within)) c.loop-line.invariant.front

pub returns-in_err-handle-clause-makes : goal.returns-in_err-handle-clause-makes
returns-in_err-handle-clause-makes g c =
    err_matches c.from_residual-in_err-handle.result c.in_err-handle.field-0.0
    (λ handles. MadeAll g.H.GcHeap.KIND c.args.objects.now (g.L.ResourceLimiter.limits c.args.limiter.now) (g.L.ResourceLimiter.limits c.make_object.new.limiter) c.args.store.now handles.items c.make_object.new.store)
    (λ why. Stops g.H.GcHeap.KIND c.args.store.now.types c.args.objects.now (g.L.ResourceLimiter.limits c.args.limiter.now) (g.L.ResourceLimiter.limits c.make_object.new.limiter) (sum_by line_roots c.args.objects.now) c.args.store.now why c.make_object.new.store)
    c.from_residual-in_err-handle.ensures.1
    (front_stops g.H.GcHeap.KIND c.args.objects.now (g.L.ResourceLimiter.limits c.args.limiter.now) c.args.store.now (g.L.ResourceLimiter.limits c.loop-line.limiter) c.loop-line.handles.items c.loop-line.line-index c.loop-line.store c.loop-line.invariant.front c.line-item.result
    (item_found c.args.objects.now c.loop-line.line-index c.line-item.result c.loop-line-test.true c.line-item.is)
    (g.L.ResourceLimiter.limits c.make_object.new.limiter) c.in_err-handle.field-0.0 c.make_object.new.store c.in_err-handle.ensures.makes)

pub returns-in_err-extend_from_slice-clause-makes : goal.returns-in_err-extend_from_slice-clause-makes
returns-in_err-extend_from_slice-clause-makes g c =
    err_matches c.from_residual-in_err-extend_from_slice.result _
    (λ handles. MadeAll g.H.GcHeap.KIND c.args.objects.now (g.L.ResourceLimiter.limits c.args.limiter.now) (g.L.ResourceLimiter.limits c.make_object.new.limiter) c.args.store.now handles.items c.make_object.new.store)
    (λ why. Stops g.H.GcHeap.KIND c.args.store.now.types c.args.objects.now (g.L.ResourceLimiter.limits c.args.limiter.now) (g.L.ResourceLimiter.limits c.make_object.new.limiter) (sum_by line_roots c.args.objects.now) c.args.store.now why c.make_object.new.store)
    c.from_residual-in_err-extend_from_slice.ensures.1
    (front_memory g.H.GcHeap.KIND c.args.objects.now (g.L.ResourceLimiter.limits c.args.limiter.now) c.args.store.now (g.L.ResourceLimiter.limits c.loop-line.limiter) c.loop-line.handles.items c.loop-line.line-index c.loop-line.store c.loop-line.invariant.front c.line-item.result
    (item_found c.args.objects.now c.loop-line.line-index c.line-item.result c.loop-line-test.true c.line-item.is)
    (g.L.ResourceLimiter.limits c.make_object.new.limiter) c.in_ok-handle.handle c.make_object.new.store (next_of g (goal.at.returns-in_err-extend_from_slice-clause-makes g c).In_ok-handle))

pub returns-in_err-handles-clause-makes : goal.returns-in_err-handles-clause-makes
returns-in_err-handles-clause-makes g c =
    err_matches c.from_residual.result _
    (λ handles. MadeAll g.H.GcHeap.KIND c.args.objects.now (g.L.ResourceLimiter.limits c.args.limiter.now) (g.L.ResourceLimiter.limits c.args.limiter.now) c.args.store.now handles.items c.args.store.now)
    (λ why. Stops g.H.GcHeap.KIND c.args.store.now.types c.args.objects.now (g.L.ResourceLimiter.limits c.args.limiter.now) (g.L.ResourceLimiter.limits c.args.limiter.now) (sum_by line_roots c.args.objects.now) c.args.store.now why c.args.store.now)
    c.from_residual.ensures.1
    (begun_stops g.H.GcHeap.KIND c.args.objects.now (g.L.ResourceLimiter.limits c.args.limiter.now) c.args.store.now c.requires.making)

pub returns-in_err-handle-clause-same : goal.returns-in_err-handle-clause-same
returns-in_err-handle-clause-same g c = same_twice c.args.store.now c.loop-line.store c.make_object.new.store c.loop-line.invariant.same c.make_object.ensures.same

pub returns-in_err-extend_from_slice-clause-same : goal.returns-in_err-extend_from_slice-clause-same
returns-in_err-extend_from_slice-clause-same g c = same_twice c.args.store.now c.loop-line.store c.make_object.new.store c.loop-line.invariant.same c.make_object.ensures.same
