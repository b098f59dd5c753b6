use Rattle.std.proofs.Common.{◌≡◌, ◌+◌, ℕ, List, Result, map, length, refl, sym, ap, ◌∙◌, subst, arith}
use Rattle.std.specs.Prelude.{sum_by}
use Rattle.gc_types.specs.Declarations.{Declaration}
use Rattle.gc_values.specs.declared.root.GcRootIndex.{GcRootIndex}
use Rattle.gc_values.specs.declared.root.RawValue.{RawValue}
use Rattle.gc_image.specs.Well.{AreWellObjects}
use Rattle.gc_load_image.specs.declared.fault.LoadFault.{LoadFault}
use Rattle.gc_load_image.specs.Loads.{global_present}
use Rattle.gc_load_image.specs.Stages.{Complete, FailedValues, FillsStore, FoundValues, HeldStand, Standing, Writing, global_line_value, line_roots}
use Rattle.gc_load_image.proofs.FillLemmas.{are_slots, filled, globals_stop, held_count, held_stand, part_stops}
use Rattle.gc_load_image.proofs.LateLemmas.{writing_start}
use Rattle.gc_load_image.proofs.PushedRoots.{same_twice}
use Rattle.gc_load_image.proofs.TypeLemmas.{err_is}
use Rattle.gc_load_image.proofs.load.fill.Given.{Over}
use Rattle.gc_load_image.proofs.load.fill.Goals.{In_ok-held}
use Rattle.gc_load_image.proofs.load.fill.Goals as goal

complete_of : (g : Over) (c : In_ok-held g) → Complete g.H.GcHeap.KIND c.args.objects.now c.in_ok-handles.handles.items c.write_late.new.store
complete_of g c = subst (λ (hs : List GcRootIndex). Complete g.H.GcHeap.KIND c.args.objects.now hs c.write_late.new.store) c.as_slice.ensures.value c.write_late.ensures.complete

found_of : (g : Over) (c : In_ok-held g) → FoundValues g.H.GcHeap.KIND c.in_ok-handles.handles.items (map global_line_value c.args.globals.now) c.write_late.new.store (complete_of g c).table (complete_of g c).account c.in_ok-held.held.items c.global_values.new.store
found_of g c =
    let complete = complete_of g c in
    subst (λ (hs : List GcRootIndex). FoundValues g.H.GcHeap.KIND hs (map global_line_value c.args.globals.now) c.write_late.new.store complete.table complete.account c.in_ok-held.held.items c.global_values.new.store) c.as_slice-2.ensures.value
    (c.in_ok-held.ensures.finds complete.table complete.account
    (subst (λ (hs : List GcRootIndex). Standing g.H.GcHeap.KIND hs c.write_late.new.store complete.table complete.account) (sym c.as_slice-2.ensures.value) complete.standing) c.requires.global_range)

pub write_late-requires-clause-well : goal.write_late-requires-clause-well
write_late-requires-clause-well g c = subst (λ (ts : List Declaration). AreWellObjects ts c.args.objects.now) (sym c.in_ok-handles.ensures.makes.goes.types) c.requires.objects

pub write_late-requires-clause-writing : goal.write_late-requires-clause-writing
write_late-requires-clause-writing g c =
    subst (λ (hs : List GcRootIndex). Writing g.H.GcHeap.KIND c.args.objects.now hs 0 0 c.make_objects.new.store) (sym c.as_slice.ensures.value)
    (writing_start g.H.GcHeap.KIND c.args.objects.now c.in_ok-handles.handles.items c.make_objects.new.store c.in_ok-handles.ensures.makes.all c.in_ok-handles.ensures.makes.making)

pub set_globals-requires-clause-slots : goal.set_globals-requires-clause-slots
set_globals-requires-clause-slots g c = are_slots (length c.args.objects.now) c.args.globals.now c.requires.globals

pub set_globals-requires-clause-all : goal.set_globals-requires-clause-all
set_globals-requires-clause-all g c =
    let at = (goal.at.set_globals-requires-clause-all g c).In_ok-held in
    let complete = complete_of g at in
    ap length c.as_slice-3.ensures.value
    ∙ held_count g.H.GcHeap.KIND c.in_ok-handles.handles.items c.args.globals.now c.write_late.new.store complete.table complete.account c.in_ok-held.held.items c.global_values.new.store (found_of g at)

pub returns-clause-fills : goal.returns-clause-fills
returns-clause-fills g c =
    let at = (goal.at.returns-clause-fills g c).In_ok-held in
    let complete = complete_of g at in
    let found = found_of g at in
    let stand : HeldStand c.global_values.new.store found.pushes.table c.as_slice-3.result.now c.args.globals.now =
    subst (λ (rs : List RawValue). HeldStand c.global_values.new.store found.pushes.table rs c.args.globals.now) (sym c.as_slice-3.ensures.value)
    (held_stand g.H.GcHeap.KIND c.in_ok-handles.handles.items (length c.args.objects.now) c.args.globals.now c.write_late.new.store complete.table complete.account c.in_ok-held.held.items c.global_values.new.store c.in_ok-handles.ensures.makes.all c.requires.globals found) in
    filled g.H.GcHeap.KIND c.args.objects.now c.args.globals.now (g.L.ResourceLimiter.limits c.args.limiter.now) (g.L.ResourceLimiter.limits c.make_objects.new.limiter) c.args.store.now c.make_objects.new.store c.write_late.new.store c.in_ok-handles.handles.items c.in_ok-handles.ensures.makes
    complete c.write_late.ensures.goes c.in_ok-held.held.items c.global_values.new.store c.set_globals.new.store found
    (c.set_globals.ensures.sets found.pushes.table complete.account found.pushes.standing.holds stand found.pushes.standing.unset)
    c.in-Ok.count (count_is g c)
  where
    count_is : (g : Over) (c : goal.After-drop-handles-2 g) → c.in-Ok.count ≡ length c.in_ok-handles.handles.items
    count_is g c = (let e = c.in-Ok.ensures.1 in let f = c.len.ensures in let h = c.in_ok-handles.handles.ok.0 in omega (arith, e, f, h))

pub returns-in_err-handles-clause-fills : goal.returns-in_err-handles-clause-fills
returns-in_err-handles-clause-fills g c =
    let limits = g.L.ResourceLimiter.limits c.args.limiter.now in
    let limits' = g.L.ResourceLimiter.limits c.make_objects.new.limiter in
    subst (λ (r : Result ℕ LoadFault). FillsStore g.H.GcHeap.KIND c.args.objects.now c.args.globals.now limits limits' c.args.store.now r c.make_objects.new.store) (sym (err_is c.from_residual.result c.in_err-handles.field-0.0 c.from_residual.ensures.1))
    (part_stops g.H.GcHeap.KIND c.args.store.now.types c.args.objects.now limits limits' (sum_by line_roots c.args.objects.now) (sum_by line_roots c.args.objects.now + sum_by global_present c.args.globals.now) c.args.store.now c.in_err-handles.field-0.0 c.make_objects.new.store
    (omega arith) refl c.in_err-handles.ensures.makes)

pub returns-in_err-held-clause-fills : goal.returns-in_err-held-clause-fills
returns-in_err-held-clause-fills g c =
    let limits = g.L.ResourceLimiter.limits c.args.limiter.now in
    let limits' = g.L.ResourceLimiter.limits c.make_objects.new.limiter in
    let complete : Complete g.H.GcHeap.KIND c.args.objects.now c.in_ok-handles.handles.items c.write_late.new.store = subst (λ (hs : List GcRootIndex). Complete g.H.GcHeap.KIND c.args.objects.now hs c.write_late.new.store) c.as_slice.ensures.value c.write_late.ensures.complete in
    let failed : FailedValues g.H.GcHeap.KIND c.in_ok-handles.handles.items (map global_line_value c.args.globals.now) c.write_late.new.store complete.table complete.account c.in_err-held.field-0.0 c.global_values.new.store =
    subst (λ (hs : List GcRootIndex). FailedValues g.H.GcHeap.KIND hs (map global_line_value c.args.globals.now) c.write_late.new.store complete.table complete.account c.in_err-held.field-0.0 c.global_values.new.store) c.as_slice-2.ensures.value
    (c.in_err-held.ensures.finds complete.table complete.account
    (subst (λ (hs : List GcRootIndex). Standing g.H.GcHeap.KIND hs c.write_late.new.store complete.table complete.account) (sym c.as_slice-2.ensures.value) complete.standing) c.requires.global_range) in
    subst (λ (r : Result ℕ LoadFault). FillsStore g.H.GcHeap.KIND c.args.objects.now c.args.globals.now limits limits' c.args.store.now r c.global_values.new.store) (sym (err_is c.from_residual-in_err-held.result c.in_err-held.field-0.0 c.from_residual-in_err-held.ensures.1))
    (globals_stop g.H.GcHeap.KIND c.args.objects.now c.args.globals.now limits limits' c.args.store.now c.make_objects.new.store c.write_late.new.store c.in_ok-handles.handles.items c.in_ok-handles.ensures.makes complete c.write_late.ensures.goes
    c.in_err-held.field-0.0 c.global_values.new.store failed)

pub returns-in_err-held-clause-same : goal.returns-in_err-held-clause-same
returns-in_err-held-clause-same g c =
    same_twice c.args.store.now c.make_objects.new.store c.global_values.new.store c.make_objects.ensures.same
    (same_twice c.make_objects.new.store c.write_late.new.store c.global_values.new.store c.write_late.ensures.same c.global_values.ensures.same)

pub returns-clause-same : goal.returns-clause-same
returns-clause-same g c =
    same_twice c.args.store.now c.global_values.new.store c.set_globals.new.store
    (same_twice c.args.store.now c.make_objects.new.store c.global_values.new.store c.make_objects.ensures.same
    (same_twice c.make_objects.new.store c.write_late.new.store c.global_values.new.store c.write_late.ensures.same c.global_values.ensures.same)) c.set_globals.ensures.same
