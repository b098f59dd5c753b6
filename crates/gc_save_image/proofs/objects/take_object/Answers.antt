use Rattle.std.proofs.Common.{◌≡◌, ℕ, List, Some, Option, length, refl, subst, arith}
use Rattle.std.specs.List.{slice_get}
use Rattle.std.proofs.lemmas.Option.{slice_get_read}
use Rattle.gc_model.specs.Values.{Object, at}
use Rattle.gc_store.specs.Roots.{IsObject}
use Rattle.gc_paths.specs.Progress.{Basis}
use Rattle.gc_save_image.specs.Parts.{found_handles}
use Rattle.gc_save_image.specs.Progress.{ImageProgress}
use Rattle.gc_save_image.specs.Steps.{IsNumberedObject}
use Rattle.gc_save_image.proofs.WasRead.{names_one, object_here, take_inside}
use Rattle.gc_save_image.proofs.objects.take_object.Given as given
use Rattle.gc_save_image.proofs.objects.take_object.Goals as goal
use Rattle.gc_save_image.proofs.objects.take_object.Goals.{After-index-handle, In-Ok}

pub index-handle-requires : goal.index-handle-requires
index-handle-requires g c =
    let inside = take_inside g.H.GcHeap.KIND c.args.store.now (found_handles c.args.found.now) c.args.number c.requires in
    let counts = c.args.found.now.handles.ok.0 in
    omega (arith, inside, counts)

handle_there : (g : given.Over) (c : After-index-handle g) → slice_get c.args.found.now.handles.items c.args.number ≡ Some c.index-handle.result.now
handle_there g c =
    let inside = take_inside g.H.GcHeap.KIND c.args.store.now (found_handles c.args.found.now) c.args.number c.requires in
    slice_get_read c.args.found.now.handles.items (length c.args.found.now.handles.items) c.args.number c.index-handle.result.now refl inside c.index-handle.ensures

-- what the store says is what the object is
kind_is : (g : given.Over) (c : In-Ok g) (b : Basis ℕ) (told : List ℕ) (start : ℕ) (o : Object ℕ) → ImageProgress g.H.GcHeap.KIND b told start c.args.store.now (found_handles c.args.found.now) → IsNumberedObject b told c.args.number o → IsObject (Some o) c.in-Ok.object
kind_is g c b told start o progress reading =
    let before = (goal.at.In-Ok g c).After-index-handle in
    subst (λ (x : Option (Object ℕ)). IsObject x c.in-Ok.object)
    (object_here g.H.GcHeap.KIND b told start c.args.store.now (found_handles c.args.found.now) progress c.args.number o reading c.index-handle.result.now (handle_there g before))
    (c.in-Ok.ensures.live progress.holds.now (at reading.position) (b.place, progress.holds.there.0)
    (names_one g.H.GcHeap.KIND b told start c.args.store.now (found_handles c.args.found.now) progress c.args.number o reading c.index-handle.result.now (handle_there g before)))

pub take_kind-requires : goal.take_kind-requires
take_kind-requires g c =
    let arm = (goal.at.take_kind-requires g c).In-Ok in
    record { can = c.requires; kind_is = kind_is g arm c.requires.basis c.requires.told c.requires.count c.requires.object c.requires.progress c.requires.reading }

pub unreachable-requires : goal.unreachable-requires
unreachable-requires g c =
    let before = (goal.at.unreachable-requires g c).After-index-handle in
    let can = c.requires in
    c.in-Err.ensures.live can.progress.holds.now (at can.reading.position) (can.basis.place, can.progress.holds.there.0)
    (names_one g.H.GcHeap.KIND can.basis can.told can.count c.args.store.now (found_handles c.args.found.now) can.progress c.args.number can.object can.reading c.index-handle.result.now (handle_there g before))

pub returns-clause-takes : goal.returns-clause-takes
returns-clause-takes g c b told start o progress reading =
    let arm = (goal.at.returns-clause-takes g c).In-Ok in
    c.take_kind.ensures.takes b told start o progress reading (kind_is g arm b told start o progress reading)
