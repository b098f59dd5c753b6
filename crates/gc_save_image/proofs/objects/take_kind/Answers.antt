use Rattle.std.proofs.Common.{◌≡◌, ℕ, List, Some, Ok, Err, Result, length, refl, sym, subst, arith}
use Rattle.std.specs.List.{slice_get}
use Rattle.std.proofs.lemmas.Option.{slice_get_read}
use Rattle.gc_model.specs.Values.{Object}
use Rattle.gc_model.specs.Table.{Table}
use Rattle.gc_model.specs.Holds.{HoldsTable}
use Rattle.gc_model.specs.Stores.{StoreView}
use Rattle.gc_types.specs.declared.kind.Layouts.{Layouts}
use Rattle.std.specs.Prelude.{IfOk, OnErr}
use Rattle.gc_image.specs.declared.image.ObjectLine.{ObjectLine}
use Rattle.gc_save_image.specs.declared.collect_fault.CollectFault.{CollectFault}
use Rattle.gc_save_image.specs.declared.collect_fault.CollectFault.TheVariants as fault
use Rattle.gc_paths.specs.Progress.{Basis}
use Rattle.gc_save_image.specs.Parts.{FoundHandles, found_handles}
use Rattle.gc_save_image.specs.Progress.{ImageProgress}
use Rattle.gc_save_image.specs.Steps.{IsBytesLine, TakesObjectLine}
use Rattle.gc_save_image.proofs.WasRead.{take_inside}
use Rattle.gc_save_image.proofs.ObjectKinds.{can_copy, bytes_taken}
use Rattle.gc_save_image.proofs.objects.take_kind.Given as given
use Rattle.gc_save_image.proofs.objects.take_kind.Goals as goal
use Rattle.gc_save_image.proofs.objects.take_kind.Goals.{After-index-handle}

pub index-handle-requires : goal.index-handle-requires
index-handle-requires g c =
    let inside = take_inside g.H.GcHeap.KIND c.args.store.now (found_handles c.args.found.now) c.args.number c.requires.can in
    let counts = c.args.found.now.handles.ok.0 in
    omega (arith, inside, counts)

handle_there : (g : given.Over) (c : After-index-handle g) → slice_get c.args.found.now.handles.items c.args.number ≡ Some c.index-handle.result.now
handle_there g c =
    let inside = take_inside g.H.GcHeap.KIND c.args.store.now (found_handles c.args.found.now) c.args.number c.requires.can in
    slice_get_read c.args.found.now.handles.items (length c.args.found.now.handles.items) c.args.number c.index-handle.result.now refl inside c.index-handle.ensures

bytes_stop : (layouts : Layouts) (b : Basis ℕ) (told : List ℕ) (start : ℕ) (o : Object ℕ) (s : StoreView ℕ) (f : FoundHandles) → ImageProgress layouts b told start s f → (why : CollectFault) → ◌≡◌ {A = Result ObjectLine CollectFault} (Err why) (Err fault.Memory)
    → TakesObjectLine layouts b told start o (Err why) s f
bytes_stop layouts b told start o s f progress why e = subst (λ (r : Result ObjectLine CollectFault). TakesObjectLine layouts b told start o r s f) (sym e) (start, progress.holds)

pub bytes_line-requires : goal.bytes_line-requires
bytes_line-requires g c =
    let before = (goal.at.bytes_line-requires g c).After-index-handle in
    let can = c.requires.can in
    can_copy g.H.GcHeap.KIND can.basis can.told can.count c.args.store.now (found_handles c.args.found.now) can.progress c.args.number can.object can.reading c.index-handle.result.now (handle_there g before) c.args.object c.requires.kind_is
    c.in-Some.array c.in-Some.ensures.finds

pub returns-in-Some-clause-takes : goal.returns-in-Some-clause-takes
returns-in-Some-clause-takes g c b told start o progress reading kind_is =
    let before = (goal.at.returns-in-Some-clause-takes g c).After-index-handle in
    elim c.bytes_line.result as (λ r. IfOk r (λ l. (t : Table ℕ) → HoldsTable g.H.GcHeap.KIND c.args.store.now t → IsBytesLine c.args.store.now t c.index-handle.result.now c.in-Some.array.0 l) → OnErr r (r ≡ Err fault.Memory)
    → TakesObjectLine g.H.GcHeap.KIND b told start o r c.args.store.now (found_handles c.args.found.now)) [
      | Ok l ↦ λ ok err. bytes_taken g.H.GcHeap.KIND b told start c.args.store.now (found_handles c.args.found.now) progress c.args.number o reading c.index-handle.result.now (handle_there g before) c.args.object kind_is
          c.in-Some.array c.in-Some.ensures.finds c.in-Some.ensures.declared l (ok progress.holds.now (b.place, progress.holds.there.0))
      | Err why ↦ λ ok err. bytes_stop g.H.GcHeap.KIND b told start o c.args.store.now (found_handles c.args.found.now) progress why err
    ] c.bytes_line.ensures.ok c.bytes_line.ensures.err

pub take_words-requires : goal.take_words-requires
take_words-requires g c = c.requires

pub returns-in-None-clause-takes : goal.returns-in-None-clause-takes
returns-in-None-clause-takes g c b told start o progress reading kind_is =
    c.take_words.ensures.takes b told start o progress reading kind_is c.in-None.ensures.declared c.in-None.ensures.finds
