use Rattle.std.proofs.Common.{◌≡◌, ◌+◌, ℕ, List, Some, Option, length, refl, sym, subst, arith, Vec, Global}
use Rattle.std.specs.List.{slice_get}
use Rattle.std.proofs.lemmas.Option.{slice_get_read}
use Rattle.gc_model.specs.Reach.{object_values}
use Rattle.gc_model.specs.Values.{Object}
use Rattle.gc_store.specs.Roots.{IsObject}
use Rattle.gc_paths.specs.Answers.{LacksRoots}
use Rattle.gc_paths.specs.Progress.{Basis, values_count}
use Rattle.gc_paths.proofs.Growing.{err_is}
use Rattle.gc_image.specs.declared.image.ImageValue.{ImageValue}
use Rattle.gc_image.specs.declared.image.ObjectLine.{ObjectLine}
use Rattle.gc_save_image.specs.Parts.{found_handles}
use Rattle.gc_save_image.specs.Progress.{ImageGoesOn, ImageProgress, SaysFirst, SaysObject}
use Rattle.gc_save_image.specs.Steps.{IsNumberedObject, IsWordsLine, TakesObjectLine}
use Rattle.gc_save_image.proofs.WasRead.{names_one, object_here, take_live}
use Rattle.gc_save_image.proofs.FirstValues.{reading_kept}
use Rattle.gc_save_image.proofs.ObjectKinds.{err_part, handle_at, number_inside, counted_here, words_taken}
use Rattle.gc_save_image.proofs.objects.take_words.Given as given
use Rattle.gc_save_image.proofs.objects.take_words.Goals as goal
use Rattle.gc_save_image.proofs.objects.take_words.Goals.{In_ok-words, After-index-handle}

pub take_values-requires : goal.take_values-requires
take_values-requires g c =
    let can = c.requires.can in
    record { can = can; count_is = counted_here g.H.GcHeap.KIND can.basis can.told can.count c.args.store.now (found_handles c.args.found.now) can.progress c.args.number can.object can.reading c.args.object c.requires.kind_is c.count_values-count.result c.count_values-count.ensures }

-- what is so when the values are taken
gone_on : (g : given.Over) (c : In_ok-words g) (b : Basis ℕ) (told : List ℕ) (start : ℕ) (o : Object ℕ) → ImageProgress g.H.GcHeap.KIND b told start c.args.store.now (found_handles c.args.found.now) → IsNumberedObject b told c.args.number o → IsObject (Some o) c.args.object
    → ImageGoesOn g.H.GcHeap.KIND b told (start + values_count (object_values o)) c.take_values.new.store (found_handles c.take_values.new.found) (λ then. SaysFirst then (length (object_values o)) (object_values o) c.in_ok-words.words.items)
gone_on g c b told start o progress reading kind_is =
    c.in_ok-words.ensures.takes b told start o progress reading
    (counted_here g.H.GcHeap.KIND b told start c.args.store.now (found_handles c.args.found.now) progress c.args.number o reading c.args.object kind_is c.count_values-count.result c.count_values-count.ensures)

pub index-handle-requires : goal.index-handle-requires
index-handle-requires g c =
    let before = (goal.at.index-handle-requires g c).In_ok-words in
    let can = c.requires.can in
    let goes = gone_on g before can.basis can.told can.count can.object can.progress can.reading c.requires.kind_is in
    let inside = number_inside g.H.GcHeap.KIND can.basis goes.told (can.count + values_count (object_values can.object)) c.take_values.new.store (found_handles c.take_values.new.found) goes.progress c.args.number can.object (reading_kept can.basis can.told goes.told c.args.number can.object goes.kept can.reading) in
    let counts = c.take_values.new.found.handles.ok.0 in
    omega (arith, inside, counts)

handle_there : (g : given.Over) (c : After-index-handle g) → slice_get c.take_values.new.found.handles.items c.args.number ≡ Some c.index-handle.result.now
handle_there g c =
    let before = (goal.at.After-index-handle g c).In_ok-words in
    let can = c.requires.can in
    let goes = gone_on g before can.basis can.told can.count can.object can.progress can.reading c.requires.kind_is in
    let inside = number_inside g.H.GcHeap.KIND can.basis goes.told (can.count + values_count (object_values can.object)) c.take_values.new.store (found_handles c.take_values.new.found) goes.progress c.args.number can.object (reading_kept can.basis can.told goes.told c.args.number can.object goes.kept can.reading) in
    slice_get_read c.take_values.new.found.handles.items (length c.take_values.new.found.handles.items) c.args.number c.index-handle.result.now refl inside c.index-handle.ensures

pub words_line-requires : goal.words_line-requires
words_line-requires g c =
    let at_handle = (goal.at.words_line-requires g c).After-index-handle in
    let before = (goal.at.words_line-requires g c).In_ok-words in
    let can = c.requires.can in
    let goes = gone_on g before can.basis can.told can.count can.object can.progress can.reading c.requires.kind_is in
    take_live g.H.GcHeap.KIND c.take_values.new.store (found_handles c.take_values.new.found) c.args.number
    (record { basis = can.basis; told = goes.told; count = can.count + values_count (object_values can.object); progress = goes.progress; object = can.object; reading = reading_kept can.basis can.told goes.told c.args.number can.object goes.kept can.reading })
    c.index-handle.result.now (handle_there g at_handle)

pub returns-in_err-words-clause-takes : goal.returns-in_err-words-clause-takes
returns-in_err-words-clause-takes g c b told start o progress reading kind_is declared none =
    subst (λ r. TakesObjectLine g.H.GcHeap.KIND b told start o r c.take_values.new.store (found_handles c.take_values.new.found)) (sym (err_is c.from_residual.result c.in_err-words.field-0.0 c.from_residual.ensures.1))
    (err_part g.H.GcHeap.KIND b
    (λ (words : Vec ImageValue Global). ImageGoesOn g.H.GcHeap.KIND b told (start + values_count (object_values o)) c.take_values.new.store (found_handles c.take_values.new.found) (λ then. SaysFirst then (length (object_values o)) (object_values o) words.items))
    (λ (l : ObjectLine). ImageGoesOn g.H.GcHeap.KIND b told (start + values_count (object_values o)) c.take_values.new.store (found_handles c.take_values.new.found) (λ then. SaysObject b.table.types then o l))
    (LacksRoots b.table (start + values_count (object_values o))) c.in_err-words.field-0.0 c.take_values.new.store
    (c.in_err-words.ensures.takes b told start o progress reading
    (counted_here g.H.GcHeap.KIND b told start c.args.store.now (found_handles c.args.found.now) progress c.args.number o reading c.args.object kind_is c.count_values-count.result c.count_values-count.ensures)))

pub returns-clause-takes : goal.returns-clause-takes
returns-clause-takes g c b told start o progress reading kind_is declared none =
    let at_handle = (goal.at.returns-clause-takes g c).After-index-handle in
    let before = (goal.at.returns-clause-takes g c).In_ok-words in
    let goes = gone_on g before b told start o progress reading kind_is in
    let total : ℕ = start + values_count (object_values o) in
    let then = reading_kept b told goes.told c.args.number o goes.kept reading in
    let here = object_here g.H.GcHeap.KIND b goes.told total c.take_values.new.store (found_handles c.take_values.new.found) goes.progress c.args.number o then c.index-handle.result.now (handle_there g at_handle) in
    let h = handle_at g.H.GcHeap.KIND b told start c.args.store.now (found_handles c.args.found.now) progress c.args.number o reading in
    words_taken g.H.GcHeap.KIND b told start c.args.store.now (found_handles c.args.found.now) progress c.args.number o reading h.0 h.1 c.args.object kind_is declared none total c.take_values.new.store (found_handles c.take_values.new.found)
    c.in_ok-words.words.items c.words_line.result goes
    (subst (λ (x : Option (Object ℕ)). IsWordsLine x c.in_ok-words.words.items c.words_line.result) here
    (c.words_line.ensures goes.progress.holds.now then.position (b.place, goes.progress.holds.there.0)
    (names_one g.H.GcHeap.KIND b goes.told total c.take_values.new.store (found_handles c.take_values.new.found) goes.progress c.args.number o then c.index-handle.result.now (handle_there g at_handle))
    (subst (λ (x : Option (Object ℕ)). IsObject x c.args.object) (sym here) kind_is)))
