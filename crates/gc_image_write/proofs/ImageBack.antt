-- A table has one image whose objects stand in the order that the rule gives.
use Rattle.std.proofs.Common.{◌≡◌, ℕ, ◌-◌, ◌<◌, suc, zero, true, List, [], ◌∷◌, length, map, Option, Some, sym, ap, subst, ◌∙◌, arith}
use Rattle.std.specs.List.{AllByRecursion, filter_map, range_with_len, slice_get}
use Rattle.std.specs.Option.{option_map}
use Rattle.std.proofs.lemmas.Option.{none-some, same_Some, slice_get-map, slice_get_within}
use Rattle.gc_types.specs.declared.value.StorageType.{StorageType}
use Rattle.gc_types.specs.Declarations.{Declaration}
use Rattle.gc_view.specs.Reach.{by_start}
use Rattle.gc_model.specs.Fits.{fits}
use Rattle.gc_model.specs.Reach.{slot_references}
use Rattle.gc_model.specs.Table.{Table, Slot}
use Rattle.gc_model.specs.Values.{Reference, null, small, at, reference, Object}
use Rattle.gc_model.proofs.Members.{contains_get, get_contains}
use Rattle.gc_image.specs.declared.image.GlobalLine.{GlobalLine}
use Rattle.gc_image.specs.declared.image.ImageReference.TheVariants as image_reference
use Rattle.gc_image.specs.declared.image.ImageValue.{ImageValue}
use Rattle.gc_image.specs.declared.image.ImageValue.TheVariants as value
use Rattle.gc_image.specs.declared.image.ObjectLine.{ObjectLine}
use Rattle.gc_image.specs.Images.{Images, IsGlobal, placed_object}
use Rattle.gc_image.specs.Parts.{ImageParts}
use Rattle.gc_image.specs.Text.{FitsImage, FitsObject}
use Rattle.gc_image.specs.Well.{GlobalHolds, as_object, as_value, line_values, number_named}
use Rattle.gc_image.proofs.AlikeLemmas.{named_below, number_of}
use Rattle.gc_image_write.specs.Graphs.{graph_of, held_by, named_in, values_in}
use Rattle.gc_image_write.specs.Order.{AreClosed, early_in}
use Rattle.gc_image_write.specs.Renaming.{AreAllReached, IsWithin}
use Rattle.gc_image_write.specs.Visiting.{Graph, IsVisited}
use Rattle.gc_image_write.proofs.GlobalBack.{held_back, lines_back, lines_one, reference_position, slot_positions}
use Rattle.gc_image_write.proofs.GraphLemmas.{lines_reached, lines_within}
use Rattle.gc_image_write.proofs.LineBack.{back_line, line_early, line_named, object_back, positions_early, positions_named}
use Rattle.gc_image_write.proofs.PickLemmas.{from_filter, into_filter, map_back, place_one}
use Rattle.gc_image_write.proofs.RenameLemmas.{renamed_element}
use Rattle.gc_image_write.proofs.WordLemmas.{element}

-- the number that a value which fits names is that of an object
fit_below : (types : List Declaration) (lines : List ObjectLine) (ty : StorageType) (v : ImageValue) (n : ℕ) → fits types (map as_object lines) ty (as_value v) ≡ true → number_named v ≡ Some n → n < length lines
fit_below types lines ty (value.Ref class (image_reference.Object m)) n fit named =
    subst (λ k. k < length lines) (same_Some m n named) (named_below types lines class m ty fit)
fit_below types lines ty (value.Ref class image_reference.Null) n fit named = absurd (none-some n named)
fit_below types lines ty (value.Ref class (image_reference.Small k)) n fit named = absurd (none-some n named)
fit_below types lines ty (value.I32 k) n fit named = absurd (none-some n named)
fit_below types lines ty (value.I64 k) n fit named = absurd (none-some n named)
fit_below types lines ty (value.F32 k) n fit named = absurd (none-some n named)
fit_below types lines ty (value.F64 k) n fit named = absurd (none-some n named)
fit_below types lines ty (value.V128 k) n fit named = absurd (none-some n named)

-- each of a list
each_of_all : {A : Type 0} (P : A → Type 0) (xs : List A) → AllByRecursion P xs → (n : ℕ) (x : A) → slice_get xs n ≡ Some x → P x
each_of_all P [] all n x there = absurd (none-some x there)
each_of_all P (y ∷ ys) all zero x there = subst P (same_Some y x there) all.0
each_of_all P (y ∷ ys) all (suc n) x there = each_of_all P ys all.1 n x there

at_position : (r : Reference) (p : ℕ) → reference_position r ≡ Some p → r ≡ at p
at_position null p is = absurd (none-some p is)
at_position (small n) p is = absurd (none-some p is)
at_position (at q) p is = ap at (same_Some q p is)

-- one image of a table
module _ (t : Table ℕ) (image : ImageParts) (is : Images t image) (fit : FitsImage image) where
  abbrev pub count : ℕ
  count = length image.objects

  abbrev pub back : ℕ → ℕ
  back p = number_of is.positions p

  abbrev pub graph : Graph
  graph = graph_of is.well.types image.objects image.globals

  pub there : (n : ℕ) → n < count → slice_get is.positions n ≡ Some (is.position n)
  there n low =
      let numbered = is.numbered in
      let p = element is.positions n (omega (arith, low, numbered)) in p.1 ∙ ap Some (sym (is.position_is n p.0 p.1))

  pub back_position : (n : ℕ) → n < count → back (is.position n) ≡ n
  back_position n low = place_one is.positions n (is.position n) is.all.distinct (there n low)

  pub reached_position : (n : ℕ) → n < count → IsGlobal t (is.position n)
  reached_position n low = (is.all.all (is.position n)).0 (get_contains is.positions n (is.position n) (there n low))

  pub position_back : (p : ℕ) → IsGlobal t p → (back p < count) × (is.position (back p) ≡ p)
  position_back p reached =
      let c = contains_get is.positions p ((is.all.all p).1 reached) in
      let place : back p ≡ c.0 = place_one is.positions c.0 p is.all.distinct c.1 in
      let numbered = is.numbered in
      (omega (arith, place, numbered, slice_get_within is.positions c.0 p c.1), ap is.position place ∙ is.position_is c.0 p c.1)

  pub closed : AreClosed image.objects
  closed from index named line v at_line at_value is_named =
      let well = (is.well.objects from line at_line).values index v at_value in fit_below is.well.types image.objects well.field.element_type v named well.is_fit is_named

  pub line_below : (n : ℕ) (line : ObjectLine) → slice_get image.objects n ≡ Some line → (k : ℕ) (v : ImageValue) → slice_get (line_values line) k ≡ Some v → (m : ℕ) → number_named v ≡ Some m → m < count
  line_below n line at_line k v at_value m named = closed n k m line v at_line at_value named

  -- the object of a line, and the line of an object
  pub object_there : (n : ℕ) (line : ObjectLine) → slice_get image.objects n ≡ Some line → slice_get t.objects (is.position n) ≡ Some (placed_object is.position (as_object line))
  object_there n line at_line = is.objects n (is.position n) line (there n (slice_get_within image.objects n line at_line)) at_line

  pub line_is : (n : ℕ) (line : ObjectLine) (o : Object ℕ) → slice_get image.objects n ≡ Some line → slice_get t.objects (is.position n) ≡ Some o → object_back back t.types o ≡ line
  line_is n line o at_line at_object =
      let same : placed_object is.position (as_object line) ≡ o = same_Some (placed_object is.position (as_object line)) o (sym (object_there n line at_line) ∙ at_object) in
      ap (object_back back t.types) (sym same) ∙ ap (λ types. object_back back types (placed_object is.position (as_object line))) is.types
      ∙ back_line is.position back count back_position is.well.types line (is.well.objects n line at_line).shape (each_of_all FitsObject image.objects fit.objects n line at_line) (line_below n line at_line)

  -- the positions that an object names, and that it must have from the start
  pub named_there : (n : ℕ) (o : Object ℕ) → n < count → slice_get t.objects (is.position n) ≡ Some o → map is.position (graph.named n) ≡ positions_named o
  named_there n o low at_object =
      let line = element image.objects n low in
      ap (λ (l : Option ObjectLine). map is.position (named_in (values_in l))) line.1 ∙ line_named is.position line.0
      ∙ ap positions_named (same_Some (placed_object is.position (as_object line.0)) o (sym (object_there n line.0 line.1) ∙ at_object))

  pub early_there : (n : ℕ) (o : Object ℕ) → n < count → slice_get t.objects (is.position n) ≡ Some o → map is.position (graph.early n) ≡ positions_early t.types o
  early_there n o low at_object =
      let line = element image.objects n low in
      ap (λ (l : Option ObjectLine). map is.position (filter_map (early_in is.well.types l) (range_with_len 0 (length (values_in l))))) line.1 ∙ line_early is.position is.well.types line.0
      ∙ ap (λ types. positions_early types (placed_object is.position (as_object line.0))) (sym is.types)
      ∙ ap (positions_early t.types) (same_Some (placed_object is.position (as_object line.0)) o (sym (object_there n line.0 line.1) ∙ at_object))

  -- its globals
  pub globals_are : image.globals ≡ lines_back back 0 t.globals
  globals_are =
      lines_one is.position back count back_position 0 t.globals image.globals (record {
        rising = is.well.rising;
        from = λ i line at_line. omega arith;
        holds = λ i line at_line. (is.well.globals i line at_line).1;
        said = λ i line at_line.
            let says = is.globals.said i line at_line in
            let same : line.index - 0 ≡ line.index = omega arith in
            (says.0, (subst (λ k. slice_get t.globals k ≡ Some says.0) (sym same) says.1.0, says.1.1));
        unsaid = λ k slot at_slot none.
            is.globals.unsaid k slot at_slot (λ i line at_line same. none i line at_line (omega (arith, same)));
      })

  held_are : graph.globals ≡ map back (slot_positions t.globals)
  held_are = ap held_by globals_are ∙ held_back back 0 t.globals

  slot_reached : (p : ℕ) → IsVisited (slot_positions t.globals) p → IsGlobal t p
  slot_reached p stands =
      let slot = from_filter (λ (s : Slot). reference_position s.reference) t.globals p stands in
      let holds : slice_get (slot_references t.globals) slot.0 ≡ Some (at p) =
      slice_get-map (λ (s : Slot). s.reference) t.globals slot.0 ∙ ap (option_map (λ (s : Slot). s.reference)) slot.2.0 ∙ ap Some (at_position slot.1.reference p slot.2.1) in
      by_start (get_contains (slot_references t.globals) slot.0 (at p) holds)

  pub globals_there : map is.position graph.globals ≡ slot_positions t.globals
  globals_there = ap (map is.position) held_are ∙ map_back back is.position (slot_positions t.globals) (λ p stands. (position_back p (slot_reached p stands)).1)

  held_below : (n : ℕ) → GlobalHolds image.globals n → n < count
  held_below n held =
      let stands = into_filter (λ (g : GlobalLine). number_named g.value) image.globals held.0 held.1 n held.2.0 held.2.1 in
      let p = renamed_element back (slot_positions t.globals) stands.0 n (subst (λ xs. slice_get xs stands.0 ≡ Some n) held_are stands.1) in
      subst (λ m. m < count) p.1.1 (position_back p.0 (slot_reached p.0 (stands.0, p.1.0))).0

  -- its numbers are those of objects, and the globals reach them all
  pub within : IsWithin graph count
  within = lines_within is.well.types image.objects image.globals closed held_below

  pub all_reached : AreAllReached graph count
  all_reached = lines_reached is.well.types image.objects image.globals is.well.reached
