-- The lines of globals are determined by the globals, and by the number of each position.
use Rattle.std.proofs.Common.{◌≡◌, ℕ, ◌+◌, ◌-◌, ◌≤◌, ◌<◌, ⊎_elim, suc, zero, List, [], ◌∷◌, map, Option, None, Some, refl, sym, ap, subst, ◌∙◌, arith, add-one}
use Rattle.std.specs.List.{cons_option, filter_map, slice_get}
use Rattle.std.specs.Option.{option_map}
use Rattle.std.proofs.lemmas.Bool.{cases_eq}
use Rattle.std.proofs.lemmas.Option.{none-some, same_Some}
use Rattle.gc_owner.specs.declared.entry.GcClass.{GcClass}
use Rattle.gc_owner.specs.declared.entry.GcClass.TheVariants as class
use Rattle.gc_model.specs.Table.{Slot, null_slot}
use Rattle.gc_model.specs.Values.{Reference, null, small, at}
use Rattle.gc_image.specs.declared.image.GlobalLine.{GlobalLine}
use Rattle.gc_image.specs.declared.image.ImageReference.TheVariants as image_reference
use Rattle.gc_image.specs.declared.image.ImageValue.{ImageValue}
use Rattle.gc_image.specs.declared.image.ImageValue.TheVariants as value
use Rattle.gc_image.specs.Images.{SaysSlot}
use Rattle.gc_image.specs.Well.{AreRising, HoldsReference}
use Rattle.gc_image_write.specs.Graphs.{held_by}
use Rattle.gc_image_write.proofs.LineBack.{reference_back}
use Rattle.gc_image_write.proofs.PickLemmas.{map_cons}

-- the line of a global, which has none where it is null of class Any
abbrev line_at : (ℕ → ℕ) → ℕ → GcClass → Reference → Option GlobalLine
line_at back k class.Any null = None
line_at back k c r = Some (record { index = k; value = value.Ref c (reference_back back r) })

abbrev pub lines_back : (ℕ → ℕ) → ℕ → List Slot → List GlobalLine
lines_back back a [] = []
lines_back back a (slot ∷ slots) = cons_option (line_at back a slot.class slot.reference) (lines_back back (a + 1) slots)

-- the position that a reference names
abbrev pub reference_position : Reference → Option ℕ
reference_position null = None
reference_position (small n) = None
reference_position (at p) = Some p

abbrev pub slot_positions : List Slot → List ℕ
slot_positions slots = filter_map (λ (slot : Slot). reference_position slot.reference) slots

-- what the lines of globals hold
pub held_back : (back : ℕ → ℕ) (a : ℕ) (slots : List Slot) → held_by (lines_back back a slots) ≡ map back (slot_positions slots)
held_back back a [] = refl
held_back back a (slot ∷ slots) = by slot.class slot.reference ∙ ap (λ ns. cons_option (option_map back (reference_position slot.reference)) ns) (held_back back (a + 1) slots) ∙ sym (map_cons back (reference_position slot.reference) (slot_positions slots))
  where
    by : (c : GcClass) (r : Reference) → held_by (cons_option (line_at back a c r) (lines_back back (a + 1) slots)) ≡ cons_option (option_map back (reference_position r)) (held_by (lines_back back (a + 1) slots))
    by class.Any null = refl
    by class.Any (small n) = refl
    by class.Any (at p) = refl
    by class.Extern null = refl
    by class.Extern (small n) = refl
    by class.Extern (at p) = refl
    by class.Exn null = refl
    by class.Exn (small n) = refl
    by class.Exn (at p) = refl

module _ (position back : ℕ → ℕ) (count : ℕ) (is_back : (n : ℕ) → n < count → back (position n) ≡ n) where
  said_line : (k : ℕ) (v : ImageValue) (slot : Slot) → HoldsReference count v → SaysSlot position v slot → line_at back k slot.class slot.reference ≡ Some (record { index = k; value = v })
  said_line k (value.Ref class.Any image_reference.Null) slot holds says = absurd holds
  said_line k (value.Ref class.Any (image_reference.Small n)) slot holds says = ap (λ (s : Slot). line_at back k s.class s.reference) says
  said_line k (value.Ref class.Any (image_reference.Object n)) slot holds says =
      ap (λ (s : Slot). line_at back k s.class s.reference) says ∙ ap (λ m. Some (record { index = k; value = value.Ref class.Any (image_reference.Object m) })) (is_back n holds)
  said_line k (value.Ref class.Extern image_reference.Null) slot holds says = ap (λ (s : Slot). line_at back k s.class s.reference) says
  said_line k (value.Ref class.Extern (image_reference.Small n)) slot holds says = ap (λ (s : Slot). line_at back k s.class s.reference) says
  said_line k (value.Ref class.Extern (image_reference.Object n)) slot holds says =
      ap (λ (s : Slot). line_at back k s.class s.reference) says ∙ ap (λ m. Some (record { index = k; value = value.Ref class.Extern (image_reference.Object m) })) (is_back n holds)
  said_line k (value.Ref class.Exn image_reference.Null) slot holds says = ap (λ (s : Slot). line_at back k s.class s.reference) says
  said_line k (value.Ref class.Exn (image_reference.Small n)) slot holds says = ap (λ (s : Slot). line_at back k s.class s.reference) says
  said_line k (value.Ref class.Exn (image_reference.Object n)) slot holds says =
      ap (λ (s : Slot). line_at back k s.class s.reference) says ∙ ap (λ m. Some (record { index = k; value = value.Ref class.Exn (image_reference.Object m) })) (is_back n holds)
  said_line k (value.I32 n) slot holds says = absurd says
  said_line k (value.I64 n) slot holds says = absurd says
  said_line k (value.F32 n) slot holds says = absurd says
  said_line k (value.F64 n) slot holds says = absurd says
  said_line k (value.V128 n) slot holds says = absurd says

  -- lines say what globals hold from an index on
  pub record Covers (a : ℕ) (slots : List Slot) (lines : List GlobalLine) : Type 0 where
    pub rising : AreRising lines
    pub from : (i : ℕ) (line : GlobalLine) → slice_get lines i ≡ Some line → a ≤ line.index
    pub holds : (i : ℕ) (line : GlobalLine) → slice_get lines i ≡ Some line → HoldsReference count line.value
    pub said : (i : ℕ) (line : GlobalLine) → slice_get lines i ≡ Some line → (slot : Slot) × ((slice_get slots (line.index - a) ≡ Some slot) × SaysSlot position line.value slot)
    pub unsaid : (k : ℕ) (slot : Slot) → slice_get slots k ≡ Some slot → ((i : ℕ) (line : GlobalLine) → slice_get lines i ≡ Some line → ¬ (line.index ≡ a + k)) → slot ≡ null_slot

  rising_rest : (line : GlobalLine) (lines : List GlobalLine) → AreRising (line ∷ lines) → AreRising lines
  rising_rest line lines rising i one next there behind =
      rising (suc i) one next there (subst (λ k. slice_get (line ∷ lines) k ≡ Some next) (sym (add-one (suc i))) (subst (λ k. slice_get lines k ≡ Some next) (add-one i) behind))

  rising_first : (line : GlobalLine) (lines : List GlobalLine) → AreRising (line ∷ lines) → (i : ℕ) (other : GlobalLine) → slice_get lines i ≡ Some other → line.index < other.index
  rising_first line [] rising i other there = absurd (none-some other there)
  rising_first line (next ∷ lines) rising zero other there =
      let here = rising 0 line next refl refl in subst (λ (g : GlobalLine). line.index < g.index) (same_Some next other there) here
  rising_first line (next ∷ lines) rising (suc i) other there =
      let here = rising 0 line next refl refl in
      let later = rising_first next lines (rising_rest line (next ∷ lines) rising) i other there in
      omega (arith, here, later)

  -- one global less
  covers_next : (a : ℕ) (slot : Slot) (slots : List Slot) (lines rest : List GlobalLine) → Covers a (slot ∷ slots) lines → AreRising rest
      → ((i : ℕ) (line : GlobalLine) → slice_get rest i ≡ Some line → (a < line.index) × ((j : ℕ) × (slice_get lines j ≡ Some line)))
      → ((i : ℕ) (line : GlobalLine) → slice_get lines i ≡ Some line → a < line.index → (j : ℕ) × (slice_get rest j ≡ Some line)) → Covers (a + 1) slots rest
  covers_next a slot slots lines rest covers rising old still = record {
    rising = rising;
    from = λ i line there. let at = old i line there in omega (arith, at.0);
    holds = λ i line there. let at = old i line there in covers.holds at.1.0 line at.1.1;
    said = λ i line there.
        let at = old i line there in
        let says = covers.said at.1.0 line at.1.1 in
        let later : line.index - a ≡ suc (line.index - (a + 1)) = omega (arith, at.0) in
        (says.0, (subst (λ k. slice_get (slot ∷ slots) k ≡ Some says.0) later says.1.0, says.1.1));
    unsaid = λ k other there none.
        covers.unsaid (suc k) other there (λ i line at same.
        let back = still i line at (omega (arith, same)) in none back.0 line back.1 (omega (arith, same)));
  }

  -- so they are the lines of these
  pub lines_one : (a : ℕ) (slots : List Slot) (lines : List GlobalLine) → Covers a slots lines → lines ≡ lines_back back a slots
  lines_one a [] [] covers = refl
  lines_one a [] (line ∷ lines) covers = let says = covers.said 0 line refl in absurd (none-some says.0 says.1.0)
  lines_one a (slot ∷ slots) [] covers =
      let empty = covers.unsaid 0 slot refl (λ i line there. absurd (none-some line there)) in
      let rest = lines_one (a + 1) slots [] (covers_next a slot slots [] [] covers covers.rising (λ i line there. absurd (none-some line there)) (λ i line there. absurd (none-some line there))) in
      rest ∙ ap (λ (s : Slot). cons_option (line_at back a s.class s.reference) (lines_back back (a + 1) slots)) (sym empty)
  lines_one a (slot ∷ slots) (line ∷ lines) covers =
      ⊎_elim
      (λ same.
      let says = covers.said 0 line refl in
      let here : line.index - a ≡ 0 = omega (arith, same) in
      let this : says.0 ≡ slot = sym (same_Some slot says.0 (subst (λ k. slice_get (slot ∷ slots) k ≡ Some says.0) here says.1.0)) in
      let is : line_at back a slot.class slot.reference ≡ Some line =
      said_line a line.value slot (covers.holds 0 line refl) (subst (SaysSlot position line.value) this says.1.1) ∙ ap (λ k. Some (record { index = k; value = line.value })) (sym same) in
      let rest =
      lines_one (a + 1) slots lines (covers_next a slot slots (line ∷ lines) lines covers (rising_rest line lines covers.rising)
      (λ i other there. let more = rising_first line lines covers.rising i other there in (omega (arith, same, more), (suc i, there)))
      (λ i other there more. later_one i other there (λ e. omega (arith, more, same, ap (λ (g : GlobalLine). g.index) e)))) in
      ap (λ ls. line ∷ ls) rest ∙ ap (λ o. cons_option o (lines_back back (a + 1) slots)) (sym is))
      (λ other.
      let first = covers.from 0 line refl in
      let after : a < line.index = omega (arith, other, first) in
      let above : (i : ℕ) (g : GlobalLine) → slice_get (line ∷ lines) i ≡ Some g → a < g.index = all_above after in
      let empty = covers.unsaid 0 slot refl (λ i g there e. let low = above i g there in omega (arith, low, e)) in
      let rest = lines_one (a + 1) slots (line ∷ lines) (covers_next a slot slots (line ∷ lines) (line ∷ lines) covers covers.rising (λ i g there. (above i g there, (i, there))) (λ i g there low. (i, there))) in
      rest ∙ ap (λ (s : Slot). cons_option (line_at back a s.class s.reference) (lines_back back (a + 1) slots)) (sym empty)) (cases_eq line.index a)
    where
      later_one : (i : ℕ) (other : GlobalLine) → slice_get (line ∷ lines) i ≡ Some other → (line ≡ other → ⊥) → (j : ℕ) × (slice_get lines j ≡ Some other)
      later_one zero other there isnt = absurd (isnt (same_Some line other there))
      later_one (suc i) other there isnt = (i, there)

      all_above : a < line.index → (i : ℕ) (g : GlobalLine) → slice_get (line ∷ lines) i ≡ Some g → a < g.index
      all_above low zero g there = subst (λ (h : GlobalLine). a < h.index) (same_Some line g there) low
      all_above low (suc i) g there = let more = rising_first line lines covers.rising i g there in omega (arith, low, more)
