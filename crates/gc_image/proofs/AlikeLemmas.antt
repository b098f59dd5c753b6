-- Two tables of which one image is an image are alike.
use Rattle.std.proofs.Common.{inl, inr, ◌≡◌, ℕ, ◌<◌, zero, suc, Bool, true, false, List, [], ◌∷◌, length, map, Option, None, Some, nat_eq, cond, refl, sym, ap, ap₂, ◌∙◌, subst, arith, ◌⊎◌}
use Rattle.std.specs.List.{AllByRecursion, slice_get, IsDistinct}
use Rattle.std.proofs.lemmas.Bool.{cases_eq, eq-eqb, eqb-true, false≢true}
use Rattle.std.proofs.lemmas.Option.{none-some, same_Some, slice_get_within}
use Rattle.gc_types.specs.declared.value.RefType.{RefType}
use Rattle.gc_types.specs.declared.value.StorageType.{StorageType}
use Rattle.gc_types.specs.declared.value.StorageType.TheVariants as storage
use Rattle.gc_types.specs.declared.value.ValType.TheVariants as val
use Rattle.gc_types.specs.Declarations.{Declaration}
use Rattle.gc_owner.specs.declared.entry.GcClass.{GcClass}
use Rattle.gc_owner.specs.declared.entry.GcClass.TheVariants as class
use Rattle.gc_model.specs.Fits.{fits, reference_fits}
use Rattle.gc_model.specs.Stored.{byte_value}
use Rattle.gc_model.specs.Table.{Table, Slot}
use Rattle.gc_model.specs.Values.{Reference, at, Value, reference, Object, struct, array, exception}
use Rattle.gc_model.proofs.Members.{get_contains, contains_get}
use Rattle.gc_image.specs.declared.image.GlobalLine.{GlobalLine}
use Rattle.gc_image.specs.declared.image.ImageReference.{ImageReference}
use Rattle.gc_image.specs.declared.image.ImageReference.TheVariants as image_reference
use Rattle.gc_image.specs.declared.image.ImageValue.{ImageValue}
use Rattle.gc_image.specs.declared.image.ImageValue.TheVariants as value
use Rattle.gc_image.specs.declared.image.ObjectLine.{ObjectLine}
use Rattle.gc_image.specs.declared.image.ObjectLine.TheVariants as object
use Rattle.gc_image.specs.Alike.{AreAlike, placed_slot}
use Rattle.gc_image.specs.Images.{Images, ImagesText, IsGlobal, SaysSlot, placed_object, placed_reference, placed_value}
use Rattle.gc_image.specs.Parts.{ImageParts}
use Rattle.gc_image.proofs.FitLemmas.{absent_object}
use Rattle.gc_image.proofs.TextLemmas.{one_text}
use Rattle.gc_image.proofs.TurnLemmas.{one_turn}
use Rattle.gc_image.specs.Well.{HoldsReference, IsWellObject, as_object, as_reference, as_value, line_values, number_named}

-- what differs from each element is none of them
absent : (x : ℕ) (ys : List ℕ) (j : ℕ) → AllByRecursion (λ y. nat_eq x y ≡ false) ys → slice_get ys j ≡ Some x → ⊥
absent x [] j all there = none-some x there
absent x (y ∷ ys) zero all there = false≢true (sym all.0 ∙ eq-eqb x y (sym (same_Some y x there)))
absent x (y ∷ ys) (suc j) all there = absent x ys j all.1 there

-- a number stands once in a list without repetitions
pub once : (xs : List ℕ) (i j x : ℕ) → IsDistinct nat_eq xs → slice_get xs i ≡ Some x → slice_get xs j ≡ Some x → i ≡ j
unfolding IsDistinct
once [] i j x distinct at_i at_j = absurd (none-some x at_i)
once (y ∷ xs) zero zero x distinct at_i at_j = refl
once (y ∷ xs) zero (suc j) x distinct at_i at_j = absurd (absent y xs j distinct.0 (at_j ∙ ap (λ n. Some n) (sym (same_Some y x at_i))))
once (y ∷ xs) (suc i) zero x distinct at_i at_j = absurd (absent y xs i distinct.0 (at_i ∙ ap (λ n. Some n) (sym (same_Some y x at_j))))
once (y ∷ xs) (suc i) (suc j) x distinct at_i at_j = ap suc (once xs i j x distinct.1 at_i at_j)

-- the first place of a number in a list
abbrev pub number_of : List ℕ → ℕ → ℕ
number_of [] p = 0
number_of (x ∷ xs) p = cond (nat_eq x p) 0 (suc (number_of xs p))

found_from : (x : ℕ) (xs : List ℕ) (p : ℕ) → slice_get xs (number_of xs p) ≡ Some p → (b : Bool) → nat_eq x p ≡ b → slice_get (x ∷ xs) (cond b 0 (suc (number_of xs p))) ≡ Some p
found_from x xs p behind true same = ap (λ k. Some k) (eqb-true x p same)
found_from x xs p behind false other = behind

pub found_number : (xs : List ℕ) (n p : ℕ) → slice_get xs n ≡ Some p → slice_get xs (number_of xs p) ≡ Some p
found_number [] n p there = absurd (none-some p there)
found_number (x ∷ xs) zero p there = subst (λ (b : Bool). slice_get (x ∷ xs) (cond b 0 (suc (number_of xs p))) ≡ Some p) (sym (eq-eqb x p (same_Some x p there))) there
found_number (x ∷ xs) (suc n) p there = found_from x xs p (found_number xs n p there) (nat_eq x p) refl

-- a place within a list has an element
pub element_at : {X : Type 0} (xs : List X) (n : ℕ) → n < length xs → (x : X) × (slice_get xs n ≡ Some x)
element_at [] n within = absurd (omega (arith, within))
element_at (x ∷ xs) zero within = (x, refl)
element_at (x ∷ xs) (suc n) within = element_at xs n (omega (arith, within))

-- what fits a type names an object that is there
named_ref : (types : List Declaration) (lines : List ObjectLine) (class : GcClass) (n : ℕ) (ty : StorageType) → fits types (map as_object lines) ty (reference class (at n)) ≡ true
    → (own : RefType) × (reference_fits types (map as_object lines) own class (at n) ≡ true)
named_ref types lines class n storage.I8 fit = absurd (cc fit)
named_ref types lines class n storage.I16 fit = absurd (cc fit)
named_ref types lines class n (storage.ValType val.I32) fit = absurd (cc fit)
named_ref types lines class n (storage.ValType val.I64) fit = absurd (cc fit)
named_ref types lines class n (storage.ValType val.F32) fit = absurd (cc fit)
named_ref types lines class n (storage.ValType val.F64) fit = absurd (cc fit)
named_ref types lines class n (storage.ValType val.V128) fit = absurd (cc fit)
named_ref types lines class n (storage.ValType (val.Ref own)) fit = (own, fit)

below_when : {X : Type 0} (xs : List X) (n : ℕ) (found : Option X) → slice_get xs n ≡ found → (found ≡ None → ⊥) → n < length xs
below_when xs n None is some = absurd (some refl)
below_when xs n (Some x) is some = slice_get_within xs n x is

pub named_below : (types : List Declaration) (lines : List ObjectLine) (class : GcClass) (n : ℕ) (ty : StorageType) → fits types (map as_object lines) ty (reference class (at n)) ≡ true → n < length lines
named_below types lines class n ty fit =
    let own = named_ref types lines class n ty fit in
    below_when lines n (slice_get lines n) refl (λ none. false≢true (absent_object types lines own.0 class n none ∙ own.1))

-- the numbers that the values of a line name are those of objects
abbrev AreBelow : ℕ → List ImageValue → Type 0
AreBelow count values = (i n : ℕ) (v : ImageValue) → slice_get values i ≡ Some v → number_named v ≡ Some n → n < count

line_below : (types : List Declaration) (lines : List ObjectLine) (number : ℕ) (line : ObjectLine) → IsWellObject types (map as_object lines) number line → AreBelow (length lines) (line_values line)
line_below types lines number line well i n v there named = by v refl
  where
    by : (w : ImageValue) → v ≡ w → n < length lines
    by (value.Ref class (image_reference.Object m)) is =
        let at_i = well.values i v there in
        let same : m ≡ n = same_Some m n (ap number_named (sym is) ∙ named) in
        named_below types lines class n at_i.field.element_type (subst (λ (r : Value). fits types (map as_object lines) at_i.field.element_type r ≡ true) (ap as_value is ∙ ap (λ k. reference class (at k)) same) at_i.is_fit)
    by (value.Ref class image_reference.Null) is = absurd (none-some n (ap number_named (sym is) ∙ named))
    by (value.Ref class (image_reference.Small k)) is = absurd (none-some n (ap number_named (sym is) ∙ named))
    by (value.I32 k) is = absurd (none-some n (ap number_named (sym is) ∙ named))
    by (value.I64 k) is = absurd (none-some n (ap number_named (sym is) ∙ named))
    by (value.F32 k) is = absurd (none-some n (ap number_named (sym is) ∙ named))
    by (value.F64 k) is = absurd (none-some n (ap number_named (sym is) ∙ named))
    by (value.V128 k) is = absurd (none-some n (ap number_named (sym is) ∙ named))

-- one renaming behind another, on the numbers of objects
module _ (count : ℕ) (position position' to : ℕ → ℕ) (goes : (n : ℕ) → n < count → to (position n) ≡ position' n) where
  again_reference : (r : ImageReference) → ((n : ℕ) → r ≡ image_reference.Object n → n < count) → placed_reference to (placed_reference position (as_reference r)) ≡ placed_reference position' (as_reference r)
  again_reference image_reference.Null below = refl
  again_reference (image_reference.Small n) below = refl
  again_reference (image_reference.Object n) below = ap at (goes n (below n refl))

  again_value : (v : ImageValue) → ((n : ℕ) → number_named v ≡ Some n → n < count) → placed_value to (placed_value position (as_value v)) ≡ placed_value position' (as_value v)
  again_value (value.I32 n) below = refl
  again_value (value.I64 n) below = refl
  again_value (value.F32 n) below = refl
  again_value (value.F64 n) below = refl
  again_value (value.V128 n) below = refl
  again_value (value.Ref class r) below = ap (reference class) (again_reference r (λ n is. below n (ap (λ (x : ImageReference). number_named (value.Ref class x)) is)))

  again_values : (vs : List ImageValue) → AreBelow count vs → map (placed_value to) (map (placed_value position) (map as_value vs)) ≡ map (placed_value position') (map as_value vs)
  again_values [] below = refl
  again_values (v ∷ vs) below = ap₂ (λ (x : Value) (xs : List Value). x ∷ xs) (again_value v (λ n named. below 0 n v refl named)) (again_values vs (λ i n w there named. below (suc i) n w there named))

  again_bytes : (bytes : List ℕ) → map (placed_value to) (map (placed_value position) (map byte_value bytes)) ≡ map (placed_value position') (map byte_value bytes)
  again_bytes [] = refl
  again_bytes (b ∷ bytes) = ap (λ (xs : List Value). byte_value b ∷ xs) (again_bytes bytes)

  again_object : (line : ObjectLine) → AreBelow count (line_values line) → placed_object to (placed_object position (as_object line)) ≡ placed_object position' (as_object line)
  again_object (object.Struct ty values) below = ap (struct ty) (again_values values below)
  again_object (object.Array ty values) below = ap (array ty) (again_values values below)
  again_object (object.Bytes ty bytes) below = ap (array ty) (again_bytes bytes)
  again_object (object.Host number) below = refl
  again_object (object.Exn ty tag values) below = ap (exception ty tag) (again_values values below)

  again_slot : (v : ImageValue) (slot slot' : Slot) → ((n : ℕ) → number_named v ≡ Some n → n < count) → SaysSlot position v slot → SaysSlot position' v slot' → slot' ≡ placed_slot to slot
  again_slot (value.Ref class r) slot slot' below says says' =
      says' ∙ ap (λ (x : Reference). record { class = class; reference = x }) (sym (again_reference r (λ n is. below n (ap (λ (x : ImageReference). number_named (value.Ref class x)) is)))) ∙ ap (placed_slot to) (sym says)
  again_slot (value.I32 n) slot slot' below says says' = absurd says
  again_slot (value.I64 n) slot slot' below says says' = absurd says
  again_slot (value.F32 n) slot slot' below says says' = absurd says
  again_slot (value.F64 n) slot slot' below says says' = absurd says
  again_slot (value.V128 n) slot slot' below says says' = absurd says

-- a line of a global, or none
which_line : (lines : List GlobalLine) (k : ℕ) → ((i : ℕ) × (line : GlobalLine) × ((slice_get lines i ≡ Some line) × (line.index ≡ k))) ⊎ ((i : ℕ) (line : GlobalLine) → slice_get lines i ≡ Some line → ¬ (line.index ≡ k))
which_line [] k = inr (λ i line there. absurd (none-some line there))
which_line (line ∷ lines) k = elim (cases_eq line.index k) [
  | inl same ↦ inl (0, line, (refl, same))
  | inr other ↦ elim (which_line lines k) [
    | inl found ↦ inl (suc found.0, found.1, found.2)
    | inr none ↦ inr (by other none)
  ]
]
  where
    by : ¬ (line.index ≡ k) → ((i : ℕ) (x : GlobalLine) → slice_get lines i ≡ Some x → ¬ (x.index ≡ k)) → (i : ℕ) (x : GlobalLine) → slice_get (line ∷ lines) i ≡ Some x → ¬ (x.index ≡ k)
    by other none zero x there = λ same. other (ap (λ (g : GlobalLine). g.index) (same_Some line x there) ∙ same)
    by other none (suc i) x there = none i x there

-- what a global's line names is an object
global_below : (count : ℕ) (v : ImageValue) → HoldsReference count v → (n : ℕ) → number_named v ≡ Some n → n < count
global_below count (value.Ref class.Any image_reference.Null) holds n named = absurd holds
global_below count (value.Ref class.Extern image_reference.Null) holds n named = absurd (none-some n named)
global_below count (value.Ref class.Exn image_reference.Null) holds n named = absurd (none-some n named)
global_below count (value.Ref c (image_reference.Small m)) holds n named = absurd (none-some n named)
global_below count (value.Ref class.Any (image_reference.Object m)) holds n named = subst (λ k. k < count) (same_Some m n named) holds
global_below count (value.Ref class.Extern (image_reference.Object m)) holds n named = subst (λ k. k < count) (same_Some m n named) holds
global_below count (value.Ref class.Exn (image_reference.Object m)) holds n named = subst (λ k. k < count) (same_Some m n named) holds
global_below count (value.I32 m) holds n named = absurd holds
global_below count (value.I64 m) holds n named = absurd holds
global_below count (value.F32 m) holds n named = absurd holds
global_below count (value.F64 m) holds n named = absurd holds
global_below count (value.V128 m) holds n named = absurd holds

module _ (image : ImageParts) (t t' : Table ℕ) (i : Images t image) (i' : Images t' image) where
  abbrev to : ℕ → ℕ
  to p = i'.position (number_of i.positions p)

  -- a position of one table that has this number, and that of the other
  record Pair (number p : ℕ) : Type 0 where
    there : slice_get i.positions number ≡ Some p
    other : ℕ
    there' : slice_get i'.positions number ≡ Some other
    goes : to p ≡ other

  pair_at : (n p : ℕ) → slice_get i.positions n ≡ Some p → Pair n p
  pair_at n p at_n =
      let within = slice_get_within i.positions n p at_n in
      let same = i.numbered in
      let same' = i'.numbered in
      let q = element_at i'.positions n (omega (arith, within, same, same')) in
      let number = once i.positions (number_of i.positions p) n p i.all.distinct (found_number i.positions n p at_n) at_n in
      record { there = at_n; other = q.0; there' = q.1; goes = ap i'.position number ∙ i'.position_is n q.0 q.1 }

  pair : (p : ℕ) → IsGlobal t p → (n : ℕ) × Pair n p
  pair p reached = let c = contains_get i.positions p ((i.all.all p).1 reached) in (c.0, pair_at c.0 p c.1)

  goes_on : (n : ℕ) → n < length image.objects → to (i.position n) ≡ i'.position n
  goes_on n below =
      let numbered = i.numbered in
      let p = element_at i.positions n (omega (arith, below, numbered)) in
      let both = pair_at n p.0 p.1 in
      ap to (i.position_is n p.0 p.1) ∙ both.goes ∙ sym (i'.position_is n both.other both.there')

  objects_alike : (p : ℕ) (o : Object ℕ) → IsGlobal t p → slice_get t.objects p ≡ Some o → slice_get t'.objects (to p) ≡ Some (placed_object to o)
  objects_alike p o reached is =
      let found = pair p reached in
      let both = found.1 in
      let within = slice_get_within i.positions found.0 p both.there in
      let numbered = i.numbered in
      let line = element_at image.objects found.0 (omega (arith, within, numbered)) in
      let mine = same_Some _ o (sym (i.objects found.0 p line.0 both.there line.1) ∙ is) in
      let again = again_object (length image.objects) i.position i'.position to goes_on line.0 (line_below i.well.types image.objects found.0 line.0 (i.well.objects found.0 line.0 line.1)) in
      ap (slice_get t'.objects) both.goes ∙ i'.objects found.0 both.other line.0 both.there' line.1 ∙ ap (λ (x : Object ℕ). Some x) (sym again ∙ ap (placed_object to) mine)

  globals_alike : (k : ℕ) (slot slot' : Slot) → slice_get t.globals k ≡ Some slot → slice_get t'.globals k ≡ Some slot' → slot' ≡ placed_slot to slot
  globals_alike k slot slot' is is' = elim (which_line image.globals k) [
    | inl found ↦ by_line found.0 found.1 found.2.0 found.2.1
    | inr none ↦ i'.globals.unsaid k slot' is' none ∙ ap (placed_slot to) (sym (i.globals.unsaid k slot is none))
  ]
    where
      by_line : (n : ℕ) (line : GlobalLine) → slice_get image.globals n ≡ Some line → line.index ≡ k → slot' ≡ placed_slot to slot
      by_line n line there same =
          let said = i.globals.said n line there in
          let said' = i'.globals.said n line there in
          let one : said.0 ≡ slot = same_Some said.0 slot (sym said.1.0 ∙ ap (slice_get t.globals) same ∙ is) in
          let one' : said'.0 ≡ slot' = same_Some said'.0 slot' (sym said'.1.0 ∙ ap (slice_get t'.globals) same ∙ is') in
          again_slot (length image.objects) i.position i'.position to goes_on line.value slot slot' (global_below (length image.objects) line.value (i.well.globals n line there).1)
          (subst (SaysSlot i.position line.value) one said.1.1) (subst (SaysSlot i'.position line.value) one' said'.1.1)

  pub alike : AreAlike t t'
  alike = record {
    types = i.types ∙ one_turn [] image.types i.well.types i'.well.types i.well.declared i'.well.declared ∙ sym i'.types;
    to = to;
    reached = λ p reached.
        let found = pair p reached in
        subst (IsGlobal t') (sym found.1.goes) ((i'.all.all found.1.other).0 (get_contains i'.positions found.0 found.1.other found.1.there'));
    distinct = λ p q one two same.
        let a = pair p one in
        let b = pair q two in
        let others : a.1.other ≡ b.1.other = sym a.1.goes ∙ same ∙ b.1.goes in
        let numbers = once i'.positions a.0 b.0 b.1.other i'.all.distinct (a.1.there' ∙ ap (λ x. Some x) others) b.1.there' in
        same_Some p q (sym a.1.there ∙ ap (slice_get i.positions) numbers ∙ b.1.there);
    whole = λ q reached.
        let c = contains_get i'.positions q ((i'.all.all q).1 reached) in
        let within = slice_get_within i'.positions c.0 q c.1 in
        let numbered = i.numbered in
        let numbered' = i'.numbered in
        let p = element_at i.positions c.0 (omega (arith, within, numbered, numbered')) in
        let both = pair_at c.0 p.0 p.1 in
        (p.0, ((i.all.all p.0).0 (get_contains i.positions c.0 p.0 p.1), both.goes ∙ same_Some both.other q (sym both.there' ∙ c.1)));
    objects = objects_alike;
    globals = globals_alike;
  }

pub alike_texts : (t t' : Table ℕ) (bytes : List ℕ) → ImagesText t bytes → ImagesText t' bytes → AreAlike t t'
alike_texts t t' bytes one other =
    let same = one_text one.image other.image one.fits other.fits (sym one.spelled ∙ other.spelled) in
    alike other.image t t' (subst (Images t) same one.images) other.images
