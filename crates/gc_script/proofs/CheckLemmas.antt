-- Values that are checked one after the other.
use Rattle.std.proofs.Common.{inl, inr, Bool, true, false, not, if◌then◌else◌, ◌≡◌, ℕ, ◌<◌, ◌≤◌, List, [], ◌∷◌, ◌++◌, drop, length, Option, Some, None, sym, ap, ◌∙◌, refl, subst, arith, zero, suc}
use Rattle.std.specs.Prelude.{◌⊎◌, Result, Ok, Err, IsErrAnd}
use Rattle.std.specs.List.{slice_get}
use Rattle.std.specs.Option.{option_map}
use Rattle.std.proofs.lemmas.Bool.{cases_lt}
use Rattle.std.proofs.lemmas.List.{drop_all, length-map}
use Rattle.std.proofs.lemmas.Slice.Zip.{AllZip-long}
use Rattle.std.proofs.lemmas.Option.{none-some, slice_get-map, slice_get_within}
use Rattle.gc_types.specs.declared.kind.Layouts.{Layouts}
use Rattle.gc_types.specs.declared.value.FieldType.{FieldType}
use Rattle.gc_types.specs.Declarations.{Declaration}
use Rattle.gc_model.specs.Fits.{fits}
use Rattle.gc_model.specs.Stores.{StoreView}
use Rattle.gc_model.specs.Values.{Value}
use Rattle.gc_model.specs.Holds.{HoldsTable}
use Rattle.gc_values.specs.declared.root.RawValue.{RawValue}
use Rattle.gc_store.specs.Values.{RawStands, AllStand}
use Rattle.gc_commands.specs.declared.command.Operand.{Operand}
use Rattle.gc_commands.specs.declared.reply.Refusal.{Refusal}
use Rattle.gc_commands.specs.declared.reply.Refusal.TheVariants as refusal
use Rattle.gc_script.specs.declared.objects.ValueTypes.{ValueTypes}
use Rattle.gc_script.specs.State.{State, RegisterStands}
use Rattle.gc_script.specs.Given.{Given, held_operand, given, given_value, given_values}
use Rattle.gc_script.specs.Steps.{first_failing, given_tests, value_tests}
use Rattle.gc_script.specs.Named.{type_at}
use Rattle.gc_script.specs.Values.{AllHeld, IsFoundLive, is_opaque, AllPlain, CanStoreRaw, AllRawStorable, ChecksOperand, typed_tests, ChecksOperands}
use Rattle.gc_script.proofs.TestLemmas.{passes_all, stops_all}

-- what is left from an element on
drop_here : {A : Type 0} (xs : List A) (i : ℕ) (x : A) → slice_get xs i ≡ Some x → drop i xs ≡ x ∷ drop (suc i) xs
drop_here [] i x e = absurd (none-some x e)
drop_here (y ∷ xs) zero x e = let is : y ≡ x = grind (arith, e) in ap (λ z. z ∷ xs) is
drop_here (y ∷ xs) (suc i) x e = drop_here xs i x e

cases_le_suc : (j i : ℕ) → j < suc i → (j < i) ⊎ (j ≡ i)
cases_le_suc j i lt =
    elim (cases_lt j i) [
      | inl below ↦ inl below
      | inr over ↦ inr (omega (arith, over, lt))
    ]

-- the operand that a value is of
hold_operand : (store : StoreView ℕ) (s : State) (vs : List Operand) (raws : List RawValue) (i : ℕ) (r : RawValue) → AllHeld store s vs raws → slice_get raws i ≡ Some r → (v : Operand) × ((slice_get vs i ≡ Some v) × RegisterStands store s.table (Some r) (held_operand s v))
hold_operand store s [] [] i r all e = absurd (none-some r e)
hold_operand store s [] (x ∷ raws) i r all e = absurd all
hold_operand store s (v ∷ vs) [] i r all e = absurd all
hold_operand store s (v ∷ vs) (x ∷ raws) zero r all e =
    let is : x ≡ r = grind (arith, e) in
    (v, (refl, subst (λ (y : RawValue). RegisterStands store s.table (Some y) (held_operand s v)) is all.0))
hold_operand store s (v ∷ vs) (x ∷ raws) (suc i) r all e = hold_operand store s vs raws i r all.1 e

-- a failure that is told
pub err_is : {A E : Type 0} (r : Result A E) (why : E) → IsErrAnd r (λ (e : E). e ≡ why) → r ≡ Err why
err_is (Ok x) why told = absurd told
err_is (Err e) why told = ap Err told

-- the tests of values that are left, from one on
tests_here : (s : State) (types : ℕ → Option FieldType) (vs : List Operand) (i : ℕ) (v : Operand) → slice_get vs i ≡ Some v → typed_tests s types i (drop i vs) ≡ value_tests s (types i) v ++ typed_tests s types (suc i) (drop (suc i) vs)
tests_here s types vs i v e = ap (typed_tests s types i) (drop_here vs i v e)

-- none of the first values is a function or a continuation
abbrev pub PlainSoFar : List RawValue → ℕ → Type 0
PlainSoFar raws i = (j : ℕ) (r : RawValue) → j < i → slice_get raws j ≡ Some r → is_opaque r ≡ false

-- nor is one more
pub plain_more : (raws : List RawValue) (i : ℕ) (r : RawValue) → slice_get raws i ≡ Some r → is_opaque r ≡ false → PlainSoFar raws i → PlainSoFar raws (suc i)
plain_more raws i r r_is is_plain plain j q lt e =
    elim (cases_le_suc j i lt) [
      | inl below ↦ plain j q below e
      | inr here ↦
          let q_is : Some r ≡ Some q = sym r_is ∙ ap (slice_get raws) (sym here) ∙ e in
          let same : r ≡ q = grind (arith, q_is) in
          ap is_opaque (sym same) ∙ is_plain
    ]

-- and so none of all is
pub plain_all : (raws : List RawValue) (i : ℕ) → length raws ≤ i → PlainSoFar raws i → AllPlain raws
plain_all raws i all plain j r e = let within = slice_get_within raws j r e in plain j r (omega (arith, within, all)) e

module _ (layouts : Layouts) (store : StoreView ℕ) (types : ValueTypes) (raws : List RawValue) where
  -- the tests of the values, by the types of a state
  abbrev tests_at : State → ℕ → List Operand → List (Bool × Refusal)
  tests_at s i vs = typed_tests s (type_at s.table.types types) i vs

  -- The first values are checked: they may be stored, and whatever refusal there is comes from those left.
  pub record CheckedSoFar (i : ℕ) : Type 0 where
    pub stores : (j : ℕ) (r : RawValue) → j < i → slice_get raws j ≡ Some r → CanStoreRaw layouts store (type_at store.types types j) r
    pub plain : PlainSoFar raws i
    pub passed : (s : State) (vs : List Operand) → HoldsTable layouts store s.table → AllHeld store s vs raws → first_failing (tests_at s 0 vs) ≡ first_failing (tests_at s i (drop i vs))
    pub stand : (s : State) (vs : List Operand) → HoldsTable layouts store s.table → AllHeld store s vs raws → (j : ℕ) (r : RawValue) (v : Operand) → j < i → slice_get raws j ≡ Some r → slice_get vs j ≡ Some v → RawStands store s.table r (given_value (given s v))

  -- nothing is checked yet
  pub checked_none : CheckedSoFar 0
  checked_none = record {
    stores = λ j r lt e. absurd (omega (arith, lt));
    plain = λ j r lt e. absurd (omega (arith, lt));
    passed = λ s vs holds all. refl;
    stand = λ s vs holds all j r v lt e f. absurd (omega (arith, lt));
  }

  module _ (i : ℕ) (so_far : CheckedSoFar i) (r : RawValue) (r_is : slice_get raws i ≡ Some r) (field : Option FieldType) (field_is : field ≡ type_at store.types types i) where
    -- what a check says of the types of a state
    checks_here : (result : Result (Unit {0}) Refusal) → ((s : State) (v : Operand) → HoldsTable layouts store s.table → RegisterStands store s.table (Some r) (held_operand s v) → ChecksOperand store s field v r result)
        → (s : State) (v : Operand) → HoldsTable layouts store s.table → RegisterStands store s.table (Some r) (held_operand s v) → ChecksOperand store s (type_at s.table.types types i) v r result
    checks_here result checks s v holds stands =
        subst (λ (f : Option FieldType). ChecksOperand store s f v r result) (field_is ∙ ap (λ (ts : List Declaration). type_at ts types i) holds.1.types) (checks s v holds stands)

    -- one more value passes
    pub checked_more : (done : Unit {0}) → CanStoreRaw layouts store field r → is_opaque r ≡ false → ((s : State) (v : Operand) → HoldsTable layouts store s.table → RegisterStands store s.table (Some r) (held_operand s v) → ChecksOperand store s field v r (Ok done)) → CheckedSoFar (suc i)
    checked_more done can is_plain checks = record {
      stores = λ j q lt e.
          elim (cases_le_suc j i lt) [
            | inl below ↦ so_far.stores j q below e
            | inr here ↦
                let q_is : Some r ≡ Some q = sym r_is ∙ ap (slice_get raws) (sym here) ∙ e in
                let same : r ≡ q = grind (arith, q_is) in
                subst (λ (f : Option FieldType). CanStoreRaw layouts store f q) (field_is ∙ ap (type_at store.types types) (sym here))
                (subst (CanStoreRaw layouts store field) same can)
          ];
      plain = plain_more raws i r r_is is_plain so_far.plain;
      passed = λ s vs holds all.
          let v = hold_operand store s vs raws i r all r_is in
          so_far.passed s vs holds all
          ∙ ap first_failing (tests_here s (type_at s.table.types types) vs i v.0 v.1.0)
          ∙ passes_all (value_tests s (type_at s.table.types types i) v.0) (tests_at s (suc i) (drop (suc i) vs)) (checks_here (Ok done) checks s v.0 holds v.1.1).0;
      stand = λ s vs holds all j q w lt e f.
          elim (cases_le_suc j i lt) [
            | inl below ↦ so_far.stand s vs holds all j q w below e f
            | inr here ↦
                let v = hold_operand store s vs raws i r all r_is in
                let q_is : Some r ≡ Some q = sym r_is ∙ ap (slice_get raws) (sym here) ∙ e in
                let w_is : Some v.0 ≡ Some w = sym v.1.0 ∙ ap (slice_get vs) (sym here) ∙ f in
                let q_same : r ≡ q = grind (arith, q_is) in
                let w_same : v.0 ≡ w = grind (arith, w_is) in
                subst (λ (x : Operand). RawStands store s.table q (given_value (given s x))) w_same
                (subst (λ (x : RawValue). RawStands store s.table x (given_value (given s v.0))) q_same (checks s v.0 holds v.1.1).1)
          ];
    }

    -- a value is refused
    pub checked_refused : (why : Refusal) → ((s : State) (v : Operand) → HoldsTable layouts store s.table → RegisterStands store s.table (Some r) (held_operand s v) → ChecksOperand store s field v r (Err why)) → (s : State) (vs : List Operand) → HoldsTable layouts store s.table → AllHeld store s vs raws → ChecksOperands store s types vs raws (Err why)
    checked_refused why checks s vs holds are =
        let v = hold_operand store s vs raws i r are r_is in
        so_far.passed s vs holds are
        ∙ ap first_failing (tests_here s (type_at s.table.types types) vs i v.0 v.1.0)
        ∙ stops_all (value_tests s (type_at s.table.types types i) v.0) (tests_at s (suc i) (drop (suc i) vs)) why (checks_here (Err why) checks s v.0 holds v.1.1)

  module _ (i : ℕ) (so_far : CheckedSoFar i) (all : length raws ≤ i) where
    -- all values are checked, so all may be stored
    pub checked_storable : AllRawStorable layouts store types raws
    checked_storable j r e = let within = slice_get_within raws j r e in so_far.stores j r (omega (arith, within, all)) e

    -- and none is a function or a continuation
    pub checked_plain : AllPlain raws
    checked_plain = plain_all raws i all so_far.plain

    -- what the values stand for
    checked_stand : (s : State) (vs : List Operand) → HoldsTable layouts store s.table → AllHeld store s vs raws → AllStand store s.table raws (given_values s vs)
    checked_stand s vs holds are = record {
      same_count = many s vs are ∙ sym (length-map vs (λ (v : Operand). given_value (given s v)));
      each = λ j r value e f.
          let v = hold_operand store s vs raws j r are e in
          let is : Some (given_value (given s v.0)) ≡ Some value = sym (slice_get-map (λ (v : Operand). given_value (given s v)) vs j ∙ ap (option_map (λ (v : Operand). given_value (given s v))) v.1.0) ∙ f in
          let same : given_value (given s v.0) ≡ value = grind (arith, is) in
          let within = slice_get_within raws j r e in
          subst (RawStands store s.table r) same (so_far.stand s vs holds are j r v.0 (omega (arith, within, all)) e v.1.0);
    }
      where
        many : (s : State) (vs : List Operand) → AllHeld store s vs raws → length raws ≡ length vs
        many s vs are = AllZip-long (λ (v : Operand) (r : RawValue). RegisterStands store s.table (Some r) (held_operand s v)) vs raws are

    -- all values pass their tests, and stand for what is given
    pub checked_all : (done : Unit {0}) → (s : State) (vs : List Operand) → HoldsTable layouts store s.table → AllHeld store s vs raws → ChecksOperands store s types vs raws (Ok done)
    checked_all done s vs holds are =
        let many : length raws ≡ length vs = AllZip-long (λ (v : Operand) (r : RawValue). RegisterStands store s.table (Some r) (held_operand s v)) vs raws are in (
          so_far.passed s vs holds are ∙ ap (λ (ws : List Operand). first_failing (tests_at s i ws)) (drop_all i vs (omega (arith, many, all))),
          checked_stand s vs holds are,
        )

-- What names nothing is checked by its type alone.
module _ (store : StoreView ℕ) (s : State) (field : FieldType) (v : Operand) (r : RawValue) (fit : Bool) (found : IsFoundLive store s.table r (given s v) true)
    (fit_is : (x : Value) → RawStands store s.table r x → fit ≡ fits s.table.types s.table.objects field.element_type x) where
  abbrev failing : Given → Option Refusal
  failing g = first_failing (given_tests s.table.types s.table.objects (Some field) g)

  abbrev refused_unless : Bool → Option Refusal
  refused_unless b = if not b then Some refusal.TypeMismatch else None

  failing_is : failing (given s v) ≡ refused_unless fit
  failing_is = ap failing found.1.0 ∙ ap refused_unless (sym (fit_is found.0 found.1.1))

  pub passes_alone : fit ≡ true → ChecksOperand store s (Some field) v r (Ok tt)
  passes_alone is = (failing_is ∙ ap refused_unless is, subst (λ (g : Given). RawStands store s.table r (given_value g)) (sym found.1.0) found.1.1)

  pub stops_alone : fit ≡ false → ChecksOperand store s (Some field) v r (Err refusal.TypeMismatch)
  stops_alone is = failing_is ∙ ap refused_unless is
