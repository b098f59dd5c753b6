-- The values of a line one after the other.
use Rattle.std.proofs.Common.{inl, inr, ◌≡◌, ℕ, ◌+◌, ◌<◌, ◌≤◌, List, [], ◌∷◌, ◌++◌, length, map, take, drop, get_or, Some, None, Ok, Err, refl, sym, ap, ◌∙◌, subst, arith}
use Rattle.std.specs.Prelude.{sum_by}
use Rattle.std.proofs.lemmas.List.{length_push, map-append, take-append-drop, take_more}
use Rattle.std.proofs.lemmas.List.Sums.{sum_by-append, sum_by-take-le, sum_by_push}
use Rattle.std.proofs.lemmas.Option.{none-some, slice_get_within}
use Rattle.gc_types.specs.declared.kind.Layouts.{Layouts}
use Rattle.gc_model.proofs.Lists.{slice_get-push_cases}
use Rattle.gc_model.specs.Stores.{StoreView}
use Rattle.gc_model.specs.Table.{Table}
use Rattle.gc_model.specs.Values.{Reference, Value}
use Rattle.gc_model.specs.Accounts.{Account}
use Rattle.gc_values.specs.declared.root.GcRootIndex.{GcRootIndex}
use Rattle.gc_values.specs.declared.root.RawValue.{RawValue}
use Rattle.gc_values.specs.declared.root.RawValue.TheVariants as raw
use Rattle.gc_store.specs.Roots.{NamesReference}
use Rattle.gc_store.specs.Values.{AllStand, RawStands}
use Rattle.gc_image.specs.declared.image.ImageValue.{ImageValue}
use Rattle.gc_load_image.specs.declared.fault.LoadFault.{LoadFault}
use Rattle.gc_load_image.specs.declared.fault.LoadFault.TheVariants as fault
use Rattle.gc_load_image.specs.Loads.{value_present}
use Rattle.gc_load_image.specs.Stages.{FailedValues, FindsRawValue, FoundValues, Standing, StopsAtRoots, early_value}
use Rattle.gc_load_image.proofs.ValueLemmas.{pushes_more, pushes_none, pushes_twice}

-- a value that stands stands where all that was named is named
pub raw_stays : (s new : StoreView ℕ) (t u : Table ℕ) → ((h : GcRootIndex) (r : Reference) → NamesReference s t h r → NamesReference new u h r) → (r : RawValue) (v : Value) → RawStands s t r v → RawStands new u r v
raw_stays s new t u stays (raw.I32 n) v is = is
raw_stays s new t u stays (raw.I64 n) v is = is
raw_stays s new t u stays (raw.F32 n) v is = is
raw_stays s new t u stays (raw.F64 n) v is = is
raw_stays s new t u stays (raw.V128 n) v is = is
raw_stays s new t u stays (raw.Func f) v is = is
raw_stays s new t u stays (raw.Cont cont) v is = is
raw_stays s new t u stays (raw.Ref class None) v is = is
raw_stays s new t u stays (raw.Ref class (Some handle)) v is = record { root = is.root; named = stays handle is.root is.named; is = is.is }

pub all_stay : (s new : StoreView ℕ) (t u : Table ℕ) → ((h : GcRootIndex) (r : Reference) → NamesReference s t h r → NamesReference new u h r) → (rs : List RawValue) (vs : List Value) → AllStand s t rs vs → AllStand new u rs vs
all_stay s new t u stays rs vs stand = record { same_count = stand.same_count; each = λ i r v e f. raw_stays s new t u stays r v (stand.each i r v e f) }

-- one more
all_push : (s : StoreView ℕ) (t : Table ℕ) (rs : List RawValue) (vs : List Value) (r : RawValue) (v : Value) → AllStand s t rs vs → RawStands s t r v → AllStand s t (rs ++ r ∷ []) (vs ++ v ∷ [])
all_push s t rs vs r v stand one = record {
  same_count = length_push rs r ∙ ap (λ n. n + 1) stand.same_count ∙ sym (length_push vs v);
  each = λ i q w e f. elim (slice_get-push_cases rs r i q e) [
    | inl old ↦ elim (slice_get-push_cases vs v i w f) [
      | inl there ↦ stand.each i q w old there
      | inr past ↦ absurd (let inside = slice_get_within rs i q old in omega (arith, inside, past.0, stand.same_count))
    ]
    | inr new ↦ elim (slice_get-push_cases vs v i w f) [
      | inl there ↦ absurd (let inside = slice_get_within vs i w there in omega (arith, inside, new.0, stand.same_count))
      | inr last ↦ subst (λ (x : RawValue). RawStands s t x w) new.1 (subst (RawStands s t r) last.1 one)
    ]
  ];
}

module _ (layouts : Layouts) (handles : List GcRootIndex) (old : StoreView ℕ) (t : Table ℕ) (a : Account) where
  pub values_start : Standing layouts handles old t a → FoundValues layouts handles [] old t a [] old
  values_start standing = record {
    pushes = pushes_none layouts handles 0 old t a standing;
    stand = record { same_count = refl; each = λ i r v e f. absurd (none-some r e) };
  }

  module _ (xs : List ImageValue) (raws : List RawValue) (mid new : StoreView ℕ) (found : FoundValues layouts handles xs old t a raws mid) (v : ImageValue) where
    pub values_more : (front : List ImageValue) (r : RawValue) → front ≡ xs ++ v ∷ [] → FindsRawValue layouts handles v mid found.pushes.table a (Ok r) new → FoundValues layouts handles front old t a (raws ++ r ∷ []) new
    values_more front r is one =
        let both = pushes_twice layouts handles (sum_by value_present xs) (value_present v) old t a mid new found.pushes one.0 in
        let count : sum_by value_present xs + value_present v ≤ sum_by value_present (xs ++ v ∷ []) = (let sums = sum_by_push value_present xs v in omega (arith, sums)) in
        let values : map (early_value (length handles)) (xs ++ v ∷ []) ≡ map (early_value (length handles)) xs ++ early_value (length handles) v ∷ [] = map-append (early_value (length handles)) xs (v ∷ []) in
        subst (λ (vs : List ImageValue). FoundValues layouts handles vs old t a (raws ++ r ∷ []) new) (sym is) (record {
          pushes = pushes_more layouts handles (sum_by value_present xs + value_present v) (sum_by value_present (xs ++ v ∷ [])) old t a new count both;
          stand = subst (AllStand new one.0.table (raws ++ r ∷ [])) (sym values)
              (all_push new one.0.table raws (map (early_value (length handles)) xs) r (early_value (length handles) v)
              (all_stay mid new found.pushes.table one.0.table one.0.stays raws (map (early_value (length handles)) xs) found.stand) one.1);
        })

    cause_later : (m n whole : ℕ) (why : LoadFault) → length mid.scoped ≤ length old.scoped + m → mid.max_scoped ≡ old.max_scoped → m + n ≤ whole → StopsAtRoots n mid why → StopsAtRoots whole old why
    cause_later m n whole fault.BadImage few same below cause = cause
    cause_later m n whole fault.TooLarge few same below cause = cause
    cause_later m n whole fault.RootsFull few same below cause = let past : mid.max_scoped < length mid.scoped + n = cause in omega (arith, few, same, below, past)
    cause_later m n whole (fault.HeapOutOfMemory f) few same below cause = cause
    cause_later m n whole fault.Memory few same below cause = tt

    -- one stopped them
    pub values_failed : (all : List ImageValue) (why : LoadFault) → sum_by value_present (xs ++ v ∷ []) ≤ sum_by value_present all → FindsRawValue layouts handles v mid found.pushes.table a (Err why) new → FailedValues layouts handles all old t a why new
    values_failed all why part one =
        let sums = sum_by_push value_present xs v in
        record {
          pushes = pushes_more layouts handles (sum_by value_present xs + 0) (sum_by value_present all) old t a new (omega (arith, sums, part)) (pushes_twice layouts handles (sum_by value_present xs) 0 old t a mid new found.pushes one.0);
          cause = cause_later (sum_by value_present xs) (value_present v) (sum_by value_present all) why found.pushes.few found.pushes.same.max_scoped (omega (arith, sums, part)) one.1;
        }

    -- want of memory behind one
    pub values_memory : (all : List ImageValue) (r : RawValue) → sum_by value_present (xs ++ v ∷ []) ≤ sum_by value_present all → FindsRawValue layouts handles v mid found.pushes.table a (Ok r) new → FailedValues layouts handles all old t a fault.Memory new
    values_memory all r part one =
        let sums = sum_by_push value_present xs v in
        record {
          pushes = pushes_more layouts handles (sum_by value_present xs + value_present v) (sum_by value_present all) old t a new (omega (arith, sums, part)) (pushes_twice layouts handles (sum_by value_present xs) (value_present v) old t a mid new found.pushes one.0);
          cause = tt;
        }

-- the front of a list with one more
pub front_more : {X : Type 0} (xs : List X) (i : ℕ) (x : X) → i < length xs → x ≡ get_or xs i x → take (i + 1) xs ≡ take i xs ++ x ∷ []
front_more xs i x below is = take_more xs i x below ∙ ap (λ y. take i xs ++ y ∷ []) (sym is)

pub front_part : (xs : List ImageValue) (i : ℕ) (v : ImageValue) → i < length xs → v ≡ get_or xs i v → sum_by value_present (take i xs ++ v ∷ []) ≤ sum_by value_present xs
front_part xs i v below is = subst (λ (ys : List ImageValue). sum_by value_present ys ≤ sum_by value_present xs) (front_more xs i v below is) (sum_by-take-le value_present xs (i + 1))

-- so of what globals hold
pub mapped_more : {X : Type 0} (f : X → ImageValue) (xs : List X) (i : ℕ) (x : X) → i < length xs → x ≡ get_or xs i x → map f (take (i + 1) xs) ≡ map f (take i xs) ++ f x ∷ []
mapped_more f xs i x below is = ap (map f) (front_more xs i x below is) ∙ map-append f (take i xs) (x ∷ [])

pub mapped_part : {X : Type 0} (f : X → ImageValue) (xs : List X) (i : ℕ) (x : X) → i < length xs → x ≡ get_or xs i x → sum_by value_present (map f (take i xs) ++ f x ∷ []) ≤ sum_by value_present (map f xs)
mapped_part f xs i x below is =
    let whole : map f xs ≡ map f (take (i + 1) xs) ++ map f (drop (i + 1) xs) = ap (map f) (sym (take-append-drop (i + 1) xs)) ∙ map-append f (take (i + 1) xs) (drop (i + 1) xs) in
    let sums = ap (sum_by value_present) whole ∙ sum_by-append value_present (map f (take (i + 1) xs)) (map f (drop (i + 1) xs)) in
    let front = ap (sum_by value_present) (mapped_more f xs i x below is) in
    omega (arith, sums, front)
