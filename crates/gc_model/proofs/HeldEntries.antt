-- The entries of a finite map over numbers: what is found in it, and images of its keys that differ.
use Rattle.std.proofs.Common.{◌≡◌, ◌≢◌, ℕ, zero, suc, ◌<◌, ◌&&◌, Bool, true, false, cond, T, nat_eq, List, [], ◌∷◌, map, Some, Contains, inl, inr, refl, sym, ap, ap₂, ◌∙◌, subst, arith, eq-eqb, ne_eqb}
use Rattle.std.specs.List.{slice_get, IsDistinct, AllByRecursion}
use Rattle.std.specs.Ordering.{nat_cmp, is_lt}
use Rattle.std.specs.declared.cmp.Ordering.{Ordering}
use Rattle.std.specs.declared.cmp.Ordering.TheVariants.{Less, Equal, Greater}
use Rattle.std.specs.Cmp.{unsigned_tied}
use Rattle.std.specs.FinMap.{FinMap, find, is_sorted, get, entries, entries_sorted, get-entries}
use Rattle.std.specs.FinMap.Entries.{below_all}
use Rattle.std.proofs.lemmas.Bool.{cases_eq}
use Rattle.std.proofs.lemmas.Cmp.{ranked}
use Rattle.std.proofs.lemmas.Option.{none-some}
use Rattle.gc_model.proofs.CollectedLists.{get_contains, contains_map}
use Rattle.std.proofs.lemmas.List.Elements.{Contains-append_right}

first : (a b : Bool) → T (a && b) → T a
first true b p = tt
first false b p = p

second : (a b : Bool) → T (a && b) → T b
second true b p = p
second false b p = absurd p

less : (o : Ordering) → T (is_lt o) → Less ≡ o
less Less p = refl
less Equal p = absurd p
less Greater p = absurd p

module _ {X : Type 0} where
  below_key : (k : ℕ) (es : List (ℕ × X)) → T (below_all nat_cmp k es) → (i : ℕ) (e : ℕ × X) → slice_get es i ≡ Some e → k < e.0
  below_key k [] below i e is = absurd (none-some e is)
  below_key k (x ∷ es) below zero e is =
      let same : x ≡ e = grind (arith, is) in
      subst (λ (y : ℕ × X). k < y.0) same (ranked k x.0 Less (less (nat_cmp k x.0) (first (is_lt (nat_cmp k x.0)) (below_all nat_cmp k es) below)))
  below_key k (x ∷ es) below (suc i) e is = below_key k es (second (is_lt (nat_cmp k x.0)) (below_all nat_cmp k es) below) i e is

  found_entry : (es : List (ℕ × X)) → T (is_sorted nat_cmp es) → (i : ℕ) (e : ℕ × X) → slice_get es i ≡ Some e → find nat_cmp e.0 es ≡ Some e.1
  found_entry [] sorted i e is = absurd (none-some e is)
  found_entry (x ∷ es) sorted zero e is =
      let same : x ≡ e = grind (arith, is) in
      ap (λ b. cond b (Some x.1) (find nat_cmp e.0 es)) (unsigned_tied e.0 x.0 ∙ eq-eqb e.0 x.0 (ap (λ (y : ℕ × X). y.0) (sym same))) ∙ ap (λ (y : ℕ × X). Some y.1) same
  found_entry (x ∷ es) sorted (suc i) e is =
      let rise = below_key x.0 es (first (below_all nat_cmp x.0 es) (is_sorted nat_cmp es) sorted) i e is in
      ap (λ b. cond b (Some x.1) (find nat_cmp e.0 es)) (unsigned_tied e.0 x.0 ∙ ne_eqb e.0 x.0 (λ same. omega arith))
      ∙ found_entry es (second (below_all nat_cmp x.0 es) (is_sorted nat_cmp es) sorted) i e is

  entry_found : (es : List (ℕ × X)) (q : ℕ) (v : X) → find nat_cmp q es ≡ Some v → (i : ℕ) × (slice_get es i ≡ Some (q, v))
  entry_found [] q v is = absurd (none-some v is)
  entry_found (x ∷ es) q v is = elim (cases_eq q x.0) [
    | inl same ↦
        let both : Some x.1 ≡ Some v = sym (ap (λ b. cond b (Some x.1) (find nat_cmp q es)) (unsigned_tied q x.0 ∙ eq-eqb q x.0 same)) ∙ is in
        let value : x.1 ≡ v = grind (arith, both) in
        (0, ap₂ (λ (k : ℕ) (y : X). Some (k, y)) (sym same) value)
    | inr other ↦
        let later = entry_found es q v (sym (ap (λ b. cond b (Some x.1) (find nat_cmp q es)) (unsigned_tied q x.0 ∙ ne_eqb q x.0 other)) ∙ is) in
        (suc later.0, later.1)
  ]

  -- an entry is found by its key
  pub held_entry : (m : FinMap nat_cmp X) (i : ℕ) (e : ℕ × X) → slice_get (entries m) i ≡ Some e → get m e.0 ≡ Some e.1
  held_entry m i e is = get-entries m e.0 ∙ found_entry (entries m) (entries_sorted m) i e is

  -- what is found is an entry
  pub entry_held : (m : FinMap nat_cmp X) (q : ℕ) (v : X) → get m q ≡ Some v → (i : ℕ) × (slice_get (entries m) i ≡ Some (q, v))
  entry_held m q v is = entry_found (entries m) q v (sym (get-entries m q) ∙ is)

-- a number that differs from all of a list
pub all_others : (x : ℕ) (ys : List ℕ) → ((y : ℕ) → Contains ys y → x ≢ y) → AllByRecursion (λ y. nat_eq x y ≡ false) ys
all_others x [] differ = tt
all_others x (y ∷ ys) differ = (
  ne_eqb x y (differ y (get_contains (y ∷ ys) 0 y refl)),
  all_others x ys (λ z c. differ z (Contains-append_right (y ∷ []) ys z c)),
)

module _ {X : Type 0} (f : ℕ → ℕ) where
  images_differ : (es : List (ℕ × X)) → T (is_sorted nat_cmp es) → ((i j : ℕ) (d e : ℕ × X) → slice_get es i ≡ Some d → slice_get es j ≡ Some e → f d.0 ≡ f e.0 → d.0 ≡ e.0) → IsDistinct nat_eq (map (λ (e : ℕ × X). f e.0) es)
  unfolding IsDistinct
  images_differ [] sorted injective = tt
  images_differ (x ∷ es) sorted injective = (
    all_others (f x.0) (map (λ (e : ℕ × X). f e.0) es) (λ y c same.
        let found = contains_map (λ (e : ℕ × X). f e.0) es y c in
        let rise = below_key x.0 es (first (below_all nat_cmp x.0 es) (is_sorted nat_cmp es) sorted) found.index found.element found.there in
        let equal = injective 0 (suc found.index) x found.element refl found.there (same ∙ sym found.is) in
        omega (arith, rise, equal)),
    images_differ es (second (below_all nat_cmp x.0 es) (is_sorted nat_cmp es) sorted) (λ i j. injective (suc i) (suc j)),
  )

  -- the images of the keys differ where no two keys have one
  pub keys_differ : (m : FinMap nat_cmp X) → ((p q : ℕ) (x y : X) → get m p ≡ Some x → get m q ≡ Some y → f p ≡ f q → p ≡ q) → IsDistinct nat_eq (map (λ (e : ℕ × X). f e.0) (entries m))
  keys_differ m injective = images_differ (entries m) (entries_sorted m) (λ i j d e at_i at_j. injective d.0 e.0 d.1 e.1 (held_entry m i d at_i) (held_entry m j e at_j))
