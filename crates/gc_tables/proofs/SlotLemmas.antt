-- Lists of places as finite maps.
use Rattle.std.proofs.Common.{◌≡◌, ◌≢◌, ◌⊎◌, inl, inr, ℕ, zero, suc, ◌+◌, ◌-◌, ◌<◌, ◌==◌, ◌&&◌, Bool, true, false, cond, T, List, [], ◌∷◌, ◌++◌, length, get_or, set, Option, Some, None, is_some, IsSome, IsTrue, true≢false, refl, sym, ap, subst, ◌∙◌, arith, eq-eqb, ne_eqb}
use Rattle.std.proofs.lemmas.Bool.{cases_eq, cases_order}
use Rattle.std.proofs.lemmas.List.{get_or-set_same, get_or-set_other, get_or_past, get_or-append-add}
use Rattle.std.specs.Ordering.{nat_cmp, eq_by_cmp, is_lt}
use Rattle.std.specs.declared.cmp.Ordering.{Ordering}
use Rattle.std.specs.declared.cmp.Ordering.TheVariants.{Less}
use Rattle.std.specs.Cmp.{nat_cmp_total, unsigned_tied, nat_cmp_is}
use Rattle.std.specs.FinMap as finite
use Rattle.std.specs.FinMap.Entries.{below_all}
use Rattle.gc_tables.specs.Slots.{numbered, map_of}

pub tied : (q i : ℕ) → q ≡ i → eq_by_cmp nat_cmp q i ≡ true
tied q i same = unsigned_tied q i ∙ eq-eqb q i same

pub apart : (q i : ℕ) → q ≢ i → eq_by_cmp nat_cmp q i ≡ false
apart q i differs = unsigned_tied q i ∙ ne_eqb q i differs

both : (a b : Bool) → T a → T b → T (a && b)
both true b p q = q
both false b p q = p

is_less : (o : Ordering) → Less ≡ o → T (is_lt o)
is_less o e = subst (λ (r : Ordering). T (is_lt r)) e tt

module _ {X : Type 0} where
  found_here : (q i : ℕ) (x y : Option X) → q ≡ i → cond (eq_by_cmp nat_cmp q i) x y ≡ x
  found_here q i x y same = ap (λ b. cond b x y) (tied q i same)

  found_behind : (q i : ℕ) (x y : Option X) → q ≢ i → cond (eq_by_cmp nat_cmp q i) x y ≡ y
  found_behind q i x y differs = ap (λ b. cond b x y) (apart q i differs)

  none_before : (slots : List (Option X)) (first q : ℕ) → q < first → finite.find nat_cmp q (numbered first slots) ≡ None
  none_before [] first q below = refl
  none_before (None ∷ rest) first q below = none_before rest (first + 1) q (omega arith)
  none_before (Some v ∷ rest) first q below =
      found_behind q first (Some v) _ (λ same. omega arith) ∙ none_before rest (first + 1) q (omega arith)

  find-numbered : (slots : List (Option X)) (first i q : ℕ) → q ≡ first + i → finite.find nat_cmp q (numbered first slots) ≡ get_or slots i None
  find-numbered [] first i q at = refl
  find-numbered (None ∷ rest) first zero q at = none_before rest (first + 1) q (omega arith)
  find-numbered (None ∷ rest) first (suc i) q at = find-numbered rest (first + 1) i q (omega arith)
  find-numbered (Some v ∷ rest) first zero q at = found_here q first (Some v) _ (omega arith)
  find-numbered (Some v ∷ rest) first (suc i) q at =
      found_behind q first (Some v) _ (λ same. omega arith) ∙ find-numbered rest (first + 1) i q (omega arith)

  below-numbered : (slots : List (Option X)) (first x : ℕ) → x < first → T (below_all nat_cmp x (numbered first slots))
  below-numbered [] first x below = tt
  below-numbered (None ∷ rest) first x below = below-numbered rest (first + 1) x (omega arith)
  below-numbered (Some v ∷ rest) first x below =
      both _ _ (is_less _ (nat_cmp_is x first Less below)) (below-numbered rest (first + 1) x (omega arith))

  pub sorted-numbered : (slots : List (Option X)) (first : ℕ) → T (finite.is_sorted nat_cmp (numbered first slots))
  sorted-numbered [] first = tt
  sorted-numbered (None ∷ rest) first = sorted-numbered rest (first + 1)
  sorted-numbered (Some v ∷ rest) first = both _ _ (below-numbered rest (first + 1) first (omega arith)) (sorted-numbered rest (first + 1))

  pub entries-map_of : (slots : List (Option X)) → finite.entries (map_of slots) ≡ numbered 0 slots
  entries-map_of slots = finite.entries-from_sorted nat_cmp (numbered 0 slots) (sorted-numbered slots 0)

  pub get-map_of : (slots : List (Option X)) (q : ℕ) → finite.get (map_of slots) q ≡ get_or slots q None
  get-map_of slots q =
      finite.get-from_sorted nat_cmp (numbered 0 slots) q (sorted-numbered slots 0)
      ∙ find-numbered slots 0 q q (omega arith)

  -- places that differ at one id alone, which now has a value
  inserted : (old new : List (Option X)) (id : ℕ) (v : X)
      → ((q : ℕ) → get_or new q None ≡ cond (eq_by_cmp nat_cmp q id) (Some v) (get_or old q None))
      → map_of new ≡ finite.insert (map_of old) id v
  inserted old new id v is =
      finite.same_map nat_cmp_total finite.nat_cmp-IsAntisymmetric _ _ (λ q.
      get-map_of new q ∙ is q
      ∙ sym (finite.get-insert nat_cmp_total (map_of old) id v q ∙ ap (cond (eq_by_cmp nat_cmp q id) (Some v)) (get-map_of old q)))

  removed : (old new : List (Option X)) (id : ℕ)
      → ((q : ℕ) → get_or new q None ≡ cond (eq_by_cmp nat_cmp q id) None (get_or old q None))
      → map_of new ≡ finite.remove (map_of old) id
  removed old new id is =
      finite.same_map nat_cmp_total finite.nat_cmp-IsAntisymmetric _ _ (λ q.
      get-map_of new q ∙ is q
      ∙ sym (finite.get-remove nat_cmp_total (map_of old) id q ∙ ap (cond (eq_by_cmp nat_cmp q id) None) (get-map_of old q)))

  get_or-written : (slots : List (Option X)) (id : ℕ) (x : Option X) (q : ℕ) → id < length slots
      → get_or (set slots id x) q None ≡ cond (eq_by_cmp nat_cmp q id) x (get_or slots q None)
  get_or-written slots id x q within =
      elim (cases_eq q id) [
        | inl same ↦ ap (λ k. get_or (set slots id x) k None) same ∙ get_or-set_same slots id x None within ∙ sym (found_here q id x _ same)
        | inr differs ↦ get_or-set_other slots id q x None differs ∙ sym (found_behind q id x _ differs)
      ]

  pub map_of-set_some : (slots : List (Option X)) (id : ℕ) (v : X) → id < length slots → map_of (set slots id (Some v)) ≡ finite.insert (map_of slots) id v
  map_of-set_some slots id v within = inserted slots _ id v (λ q. get_or-written slots id (Some v) q within)

  pub map_of-set_none : (slots : List (Option X)) (id : ℕ) → id < length slots → map_of (set slots id None) ≡ finite.remove (map_of slots) id
  map_of-set_none slots id within = removed slots _ id (λ q. get_or-written slots id None q within)

  get_or-pushed : (slots : List (Option X)) (x : Option X) (q : ℕ)
      → get_or (slots ++ x ∷ []) q None ≡ cond (eq_by_cmp nat_cmp q (length slots)) x (get_or slots q None)
  get_or-pushed [] x zero = refl
  get_or-pushed [] x (suc q) = sym (found_behind (suc q) 0 x None (λ same. omega arith))
  get_or-pushed (s ∷ rest) x zero = sym (found_behind 0 (suc (length rest)) x s (λ same. omega arith))
  get_or-pushed (s ∷ rest) x (suc q) =
      get_or-pushed rest x q
      ∙ elim (cases_eq q (length rest)) [
        | inl same ↦ found_here q _ x _ same ∙ sym (found_here (suc q) _ x _ (ap suc same))
        | inr differs ↦ found_behind q _ x _ differs ∙ sym (found_behind (suc q) _ x _ (λ same. differs (omega arith)))
      ]

  pub map_of-push : (slots : List (Option X)) (v : X) → map_of (slots ++ Some v ∷ []) ≡ finite.insert (map_of slots) (length slots) v
  map_of-push slots v = inserted slots _ (length slots) v (get_or-pushed slots (Some v))

-- how many entries there are after one more, and after one less
module _ {X : Type 0} (m : finite.FinMap nat_cmp X) (id : ℕ) where
  pub len-added : (v : X) → finite.get m id ≡ None → finite.len (finite.insert m id v) ≡ finite.len m + 1
  len-added v none = finite.len-insert nat_cmp_total m id v ∙ ap (λ (o : Option X). cond (is_some o) (finite.len m) (finite.len m + 1)) none

  pub len-replaced : (v w : X) → finite.get m id ≡ Some v → finite.len (finite.insert m id w) ≡ finite.len m
  len-replaced v w some = finite.len-insert nat_cmp_total m id w ∙ ap (λ (o : Option X). cond (is_some o) (finite.len m) (finite.len m + 1)) some

  pub len-removed : (v : X) → finite.get m id ≡ Some v → finite.len (finite.remove m id) ≡ finite.len m - 1
  len-removed v some = finite.len-remove nat_cmp_total m id ∙ ap (λ (o : Option X). cond (is_some o) (finite.len m - 1) (finite.len m)) some

  pub remove-absent : finite.get m id ≡ None → finite.remove m id ≡ m
  remove-absent none =
      finite.same_map nat_cmp_total finite.nat_cmp-IsAntisymmetric _ _ (λ q. finite.get-remove nat_cmp_total m id q ∙ kept q)
    where
      kept : (q : ℕ) → cond (eq_by_cmp nat_cmp q id) None (finite.get m q) ≡ finite.get m q
      kept q =
          elim (cases_eq q id) [
            | inl same ↦ found_here q id None _ same ∙ sym (ap (finite.get m) same ∙ none)
            | inr differs ↦ found_behind q id None _ differs
          ]

-- what has no value is none
pub none_of_absent : {X : Type 0} (o : Option X) → (IsSome o → IsTrue false) → o ≡ None
none_of_absent None absent = refl
none_of_absent (Some x) absent = absurd (true≢false (sym (absent refl)))
