-- Sums over a heap's content: of no objects, and with one object more.
use Rattle.std.specs.Prelude.{◌≡◌, ℕ, ◌+◌, List, [], ◌∷◌, cond, Some, None, length, map, sum, sum_by}
use Rattle.std.specs.Ordering.{nat_cmp, is_eq}
use Rattle.std.specs.FinMap.{FinMap, entries, get, insert, empty, put, find, entries-insert, get-entries, len-entries, len-empty}
use Rattle.std.specs.Cmp.{nat_cmp_total}
use Rattle.std.specs.declared.cmp.Ordering.TheVariants.{Less, Equal, Greater}
use Rattle.std.proofs.Common.{refl, sym, ap, ◌∙◌, arith}
use Rattle.std.proofs.lemmas.List.Sums.{sum-map, sum_by-cons}
use Rattle.std.specs.FinMap.Entries.{by_order}
use Rattle.gc_view.specs.Heaps.{HeapObject}
use Rattle.gc_heap.specs.Content.{total}

-- the sum of a list of entries
abbrev sum_of_entries : (HeapObject → ℕ) → List (ℕ × HeapObject) → ℕ
sum_of_entries f es = sum_by (λ (e : ℕ × HeapObject). f e.1) es

total-entries : (f : HeapObject → ℕ) (m : FinMap nat_cmp HeapObject) → total f m ≡ sum_of_entries f (entries m)
total-entries f m = sum-map (λ (e : ℕ × HeapObject). f e.1) (entries m)

-- an entry with a new key adds its number
sum_of-put : (f : HeapObject → ℕ) (k : ℕ) (v : HeapObject) (es : List (ℕ × HeapObject)) → find nat_cmp k es ≡ None
    → sum_of_entries f (put nat_cmp k v es) ≡ sum_of_entries f es + f v
sum_of-put f k v [] none = omega arith
sum_of-put f k v (e ∷ es) none =
    let g : ℕ × HeapObject → ℕ = λ e. f e.1 in
    let at_e = sum_by-cons g e es in
    elim (nat_cmp k e.0) as (λ r. cond (is_eq r) (Some e.1) (find nat_cmp k es) ≡ None
    → sum_of_entries f (by_order r ((k, v) ∷ e ∷ es) ((e.0, v) ∷ es) (e ∷ put nat_cmp k v es)) ≡ sum_of_entries f (e ∷ es) + f v) [
      | Less ↦ λ _. sum_by-cons g (k, v) (e ∷ es) ∙ omega arith
      | Equal ↦ λ n. absurd (cc)
      | Greater ↦ λ n. let rest = sum_of-put f k v es n in sum_by-cons g e (put nat_cmp k v es) ∙ omega arith
    ] none

-- of no objects
pub total-empty : (f : HeapObject → ℕ) → total f empty ≡ 0
total-empty f = ap (λ es. sum (map (λ (e : ℕ × HeapObject). f e.1) es)) (no_entries (entries empty) (sym (len-entries empty) ∙ len-empty nat_cmp HeapObject))
  where
    no_entries : (es : List (ℕ × HeapObject)) → length es ≡ 0 → es ≡ []
    no_entries [] e = refl
    no_entries (x ∷ es) e = absurd (omega arith)

-- an object at a new place
pub total-insert : (f : HeapObject → ℕ) (m : FinMap nat_cmp HeapObject) (k : ℕ) (v : HeapObject) → get m k ≡ None → total f (insert m k v) ≡ total f m + f v
total-insert f m k v none =
    total-entries f (insert m k v)
    ∙ ap (sum_of_entries f) (entries-insert nat_cmp_total m k v)
    ∙ sum_of-put f k v (entries m) (sym (get-entries m k) ∙ none)
    ∙ ap (λ n. n + f v) (sym (total-entries f m))
