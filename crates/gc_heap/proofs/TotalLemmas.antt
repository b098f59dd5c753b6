-- Laws of sums over a heap's content: without an object, with another in its place, and over equal maps.
use Rattle.std.specs.Prelude.{◌≡◌, ℕ, ◌+◌, ◌≤◌, ◌&&◌, List, [], ◌∷◌, true, false, cond, Option, Some, None, length, map, sum, sum_by, option_map, T}
use Rattle.std.specs.Ordering.{nat_cmp, eq_by_cmp, is_lt}
use Rattle.std.specs.FinMap.{FinMap, entries, entries_sorted, get, insert, remove, len, find, is_sorted, get-entries, len-entries, same_map, nat_cmp-IsAntisymmetric, gets}
use Rattle.std.specs.Cmp.{nat_cmp_total}
use Rattle.std.proofs.Common.{refl, sym, ap, ap₂, subst, ◌∙◌, arith}
use Rattle.std.proofs.lemmas.Grind.{common_steps}
use Rattle.std.proofs.lemmas.List.Sums.{sum-map, sum_by-cons}
use Rattle.std.specs.FinMap.Entries.{below_all, same_entries}
use Rattle.gc_view.specs.Heaps.{HeapObject}
use Rattle.gc_heap.specs.Content.{total}
use Rattle.gc_heap.specs.Totals.{total-insert}

-- what is found where it was removed, and the map with it put back
removed : (m : FinMap nat_cmp HeapObject) (k : ℕ) → get (remove m k) k ≡ None
removed m k = grind (arith, common_steps, gets)

put_back : (m : FinMap nat_cmp HeapObject) (k : ℕ) (v : HeapObject) → get m k ≡ Some v → insert (remove m k) k v ≡ m
put_back m k v is = same_map nat_cmp_total nat_cmp-IsAntisymmetric _ _ (λ q. grind (arith, common_steps, gets))

put_other : (m : FinMap nat_cmp HeapObject) (k : ℕ) (v : HeapObject) → insert (remove m k) k v ≡ insert m k v
put_other m k v = same_map nat_cmp_total nat_cmp-IsAntisymmetric _ _ (λ q. grind (arith, common_steps, gets))

-- an object that is forgotten
pub total-remove : (f : HeapObject → ℕ) (m : FinMap nat_cmp HeapObject) (k : ℕ) (v : HeapObject) → get m k ≡ Some v → total f (remove m k) + f v ≡ total f m
total-remove f m k v is = sym (total-insert f (remove m k) k v (removed m k)) ∙ ap (total f) (put_back m k v is)

-- another object at a place that holds one
pub total-replace : (f : HeapObject → ℕ) (m : FinMap nat_cmp HeapObject) (k : ℕ) (v v' : HeapObject) → get m k ≡ Some v → total f (insert m k v') + f v ≡ total f m + f v'
total-replace f m k v v' is =
    let without : total f (remove m k) + f v ≡ total f m = total-remove f m k v is in
    let with_new : total f (insert m k v') ≡ total f (remove m k) + f v' = ap (total f) (sym (put_other m k v')) ∙ total-insert f (remove m k) k v' (removed m k) in
    omega arith

-- one object alone
pub total-least : (f : HeapObject → ℕ) (m : FinMap nat_cmp HeapObject) (k : ℕ) (v : HeapObject) → get m k ≡ Some v → f v ≤ total f m
total-least f m k v is = let without : total f (remove m k) + f v ≡ total f m = total-remove f m k v is in omega arith

-- the entries with their numbers
abbrev numbers : (HeapObject → ℕ) → List (ℕ × HeapObject) → List (ℕ × ℕ)
numbers f [] = []
numbers f (e ∷ es) = (e.0, f e.1) ∷ numbers f es

map_numbers : (f : HeapObject → ℕ) (es : List (ℕ × HeapObject)) → map (λ (e : ℕ × HeapObject). f e.1) es ≡ map (λ (e : ℕ × ℕ). e.1) (numbers f es)
map_numbers f [] = refl
map_numbers f (e ∷ es) = ap (λ ns. f e.1 ∷ ns) (map_numbers f es)

sum_numbers : (f : HeapObject → ℕ) (es : List (ℕ × HeapObject)) → sum (map (λ (e : ℕ × HeapObject). f e.1) es) ≡ sum (map (λ (e : ℕ × ℕ). e.1) (numbers f es))
sum_numbers f es = ap sum (map_numbers f es)

find-numbers : (f : HeapObject → ℕ) (q : ℕ) (es : List (ℕ × HeapObject)) → find nat_cmp q (numbers f es) ≡ option_map f (find nat_cmp q es)
find-numbers f q [] = refl
find-numbers f q (e ∷ es) = elim (eq_by_cmp nat_cmp q e.0) as (λ b. cond b (Some (f e.1)) (find nat_cmp q (numbers f es)) ≡ option_map f (cond b (Some e.1) (find nat_cmp q es))) [ true ↦ refl | false ↦ find-numbers f q es ]

below_numbers : (f : HeapObject → ℕ) (k : ℕ) (es : List (ℕ × HeapObject)) → below_all nat_cmp k (numbers f es) ≡ below_all nat_cmp k es
below_numbers f k [] = refl
below_numbers f k (e ∷ es) = ap (λ b. is_lt (nat_cmp k e.0) && b) (below_numbers f k es)

is_sorted-numbers : (f : HeapObject → ℕ) (es : List (ℕ × HeapObject)) → is_sorted nat_cmp (numbers f es) ≡ is_sorted nat_cmp es
is_sorted-numbers f [] = refl
is_sorted-numbers f (e ∷ es) = ap₂ (λ a b. a && b) (below_numbers f e.0 es) (is_sorted-numbers f es)

sorted_numbers : (f : HeapObject → ℕ) (es : List (ℕ × HeapObject)) → T (is_sorted nat_cmp es) → T (is_sorted nat_cmp (numbers f es))
sorted_numbers f es h = subst T (sym (is_sorted-numbers f es)) h

-- sums are equal where the places and the numbers at them are
pub total-same : (f g : HeapObject → ℕ) (m n : FinMap nat_cmp HeapObject) → ((q : ℕ) → option_map f (get m q) ≡ option_map g (get n q)) → total f m ≡ total g n
total-same f g m n same =
    let found : (q : ℕ) → find nat_cmp q (numbers f (entries m)) ≡ find nat_cmp q (numbers g (entries n)) = λ q.
    find-numbers f q (entries m) ∙ ap (option_map f) (sym (get-entries m q)) ∙ same q ∙ ap (option_map g) (get-entries n q) ∙ sym (find-numbers g q (entries n)) in
    let alike = same_entries nat_cmp nat_cmp_total nat_cmp-IsAntisymmetric (numbers f (entries m)) (numbers g (entries n)) (sorted_numbers f (entries m) (entries_sorted m)) (sorted_numbers g (entries n) (entries_sorted n)) found in
    sum_numbers f (entries m) ∙ ap (λ es. sum (map (λ (e : ℕ × ℕ). e.1) es)) alike ∙ sym (sum_numbers g (entries n))

-- where each number is 0
pub total-zero : (f : HeapObject → ℕ) (m : FinMap nat_cmp HeapObject) → ((q : ℕ) (v : HeapObject) → get m q ≡ Some v → f v ≡ 0) → total f m ≡ 0
total-zero f m none = total-same f (λ _. 0) m m (λ q. alike (get m q) (none q)) ∙ sum-map (λ (e : ℕ × HeapObject). 0) (entries m) ∙ zeros (entries m)
  where
    alike : (o : Option HeapObject) → ((v : HeapObject) → o ≡ Some v → f v ≡ 0) → option_map f o ≡ option_map (λ _. 0) o
    alike None h = refl
    alike (Some v) h = ap Some (h v refl)

    zeros : (es : List (ℕ × HeapObject)) → sum_by (λ (e : ℕ × HeapObject). 0) es ≡ 0
    zeros [] = refl
    zeros (e ∷ es) = sum_by-cons (λ (e : ℕ × HeapObject). 0) e es ∙ ap (λ n. 0 + n) (zeros es)

-- how many objects are held, as a sum
pub len-total : (m : FinMap nat_cmp HeapObject) → len m ≡ total (λ _. 1) m
len-total m = len-entries m ∙ ones (entries m) ∙ sym (sum-map (λ (e : ℕ × HeapObject). 1) (entries m))
  where
    ones : (es : List (ℕ × HeapObject)) → length es ≡ sum_by (λ (e : ℕ × HeapObject). 1) es
    ones [] = refl
    ones (e ∷ es) = let rest = ones es in omega (arith, sum_by-cons (λ (e : ℕ × HeapObject). 1) e es)

-- how many objects are held after a change
pub len_with : (m : FinMap nat_cmp HeapObject) (k : ℕ) (v : HeapObject) → get m k ≡ None → len (insert m k v) ≡ len m + 1
len_with m k v none = len-total (insert m k v) ∙ total-insert (λ _. 1) m k v none ∙ ap (λ n. n + 1) (sym (len-total m))
