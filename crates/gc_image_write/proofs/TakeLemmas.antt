-- Visits in turn, as far as a loop over values or globals has come.
use Rattle.std.proofs.Common.{◌≡◌, ℕ, ◌+◌, ◌≤◌, ◌<◌, List, [], ◌∷◌, ◌++◌, drop, length, Option, None, Some, refl, sym, ap, subst, ◌∙◌, arith}
use Rattle.std.specs.List.{cons_option, filter_map, range_with_len, slice_get}
use Rattle.std.proofs.lemmas.List.{drop_all, drop_more}
use Rattle.std.proofs.lemmas.List.FromFn.{get_or-range_with_len, length-range_with_len}
use Rattle.std.proofs.lemmas.List.Elements.{filter_map-append}
use Rattle.std.proofs.lemmas.Option.{get_or_from_slice_get, slice_get-get_or, slice_get_within}
use Rattle.gc_image_write.specs.Visiting.{Visited, none, known, fresh, Followed, over, along, Numbered, done, held}

visited_append : (early : ℕ → List ℕ) {xs ys order mid after : List ℕ} → Visited early xs order mid → Visited early ys mid after → Visited early (xs ++ ys) order after
visited_append early none w = w
visited_append early (known is v) w = known is (visited_append early v w)
visited_append early (fresh isnt first v) w = fresh isnt first (visited_append early v w)

-- what names no object leads to none
pub visited_no : (early : ℕ → List ℕ) (order : List ℕ) (o : Option ℕ) → None ≡ o → Visited early (cons_option o []) order order
visited_no early order o is = subst (λ (p : Option ℕ). Visited early (cons_option p []) order order) is none

from_there : {A : Type 0} (xs : List A) (i : ℕ) (x : A) → slice_get xs i ≡ Some x → drop i xs ≡ x ∷ drop (i + 1) xs
from_there xs i x there = drop_more xs i x (slice_get_within xs i x there) ∙ ap (λ y. y ∷ drop (i + 1) xs) (get_or_from_slice_get xs i x x there)

module _ {A : Type 0} (early named : ℕ → List ℕ) (h : A → Option ℕ) (xs : List A) where
  -- whatever is left of the values gives, all of them give from the start
  abbrev pub Gives : ℕ → List ℕ → List ℕ → Type 0
  Gives i start order = (after : List ℕ) → Visited early (filter_map h (drop i xs)) order after → Visited early (filter_map h xs) start after

  pub gives_more : (i : ℕ) (x : A) (start order mid : List ℕ) → slice_get xs i ≡ Some x → Visited early (filter_map h (x ∷ [])) order mid → Gives i start order → Gives (i + 1) start mid
  gives_more i x start order mid there v gives after rest =
      gives after (subst (λ ys. Visited early (filter_map h ys) order after) (sym (from_there xs i x there))
      (subst (λ ys. Visited early ys order after) (sym (filter_map-append h (x ∷ []) (drop (i + 1) xs))) (visited_append early v rest)))

  pub gives_all : (i : ℕ) (start order : List ℕ) → length xs ≤ i → Gives i start order → Visited early (filter_map h xs) start order
  gives_all i start order at_end gives = gives order (subst (λ ys. Visited early (filter_map h ys) order order) (sym (drop_all i xs at_end)) none)

  held_one : (o : Option ℕ) (rest : List ℕ) {order mid next after : List ℕ} → Visited early (cons_option o []) order mid → Followed early named (length order) mid next → Numbered early named rest next after
      → Numbered early named (cons_option o rest) order after
  held_one None rest none (over at_end) more = more
  held_one None rest {order} none (along {x = x} there v f) more = absurd (omega (arith, slice_get_within order (length order) x there))
  held_one (Some x) rest v f more = held v f more

  -- and so of the globals
  abbrev pub Numbers : ℕ → List ℕ → List ℕ → Type 0
  Numbers i start order = (after : List ℕ) → Numbered early named (filter_map h (drop i xs)) order after → Numbered early named (filter_map h xs) start after

  pub numbers_more : (i : ℕ) (x : A) (start order mid next : List ℕ) → slice_get xs i ≡ Some x → Visited early (filter_map h (x ∷ [])) order mid → Followed early named (length order) mid next
      → Numbers i start order → Numbers (i + 1) start next
  numbers_more i x start order mid next there v f numbers after rest =
      numbers after (subst (λ ys. Numbered early named (filter_map h ys) order after) (sym (from_there xs i x there)) (held_one (h x) (filter_map h (drop (i + 1) xs)) v f rest))

  pub numbers_all : (i : ℕ) (start order : List ℕ) → length xs ≤ i → Numbers i start order → Numbered early named (filter_map h xs) start order
  numbers_all i start order at_end numbers = numbers order (subst (λ ys. Numbered early named (filter_map h ys) order order) (sym (drop_all i xs at_end)) done)

-- whatever following the order from here gives, following it from the start gives
abbrev pub Follows : (early named : ℕ → List ℕ) → ℕ → List ℕ → ℕ → List ℕ → Type 0
Follows early named from start n order = (after : List ℕ) → Followed early named n order after → Followed early named from start after

pub follows_more : (early named : ℕ → List ℕ) (from : ℕ) (start : List ℕ) (n x : ℕ) (order mid : List ℕ) → slice_get order n ≡ Some x → Visited early (named x) order mid
    → Follows early named from start n order → Follows early named from start (n + 1) mid
follows_more early named from start n x order mid there v follows after rest = follows after (along there v rest)

pub follows_all : (early named : ℕ → List ℕ) (from : ℕ) (start : List ℕ) (n : ℕ) (order : List ℕ) → length order ≤ n → Follows early named from start n order → Followed early named from start order
follows_all early named from start n order at_end follows = follows order (over at_end)

pub all_some : (xs : List ℕ) → filter_map Some xs ≡ xs
all_some [] = refl
all_some (x ∷ xs) = ap (λ ys. x ∷ ys) (all_some xs)

pub range_at : (n k : ℕ) → k < n → slice_get (range_with_len 0 n) k ≡ Some k
range_at n k below = slice_get-get_or (range_with_len 0 n) k 0 (omega (arith, below, length-range_with_len 0 n)) ∙ ap Some (get_or-range_with_len 0 n k 0 below ∙ omega arith)
