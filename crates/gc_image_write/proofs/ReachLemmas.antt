-- Where the globals reach all objects the rule is done with them, and so it goes with a renaming.
use Rattle.std.proofs.Common.{◌≡◌, ℕ, ◌+◌, ◌≤◌, ◌<◌, ⊎_elim, suc, zero, List, [], ◌∷◌, get_or, length, map, Option, Some, refl, sym, ap, ap₂, subst, ◌∙◌, arith}
use Rattle.std.specs.List.{range_with_len, slice_get}
use Rattle.std.proofs.lemmas.Bool.{cases_eq}
use Rattle.std.proofs.lemmas.List.{length-map}
use Rattle.std.proofs.lemmas.Option.{none-some, slice_get-get_or, slice_get_within}
use Rattle.gc_view.specs.Reach.{Reachable, by_start, by_step}
use Rattle.gc_image_write.specs.Order.{IsOrder}
use Rattle.gc_image_write.specs.Renaming.{AreAllReached, IsWithin, Renames}
use Rattle.gc_image_write.specs.Visiting.{Graph, IsVisited, Visited, Followed, over, along, Numbered, done, held, IsNumbering}
use Rattle.gc_image_write.proofs.FewLemmas.{order_long}
use Rattle.gc_image_write.proofs.RenameLemmas.{numbered_renamed, renamed_at, renamed_element}
use Rattle.gc_image_write.proofs.VisitLemmas.{Extends, numbering_one, same_element, stands_still, visited_all, visited_known, visited_more, visited_none}

pub below_range : (a n k x : ℕ) → slice_get (range_with_len a n) k ≡ Some x → (x ≡ a + k) × (k < n)
below_range a zero k x e = absurd (none-some x e)
below_range a (suc n) zero x e = let both : Some a ≡ Some x = e in let same : a ≡ x = cc in (omega (arith, same), omega arith)
below_range a (suc n) (suc k) x e = let rest = below_range (a + 1) n k x e in (omega (arith, rest.0), omega (arith, rest.1))

-- numbers that each are their index
in_turn : (a : ℕ) (xs : List ℕ) → ((k x : ℕ) → slice_get xs k ≡ Some x → x ≡ a + k) → xs ≡ range_with_len a (length xs)
in_turn a [] each = refl
in_turn a (x ∷ xs) each =
    ap₂ (λ y ys. y ∷ ys) (each 0 x refl ∙ omega arith) (in_turn (a + 1) xs (λ k y e. let at = each (suc k) y e in omega (arith, at)))

module _ (graph : Graph) where
  pub followed_more : {n : ℕ} {order after : List ℕ} → Followed graph.early graph.named n order after → Extends order after
  followed_more (over at_end) n x e = e
  followed_more (along there v f) n x e = followed_more f n x (visited_more graph.early v n x e)

  pub numbered_more : {xs order after : List ℕ} → Numbered graph.early graph.named xs order after → Extends order after
  numbered_more done n x e = e
  numbered_more (held v f rest) n x e = numbered_more rest n x (followed_more f n x (visited_more graph.early v n x e))

  -- what the first of an order name stands in it
  abbrev HasNamed : ℕ → List ℕ → Type 0
  HasNamed count order = (n x y : ℕ) → n < count → slice_get order n ≡ Some x → IsVisited (graph.named x) y → IsVisited order y

  -- an element of a longer order whose number is one of the shorter
  old_element : (old new : List ℕ) (n x : ℕ) → Extends old new → n < length old → slice_get new n ≡ Some x → slice_get old n ≡ Some x
  old_element [] new n x more low e = absurd (omega (arith, low))
  old_element (z ∷ zs) new n x more low e =
      let there = slice_get-get_or (z ∷ zs) n z low in
      there ∙ ap Some (same_element new n (get_or (z ∷ zs) n z) x (more n (get_or (z ∷ zs) n z) there) e)

  has_still : (count : ℕ) (old new : List ℕ) → Extends old new → count ≤ length old → HasNamed count old → HasNamed count new
  has_still count old new more low has n x y below e named =
      stands_still old new y more (has n x y below (old_element old new n x more (omega (arith, below, low)) e) named)

  has_more : (count x : ℕ) (order mid : List ℕ) → HasNamed count order → slice_get order count ≡ Some x → Visited graph.early (graph.named x) order mid → HasNamed (count + 1) mid
  has_more count x order mid has there v n z y below e named =
      let more = visited_more graph.early v in
      ⊎_elim
      (λ same.
      let is : z ≡ x = same_element mid n z x e (more n x (subst (λ k. slice_get order k ≡ Some x) (sym same) there)) in
      visited_all graph.early v y (subst (λ w. IsVisited (graph.named w) y) is named))
      (λ other. has_still count order mid more (omega (arith, slice_get_within order count x there)) has n z y (omega (arith, below, other)) e named) (cases_eq n count)

  followed_has : {n : ℕ} {order after : List ℕ} → Followed graph.early graph.named n order after → HasNamed n order → HasNamed (length after) after
  followed_has {n} {order} (over at_end) has = λ k x y below e named. has k x y (omega (arith, below, at_end)) e named
  followed_has {n} {order} (along {x = x} {mid = mid} there v f) has = followed_has f (has_more n x order mid has there v)

  numbered_has : {xs order after : List ℕ} → Numbered graph.early graph.named xs order after → HasNamed (length order) order → HasNamed (length after) after × ((x : ℕ) → IsVisited xs x → IsVisited after x)
  numbered_has done has = (has, λ x at. absurd (none-some x at.1))
  numbered_has {xs = z ∷ zs} {order} {after} (held {mid = mid} {next = next} v f rest) has =
      let later = numbered_has rest (followed_has f (has_still (length order) order mid (visited_more graph.early v) (omega arith) has)) in (
        later.0,
        λ x at. first_or_later x at.0 at.1 (λ n e. later.1 x (n, e)) (stands_still next after z (numbered_more rest) (stands_still mid next z (followed_more f) (visited_all graph.early v z (0, refl)))),
      )
    where
      first_or_later : (x n : ℕ) → slice_get (z ∷ zs) n ≡ Some x → ((k : ℕ) → slice_get zs k ≡ Some x → IsVisited after x) → IsVisited after z → IsVisited after x
      first_or_later x zero e later first = subst (IsVisited after) (let both : Some z ≡ Some x = e in cc) first
      first_or_later x (suc n) e later first = later n e

  reached_stands : (order : List ℕ) → HasNamed (length order) order → ((x : ℕ) → IsVisited graph.globals x → IsVisited order x) → {x : ℕ} → Reachable (IsVisited graph.globals) (λ y. IsVisited (graph.named y)) x
      → IsVisited order x
  reached_stands order has globals {x} (by_start is) = globals x is
  reached_stands order has globals {x} (by_step {y = y} reached named) =
      let at = reached_stands order has globals reached in has at.0 y x (slice_get_within order at.0 y at.1) at.1 named

  -- each object that is reached stands behind the globals
  pub all_stand : (count : ℕ) (order : List ℕ) → AreAllReached graph count → Numbered graph.early graph.named graph.globals [] order → (x : ℕ) → x < count → IsVisited order x
  all_stand count order all numbered x low =
      let has = numbered_has numbered (λ n z y below e named. absurd (omega (arith, below))) in reached_stands order has.0 has.1 (all x low)

  -- so there is no rest
  pub no_rest : (count : ℕ) (order : List ℕ) → AreAllReached graph count → (is : IsNumbering graph count order) → order ≡ is.reached
  no_rest count order all is =
      visited_none graph.early is.rest (λ x at. let range = below_range 0 count at.0 x at.1 in all_stand count is.reached all is.globals x (omega (arith, range.0, range.1)))

-- the rule goes with a renaming
module _ (graph other : Graph) (count : ℕ) (name : ℕ → ℕ) (renames : Renames graph other count name) (within : IsWithin graph count) (all : AreAllReached graph count) where
  pub numbering_carried : (order : List ℕ) → IsNumbering graph count order → IsNumbering other count (map name order)
  numbering_carried order is =
      let none : (x : ℕ) → IsVisited [] x → x < count = λ x stands. absurd (none-some x stands.1) in
      let carried = numbered_renamed graph count within other name renames is.globals within.globals none in
      let over : order ≡ is.reached = no_rest graph count order all is in
      let stand : (y : ℕ) → IsVisited (range_with_len 0 count) y → IsVisited (map name is.reached) y =
      λ y stands.
      let range = below_range 0 count stands.0 y stands.1 in
      let x = renames.onto y (omega (arith, range.0, range.1)) in
      let there = all_stand graph count is.reached all is.globals x.0 x.1.0 in
      (there.0, renamed_at name is.reached there.0 x.0 there.1 ∙ ap Some x.1.1) in
      record {
        reached = map name is.reached;
        globals = subst (λ xs. Numbered other.early other.named xs [] (map name is.reached)) (sym renames.globals) carried;
        rest =
            subst (λ o. Visited other.early (range_with_len 0 count) (map name is.reached) (map name o)) (sym over) (visited_known other.early (range_with_len 0 count) (map name is.reached) stand);
      }

  -- so the order of the other graph is that one
  pub numbering_renamed : (order again : List ℕ) → IsNumbering graph count order → IsNumbering other count again → again ≡ map name order
  numbering_renamed order again is also = numbering_one other count again (map name order) also (numbering_carried order is)

  -- objects that get their places as numbers stand in turn
  pub numbering_in_turn : (early : ℕ → ℕ → Option ℕ) (order : List ℕ) → IsOrder early count order → ((n x : ℕ) → slice_get order n ≡ Some x → name x ≡ n) → IsNumbering graph count order
      → IsNumbering other count (range_with_len 0 count)
  numbering_in_turn early order is_order places is =
      let turn : (k x : ℕ) → slice_get (map name order) k ≡ Some x → x ≡ 0 + k =
      λ k x e. let old = renamed_element name order k x e in sym old.1.1 ∙ places k old.0 old.1.0 ∙ omega arith in
      let same : map name order ≡ range_with_len 0 count =
      in_turn 0 (map name order) turn ∙ ap (range_with_len 0) (length-map order name ∙ order_long early count order is_order) in
      subst (IsNumbering other count) same (numbering_carried order is)
