-- The rule of numbering goes with a renaming of the objects.
use Rattle.std.proofs.Common.{◌≡◌, ℕ, ◌<◌, ⊎_elim, suc, zero, List, [], ◌∷◌, ◌++◌, map, Some, refl, sym, ap, subst, ◌∙◌, arith}
use Rattle.std.specs.List.{slice_get}
use Rattle.std.specs.Option.{option_map}
use Rattle.std.proofs.lemmas.List.{length-map}
use Rattle.std.proofs.lemmas.Option.{none-some, slice_get-map}
use Rattle.gc_image_write.specs.Renaming.{IsWithin, Renames}
use Rattle.gc_image_write.specs.Visiting.{Graph, IsVisited, Visited, none, known, fresh, Followed, over, along, Numbered, done, held}
use Rattle.gc_model.proofs.Lists.{slice_get-push_cases}

-- an element of a list whose objects were renamed
pub renamed_element : (name : ℕ → ℕ) (xs : List ℕ) (n y : ℕ) → slice_get (map name xs) n ≡ Some y → (x : ℕ) × ((slice_get xs n ≡ Some x) × (name x ≡ y))
renamed_element name [] n y e = absurd (none-some y e)
renamed_element name (x ∷ xs) zero y e = (x, (refl, let both : Some (name x) ≡ Some y = e in cc))
renamed_element name (x ∷ xs) (suc n) y e = renamed_element name xs n y e

renamed_push : (name : ℕ → ℕ) (xs : List ℕ) (x : ℕ) → map name (xs ++ x ∷ []) ≡ map name xs ++ name x ∷ []
renamed_push name [] x = refl
renamed_push name (y ∷ xs) x = ap (λ zs. name y ∷ zs) (renamed_push name xs x)

pub renamed_at : (name : ℕ → ℕ) (xs : List ℕ) (n x : ℕ) → slice_get xs n ≡ Some x → slice_get (map name xs) n ≡ Some (name x)
renamed_at name xs n x e = slice_get-map name xs n ∙ ap (option_map name) e

abbrev AreUnder : ℕ → List ℕ → Type 0
AreUnder count xs = (x : ℕ) → IsVisited xs x → x < count

under_push : (count : ℕ) (xs : List ℕ) (x : ℕ) → AreUnder count xs → x < count → AreUnder count (xs ++ x ∷ [])
under_push count xs x all low y at = ⊎_elim (λ old. all y (at.0, old)) (λ new. subst (λ z. z < count) new.1 low) (slice_get-push_cases xs x at.0 y at.1)

module _ (graph : Graph) (count : ℕ) (within : IsWithin graph count) where
  pub visited_under : {xs order after : List ℕ} → Visited graph.early xs order after → AreUnder count xs → AreUnder count order → AreUnder count after
  visited_under none few all = all
  visited_under (known is v) few all = visited_under v (λ y at. few y (suc at.0, at.1)) all
  visited_under (fresh {x = x} {mid = mid} isnt first v) few all =
      let low : x < count = few x (0, refl) in
      visited_under v (λ y at. few y (suc at.0, at.1)) (under_push count mid x (visited_under first (λ y at. within.early x y low at) all) low)

  followed_under : {n : ℕ} {order after : List ℕ} → Followed graph.early graph.named n order after → AreUnder count order → AreUnder count after
  followed_under (over at_end) all = all
  followed_under {n} (along {x = x} there v f) all = followed_under f (visited_under v (λ y at. within.named x y (all x (n, there)) at) all)

  module _ (other : Graph) (name : ℕ → ℕ) (renames : Renames graph other count name) where
    isnt_renamed : (order : List ℕ) (x : ℕ) → AreUnder count order → x < count → (¬ IsVisited order x) → ¬ IsVisited (map name order) (name x)
    isnt_renamed order x all low isnt at =
        let back = renamed_element name order at.0 (name x) at.1 in
        isnt (at.0, back.1.0 ∙ ap Some (renames.apart back.0 x (all back.0 (at.0, back.1.0)) low back.1.1))

    visited_renamed : {xs order after : List ℕ} → Visited graph.early xs order after → AreUnder count xs → AreUnder count order → Visited other.early (map name xs) (map name order) (map name after)
    visited_renamed none few all = none
    visited_renamed {order = order} (known {x = x} is v) few all = known (is.0, renamed_at name order is.0 x is.1) (visited_renamed v (λ y at. few y (suc at.0, at.1)) all)
    visited_renamed {order = order} {after = after} (fresh {x = x} {xs = xs} {mid = mid} isnt first v) few all =
        let low : x < count = few x (0, refl) in
        let ready : AreUnder count mid = visited_under first (λ y at. within.early x y low at) all in
        fresh (isnt_renamed order x all low isnt)
        (subst (λ ys. Visited other.early ys (map name order) (map name mid)) (sym (renames.early x low)) (visited_renamed first (λ y at. within.early x y low at) all))
        (subst (λ o. Visited other.early (map name xs) o (map name after)) (renamed_push name mid x) (visited_renamed v (λ y at. few y (suc at.0, at.1)) (under_push count mid x ready low)))

    followed_renamed : {n : ℕ} {order after : List ℕ} → Followed graph.early graph.named n order after → AreUnder count order → Followed other.early other.named n (map name order) (map name after)
    followed_renamed {n} {order} (over at_end) all = over (omega (arith, at_end, length-map order name))
    followed_renamed {n} {order} (along {x = x} {mid = mid} there v f) all =
        let low : x < count = all x (n, there) in
        along (renamed_at name order n x there)
        (subst (λ ys. Visited other.early ys (map name order) (map name mid)) (sym (renames.named x low)) (visited_renamed v (λ y at. within.named x y low at) all))
        (followed_renamed f (visited_under v (λ y at. within.named x y low at) all))

    pub numbered_renamed : {xs order after : List ℕ} → Numbered graph.early graph.named xs order after → AreUnder count xs → AreUnder count order → Numbered other.early other.named (map name xs) (map name order) (map name after)
    numbered_renamed done few all = done
    numbered_renamed {order = order} (held {x = x} {mid = mid} {next = next} v f rest) few all =
        let one : AreUnder count (x ∷ []) = under_push count [] x (λ y at. absurd (none-some y at.1)) (few x (0, refl)) in
        let reached : AreUnder count mid = visited_under v one all in
        held (visited_renamed v one all) (subst (λ n. Followed other.early other.named n (map name mid) (map name next)) (sym (length-map order name)) (followed_renamed f reached))
        (numbered_renamed rest (λ y at. few y (suc at.0, at.1)) (followed_under f reached))
