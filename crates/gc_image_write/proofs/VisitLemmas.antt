-- The rule of numbering determines the order, which only grows.
use Rattle.std.proofs.Common.{◌≡◌, ℕ, ◌+◌, suc, zero, List, [], ◌∷◌, ◌++◌, length, Some, refl, sym, subst, ◌∙◌, arith}
use Rattle.std.specs.List.{range_with_len, slice_get}
use Rattle.std.proofs.lemmas.Option.{none-some, slice_get_within}
use Rattle.gc_image_write.specs.Visiting.{Graph, IsVisited, Visited, none, known, fresh, Followed, over, along, Numbered, done, held, IsNumbering}
use Rattle.gc_model.proofs.Lists.{slice_get-push_new, slice_get-push_old}

pub visited_one : (early : ℕ → List ℕ) {xs order a b : List ℕ} → Visited early xs order a → Visited early xs order b → a ≡ b
visited_one early none none = refl
visited_one early (known is v) (known also w) = visited_one early v w
visited_one early (known is v) (fresh isnt first w) = absurd (isnt is)
visited_one early (fresh isnt first v) (known is w) = absurd (isnt is)
visited_one early (fresh {x = x} {xs = xs} isnt first v) (fresh {after = b} also second w) =
    visited_one early v (subst (λ m. Visited early xs (m ++ x ∷ []) b) (sym (visited_one early first second)) w)

pub same_element : (xs : List ℕ) (n x y : ℕ) → slice_get xs n ≡ Some x → slice_get xs n ≡ Some y → x ≡ y
same_element xs n x y e f = let both : Some x ≡ Some y = sym e ∙ f in cc

pub followed_one : (graph : Graph) {n : ℕ} {order a b : List ℕ} → Followed graph.early graph.named n order a → Followed graph.early graph.named n order b → a ≡ b
followed_one graph (over at_end) (over also) = refl
followed_one graph {n} {order} (over at_end) (along {x = x} there v f) = absurd (omega (arith, at_end, slice_get_within order n x there))
followed_one graph {n} {order} (along {x = x} there v f) (over at_end) = absurd (omega (arith, at_end, slice_get_within order n x there))
followed_one graph {n} {order} (along {x = x} {mid = mid} there v f) (along {x = y} {mid = other} {after = b} here w g) =
    let same : x ≡ y = same_element order n x y there here in
    let mids : mid ≡ other = visited_one graph.early v (subst (λ z. Visited graph.early (graph.named z) order other) (sym same) w) in
    followed_one graph f (subst (λ m. Followed graph.early graph.named (n + 1) m b) (sym mids) g)

pub numbered_one : (graph : Graph) {xs order a b : List ℕ} → Numbered graph.early graph.named xs order a → Numbered graph.early graph.named xs order b → a ≡ b
numbered_one graph done done = refl
numbered_one graph {order = order} (held {xs = xs} {mid = mid} {next = next} v f rest) (held {mid = other} {next = then} {after = b} w g more) =
    let mids : mid ≡ other = visited_one graph.early v w in
    let nexts : next ≡ then = followed_one graph f (subst (λ m. Followed graph.early graph.named (length order) m then) (sym mids) g) in
    numbered_one graph rest (subst (λ m. Numbered graph.early graph.named xs m b) (sym nexts) more)

-- the rule determines the order
pub numbering_one : (graph : Graph) (count : ℕ) (order other : List ℕ) → IsNumbering graph count order → IsNumbering graph count other → order ≡ other
numbering_one graph count order other is also =
    let same = numbered_one graph is.globals also.globals in
    visited_one graph.early is.rest (subst (λ o. Visited graph.early (range_with_len 0 count) o other) (sym same) also.rest)

-- what stands in an order has the same number in a longer one
abbrev pub Extends : List ℕ → List ℕ → Type 0
Extends old new = (n x : ℕ) → slice_get old n ≡ Some x → slice_get new n ≡ Some x

pub stands_still : (old new : List ℕ) (x : ℕ) → Extends old new → IsVisited old x → IsVisited new x
stands_still old new x more at = (at.0, more at.0 x at.1)

pub visited_more : (early : ℕ → List ℕ) {xs order after : List ℕ} → Visited early xs order after → Extends order after
visited_more early none n x e = e
visited_more early (known is v) n x e = visited_more early v n x e
visited_more early (fresh {x = y} {mid = mid} isnt first v) n x e = visited_more early v n x (slice_get-push_old mid y n x (visited_more early first n x e))

-- all that were visited stand in the order
pub visited_all : (early : ℕ → List ℕ) {xs order after : List ℕ} → Visited early xs order after → (x : ℕ) → IsVisited xs x → IsVisited after x
visited_all early none x at = absurd (none-some x at.1)
visited_all early {xs = z ∷ zs} {order} {after} (known is v) x (zero, e) = subst (IsVisited after) (let both : Some z ≡ Some x = e in cc) (stands_still order after z (visited_more early v) is)
visited_all early {xs = z ∷ zs} {order} {after} (known is v) x (suc n, e) = visited_all early v x (n, e)
visited_all early {xs = z ∷ zs} {order} {after} (fresh {mid = mid} isnt first v) x (zero, e) =
    subst (IsVisited after) (let both : Some z ≡ Some x = e in cc) (length mid, visited_more early v (length mid) z (slice_get-push_new mid z))
visited_all early {xs = z ∷ zs} {order} {after} (fresh isnt first v) x (suc n, e) = visited_all early v x (n, e)

-- where all stood in the order already, it stays
pub visited_none : (early : ℕ → List ℕ) {xs order after : List ℕ} → Visited early xs order after → ((x : ℕ) → IsVisited xs x → IsVisited order x) → after ≡ order
visited_none early none all = refl
visited_none early (known is v) all = visited_none early v (λ x at. all x (suc at.0, at.1))
visited_none early (fresh {x = x} isnt first v) all = absurd (isnt (all x (0, refl)))

pub visited_known : (early : ℕ → List ℕ) (xs order : List ℕ) → ((x : ℕ) → IsVisited xs x → IsVisited order x) → Visited early xs order order
visited_known early [] order all = none
visited_known early (x ∷ xs) order all = known (all x (0, refl)) (visited_known early xs order (λ y stands. all y (suc stands.0, stands.1)))
