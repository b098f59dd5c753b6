-- The rule by which an image numbers its objects.
use Rattle.std.specs.Prelude.{◌≡◌, ℕ, ◌+◌, ◌≤◌, List, [], ◌∷◌, ◌++◌, Some, length, slice_get}
use Rattle.std.specs.List.{range_with_len}

-- Objects by numbers: which each must have from the start and which it names, in the order of its values, and which the globals
-- hold, by rising index.
pub record Graph : Type 0 where
  pub early : ℕ → List ℕ
  pub named : ℕ → List ℕ
  pub globals : List ℕ

abbrev pub IsVisited : List ℕ → ℕ → Type 0
IsVisited order x = (n : ℕ) × (slice_get order n ≡ Some x)

-- Objects are visited one after another, which makes an order a longer one. One that stands in it is passed over. Another is put at
-- its end, once those are visited that it must have from the start.
pub data Visited (early : ℕ → List ℕ) : List ℕ → List ℕ → List ℕ → Type 0 where
  none : {order : List ℕ} → Visited early [] order order
  known : {x : ℕ} {xs order after : List ℕ} → IsVisited order x → Visited early xs order after → Visited early (x ∷ xs) order after
  fresh : {x : ℕ} {xs order mid after : List ℕ} → (¬ IsVisited order x) → Visited early (early x) order mid → Visited early xs (mid ++ x ∷ []) after
      → Visited early (x ∷ xs) order after

-- From the n-th of the order on, what each object names is visited, until none is left in it.
pub data Followed (early named : ℕ → List ℕ) : ℕ → List ℕ → List ℕ → Type 0 where
  over : {n : ℕ} {order : List ℕ} → length order ≤ n → Followed early named n order order
  along : {n x : ℕ} {order mid after : List ℕ} → slice_get order n ≡ Some x → Visited early (named x) order mid → Followed early named (n + 1) mid after
      → Followed early named n order after

-- What the globals hold is visited in turn, and after each what the objects name that have come into the order with it.
pub data Numbered (early named : ℕ → List ℕ) : List ℕ → List ℕ → List ℕ → Type 0 where
  done : {order : List ℕ} → Numbered early named [] order order
  held : {x : ℕ} {xs order mid next after : List ℕ} → Visited early (x ∷ []) order mid → Followed early named (length order) mid next
      → Numbered early named xs next after → Numbered early named (x ∷ xs) order after

-- The order of so many objects: first from the globals on, and then, by number, those that no global reaches.
pub record IsNumbering (graph : Graph) (count : ℕ) (order : List ℕ) : Type 0 where
  pub reached : List ℕ
  pub globals : Numbered graph.early graph.named graph.globals [] reached
  pub rest : Visited graph.early (range_with_len 0 count) reached order
