-- Balanced search trees: the heights of two siblings differ by at most one.
use Rattle.std.specs.Prelude.{◌≡◌, ℕ, ℤ, ◌+◌, ◌≤◌, max, List, [], ◌∷◌, ◌++◌}

-- a tree without nodes, or a node: its left child, its key, its value, its right child
pub data Tree : Type 0 where
  leaf : Tree
  node : Tree → ℤ → ℤ → Tree → Tree

-- the nodes on the longest way down
abbrev pub height : Tree → ℕ
height leaf = 0
height (node l k v r) = max (height l) (height r) + 1

-- keys with their values, from left to right
abbrev pub pairs : Tree → List (ℤ × ℤ)
pairs leaf = []
pairs (node l k v r) = pairs l ++ (k, v) ∷ pairs r

-- two heights differ by at most one
pub record AreLevel (a b : ℕ) : Type 0 where
  pub left : a ≤ b + 1
  pub right : b ≤ a + 1

-- siblings are level, at each node
pub record NodeIsBalanced (siblings left right : Type 0) : Type 0 where
  pub level : siblings
  pub in_left : left
  pub in_right : right

abbrev pub IsBalanced : Tree → Type 0
IsBalanced leaf = Unit {0}
IsBalanced (node l k v r) = NodeIsBalanced (AreLevel (height l) (height r)) (IsBalanced l) (IsBalanced r)

-- The tree has the pairs of both trees and the one between, and is balanced. It is as high as the higher of them, or higher by
-- one, as it is where they are level.
pub record Joins (l : Tree) (pair : ℤ × ℤ) (r t : Tree) : Type 0 where
  pub balanced : IsBalanced t
  pub entries : pairs t ≡ pairs l ++ pair ∷ pairs r
  pub least : max (height l) (height r) ≤ height t
  pub most : height t ≤ max (height l) (height r) + 1
  pub raised : AreLevel (height l) (height r) → height t ≡ max (height l) (height r) + 1
