-- What joining two trees gives: a balanced one, at most one higher.
use Rattle.std.proofs.Common.{◌≡◌, ℕ, ◌+◌, ◌≤◌, ◌<◌, max, ◌∷◌, refl, sym, ap, ◌∙◌, arith}
use Rattle.std.specs.Prelude.{ℤ}
use Rattle.std.proofs.lemmas.List.{append_assoc}
use Rattle.gc_maps.specs.Trees.{Tree, node, height, pairs, AreLevel, IsBalanced, Joins}

pub level : (l : Tree) (k v : ℤ) (r : Tree) → IsBalanced l → IsBalanced r → AreLevel (height l) (height r) → Joins l (k, v) r (node l k v r)
level l k v r bl br e = record { balanced = record { level = e; in_left = bl; in_right = br }; entries = refl; least = omega arith; most = omega arith; raised = λ e. refl }

-- the left child is too high, on its outer side
pub left_outer : (a : Tree) (j u : ℤ) (b : Tree) (k v : ℤ) (r : Tree) → IsBalanced (node a j u b) → IsBalanced r
    → height (node a j u b) ≡ height r + 2 → height b ≤ height a → Joins (node a j u b) (k, v) r (node a j u (node b k v r))
left_outer a j u b k v r bl br high outer =
    let al = bl.level.left in let ar = bl.level.right in
    record {
      balanced = record {
        level = record { left = omega arith; right = omega arith };
        in_left = bl.in_left;
        in_right = record { level = record { left = omega arith; right = omega arith }; in_left = bl.in_right; in_right = br };
      };
      entries = sym (append_assoc (pairs a) ((j, u) ∷ pairs b) ((k, v) ∷ pairs r));
      least = omega arith;
      most = omega arith;
      raised = λ e. omega arith;
    }

-- the left child is too high, on its inner side
pub left_inner : (a : Tree) (j u : ℤ) (b : Tree) (i w : ℤ) (c : Tree) (k v : ℤ) (r : Tree) → IsBalanced (node a j u (node b i w c)) → IsBalanced r
    → height (node a j u (node b i w c)) ≡ height r + 2 → height a < height (node b i w c)
    → Joins (node a j u (node b i w c)) (k, v) r (node (node a j u b) i w (node c k v r))
left_inner a j u b i w c k v r bl br high inner =
    let al = bl.level.left in let ar = bl.level.right in
    let cl = bl.in_right.level.left in let cr = bl.in_right.level.right in
    record {
      balanced = record {
        level = record { left = omega arith; right = omega arith };
        in_left = record { level = record { left = omega arith; right = omega arith }; in_left = bl.in_left; in_right = bl.in_right.in_left };
        in_right = record { level = record { left = omega arith; right = omega arith }; in_left = bl.in_right.in_right; in_right = br };
      };
      entries = simp append_assoc;
      least = omega arith;
      most = omega arith;
      raised = λ e. omega arith;
    }

-- the right child is too high, on its outer side
pub right_outer : (l : Tree) (k v : ℤ) (a : Tree) (j u : ℤ) (b : Tree) → IsBalanced l → IsBalanced (node a j u b)
    → height (node a j u b) ≡ height l + 2 → height a ≤ height b → Joins l (k, v) (node a j u b) (node (node l k v a) j u b)
right_outer l k v a j u b bl br high outer =
    let al = br.level.left in let ar = br.level.right in
    record {
      balanced = record {
        level = record { left = omega arith; right = omega arith };
        in_left = record { level = record { left = omega arith; right = omega arith }; in_left = bl; in_right = br.in_left };
        in_right = br.in_right;
      };
      entries = simp append_assoc;
      least = omega arith;
      most = omega arith;
      raised = λ e. omega arith;
    }

-- the right child is too high, on its inner side
pub right_inner : (l : Tree) (k v : ℤ) (a : Tree) (i w : ℤ) (c : Tree) (j u : ℤ) (b : Tree) → IsBalanced l → IsBalanced (node (node a i w c) j u b)
    → height (node (node a i w c) j u b) ≡ height l + 2 → height b < height (node a i w c)
    → Joins l (k, v) (node (node a i w c) j u b) (node (node l k v a) i w (node c j u b))
right_inner l k v a i w c j u b bl br high inner =
    let al = br.level.left in let ar = br.level.right in
    let cl = br.in_left.level.left in let cr = br.in_left.level.right in
    record {
      balanced = record {
        level = record { left = omega arith; right = omega arith };
        in_left = record { level = record { left = omega arith; right = omega arith }; in_left = bl; in_right = br.in_left.in_left };
        in_right = record { level = record { left = omega arith; right = omega arith }; in_left = br.in_left.in_right; in_right = br.in_right };
      };
      entries = simp append_assoc;
      least = omega arith;
      most = omega arith;
      raised = λ e. omega arith;
    }

-- What a tree becomes when one of its parts is replaced by one of nearly its height stays of nearly its height.
near : (old new other t : ℕ) → AreLevel old other → AreLevel new old → max new other ≤ t → t ≤ max new other + 1 → (AreLevel new other → t ≡ max new other + 1)
    → AreLevel t (max old other + 1)
near old new other t siblings close least most raised = grind arith

pub near_left : (old l r t : Tree) (k v : ℤ) → AreLevel (height old) (height r) → AreLevel (height l) (height old) → Joins l (k, v) r t
    → AreLevel (height t) (height (node old k v r))
near_left old l r t k v siblings close joins = near (height old) (height l) (height r) (height t) siblings close joins.least joins.most joins.raised

-- the same from the other side
turned : (a b : ℕ) → max a b ≡ max b a
turned a b = omega arith

flipped : (a b : ℕ) → AreLevel a b → AreLevel b a
flipped a b e = record { left = e.right; right = e.left }

pub near_right : (old l r t : Tree) (k v : ℤ) → AreLevel (height l) (height old) → AreLevel (height r) (height old) → Joins l (k, v) r t
    → AreLevel (height t) (height (node l k v old))
near_right old l r t k v siblings close joins =
    let least = joins.least in let most = joins.most in
    let is : AreLevel (height t) (max (height old) (height l) + 1) = near (height old) (height r) (height l) (height t) (flipped _ _ siblings) close (omega arith) (omega arith) (λ e. joins.raised (flipped _ _ e) ∙ ap (λ n. n + 1) (turned (height l) (height r))) in
    let a = is.left in let b = is.right in
    record { left = omega arith; right = omega arith }
