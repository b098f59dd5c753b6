-- Entries without a key: what stands in its place, and what stands before and behind.
use Rattle.std.proofs.Common.{◌≡◌, Bool, true, false, not, cond, T, Option, None, List, [], ◌∷◌, ◌++◌, Less, Equal, Greater, refl, sym, ap, ◌∙◌, subst}
use Rattle.std.specs.Prelude.{ℤ}
use Rattle.std.specs.Ordering.{int_cmp, eq_by_cmp, is_eq, is_lt}
use Rattle.std.specs.Cmp.{alike_right, eq_by_cmp_equiv, int_cmp_total, tied_itself}
use Rattle.std.specs.FinMap as finite
use Rattle.std.specs.FinMap.Entries.{below_all, by_order, find, find-where_key, is_sorted, is_sorted-put, is_sorted-where_key, put}
use Rattle.std.proofs.lemmas.List.{append_assoc}
use Rattle.gc_maps.specs.Gaps.{others}
use Rattle.gc_maps.proofs.Entries.{AllAbove, around, both, first, front_below, others_there, second}

-- what is put at a key is gone without it
pub others_put : (q v : ℤ) (es : List (ℤ × ℤ)) → others q (put int_cmp q v es) ≡ others q es
others_put q v [] = rw (tied_itself int_cmp_total q) refl
others_put q v (e ∷ es) =
    elim (int_cmp q e.0) as (λ r. int_cmp q e.0 ≡ r → others q (by_order r ((q, v) ∷ e ∷ es) ((e.0, v) ∷ es) (e ∷ put int_cmp q v es)) ≡ others q (e ∷ es)) [
      | Less ↦ λ p. rw (tied_itself int_cmp_total q) refl
      | Equal ↦ λ p. rw p refl
      | Greater ↦ λ p. rw p (ap (λ xs. e ∷ xs) (others_put q v es))
    ] refl

-- a map's entries without a key
turned : {A : Type 0} (b : Bool) (x y : A) → cond (not b) x y ≡ cond b y x
turned true x y = refl
turned false x y = refl

pub entries_without : (m : finite.FinMap int_cmp ℤ) (q : ℤ) → finite.entries (finite.remove m q) ≡ others q (finite.entries m)
entries_without m q =
    let rising = is_sorted-where_key int_cmp (λ x. not (eq_by_cmp int_cmp q x)) (finite.entries m) (finite.entries_sorted m) in
    let there = λ (x : ℤ). finite.get-from_sorted int_cmp (others q (finite.entries m)) x rising
    ∙ find-where_key int_cmp (λ k. not (eq_by_cmp int_cmp q k)) x (λ k t. ap (λ r. not (is_eq r)) (sym (alike_right int_cmp_total x k q t))) (finite.entries m)
    ∙ turned (eq_by_cmp int_cmp q x) _ _ ∙ ap (λ b. cond b None (find int_cmp x (finite.entries m))) ((eq_by_cmp_equiv int_cmp_total).symm q x) in
    let here = λ (x : ℤ). finite.get-remove int_cmp_total m q x ∙ ap (λ (o : Option ℤ). cond (eq_by_cmp int_cmp x q) None o) (finite.get-entries m x) in
    ap finite.entries (finite.same_map int_cmp_total finite.int_cmp-IsAntisymmetric (finite.remove m q) (finite.from_sorted (others q (finite.entries m))) (λ x. here x ∙ sym (there x)))
    ∙ finite.entries-from_sorted int_cmp (others q (finite.entries m)) rising

-- The place of a key among entries: what stands there, on both sides of the key, and what stands around that.
pub record Gap (q : ℤ) (es before xs ys behind : List (ℤ × ℤ)) : Type 0 where
  pub without : others q es ≡ before ++ ((xs ++ ys) ++ behind)
  pub above : AllAbove (ys ++ behind) q
  pub rising : T (is_sorted int_cmp (ys ++ behind))

regroup : (before xs : List (ℤ × ℤ)) (e : ℤ × ℤ) (ys behind : List (ℤ × ℤ)) → before ++ ((xs ++ e ∷ ys) ++ behind) ≡ (before ++ xs) ++ e ∷ (ys ++ behind)
regroup before xs e ys behind = simp append_assoc

closed : (before xs ys behind : List (ℤ × ℤ)) → (before ++ xs) ++ (ys ++ behind) ≡ before ++ ((xs ++ ys) ++ behind)
closed before xs ys behind = simp append_assoc

pub gap_of : (q : ℤ) (es before xs ys behind : List (ℤ × ℤ)) → T (is_sorted int_cmp es) → put int_cmp q q es ≡ before ++ ((xs ++ (q, q) ∷ ys) ++ behind) → Gap q es before xs ys behind
gap_of q es before xs ys behind rising puts =
    let is = puts ∙ regroup before xs (q, q) ys behind in
    let at = around (before ++ xs) (q, q) (ys ++ behind) (subst (λ (zs : List (ℤ × ℤ)). T (is_sorted int_cmp zs)) is (is_sorted-put int_cmp int_cmp_total q q es rising)) in
    record {
      without = sym (others_put q q es) ∙ ap (others q) is ∙ others_there q q (before ++ xs) (ys ++ behind) at.below at.above ∙ closed before xs ys behind;
      above = at.above;
      rising = at.behind;
    }

-- the front of a list in order
pub sorted_front : (xs ys : List (ℤ × ℤ)) → T (is_sorted int_cmp (xs ++ ys)) → T (is_sorted int_cmp xs)
sorted_front [] ys h = tt
sorted_front (x ∷ xs) ys h = both _ _ (front_below x.0 xs ys (first _ _ h)) (sorted_front xs ys (second _ _ h))

pub front_above : (q : ℤ) (ys zs : List (ℤ × ℤ)) → AllAbove (ys ++ zs) q → T (below_all int_cmp q ys)
front_above q [] zs h = tt
front_above q (y ∷ ys) zs h = both _ _ (subst (λ r. T (is_lt r)) (sym h.0) tt) (front_above q ys zs h.1)

-- a key is none of those above it
pub not_above : (q v : ℤ) (bs cs : List (ℤ × ℤ)) → AllAbove (bs ++ (q, v) ∷ cs) q → ⊥
not_above q v [] cs h = let tied = tied_itself int_cmp_total q in let less = h.0 in absurd (cc (tied, less))
not_above q v (b ∷ bs) cs h = not_above q v bs cs h.1

rest_of : List (ℤ × ℤ) → List (ℤ × ℤ)
rest_of [] = []
rest_of (x ∷ xs) = xs

-- so nothing stands before it
pub none_before : (q v : ℤ) (ys bs cs : List (ℤ × ℤ)) → AllAbove ys q → (q, v) ∷ ys ≡ bs ++ (q, v) ∷ cs → bs ≡ []
unfolding rest_of
none_before q v ys [] cs h e = refl
none_before q v ys (b ∷ bs) cs h e = absurd (not_above q v bs cs (subst (λ (zs : List (ℤ × ℤ)). AllAbove zs q) (ap rest_of e) h))

-- no entries are none and none
pub none_and_none : (xs ys : List (ℤ × ℤ)) → xs ++ ys ≡ [] → (xs ≡ []) × (ys ≡ [])
none_and_none [] ys e = (refl, e)
none_and_none (x ∷ xs) ys e = absurd (cc)

pub not_none : (xs : List (ℤ × ℤ)) (e : ℤ × ℤ) (ys : List (ℤ × ℤ)) → xs ++ e ∷ ys ≡ [] → ⊥
not_none [] e ys is = absurd (cc)
not_none (x ∷ xs) e ys is = absurd (cc)
