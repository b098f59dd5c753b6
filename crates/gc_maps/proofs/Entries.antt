-- Entries in the order of their keys: what stands left and right of a key.
use Rattle.std.proofs.Common.{◌≡◌, Bool, true, false, cond, ◌&&◌, T, List, [], ◌∷◌, ◌++◌, Option, Some, None, refl, ap, ◌∙◌}
use Rattle.std.specs.Prelude.{ℤ}
use Rattle.std.specs.Ordering.{int_cmp, eq_by_cmp, is_lt, ordering_reverse}
use Rattle.std.proofs.Common.{Ordering, Less, Equal, Greater}
use Rattle.std.specs.Cmp.{int_cmp_total}
use Rattle.std.specs.FinMap.Entries.{by_order, put, find, is_sorted, below_all}
use Rattle.std.specs.Cmp.{tied_itself}
use Rattle.gc_maps.specs.Gaps.{others}

-- the entries' keys stand on one side of a key
abbrev pub AllBelow : List (ℤ × ℤ) → ℤ → Type 0
AllBelow [] q = Unit {0}
AllBelow (e ∷ es) q = (int_cmp e.0 q ≡ Less) × AllBelow es q

abbrev pub AllAbove : List (ℤ × ℤ) → ℤ → Type 0
AllAbove [] q = Unit {0}
AllAbove (e ∷ es) q = (int_cmp q e.0 ≡ Less) × AllAbove es q

pub both : (a b : Bool) → T a → T b → T (a && b)
both true b p q = q
both false b p q = p

pub first : (a b : Bool) → T (a && b) → T a
first true b p = tt
first false b p = p

pub second : (a b : Bool) → T (a && b) → T b
second true b p = p
second false b p = absurd p

less : (o : Ordering) → T (is_lt o) → o ≡ Less
less Less p = refl
less Equal p = absurd p
less Greater p = absurd p

pub greater : (x y : ℤ) → int_cmp x y ≡ Less → int_cmp y x ≡ Greater
greater x y e = int_cmp_total.antisymm y x ∙ ap ordering_reverse e

pub lesser : (x y : ℤ) → int_cmp x y ≡ Greater → int_cmp y x ≡ Less
lesser x y e = int_cmp_total.antisymm y x ∙ ap ordering_reverse e

-- what a list in order is around one of its entries
pub record Around (xs : List (ℤ × ℤ)) (e : ℤ × ℤ) (ys : List (ℤ × ℤ)) : Type 0 where
  pub before : T (is_sorted int_cmp xs)
  pub behind : T (is_sorted int_cmp ys)
  pub below : AllBelow xs e.0
  pub above : AllAbove ys e.0

pub all_above : (q : ℤ) (ys : List (ℤ × ℤ)) → T (below_all int_cmp q ys) → AllAbove ys q
all_above q [] h = tt
all_above q (e ∷ ys) h = (less _ (first _ _ h), all_above q ys (second _ _ h))

is_below : (q : ℤ) (xs : List (ℤ × ℤ)) (e : ℤ × ℤ) (ys : List (ℤ × ℤ)) → T (below_all int_cmp q (xs ++ e ∷ ys)) → int_cmp q e.0 ≡ Less
is_below q [] e ys h = less _ (first _ _ h)
is_below q (x ∷ xs) e ys h = is_below q xs e ys (second _ _ h)

pub front_below : (q : ℤ) (xs zs : List (ℤ × ℤ)) → T (below_all int_cmp q (xs ++ zs)) → T (below_all int_cmp q xs)
front_below q [] zs h = tt
front_below q (x ∷ xs) zs h = both _ _ (first _ _ h) (front_below q xs zs (second _ _ h))

pub around : (xs : List (ℤ × ℤ)) (e : ℤ × ℤ) (ys : List (ℤ × ℤ)) → T (is_sorted int_cmp (xs ++ e ∷ ys)) → Around xs e ys
around [] e ys h = record { before = tt; behind = second _ _ h; below = tt; above = all_above e.0 ys (first _ _ h) }
around (x ∷ xs) e ys h =
    let rest = around xs e ys (second _ _ h) in
    record {
      before = both _ _ (front_below x.0 xs (e ∷ ys) (first _ _ h)) rest.before;
      behind = rest.behind;
      below = (is_below x.0 xs e ys (first _ _ h), rest.below);
      above = rest.above;
    }

pub below_further : (xs : List (ℤ × ℤ)) (j q : ℤ) → int_cmp j q ≡ Less → AllBelow xs j → AllBelow xs q
below_further [] j q e h = tt
below_further (x ∷ xs) j q e h = (int_cmp_total.trans x.0 j q h.0 e, below_further xs j q e h.1)

pub above_further : (ys : List (ℤ × ℤ)) (j q : ℤ) → int_cmp q j ≡ Less → AllAbove ys j → AllAbove ys q
above_further [] j q e h = tt
above_further (y ∷ ys) j q e h = (int_cmp_total.trans q j y.0 e h.0, above_further ys j q e h.1)

pub below_append : (xs ys : List (ℤ × ℤ)) (q : ℤ) → AllBelow xs q → AllBelow ys q → AllBelow (xs ++ ys) q
below_append [] ys q h g = g
below_append (x ∷ xs) ys q h g = (h.0, below_append xs ys q h.1 g)

pub above_append : (xs ys : List (ℤ × ℤ)) (q : ℤ) → AllAbove xs q → AllAbove ys q → AllAbove (xs ++ ys) q
above_append [] ys q h g = g
above_append (x ∷ xs) ys q h g = (h.0, above_append xs ys q h.1 g)

-- what is found, put and removed where the entries below a key and those above it are known
pub find_past : (q : ℤ) (xs zs : List (ℤ × ℤ)) → AllBelow xs q → find int_cmp q (xs ++ zs) ≡ find int_cmp q zs
find_past q [] zs h = refl
find_past q (x ∷ xs) zs h = rw (greater x.0 q h.0) (find_past q xs zs h.1)

pub find_none : (q : ℤ) (ys : List (ℤ × ℤ)) → AllAbove ys q → find int_cmp q ys ≡ None
find_none q [] h = refl
find_none q (y ∷ ys) h = rw h.0 (find_none q ys h.1)

pub find_front : (q : ℤ) (xs ys : List (ℤ × ℤ)) → AllAbove ys q → find int_cmp q (xs ++ ys) ≡ find int_cmp q xs
find_front q [] ys h = find_none q ys h
find_front q (x ∷ xs) ys h = ap (λ (o : Option ℤ). cond (eq_by_cmp int_cmp q x.0) (Some x.1) o) (find_front q xs ys h)

pub put_past : (q v : ℤ) (xs zs : List (ℤ × ℤ)) → AllBelow xs q → put int_cmp q v (xs ++ zs) ≡ xs ++ put int_cmp q v zs
put_past q v [] zs h = refl
put_past q v (x ∷ xs) zs h = rw (greater x.0 q h.0) (ap (λ es. x ∷ es) (put_past q v xs zs h.1))

pub put_first : (q v : ℤ) (ys : List (ℤ × ℤ)) → AllAbove ys q → put int_cmp q v ys ≡ (q, v) ∷ ys
put_first q v [] h = refl
put_first q v (y ∷ ys) h = rw h.0 refl

pub put_front : (q v : ℤ) (xs ys : List (ℤ × ℤ)) → AllAbove ys q → put int_cmp q v (xs ++ ys) ≡ put int_cmp q v xs ++ ys
put_front q v [] ys h = put_first q v ys h
put_front q v (x ∷ xs) ys h =
    elim (int_cmp q x.0) as (λ r. by_order r ((q, v) ∷ x ∷ (xs ++ ys)) ((x.0, v) ∷ (xs ++ ys)) (x ∷ put int_cmp q v (xs ++ ys)) ≡ by_order r ((q, v) ∷ x ∷ xs) ((x.0, v) ∷ xs) (x ∷ put int_cmp q v xs) ++ ys) [
      | Less ↦ refl
      | Equal ↦ refl
      | Greater ↦ ap (λ es. x ∷ es) (put_front q v xs ys h)
    ]

pub put_new : (q v : ℤ) (xs ys : List (ℤ × ℤ)) → AllBelow xs q → AllAbove ys q → put int_cmp q v (xs ++ ys) ≡ xs ++ (q, v) ∷ ys
put_new q v xs ys h g = put_past q v xs ys h ∙ ap (λ es. xs ++ es) (put_first q v ys g)

pub put_there : (q v w : ℤ) (xs ys : List (ℤ × ℤ)) → AllBelow xs q → put int_cmp q v (xs ++ (q, w) ∷ ys) ≡ xs ++ (q, v) ∷ ys
put_there q v w xs ys h = put_past q v xs ((q, w) ∷ ys) h ∙ ap (λ (es : List (ℤ × ℤ)). xs ++ es) (rw (tied_itself int_cmp_total q) refl)

pub others_past : (q : ℤ) (xs zs : List (ℤ × ℤ)) → AllBelow xs q → others q (xs ++ zs) ≡ xs ++ others q zs
others_past q [] zs h = refl
others_past q (x ∷ xs) zs h = rw (greater x.0 q h.0) (ap (λ es. x ∷ es) (others_past q xs zs h.1))

pub others_above : (q : ℤ) (ys : List (ℤ × ℤ)) → AllAbove ys q → others q ys ≡ ys
others_above q [] h = refl
others_above q (y ∷ ys) h = rw h.0 (ap (λ es. y ∷ es) (others_above q ys h.1))

pub others_none : (q : ℤ) (xs ys : List (ℤ × ℤ)) → AllBelow xs q → AllAbove ys q → others q (xs ++ ys) ≡ xs ++ ys
others_none q xs ys h g = others_past q xs ys h ∙ ap (λ es. xs ++ es) (others_above q ys g)

pub others_there : (q w : ℤ) (xs ys : List (ℤ × ℤ)) → AllBelow xs q → AllAbove ys q → others q (xs ++ (q, w) ∷ ys) ≡ xs ++ ys
others_there q w xs ys h g =
    others_past q xs ((q, w) ∷ ys) h ∙ ap (λ (es : List (ℤ × ℤ)). xs ++ es) (rw (tied_itself int_cmp_total q) (others_above q ys g))
