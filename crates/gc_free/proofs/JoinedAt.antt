-- Freed places join the runs that touch them, by how many runs stand below them.
use Rattle.std.proofs.Common.{ℕ, zero, suc, ◌≡◌, ◌≤◌, ◌<◌, ◌+◌, ◌-◌, ◌^◌, get_or, set, length, List, [], ◌∷◌, arith, refl, ap, sym, ◌∙◌, true, false, inl, inr, ◌⊎◌, Option, Some, None, Bool, cond, not, subst}
use Rattle.std.proofs.lemmas.Bool.{lt-ltb, le-ltb, eq-eqb, ne_eqb, cases_lt, cases_eq}
use Rattle.std.specs.List.{remove, find}
use Rattle.gc_free.specs.declared.run.Run.{Run}
use Rattle.gc_free.specs.Runs.{IsSpread, end_of, begins_at, ends_at, without, insert_by, remove_by, insert_run}
use Rattle.gc_free.specs.Orders.{count_below, length_key}
use Rattle.gc_free.specs.Merged.{join, join_if_any, joined, apart_from, merged}
use Rattle.gc_free.proofs.ByLength.{place_of, In, In-place}
use Rattle.gc_free.proofs.Shortest.{In-get_or}
use Rattle.gc_free.proofs.InsertBy.{remove_at_count}
use Rattle.gc_free.proofs.Spread.{PassesNone, PassesAt, begins_none, begins_found, ends_none, ends_none_first, ends_found}
use Rattle.gc_free.proofs.Taking.{spread-without}
use Rattle.gc_free.proofs.TwoOrdersKept.{In-insert_run}
use Rattle.std.proofs.lemmas.List.{get_or_default}

-- a run put among others ends before each of them or begins behind it
insert_apart : (j x : Run) (low high : ℕ) (rest : List Run) → IsSpread low high (insert_run j rest) → In x rest → (end_of x ≤ j.place) ⊎ (end_of j ≤ x.place)
insert_apart j x low high [] up h = absurd h
insert_apart j x low high (y ∷ ys) up h =
    elim (cases_lt y.place j.place) [
      | inl l ↦
          let up' : IsSpread low high (y ∷ insert_run j ys) = rw (lt-ltb y.place j.place l) at up in
          elim h [
            | inl e ↦
                let p = In-place (end_of y) high j (insert_run j ys) up'.3 (In-insert_run j ys) in
                let past : end_of y ≤ j.place = p.0 in let same : end_of y ≡ end_of x = ap end_of e in inl (omega arith)
            | inr i ↦ insert_apart j x (end_of y) high ys up'.3 i
          ]
      | inr l ↦
          let up' : IsSpread low high (j ∷ y ∷ ys) = rw (le-ltb y.place j.place l) at up in
          let p = In-place (end_of j) high x (y ∷ ys) up'.3 h in inr p.0
    ]

found_ends : (p : ℕ) (xs : List Run) (r : Run) → find (ends_at p) xs ≡ Some r → end_of r ≡ p
found_ends p [] r e = absurd (cc)
found_ends p (x ∷ xs) r e =
    elim (cases_eq (end_of x) p) [
      | inl is ↦ let e' : Some x ≡ Some r = rw (eq-eqb (end_of x) p is) at e in let same : x ≡ r = cc in ap end_of (sym same) ∙ is
      | inr other ↦ found_ends p xs r (rw (ne_eqb (end_of x) p other) at e)
    ]

found_begins : (p : ℕ) (xs : List Run) (r : Run) → find (begins_at p) xs ≡ Some r → r.place ≡ p
found_begins p [] r e = absurd (cc)
found_begins p (x ∷ xs) r e =
    elim (cases_eq x.place p) [
      | inl is ↦ let e' : Some x ≡ Some r = rw (eq-eqb x.place p is) at e in let same : x ≡ r = cc in ap place_of (sym same) ∙ is
      | inr other ↦ found_begins p xs r (rw (ne_eqb x.place p other) at e)
    ]

-- the joined run covers the freed places
record Covers (freed j : Run) : Type 0 where
  from : j.place ≤ freed.place
  to : end_of freed ≤ end_of j

covers_left : (freed : Run) (o : Option Run) → ((r : Run) → o ≡ Some r → end_of r ≡ freed.place)
    → ((join_if_any freed o).place ≤ freed.place) × (end_of (join_if_any freed o) ≡ end_of freed)
covers_left freed None f = (omega arith, refl)
covers_left freed (Some b) f = let e : end_of b ≡ freed.place = f b refl in (omega arith, omega arith)

covers_right : (freed a : Run) (o : Option Run) → a.place ≤ freed.place → end_of a ≡ end_of freed → ((r : Run) → o ≡ Some r → r.place ≡ end_of freed) → Covers freed (join_if_any a o)
covers_right freed a None l e f = record { from = l; to = omega arith }
covers_right freed a (Some h) l e f = let b : h.place ≡ end_of freed = f h refl in record { from = omega arith; to = omega arith }

joined_covers : (freed : Run) (runs : List Run) → Covers freed (joined freed runs)
joined_covers freed runs =
    let left = covers_left freed (find (ends_at freed.place) runs) (found_ends freed.place runs) in
    covers_right freed (join_if_any freed (find (ends_at freed.place) runs)) (find (begins_at (end_of freed)) (without (ends_at freed.place) runs)) left.0 left.1
    (found_begins (end_of freed) (without (ends_at freed.place) runs))

In-without : (test : Run → Bool) (x : Run) (xs : List Run) → test x ≡ false → In x xs → In x (without test xs)
In-without test x [] f h = h
In-without test x (y ∷ ys) f (inl e) = let g : test y ≡ false = ap test e ∙ f in rw g (inl e)
In-without test x (y ∷ ys) f (inr h) =
    elim (test y) as (λ b. In x (cond (not b) (y ∷ without test ys) (without test ys))) [
      | true ↦ In-without test x ys f h
      | false ↦ inr (In-without test x ys f h)
    ]

-- no run begins inside freed places
none_inside : (freed x : Run) (high : ℕ) (runs : List Run) → IsSpread 0 high (merged freed runs) → In x runs → 0 < x.length → freed.place ≤ x.place → x.place < end_of freed → ⊥
none_inside freed x high runs up h some l inside =
    let ends : ends_at freed.place x ≡ false = ne_eqb (end_of x) freed.place (λ e. omega arith) in
    let begins : begins_at (end_of freed) x ≡ false = ne_eqb x.place (end_of freed) (λ e. omega arith) in
    let among : In x (apart_from freed runs) = In-without (begins_at (end_of freed)) x (without (ends_at freed.place) runs) begins (In-without (ends_at freed.place) x runs ends h) in
    let covers = joined_covers freed runs in
    let from : (joined freed runs).place ≤ freed.place = covers.from in let to : end_of freed ≤ end_of (joined freed runs) = covers.to in
    elim (insert_apart (joined freed runs) x 0 high (apart_from freed runs) up among) [
      | inl a ↦ omega arith
      | inr b ↦ omega arith
    ]

-- so as many begin below their end
same_count : (p e low high n : ℕ) (xs : List Run) → p ≤ e → IsSpread low high xs → n ≡ count_below place_of p xs
    → ((x : Run) → In x xs → p ≤ x.place → x.place < e → ⊥) → n ≡ count_below place_of e xs
same_count p e low high n [] l up is none = is
same_count p e low high n (x ∷ xs) l up is none =
    elim (cases_lt x.place p) [
      | inl lt ↦
          let is' : n ≡ suc (count_below place_of p xs) = rw (lt-ltb x.place p lt) at is in
          let ih = same_count p e (end_of x) high (count_below place_of p xs) xs l up.3 refl (λ z h. none z (inr h)) in
          rw (lt-ltb x.place e (omega arith)) (is' ∙ ap (λ k. suc k) ih)
      | inr le ↦
          let is' : n ≡ 0 = rw (le-ltb x.place p le) at is in
          elim (cases_lt x.place e) [
            | inl lt ↦ absurd (none x (inl refl) le lt)
            | inr past ↦ rw (le-ltb x.place e past) is'
          ]
    ]

-- of two tests it is nothing which runs are left out first
without-swap : (f g : Run → Bool) (xs : List Run) → without f (without g xs) ≡ without g (without f xs)
without-swap f g [] = refl
without-swap f g (x ∷ xs) =
    let ih = without-swap f g xs in
    elim (f x) as (λ b. f x ≡ b → without f (without g (x ∷ xs)) ≡ without g (without f (x ∷ xs))) [
      | true ↦ λ e. elim (g x) as (λ b. g x ≡ b → without f (without g (x ∷ xs)) ≡ without g (without f (x ∷ xs))) [
        | true ↦ λ d. simp (e, d) ih
        | false ↦ λ d. simp (e, d) ih
      ] refl
      | false ↦ λ e. elim (g x) as (λ b. g x ≡ b → without f (without g (x ∷ xs)) ≡ without g (without f (x ∷ xs))) [
        | true ↦ λ d. simp (e, d) ih
        | false ↦ λ d. simp (e, d) (ap (λ l. x ∷ l) ih)
      ] refl
    ] refl

-- a run that ends before a place doesn't begin behind it
find_begins : (p e low high : ℕ) (xs : List Run) → p ≤ e → IsSpread low high xs → find (begins_at e) (without (ends_at p) xs) ≡ find (begins_at e) xs
find_begins p e low high [] l up = refl
find_begins p e low high (x ∷ xs) l up =
    let some : 0 < x.length = up.1 in let ih = find_begins p e (end_of x) high xs l up.3 in
    elim (cases_eq (end_of x) p) [
      | inl is ↦ rw (eq-eqb (end_of x) p is, ne_eqb x.place e (λ b. omega arith)) ih
      | inr other ↦ elim (cases_eq x.place e) [
        | inl b ↦ simp (ne_eqb (end_of x) p other, eq-eqb x.place e b)
        | inr b ↦ simp (ne_eqb (end_of x) p other, ne_eqb x.place e b) ih
      ]
    ]

first : (j : Run) (low high : ℕ) (xs : List Run) → IsSpread low high xs → j.place ≤ low → insert_run j xs ≡ j ∷ xs
first j low high [] up l = refl
first j low high (x ∷ xs) up l = let a : low ≤ x.place = up.0 in rw (le-ltb x.place j.place (omega arith)) refl

none_below : (p low high : ℕ) (xs : List Run) → IsSpread low high xs → p ≤ low → zero ≡ count_below place_of p xs
none_below p low high [] up l = refl
none_below p low high (x ∷ xs) up l = let a : low ≤ x.place = up.0 in rw (le-ltb x.place p (omega arith)) refl

-- a run that takes the place of another by its index stands where it does by its place
pub set_by_count : (j : Run) (low high n : ℕ) (xs : List Run) → IsSpread low high xs → n ≡ count_below place_of j.place xs → n < length xs
    → insert_run j (remove xs n) ≡ set xs n j
set_by_count j low high n [] up is l = absurd (omega arith)
set_by_count j low high zero (x ∷ xs) up is l =
    elim (cases_lt x.place j.place) [
      | inl lt ↦ let is' : zero ≡ suc (count_below place_of j.place xs) = rw (lt-ltb x.place j.place lt) at is in absurd (omega arith)
      | inr le ↦ first j (end_of x) high xs up.3 (let some : 0 < x.length = up.1 in omega arith)
    ]
set_by_count j low high (suc n) (x ∷ xs) up is l =
    elim (cases_lt x.place j.place) [
      | inl lt ↦
          let is' : suc n ≡ suc (count_below place_of j.place xs) = rw (lt-ltb x.place j.place lt) at is in
          rw (lt-ltb x.place j.place lt) (ap (λ l. x ∷ l) (set_by_count j (end_of x) high n xs up.3 (omega arith) (omega arith)))
      | inr le ↦ let is' : suc n ≡ zero = rw (le-ltb x.place j.place le) at is in absurd (omega arith)
    ]

count_at : (low high n : ℕ) (xs : List Run) (d : Run) → IsSpread low high xs → n < length xs → n ≡ count_below place_of (get_or xs n d).place xs
count_at low high n [] d up l = absurd (omega arith)
count_at low high zero (x ∷ xs) d up l = rw (le-ltb x.place x.place (omega arith)) refl
count_at low high (suc n) (x ∷ xs) d up l =
    let p = In-place (end_of x) high (get_or xs n d) xs up.3 (In-get_or xs n d (omega arith)) in
    let past : end_of x ≤ (get_or xs n d).place = p.0 in let some : 0 < x.length = up.1 in
    rw (lt-ltb x.place (get_or xs n d).place (omega arith)) (ap (λ k. suc k) (count_at (end_of x) high n xs d up.3 (omega arith)))

count_remove : (p n : ℕ) (xs : List Run) → n < length xs → n ≡ count_below place_of p xs → (low high : ℕ) → IsSpread low high xs → n ≡ count_below place_of p (remove xs n)
count_remove p n [] l is low high up = absurd (omega arith)
count_remove p zero (x ∷ xs) l is low high up =
    elim (cases_lt x.place p) [
      | inl lt ↦ let is' : zero ≡ suc (count_below place_of p xs) = rw (lt-ltb x.place p lt) at is in absurd (omega arith)
      | inr le ↦ none_below p (end_of x) high xs up.3 (let some : 0 < x.length = up.1 in omega arith)
    ]
count_remove p (suc n) (x ∷ xs) l is low high up =
    elim (cases_lt x.place p) [
      | inl lt ↦
          let is' : suc n ≡ suc (count_below place_of p xs) = rw (lt-ltb x.place p lt) at is in
          rw (lt-ltb x.place p lt) (ap (λ k. suc k) (count_remove p n xs (omega arith) (omega arith) (end_of x) high up.3))
      | inr le ↦ let is' : suc n ≡ zero = rw (le-ltb x.place p le) at is in absurd (omega arith)
    ]

get_remove : (m n : ℕ) (xs : List Run) (d : Run) → m < n → n < length xs → get_or (remove xs n) m d ≡ get_or xs m d
get_remove m n [] d l w = absurd (omega arith)
get_remove m zero (x ∷ xs) d l w = absurd (omega arith)
get_remove zero (suc n) (x ∷ xs) d l w = refl
get_remove (suc m) (suc n) (x ∷ xs) d l w = get_remove m n xs d (omega arith) (omega arith)

length_remove : (n : ℕ) (xs : List Run) → n < length xs → length xs ≡ suc (length (remove xs n))
length_remove n [] l = absurd (omega arith)
length_remove zero (x ∷ xs) l = refl
length_remove (suc n) (x ∷ xs) l = ap (λ k. suc k) (length_remove n xs (omega arith))

-- what is known where a search found how many runs stand below freed places
pub record Found (freed : Run) (runs : List Run) (n : ℕ) : Type 0 where
  pub up : IsSpread 0 (2 ^ 32 - 1) runs
  pub new : IsSpread 0 (2 ^ 32 - 1) (merged freed runs)
  pub is : n ≡ count_below place_of freed.place runs

same : (freed : Run) (runs : List Run) (n : ℕ) → Found freed runs n → n ≡ count_below place_of (end_of freed) runs
same freed runs n f =
    same_count freed.place (end_of freed) 0 (2 ^ 32 - 1) n runs (omega arith) f.up f.is
    (λ x h a b. none_inside freed x (2 ^ 32 - 1) runs f.new h (In-place 0 (2 ^ 32 - 1) x runs f.up h).2 a b)

no_behind : (freed : Run) (runs : List Run) (n : ℕ) → Found freed runs n → (n < length runs → (d : Run) → (get_or runs n d).place ≡ end_of freed → ⊥)
    → PassesNone (begins_at (end_of freed)) runs
no_behind freed runs n f none = begins_none (end_of freed) 0 (2 ^ 32 - 1) n runs freed f.up (same freed runs n f) (λ l e. none l freed e)

has_behind : (freed h : Run) (runs : List Run) (n : ℕ) → Found freed runs n → n < length runs → get_or runs n h ≡ h → h.place ≡ end_of freed
    → PassesAt (begins_at (end_of freed)) runs n h
has_behind freed h runs n f l is e = begins_found (end_of freed) 0 (2 ^ 32 - 1) n runs h f.up (same freed runs n f) l (ap place_of is ∙ e)

no_before : (freed : Run) (runs : List Run) (n : ℕ) → Found freed runs n → (0 < n → (d : Run) → end_of (get_or runs (n - 1) d) ≡ freed.place → ⊥)
    → PassesNone (ends_at freed.place) runs
no_before freed runs zero f none = ends_none_first freed.place 0 (2 ^ 32 - 1) runs f.up f.is
no_before freed runs (suc n) f none =
    let same : suc n - 1 ≡ n = omega arith in
    ends_none freed.place 0 (2 ^ 32 - 1) n runs freed f.up f.is (subst (λ k. end_of (get_or runs k freed) ≡ freed.place → ⊥) same (none (omega arith) freed))

fits_at : (r : Run) (n : ℕ) (runs : List Run) → IsSpread 0 (2 ^ 32 - 1) runs → n < length runs → get_or runs n r ≡ r → end_of r ≤ 2 ^ 32 - 1
fits_at r n runs up l is = (In-place 0 (2 ^ 32 - 1) r runs up (subst (λ z. In z runs) is (In-get_or runs n r l))).1

-- one run after the freed places: in place of one that was there
pub record Joins (freed : Run) (all runs : List Run) (n : ℕ) (j : Run) : Type 0 where
  pub within : n < length runs
  pub rank : n ≡ count_below place_of j.place runs
  pub is : set runs n j ≡ merged freed all
  pub spread : IsSpread 0 (2 ^ 32 - 1) (set runs n j)
  pub fits : j.length < 2 ^ 32
  pub grows : (d : Run) → length_key (get_or runs n d) ≤ length_key j

pub joins_none : (freed : Run) (runs : List Run) (n : ℕ) → Found freed runs n → (0 < n → (d : Run) → end_of (get_or runs (n - 1) d) ≡ freed.place → ⊥)
    → (n < length runs → (d : Run) → (get_or runs n d).place ≡ end_of freed → ⊥) → insert_run freed runs ≡ merged freed runs
joins_none freed runs n f nb nh =
    let ends = no_before freed runs n f nb in
    let begins = no_behind freed runs n f nh in
    rw (ends.all, ends.none, begins.none, begins.all) refl

pub joins_behind : (freed h : Run) (runs : List Run) (n : ℕ) → Found freed runs n → (0 < n → (d : Run) → end_of (get_or runs (n - 1) d) ≡ freed.place → ⊥)
    → n < length runs → get_or runs n h ≡ h → h.place ≡ end_of freed → Joins freed runs runs n (join freed h)
joins_behind freed h runs n f nb l is e =
    let ends = no_before freed runs n f nb in
    let begins = has_behind freed h runs n f l is e in
    let first : (join freed h).place ≡ freed.place = omega arith in
    let rank : n ≡ count_below place_of (join freed h).place runs = rw first f.is in
    let found : find (begins_at (end_of freed)) runs ≡ Some h = begins.found ∙ ap (λ r. Some r) is in
    let is' : set runs n (join freed h) ≡ merged freed runs = sym (set_by_count (join freed h) 0 (2 ^ 32 - 1) n runs f.up rank l) ∙ rw (ends.all, ends.none, found, ← begins.rest) refl in
    let last : end_of h ≤ 2 ^ 32 - 1 = fits_at h n runs f.up l is in
    record {
      within = l;
      rank = rank;
      is = is';
      spread = subst (λ l. IsSpread 0 (2 ^ 32 - 1) l) (sym is') f.new;
      fits = omega arith;
      grows = λ d. rw (get_or_default runs n d h l, is) (omega arith);
    }

pub joins_before : (freed b : Run) (runs : List Run) (n : ℕ) → Found freed runs n → end_of freed < 2 ^ 32 → 0 < n → n ≤ length runs → get_or runs (n - 1) b ≡ b → end_of b ≡ freed.place
    → (n < length runs → (d : Run) → (get_or runs n d).place ≡ end_of freed → ⊥) → Joins freed runs runs (n - 1) (join freed b)
joins_before freed b runs n f small some l is e nh =
    let begins = no_behind freed runs n f nh in
    let ends = ends_found freed.place 0 (2 ^ 32 - 1) (n - 1) runs b f.up (let k = f.is in omega arith) (ap end_of is ∙ e) in
    let first : (join freed b).place ≡ b.place = omega arith in
    let rank : n - 1 ≡ count_below place_of (join freed b).place runs =
    rw first (subst (λ z. n - 1 ≡ count_below place_of z.place runs) is (count_at 0 (2 ^ 32 - 1) (n - 1) runs b f.up (omega arith))) in
    let found : find (ends_at freed.place) runs ≡ Some b = ends.found ∙ ap (λ r. Some r) is in
    let nothing : find (begins_at (end_of freed)) (without (ends_at freed.place) runs) ≡ None =
    find_begins freed.place (end_of freed) 0 (2 ^ 32 - 1) runs (omega arith) f.up ∙ begins.none in
    let rest : apart_from freed runs ≡ remove runs (n - 1) =
    without-swap (begins_at (end_of freed)) (ends_at freed.place) runs ∙ ap (without (ends_at freed.place)) begins.all ∙ sym ends.rest in
    let is' : set runs (n - 1) (join freed b) ≡ merged freed runs = sym (set_by_count (join freed b) 0 (2 ^ 32 - 1) (n - 1) runs f.up rank (omega arith)) ∙ rw (found, nothing, rest) refl in
    record {
      within = omega arith;
      rank = rank;
      is = is';
      spread = subst (λ l. IsSpread 0 (2 ^ 32 - 1) l) (sym is') f.new;
      fits = omega arith;
      grows = λ d. rw (get_or_default runs (n - 1) d b (omega arith), is) (omega arith);
    }

pub joins_both : (freed b h : Run) (runs : List Run) (n : ℕ) → Found freed runs n → 0 < n → get_or runs (n - 1) b ≡ b → end_of b ≡ freed.place
    → n < length runs → get_or runs n h ≡ h → h.place ≡ end_of freed → Joins freed runs (remove runs n) (n - 1) (join (join freed b) h)
joins_both freed b h runs n f some is e l is' e' =
    let begins = has_behind freed h runs n f l is' e' in
    let left = remove runs n in
    let shorter = length_remove n runs l in
    let up : IsSpread 0 (2 ^ 32 - 1) left = rw begins.rest (spread-without (begins_at (end_of freed)) 0 (2 ^ 32 - 1) runs f.up) in
    let count = count_remove freed.place n runs l f.is 0 (2 ^ 32 - 1) f.up in
    let is'' : get_or left (n - 1) b ≡ b = get_remove (n - 1) n runs b (omega arith) l ∙ is in
    let ends = ends_found freed.place 0 (2 ^ 32 - 1) (n - 1) runs b f.up (let k = f.is in omega arith) (ap end_of is ∙ e) in
    let ends_left = ends_found freed.place 0 (2 ^ 32 - 1) (n - 1) left b up (omega arith) (ap end_of is'' ∙ e) in
    let first : (join (join freed b) h).place ≡ b.place = omega arith in
    let rank : n - 1 ≡ count_below place_of (join (join freed b) h).place left =
    rw first (subst (λ z. n - 1 ≡ count_below place_of z.place left) is'' (count_at 0 (2 ^ 32 - 1) (n - 1) left b up (omega arith))) in
    let found : find (ends_at freed.place) runs ≡ Some b = ends.found ∙ ap (λ r. Some r) is in
    let behind : find (begins_at (end_of freed)) (without (ends_at freed.place) runs) ≡ Some h =
    find_begins freed.place (end_of freed) 0 (2 ^ 32 - 1) runs (omega arith) f.up ∙ begins.found ∙ ap (λ r. Some r) is' in
    let rest : apart_from freed runs ≡ remove left (n - 1) =
    without-swap (begins_at (end_of freed)) (ends_at freed.place) runs ∙ ap (without (ends_at freed.place)) (sym begins.rest) ∙ sym ends_left.rest in
    let joins : set left (n - 1) (join (join freed b) h) ≡ merged freed runs =
    sym (set_by_count (join (join freed b) h) 0 (2 ^ 32 - 1) (n - 1) left up rank (omega arith)) ∙ rw (found, behind, rest) refl in
    let last : end_of h ≤ 2 ^ 32 - 1 = fits_at h n runs f.up l is' in
    record {
      within = omega arith;
      rank = rank;
      is = joins;
      spread = subst (λ l. IsSpread 0 (2 ^ 32 - 1) l) (sym joins) f.new;
      fits = omega arith;
      grows = λ d. rw (get_or_default left (n - 1) d b (omega arith), is'') (omega arith);
    }

-- all runs before an index have keys below one
abbrev pub AllBelow : (Run → ℕ) → ℕ → ℕ → List Run → Type 0
AllBelow key k zero xs = Unit {0}
AllBelow key k (suc n) [] = ⊥
AllBelow key k (suc n) (x ∷ xs) = (key x < k) × AllBelow key k n xs

count_all_below : (key : Run → ℕ) (k j n : ℕ) (xs : List Run) → n ≡ count_below key k xs → k ≤ j → AllBelow key j n xs
count_all_below key k j zero xs is l = tt
count_all_below key k j (suc n) [] is l = absurd (omega arith)
count_all_below key k j (suc n) (x ∷ xs) is l =
    elim (cases_lt (key x) k) [
      | inl lt ↦ let is' : suc n ≡ suc (count_below key k xs) = rw (lt-ltb (key x) k lt) at is in (omega arith, count_all_below key k j n xs (omega arith) l)
      | inr le ↦ let is' : suc n ≡ zero = rw (le-ltb (key x) k le) at is in absurd (omega arith)
    ]

-- the runs behind a gap move one place forward: those before the gap have keys below one
pub record Shifts (key : Run → ℕ) (k j : ℕ) (before now : List Run) (n : ℕ) : Type 0 where
  pub within : n < length now
  pub below : AllBelow key j n now
  pub rest : remove now n ≡ remove_by key k before

pub shifts_start : (key : Run → ℕ) (k j n : ℕ) (xs : List Run) → n ≡ count_below key k xs → count_below key k xs < length xs → k ≤ j → Shifts key k j xs xs n
shifts_start key k j n xs is l low =
    record { within = omega arith; below = count_all_below key k j n xs is low; rest = ap (remove xs) is ∙ remove_at_count key k xs }

shift_below : (key : Run → ℕ) (j n : ℕ) (r : Run) (xs : List Run) → n < length xs → AllBelow key j n xs → key r < j → AllBelow key j (suc n) (set xs n r)
shift_below key j n r [] l all low = absurd (omega arith)
shift_below key j zero r (x ∷ xs) l all low = (low, tt)
shift_below key j (suc n) r (x ∷ xs) l all low = (all.0, shift_below key j n r xs (omega arith) all.1 low)

shift_rest : (n : ℕ) (d : Run) (xs : List Run) → suc n < length xs → remove (set xs n (get_or xs (suc n) d)) (suc n) ≡ remove xs n
shift_rest n d [] l = absurd (omega arith)
shift_rest zero d (x ∷ []) l = absurd (omega arith)
shift_rest zero d (x ∷ y ∷ ys) l = refl
shift_rest (suc n) d (x ∷ xs) l = ap (λ l. x ∷ l) (shift_rest n d xs (omega arith))

length_set : (n : ℕ) (r : Run) (xs : List Run) → length (set xs n r) ≡ length xs
length_set n r [] = refl
length_set zero r (x ∷ xs) = refl
length_set (suc n) r (x ∷ xs) = ap (λ k. suc k) (length_set n r xs)

pub shifts_on : (key : Run → ℕ) (k j n : ℕ) (r : Run) (xs now : List Run) → Shifts key k j xs now n → n + 1 < length now → r ≡ get_or now (n + 1) r → key r < j
    → Shifts key k j xs (set now n r) (n + 1)
shifts_on key k j n r xs now s l is low =
    let same : n + 1 ≡ suc n = omega arith in
    let is' : r ≡ get_or now (suc n) r = subst (λ m. r ≡ get_or now m r) same is in
    let long = length_set n r now in
    record {
      within = omega arith;
      below = rw same (shift_below key j n r now s.within s.below low);
      rest = rw same (subst (λ z. remove (set now n z) (suc n) ≡ remove now n) (sym is') (shift_rest n r now (omega arith)) ∙ s.rest);
    }

filled : (key : Run → ℕ) (n : ℕ) (r : Run) (xs : List Run) → n < length xs → AllBelow key (key r) n xs → (suc n < length xs → (d : Run) → key r ≤ key (get_or xs (suc n) d))
    → set xs n r ≡ insert_by key r (remove xs n)
filled key n r [] l all next = absurd (omega arith)
filled key zero r (x ∷ []) l all next = refl
filled key zero r (x ∷ y ∷ ys) l all next = let above : key r ≤ key y = next (omega arith) r in rw (le-ltb (key y) (key r) above) refl
filled key (suc n) r (x ∷ xs) l all next =
    rw (lt-ltb (key x) (key r) all.0) (ap (λ l. x ∷ l) (filled key n r xs (omega arith) all.1 (λ m d. next (omega arith) d)))

pub shifts_end : (key : Run → ℕ) (k n : ℕ) (r : Run) (xs now : List Run) → Shifts key k (key r) xs now n → (n + 1 < length now → (d : Run) → key r ≤ key (get_or now (n + 1) d))
    → set now n r ≡ insert_by key r (remove_by key k xs)
shifts_end key k n r xs now s next =
    let same : n + 1 ≡ suc n = omega arith in
    filled key n r now s.within s.below (λ l d. subst (λ m. key r ≤ key (get_or now m d)) same (next (omega arith) d)) ∙ ap (insert_by key r) s.rest
