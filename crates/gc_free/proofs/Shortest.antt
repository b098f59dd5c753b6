-- The shortest run that is long enough is the first such by length.
use Rattle.std.proofs.Common.{ℕ, zero, suc, ◌≡◌, ◌≤◌, ◌<◌, ◌*◌, ◌^◌, get_or, length, List, [], ◌∷◌, arith, refl, ap, sym, ◌∙◌, leb, inl, inr, ◌⊎◌, Option, Some, None, subst}
use Rattle.std.proofs.lemmas.Bool.{lt-ltb, le-ltb, le-leb, lt-leb, cases_lt}
use Rattle.std.specs.List.{find}
use Rattle.gc_free.specs.declared.run.Run.{Run}
use Rattle.gc_free.specs.Runs.{insert_by, remove_by, IsSpread, end_of}
use Rattle.gc_free.specs.Orders.{count_below, length_key, by_length, shortest_fit, shorter_fit}
use Rattle.gc_free.proofs.InsertBy.{Rises, Rises-lower}
use Rattle.gc_free.proofs.ByLength.{In, In-place, by_length-rises}

-- the first of these that is long enough
abbrev pub first_fit : ℕ → List Run → Option Run
first_fit size ys = find (λ r. leb size r.length) ys

In-uninsert : (key : Run → ℕ) (a r : Run) (xs : List Run) → In r (insert_by key a xs) → (a ≡ r) ⊎ In r xs
In-uninsert key a r [] h = h
In-uninsert key a r (x ∷ xs) h =
    elim (cases_lt (key x) (key a)) [
      | inl l ↦ elim (rw (lt-ltb (key x) (key a) l) at h) [
        | inl e ↦ inr (inl e)
        | inr h ↦ elim (In-uninsert key a r xs h) [ inl e ↦ inl e | inr i ↦ inr (inr i) ]
      ]
      | inr l ↦ rw (le-ltb (key x) (key a) l) at h
    ]

pub In-unordered : (r : Run) (xs : List Run) → In r (by_length xs) → In r xs
In-unordered r [] h = h
In-unordered r (x ∷ xs) h = elim (In-uninsert length_key x r (by_length xs) h) [ inl e ↦ inl e | inr i ↦ inr (In-unordered r xs i) ]

-- one that is too short changes nothing
shorter_not : (size : ℕ) (x : Run) (o : Option Run) → x.length < size → shorter_fit size x o ≡ o
shorter_not size x None l = rw (lt-leb size x.length l)
shorter_not size x (Some z) l = rw (lt-leb size x.length l)

-- one that stands before all is the shortest where it is long enough
shorter_first : (size : ℕ) (x : Run) (ys : List Run) → size ≤ x.length → x.place < 2 ^ 32 → Rises length_key (length_key x) ys
    → ((z : Run) → In z ys → z.place < 2 ^ 32) → shorter_fit size x (first_fit size ys) ≡ Some x
shorter_first size x [] l small up places = rw (le-leb size x.length l)
shorter_first size x (y ∷ ys) l small up places =
    let key : length_key x ≤ length_key y = up.0 in let place : y.place < 2 ^ 32 = places y (inl refl) in
    elim (cases_lt y.length size) [
      | inl short ↦ simp (lt-leb size y.length short) (shorter_first size x ys l small (Rises-lower length_key (length_key y) (length_key x) ys key up.1) (λ z h. places z (inr h)))
      | inr long ↦ simp (le-leb size y.length long, le-leb size x.length l, le-leb x.length y.length (omega arith))
    ]

fit-insert : (size : ℕ) (x : Run) (k : ℕ) (ys : List Run) → x.place < 2 ^ 32 → Rises length_key k ys
    → ((z : Run) → In z ys → (x.place < z.place) × (z.place < 2 ^ 32)) → first_fit size (insert_by length_key x ys) ≡ shorter_fit size x (first_fit size ys)
fit-insert size x k [] small up places = refl
fit-insert size x k (y ∷ ys) small up places =
    let place = places y (inl refl) in
    let above : x.place < y.place = place.0 in
    elim (cases_lt (length_key y) (length_key x)) [
      | inl l ↦ elim (cases_lt y.length size) [
        | inl short ↦ simp (lt-ltb (length_key y) (length_key x) l, lt-leb size y.length short) (fit-insert size x (length_key y) ys small up.1 (λ z h. places z (inr h)))
        | inr long ↦ simp (lt-ltb (length_key y) (length_key x) l, le-leb size y.length long, le-leb size x.length (omega arith), lt-leb x.length y.length (omega arith))
      ]
      | inr l ↦ elim (cases_lt x.length size) [
        | inl short ↦ rw (le-ltb (length_key y) (length_key x) l, lt-leb size x.length short) (sym (shorter_not size x (first_fit size (y ∷ ys)) short))
        | inr long ↦ rw (le-ltb (length_key y) (length_key x) l, le-leb size x.length long)
            (sym (shorter_first size x (y ∷ ys) long small (l, up.1) (λ z h. (places z h).1)))
      ]
    ]

pub shortest_is_first : (size low high : ℕ) (xs : List Run) → high < 2 ^ 32 → IsSpread low high xs → shortest_fit size xs ≡ first_fit size (by_length xs)
shortest_is_first size low high [] small up = refl
shortest_is_first size low high (x ∷ xs) small up =
    let some : 0 < x.length = up.1 in let within : end_of x ≤ high = up.2 in
    ap (shorter_fit size x) (shortest_is_first size (end_of x) high xs small up.3)
    ∙ sym (fit-insert size x 0 (by_length xs) (omega arith) (by_length-rises xs) (λ z h.
    let p = In-place (end_of x) high z xs up.3 (In-unordered z xs h) in
    let past : end_of x ≤ z.place = p.0 in let last : end_of z ≤ high = p.1 in let more : 0 < z.length = p.2 in (omega arith, omega arith)))

-- a search for the length alone finds it
pub fit_at : (size : ℕ) (ys : List Run) (d : Run) → ((z : Run) → In z ys → z.place < 2 ^ 32) → count_below length_key (size * 2 ^ 32) ys < length ys
    → first_fit size ys ≡ Some (get_or ys (count_below length_key (size * 2 ^ 32) ys) d)
fit_at size [] d places l = absurd (omega arith)
fit_at size (y ∷ ys) d places l =
    let place : y.place < 2 ^ 32 = places y (inl refl) in
    elim (cases_lt (length_key y) (size * 2 ^ 32)) [
      | inl short ↦
          let l' : suc (count_below length_key (size * 2 ^ 32) ys) < suc (length ys) = rw (lt-ltb (length_key y) (size * 2 ^ 32) short) at l in
          rw (lt-ltb (length_key y) (size * 2 ^ 32) short, lt-leb size y.length (omega arith)) (fit_at size ys d (λ z h. places z (inr h)) (omega arith))
      | inr long ↦ rw (le-ltb (length_key y) (size * 2 ^ 32) long, le-leb size y.length (omega arith))
    ]

pub no_fit : (size : ℕ) (ys : List Run) → ((z : Run) → In z ys → z.place < 2 ^ 32) → length ys ≤ count_below length_key (size * 2 ^ 32) ys → first_fit size ys ≡ None
no_fit size [] places l = refl
no_fit size (y ∷ ys) places l =
    let place : y.place < 2 ^ 32 = places y (inl refl) in
    elim (cases_lt (length_key y) (size * 2 ^ 32)) [
      | inl short ↦
          let l' : suc (length ys) ≤ suc (count_below length_key (size * 2 ^ 32) ys) = rw (lt-ltb (length_key y) (size * 2 ^ 32) short) at l in
          rw (lt-leb size y.length (omega arith)) (no_fit size ys (λ z h. places z (inr h)) (omega arith))
      | inr long ↦
          let l' : suc (length ys) ≤ 0 = rw (le-ltb (length_key y) (size * 2 ^ 32) long) at l in absurd (omega arith)
    ]

pub count_key : (key : Run → ℕ) (k : ℕ) (ys : List Run) (d : Run) → count_below key k ys < length ys → k ≤ key (get_or ys (count_below key k ys) d)
count_key key k [] d l = absurd (omega arith)
count_key key k (y ∷ ys) d l =
    elim (cases_lt (key y) k) [
      | inl short ↦
          let l' : suc (count_below key k ys) < suc (length ys) = rw (lt-ltb (key y) k short) at l in
          rw (lt-ltb (key y) k short) (count_key key k ys d (omega arith))
      | inr long ↦ rw (le-ltb (key y) k long) long
    ]

-- what stands at a search's place is what its own key takes out
pub remove_by-at : (key : Run → ℕ) (k n : ℕ) (ys : List Run) (d : Run) → n ≡ count_below key k ys → n < length ys
    → remove_by key (key (get_or ys n d)) ys ≡ remove_by key k ys
remove_by-at key k n [] d e l = absurd (omega arith)
remove_by-at key k zero (y ∷ ys) d e l =
    elim (cases_lt (key y) k) [
      | inl short ↦ let e' : zero ≡ suc (count_below key k ys) = rw (lt-ltb (key y) k short) at e in absurd (omega arith)
      | inr long ↦ rw (le-ltb (key y) k long, le-ltb (key y) (key y) (omega arith))
    ]
remove_by-at key k (suc n) (y ∷ ys) d e l =
    elim (cases_lt (key y) k) [
      | inl short ↦
          let e' : suc n ≡ suc (count_below key k ys) = rw (lt-ltb (key y) k short) at e in
          let same : n ≡ count_below key k ys = omega arith in
          let found : k ≤ key (get_or ys n d) = subst (λ i. i < length ys → k ≤ key (get_or ys i d)) (sym same) (count_key key k ys d) (omega arith) in
          rw (lt-ltb (key y) k short, lt-ltb (key y) (key (get_or ys n d)) (omega arith)) (ap (λ l. y ∷ l) (remove_by-at key k n ys d same (omega arith)))
      | inr long ↦ let e' : suc n ≡ 0 = rw (le-ltb (key y) k long) at e in absurd (omega arith)
    ]

pub In-get_or : (ys : List Run) (i : ℕ) (d : Run) → i < length ys → In (get_or ys i d) ys
In-get_or [] i d l = absurd (omega arith)
In-get_or (y ∷ ys) zero d l = inl refl
In-get_or (y ∷ ys) (suc i) d l = inr (In-get_or ys i d (omega arith))
