-- The runs by length follow what is done to the runs by place.
use Rattle.std.proofs.Common.{ℕ, ◌≡◌, ◌≤◌, ◌<◌, ◌+◌, ◌^◌, length, List, [], ◌∷◌, arith, refl, ap, sym, ◌∙◌, inl, inr, ◌⊎◌, subst}
use Rattle.std.proofs.lemmas.Bool.{lt-ltb, le-ltb, cases_lt}
use Rattle.gc_free.specs.declared.run.Run.{Run}
use Rattle.gc_free.specs.Runs.{insert_by, remove_by, insert_run, IsSpread, end_of}
use Rattle.gc_free.specs.Orders.{length_key, by_length}
use Rattle.gc_free.proofs.InsertBy.{Rises, Rises-lower, Rises-insert, Has, remove_by-insert_same, remove_by-insert_by, insert_by-swap}

abbrev pub place_of : Run → ℕ
place_of r = r.place

-- the run is one of these
abbrev pub In : Run → List Run → Type 0
In r [] = ⊥
In r (x ∷ xs) = (x ≡ r) ⊎ In r xs

pub Has-In : (key : Run → ℕ) (r : Run) (xs : List Run) → In r xs → Has key (key r) xs
Has-In key r [] h = h
Has-In key r (x ∷ xs) (inl e) = inl (ap key e)
Has-In key r (x ∷ xs) (inr h) = inr (Has-In key r xs h)

In-insert_same : (key : Run → ℕ) (r : Run) (xs : List Run) → In r (insert_by key r xs)
In-insert_same key r [] = inl refl
In-insert_same key r (x ∷ xs) =
    elim (cases_lt (key x) (key r)) [
      | inl l ↦ rw (lt-ltb (key x) (key r) l) (inr (In-insert_same key r xs))
      | inr l ↦ rw (le-ltb (key x) (key r) l) (inl refl)
    ]

pub In-insert : (key : Run → ℕ) (a r : Run) (xs : List Run) → In r xs → In r (insert_by key a xs)
In-insert key a r [] h = absurd h
In-insert key a r (x ∷ xs) h =
    elim (cases_lt (key x) (key a)) [
      | inl l ↦ rw (lt-ltb (key x) (key a) l) (elim h [ inl e ↦ inl e | inr h ↦ inr (In-insert key a r xs h) ])
      | inr l ↦ rw (le-ltb (key x) (key a) l) (inr h)
    ]

pub In-by_length : (r : Run) (xs : List Run) → In r xs → In r (by_length xs)
In-by_length r [] h = h
In-by_length r (x ∷ xs) (inl e) = subst (λ z. In z (insert_by length_key x (by_length xs))) e (In-insert_same length_key x (by_length xs))
In-by_length r (x ∷ xs) (inr h) = In-insert length_key x r (by_length xs) (In-by_length r xs h)

pub by_length-rises : (xs : List Run) → Rises length_key 0 (by_length xs)
by_length-rises [] = tt
by_length-rises (x ∷ xs) = Rises-insert length_key 0 x (by_length xs) (omega arith) (by_length-rises xs)

pub length-insert_by : (key : Run → ℕ) (r : Run) (xs : List Run) → length (insert_by key r xs) ≡ length xs + 1
length-insert_by key r [] = refl
length-insert_by key r (x ∷ xs) =
    elim (cases_lt (key x) (key r)) [
      | inl l ↦ rw (lt-ltb (key x) (key r) l) (let e = length-insert_by key r xs in omega arith)
      | inr l ↦ rw (le-ltb (key x) (key r) l) (omega arith)
    ]

pub length-by_length : (xs : List Run) → length (by_length xs) ≡ length xs
length-by_length [] = refl
length-by_length (x ∷ xs) = let e = length-insert_by length_key x (by_length xs) in let h = length-by_length xs in omega arith

pub IsSpread-rises : (low high : ℕ) (xs : List Run) → IsSpread low high xs → Rises place_of low xs
IsSpread-rises low high [] up = tt
IsSpread-rises low high (x ∷ xs) up =
    (up.0, let some : 0 < x.length = up.1 in Rises-lower place_of (end_of x) x.place xs (omega arith) (IsSpread-rises (end_of x) high xs up.3))

-- keys tell places apart
pub key_apart : (a b : Run) → a.place < 2 ^ 32 → b.place < 2 ^ 32 → (a.place ≡ b.place → ⊥) → length_key a ≡ length_key b → ⊥
key_apart a b la lb ne e = ne (omega arith)

pub by_length-insert_run : (r : Run) (low high : ℕ) (xs : List Run) → high < 2 ^ 32 → r.place < 2 ^ 32 → IsSpread low high xs
    → by_length (insert_run r xs) ≡ insert_by length_key r (by_length xs)
by_length-insert_run r low high [] small lr up = refl
by_length-insert_run r low high (x ∷ xs) small lr up =
    let within : end_of x ≤ high = up.2 in
    elim (cases_lt x.place r.place) [
      | inl l ↦ rw (lt-ltb x.place r.place l) (
          ap (insert_by length_key x) (by_length-insert_run r (end_of x) high xs small lr up.3)
          ∙ insert_by-swap length_key x r (by_length xs) (key_apart x r (omega arith) lr (λ e. omega arith)))
      | inr l ↦ rw (le-ltb x.place r.place l)
    ]

-- no run of rising places begins lower
pub In-place : (low high : ℕ) (r : Run) (xs : List Run) → IsSpread low high xs → In r xs → (low ≤ r.place) × (end_of r ≤ high) × (0 < r.length)
In-place low high r [] up h = absurd h
In-place low high r (x ∷ xs) up (inl e) =
    let place : x.place ≡ r.place = ap (λ z. z.place) e in
    let length : x.length ≡ r.length = ap (λ z. z.length) e in
    let a : low ≤ x.place = up.0 in let b : 0 < x.length = up.1 in let c : end_of x ≤ high = up.2 in
    (omega arith, omega arith, omega arith)
In-place low high r (x ∷ xs) up (inr h) =
    let p = In-place (end_of x) high r xs up.3 h in
    let a : low ≤ x.place = up.0 in let b : 0 < x.length = up.1 in let c : end_of x ≤ r.place = p.0 in
    (omega arith, p.1, p.2)

pub by_length-remove : (r : Run) (low high : ℕ) (xs : List Run) → high < 2 ^ 32 → IsSpread low high xs → In r xs
    → by_length (remove_by place_of r.place xs) ≡ remove_by length_key (length_key r) (by_length xs)
by_length-remove r low high [] small up h = absurd h
by_length-remove r low high (x ∷ xs) small up (inl e) =
    subst (λ z. by_length (remove_by place_of z.place (x ∷ xs)) ≡ remove_by length_key (length_key z) (by_length (x ∷ xs))) e
    (rw (le-ltb x.place x.place (omega arith)) (sym (remove_by-insert_same length_key x (by_length xs))))
by_length-remove r low high (x ∷ xs) small up (inr h) =
    let p = In-place (end_of x) high r xs up.3 h in
    let some : 0 < x.length = up.1 in let within : end_of x ≤ high = up.2 in let past : end_of x ≤ r.place = p.0 in let last : end_of r ≤ high = p.1 in
    let l : x.place < r.place = omega arith in
    rw (lt-ltb x.place r.place l) (
    ap (insert_by length_key x) (by_length-remove r (end_of x) high xs small up.3 h)
    ∙ sym (remove_by-insert_by length_key (length_key r) 0 x (by_length xs) (by_length-rises xs) (Has-In length_key r (by_length xs) (In-by_length r xs h))
    (key_apart x r (omega arith) (omega arith) (λ e. omega arith))))
