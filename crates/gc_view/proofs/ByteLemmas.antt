-- What a write leaves of the bytes around it, and words in equal bytes.
use Rattle.std.proofs.Common.{◌≡◌, ℕ, ◌+◌, ◌-◌, ◌<◌, ◌≤◌, ◌^◌, List, ◌++◌, length, take, drop, get_or, refl, sym, ap, ◌∙◌, inl, inr, arith}
use Rattle.std.specs.Int.{w32, from_le_bytes, to_le_bytes}
use Rattle.std.proofs.lemmas.List.{same_lists, length-take, length-drop, length-append, get_or-take, get_or-drop, get_or_append_left, get_or-append_right, length-take-le}
use Rattle.std.proofs.lemmas.Bool.{cases_lt}
use Rattle.std.proofs.lemmas.Nat.{from_le_bytes-to_le_bytes_4}
use Rattle.gc_view.specs.Bytes.{u32_at, put_u32}
use Rattle.gc_view.specs.Bytes.{put_bytes, SameBytes}

-- a part of a range
pub SameBytes-part : {a b : List ℕ} {lo hi : ℕ} → SameBytes a b lo hi → (lo' hi' : ℕ) → lo ≤ lo' → hi' ≤ hi → SameBytes a b lo' hi'
SameBytes-part s lo' hi' l h = record {
  same_length = s.same_length;
  at = λ j d p q. s.at j d (omega arith) (omega arith);
}

-- one change after another
pub SameBytes-then : {a b c : List ℕ} {lo hi : ℕ} → SameBytes a b lo hi → SameBytes b c lo hi → SameBytes a c lo hi
SameBytes-then s t = record {
  same_length = t.same_length ∙ s.same_length;
  at = λ j d p q. t.at j d p q ∙ s.at j d p q;
}

-- a byte of a part
get_or-part : (bytes : List ℕ) (lo n k d : ℕ) → k < n → get_or (take n (drop lo bytes)) k d ≡ get_or bytes (lo + k) d
get_or-part bytes lo n k d h = get_or-take n (drop lo bytes) k d h ∙ get_or-drop lo bytes k d

-- a part that lies in equal bytes is the same
pub part_in_same : (a b : List ℕ) (p n : ℕ) → SameBytes a b p (p + n) → take n (drop p b) ≡ take n (drop p a)
part_in_same a b p n s =
    let len : length (take n (drop p b)) ≡ length (take n (drop p a)) = simp (length-take, length-drop, s.same_length) refl in
    same_lists _ _ len (λ k d h.
    let below : k < n = omega (arith, length-take n (drop p b)) in
    get_or-part b p n k d below ∙ s.at (p + k) d (omega arith) (omega arith) ∙ sym (get_or-part a p n k d below))

-- a word that lies in equal bytes is the same
pub u32_in_same : (a b : List ℕ) (p : ℕ) → SameBytes a b p (p + 4) → u32_at b p ≡ u32_at a p
u32_in_same a b p s = ap (from_le_bytes w32) (part_in_same a b p 4 s)

pub length-put_bytes : (bytes : List ℕ) (p : ℕ) (ws : List ℕ) → p + length ws ≤ length bytes → length (put_bytes bytes p ws) ≡ length bytes
length-put_bytes bytes p ws h = simp (length-append, length-take, length-drop) (omega arith)

get_or-put_bytes_below : (bytes : List ℕ) (p : ℕ) (ws : List ℕ) (j d : ℕ) → p + length ws ≤ length bytes → j < p → get_or (put_bytes bytes p ws) j d ≡ get_or bytes j d
get_or-put_bytes_below bytes p ws j d h l =
    get_or_append_left (take p bytes) (ws ++ drop (p + length ws) bytes) d j (omega (arith, length-take-le p bytes (omega arith)))
    ∙ get_or-take p bytes j d l

get_or-put_bytes_in : (bytes : List ℕ) (p : ℕ) (ws : List ℕ) (j d : ℕ) → p + length ws ≤ length bytes → p ≤ j → j < p + length ws → get_or (put_bytes bytes p ws) j d ≡ get_or ws (j - p) d
get_or-put_bytes_in bytes p ws j d h l u =
    get_or-append_right (take p bytes) (ws ++ drop (p + length ws) bytes) p j d (length-take-le p bytes (omega arith)) l
    ∙ get_or_append_left ws (drop (p + length ws) bytes) d (j - p) (omega arith)

get_or-put_bytes_above : (bytes : List ℕ) (p : ℕ) (ws : List ℕ) (j d : ℕ) → p + length ws ≤ length bytes → p + length ws ≤ j → get_or (put_bytes bytes p ws) j d ≡ get_or bytes j d
get_or-put_bytes_above bytes p ws j d h l =
    let e : (p + length ws) + ((j - p) - length ws) ≡ j = omega arith in
    get_or-append_right (take p bytes) (ws ++ drop (p + length ws) bytes) p j d (length-take-le p bytes (omega arith)) (omega arith)
    ∙ get_or-append_right ws (drop (p + length ws) bytes) (length ws) (j - p) d refl (omega arith)
    ∙ get_or-drop (p + length ws) bytes ((j - p) - length ws) d
    ∙ ap (λ k. get_or bytes k d) e

-- bytes below a write
pub put_bytes-below : (bytes : List ℕ) (p : ℕ) (ws : List ℕ) (lo hi : ℕ) → p + length ws ≤ length bytes → hi ≤ p → SameBytes bytes (put_bytes bytes p ws) lo hi
put_bytes-below bytes p ws lo hi h l = record {
  same_length = length-put_bytes bytes p ws h;
  at = λ j d a b. get_or-put_bytes_below bytes p ws j d h (omega arith);
}

-- bytes behind a write
pub put_bytes-above : (bytes : List ℕ) (p : ℕ) (ws : List ℕ) (lo hi : ℕ) → p + length ws ≤ length bytes → p + length ws ≤ lo → SameBytes bytes (put_bytes bytes p ws) lo hi
put_bytes-above bytes p ws lo hi h l = record {
  same_length = length-put_bytes bytes p ws h;
  at = λ j d a b. get_or-put_bytes_above bytes p ws j d h (omega arith);
}

-- what was written can be read
pub part-put_bytes : (bytes : List ℕ) (p : ℕ) (ws : List ℕ) → p + length ws ≤ length bytes → take (length ws) (drop p (put_bytes bytes p ws)) ≡ ws
part-put_bytes bytes p ws h =
    let len : length (take (length ws) (drop p (put_bytes bytes p ws))) ≡ length ws =
    length-take (length ws) (drop p (put_bytes bytes p ws)) ∙ omega (arith, length-drop p (put_bytes bytes p ws), length-put_bytes bytes p ws h) in
    same_lists _ _ len (λ k d l.
    let below : k < length ws = omega arith in
    get_or-take (length ws) (drop p (put_bytes bytes p ws)) k d below
    ∙ get_or-drop p (put_bytes bytes p ws) k d
    ∙ get_or-put_bytes_in bytes p ws (p + k) d h (omega arith) (omega arith)
    ∙ ap (λ i. get_or ws i d) (let e : p + k - p ≡ k = omega arith in e))

length-part : (bytes : List ℕ) (lo n : ℕ) → lo + n ≤ length bytes → length (take n (drop lo bytes)) ≡ n
length-part bytes lo n h = length-take-le n (drop lo bytes) (omega (arith, length-drop lo bytes))

part-put_bytes_at : (bytes : List ℕ) (lo n p : ℕ) (ws : List ℕ) (k d : ℕ) → lo ≤ p → p + length ws ≤ lo + n → lo + n ≤ length bytes → k < n
    → get_or (put_bytes bytes p ws) (lo + k) d ≡ get_or (put_bytes (take n (drop lo bytes)) (p - lo) ws) k d
part-put_bytes_at bytes lo n p ws k d l u h below =
    let part : List ℕ = take n (drop lo bytes) in
    let len : length part ≡ n = length-part bytes lo n h in
    let fits : p + length ws ≤ length bytes = omega arith in
    let fits_part : (p - lo) + length ws ≤ length part = omega arith in
    elim (cases_lt (lo + k) p) [
      | inl before ↦
          get_or-put_bytes_below bytes p ws (lo + k) d fits before
          ∙ sym (get_or-put_bytes_below part (p - lo) ws k d fits_part (omega arith) ∙ get_or-part bytes lo n k d below)
      | inr from ↦ elim (cases_lt (lo + k) (p + length ws)) [
        | inl to ↦
            get_or-put_bytes_in bytes p ws (lo + k) d fits from to
            ∙ ap (λ i. get_or ws i d) (let e : lo + k - p ≡ k - (p - lo) = omega arith in e)
            ∙ sym (get_or-put_bytes_in part (p - lo) ws k d fits_part (omega arith) (omega arith))
        | inr behind ↦
            get_or-put_bytes_above bytes p ws (lo + k) d fits behind
            ∙ sym (get_or-put_bytes_above part (p - lo) ws k d fits_part (omega arith) ∙ get_or-part bytes lo n k d below)
      ]
    ]

-- a write inside a part of the bytes is a write to that part
pub part-put_bytes_inside : (bytes : List ℕ) (lo n p : ℕ) (ws : List ℕ) → lo ≤ p → p + length ws ≤ lo + n → lo + n ≤ length bytes
    → take n (drop lo (put_bytes bytes p ws)) ≡ put_bytes (take n (drop lo bytes)) (p - lo) ws
part-put_bytes_inside bytes lo n p ws l u h =
    let part : List ℕ = take n (drop lo bytes) in
    let len : length part ≡ n = length-part bytes lo n h in
    let same : length (put_bytes bytes p ws) ≡ length bytes = length-put_bytes bytes p ws (omega arith) in
    let written : length (take n (drop lo (put_bytes bytes p ws))) ≡ n = length-part (put_bytes bytes p ws) lo n (omega arith) in
    same_lists _ _ (written ∙ sym (length-put_bytes part (p - lo) ws (omega arith) ∙ len)) (λ k d below.
    let k_below : k < n = omega arith in
    get_or-part (put_bytes bytes p ws) lo n k d k_below ∙ part-put_bytes_at bytes lo n p ws k d l u h k_below)

-- a word of a part is a word of the whole
pub u32_at-part : (bytes : List ℕ) (lo n o : ℕ) → o + 4 ≤ n → lo + n ≤ length bytes → u32_at (take n (drop lo bytes)) o ≡ u32_at bytes (lo + o)
u32_at-part bytes lo n o u h =
    let part : List ℕ = take n (drop lo bytes) in
    let len : length part ≡ n = length-part bytes lo n h in
    let a : length (take 4 (drop o part)) ≡ 4 = length-part part o 4 (omega arith) in
    let b : length (take 4 (drop (lo + o) bytes)) ≡ 4 = length-part bytes (lo + o) 4 (omega arith) in
    ap (from_le_bytes w32) (same_lists _ _ (a ∙ sym b) (λ k d below.
    get_or-part part o 4 k d (omega arith)
    ∙ get_or-part bytes lo n (o + k) d (omega arith)
    ∙ sym (get_or-part bytes (lo + o) 4 k d (omega arith) ∙ ap (λ i. get_or bytes i d) (let e : lo + o + k ≡ lo + (o + k) = omega arith in e))))

-- the number that was written can be read
pub u32_at-put_u32 : (bytes : List ℕ) (p n : ℕ) → p + 4 ≤ length bytes → n < 2 ^ 32 → u32_at (put_u32 bytes p n) p ≡ n
u32_at-put_u32 bytes p n h small =
    ap (from_le_bytes w32) (part-put_bytes bytes p (to_le_bytes w32 n) h) ∙ from_le_bytes-to_le_bytes_4 n small

-- a write of a number keeps the length
pub length-put_u32 : (bytes : List ℕ) (p n : ℕ) → p + 4 ≤ length bytes → length (put_u32 bytes p n) ≡ length bytes
length-put_u32 bytes p n h = length-put_bytes bytes p (to_le_bytes w32 n) h

-- a number before the one that was written is as it was
pub u32_at-put_before : (bytes : List ℕ) (p n q : ℕ) → p + 4 ≤ length bytes → q + 4 ≤ p → u32_at (put_u32 bytes p n) q ≡ u32_at bytes q
u32_at-put_before bytes p n q h below = u32_in_same bytes (put_u32 bytes p n) q (put_bytes-below bytes p (to_le_bytes w32 n) q (q + 4) h below)
