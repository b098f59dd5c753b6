-- What the changes of a memory leave as it was.
use Rattle.std.proofs.Common.{◌≡◌, ℕ, ◌+◌, ◌-◌, ◌<◌, ◌≤◌, List, ◌++◌, length, take, drop, get_or, replicate, refl, sym, ap, ◌∙◌, inl, inr, arith}
use Rattle.std.proofs.Math.Logic.{◌⊎◌}
use Rattle.std.specs.Int.{w32, w64, to_le_bytes}
use Rattle.std.proofs.lemmas.Bool.{cases_lt}
use Rattle.std.proofs.Math.Seq.{take-add}
use Rattle.std.proofs.lemmas.List.{same_lists, drop-drop, length-replicate, length-take-le, length-drop, length-append, get_or-take, get_or-drop, get_or-replicate, get_or_append_left, get_or-append_right}
use Rattle.std.proofs.Math.ListN.{get_or-eq_default}
use Rattle.gc_view.specs.Bytes.{put_u32}
use Rattle.gc_view.specs.Bytes.{put_bytes, SameBytes}
use Rattle.gc_view.proofs.ByteLemmas.{length-put_bytes, put_bytes-below, put_bytes-above, part-put_bytes}
use Rattle.gc_memory.specs.Words.{put_u64}
use Rattle.gc_memory.specs.Changes.{Wrote, SameAcross}

-- bytes were written
pub Wrote-put_bytes : (bytes : List ℕ) (p : ℕ) (ws : List ℕ) (n : ℕ) → length ws ≡ n → p + n ≤ length bytes → Wrote bytes (put_bytes bytes p ws) p n
Wrote-put_bytes bytes p ws n len h =
    let fits : p + length ws ≤ length bytes = omega arith in
    record {
      same_length = length-put_bytes bytes p ws fits;
      below = λ j d l. (put_bytes-below bytes p ws j (j + 1) fits (omega arith)).at j d (omega arith) (omega arith);
      above = λ j d l. (put_bytes-above bytes p ws j (j + 1) fits (omega arith)).at j d (omega arith) (omega arith);
    }

-- a number of 32 bits was written
pub Wrote-put_u32 : (bytes : List ℕ) (p v : ℕ) → p + 4 ≤ length bytes → Wrote bytes (put_u32 bytes p v) p 4
Wrote-put_u32 bytes p v h = Wrote-put_bytes bytes p (to_le_bytes w32 v) 4 refl h

-- a number of 64 bits was written
pub Wrote-put_u64 : (bytes : List ℕ) (p v : ℕ) → p + 8 ≤ length bytes → Wrote bytes (put_u64 bytes p v) p 8
Wrote-put_u64 bytes p v h = Wrote-put_bytes bytes p (to_le_bytes w64 v) 8 refl h

-- bytes were made 0
pub Wrote-zeros : (bytes : List ℕ) (p n : ℕ) → p + n ≤ length bytes → Wrote bytes (put_bytes bytes p (replicate n 0)) p n
Wrote-zeros bytes p n h = Wrote-put_bytes bytes p (replicate n 0) n (length-replicate {A = ℕ} n 0) h

-- bytes were copied
pub Wrote-move : (bytes : List ℕ) (from to n : ℕ) → from + n ≤ length bytes → to + n ≤ length bytes
    → Wrote bytes (put_bytes bytes to (take n (drop from bytes))) to n
Wrote-move bytes from to n h k =
    Wrote-put_bytes bytes to (take n (drop from bytes)) n (length-take-le n (drop from bytes) (omega (arith, length-drop from bytes))) k

-- nothing was written
pub Wrote-nothing : (bytes : List ℕ) (p n : ℕ) → Wrote bytes bytes p n
Wrote-nothing bytes p n = record { same_length = refl; below = λ j d l. refl; above = λ j d l. refl }

-- a greater range holds what was written
pub Wrote-within : {a b : List ℕ} {p n : ℕ} → Wrote a b p n → (p' n' : ℕ) → p' ≤ p → p + n ≤ p' + n' → Wrote a b p' n'
Wrote-within w p' n' l h = record {
  same_length = w.same_length;
  below = λ j d q. w.below j d (omega arith);
  above = λ j d q. w.above j d (omega arith);
}

-- one change after another
pub Wrote-then : {a b c : List ℕ} {p n : ℕ} → Wrote a b p n → Wrote b c p n → Wrote a c p n
Wrote-then v w = record {
  same_length = w.same_length ∙ v.same_length;
  below = λ j d q. w.below j d q ∙ v.below j d q;
  above = λ j d q. w.above j d q ∙ v.above j d q;
}

-- what lies before the range that was written
pub Wrote-before : {a b : List ℕ} {p n : ℕ} → Wrote a b p n → (lo hi : ℕ) → hi ≤ p → SameBytes a b lo hi
Wrote-before w lo hi h = record { same_length = w.same_length; at = λ j d l u. w.below j d (omega arith) }

-- what lies behind it
pub Wrote-behind : {a b : List ℕ} {p n : ℕ} → Wrote a b p n → (lo hi : ℕ) → p + n ≤ lo → SameBytes a b lo hi
Wrote-behind w lo hi h = record { same_length = w.same_length; at = λ j d l u. w.above j d (omega arith) }

-- what lies on either side of it
pub Wrote-apart : {a b : List ℕ} {p n : ℕ} → Wrote a b p n → (lo hi : ℕ) → (hi ≤ p) ⊎ (p + n ≤ lo) → SameBytes a b lo hi
Wrote-apart w lo hi (inl h) = Wrote-before w lo hi h
Wrote-apart w lo hi (inr h) = Wrote-behind w lo hi h

-- a byte that was written is read back
pub get_or-put_bytes : (bytes : List ℕ) (p : ℕ) (ws : List ℕ) (k d : ℕ) → p + length ws ≤ length bytes → k < length ws → get_or (put_bytes bytes p ws) (p + k) d ≡ get_or ws k d
get_or-put_bytes bytes p ws k d h l =
    sym (get_or-take (length ws) (drop p (put_bytes bytes p ws)) k d l ∙ get_or-drop p (put_bytes bytes p ws) k d)
    ∙ ap (λ bs. get_or bs k d) (part-put_bytes bytes p ws h)

-- bytes that were made 0 are 0
pub get_or-zeros : (bytes : List ℕ) (p n j d : ℕ) → p + n ≤ length bytes → p ≤ j → j < p + n → get_or (put_bytes bytes p (replicate n 0)) j d ≡ 0
get_or-zeros bytes p n j d h l u =
    let len : length (replicate {A = ℕ} n 0) ≡ n = length-replicate {A = ℕ} n 0 in
    let at : p + (j - p) ≡ j = omega arith in
    ap (λ k. get_or (put_bytes bytes p (replicate n 0)) k d) (sym at)
    ∙ get_or-put_bytes bytes p (replicate n 0) (j - p) d (omega arith) (omega arith)
    ∙ get_or-replicate n (j - p) 0 d (omega arith)

-- Bytes that are added at the end and are 0 change no byte that is read as 0 outside.
pub get_or-grown : (bytes : List ℕ) (n j : ℕ) → get_or (bytes ++ replicate n 0) j 0 ≡ get_or bytes j 0
get_or-grown bytes n j = elim (cases_lt j (length bytes)) [
  | inl inside ↦ get_or_append_left bytes (replicate n 0) 0 j inside
  | inr behind ↦
      get_or-append_right bytes (replicate n 0) (length bytes) j 0 refl behind
      ∙ elim (cases_lt (j - length bytes) n) [
        | inl zero ↦ get_or-replicate n (j - length bytes) 0 0 zero
        | inr outside ↦ get_or-eq_default (replicate n 0) 0 (omega (arith, length-replicate {A = ℕ} n 0))
      ]
      ∙ sym (get_or-eq_default bytes 0 behind)
]

-- two writes behind each other are one
pub put_bytes-append : (bytes : List ℕ) (p : ℕ) (xs ys : List ℕ) → p + (length xs + length ys) ≤ length bytes
    → put_bytes (put_bytes bytes p xs) (p + length xs) ys ≡ put_bytes bytes p (xs ++ ys)
put_bytes-append bytes p xs ys h =
    let once : List ℕ = put_bytes bytes p xs in
    let twice : List ℕ = put_bytes once (p + length xs) ys in
    let both : length (xs ++ ys) ≡ length xs + length ys = length-append xs ys in
    let first : Wrote bytes once p (length xs) = Wrote-put_bytes bytes p xs (length xs) refl (omega arith) in
    let len : length once ≡ length bytes = first.same_length in
    let second : Wrote once twice (p + length xs) (length ys) = Wrote-put_bytes once (p + length xs) ys (length ys) refl (omega arith) in
    let whole : Wrote bytes (put_bytes bytes p (xs ++ ys)) p (length xs + length ys) = Wrote-put_bytes bytes p (xs ++ ys) (length xs + length ys) both h in
    same_lists _ _ (second.same_length ∙ len ∙ sym whole.same_length) (λ j d inside. elim (cases_lt j p) [
      | inl before ↦ second.below j d (omega arith) ∙ first.below j d before ∙ sym (whole.below j d before)
      | inr from ↦ elim (cases_lt j (p + length xs)) [
        | inl in_xs ↦
            let at : p + (j - p) ≡ j = omega arith in
            second.below j d in_xs
            ∙ sym (ap (λ k. get_or once k d) at)
            ∙ get_or-put_bytes bytes p xs (j - p) d (omega arith) (omega arith)
            ∙ sym (get_or_append_left xs ys d (j - p) (omega arith))
            ∙ sym (get_or-put_bytes bytes p (xs ++ ys) (j - p) d (omega arith) (omega arith))
            ∙ ap (λ k. get_or (put_bytes bytes p (xs ++ ys)) k d) at
        | inr behind ↦ elim (cases_lt j (p + length xs + length ys)) [
          | inl in_ys ↦
              let at : p + length xs + (j - (p + length xs)) ≡ j = omega arith in
              let at_both : p + (j - p) ≡ j = omega arith in
              let place : j - p - length xs ≡ j - (p + length xs) = omega arith in
              sym (ap (λ k. get_or twice k d) at)
              ∙ get_or-put_bytes once (p + length xs) ys (j - (p + length xs)) d (omega arith) (omega arith)
              ∙ sym (ap (λ k. get_or ys k d) place)
              ∙ sym (get_or-append_right xs ys (length xs) (j - p) d refl (omega arith))
              ∙ sym (get_or-put_bytes bytes p (xs ++ ys) (j - p) d (omega arith) (omega arith))
              ∙ ap (λ k. get_or (put_bytes bytes p (xs ++ ys)) k d) at_both
          | inr above ↦ second.above j d above ∙ first.above j d (omega arith) ∙ sym (whole.above j d (omega arith))
        ]
      ]
    ])

-- what was copied is what was there
pub SameAcross-move : (bytes : List ℕ) (from to n : ℕ) → from + n ≤ length bytes → to + n ≤ length bytes
    → SameAcross bytes from (put_bytes bytes to (take n (drop from bytes))) to 0 n
SameAcross-move bytes from to n h k =
    let part : List ℕ = take n (drop from bytes) in
    let len : length part ≡ n = length-take-le n (drop from bytes) (omega (arith, length-drop from bytes)) in
    record {
      at = λ j d l u.
          get_or-put_bytes bytes to part j d (omega arith) (omega arith)
          ∙ get_or-take n (drop from bytes) j d u
          ∙ get_or-drop from bytes j d;
    }

-- bytes that are the same are one list
same_part : (a b : List ℕ) (p k : ℕ) → SameBytes a b p (p + k) → p + k ≤ length a → take k (drop p b) ≡ take k (drop p a)
same_part a b p k s h =
    let old : length (take k (drop p a)) ≡ k = length-take-le k (drop p a) (omega (arith, length-drop p a)) in
    let new : length (take k (drop p b)) ≡ k = length-take-le k (drop p b) (omega (arith, length-drop p b, s.same_length)) in
    same_lists _ _ (new ∙ sym old) (λ j d inside.
    get_or-take k (drop p b) j d (omega arith)
    ∙ get_or-drop p b j d
    ∙ s.at (p + j) d (omega arith) (omega arith)
    ∙ sym (get_or-take k (drop p a) j d (omega arith) ∙ get_or-drop p a j d))

-- Some bytes were copied to a place that has none of what is copied. With those that come next more of them are copied.
pub copied_more : (bytes : List ℕ) (from to n d k : ℕ) → from + n ≤ length bytes → to + n ≤ length bytes → (from + n ≤ to) ⊎ (to + n ≤ from) → d + k ≤ n
    → (now : List ℕ) → now ≡ put_bytes bytes to (take d (drop from bytes))
    → put_bytes now (to + d) (take k (drop (from + d) now)) ≡ put_bytes bytes to (take (d + k) (drop from bytes))
copied_more bytes from to n d k source there apart fits now is =
    let xs : List ℕ = take d (drop from bytes) in
    let ys : List ℕ = take k (drop (from + d) bytes) in
    let once : List ℕ = put_bytes bytes to xs in
    let xs_len : length xs ≡ d = length-take-le d (drop from bytes) (omega (arith, length-drop from bytes)) in
    let ys_len : length ys ≡ k = length-take-le k (drop (from + d) bytes) (omega (arith, length-drop (from + d) bytes)) in
    let same : SameBytes bytes once (from + d) (from + d + k) =
    Wrote-apart (Wrote-move bytes from to d (omega arith) (omega arith)) (from + d) (from + d + k) (elim apart [ inl h ↦ inl (omega arith) | inr h ↦ inr (omega arith) ]) in
    ap (λ m. put_bytes m (to + d) (take k (drop (from + d) m))) is
    ∙ ap (put_bytes once (to + d)) (same_part bytes once (from + d) k same (omega arith))
    ∙ ap (λ at. put_bytes once (to + at) ys) (sym xs_len)
    ∙ put_bytes-append bytes to xs ys (omega arith)
    ∙ ap (λ part. put_bytes bytes to (xs ++ take k part)) (sym (drop-drop d from bytes))
    ∙ ap (put_bytes bytes to) (sym (take-add d k (drop from bytes)))

-- what is as before is so at its place
pub SameAcross-same : {a b : List ℕ} (p lo hi : ℕ) → SameBytes a b (p + lo) (p + hi) → SameAcross a p b p lo hi
SameAcross-same p lo hi s = record { at = λ j d l u. s.at (p + j) d (omega arith) (omega arith) }

-- a part of a range
pub SameAcross-part : {a b : List ℕ} {p q lo hi : ℕ} → SameAcross a p b q lo hi → (lo' hi' : ℕ) → lo ≤ lo' → hi' ≤ hi → SameAcross a p b q lo' hi'
SameAcross-part s lo' hi' l h = record { at = λ j d m u. s.at j d (omega arith) (omega arith) }

-- one after another
pub SameAcross-then : {a b c : List ℕ} {p q r lo hi : ℕ} → SameAcross a p b q lo hi → SameAcross b q c r lo hi → SameAcross a p c r lo hi
SameAcross-then s t = record { at = λ j d l u. t.at j d l u ∙ s.at j d l u }

-- a copy that a later change leaves as it is
pub SameAcross-kept : {a b c : List ℕ} {p q lo hi : ℕ} → SameAcross a p b q lo hi → SameBytes b c (q + lo) (q + hi) → SameAcross a p c q lo hi
SameAcross-kept {q = q} {lo = lo} {hi = hi} s t = SameAcross-then s (SameAcross-same q lo hi t)

-- a copy of what an earlier change had left as it was
pub SameAcross-from : {a b c : List ℕ} {p q lo hi : ℕ} → SameBytes a b (p + lo) (p + hi) → SameAcross b p c q lo hi → SameAcross a p c q lo hi
SameAcross-from {p = p} {lo = lo} {hi = hi} s t = SameAcross-then (SameAcross-same p lo hi s) t

-- growth leaves what there was as it was
pub SameAcross-grown : (bytes more : List ℕ) (p lo hi : ℕ) → p + hi ≤ length bytes → SameAcross bytes p (bytes ++ more) p lo hi
SameAcross-grown bytes more p lo hi h = record { at = λ j d l u. get_or_append_left bytes more d (p + j) (omega arith) }

-- a write of a number of 64 bits keeps the length
pub length-put_u64 : (bytes : List ℕ) (p n : ℕ) → p + 8 ≤ length bytes → length (put_u64 bytes p n) ≡ length bytes
length-put_u64 bytes p n h = length-put_bytes bytes p (to_le_bytes w64 n) h

-- so does one that makes bytes 0
pub length-put_zeros : (bytes : List ℕ) (p n : ℕ) → p + n ≤ length bytes → length (put_bytes bytes p (replicate n 0)) ≡ length bytes
length-put_zeros bytes p n h = (Wrote-zeros bytes p n h).same_length

-- and a copy
pub length-move : (bytes : List ℕ) (from to n : ℕ) → from + n ≤ length bytes → to + n ≤ length bytes
    → length (put_bytes bytes to (take n (drop from bytes))) ≡ length bytes
length-move bytes from to n h k = (Wrote-move bytes from to n h k).same_length

-- what is the same is so both ways
pub SameBytes-back : {a b : List ℕ} {lo hi : ℕ} → SameBytes a b lo hi → SameBytes b a lo hi
SameBytes-back s = record { same_length = sym s.same_length; at = λ j d l u. sym (s.at j d l u) }
