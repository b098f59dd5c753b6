-- Words in a memory that changes.
use Rattle.std.proofs.Common.{◌≡◌, ℕ, ◌+◌, ◌*◌, ◌<◌, ◌≤◌, ◌^◌, List, ◌++◌, length, take, drop, get_or, replicate, refl, sym, ap, ◌∙◌, arith}
use Rattle.std.proofs.Math.Logic.{◌⊎◌}
use Rattle.std.specs.Int.{w32, w64, from_le_bytes, to_le_bytes}
use Rattle.std.proofs.lemmas.List.{get_or-take, get_or-drop}
use Rattle.std.proofs.lemmas.Nat.{from_le_bytes-to_le_bytes_4, from_le_bytes-to_le_bytes_8}
use Rattle.gc_view.specs.Bytes.{u32_at, put_u32}
use Rattle.gc_view.specs.Bytes.{put_bytes, SameBytes}
use Rattle.gc_view.proofs.ByteLemmas.{SameBytes-part, part-put_bytes}
use Rattle.gc_memory.specs.Words.{AreBytes, u64_at, put_u64, word, word64}
use Rattle.gc_memory.specs.Changes.{Wrote, SameAcross}
use Rattle.gc_memory.proofs.ChangeLemmas.{Wrote-before, Wrote-behind, Wrote-apart, get_or-zeros, get_or-grown}

-- a word is the number that the contracts of a memory speak of
pub word-is : (bytes : List ℕ) (p : ℕ) → word bytes p ≡ u32_at bytes p
unfolding word
word-is bytes p = refl

pub word64-is : (bytes : List ℕ) (p : ℕ) → word64 bytes p ≡ u64_at bytes p
unfolding word64
word64-is bytes p = refl

byte_of_part : (bytes : List ℕ) (n p k : ℕ) → k < n → get_or (take n (drop p bytes)) k 0 ≡ get_or bytes (p + k) 0
byte_of_part bytes n p k h = get_or-take n (drop p bytes) k 0 h ∙ get_or-drop p bytes k 0

-- the number of its bytes
u32_by_bytes : (bytes : List ℕ) (p : ℕ)
    → u32_at bytes p ≡ get_or bytes (p + 0) 0 + get_or bytes (p + 1) 0 * 256 + get_or bytes (p + 2) 0 * 65536 + get_or bytes (p + 3) 0 * 16777216
u32_by_bytes bytes p =
    let b0 : get_or (take 4 (drop p bytes)) 0 0 ≡ get_or bytes (p + 0) 0 = byte_of_part bytes 4 p 0 (omega arith) in
    let b1 : get_or (take 4 (drop p bytes)) 1 0 ≡ get_or bytes (p + 1) 0 = byte_of_part bytes 4 p 1 (omega arith) in
    let b2 : get_or (take 4 (drop p bytes)) 2 0 ≡ get_or bytes (p + 2) 0 = byte_of_part bytes 4 p 2 (omega arith) in
    let b3 : get_or (take 4 (drop p bytes)) 3 0 ≡ get_or bytes (p + 3) 0 = byte_of_part bytes 4 p 3 (omega arith) in
    omega arith

u32_by_equal : (a b : List ℕ) (p q : ℕ) → ((k : ℕ) → k < 4 → get_or b (q + k) 0 ≡ get_or a (p + k) 0) → u32_at b q ≡ u32_at a p
u32_by_equal a b p q same =
    let s0 : get_or b (q + 0) 0 ≡ get_or a (p + 0) 0 = same 0 (omega arith) in
    let s1 : get_or b (q + 1) 0 ≡ get_or a (p + 1) 0 = same 1 (omega arith) in
    let s2 : get_or b (q + 2) 0 ≡ get_or a (p + 2) 0 = same 2 (omega arith) in
    let s3 : get_or b (q + 3) 0 ≡ get_or a (p + 3) 0 = same 3 (omega arith) in
    omega (arith, u32_by_bytes a p, u32_by_bytes b q)

-- two places with equal bytes have equal words
pub word_by_bytes : (a b : List ℕ) (p q : ℕ) → ((k : ℕ) → k < 4 → get_or b (q + k) 0 ≡ get_or a (p + k) 0) → word b q ≡ word a p
unfolding word
word_by_bytes a b p q same = u32_by_equal a b p q same

-- a word in equal bytes is equal
pub word_in_same : (a b : List ℕ) (p : ℕ) → SameBytes a b p (p + 4) → word b p ≡ word a p
word_in_same a b p s = word_by_bytes a b p p (λ k l. s.at (p + k) 0 (omega arith) (omega arith))

-- a word before what was written
pub word_before : {a b : List ℕ} {p n : ℕ} → Wrote a b p n → (q : ℕ) → q + 4 ≤ p → word b q ≡ word a q
word_before {a = a} {b = b} w q h = word_in_same a b q (Wrote-before w q (q + 4) h)

-- a word behind what was written
pub word_behind : {a b : List ℕ} {p n : ℕ} → Wrote a b p n → (q : ℕ) → p + n ≤ q → word b q ≡ word a q
word_behind {a = a} {b = b} w q h = word_in_same a b q (Wrote-behind w q (q + 4) h)

-- a word on either side of what was written
pub word_apart : {a b : List ℕ} {p n : ℕ} → Wrote a b p n → (q : ℕ) → (q + 4 ≤ p) ⊎ (p + n ≤ q) → word b q ≡ word a q
word_apart {a = a} {b = b} w q h = word_in_same a b q (Wrote-apart w q (q + 4) h)

-- a word of a copy is the word of its source
pub word_across : {a b : List ℕ} {p q lo hi : ℕ} → SameAcross a p b q lo hi → (o : ℕ) → lo ≤ o → o + 4 ≤ hi → word b (q + o) ≡ word a (p + o)
word_across {a = a} {b = b} {p = p} {q = q} s o l h = word_by_bytes a b (p + o) (q + o) (λ k m.
    let e : q + o + k ≡ q + (o + k) = omega arith in
    let f : p + o + k ≡ p + (o + k) = omega arith in
    ap (λ i. get_or b i 0) e ∙ s.at (o + k) 0 (omega arith) (omega arith) ∙ sym (ap (λ i. get_or a i 0) f))

-- a word that was written is read back
pub word-put_u32 : (bytes : List ℕ) (p n : ℕ) → p + 4 ≤ length bytes → n < 2 ^ 32 → word (put_u32 bytes p n) p ≡ n
word-put_u32 bytes p n h small =
    word-is (put_u32 bytes p n) p ∙ ap (from_le_bytes w32) (part-put_bytes bytes p (to_le_bytes w32 n) h) ∙ from_le_bytes-to_le_bytes_4 n small

-- a word of bytes that are 0
pub word_of_zeros : (bytes : List ℕ) (p : ℕ) → ((k : ℕ) → k < 4 → get_or bytes (p + k) 0 ≡ 0) → word bytes p ≡ 0
unfolding word
word_of_zeros bytes p zero =
    let z0 : get_or bytes (p + 0) 0 ≡ 0 = zero 0 (omega arith) in
    let z1 : get_or bytes (p + 1) 0 ≡ 0 = zero 1 (omega arith) in
    let z2 : get_or bytes (p + 2) 0 ≡ 0 = zero 2 (omega arith) in
    let z3 : get_or bytes (p + 3) 0 ≡ 0 = zero 3 (omega arith) in
    omega (arith, u32_by_bytes bytes p, z0, z1, z2, z3)

-- a word of a range that was made 0
pub word-zeros : (bytes : List ℕ) (p n q : ℕ) → p + n ≤ length bytes → p ≤ q → q + 4 ≤ p + n → word (put_bytes bytes p (replicate n 0)) q ≡ 0
word-zeros bytes p n q h l u = word_of_zeros (put_bytes bytes p (replicate n 0)) q (λ k m. get_or-zeros bytes p n (q + k) 0 h (omega arith) (omega arith))

-- growth changes no word, also none outside, where words are read as 0
pub word-grown : (bytes : List ℕ) (n p : ℕ) → word (bytes ++ replicate n 0) p ≡ word bytes p
word-grown bytes n p = word_by_bytes bytes (bytes ++ replicate n 0) p p (λ k l. get_or-grown bytes n (p + k))

-- a word of bytes fits 32 bits
pub word-less : (bytes : List ℕ) (p : ℕ) → AreBytes bytes → word bytes p < 2 ^ 32
unfolding word
word-less bytes p small =
    let b0 : get_or bytes (p + 0) 0 < 256 = small (p + 0) in
    let b1 : get_or bytes (p + 1) 0 < 256 = small (p + 1) in
    let b2 : get_or bytes (p + 2) 0 < 256 = small (p + 2) in
    let b3 : get_or bytes (p + 3) 0 < 256 = small (p + 3) in
    omega (arith, u32_by_bytes bytes p, b0, b1, b2, b3)

byte_of_half : (bytes : List ℕ) (p k : ℕ) → k < 4 → get_or (take 8 (drop p bytes)) (4 + k) 0 ≡ get_or bytes (p + 4 + k) 0
byte_of_half bytes p k h =
    let at : p + (4 + k) ≡ p + 4 + k = omega arith in
    byte_of_part bytes 8 p (4 + k) (omega arith) ∙ ap (λ i. get_or bytes i 0) at

-- the upper half of a number of 64 bits is a number of 32 bits, and so is the lower
u64_by_halves : (bytes : List ℕ) (p : ℕ) → u64_at bytes p ≡ u32_at bytes p + u32_at bytes (p + 4) * 4294967296
u64_by_halves bytes p =
    let b0 : get_or (take 8 (drop p bytes)) 0 0 ≡ get_or bytes (p + 0) 0 = byte_of_part bytes 8 p 0 (omega arith) in
    let b1 : get_or (take 8 (drop p bytes)) 1 0 ≡ get_or bytes (p + 1) 0 = byte_of_part bytes 8 p 1 (omega arith) in
    let b2 : get_or (take 8 (drop p bytes)) 2 0 ≡ get_or bytes (p + 2) 0 = byte_of_part bytes 8 p 2 (omega arith) in
    let b3 : get_or (take 8 (drop p bytes)) 3 0 ≡ get_or bytes (p + 3) 0 = byte_of_part bytes 8 p 3 (omega arith) in
    let b4 : get_or (take 8 (drop p bytes)) 4 0 ≡ get_or bytes (p + 4 + 0) 0 = byte_of_half bytes p 0 (omega arith) in
    let b5 : get_or (take 8 (drop p bytes)) 5 0 ≡ get_or bytes (p + 4 + 1) 0 = byte_of_half bytes p 1 (omega arith) in
    let b6 : get_or (take 8 (drop p bytes)) 6 0 ≡ get_or bytes (p + 4 + 2) 0 = byte_of_half bytes p 2 (omega arith) in
    let b7 : get_or (take 8 (drop p bytes)) 7 0 ≡ get_or bytes (p + 4 + 3) 0 = byte_of_half bytes p 3 (omega arith) in
    omega (arith, u32_by_bytes bytes p, u32_by_bytes bytes (p + 4))

-- a number of 64 bits is its lower half and its upper half
pub word64_by_words : (bytes : List ℕ) (p : ℕ) → word64 bytes p ≡ word bytes p + word bytes (p + 4) * 2 ^ 32
unfolding word word64
word64_by_words bytes p = u64_by_halves bytes p

-- a number of 64 bits of bytes fits them
pub word64-less : (bytes : List ℕ) (p : ℕ) → AreBytes bytes → word64 bytes p < 2 ^ 64
word64-less bytes p small = omega (arith, word64_by_words bytes p, word-less bytes p small, word-less bytes (p + 4) small)

-- two places with equal halves have equal numbers
word64_by_equal : (a b : List ℕ) (p q : ℕ) → word b q ≡ word a p → word b (q + 4) ≡ word a (p + 4) → word64 b q ≡ word64 a p
word64_by_equal a b p q low high = omega (arith, word64_by_words a p, word64_by_words b q)

-- a number of 64 bits in equal bytes is equal
pub word64_in_same : (a b : List ℕ) (p : ℕ) → SameBytes a b p (p + 8) → word64 b p ≡ word64 a p
word64_in_same a b p s =
    word64_by_equal a b p p (word_in_same a b p (SameBytes-part s p (p + 4) (omega arith) (omega arith)))
    (word_in_same a b (p + 4) (SameBytes-part s (p + 4) (p + 4 + 4) (omega arith) (omega arith)))

-- a number of 64 bits before what was written
pub word64_before : {a b : List ℕ} {p n : ℕ} → Wrote a b p n → (q : ℕ) → q + 8 ≤ p → word64 b q ≡ word64 a q
word64_before {a = a} {b = b} w q h = word64_in_same a b q (Wrote-before w q (q + 8) h)

-- a number of 64 bits behind what was written
pub word64_behind : {a b : List ℕ} {p n : ℕ} → Wrote a b p n → (q : ℕ) → p + n ≤ q → word64 b q ≡ word64 a q
word64_behind {a = a} {b = b} w q h = word64_in_same a b q (Wrote-behind w q (q + 8) h)

-- a number of 64 bits on either side of what was written
pub word64_apart : {a b : List ℕ} {p n : ℕ} → Wrote a b p n → (q : ℕ) → (q + 8 ≤ p) ⊎ (p + n ≤ q) → word64 b q ≡ word64 a q
word64_apart {a = a} {b = b} w q h = word64_in_same a b q (Wrote-apart w q (q + 8) h)

-- a number of 64 bits of a copy is that of its source
pub word64_across : {a b : List ℕ} {p q lo hi : ℕ} → SameAcross a p b q lo hi → (o : ℕ) → lo ≤ o → o + 8 ≤ hi → word64 b (q + o) ≡ word64 a (p + o)
word64_across {a = a} {b = b} {p = p} {q = q} s o l h =
    let e : q + (o + 4) ≡ q + o + 4 = omega arith in
    let f : p + (o + 4) ≡ p + o + 4 = omega arith in
    word64_by_equal a b (p + o) (q + o) (word_across s o l (omega arith))
    (sym (ap (word b) e) ∙ word_across s (o + 4) (omega arith) (omega arith) ∙ ap (word a) f)

-- a number of 64 bits that was written is read back
pub word64-put_u64 : (bytes : List ℕ) (p n : ℕ) → p + 8 ≤ length bytes → n < 2 ^ 64 → word64 (put_u64 bytes p n) p ≡ n
word64-put_u64 bytes p n h small =
    word64-is (put_u64 bytes p n) p ∙ ap (from_le_bytes w64) (part-put_bytes bytes p (to_le_bytes w64 n) h) ∙ from_le_bytes-to_le_bytes_8 n small

-- a number of 64 bits of a range that was made 0
pub word64-zeros : (bytes : List ℕ) (p n q : ℕ) → p + n ≤ length bytes → p ≤ q → q + 8 ≤ p + n → word64 (put_bytes bytes p (replicate n 0)) q ≡ 0
word64-zeros bytes p n q h l u =
    let zeroed : List ℕ = put_bytes bytes p (replicate n 0) in
    let low : word zeroed q ≡ 0 = word-zeros bytes p n q h l (omega arith) in
    let high : word zeroed (q + 4) ≡ 0 = word-zeros bytes p n (q + 4) h (omega arith) (omega arith) in
    omega (arith, word64_by_words zeroed q)

-- growth changes no number of 64 bits
pub word64-grown : (bytes : List ℕ) (n p : ℕ) → word64 (bytes ++ replicate n 0) p ≡ word64 bytes p
word64-grown bytes n p = word64_by_equal bytes (bytes ++ replicate n 0) p p (word-grown bytes n p) (word-grown bytes n (p + 4))
