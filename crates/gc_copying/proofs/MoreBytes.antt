-- What copying one object does to the bytes.
use Rattle.std.proofs.Common.{◌≡◌, ℕ, ◌+◌, ◌/◌, ◌%◌, ◌<◌, ◌≤◌, ◌^◌, List, length, take, drop, sym, ap, subst, ◌∙◌, inl, inr, arith}
use Rattle.std.proofs.Math.Logic.{◌⊎◌}
use Rattle.gc_view.specs.Bytes.{u32_at, put_u32}
use Rattle.gc_view.specs.Bytes.{put_bytes, SameBytes}
use Rattle.gc_view.proofs.ByteLemmas.{SameBytes-then}
use Rattle.gc_memory.specs.Words.{word}
use Rattle.gc_memory.specs.Changes.{Wrote, SameAcross}
use Rattle.gc_memory.proofs.ChangeLemmas.{Wrote-put_u32, Wrote-move, Wrote-apart, SameAcross-move, SameAcross-kept}
use Rattle.gc_memory.proofs.WordLemmas.{word-is, word-put_u32, word_apart}
use Rattle.gc_copying.specs.CopyWords.{flag, copied_unit}
use Rattle.gc_copying.specs.CopySteps.{CanCopyTo, CopiesObject}
use Rattle.gc_copying.specs.Layout.{copying_size_at}

-- a write of a word, where the memory after it is named
pub wrote_word : (m m' : List ℕ) (p v : ℕ) → p + 4 ≤ length m → m' ≡ put_u32 m p v → Wrote m m' p 4
wrote_word m m' p v h e = subst (λ b. Wrote m b p 4) (sym e) (Wrote-put_u32 m p v h)

-- and it is read back
pub word_written : (m m' : List ℕ) (p v : ℕ) → p + 4 ≤ length m → v < 2 ^ 32 → m' ≡ put_u32 m p v → word m' p ≡ v
word_written m m' p v h small e = ap (λ b. word b p) e ∙ word-put_u32 m p v h small

-- what lies on neither side of three writes
around : (m m1 m2 m3 : List ℕ) (p q n lo hi : ℕ) → 16 ≤ n → Wrote m m1 q n → Wrote m1 m2 p 4 → Wrote m2 m3 (p + 12) 4
    → (hi ≤ p) ⊎ (p + n ≤ lo) → (hi ≤ q) ⊎ (q + n ≤ lo) → SameBytes m m3 lo hi
around m m1 m2 m3 p q n lo hi least w1 w2 w3 (inl h) k =
    SameBytes-then (Wrote-apart w1 lo hi k) (SameBytes-then (Wrote-apart w2 lo hi (inl h)) (Wrote-apart w3 lo hi (inl (omega arith))))
around m m1 m2 m3 p q n lo hi least w1 w2 w3 (inr h) k =
    SameBytes-then (Wrote-apart w1 lo hi k) (SameBytes-then (Wrote-apart w2 lo hi (inr (omega arith))) (Wrote-apart w3 lo hi (inr (omega arith))))

-- the kind word with the bit set fits
pub flag_fits : (w : ℕ) → w / copied_unit % 2 ≡ 0 → w < 2 ^ 32 → w + copied_unit < 2 ^ 32
flag_fits w clear small = omega arith

-- it says that the object was copied
pub flag_set : (w : ℕ) → w / copied_unit % 2 ≡ 0 → (w + copied_unit) / copied_unit % 2 ≡ 1
flag_set w clear = omega arith

-- a part of an object is apart from where the object goes
within : (p q n : ℕ) → (p + n ≤ q) ⊎ (q + n ≤ p) → 16 ≤ n → (p + 12 ≤ q) ⊎ (q + n ≤ p + 4)
within p q n (inl h) least = inl (omega arith)
within p q n (inr h) least = inr (omega arith)

behind : (p q n a : ℕ) → (p + n ≤ q) ⊎ (q + n ≤ p) → (p + n ≤ q) ⊎ (q + n ≤ p + a)
behind p q n a (inl h) = inl h
behind p q n a (inr h) = inr (omega arith)

copy_kept : (m1 m2 m3 : List ℕ) (p q n : ℕ) → 16 ≤ n → Wrote m1 m2 p 4 → Wrote m2 m3 (p + 12) 4 → (p + n ≤ q) ⊎ (q + n ≤ p) → SameBytes m1 m3 (q + 0) (q + n)
copy_kept m1 m2 m3 p q n least w2 w3 (inl h) =
    SameBytes-then (Wrote-apart w2 (q + 0) (q + n) (inr (omega arith))) (Wrote-apart w3 (q + 0) (q + n) (inr (omega arith)))
copy_kept m1 m2 m3 p q n least w2 w3 (inr h) =
    SameBytes-then (Wrote-apart w2 (q + 0) (q + n) (inl h)) (Wrote-apart w3 (q + 0) (q + n) (inl (omega arith)))

copies_by : (m m1 m2 m3 : List ℕ) (p q n kind_word : ℕ) → p + n ≤ length m → q + n ≤ length m → 16 ≤ n → (p + n ≤ q) ⊎ (q + n ≤ p)
    → flag m p ≡ 0 → length m < 2 ^ 32 → kind_word ≡ word m p → kind_word < 2 ^ 32
    → m1 ≡ put_bytes m q (take n (drop p m)) → m2 ≡ put_u32 m1 p (kind_word + copied_unit) → m3 ≡ put_u32 m2 (p + 12) q
    → CopiesObject m m3 p q n
copies_by m m1 m2 m3 p q n kind_word source destination least apart fresh short kind small e1 e2 e3 =
    let w1 : Wrote m m1 q n = subst (λ b. Wrote m b q n) (sym e1) (Wrote-move m p q n source destination) in
    let len1 : length m1 ≡ length m = w1.same_length in
    let w2 : Wrote m1 m2 p 4 = wrote_word m1 m2 p (kind_word + copied_unit) (omega arith) e2 in
    let len2 : length m2 ≡ length m1 = w2.same_length in
    let w3 : Wrote m2 m3 (p + 12) 4 = wrote_word m2 m3 (p + 12) q (omega arith) e3 in
    let len3 : length m3 ≡ length m2 = w3.same_length in
    let moved : SameAcross m p m1 q 0 n = subst (λ b. SameAcross m p b q 0 n) (sym e1) (SameAcross-move m p q n source destination) in
    let clear : kind_word / copied_unit % 2 ≡ 0 = ap (λ w. w / copied_unit % 2) kind ∙ fresh in
    record {
      same_length = len3 ∙ len2 ∙ len1;
      copy = SameAcross-kept moved (copy_kept m1 m2 m3 p q n least w2 w3 apart);
      flagged =
          word_apart w3 p (inl (omega arith))
          ∙ word_written m1 m2 p (kind_word + copied_unit) (omega arith) (flag_fits kind_word clear small) e2
          ∙ ap (λ w. w + copied_unit) kind;
      to = word_written m2 m3 (p + 12) q (omega arith) (omega arith) e3;
      head =
          SameBytes-then (Wrote-apart w1 (p + 4) (p + 12) (within p q n apart least))
          (SameBytes-then (Wrote-apart w2 (p + 4) (p + 12) (inr (omega arith))) (Wrote-apart w3 (p + 4) (p + 12) (inl (omega arith))));
      tail =
          SameBytes-then (Wrote-apart w1 (p + 16) (p + n) (behind p q n 16 apart))
          (SameBytes-then (Wrote-apart w2 (p + 16) (p + n) (inr (omega arith))) (Wrote-apart w3 (p + 16) (p + n) (inr (omega arith))));
      others = λ lo hi h k. around m m1 m2 m3 p q n lo hi least w1 w2 w3 h k;
    }

-- an object of that size may be copied: what three writes make of the memory
pub copies : (m m1 m2 m3 : List ℕ) (p q n kind_word : ℕ) → CanCopyTo m p q → n ≡ u32_at m (p + 8) → kind_word ≡ word m p → kind_word < 2 ^ 32
    → m1 ≡ put_bytes m q (take n (drop p m)) → m2 ≡ put_u32 m1 p (kind_word + copied_unit) → m3 ≡ put_u32 m2 (p + 12) q
    → CopiesObject m m3 p q (copying_size_at m p)
copies m m1 m2 m3 p q n kind_word can size kind small e1 e2 e3 =
    let is : n ≡ copying_size_at m p = size ∙ sym (word-is m (p + 8)) in
    subst (λ (k : ℕ). CopiesObject m m3 p q k) is
    (copies_by m m1 m2 m3 p q n kind_word
    (subst (λ (k : ℕ). p + k ≤ length m) (sym is) can.source)
    (subst (λ (k : ℕ). q + k ≤ length m) (sym is) can.destination)
    (subst (λ (k : ℕ). 16 ≤ k) (sym is) can.least)
    (subst (λ (k : ℕ). (p + k ≤ q) ⊎ (q + k ≤ p)) (sym is) can.apart)
    can.fresh can.small kind small e1 e2 e3)

-- the size that was read
pub size_read : (m : List ℕ) (p n : ℕ) → n ≡ u32_at m (p + 8) → n ≡ copying_size_at m p
size_read m p n e = e ∙ sym (word-is m (p + 8))
