-- A few bytes are made 0 by writes from both ends.
use Rattle.std.proofs.Common.{◌≡◌, ℕ, ◌+◌, ◌-◌, ◌*◌, ◌<◌, ◌≤◌, List, length, get_or, replicate, sym, ◌∙◌, inl, inr, arith}
use Rattle.std.proofs.lemmas.Bool.{cases_lt}
use Rattle.std.proofs.lemmas.List.{same_lists}
use Rattle.gc_view.specs.Bytes.{put_bytes}
use Rattle.gc_memory.specs.Changes.{Wrote}
use Rattle.gc_memory.proofs.ChangeLemmas.{get_or-zeros, Wrote-zeros, Wrote-within, Wrote-then}

-- what is 0 stays so
zero_stays : (m : List ℕ) (x n j d : ℕ) → x + n ≤ length m → get_or m j d ≡ 0 → get_or (put_bytes m x (replicate n 0)) j d ≡ 0
zero_stays m x n j d h e = elim (cases_lt j x) [
  | inl low ↦ (Wrote-zeros m x n h).below j d low ∙ e
  | inr high ↦ elim (cases_lt j (x + n)) [ inl inside ↦ get_or-zeros m x n j d h high inside | inr behind ↦ (Wrote-zeros m x n h).above j d behind ∙ e ]
]

-- a range that is 0 now, where nothing else changed
is_zeros : (m z : List ℕ) (a n : ℕ) → a + n ≤ length m → Wrote m z a n → ((j d : ℕ) → a ≤ j → j < a + n → get_or z j d ≡ 0) → z ≡ put_bytes m a (replicate n 0)
is_zeros m z a n h w zeros =
    let filled = Wrote-zeros m a n h in
    same_lists _ _ (w.same_length ∙ sym filled.same_length) (λ j d below. elim (cases_lt j a) [
      | inl low ↦ w.below j d low ∙ sym (filled.below j d low)
      | inr high ↦ elim (cases_lt j (a + n)) [
        | inl inside ↦ zeros j d high inside ∙ sym (get_or-zeros m a n j d h high inside)
        | inr behind ↦ w.above j d behind ∙ sym (filled.above j d behind)
      ]
    ])

-- both ends, which meet
pub ends_zeroed : (m : List ℕ) (a n count : ℕ) → n ≤ count → count ≤ 2 * n → a + count ≤ length m
    → put_bytes (put_bytes m a (replicate n 0)) (a + count - n) (replicate n 0) ≡ put_bytes m a (replicate count 0)
ends_zeroed m a n count least most room =
    let one : List ℕ = put_bytes m a (replicate n 0) in
    let w1 : Wrote m one a n = Wrote-zeros m a n (omega arith) in
    let len = w1.same_length in
    let w2 : Wrote one (put_bytes one (a + count - n) (replicate n 0)) (a + count - n) n = Wrote-zeros one (a + count - n) n (omega arith) in
    is_zeros m (put_bytes one (a + count - n) (replicate n 0)) a count room
    (Wrote-then (Wrote-within w1 a count (omega arith) (omega arith)) (Wrote-within w2 a count (omega arith) (omega arith)))
    (λ j d l u. elim (cases_lt j (a + n)) [
      | inl front ↦ zero_stays one (a + count - n) n j d (omega arith) (get_or-zeros m a n j d (omega arith) l front)
      | inr back ↦ get_or-zeros one (a + count - n) n j d (omega arith) (omega arith) (omega arith)
    ])
