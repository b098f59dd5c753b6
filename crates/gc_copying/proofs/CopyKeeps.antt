-- The middle of a collection is kept where one more object is copied.
use Rattle.std.proofs.Common.{◌≡◌, ℕ, ◌+◌, ◌/◌, ◌%◌, ◌≤◌, cond, nat_eq, List, [], ◌∷◌, ◌++◌, sym, ap, subst, ◌∙◌, inl, inr, arith, length-append}
use Rattle.std.proofs.Math.Logic.{◌⊎◌}
use Rattle.std.proofs.lemmas.Bool.{cases_eq}
use Rattle.gc_view.specs.Bytes.{SameBytes}
use Rattle.gc_view.proofs.ByteLemmas.{SameBytes-then, SameBytes-part}
use Rattle.gc_memory.specs.Words.{word}
use Rattle.gc_memory.specs.Lists.{In, here, there, sum_over}
use Rattle.gc_memory.specs.Chains.{Chain}
use Rattle.gc_memory.proofs.WordLemmas.{word_in_same, word_across}
use Rattle.gc_memory.proofs.ListLemmas.{In-left, In-right, In-split, In-one}
use Rattle.gc_memory.proofs.ChainLemmas.{Chain-push, Chain-resized, Chain-changed}
use Rattle.gc_copying.specs.CopyWords.{flag, forwarding, copied_unit}
use Rattle.gc_copying.specs.CopyStart.{From, refs, CopyingReached}
use Rattle.gc_copying.specs.CopyMiddle.{IsCopiedTo, CopyOf, left_at, IsCopied, Mid, Later}
use Rattle.gc_copying.specs.CopySteps.{CopiesObject}
use Rattle.gc_copying.proofs.MoreBytes.{flag_set}
use Rattle.gc_copying.proofs.MidLemmas.{lies, new_lies, halves_apart, old_apart, no_both, copy_size, copy_kept}
use Rattle.gc_heap.proofs.SpacedLemmas.{Spaced-in}
use Rattle.gc_copying.specs.Layout.{copying_size_at}

-- a number of the places is at most the sum
pub sum_over-member : (f : ℕ → ℕ) (ps : List ℕ) (p : ℕ) → In p ps → f p ≤ sum_over f ps
sum_over-member f [] p i = elim i [ ]
sum_over-member f (_ ∷ ps) p here = omega arith
sum_over-member f (x ∷ ps) p (there i) = omega (arith, sum_over-member f ps p i)

-- of a word in equal bytes the flag is equal
pub flag_same : (m m' : List ℕ) (p hi : ℕ) → SameBytes m m' p hi → p + 4 ≤ hi → flag m' p ≡ flag m p
flag_same m m' p hi same h = ap (λ w. w / copied_unit % 2) (word_in_same m m' p (SameBytes-part same p (p + 4) (omega arith) h))

-- what an object that isn't copied counts, and one that is
pub left_fresh : (s : From) (m : List ℕ) (p : ℕ) → flag m p ≡ 0 → left_at s m p ≡ copying_size_at s.memory p
left_fresh s m p e = ap (λ n. cond (nat_eq n 0) (copying_size_at s.memory p) 0) e

pub left_copied : (s : From) (m : List ℕ) (p : ℕ) → flag m p ≡ 1 → left_at s m p ≡ 0
left_copied s m p e = ap (λ n. cond (nat_eq n 0) (copying_size_at s.memory p) 0) e

pub left_same : (s : From) (m m' : List ℕ) (p : ℕ) → flag m' p ≡ flag m p → left_at s m' p ≡ left_at s m p
left_same s m m' p e = ap (λ n. cond (nat_eq n 0) (copying_size_at s.memory p) 0) e

-- what leads somewhere in an equal object
pub leads_in_same : (s : From) (m m' : List ℕ) (p q hi : ℕ) → SameBytes m m' p hi → p + 16 ≤ hi → IsCopiedTo s m p q → IsCopiedTo s m' p q
leads_in_same s m m' p q hi same h leads = record {
  place = leads.place;
  flagged = flag_same m m' p hi same (omega arith) ∙ leads.flagged;
  to = word_in_same m m' (p + 12) (SameBytes-part same (p + 12) (p + 12 + 4) (omega arith) (omega arith)) ∙ leads.to;
}

pub leads_before : (s : From) (m m' : List ℕ) (p q hi : ℕ) → SameBytes m m' p hi → p + 16 ≤ hi → IsCopiedTo s m' p q → IsCopiedTo s m p q
leads_before s m m' p q hi same h leads = record {
  place = leads.place;
  flagged = sym (flag_same m m' p hi same (omega arith)) ∙ leads.flagged;
  to = sym (word_in_same m m' (p + 12) (SameBytes-part same (p + 12) (p + 12 + 4) (omega arith) (omega arith))) ∙ leads.to;
}

-- the bytes of a copy that its source has
pub copy_range : {s : From} {m : List ℕ} {base bump limit count t : ℕ} → (mid : Mid s m base bump limit count t) → (p q : ℕ) → IsCopiedTo s m p q
    → copying_size_at m q ≡ copying_size_at s.memory p
copy_range {s = s} {m = m} {t = t} mid p q leads =
    copy_size (mid.copied p q leads).copy (mid.start.spaced p leads.place) (lies mid p leads.place).least

swap : {a b c d : ℕ} → (a ≤ b) ⊎ (c ≤ d) → (c ≤ d) ⊎ (a ≤ b)
swap (inl h) = inr h
swap (inr h) = inl h

module _ (s : From) (m m' : List ℕ) (base bump limit count t p : ℕ) (mid : Mid s m base bump limit count t) (i : In p s.places)
    (fresh : flag m p ≡ 0) (reached : CopyingReached s p) (copies : CopiesObject m m' p bump (copying_size_at s.memory p)) where
  fits : bump + copying_size_at s.memory p ≤ limit
  fits = omega (arith, sum_over-member (left_at s m) s.places p i, left_fresh s m p fresh, mid.room)

  flagged : flag m' p ≡ 1
  flagged = ap (λ w. w / copied_unit % 2) copies.flagged ∙ flag_set (word m p) fresh

  -- another old object is as it was
  other_same : (p1 : ℕ) → In p1 s.places → (p1 ≡ p → ⊥) → SameBytes m m' p1 (p1 + copying_size_at s.memory p1)
  other_same p1 j ne =
      let at = lies mid p1 j in
      copies.others p1 (p1 + copying_size_at s.memory p1) (old_apart mid p p1 i j ne)
      (halves_apart mid p1 (p1 + copying_size_at s.memory p1) bump (bump + copying_size_at s.memory p) at.from at.to (omega (arith, mid.from, mid.frontier)) fits)

  -- so is an object that was copied before
  new_same : (q : ℕ) → In q mid.news → SameBytes m m' q (q + copying_size_at m q)
  new_same q j =
      let at = new_lies mid q j in
      let old = lies mid p i in
      let f = fits in
      copies.others q (q + copying_size_at m q)
      (swap (halves_apart mid p (p + copying_size_at s.memory p) q (q + copying_size_at m q) old.from old.to at.from (omega (arith, at.to, fits))))
      (inl at.to)

  -- a copy that was made before lies before the new one
  before_bump : (q p1 : ℕ) → IsCopiedTo s m p1 q → q ≡ bump → ⊥
  before_bump q p1 leads e =
      let at = new_lies mid q (mid.copied p1 q leads).inside in
      omega (arith, at.to, at.least)

  -- what leads somewhere now is the object, or led there before
  which : (p1 q1 : ℕ) → IsCopiedTo s m' p1 q1 → ((p1 ≡ p) × (q1 ≡ bump)) ⊎ IsCopiedTo s m p1 q1
  which p1 q1 leads = elim (cases_eq p1 p) [
    | inl e ↦ inl (e, sym leads.to ∙ ap (forwarding m') e ∙ copies.to)
    | inr ne ↦
        let least = (lies mid p1 leads.place).least in
        inr (leads_before s m m' p1 q1 (p1 + copying_size_at s.memory p1) (other_same p1 leads.place ne) (omega arith) leads)
  ]

  -- what has been copied stays where it is
  pub copy_later : Later s m m'
  copy_later p1 q1 leads =
      let least = (lies mid p1 leads.place).least in
      leads_in_same s m m' p1 q1 (p1 + copying_size_at s.memory p1) (other_same p1 leads.place (λ e. no_both (ap (flag m) e ∙ fresh) leads.flagged)) (omega arith) leads

  -- the object leads to its copy
  pub copy_leads : IsCopiedTo s m' p bump
  copy_leads = record { place = i; flagged = flagged; to = copies.to }

  -- its copy is one
  copy_is : CopyOf s m' t p bump
  copy_is =
      let same = mid.intact p i fresh in
      record {
        rest = λ j d l h. copies.copy.at j d (omega arith) l ∙ same.at (p + j) d (omega arith) (omega arith);
        moved = λ o j l. absurd (omega (arith, mid.frontier));
        to_do = λ o j l.
            let r = Spaced-in 12 (copying_size_at s.memory p) (refs s p) o (mid.start.spaced p i) j in
            word_across copies.copy o (omega arith) r.1
            ∙ word_in_same s.memory m (p + o) (SameBytes-part same (p + o) (p + o + 4) (omega arith) (omega (arith, r.1)));
      }

  copied_after : (p1 q1 : ℕ) → IsCopiedTo s m' p1 q1 → IsCopied s m' (mid.news ++ (bump ∷ [])) t p1 q1
  copied_after p1 q1 leads = elim (which p1 q1 leads) [
    | inl e ↦
        subst (λ (x : ℕ). IsCopied s m' (mid.news ++ (bump ∷ [])) t x q1) (sym e.0)
        (subst (λ (x : ℕ). IsCopied s m' (mid.news ++ (bump ∷ [])) t p x) (sym e.1)
        (record { inside = In-right bump mid.news (bump ∷ []) here; copy = copy_is; reached = reached }))
    | inr before ↦
        let is = mid.copied p1 q1 before in
        let same : SameBytes m m' q1 (q1 + copying_size_at s.memory p1) = subst (λ (n : ℕ). SameBytes m m' q1 (q1 + n)) (copy_range mid p1 q1 before) (new_same q1 is.inside) in
        record {
          inside = In-left q1 mid.news (bump ∷ []) is.inside;
          copy = copy_kept s m m' t p1 q1 (mid.start.spaced p1 before.place) copy_later same is.copy;
          reached = is.reached;
        }
  ]

  once_after : (p1 p2 q : ℕ) → IsCopiedTo s m' p1 q → IsCopiedTo s m' p2 q → p1 ≡ p2
  once_after p1 p2 q l1 l2 = elim (which p1 q l1) [
    | inl e ↦ elim (which p2 q l2) [
      | inl f ↦ e.0 ∙ sym f.0
      | inr g ↦ absurd (before_bump q p2 g e.1)
    ]
    | inr e ↦ elim (which p2 q l2) [
      | inl f ↦ absurd (before_bump q p1 e f.1)
      | inr g ↦ mid.once p1 p2 q e g
    ]
  ]

  -- what is left to copy is less by the object
  room_after : sum_over (left_at s m') s.places + copying_size_at s.memory p ≡ sum_over (left_at s m) s.places
  room_after =
      let changed = Chain-changed (copying_size_at s.memory) s.first s.end p s.places (left_at s m) (left_at s m') mid.start.chain i (λ q j ne.
      let at = lies mid q j in
      left_same s m m' q (flag_same m m' q (q + copying_size_at s.memory q) (other_same q j ne) (omega (arith, at.least)))) in
      omega (arith, changed, left_fresh s m p fresh, left_copied s m' p flagged)

  size_of_copy : copying_size_at m' bump ≡ copying_size_at s.memory p
  size_of_copy = word_across copies.copy 8 (omega arith) (omega (arith, (lies mid p i).least)) ∙ mid.sizes p i

  size_before : (q : ℕ) → In q mid.news → copying_size_at m' q ≡ copying_size_at m q
  size_before q j =
      let at = new_lies mid q j in
      word_in_same m m' (q + 8) (SameBytes-part (new_same q j) (q + 8) (q + 8 + 4) (omega arith) (omega (arith, at.least)))

  chain_after : Chain (copying_size_at m') base (bump + copying_size_at s.memory p) (mid.news ++ (bump ∷ []))
  chain_after =
      let at = lies mid p i in
      let pushed = Chain-push (copying_size_at m') base bump mid.news (Chain-resized (copying_size_at m) (copying_size_at m') base bump mid.news mid.chain size_before)
      (subst (λ (n : ℕ). 16 ≤ n) (sym size_of_copy) at.least) (subst (λ (n : ℕ). n % 16 ≡ 0) (sym size_of_copy) at.whole) in
      subst (λ (n : ℕ). Chain (copying_size_at m') base (bump + n) (mid.news ++ (bump ∷ []))) size_of_copy pushed

  sizes_after : (p1 : ℕ) → In p1 s.places → copying_size_at m' p1 ≡ copying_size_at s.memory p1
  sizes_after p1 j = elim (cases_eq p1 p) [
    | inl e ↦
        subst (λ (x : ℕ). copying_size_at m' x ≡ copying_size_at s.memory x) (sym e)
        (word_in_same m m' (p + 8) (SameBytes-part copies.head (p + 8) (p + 8 + 4) (omega arith) (omega arith)) ∙ mid.sizes p i)
    | inr ne ↦
        let at = lies mid p1 j in
        word_in_same m m' (p1 + 8) (SameBytes-part (other_same p1 j ne) (p1 + 8) (p1 + 8 + 4) (omega arith) (omega (arith, at.least))) ∙ mid.sizes p1 j
  ]

  intact_after : (p1 : ℕ) → In p1 s.places → flag m' p1 ≡ 0 → SameBytes s.memory m' p1 (p1 + copying_size_at s.memory p1)
  intact_after p1 j clear = elim (cases_eq p1 p) [
    | inl e ↦ absurd (no_both (sym (ap (flag m') e) ∙ clear) flagged)
    | inr ne ↦
        let at = lies mid p1 j in
        let before = sym (flag_same m m' p1 (p1 + copying_size_at s.memory p1) (other_same p1 j ne) (omega (arith, at.least))) ∙ clear in
        SameBytes-then (mid.intact p1 j before) (other_same p1 j ne)
  ]

  tail_after : (p1 : ℕ) → In p1 s.places → SameBytes s.memory m' (p1 + 16) (p1 + copying_size_at s.memory p1)
  tail_after p1 j = elim (cases_eq p1 p) [
    | inl e ↦
        subst (λ (x : ℕ). SameBytes s.memory m' (x + 16) (x + copying_size_at s.memory x)) (sym e) (SameBytes-then (mid.tail p i) copies.tail)
    | inr ne ↦
        SameBytes-then (mid.tail p1 j) (SameBytes-part (other_same p1 j ne) (p1 + 16) (p1 + copying_size_at s.memory p1) (omega arith) (omega arith))
  ]

  back_after : (q : ℕ) → In q (mid.news ++ (bump ∷ [])) → (p1 : ℕ) × IsCopiedTo s m' p1 q
  back_after q j = elim (In-split q mid.news (bump ∷ []) j) [
    | inl k ↦ let b = mid.back q k in (b.0, copy_later b.0 q b.1)
    | inr k ↦ (p, subst (λ (x : ℕ). IsCopiedTo s m' p x) (sym (In-one q bump k)) copy_leads)
  ]

  -- the middle of a collection after the copy
  pub mid_copied : Mid s m' base (bump + copying_size_at s.memory p) limit (count + 1) t
  mid_copied = record {
    start = mid.start;
    same_length = copies.same_length ∙ mid.same_length;
    aligned = mid.aligned;
    low = mid.low;
    inside = subst (λ (n : ℕ). limit ≤ n) (sym copies.same_length) mid.inside;
    apart = mid.apart;
    from = mid.from;
    frontier = omega (arith, mid.frontier);
    room = omega (arith, room_after, mid.room);
    news = mid.news ++ (bump ∷ []);
    chain = chain_after;
    counted = length-append mid.news (bump ∷ []) ∙ ap (λ (n : ℕ). n + 1) mid.counted;
    sizes = sizes_after;
    intact = intact_after;
    tail = tail_after;
    copied = copied_after;
    back = back_after;
    once = once_after;
  }
