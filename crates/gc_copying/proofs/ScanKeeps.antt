-- The middle of a collection is kept where a reference of a copy is moved, and where the frontier advances.
use Rattle.std.proofs.Common.{◌≡◌, ℕ, ◌+◌, ◌<◌, ◌≤◌, List, sym, subst, ◌∙◌, inl, inr, arith}
use Rattle.std.proofs.Math.Logic.{◌⊎◌}
use Rattle.std.proofs.lemmas.Bool.{cases_eq, cases_lt}
use Rattle.gc_view.specs.Bytes.{SameBytes}
use Rattle.gc_view.proofs.ByteLemmas.{SameBytes-then, SameBytes-part}
use Rattle.gc_memory.specs.Words.{word}
use Rattle.gc_memory.specs.Changes.{Wrote}
use Rattle.gc_memory.specs.Lists.{In}
use Rattle.gc_memory.proofs.ChangeLemmas.{Wrote-apart}
use Rattle.gc_memory.proofs.WordLemmas.{word_in_same, word_apart}
use Rattle.gc_memory.proofs.ListLemmas.{sum_over-same}
use Rattle.gc_memory.proofs.ChainLemmas.{LiesInChain, Chain-apart, Chain-resized}
use Rattle.gc_copying.specs.CopyStart.{From, refs}
use Rattle.gc_copying.specs.CopyMiddle.{IsCopiedTo, Moves, CopyOf, left_at, IsCopied, Mid, Later}
use Rattle.gc_copying.proofs.MidLemmas.{lies, new_lies, halves_apart, less_by_ne, copy_kept, moves_later}
use Rattle.gc_heap.proofs.SpacedLemmas.{Spaced-in, Spaced-apart}
use Rattle.gc_copying.proofs.CopyKeeps.{flag_same, left_same, leads_in_same, leads_before, copy_range}
use Rattle.gc_copying.specs.Layout.{copying_size_at}

-- two copies are one, or apart
pub new_apart : {s : From} {m : List ℕ} {base bump limit count t : ℕ} → (mid : Mid s m base bump limit count t) → (q q1 : ℕ) → In q mid.news → In q1 mid.news
    → (q1 ≡ q → ⊥) → (q1 + copying_size_at m q1 ≤ q) ⊎ (q + copying_size_at m q ≤ q1)
new_apart {m = m} {base = base} {bump = bump} mid q q1 i j ne = elim (cases_lt q q1) [
  | inl h ↦ inr (Chain-apart (copying_size_at m) base bump q q1 mid.news mid.chain i j h)
  | inr h ↦ inl (Chain-apart (copying_size_at m) base bump q1 q mid.news mid.chain j i (less_by_ne q1 q h ne))
]

-- a copy of which no reference lies between two frontiers
copy_frontier : (s : From) (m : List ℕ) (t t' p q : ℕ) → ((o : ℕ) → In o (refs s p) → (q + o < t) ⊎ (t' ≤ q + o)) → t ≤ t' → CopyOf s m t p q → CopyOf s m t' p q
copy_frontier s m t t' p q between le copy = record {
  rest = copy.rest;
  moved = λ o i l. elim (between o i) [ inl h ↦ copy.moved o i h | inr h ↦ absurd (omega arith) ];
  to_do = λ o i l. copy.to_do o i (omega arith);
}

-- the references of another copy lie before the one that is scanned, or behind it
apart_frontier : {s : From} {m : List ℕ} {base bump limit count t : ℕ} → (mid : Mid s m base bump limit count t) → (p q p1 q1 t' : ℕ)
    → IsCopiedTo s m p q → IsCopiedTo s m p1 q1 → (q1 ≡ q → ⊥) → q ≤ t → t' ≤ q + copying_size_at s.memory p
    → (o : ℕ) → In o (refs s p1) → (q1 + o < t) ⊎ (t' ≤ q1 + o)
apart_frontier {s = s} mid p q p1 q1 t' leads leads1 ne from to o i =
    let size = copy_range mid p q leads in
    let size1 = copy_range mid p1 q1 leads1 in
    let r = Spaced-in 12 (copying_size_at s.memory p1) (refs s p1) o (mid.start.spaced p1 leads1.place) i in
    elim (new_apart mid q q1 (mid.copied p q leads).inside (mid.copied p1 q1 leads1).inside ne) [
      | inl h ↦ inl (omega (arith, r.1, size1, h))
      | inr h ↦ inr (omega (arith, size, h))
    ]

between : (s : From) (m : List ℕ) (base bump limit count p q u u' : ℕ) → (mid : Mid s m base bump limit count (q + u)) → IsCopiedTo s m p q
    → u' ≤ copying_size_at s.memory p → ((o : ℕ) → In o (refs s p) → (o + 4 ≤ u) ⊎ (u' ≤ o)) → (p1 q1 : ℕ) → IsCopiedTo s m p1 q1
    → (o : ℕ) → In o (refs s p1) → (q1 + o < q + u) ⊎ (q + u' ≤ q1 + o)
between s m base bump limit count p q u u' mid leads to none p1 q1 leads1 o i = elim (cases_eq q1 q) [
  | inl e ↦
      let one : p1 ≡ p = mid.once p1 p q (subst (λ (x : ℕ). IsCopiedTo s m p1 x) e leads1) leads in
      elim (none o (subst (λ (x : ℕ). In o (refs s x)) one i)) [ inl h ↦ inl (omega arith) | inr h ↦ inr (omega arith) ]
  | inr ne ↦ apart_frontier mid p q p1 q1 (q + u') leads leads1 ne (omega arith) (omega arith) o i
]

-- the frontier advances over what is no reference
pub mid_advanced : (s : From) (m : List ℕ) (base bump limit count p q u u' : ℕ) → (mid : Mid s m base bump limit count (q + u)) → IsCopiedTo s m p q
    → u ≤ u' → u' ≤ copying_size_at s.memory p → ((o : ℕ) → In o (refs s p) → (o + 4 ≤ u) ⊎ (u' ≤ o)) → Mid s m base bump limit count (q + u')
mid_advanced s m base bump limit count p q u u' mid leads le to none =
    let at = new_lies mid q (mid.copied p q leads).inside in
    record {
      start = mid.start;
      same_length = mid.same_length;
      aligned = mid.aligned;
      low = mid.low;
      inside = mid.inside;
      apart = mid.apart;
      from = omega (arith, mid.from);
      frontier = omega (arith, at.to, copy_range mid p q leads);
      room = mid.room;
      news = mid.news;
      chain = mid.chain;
      counted = mid.counted;
      sizes = mid.sizes;
      intact = mid.intact;
      tail = mid.tail;
      copied = λ p1 q1 leads1.
          let is = mid.copied p1 q1 leads1 in
          record {
            inside = is.inside;
            copy = copy_frontier s m (q + u) (q + u') p1 q1 (between s m base bump limit count p q u u' mid leads to none p1 q1 leads1) (omega arith) is.copy;
            reached = is.reached;
          };
      back = mid.back;
      once = mid.once;
    }

module _ (s : From) (m m' : List ℕ) (base bump limit count p q u o w' : ℕ) (mid : Mid s m base bump limit count (q + u)) (leads : IsCopiedTo s m p q)
    (i : In o (refs s p)) (le : u ≤ o) (done : (o1 : ℕ) → In o1 (refs s p) → (o1 + 4 ≤ u) ⊎ (o ≤ o1))
    (wrote : Wrote m m' (q + o) 4) (is : word m' (q + o) ≡ w') (moves : Moves s m (word s.memory (p + o)) w') where
  in_object : (12 ≤ o) × (o + 4 ≤ copying_size_at s.memory p)
  in_object = Spaced-in 12 (copying_size_at s.memory p) (refs s p) o (mid.start.spaced p leads.place) i

  here_now : LiesInChain (copying_size_at m) base bump q
  here_now = new_lies mid q (mid.copied p q leads).inside

  -- an old object is as it was
  old_same : (p1 : ℕ) → In p1 s.places → SameBytes m m' p1 (p1 + copying_size_at s.memory p1)
  old_same p1 j =
      let at = lies mid p1 j in
      Wrote-apart wrote p1 (p1 + copying_size_at s.memory p1)
      (halves_apart mid p1 (p1 + copying_size_at s.memory p1) (q + o) (q + o + 4) at.from at.to (omega (arith, here_now.from))
      (omega (arith, in_object.1, here_now.to, copy_range mid p q leads, mid.room)))

  pub write_later : Later s m m'
  write_later p1 q1 l = leads_in_same s m m' p1 q1 (p1 + copying_size_at s.memory p1) (old_same p1 l.place) (omega (arith, (lies mid p1 l.place).least)) l

  write_before : (p1 q1 : ℕ) → IsCopiedTo s m' p1 q1 → IsCopiedTo s m p1 q1
  write_before p1 q1 l = leads_before s m m' p1 q1 (p1 + copying_size_at s.memory p1) (old_same p1 l.place) (omega (arith, (lies mid p1 l.place).least)) l

  -- so is another copy
  new_same : (q1 : ℕ) → In q1 mid.news → (q1 ≡ q → ⊥) → SameBytes m m' q1 (q1 + copying_size_at m q1)
  new_same q1 j ne = Wrote-apart wrote q1 (q1 + copying_size_at m q1) (elim (new_apart mid q q1 (mid.copied p q leads).inside j ne) [
    | inl h ↦ inl (omega arith)
    | inr h ↦ inr (omega (arith, in_object.1, copy_range mid p q leads))
  ])

  size_same : (q1 : ℕ) → In q1 mid.news → copying_size_at m' q1 ≡ copying_size_at m q1
  size_same q1 j = elim (cases_eq q1 q) [
    | inl e ↦ word_apart wrote (q1 + 8) (inl (omega (arith, in_object.0)))
    | inr ne ↦ word_in_same m m' (q1 + 8) (SameBytes-part (new_same q1 j ne) (q1 + 8) (q1 + 8 + 4) (omega arith) (omega (arith, (new_lies mid q1 j).least)))
  ]

  -- a reference of the copy, now that this one is moved
  moved_now : (o1 : ℕ) → In o1 (refs s p) → q + o1 < q + (o + 4) → CopyOf s m (q + u) p q → Moves s m' (word s.memory (p + o1)) (word m' (q + o1))
  moved_now o1 j l copy = elim (Spaced-apart 12 (copying_size_at s.memory p) (refs s p) o o1 (mid.start.spaced p leads.place) i j) [
    | inl e ↦
        subst (λ (x : ℕ). Moves s m' (word s.memory (p + x)) (word m' (q + x))) e
        (subst (λ (w : ℕ). Moves s m' (word s.memory (p + o)) w) (sym is) (moves_later s m m' (word s.memory (p + o)) w' write_later moves))
    | inr apart ↦ elim apart [
      | inl h ↦ absurd (omega arith)
      | inr h ↦ elim (done o1 j) [
        | inl k ↦
            subst (λ (w : ℕ). Moves s m' (word s.memory (p + o1)) w) (sym (word_apart wrote (q + o1) (inl (omega arith))))
            (moves_later s m m' (word s.memory (p + o1)) (word m (q + o1)) write_later (copy.moved o1 j (omega arith)))
        | inr k ↦ absurd (omega arith)
      ]
    ]
  ]

  -- the copy, now that the reference is moved
  this_copy : CopyOf s m (q + u) p q → CopyOf s m' (q + (o + 4)) p q
  this_copy copy = record {
    rest = λ j d l out. elim (out o i) [
      | inl h ↦ wrote.below (q + j) d (omega arith) ∙ copy.rest j d l out
      | inr h ↦ wrote.above (q + j) d (omega arith) ∙ copy.rest j d l out
    ];
    moved = λ o1 j l. moved_now o1 j l copy;
    to_do = λ o1 j l. word_apart wrote (q + o1) (inr (omega arith)) ∙ copy.to_do o1 j (omega arith);
  }

  -- another copy
  other_copy : (p1 q1 : ℕ) → IsCopiedTo s m p1 q1 → (q1 ≡ q → ⊥) → CopyOf s m' (q + (o + 4)) p1 q1
  other_copy p1 q1 l ne =
      let is = mid.copied p1 q1 l in
      let same : SameBytes m m' q1 (q1 + copying_size_at s.memory p1) = subst (λ (n : ℕ). SameBytes m m' q1 (q1 + n)) (copy_range mid p1 q1 l) (new_same q1 is.inside ne) in
      copy_frontier s m' (q + u) (q + (o + 4)) p1 q1
      (apart_frontier mid p q p1 q1 (q + (o + 4)) leads l ne (omega arith) (omega (arith, in_object.1)))
      (omega arith)
      (copy_kept s m m' (q + u) p1 q1 (mid.start.spaced p1 l.place) write_later same is.copy)

  copied_after : (p1 q1 : ℕ) → IsCopiedTo s m' p1 q1 → IsCopied s m' mid.news (q + (o + 4)) p1 q1
  copied_after p1 q1 l' =
      let l = write_before p1 q1 l' in
      let is = mid.copied p1 q1 l in
      record {
        inside = is.inside;
        copy = elim (cases_eq q1 q) [
          | inl e ↦
              let one : p1 ≡ p = mid.once p1 p q (subst (λ (x : ℕ). IsCopiedTo s m p1 x) e l) leads in
              subst (λ (x : ℕ). CopyOf s m' (q + (o + 4)) p1 x) (sym e)
              (subst (λ (x : ℕ). CopyOf s m' (q + (o + 4)) x q) (sym one) (this_copy (mid.copied p q leads).copy))
          | inr ne ↦ other_copy p1 q1 l ne
        ];
        reached = is.reached;
      }

  -- the middle of a collection after the reference was moved
  pub mid_written : Mid s m' base bump limit count (q + (o + 4))
  mid_written = record {
    start = mid.start;
    same_length = wrote.same_length ∙ mid.same_length;
    aligned = mid.aligned;
    low = mid.low;
    inside = subst (λ (n : ℕ). limit ≤ n) (sym wrote.same_length) mid.inside;
    apart = mid.apart;
    from = omega (arith, here_now.from);
    frontier = omega (arith, in_object.1, here_now.to, copy_range mid p q leads);
    room =
        let same = sum_over-same (left_at s m) (left_at s m') s.places (λ p1 j.
        left_same s m m' p1 (flag_same m m' p1 (p1 + copying_size_at s.memory p1) (old_same p1 j) (omega (arith, (lies mid p1 j).least)))) in
        omega (arith, same, mid.room);
    news = mid.news;
    chain = Chain-resized (copying_size_at m) (copying_size_at m') base bump mid.news mid.chain size_same;
    counted = mid.counted;
    sizes = λ p1 j.
        word_in_same m m' (p1 + 8) (SameBytes-part (old_same p1 j) (p1 + 8) (p1 + 8 + 4) (omega arith) (omega (arith, (lies mid p1 j).least))) ∙ mid.sizes p1 j;
    intact = λ p1 j clear.
        let before = sym (flag_same m m' p1 (p1 + copying_size_at s.memory p1) (old_same p1 j) (omega (arith, (lies mid p1 j).least))) ∙ clear in
        SameBytes-then (mid.intact p1 j before) (old_same p1 j);
    tail = λ p1 j. SameBytes-then (mid.tail p1 j) (SameBytes-part (old_same p1 j) (p1 + 16) (p1 + copying_size_at s.memory p1) (omega arith) (omega arith));
    copied = copied_after;
    back = λ q1 j. let b = mid.back q1 j in (b.0, write_later b.0 q1 b.1);
    once = λ p1 p2 q1 l1 l2. mid.once p1 p2 q1 (write_before p1 q1 l1) (write_before p2 q1 l2);
  }
