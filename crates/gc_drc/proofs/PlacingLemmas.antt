-- What an allocation takes and writes.
use Rattle.std.proofs.Common.{◌≡◌, ℕ, ◌+◌, ◌-◌, ◌<◌, ◌≤◌, ◌^◌, true, false, cond, List, [], ◌∷◌, take, drop, length, map, replicate, Some, refl, sym, ap, ap₂, subst, ◌∙◌, inl, inr, arith}
use Rattle.std.proofs.Math.Logic.{◌⊎◌}
use Rattle.std.specs.Prelude.{nat_eq, nat_lt}
use Rattle.std.specs.Cmp.{nat_cmp_total}
use Rattle.std.specs.FinMap as finite
use Rattle.std.proofs.lemmas.Bool.{cases_eq, cases_lt, ne_eqb, eq-eqb}
use borrow.Author.Tests.{lt-ltb, le-ltb}
use Rattle.std.proofs.lemmas.List.{length-replicate, same_lists, get_or-take, get_or-drop, get_or-replicate, length-take-le, length-drop}
use Rattle.gc_refs.specs.Header.{Header}
use Rattle.gc_memory.specs.Words.{put_u64}
use Rattle.gc_memory.specs.Changes.{Wrote}
use Rattle.gc_memory.specs.Lists.{In, here, there, sum_over}
use Rattle.gc_memory.proofs.ChangeLemmas.{get_or-zeros, length-put_zeros, Wrote-within, Wrote-then, Wrote-zeros, Wrote-put_u32, Wrote-put_u64, Wrote-behind}
use Rattle.gc_memory.proofs.WordLemmas.{word-is, word_before, word64_before, word-put_u32, word64-put_u64}
use Rattle.gc_view.specs.Bytes.{put_bytes}
use Rattle.gc_view.proofs.ByteLemmas.{part_in_same}
use Rattle.gc_view.specs.Bytes.{u32_at, put_u32}
use Rattle.gc_free.specs.Runs.{run, insert_run, IsSpread}
use Rattle.gc_drc.specs.Layout.{count_at, counting_size_at, block_of}
use Rattle.gc_drc.specs.View.{block_at}
use Rattle.gc_drc.specs.Content.{at_places}
use Rattle.gc_drc.specs.PlaceLaws.{in_or_not, get_in, get_none, spread-lies}
use Rattle.gc_drc.specs.Placing.{WritesCountingBlock}
use Rattle.gc_drc.proofs.NewObjects.{insert_place}
use Rattle.gc_drc.proofs.SeenLemmas.{get-insert-same, get-insert-other}

-- zeros, a header, a count and a size, written one after the other
pub writes_block : (m a b d e : List ℕ) (p : ℕ) (h : Header) (size : ℕ) → 28 ≤ size → size < 2 ^ 32 → p + size ≤ length m → a ≡ put_bytes m (p + 8) (replicate (size - 8) 0) → Wrote a b p 8
    → u32_at b p ≡ h.kind_word → u32_at b (p + 4) ≡ h.type_word → d ≡ put_u64 b (p + 8) 1 → e ≡ put_u32 d (p + 20) size → WritesCountingBlock m e p h size
writes_block m a b d e p h size least small room first second kind ty third fourth =
    let zeros_len : length (replicate {A = ℕ} (size - 8) 0) ≡ size - 8 = length-replicate {A = ℕ} (size - 8) 0 in
    let w1 : Wrote m a (p + 8) (size - 8) = subst (λ x. Wrote m x (p + 8) (size - 8)) (sym first) (Wrote-zeros m (p + 8) (size - 8) (omega arith)) in
    let len1 : length a ≡ length m = w1.same_length in
    let len2 : length b ≡ length a = second.same_length in
    let w3 : Wrote b d (p + 8) 8 = subst (λ x. Wrote b x (p + 8) 8) (sym third) (Wrote-put_u64 b (p + 8) 1 (omega arith)) in
    let len3 : length d ≡ length b = w3.same_length in
    let w4 : Wrote d e (p + 20) 4 = subst (λ x. Wrote d x (p + 20) 4) (sym fourth) (Wrote-put_u32 d (p + 20) size (omega arith)) in
    record {
      around = Wrote-then (Wrote-within w1 p size (omega arith) (omega arith))
          (Wrote-then (Wrote-within second p size (omega arith) (omega arith)) (Wrote-then (Wrote-within w3 p size (omega arith) (omega arith)) (Wrote-within w4 p size (omega arith) (omega arith))));
      kind_word = word_before w4 p (omega arith) ∙ word_before w3 p (omega arith) ∙ word-is b p ∙ kind;
      type_word = word_before w4 (p + 4) (omega arith) ∙ word_before w3 (p + 4) (omega arith) ∙ word-is b (p + 4) ∙ ty;
      count_word = word64_before w4 (p + 8) (omega arith) ∙ ap (λ x. count_at x p) third ∙ word64-put_u64 b (p + 8) 1 (omega arith) (omega arith);
      size_word = ap (λ x. counting_size_at x p) fourth ∙ word-put_u32 d (p + 20) size (omega arith) small;
      zeros = part_in_same d e (p + 28) (size - 28) (Wrote-behind w4 (p + 28) (p + 28 + (size - 28)) (omega arith))
          ∙ part_in_same b d (p + 28) (size - 28) (Wrote-behind w3 (p + 28) (p + 28 + (size - 28)) (omega arith))
          ∙ part_in_same a b (p + 28) (size - 28) (Wrote-behind second (p + 28) (p + 28 + (size - 28)) (omega arith))
          ∙ ap (λ x. take (size - 28) (drop (p + 28) x)) first
          ∙ zeros_of m p size least room;
    }
  where
    -- zeros from a place on are zeros further on
    zeros_of : (m : List ℕ) (p size : ℕ) → 28 ≤ size → p + size ≤ length m → take (size - 28) (drop (p + 28) (put_bytes m (p + 8) (replicate (size - 8) 0))) ≡ replicate (size - 28) 0
    zeros_of m p size least room =
        let written : List ℕ = put_bytes m (p + 8) (replicate (size - 8) 0) in
        let zeros_len : length (replicate {A = ℕ} (size - 8) 0) ≡ size - 8 = length-replicate {A = ℕ} (size - 8) 0 in
        let len : length written ≡ length m = length-put_zeros m (p + 8) (size - 8) (omega arith) in
        let left : length (take (size - 28) (drop (p + 28) written)) ≡ size - 28 = length-take-le (size - 28) (drop (p + 28) written) (omega (arith, length-drop (p + 28) written)) in
        same_lists _ _ (left ∙ sym (length-replicate {A = ℕ} (size - 28) 0)) (λ j d below.
        get_or-take (size - 28) (drop (p + 28) written) j d (omega arith)
        ∙ get_or-drop (p + 28) written j d
        ∙ get_or-zeros m (p + 8) (size - 8) (p + 28 + j) d (omega arith) (omega arith) (omega arith)
        ∙ sym (get_or-replicate (size - 28) j 0 d (omega arith)))

-- PLACES

pub In-insert : (p q : ℕ) (ps : List ℕ) → In q (insert_place p ps) → (q ≡ p) ⊎ In q ps
In-insert p _ [] here = inl refl
In-insert p q [] (there i) = elim i [ ]
In-insert p q (h ∷ ps) i = elim (nat_lt h p) as (λ b. In q (cond b (h ∷ insert_place p ps) (p ∷ h ∷ ps)) → (q ≡ p) ⊎ In q (h ∷ ps)) [
  | true ↦ λ j. behind q j (λ k. In-insert p q ps k)
  | false ↦ λ j. first q j
] i
  where
    behind : (q : ℕ) → In q (h ∷ insert_place p ps) → (In q (insert_place p ps) → (q ≡ p) ⊎ In q ps) → (q ≡ p) ⊎ In q (h ∷ ps)
    behind _ here f = inr here
    behind q (there k) f = elim (f k) [ inl e ↦ inl e | inr l ↦ inr (there l) ]

    first : (q : ℕ) → In q (p ∷ h ∷ ps) → (q ≡ p) ⊎ In q (h ∷ ps)
    first _ here = inl refl
    first q (there k) = inr k

pub insert-new : (p : ℕ) (ps : List ℕ) → In p (insert_place p ps)
insert-new p [] = here
insert-new p (h ∷ ps) = elim (nat_lt h p) as (λ b. In p (cond b (h ∷ insert_place p ps) (p ∷ h ∷ ps))) [ true ↦ there (insert-new p ps) | false ↦ here ]

pub insert-old : (p q : ℕ) (ps : List ℕ) → In q ps → In q (insert_place p ps)
insert-old p q [] i = elim i [ ]
insert-old p _ (h ∷ ps) here = elim (nat_lt h p) as (λ b. In h (cond b (h ∷ insert_place p ps) (p ∷ h ∷ ps))) [ true ↦ here | false ↦ there here ]
insert-old p q (h ∷ ps) (there i) = elim (nat_lt h p) as (λ b. In q (cond b (h ∷ insert_place p ps) (p ∷ h ∷ ps))) [ true ↦ there (insert-old p q ps i) | false ↦ there (there i) ]

pub sum-insert : (f : ℕ → ℕ) (p : ℕ) (ps : List ℕ) → sum_over f (insert_place p ps) ≡ sum_over f ps + f p
sum-insert f p [] = omega arith
sum-insert f p (h ∷ ps) = elim (nat_lt h p) as (λ b. sum_over f (cond b (h ∷ insert_place p ps) (p ∷ h ∷ ps)) ≡ f h + sum_over f ps + f p) [
  | true ↦ let rest = sum-insert f p ps in omega arith
  | false ↦ omega arith
]

pub length-insert : (p : ℕ) (ps : List ℕ) → length (insert_place p ps) ≡ length ps + 1
length-insert p [] = refl
length-insert p (h ∷ ps) = elim (nat_lt h p) as (λ b. length (cond b (h ∷ insert_place p ps) (p ∷ h ∷ ps)) ≡ length (h ∷ ps) + 1) [
  | true ↦ let rest = length-insert p ps in omega arith
  | false ↦ omega arith
]

-- the blocks with a new one
pub blocks-insert : (sizes : ℕ → ℕ) (p size : ℕ) (ps : List ℕ) → (In p ps → ⊥)
    → map (block_at (λ y. cond (nat_eq y p) size (sizes y))) (insert_place p ps) ≡ insert_run (run p (block_of size)) (map (block_at sizes) ps)
blocks-insert sizes p size [] none = ap (λ b. run p (block_of (cond b size (sizes p))) ∷ []) (eq-eqb p p refl)
blocks-insert sizes p size (h ∷ ps) none =
    let sized : ℕ → ℕ = λ y. cond (nat_eq y p) size (sizes y) in
    let own : block_at sized p ≡ run p (block_of size) = ap (λ b. run p (block_of (cond b size (sizes p)))) (eq-eqb p p refl) in
    let other = λ (q : ℕ) (ne : q ≡ p → ⊥). ap (λ b. run q (block_of (cond b size (sizes q)))) (ne_eqb q p ne) in
    let first : block_at sized h ≡ block_at sizes h = other h (λ e. none (subst (λ k. In k (h ∷ ps)) e here)) in
    let rest = blocks-insert sizes p size ps (λ i. none (there i)) in
    elim (nat_lt h p) as (λ b. map (block_at sized) (cond b (h ∷ insert_place p ps) (p ∷ h ∷ ps)) ≡ cond b (block_at sizes h ∷ insert_run (run p (block_of size)) (map (block_at sizes) ps)) (run p (block_of size) ∷ block_at sizes h ∷ map (block_at sizes) ps)) [
      | true ↦ ap₂ (λ x xs. x ∷ xs) first rest
      | false ↦ ap₂ (λ x xs. x ∷ xs) own (ap₂ (λ x xs. x ∷ xs) first (same_blocks ps (λ q i. λ e. none (there (subst (λ k. In k ps) e i)))))
    ]
  where
    same_blocks : (qs : List ℕ) → ((q : ℕ) → In q qs → q ≡ p → ⊥) → map (block_at (λ y. cond (nat_eq y p) size (sizes y))) qs ≡ map (block_at sizes) qs
    same_blocks [] ne = refl
    same_blocks (q ∷ qs) ne = ap₂ (λ x xs. x ∷ xs) (ap (λ b. run q (block_of (cond b size (sizes q)))) (ne_eqb q p (ne q here))) (same_blocks qs (λ r i. ne r (there i)))

In-first : (q h : ℕ) (ps : List ℕ) → In q (h ∷ ps) → (q ≡ h) ⊎ In q ps
In-first _ h ps here = inl refl
In-first q h ps (there i) = inr i

-- where a block can be put, none lies yet
pub fresh_place : (sizes : ℕ → ℕ) (p n low high : ℕ) (ps : List ℕ) → 0 < n → IsSpread low high (insert_run (run p n) (map (block_at sizes) ps)) → In p ps → ⊥
fresh_place sizes p n low high [] some up i = elim i [ ]
fresh_place sizes p n low high (h ∷ ps) some up i = elim (cases_lt h p) [
  | inl before ↦ later before (In-first p h ps i) (subst (λ b. IsSpread low high (cond b (block_at sizes h ∷ insert_run (run p n) (map (block_at sizes) ps)) (run p n ∷ block_at sizes h ∷ map (block_at sizes) ps))) (lt-ltb h p before) up)
      (λ q up' j. fresh_place sizes p n q high ps some up' j)
  | inr not ↦ now not (In-first p h ps i) (subst (λ b. IsSpread low high (cond b (block_at sizes h ∷ insert_run (run p n) (map (block_at sizes) ps)) (run p n ∷ block_at sizes h ∷ map (block_at sizes) ps))) (le-ltb h p not) up)
]
  where
    later : h < p → (p ≡ h) ⊎ In p ps → IsSpread low high (block_at sizes h ∷ insert_run (run p n) (map (block_at sizes) ps)) → ((q : ℕ) → IsSpread q high (insert_run (run p n) (map (block_at sizes) ps)) → In p ps → ⊥) → ⊥
    later before (inl e) up rest = omega arith
    later before (inr j) up rest = rest (h + block_of (sizes h)) up.3 j

    now : p ≤ h → (p ≡ h) ⊎ In p ps → IsSpread low high (run p n ∷ block_at sizes h ∷ map (block_at sizes) ps) → ⊥
    now not (inl e) up = let a : p + n ≤ h = up.3.0 in omega arith
    now not (inr j) up =
        let a : p + n ≤ h = up.3.0 in
        let l = spread-lies sizes (h + block_of (sizes h)) high p ps up.3.3 j in
        let from = l.from in omega arith

-- a map with one place more
pub at_places-added : {X : Type 0} (f g : ℕ → X) (p : ℕ) (w : X) (ps : List ℕ) → g p ≡ w → ((q : ℕ) → In q ps → g q ≡ f q) → at_places g (insert_place p ps) ≡ finite.insert (at_places f ps) p w
at_places-added {X} f g p w ps is others = finite.same_map nat_cmp_total finite.nat_cmp-IsAntisymmetric _ _ each
  where
    each : (q : ℕ) → finite.get (at_places g (insert_place p ps)) q ≡ finite.get (finite.insert (at_places f ps) p w) q
    each q = elim (cases_eq q p) [
      | inl e ↦ subst (λ k. finite.get (at_places g (insert_place p ps)) k ≡ finite.get (finite.insert (at_places f ps) p w) k) (sym e)
          (get_in g p (insert_place p ps) (insert-new p ps) ∙ ap (λ v. Some v) is ∙ sym (get-insert-same (at_places f ps) p w))
      | inr ne ↦ elim (in_or_not q ps) [
        | inl j ↦ get_in g q (insert_place p ps) (insert-old p q ps j) ∙ ap (λ v. Some v) (others q j) ∙ sym (get-insert-other (at_places f ps) p q w ne ∙ get_in f q ps j)
        | inr none ↦ get_none g q (insert_place p ps) (λ i. elim (In-insert p q ps i) [ inl e ↦ ne e | inr j ↦ none j ]) ∙ sym (get-insert-other (at_places f ps) p q w ne ∙ get_none f q ps none)
      ]
    ]
