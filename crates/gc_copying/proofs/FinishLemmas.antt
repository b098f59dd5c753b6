-- At the end exactly what is reached is copied, each with its references moved.
use Rattle.std.proofs.Common.{◌≡◌, ℕ, suc, ◌+◌, ◌%◌, ◌<◌, ◌≤◌, ◌==◌, ◌&&◌, not, if◌then◌else◌, List, [], ◌∷◌, length, refl, sym, ap, subst, ◌∙◌, inl, inr, arith}
use Rattle.std.proofs.Math.Logic.{◌⊎◌}
use Rattle.std.proofs.lemmas.Bool.{cases_eq, eq-eqb, ne_eqb}
use Rattle.gc_memory.specs.Words.{word}
use Rattle.gc_memory.specs.Lists.{In, here, there, sum_over, occ}
use Rattle.gc_memory.proofs.ListLemmas.{occ-same, occ-other, In-occ, occ-none}
use Rattle.gc_roots.specs.Roots.{Root, root_at}
use Rattle.gc_heap.specs.Collection.{moved}
use Rattle.gc_copying.specs.CopyWords.{forwarding, IsCopyingPlace, copying_offsets_at}
use Rattle.gc_view.specs.Reach.{by_start, by_step}
use Rattle.gc_copying.specs.CopyStart.{From, refs, CopyingReached}
use Rattle.gc_copying.specs.CopyMiddle.{IsCopiedTo, Moves, Mid}
use Rattle.gc_copying.specs.CopySteps.{RootsMoved, words_of_roots}
use Rattle.gc_copying.proofs.MidLemmas.{lies, new_lies}
use Rattle.gc_heap.proofs.SpacedLemmas.{Spaced-in}
use Rattle.gc_copying.proofs.CopyKeeps.{copy_range}
use Rattle.gc_copying.proofs.WorkLemmas.{copy_refs}
use Rattle.gc_copying.specs.Layout.{copying_size_at}

moved_other : (to : ℕ → ℕ) (w : ℕ) → (w ≡ 0) ⊎ (w % 2 ≡ 0 → ⊥) → moved to w ≡ w
moved_other to w (inl e) =
    subst (λ (x : ℕ). moved to x ≡ x) (sym e) refl
moved_other to w (inr odd) = ap (λ b. if b && not (w == 0) then to w else w) (ne_eqb (w % 2) 0 odd)

moved_place : (to : ℕ → ℕ) (w : ℕ) → w % 2 ≡ 0 → (w ≡ 0 → ⊥) → moved to w ≡ to w
moved_place to w even some =
    ap (λ b. if b && not (w == 0) then to w else w) (eq-eqb (w % 2) 0 even)
    ∙ ap (λ b. if not b then to w else w) (ne_eqb w 0 some)

-- a word that was moved, as a function of it
pub moves_is_moved : (s : From) (m : List ℕ) (w w' : ℕ) → Moves s m w w' → w' ≡ moved (forwarding m) w
moves_is_moved s m w w' moves = elim (cases_eq w 0) [
  | inl null ↦
      moves.other (λ place. let h = place.not_null in omega arith)
      ∙ sym (moved_other (forwarding m) w (inl null))
  | inr some ↦ elim (cases_eq (w % 2) 0) [
    | inl even ↦
        let leads = moves.leads (record { not_null = omega arith; even = even }) in
        sym leads.to ∙ sym (moved_place (forwarding m) w even some)
    | inr odd ↦
        moves.other (λ place. odd place.even)
        ∙ sym (moved_other (forwarding m) w (inr odd))
  ]
]

-- of a word of the roots the root
word_from : (rs : List Root) (p : ℕ) → In p (words_of_roots rs) → (i : ℕ) × ((i < length rs) × ((root_at rs i).word ≡ p))
word_from [] p i = elim i [ ]
word_from (r ∷ rs) _ here = (0, (omega arith, refl))
word_from (r ∷ rs) p (there i) = let b = word_from rs p i in (suc b.0, (omega (arith, b.1.0), b.1.1))

once_in_rest : (q x : ℕ) (qs : List ℕ) → occ x (q ∷ qs) ≤ 1 → occ x qs ≤ 1
once_in_rest q x qs h = elim (cases_eq x q) [
  | inl e ↦ (let one : occ x (q ∷ qs) ≡ 1 + occ x qs = subst (λ (y : ℕ). occ x (y ∷ qs) ≡ 1 + occ x qs) e (occ-same x qs) in omega (arith, one))
  | inr ne ↦ omega (arith, occ-other x q qs ne)
]

module _ (s : From) (m : List ℕ) (base bump limit count : ℕ) (mid : Mid s m base bump limit count bump) where
  -- an object's place is no null and no 31-bit number
  place_word_of : (p : ℕ) → In p s.places → IsCopyingPlace p
  place_word_of p i =
      let at = lies mid p i in
      let aligned = at.aligned mid.start.aligned in
      record {
        not_null = omega (arith, at.from, at.to, at.least, mid.start.low (omega (arith, at.to, at.least)));
        even = omega (arith, aligned);
      }

  -- a reference of a copy is moved
  pub all_moved : (p q o : ℕ) → IsCopiedTo s m p q → In o (refs s p) → Moves s m (word s.memory (p + o)) (word m (q + o))
  all_moved p q o leads i =
      let is = mid.copied p q leads in
      let at = new_lies mid q is.inside in
      let inside = Spaced-in 12 (copying_size_at s.memory p) (refs s p) o (mid.start.spaced p leads.place) i in
      is.copy.moved o i (omega (arith, at.to, copy_range mid p q leads, inside.1))

  -- what is reached was copied
  pub complete : (rs roots : List Root) → s.roots ≡ words_of_roots rs → RootsMoved s m rs roots → (p : ℕ) → CopyingReached s p → IsCopiedTo s m p (forwarding m p)
  complete rs roots roots_are roots_moved p (by_start (i, j)) =
      let b = word_from rs p (subst (λ l. In p l) roots_are j) in
      let root = (roots_moved.moved b.0 b.1.0).word in
      let leads : IsCopiedTo s m p (root_at roots b.0).word = subst (λ (x : ℕ). IsCopiedTo s m x (root_at roots b.0).word) b.1.1 (root.leads (subst (λ (x : ℕ). IsCopyingPlace x) (sym b.1.1) (place_word_of p i))) in
      record { place = leads.place; flagged = leads.flagged; to = refl }
  complete rs roots roots_are roots_moved p (by_step {y = from} r (i, (o, (j, is)))) =
      let before = complete rs roots roots_are roots_moved from r in
      let moves = all_moved from (forwarding m from) o before j in
      let leads = moves.leads (subst (λ (x : ℕ). IsCopyingPlace x) (sym is) (place_word_of p i)) in
      let at : IsCopiedTo s m p (word m (forwarding m from + o)) = subst (λ (x : ℕ). IsCopiedTo s m x (word m (forwarding m from + o))) is leads in
      record { place = at.place; flagged = at.flagged; to = refl }

  -- what is copied was reached
  pub sound : (p q : ℕ) → IsCopiedTo s m p q → CopyingReached s p
  sound p q leads = (mid.copied p q leads).reached

module _ (s : From) (m : List ℕ) (base bump limit count t : ℕ) (mid : Mid s m base bump limit count t) where
  -- the objects of these copies
  pub sources : (qs : List ℕ) → ((q : ℕ) → In q qs → (p : ℕ) × IsCopiedTo s m p q) → List ℕ
  sources [] from = []
  sources (q ∷ qs) from = (from q here).0 ∷ sources qs (λ x i. from x (there i))

  pub sources_length : (qs : List ℕ) (from : (q : ℕ) → In q qs → (p : ℕ) × IsCopiedTo s m p q) → length (sources qs from) ≡ length qs
  unfolding sources
  sources_length [] from = refl
  sources_length (q ∷ qs) from = omega (arith, sources_length qs (λ x i. from x (there i)))

  pub sources_only : (qs : List ℕ) (from : (q : ℕ) → In q qs → (p : ℕ) × IsCopiedTo s m p q) (p : ℕ) → In p (sources qs from) → (q : ℕ) × (In q qs × IsCopiedTo s m p q)
  unfolding sources
  sources_only [] from p i = elim i [ ]
  sources_only (q ∷ qs) from _ here = (q, (here, (from q here).1))
  sources_only (q ∷ qs) from p (there i) =
      let b = sources_only qs (λ x j. from x (there j)) p i in
      (b.0, (there b.1.0, b.1.1))

  pub sources_all : (qs : List ℕ) (from : (q : ℕ) → In q qs → (p : ℕ) × IsCopiedTo s m p q) (p q : ℕ) → In q qs → IsCopiedTo s m p q → In p (sources qs from)
  unfolding sources
  sources_all [] from p q i leads = elim i [ ]
  sources_all (_ ∷ qs) from p q here leads =
      subst (λ (x : ℕ). In x (sources (q ∷ qs) from)) (mid.once (from q here).0 p q (from q here).1 leads) here
  sources_all (x ∷ qs) from p q (there i) leads = there (sources_all qs (λ y j. from y (there j)) p q i leads)

  pub sources_once : (qs : List ℕ) (from : (q : ℕ) → In q qs → (p : ℕ) × IsCopiedTo s m p q) → ((q : ℕ) → occ q qs ≤ 1) → (p : ℕ) → occ p (sources qs from) ≤ 1
  unfolding sources
  sources_once [] from once p = omega arith
  sources_once (q ∷ qs) from once p =
      let first = (from q here).0 in
      let rest = sources qs (λ x i. from x (there i)) in
      let later = sources_once qs (λ x i. from x (there i)) (λ x. once_in_rest q x qs (once x)) p in
      elim (cases_eq p first) [
        | inl e ↦
            let not_later = occ-none p rest (λ i.
            let b = sources_only qs (λ x j. from x (there j)) p i in
            let same : b.0 ≡ q = sym b.1.1.to ∙ ap (forwarding m) e ∙ (from q here).1.to in
            let again : In q qs = subst (λ (x : ℕ). In x qs) same b.1.0 in
            omega (arith, once q, occ-same q qs, In-occ q qs again)) in
            let one : occ p (first ∷ rest) ≡ 1 + occ p rest = subst (λ (x : ℕ). occ p (x ∷ rest) ≡ 1 + occ p rest) e (occ-same p rest) in
            omega (arith, one, not_later)
        | inr ne ↦ omega (arith, occ-other p first rest ne, later)
      ]

  pub sources_refs : (qs : List ℕ) (from : (q : ℕ) → In q qs → (p : ℕ) × IsCopiedTo s m p q)
      → sum_over (λ p. length (refs s p)) (sources qs from) ≡ sum_over (λ q. length (copying_offsets_at s.types m q)) qs
  unfolding sources
  sources_refs [] from = refl
  sources_refs (q ∷ qs) from =
      let b = from q here in
      let same : length (copying_offsets_at s.types m q) ≡ length (refs s b.0) = ap (λ (l : List ℕ). length l) (copy_refs mid b.0 q b.1) in
      omega (arith, same, sources_refs qs (λ x i. from x (there i)))
