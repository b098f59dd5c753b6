-- A collection is complete after its sweep.
use Rattle.std.proofs.Common.{◌≡◌, ℕ, ◌+◌, ◌/◌, ◌%◌, ◌<◌, ◌≤◌, List, length, get_or, refl, sym, ap, subst, ◌∙◌, inl, inr, arith}
use Rattle.std.proofs.lemmas.Bool.{cases_eq, cases_lt}
use Rattle.std.specs.FinMap as finite
use Rattle.std.specs.Ordering.{nat_cmp}
use Rattle.gc_refs.specs.Header.{spare_bits}
use Rattle.gc_memory.specs.Words.{word}
use Rattle.gc_memory.specs.Lists.{In, sum_over, occ}
use Rattle.gc_memory.specs.Chains.{Chain}
use Rattle.gc_memory.proofs.ListLemmas.{occ-In}
use Rattle.gc_memory.proofs.ChainLemmas.{Chain-resized, Chain-unique, Chain-once}
use Rattle.gc_memory.proofs.WordLemmas.{word_by_bytes}
use Rattle.gc_roots.specs.Roots.{Root, root_at}
use Rattle.gc_heap.specs.Collection.{objects_per_increment}
use Rattle.gc_copying.specs.declared.space.Space.{Space}
use Rattle.gc_copying.specs.Spaces.{half_first, half_end}
use Rattle.gc_copying.specs.CopyWords.{flag, forwarding, IsCopyingExternal, copied_unit, copying_offsets_at}
use Rattle.gc_copying.specs.CopyStart.{From, refs, CopyingReached, ListsExternals}
use Rattle.gc_copying.specs.CopyMiddle.{IsCopiedTo}
use Rattle.gc_copying.specs.CopySteps.{Midway}
use Rattle.gc_copying.specs.CopySweep.{Sweeps, SameCounts}
use Rattle.gc_copying.specs.CopyEnd.{AtSweep, IsLink, IsRenamed, HostsSwept, IsFinished}
use Rattle.gc_copying.proofs.MidLemmas.{lies, no_both}
use Rattle.gc_heap.proofs.SpacedLemmas.{Spaced-in}
use Rattle.gc_copying.proofs.CopyKeeps.{copy_range}
use Rattle.gc_copying.proofs.ScanKeeps.{new_apart}
use Rattle.gc_copying.proofs.FormLemmas.{head_word}
use Rattle.gc_copying.proofs.SweepLemmas.{flag_cases, not_in_nil}
use Rattle.gc_copying.proofs.FinishLemmas.{moves_is_moved, complete, all_moved, sources, sources_length, sources_only, sources_all, sources_once, sources_refs}
use Rattle.gc_copying.specs.Layout.{copying_size_at}

module _ (s : From) (D : Type 0) (old new : Space) (before after : finite.FinMap nat_cmp D) (mid : Midway s old.bump old) (sweeps : Sweeps s D old new before after) where
  -- a byte of a copy is as before the sweep, unless it is of a link
  kept_byte : (p q j d : ℕ) → IsCopiedTo s old.memory p q → j < copying_size_at s.memory p → (IsLink s p j → ⊥) → get_or new.memory (q + j) d ≡ get_or old.memory (q + j) d
  kept_byte p q j d leads inside no_link = sweeps.rest (q + j) d (λ x i.
      let b = sweeps.only x i in
      let other : IsCopiedTo s old.memory b.0 x = b.1.1 in
      let at_q = (mid.copied p q leads).inside in
      let at_x = (mid.copied b.0 x other).inside in
      let size_q = copy_range mid p q leads in
      let long : 32 ≤ copying_size_at old.memory x = omega (arith, copy_range mid b.0 x other, mid.start.external_size b.0 other.place b.1.0) in
      elim (cases_eq x q) [
        | inl e ↦
            let same : b.0 ≡ p = mid.once b.0 p q (subst (λ (y : ℕ). IsCopiedTo s old.memory b.0 y) e other) leads in
            let external : IsCopyingExternal s.memory p = subst (λ (y : ℕ). IsCopyingExternal s.memory y) same b.1.0 in
            elim (cases_lt j 20) [
              | inl l ↦ inl (omega arith)
              | inr l ↦ elim (cases_lt j 24) [
                | inl k ↦ absurd (no_link (record { external = external; from = l; to = k }))
                | inr k ↦ inr (omega arith)
              ]
            ]
        | inr ne ↦ elim (new_apart mid q x at_q at_x ne) [
          | inl h ↦ inr (omega (arith, long))
          | inr h ↦ inl (omega (arith, size_q))
        ]
      ])

  -- so is a word before the links
  kept_word : (p q o : ℕ) → IsCopiedTo s old.memory p q → o + 4 ≤ copying_size_at s.memory p → ((k : ℕ) → k < 4 → IsLink s p (o + k) → ⊥) → word new.memory (q + o) ≡ word old.memory (q + o)
  kept_word p q o leads inside no_link = word_by_bytes old.memory new.memory (q + o) (q + o) (λ k l.
      let e : q + o + k ≡ q + (o + k) = omega arith in
      subst (λ (x : ℕ). get_or new.memory x 0 ≡ get_or old.memory x 0) (sym e) (kept_byte p q (o + k) 0 leads (omega arith) (no_link k l)))

  head_kept : (p q o : ℕ) → IsCopiedTo s old.memory p q → o + 4 ≤ 12 → word new.memory (q + o) ≡ word s.memory (p + o)
  head_kept p q o leads h =
      let least : 16 ≤ copying_size_at s.memory p = (lies mid p leads.place).least in
      kept_word p q o leads (omega arith) (λ k l is. let f = is.from in omega arith)
      ∙ head_word s old.memory old.bump p q o (mid.copied p q leads).copy (mid.start.spaced p leads.place) least h

  kind_kept : (p q : ℕ) → IsCopiedTo s old.memory p q → word new.memory q ≡ word s.memory p
  kind_kept p q leads =
      let e : q + 0 ≡ q = omega arith in
      let f : p + 0 ≡ p = omega arith in
      sym (ap (word new.memory) e) ∙ head_kept p q 0 leads (omega arith) ∙ ap (word s.memory) f

  renamed : (p q : ℕ) → IsCopiedTo s old.memory p q → IsRenamed s new.memory (forwarding old.memory) p q
  renamed p q leads =
      let copy = (mid.copied p q leads).copy in
      record {
        rest = λ j d l out no_link. kept_byte p q j d leads l no_link ∙ copy.rest j d l out;
        refers = λ o i.
            let inside = Spaced-in 12 (copying_size_at s.memory p) (refs s p) o (mid.start.spaced p leads.place) i in
            let none = λ (k : ℕ) (l : k < 4) (is : IsLink s p (o + k)).
            not_in_nil o (subst (λ l. In o l) (mid.start.external_refs p leads.place is.external) i) in
            kept_word p q o leads inside.1 none
            ∙ moves_is_moved s old.memory (word s.memory (p + o)) (word old.memory (q + o))
            (all_moved s old.memory (half_first (length old.memory) old.upper) old.bump (half_end (length old.memory) old.upper) old.objects mid p q o leads i);
      }

  new_size : (q : ℕ) → In q mid.news → copying_size_at new.memory q ≡ copying_size_at old.memory q
  new_size q i =
      let b = mid.back q i in
      head_kept b.0 q 8 b.1 (omega arith) ∙ sym (copy_range mid b.0 q b.1)

  new_fresh : (q : ℕ) → In q mid.news → flag new.memory q ≡ 0
  new_fresh q i =
      let b = mid.back q i in
      ap (λ w. w / copied_unit % 2) (kind_kept b.0 q b.1) ∙ mid.start.fresh b.0 b.1.place

  pub lists_externals : ListsExternals new.memory new.externals mid.news
  lists_externals = record {
    listed = sweeps.listed;
    linked = sweeps.linked;
    only = λ q i.
        let b = sweeps.only q i in
        ((mid.copied b.0 q b.1.1).inside, ap (λ w. w / spare_bits) (kind_kept b.0 q b.1.1) ∙ b.1.0);
    all = λ q i external.
        let b = mid.back q i in
        sweeps.all b.0 q (sym (ap (λ w. w / spare_bits) (kind_kept b.0 q b.1)) ∙ external) b.1;
    once = sweeps.once;
  }

  news_once : (q : ℕ) → occ q mid.news ≤ 1
  news_once q = elim (cases_lt 0 (occ q mid.news)) [
    | inl some ↦
        let one = Chain-once (copying_size_at old.memory) (half_first (length old.memory) old.upper) old.bump q mid.news mid.chain (occ-In q mid.news some) in
        omega arith
    | inr no_one ↦ omega arith
  ]

-- A collection is complete.
pub finished : (s : From) (D : Type 0) (rs roots : List Root) (old new : Space) (before after : finite.FinMap nat_cmp D) (k counted : ℕ) → (at : AtSweep s rs roots old k counted)
    → Sweeps s D old new before after → SameCounts old new → IsFinished s rs roots new (k + 2) counted
finished s D rs roots old new before after k counted at sweeps counts =
    let mid = at.work.mid in
    let base = half_first (length old.memory) old.upper in
    let limit = half_end (length old.memory) old.upper in
    let done = λ (p : ℕ) (r : CopyingReached s p). complete s old.memory base old.bump limit old.objects mid rs roots at.roots_are at.roots_moved p r in
    let from = sources s old.memory base old.bump limit old.objects old.bump mid mid.news mid.back in
    let front_is : at.work.front ≡ mid.news = Chain-unique (copying_size_at old.memory) base old.bump at.work.front mid.news at.work.chain mid.chain in
    let length_is : length from ≡ old.objects = sources_length s old.memory base old.bump limit old.objects old.bump mid mid.news mid.back ∙ mid.counted in
    let refs_is : sum_over (λ p. length (refs s p)) from ≡ at.fields =
    sources_refs s old.memory base old.bump limit old.objects old.bump mid mid.news mid.back
    ∙ sym (ap (sum_over (λ q. length (copying_offsets_at s.types old.memory q))) front_is) ∙ at.work.looked_at in
    let chain = Chain-resized (copying_size_at old.memory) (copying_size_at new.memory) base old.bump mid.news mid.chain (new_size s D old new before after mid sweeps) in
    record {
      same_length = sweeps.same_length ∙ mid.same_length;
      news = mid.news;
      chain = subst (λ (x : ℕ). Chain (copying_size_at new.memory) (half_first (length new.memory) new.upper) x mid.news) (sym counts.bump)
          (subst (λ u. Chain (copying_size_at new.memory) (half_first (length new.memory) u) old.bump mid.news) (sym counts.upper)
          (subst (λ (n : ℕ). Chain (copying_size_at new.memory) (half_first n old.upper) old.bump mid.news) (sym sweeps.same_length) chain));
      room =
          let fits : old.bump ≤ limit = omega (arith, mid.room) in
          subst (λ (x : ℕ). x ≤ half_end (length new.memory) new.upper) (sym counts.bump)
          (subst (λ u. old.bump ≤ half_end (length new.memory) u) (sym counts.upper)
          (subst (λ (n : ℕ). old.bump ≤ half_end n old.upper) (sym sweeps.same_length) fits));
      counted_objects = mid.counted ∙ sym counts.objects;
      fresh = new_fresh s D old new before after mid sweeps;
      to = forwarding old.memory;
      injective = λ p p' r r' e.
          let l = done p r in
          let l' = done p' r' in
          mid.once p p' (forwarding old.memory p') (subst (λ (x : ℕ). IsCopiedTo s old.memory p x) e l) l';
      kept = λ p r.
          let l = done p r in
          ((mid.copied p (forwarding old.memory p) l).inside, renamed s D old new before after mid sweeps p (forwarding old.memory p) l);
      only = λ q i. let b = mid.back q i in (b.0, ((mid.copied b.0 q b.1).reached, b.1.to));
      same_roots = at.roots_moved.same_length;
      roots_renamed = λ i l.
          let r = at.roots_moved.moved i l in
          record { place = r.place; on_stack = r.on_stack; word = moves_is_moved s old.memory (root_at rs i).word (root_at roots i).word r.word };
      externals = lists_externals s D old new before after mid sweeps;
      reached = from;
      lists_reached = record {
        once = sources_once s old.memory base old.bump limit old.objects old.bump mid mid.news mid.back (news_once s D old new before after mid sweeps);
        only = λ p i.
            let b = sources_only s old.memory base old.bump limit old.objects old.bump mid mid.news mid.back p i in
            (mid.copied p b.0 b.1.1).reached;
        all = λ p r.
            let l = done p r in
            sources_all s old.memory base old.bump limit old.objects old.bump mid mid.news mid.back p (forwarding old.memory p) (mid.copied p (forwarding old.memory p) l).inside l;
      };
      increments = omega (arith, at.increments, ap (λ (n : ℕ). n / objects_per_increment) length_is);
      steps = omega (arith, at.counted_is, length_is, refs_is);
    }

-- The host values of what was not reached are gone.
pub hosts_swept : (s : From) (D : Type 0) (rs roots : List Root) (old new : Space) (before after : finite.FinMap nat_cmp D) (k counted : ℕ) → (at : AtSweep s rs roots old k counted)
    → Sweeps s D old new before after → HostsSwept s D before after
hosts_swept s D rs roots old new before after k counted at sweeps =
    let mid = at.work.mid in
    let base = half_first (length old.memory) old.upper in
    let limit = half_end (length old.memory) old.upper in
    record {
      lost = λ p i external unreached. elim (flag_cases old.memory p) [
        | inl one ↦ absurd (unreached (mid.copied p (forwarding old.memory p) (record { place = i; flagged = one; to = refl })).reached)
        | inr clear ↦ sweeps.lost p i external clear
      ];
      kept = λ id all_reached. sweeps.kept id (λ p i external clear is.
          no_both clear (complete s old.memory base old.bump limit old.objects mid rs roots at.roots_are at.roots_moved p (all_reached p i external is)).flagged);
      part = sweeps.part;
    }
