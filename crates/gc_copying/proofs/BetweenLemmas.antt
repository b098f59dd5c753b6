-- One increment of a collection of a copying heap.
use Rattle.std.proofs.Common.{◌≡◌, ℕ, ◌+◌, ◌<◌, ◌≤◌, ◌^◌, Bool, true, false, not, nat_eq, List, [], ◌∷◌, length, refl, sym, ap, subst, ◌∙◌, inl, inr, arith}
use Rattle.std.specs.List.{IsDistinct, AllByRecursion}
use Rattle.std.specs.FinMap as finite
use Rattle.std.specs.Ordering.{nat_cmp}
use Rattle.std.proofs.lemmas.Bool.{cases_eq, eq-eqb}
use Rattle.gc_types.specs.declared.kind.Layouts.TheVariants.{Copying}
use Rattle.gc_types.specs.Declarations.{Declaration}
use Rattle.gc_roots.specs.Roots.{Root}
use Rattle.gc_memory.specs.Lists.{In, here, there, occ}
use Rattle.gc_memory.proofs.ListLemmas.{occ-same, occ-other, occ-none}
use Rattle.gc_heap.specs.Collection.{Start, has_host, Collected, AreReached, IsIncrements, IsStepCount, objects_per_increment}
use Rattle.gc_heap.specs.Collection as content
use Rattle.gc_heap.specs.declared.collection.GcProgress.{GcProgress}
use Rattle.gc_heap.specs.declared.collection.GcProgress.TheVariants as progress
use Rattle.gc_view.specs.Heaps.{HeapView}
use Rattle.gc_copying.specs.declared.space.Space.{Space}
use Rattle.gc_copying.specs.declared.heap.CopyingHeap.{CopyingHeap}
use Rattle.gc_copying.specs.Backed.{CopyingBacking}
use Rattle.gc_heap.specs.declared.backing.Backing.TheVariants as backing
use Rattle.gc_copying.specs.declared.copy.collect.Phase.{Phase}
use Rattle.gc_copying.specs.declared.copy.collect.Phase.TheVariants as phase
use Rattle.gc_copying.specs.Spaces.{half_first, half_end}
use Rattle.gc_copying.specs.States.{IsSoundSemiSpace, copying_seen_in, copying_seen_of, copying_seen, IsCopyingBacked, IsCopyingSound}
use Rattle.gc_copying.specs.CopyStart.{From}
use Rattle.gc_copying.specs.CopySteps.{words_of_roots}
use Rattle.gc_copying.specs.CopyEnd.{IsBegun}
use Rattle.gc_copying.specs.CopyPhases.{CopyProgress, InPhase, UnderWay, one_more, CopyingGoesOn, IsComplete, CopyingStepped, side_after}
use Rattle.gc_copying.specs.CopyBetween.{start_in_bytes, CopyingBeginsIn, IsUntouched, CopyingStandsAt, CopyingBetweenIn, CopyingBetween}
use Rattle.gc_copying.proofs.StartLemmas.{first_same, is_from}
use Rattle.gc_copying.proofs.CollectedLemmas.{lists_reached, space_new, increments_so, steps_so, collected_so}

none_in : (x : ℕ) (ys : List ℕ) → AllByRecursion (λ y. nat_eq x y ≡ false) ys → In x ys → ⊥
none_in x [] all i = elim i [ ]
none_in x (_ ∷ ys) all here = true_not_false (sym (eq-eqb x x refl) ∙ all.0)
  where
    true_not_false : true ≡ false → ⊥
    true_not_false e = cc
none_in x (y ∷ ys) all (there i) = none_in x ys all.1 i

-- a number stands at most once among distinct ones
once_of : (xs : List ℕ) → IsDistinct nat_eq xs → (p : ℕ) → occ p xs ≤ 1
unfolding IsDistinct
once_of [] d p = omega arith
once_of (x ∷ xs) d p = elim (cases_eq p x) [
  | inl e ↦ subst (λ q. occ q (x ∷ xs) ≤ 1) (sym e) (omega (arith, occ-same x xs, occ-none x xs (none_in x xs d.0)))
  | inr ne ↦ subst (λ n. n ≤ 1) (sym (occ-other p x xs ne)) (once_of xs d.1 p)
]

module _ (s : Start) (n counted scopes : ℕ) (D : Type 0) (space : Space) (roots : List Root) (types : List Declaration) (old : finite.FinMap nat_cmp D) where
  -- how far it is, with these host values
  abbrev pub progress_of : From → CopyProgress D
  progress_of from = record { start = from; began_with = s.roots; hosts = old; increments = n; counted = counted }

  -- an untouched space is one in which a collection begins
  begun_of : (memory : List ℕ) (upper : Bool) (bump head objects : ℕ) → CopyingBeginsIn s memory upper bump head objects scopes → IsUntouched s memory upper bump head n counted space roots
      → IsBegun (start_in_bytes s memory upper bump head) space
  begun_of memory upper bump head objects b u = record {
    start = is_from s memory upper bump head objects scopes b;
    memory = u.memory_is;
    first = first_same (length memory) upper b.space.pages ∙ ap (λ (l : List ℕ). half_first (length l) upper) u.memory_is ∙ ap (λ (v : Bool). half_first (length space.memory) v) u.upper_is;
    end = u.bump_is;
    externals = u.head_is;
    room = subst (λ (k : ℕ). k ≤ half_end (length space.memory) space.upper) u.bump_is
        (subst (λ (v : Bool). bump ≤ half_end (length space.memory) v) u.upper_is
        (subst (λ (l : List ℕ). bump ≤ half_end (length l) upper) u.memory_is b.space.inside));
  }

  in_phase : (at : Phase) (memory : List ℕ) (upper : Bool) (bump head objects : ℕ) → CopyingBeginsIn s memory upper bump head objects scopes → CopyingStandsAt s memory upper bump head n counted space at roots
      → InPhase D (progress_of (start_in_bytes s memory upper bump head)) space at roots
  in_phase phase.Roots memory upper bump head objects b u = record {
    none_done = u.none_done;
    none_counted = u.none_counted;
    begun = begun_of memory upper bump head objects b u;
    roots_are = ap words_of_roots (sym u.roots_are);
    same_roots = u.roots_are;
  }
  in_phase (phase.Worklist scan externals) memory upper bump head objects b u =
      let w = u.0 in
      record { scans = w.scans; done = w.done; work = w.work; externals_are = w.externals_are }
  in_phase (phase.Sweep externals) memory upper bump head objects b u =
      let w = u.0 in
      record { scans = w.scans; done = w.done; sweep = w.sweep; externals_are = w.externals_are }
  in_phase phase.Done memory upper bump head objects b u = absurd u

  -- so it is under way in bytes
  pub under_way_of : (at : Phase) (b : CopyingBetweenIn s n counted scopes space at roots types (has_host old))
      → UnderWay D (progress_of (start_in_bytes s b.memory b.upper b.bump b.head)) space at roots types old
  under_way_of at b = record {
    types_are = sym b.types_are;
    hosts_are = refl;
    in_phase = in_phase at b.memory b.upper b.bump b.head b.objects b.begins b.stands;
  }

-- the other half is active once the first increment is done
side_of : (s : Start) (n counted scopes : ℕ) (space : Space) (roots : List Root) (at : Phase) (memory : List ℕ) (upper now : Bool) (bump head : ℕ)
    → CopyingStandsAt s memory upper bump head n counted space at roots → now ≡ side_after at space.upper → now ≡ not upper
side_of s n counted scopes space roots phase.Roots memory upper now bump head u side = side ∙ ap not (sym u.upper_is)
side_of s n counted scopes space roots (phase.Worklist scan externals) memory upper now bump head u side = side ∙ u.1
side_of s n counted scopes space roots (phase.Sweep externals) memory upper now bump head u side = side ∙ u.1
side_of s n counted scopes space roots phase.Done memory upper now bump head u side = absurd u

-- where it stands after an increment
stands_of : (s : Start) (n counted : ℕ) (D : Type 0) (old : finite.FinMap nat_cmp D) (space : Space) (roots : List Root) (at : Phase) (memory : List ℕ) (upper : Bool) (bump head : ℕ)
    → InPhase D (record { start = start_in_bytes s memory upper bump head; began_with = s.roots; hosts = old; increments = n + 1; counted = counted }) space at roots → space.upper ≡ not upper
    → CopyingStandsAt s memory upper bump head (n + 1) counted space at roots
stands_of s n counted D old space roots phase.Roots memory upper bump head w side = let none = w.none_done in absurd (omega arith)
stands_of s n counted D old space roots (phase.Worklist scan externals) memory upper bump head w side =
    (record { scans = w.scans; done = w.done; work = w.work; externals_are = w.externals_are }, side)
stands_of s n counted D old space roots (phase.Sweep externals) memory upper bump head w side =
    (record { scans = w.scans; done = w.done; sweep = w.sweep; externals_are = w.externals_are }, side)
stands_of s n counted D old space roots phase.Done memory upper bump head w side = absurd w

-- What stands at the end.
pub record IsDone (s : Start) (counted scopes : ℕ) (space : Space) (roots : List Root) (hosts : ℕ → Bool) : Type 0 where
  pub sound : IsSoundSemiSpace space
  pub steps : IsStepCount Copying s counted
  pub collected : Collected Copying s (copying_seen_in scopes space) roots hosts

module _ (s : Start) (n counted more scopes : ℕ) (D : Type 0) (space space' : Space) (roots roots' : List Root) (types : List Declaration) (old new : finite.FinMap nat_cmp D) (at at' : Phase)
    (b : CopyingBetweenIn s n counted scopes space at roots types (has_host old)) (side : space'.upper ≡ side_after at space.upper) where
  abbrev before : CopyProgress D
  before = progress_of s n counted scopes D space roots types old (start_in_bytes s b.memory b.upper b.bump b.head)

  goes_on : CopyingGoesOn D (one_more before more) space' at' roots' types new
      → ((k : ℕ) → IsIncrements Copying s k → n + 1 < k) × CopyingBetweenIn s (n + 1) (counted + more) scopes space' at' roots' types (has_host new)
  goes_on g = (
    λ k i. let r = lists_reached s b.memory b.upper b.bump b.head b.objects scopes b.begins i.0 i.1.0 (once_of i.0 i.1.0.distinct) in subst (λ (x : ℕ). n + 1 < x) (sym i.1.1) (g.before_last i.0 r),
    record {
      memory = b.memory;
      upper = b.upper;
      bump = b.bump;
      head = b.head;
      objects = b.objects;
      begins = b.begins;
      stands = stands_of s n (counted + more) D old space' roots' at' b.memory b.upper b.bump b.head g.under_way.in_phase
          (side_of s n counted scopes space roots at b.memory b.upper space'.upper b.bump b.head b.stands side);
      types_are = b.types_are;
      hosts_are = ap has_host g.under_way.hosts_are ∙ b.hosts_are;
    },
  )

  complete : IsComplete D (one_more before more) space' roots' new → IsIncrements Copying s (n + 1) × IsDone s (counted + more) scopes space' roots' (has_host new)
  complete e = (
    increments_so s b.memory b.upper b.bump b.head b.objects scopes b.begins space' roots' (n + 1) (counted + more) e.finished,
    record {
      sound = space_new s b.memory b.upper b.bump b.head b.objects scopes b.begins space' roots' (n + 1) (counted + more) e.finished;
      steps = steps_so s b.memory b.upper b.bump b.head b.objects scopes b.begins space' roots' (n + 1) (counted + more) e.finished;
      collected = collected_so s b.memory b.upper b.bump b.head b.objects scopes b.begins space' roots' (n + 1) (counted + more) e.finished D old new e.hosts_swept b.hosts_are
          (side_of s n counted scopes space roots at b.memory b.upper space'.upper b.bump b.head b.stands side);
    },
  )

  -- one increment, in objects
  pub one_increment : (answer : GcProgress) → CopyingStepped D (one_more before more) answer space' at' roots' types new
      → content.Stepped Copying s (n + 1) answer (CopyingBetweenIn s (n + 1) (counted + more) scopes space' at' roots' types (has_host new)) (IsDone s (counted + more) scopes space' roots' (has_host new))
  one_increment progress.Continue g = goes_on g
  one_increment progress.Complete e = complete e

-- what is told of an increment follows from more
pub stepped_as : {A B P Q : Type 0} (s : Start) (n : ℕ) (answer : GcProgress) → content.Stepped Copying s n answer A B → (A → P) → (B → Q) → content.Stepped Copying s n answer P Q
stepped_as s n progress.Continue t f g = (t.0, f t.1)
stepped_as s n progress.Complete t f g = (t.0, g t.1)

-- a collection is under way only where there is a memory
pub between_attached : (s : Start) (n counted scopes : ℕ) (b : CopyingBacking) (at : Phase) (roots : List Root) (types : List Declaration) (hosts : ℕ → Bool)
    → ((space : Space) → b ≡ backing.Attached space → ⊥) → CopyingBetween s n counted scopes b at roots types hosts → ⊥
between_attached s n counted scopes backing.Detached at roots types hosts never w = w
between_attached s n counted scopes (backing.Attached space) at roots types hosts never w = never space refl
between_attached s n counted scopes (backing.Taken m) at roots types hosts never w = w

-- there an increment may be done
pub can_collect : (D : Type 0) (s : Start) (n counted scopes : ℕ) (b : CopyingBacking) (space : Space) (at : Phase) (roots : List Root) (types : List Declaration) (old : finite.FinMap nat_cmp D)
    → b ≡ backing.Attached space → CopyingBetween s n counted scopes b at roots types (has_host old) → (c : CopyProgress D) × UnderWay D c space at roots types old
can_collect D s n counted scopes b space at roots types old is w =
    let i : CopyingBetweenIn s n counted scopes space at roots types (has_host old) = subst (λ x. CopyingBetween s n counted scopes x at roots types (has_host old)) is w in
    (progress_of s n counted scopes D space roots types old (start_in_bytes s i.memory i.upper i.bump i.head), under_way_of s n counted scopes D space roots types old at i)

-- the heap with that space, at the end
done_in : (s : Start) (counted scopes : ℕ) (space : Space) (roots : List Root) (hosts : ℕ → Bool) (h : CopyingHeap) → h.scopes ≡ scopes → h.backing ≡ backing.Attached space → scopes < 2 ^ 64
    → IsDone s counted scopes space roots hosts → IsCopyingSound h × IsStepCount Copying s counted × Collected Copying s (copying_seen h) roots hosts
done_in s counted scopes space roots hosts h scopes_are is below d = (
  record { backed = subst IsCopyingBacked (sym is) d.sound; scopes = subst (λ k. k < 2 ^ 64) (sym scopes_are) below },
  d.steps,
  subst (λ (b : CopyingBacking). Collected Copying s (copying_seen_of h.scopes b) roots hosts) (sym is) (subst (λ k. Collected Copying s (copying_seen_in k space) roots hosts) (sym scopes_are) d.collected),
)

-- What one increment in the space of a heap does.
pub heap_increment : (D : Type 0) (s : Start) (n counted more scopes before after : ℕ) (b : CopyingBacking) (h : CopyingHeap) (space space' : Space) (roots roots' : List Root) (types : List Declaration)
    (old new : finite.FinMap nat_cmp D) (at at' : Phase) (answer : GcProgress) → b ≡ backing.Attached space → CopyingBetween s n counted scopes b at roots types (has_host old) → space'.upper ≡ side_after at space.upper
    → ((c : CopyProgress D) (k : ℕ) → UnderWay D c space at roots types old → after ≡ before + k → CopyingStepped D (one_more c k) answer space' at' roots' types new) → after ≡ before + more
    → h.scopes ≡ scopes → h.backing ≡ backing.Attached space'
    → content.Stepped Copying s (n + 1) answer (CopyingBetween s (n + 1) (counted + more) h.scopes h.backing at' roots' types (has_host new))
    (IsCopyingSound h × IsStepCount Copying s (counted + more) × Collected Copying s (copying_seen h) roots' (has_host new))
heap_increment D s n counted more scopes before after b h space space' roots roots' types old new at at' answer is w side stepped counts scopes_are is' =
    let i : CopyingBetweenIn s n counted scopes space at roots types (has_host old) = subst (λ x. CopyingBetween s n counted scopes x at roots types (has_host old)) is w in
    let under = under_way_of s n counted scopes D space roots types old at i in
    let none : scopes ≡ 0 = ap (λ (v : HeapView). v.scopes) i.begins.heap_is ∙ i.begins.can.open_scopes in
    stepped_as s (n + 1) answer
    (one_increment s n counted more scopes D space space' roots roots' types old new at at' i side answer
    (stepped (progress_of s n counted scopes D space roots types old (start_in_bytes s i.memory i.upper i.bump i.head)) more under counts))
    (λ x. subst (λ (y : CopyingBacking). CopyingBetween s (n + 1) (counted + more) h.scopes y at' roots' types (has_host new)) (sym is') (subst (λ k. CopyingBetweenIn s (n + 1) (counted + more) k space' at' roots' types (has_host new)) (sym scopes_are) x))
    (λ d. done_in s (counted + more) scopes space' roots' (has_host new) h scopes_are is' (omega arith) d)

pub false_not_true : {A : Type 0} → false ≡ true → A
false_not_true e = absurd (cc e)
