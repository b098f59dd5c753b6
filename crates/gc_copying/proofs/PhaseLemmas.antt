-- The increments of a collection.
use Rattle.std.proofs.Common.{◌≡◌, ℕ, ◌+◌, ◌*◌, ◌<◌, ◌≤◌, List, [], ◌∷◌, length, sym, ap, subst, ◌∙◌, inl, inr, arith}
use Rattle.std.specs.FinMap as finite
use Rattle.std.specs.Ordering.{nat_cmp}
use Rattle.gc_types.specs.Declarations.{Declaration}
use Rattle.gc_memory.specs.Lists.{occ}
use Rattle.gc_memory.specs.Chains.{Chain, done, next}
use Rattle.gc_memory.proofs.ListLemmas.{In-occ, occ-In}
use Rattle.gc_memory.proofs.ChainLemmas.{Chain-unique, Chain-once, Chain-end}
use Rattle.gc_roots.specs.Roots.{Root, root_at}
use Rattle.gc_heap.specs.Collection.{objects_per_increment}
use Rattle.gc_copying.specs.declared.space.Space.{Space}
use Rattle.gc_copying.specs.Spaces.{half_first, half_end}
use Rattle.gc_copying.specs.CopyStart.{From}
use Rattle.gc_copying.specs.CopyMiddle.{Mid, Later}
use Rattle.gc_copying.specs.CopySteps.{Midway, SameSides, WorkAt, WorksOn, RootsMoved, words_of_roots}
use Rattle.gc_copying.specs.CopyEnd.{IsBegun, AtWork, AtSweep, ListsReached, IsFinished, HostsSwept}
use Rattle.gc_copying.specs.declared.copy.collect.Phase.{Phase}
use Rattle.gc_copying.specs.declared.copy.collect.Phase.TheVariants as phase
use Rattle.gc_copying.specs.CopyPhases.{CopyProgress, BeforeRoots, AtScan, BeforeSweep, InPhase, UnderWay, one_more, CopyingGoesOn, IsComplete, Scanned}
use Rattle.gc_copying.proofs.LastLemmas.{finished, hosts_swept}
use Rattle.gc_copying.specs.CopySweep.{Sweeps, SameCounts}
use Rattle.std.proofs.lemmas.Bool.{cases_lt}
use Rattle.gc_copying.proofs.MidLemmas.{moves_later}
use Rattle.gc_copying.proofs.FewLemmas.{few}
use Rattle.gc_copying.proofs.FinishLemmas.{sources, sources_length, sources_only, sources_once}
use Rattle.gc_copying.specs.Layout.{copying_size_at}

-- the roots stay moved
pub roots_later : (s : From) (m m' : List ℕ) (rs roots : List Root) → Later s m m' → RootsMoved s m rs roots → RootsMoved s m' rs roots
roots_later s m m' rs roots later moved = record {
  same_length = moved.same_length;
  moved = λ i l.
      let r = moved.moved i l in
      record { place = r.place; on_stack = r.on_stack; word = moves_later s m m' (root_at rs i).word (root_at roots i).word later r.word };
}

-- one more increment scanned copies
pub scanned_more : (types : List Declaration) (s : From) (rs roots : List Root) (old new : Space) (scan place k counted more before now : ℕ)
    → ((n fields : ℕ) → s.types ≡ types → WorkAt s old scan n fields → WorksOn s old new place objects_per_increment n fields before now)
    → SameSides old new → s.types ≡ types → AtWork s rs roots old scan k counted → now ≡ before + more → AtWork s rs roots new place (k + 1) (counted + more)
scanned_more types s rs roots old new scan place k counted more before now scans sides types_are at counts =
    let on = scans (objects_per_increment * k) at.fields types_are at.work in
    let e : objects_per_increment * k + objects_per_increment ≡ objects_per_increment * (k + 1) = omega arith in
    record {
      fields = at.fields + on.references;
      work = subst (λ (n : ℕ). WorkAt s new place n (at.fields + on.references)) e on.works.work;
      roots_are = at.roots_are;
      roots_moved = roots_later s old.memory new.memory rs roots on.works.later at.roots_moved;
      none_listed = sides.externals ∙ at.none_listed;
      counted_is = omega (arith, on.ticks, at.counted_is, counts);
    }

-- an increment found no more copies
pub scanned_all_copies : (types : List Declaration) (s : From) (rs roots : List Root) (old new : Space) (scan k counted more before now last : ℕ) → last < objects_per_increment
    → ((n fields : ℕ) → s.types ≡ types → WorkAt s old scan n fields → WorksOn s old new new.bump last n fields before now)
    → SameSides old new → s.types ≡ types → AtWork s rs roots old scan k counted → now ≡ before + more → AtSweep s rs roots new (k + 1) (counted + more)
scanned_all_copies types s rs roots old new scan k counted more before now last few scans sides types_are at counts =
    let on = scans (objects_per_increment * k) at.fields types_are at.work in
    let work = on.works.work in
    let base = half_first (length new.memory) new.upper in
    let all : work.front ≡ work.mid.news = Chain-unique (copying_size_at new.memory) base new.bump work.front work.mid.news work.chain work.mid.chain in
    let objects : objects_per_increment * k + last ≡ new.objects = sym work.scanned ∙ ap (λ (l : List ℕ). length l) all ∙ work.mid.counted in
    record {
      fields = at.fields + on.references;
      work = subst (λ (n : ℕ). WorkAt s new new.bump n (at.fields + on.references)) objects work;
      roots_are = at.roots_are;
      roots_moved = roots_later s old.memory new.memory rs roots on.works.later at.roots_moved;
      none_listed = sides.externals ∙ at.none_listed;
      increments = omega (arith, objects);
      counted_is = omega (arith, on.ticks, at.counted_is, counts);
    }

-- the first objects of a chain are at most all
prefix_length : (size : ℕ → ℕ) (a b e : ℕ) (ps qs : List ℕ) → Chain size a b ps → Chain size a e qs → b ≤ e → length ps ≤ length qs
prefix_length size a b e [] qs c d h = omega arith
prefix_length size a b _ (_ ∷ ps) [] (next l w c) done h = absurd (omega (arith, Chain-end size (a + size a) b ps c))
prefix_length size a b e (_ ∷ ps) (_ ∷ qs) (next l w c) (next m v d) h = omega (arith, prefix_length size (a + size a) b e ps qs c d h)

-- at least as many places are reached as there are copies
reached_at_least : (s : From) (m : List ℕ) (base bump limit count t : ℕ) (mid : Mid s m base bump limit count t) → (reached : List ℕ) → ListsReached s reached → count ≤ length reached
reached_at_least s m base bump limit count t mid reached lists =
    let once_here : (q : ℕ) → occ q mid.news ≤ 1 = λ q. elim (cases_lt 0 (occ q mid.news)) [
      | inl some ↦ (let one = Chain-once (copying_size_at m) base bump q mid.news mid.chain (occ-In q mid.news some) in omega arith)
      | inr no_one ↦ omega arith
    ] in
    let from = sources s m base bump limit count t mid mid.news mid.back in
    let all = few from reached (λ p i.
    let b = sources_only s m base bump limit count t mid mid.news mid.back p i in
    let r = (mid.copied p b.0 b.1.1).reached in
    omega (arith, lists.once p, In-occ p reached (lists.all p r))) (sources_once s m base bump limit count t mid mid.news mid.back once_here) in
    omega (arith, all, sources_length s m base bump limit count t mid mid.news mid.back, mid.counted)

-- so many were scanned at least
pub scanned_at_least : (s : From) (rs roots : List Root) (h : Space) (scan k counted : ℕ) → AtWork s rs roots h scan k counted → (reached : List ℕ) → ListsReached s reached
    → objects_per_increment * k ≤ length reached
scanned_at_least s rs roots h scan k counted at reached lists =
    let work = at.work in
    let base = half_first (length h.memory) h.upper in
    let least = reached_at_least s h.memory base h.bump (half_end (length h.memory) h.upper) h.objects scan work.mid reached lists in
    let part : length work.front ≤ length work.mid.news = prefix_length (copying_size_at h.memory) base scan h.bump work.front work.mid.news work.chain work.mid.chain work.mid.frontier in
    omega (arith, least, part, work.scanned, work.mid.counted)

-- what comes after an increment that scanned
phase_scanned : (D : Type 0) (c : CopyProgress D) (h : Space) (at : Phase) (roots : List Root) (scans more externals : ℕ) → c.increments ≡ scans + 1 → externals ≡ c.start.externals
    → Scanned c.start c.began_with roots h scans (c.counted + more) externals at → InPhase D (one_more c more) h at roots
phase_scanned D c h phase.Roots roots scans more externals is externals_are scanned = absurd scanned
phase_scanned D c h (phase.Worklist scan kept) roots scans more externals is externals_are scanned =
    record { scans = scans + 1; done = omega arith; work = scanned.0; externals_are = scanned.1 ∙ externals_are }
phase_scanned D c h (phase.Sweep kept) roots scans more externals is externals_are scanned =
    record { scans = scans + 1; done = omega arith; sweep = scanned.0; externals_are = scanned.1 ∙ externals_are }
phase_scanned D c h phase.Done roots scans more externals is externals_are scanned = absurd scanned

-- a collection goes on after it
pub goes_on_scanning : (D : Type 0) (c : CopyProgress D) (old new : Space) (at at' : Phase) (roots : List Root) (types : List Declaration) (hosts : finite.FinMap nat_cmp D) (scan externals more before now : ℕ)
    → UnderWay D c old at roots types hosts → at ≡ phase.Worklist scan externals
    → ((s : From) (rs roots1 : List Root) (k counted more1 : ℕ) → s.types ≡ types → AtWork s rs roots1 old scan k counted → now ≡ before + more1 → Scanned s rs roots1 new k (counted + more1) externals at')
    → now ≡ before + more → CopyingGoesOn D (one_more c more) new at' roots types hosts
goes_on_scanning D c old new at at' roots types hosts scan externals more before now under is scanned counts =
    let in_phase : AtScan D c old scan externals roots = subst (λ ph. InPhase D c old ph roots) is under.in_phase in
    record {
      under_way = record {
        types_are = under.types_are;
        hosts_are = under.hosts_are;
        in_phase = phase_scanned D c new at' roots in_phase.scans more externals in_phase.done in_phase.externals_are
            (scanned c.start c.began_with roots in_phase.scans c.counted more under.types_are in_phase.work counts);
      };
      before_last = λ reached lists.
          let least = scanned_at_least c.start c.began_with roots old scan in_phase.scans c.counted in_phase.work reached lists in
          omega (arith, in_phase.done, least);
    }

-- where the sweep stands
pub at_sweep : (D : Type 0) (c : CopyProgress D) (h : Space) (at : Phase) (roots : List Root) (types : List Declaration) (hosts : finite.FinMap nat_cmp D) (externals : ℕ)
    → UnderWay D c h at roots types hosts → at ≡ phase.Sweep externals → BeforeSweep D c h externals roots
at_sweep D c h at roots types hosts externals under is = subst (λ ph. InPhase D c h ph roots) is under.in_phase

-- a collection is complete after the sweep
pub complete_after_sweep : (D : Type 0) (c : CopyProgress D) (old new : Space) (at : Phase) (roots : List Root) (types : List Declaration) (hosts hosts' : finite.FinMap nat_cmp D) (externals more before : ℕ)
    → UnderWay D c old at roots types hosts → at ≡ phase.Sweep externals
    → ((s : From) → Midway s old.bump old → externals ≡ s.externals → Sweeps s D old new hosts hosts') → SameCounts old new
    → before ≡ before + more → IsComplete D (one_more c more) new roots hosts'
complete_after_sweep D c old new at roots types hosts hosts' externals more before under is sweeps counts none_more =
    let in_phase = at_sweep D c old at roots types hosts externals under is in
    let swept = sweeps c.start in_phase.sweep.work.mid in_phase.externals_are in
    let increments : in_phase.scans + 2 ≡ c.increments + 1 = omega (arith, in_phase.done) in
    let counted : c.counted ≡ c.counted + more = omega arith in
    record {
      finished = subst (λ (n : ℕ). IsFinished c.start c.began_with roots new n (c.counted + more)) increments
          (subst (λ (n : ℕ). IsFinished c.start c.began_with roots new (in_phase.scans + 2) n) counted
          (finished c.start D c.began_with roots old new hosts hosts' in_phase.scans c.counted in_phase.sweep swept counts));
      hosts_swept = subst (λ h. HostsSwept c.start D h hosts') under.hosts_are
          (hosts_swept c.start D c.began_with roots old new hosts hosts' in_phase.scans c.counted in_phase.sweep swept);
    }

-- a collection goes on after its roots were moved
pub goes_on_after_roots : (D : Type 0) (c : CopyProgress D) (old new : Space) (at : Phase) (roots roots' : List Root) (types : List Declaration) (hosts : finite.FinMap nat_cmp D) (scan more before now : ℕ)
    → UnderWay D c old at roots types hosts → at ≡ phase.Roots
    → ((s : From) (counted : ℕ) → IsBegun s old → s.roots ≡ words_of_roots roots → now ≡ before + counted → AtWork s roots roots' new scan 0 counted)
    → now ≡ before + more → CopyingGoesOn D (one_more c more) new (phase.Worklist scan old.externals) roots' types hosts
goes_on_after_roots D c old new at roots roots' types hosts scan more before now under is begins counts =
    let in_phase : BeforeRoots D c old roots = subst (λ ph. InPhase D c old ph roots) is under.in_phase in
    let work = begins c.start more in_phase.begun in_phase.roots_are counts in
    let counted : more ≡ c.counted + more = omega (arith, in_phase.none_counted) in
    record {
      under_way = record {
        types_are = under.types_are;
        hosts_are = under.hosts_are;
        in_phase = record {
          scans = 0;
          done = omega (arith, in_phase.none_done);
          work = subst (λ (n : ℕ). AtWork c.start c.began_with roots' new scan 0 n) counted
              (subst (λ rs. AtWork c.start rs roots' new scan 0 more) in_phase.same_roots work);
          externals_are = sym in_phase.begun.externals;
        };
      };
      before_last = λ reached lists. omega (arith, in_phase.none_done);
    }
