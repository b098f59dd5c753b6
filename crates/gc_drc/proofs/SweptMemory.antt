-- What the first two increments free.
use Rattle.std.proofs.Common.{◌≡◌, ℕ, List, [], sym, ap, subst, inl, inr}
use Rattle.std.specs.FinMap as finite
use Rattle.std.specs.Ordering.{nat_cmp}
use Rattle.gc_types.specs.Declarations.{Declaration}
use Rattle.gc_memory.specs.Lists.{occ}
use Rattle.gc_memory.proofs.ListLemmas.{In-occ, occ-In}
use Rattle.gc_drc.specs.declared.space.CountedSpace.{CountedSpace}
use Rattle.gc_drc.specs.View.{View}
use Rattle.gc_drc.specs.CollectStates.{Draining, Drained}
use Rattle.gc_drc.specs.CollectMemory.{Context, At}
use Rattle.gc_drc.specs.CollectHosts.{HostsLeft}
use Rattle.gc_drc.specs.CollectDrain.{Drain, CanDrain}
use Rattle.gc_drc.specs.CollectSweep.{FrameMarks, Sweep}
use Rattle.gc_drc.specs.CollectSwept.{FreesUnheld}
use Rattle.gc_drc.proofs.OccLemmas.{occ-cases}
use Rattle.gc_drc.proofs.SweepLemmas.{sweep_ends, kept_not_unheld}
use Rattle.gc_drc.proofs.LinkLemmas.{linked_empty}
use Rattle.gc_drc.proofs.HostLemmas.{hosts_begin}

-- the list is swept, and what is queued is to be freed
pub swept_drain : (D : Type 0) (c : Context) (s : CountedSpace) (hosts : finite.FinMap nat_cmp D) (kept : List ℕ) → Sweep c s kept [] → Drain D c hosts s hosts
swept_drain D c s hosts kept w = record {
  view = w.view;
  at = w.at;
  draining = sweep_ends c.graph w.view kept w.sweeping;
  hosts = subst (λ (ps : List ℕ). HostsLeft D c ps hosts hosts) (sym w.all_held) (hosts_begin D c hosts);
}

pub swept_can_drain : (D : Type 0) (types : List Declaration) (s s1 : CountedSpace) (hosts : finite.FinMap nat_cmp D) → (c : Context) → c.types ≡ types → FrameMarks c s []
    → ((o : Context) → FrameMarks o s [] → (kept : List ℕ) × Sweep o s1 kept []) → CanDrain D types s1 hosts
swept_can_drain D types s s1 hosts c typed m sweeps =
    let r = sweeps c m in
    record { context = c; before = hosts; typed = typed; drain = swept_drain D c s1 hosts r.0 r.1 }

-- nothing is queued any more
pub drained : (c : Context) (v : View) (s : CountedSpace) → At c v s → s.queued ≡ 0 → Draining c.graph v [] → Drained c.graph v
drained c v s at e d =
    let empty = linked_empty s.memory 24 s.queued v.queue at.holds.queue_linked e in
    record { draining = d; none_queued = λ x. ap (λ (xs : List ℕ). occ x xs) empty }

pub frees_unheld : (D : Type 0) (c : Context) (s : CountedSpace) (before now : finite.FinMap nat_cmp D) → Drain D c before s now → s.queued ≡ 0 → FreesUnheld D c s before now
frees_unheld D c s before now d e =
    let done = drained c d.view s d.at e d.draining in
    record {
      view = d.view;
      at = d.at;
      drained = done;
      hosts = d.hosts;
      freed = λ p i gone. d.draining.cascading.freed p (In-occ p c.graph.places i) (elim (occ-cases p d.view.places) [
        | inl none ↦ none
        | inr some ↦ elim (gone (occ-In p d.view.places some)) [ ]
      ]);
      kept = λ p i unheld. kept_not_unheld c.graph d.view done p unheld (In-occ p d.view.places i);
    }
