-- What a growth that a command asks for answers and leaves.
use Rattle.std.proofs.Common.{inl, inr, ◌≡◌, ℕ, Option, Bool, true, false, sym, ap, refl, subst}
use Rattle.std.specs.Prelude.{Ok, Err}
use Rattle.gc_types.specs.declared.kind.Layouts.{Layouts}
use Rattle.gc_model.specs.Table.{Table}
use Rattle.gc_model.specs.Allocation.{Limits, Grows, GetsPages}
use Rattle.gc_model.specs.Allocation as allocation
use Rattle.gc_model.specs.Stores.{StoreView}
use Rattle.gc_store.specs.declared.grow.GrowFault.TheVariants as fault
use Rattle.gc_store.specs.Expansion.{GrowsStore}
use Rattle.gc_store.specs.Places.{MayGetPages}
use Rattle.gc_store.specs.Stores.{IsSameStore}
use Rattle.gc_commands.specs.declared.command.Command.TheVariants as command
use Rattle.gc_commands.specs.declared.reply.Reply.TheVariants as reply
use Rattle.gc_commands.specs.declared.reply.Refusal.TheVariants as refusal
use Rattle.gc_script.specs.declared.runner.RunError.{RunError}
use Rattle.gc_script.specs.Slots.{RunnerView}
use Rattle.gc_script.specs.State.{State, HoldsState, with_heap}
use Rattle.gc_script.specs.Steps as steps
use Rattle.gc_script.specs.Policy.{policy_of}
use Rattle.gc_script.specs.Policy as policy
use Rattle.gc_script.specs.Run.{RunsOne}
use Rattle.gc_script.proofs.StandLemmas.{keeps_same, holds_kept}
use Rattle.gc_script.proofs.AskLemmas.{AsksBy, expands_asks}
use Rattle.gc_script.proofs.CountLemmas.{counts_done, counts_refused}

-- pages leave the pushes
grown_pushes : (limit : Option ℕ) (bytes : ℕ) (t : Table ℕ) {granted : Bool} {t' : Table ℕ} → Grows limit bytes t granted t' → t'.pushes ≡ t.pushes
grown_pushes limit bytes t (allocation.nothing none) = refl
grown_pushes limit bytes t (allocation.granted any may grants) = refl
grown_pushes limit bytes t (allocation.no_heap any refused) = refl
grown_pushes limit bytes t (allocation.refused any may refused) = refl

pub paged_pushes : (limit : Option ℕ) (bytes : ℕ) (t t' : Table ℕ) → MayGetPages limit bytes t t' → t'.pushes ≡ t.pushes
paged_pushes limit bytes t t' (inl is) = ap (λ (x : Table ℕ). x.pushes) is
paged_pushes limit bytes t t' (inr got) = ap (λ (x : Table ℕ). x.pushes) got.1.1

module _ (layouts : Layouts) (counter : Option ℕ) (limits limits' : Limits) (old new : StoreView ℕ) (runner : RunnerView) (s : State) (n : ℕ) (same : IsSameStore old new) (holds : HoldsState layouts old runner s) where
  -- the heap grew
  pub heap_grew : (done : Unit {0}) → GrowsStore layouts n (policy_of s limits) limits' (Ok done) new → RunsOne layouts counter limits limits' s (command.Grow n) (Ok reply.Done) new runner
  heap_grew done grew =
      let after : State = with_heap grew.after.table grew.after.account s in
      record {
        after = after;
        step = steps.grown grew.after.table grew.after.account grew.grows refl refl;
        follows = policy.grown refl grew.expands (record { table = refl; account = refl; limits_are = grew.limits });
        counts = counts_done n limits limits' reply.Done after refl
            (subst (λ (l : Limits). AsksBy n true limits l grew.after.table) (sym grew.limits) (expands_asks layouts n (policy_of s limits) grew.expands));
        holds = holds_kept layouts old new runner runner s grew.after.table grew.after.account same (keeps_same s.table.pushes grew.after.table.pushes (grown_pushes limits.limit n s.table grew.grows)) (λ d. refl) refl holds grew.holds;
      }

  -- it was refused to
  pub growth_refused : GrowsStore layouts n (policy_of s limits) limits' (Err fault.GcHeapGrowthFailed) new → RunsOne layouts counter limits limits' s (command.Grow n) (Ok (reply.Refused refusal.GcHeapGrowthFailed)) new runner
  growth_refused grew =
      let after : State = with_heap grew.after.table grew.after.account s in
      record {
        after = after;
        step = steps.refused grew.after.table grew.after.account grew.grows refl refl;
        follows = policy.refused (λ is. cc is) grew.expands (record { table = refl; account = refl; limits_are = grew.limits });
        counts = counts_refused n limits limits' (reply.Refused refusal.GcHeapGrowthFailed) after (inr refl)
            (subst (λ (l : Limits). AsksBy n false limits l grew.after.table) (sym grew.limits) (expands_asks layouts n (policy_of s limits) grew.expands));
        holds = holds_kept layouts old new runner runner s grew.after.table grew.after.account same (keeps_same s.table.pushes grew.after.table.pushes (grown_pushes limits.limit n s.table grew.grows)) (λ d. refl) refl holds grew.holds;
      }

  -- memory was wanting
  pub growth_wanting : (e : RunError) → GrowsStore layouts n (policy_of s limits) limits' (Err fault.Memory) new → RunsOne layouts counter limits limits' s (command.Grow n) (Err e) new runner
  growth_wanting e wants = record {
    wants = record {
      after = wants.after;
      came = inr wants.expanded;
      pages = wants.pages;
      holds = holds_kept layouts old new runner runner s wants.after.table wants.after.account same (keeps_same s.table.pushes wants.after.table.pushes (paged_pushes limits.limit n s.table wants.after.table wants.pages)) (λ d. refl) refl holds wants.holds;
      limits_are = wants.limits;
    };
  }
