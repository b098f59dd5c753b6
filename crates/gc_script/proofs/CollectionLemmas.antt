-- What a command that collects answers and leaves: the heap is collected where it is made.
use Rattle.std.proofs.Common.{inl, inr, ◌≡◌, ℕ, [], Option, Bool, true, false, sym, ◌∙◌, refl, subst}
use Rattle.std.specs.Prelude.{Ok}
use Rattle.gc_types.specs.declared.kind.Layouts.{Layouts}
use Rattle.gc_model.specs.Table.{Table}
use Rattle.gc_model.specs.Allocation.{Limits}
use Rattle.gc_model.specs.Stores.{StoreView}
use Rattle.gc_model.specs.Accounts.{Account, HoldsAccount}
use Rattle.gc_store.specs.Expansion.{CollectsStore, MayCollectTable}
use Rattle.gc_store.specs.Stores.{IsSameStore}
use Rattle.gc_commands.specs.declared.reply.Reply.{Reply}
use Rattle.gc_commands.specs.declared.reply.Reply.TheVariants as reply
use Rattle.gc_script.specs.Slots.{RunnerView}
use Rattle.gc_script.specs.State.{State, HoldsState, with_account}
use Rattle.gc_script.specs.Shapes.{ToldCount, of_objects, of_increments, collecting}
use Rattle.gc_script.specs.Steps.{Tells}
use Rattle.gc_script.specs.Policy.{policy_of}
use Rattle.gc_script.specs.Run.{RunsOn, SaysRefused}
use Rattle.gc_script.proofs.StandLemmas.{holds_kept}
use Rattle.gc_script.proofs.CountLemmas.{says_other, counts_nothing}

-- what a collection tells is no refusal of pages
pub tells_mild : (layouts : Layouts) (s : State) (told : ToldCount) (answer : Reply) → Tells layouts s told answer → ¬ SaysRefused answer
tells_mild layouts s of_objects answer tells = says_other answer (reply.Held tells.objects tells.hosts) tells.shows refl
tells_mild layouts s of_increments answer tells = says_other answer (reply.Increments tells.increments) tells.shows refl

module _ (layouts : Layouts) (counter : Option ℕ) (limits : Limits) (old new : StoreView ℕ) (runner : RunnerView) (s : State) (told : ToldCount) (answer : Reply) (same : IsSameStore old new) (holds : HoldsState layouts old runner s) (tells : Tells layouts s told answer) where
  -- the account is another one
  gone_to : (a : Account) → HoldsAccount layouts new s.table a → MayCollectTable layouts (policy_of s limits) (policy_of (with_account a s) limits) → RunsOn layouts counter limits limits s (collecting told) [] (Ok answer) new runner
  gone_to a table follows = record {
    after = with_account a s;
    answers = (tells, (a, refl));
    follows = follows;
    counts = counts_nothing 0 limits limits answer (with_account a s) (tells_mild layouts s told answer tells) refl;
    holds = holds_kept layouts old new runner runner s s.table a same (λ i p e. e) (λ d. refl) refl holds table;
  }

  -- it was told, and a collection ran if there is a heap
  pub collected : (old.heap.attached ≡ true → CollectsStore layouts (policy_of s limits) new) → (old.heap.attached ≡ false → new ≡ old) → RunsOn layouts counter limits limits s (collecting told) [] (Ok answer) new runner
  collected collects unmade =
      elim old.heap.attached as (λ (b : Bool). old.heap.attached ≡ b → RunsOn layouts counter limits limits s (collecting told) [] (Ok answer) new runner) [
        | true ↦ λ is.
            let did = collects is in
            gone_to did.after.account (subst (λ (t : Table ℕ). HoldsAccount layouts new t did.after.account) did.collects.table did.holds)
            (inl (
              sym holds.table.holds.memory.made ∙ is,
              record { held = did.collects.held; places = did.collects.places; last = did.collects.last; tries = did.collects.tries; upper = did.collects.upper; table = refl; limits = refl },
            ))
        | false ↦ λ is.
            gone_to s.account (subst (λ (store : StoreView ℕ). HoldsAccount layouts store s.table s.account) (sym (unmade is)) holds.table)
            (inr (sym holds.table.holds.memory.made ∙ is, refl))
      ] refl
