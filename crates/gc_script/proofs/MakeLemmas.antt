-- What is made and put into a register.
use Rattle.std.proofs.Common.{◌≡◌, ◌≢◌, ℕ, ◌%◌, ◌^◌, [], length, Some, None, refl, subst}
use Rattle.std.specs.Prelude.{Ok, Err}
use Rattle.gc_types.specs.declared.kind.Layouts.{Layouts}
use Rattle.gc_owner.specs.declared.entry.GcClass.TheVariants as class
use Rattle.gc_model.specs.Values.{small}
use Rattle.gc_model.specs.Table.{push}
use Rattle.gc_model.specs.Live.{roots_full}
use Rattle.gc_model.specs.Stores.{StoreView}
use Rattle.gc_values.specs.declared.root.GcRootIndex.{GcRootIndex}
use Rattle.gc_values.specs.declared.root.RawValue.TheVariants as raw
use Rattle.gc_values.specs.declared.root.RootFault.TheVariants as fault
use Rattle.gc_model.specs.Accounts.{HoldsAccount}
use Rattle.gc_store.specs.Handles.{PushesRoot}
use Rattle.gc_store.specs.Stores.{IsSameStore}
use Rattle.gc_commands.specs.declared.command.Command.TheVariants.{I31}
use Rattle.gc_commands.specs.declared.reply.Reply.TheVariants as reply
use Rattle.gc_commands.specs.declared.reply.Refusal.TheVariants as refusal
use Rattle.gc_script.specs.Slots.{register_at, RunnerView}
use Rattle.gc_script.specs.State.{State, reference, HoldsState, with_table, set_register}
use Rattle.gc_script.specs.Steps.{tests, first_failing}
use Rattle.gc_script.specs.Shapes.{shape}
use Rattle.gc_script.specs.Run.{GoesOn}
use Rattle.gc_script.proofs.StandLemmas.{holds_same}
use Rattle.gc_script.proofs.TestLemmas.{passes, stops, answers_by}
use Rattle.gc_script.proofs.SetLemmas.{holds_pushed}

-- a 31-bit number was pushed and put into a register
pub small_made : (layouts : Layouts) (old new : StoreView ℕ) (runner runner' : RunnerView) (s : State) (d n value : ℕ) (handle : GcRootIndex) → IsSameStore old new → HoldsState layouts old runner s → value ≡ n % 2 ^ 31 → PushesRoot layouts s.table s.account (small value) (Ok handle) new → register_at runner'.registers d ≡ Some (raw.Ref class.Any (Some handle)) → ((k : ℕ) → k ≢ d → register_at runner'.registers k ≡ register_at runner.registers k) → runner'.rest ≡ runner.rest → GoesOn layouts s (I31 d n) (Ok reply.Done) new runner'
small_made layouts old new runner runner' s d n value handle same holds is pushes set others marks =
    let after : State = set_register d (reference class.Any (Some (length s.table.pushes))) (with_table (push (small (n % 2 ^ 31)) s.table) s) in
    let table : HoldsAccount layouts new (push (small (n % 2 ^ 31)) s.table) s.account = subst (λ (v : ℕ). HoldsAccount layouts new (push (small v) s.table) s.account) is pushes.1.1 in
    record {
      after = after;
      answers = answers_by layouts None s (shape (I31 d n)) (first_failing (tests layouts s (I31 d n))) None reply.Done after
          (passes (roots_full s.table) refusal.RootsFull [] pushes.0) (refl, refl);
      account = refl;
      holds = holds_pushed layouts old new runner runner' s (push (small (n % 2 ^ 31)) s.table) s.account d class.Any handle same refl holds table pushes.1.0 set others marks;
    }

-- no further root may be made for it
pub small_refused : (layouts : Layouts) (old new : StoreView ℕ) (runner runner' : RunnerView) (s : State) (d n value : ℕ) → IsSameStore old new → HoldsState layouts old runner s → PushesRoot layouts s.table s.account (small value) (Err fault.RootsFull) new → ((k : ℕ) → register_at runner'.registers k ≡ register_at runner.registers k) → runner'.rest ≡ runner.rest → GoesOn layouts s (I31 d n) (Ok (reply.Refused refusal.RootsFull)) new runner'
small_refused layouts old new runner runner' s d n value same holds pushes slots_are marks = record {
  after = s;
  answers = answers_by layouts None s (shape (I31 d n)) (first_failing (tests layouts s (I31 d n))) (Some refusal.RootsFull) (reply.Refused refusal.RootsFull) s
      (stops (roots_full s.table) refusal.RootsFull [] pushes.0) (refl, refl);
  account = refl;
  holds = holds_same layouts old new runner runner' s same slots_are marks holds pushes.1;
}
