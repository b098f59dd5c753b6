-- Frames that are opened and closed, and the slots and globals that commands set and read.
use Rattle.std.proofs.Common.{inl, inr, ◌≡◌, ℕ, ◌<◌, [], Option, Some, None, true, false, length, ap, refl, arith}
use Rattle.std.specs.Prelude.{Result, Ok, ◌==◌}
use Rattle.std.proofs.lemmas.Bool.{eq-eqb, ne_eqb}
use Rattle.std.proofs.lemmas.Option.{slice_get_cases}
use Rattle.gc_types.specs.declared.kind.Layouts.{Layouts}
use Rattle.gc_model.specs.Table.{Table, Slot, global_count}
use Rattle.gc_model.specs.Frames.{push_frame, pop_frame, slot_at}
use Rattle.gc_model.specs.Globals.{global_at}
use Rattle.gc_model.specs.Live.{roots_full}
use Rattle.gc_model.specs.Stores.{StoreView}
use Rattle.gc_model.specs.Holds.{HoldsTable}
use Rattle.gc_commands.specs.declared.command.Command.TheVariants as command
use Rattle.gc_commands.specs.declared.reply.Reply.{Reply}
use Rattle.gc_commands.specs.declared.reply.Reply.TheVariants as reply
use Rattle.gc_commands.specs.declared.reply.Refusal.TheVariants as refusal
use Rattle.gc_model.specs.Accounts.{HoldsAccount}
use Rattle.gc_store.specs.Slots.{PopsFrame}
use Rattle.gc_store.specs.Stores.{IsSameStore}
use Rattle.gc_script.specs.declared.runner.RunError.{RunError}
use Rattle.gc_script.specs.Slots.{RunnerView}
use Rattle.gc_script.specs.State.{State, HoldsState, with_table}
use Rattle.gc_script.specs.Given.{given_register}
use Rattle.gc_script.specs.Shapes.{shape, slot_to, set_to}
use Rattle.gc_script.specs.Steps.{first_failing, tests, setting_tests, getting_tests}
use Rattle.gc_script.specs.Run.{GoesBy, GoesOn}
use Rattle.gc_script.proofs.StandLemmas.{holds_kept, holds_same}
use Rattle.gc_script.proofs.TestLemmas.{passes, stops, answers_by, refuses, goes_by}
use Rattle.gc_script.proofs.SlotGoes.{SetsOnly}

module _ (layouts : Layouts) (store new : StoreView ℕ) (runner : RunnerView) (s : State) (same : IsSameStore store new) (holds : HoldsState layouts store runner s) where
  -- a frame was opened
  pub was_pushed : (k : ℕ) → HoldsAccount layouts new (push_frame k s.table) s.account → GoesOn layouts s (command.Push k) (Ok reply.Done) new runner
  was_pushed k table = record {
    after = with_table (push_frame k s.table) s;
    answers = (refl, refl);
    account = refl;
    holds = holds_kept layouts store new runner runner s (push_frame k s.table) s.account same (λ i p e. e) (λ d. refl) refl holds table;
  }

  -- the newest was closed, or none was open
  pub was_popped : PopsFrame layouts s.table s.account true new → GoesOn layouts s command.Pop (Ok reply.Done) new runner
  was_popped told = record {
    after = with_table (pop_frame s.table) s;
    answers = answers_by layouts None s (shape command.Pop) (first_failing (tests layouts s command.Pop)) None reply.Done _
        (passes (length s.table.frames == 0) refusal.NoSuchName [] (some_not_zero (length s.table.frames) told.0)) (refl, refl);
    account = refl;
    holds = holds_kept layouts store new runner runner s (pop_frame s.table) s.account same (λ i p e. e) (λ d. refl) refl holds told.1;
  }
    where
      some_not_zero : (n : ℕ) → 0 < n → (n == 0) ≡ false
      some_not_zero n some = ne_eqb n 0 (λ e. absurd (omega (arith, e, some)))

  pub none_popped : PopsFrame layouts s.table s.account false new → GoesOn layouts s command.Pop (Ok (reply.Refused refusal.NoSuchName)) new runner
  none_popped told =
      refuses layouts new runner s command.Pop refusal.NoSuchName (holds_same layouts store new runner runner s same (λ d. refl) refl holds told.1)
      (stops (length s.table.frames == 0) refusal.NoSuchName [] (eq-eqb (length s.table.frames) 0 (ap length told.0)))

-- slots and globals are set alone
pub slot_only : (k : ℕ) → SetsOnly (slot_to k)
slot_only k = record { pushes = λ slot t. refl; over_is = λ slot s. refl }

pub global_only : (g : ℕ) → SetsOnly (set_to g)
global_only g = record { pushes = λ slot t. refl; over_is = λ slot s. refl }

-- the globals below the count are there
pub global_there : (layouts : Layouts) (s : StoreView ℕ) (t : Table ℕ) → HoldsTable layouts s t → (g : ℕ) → g < global_count → (slot : Slot) × (global_at t g ≡ Some slot)
global_there layouts s t holds g below =
    elim ((slice_get_cases t.globals g).1) [
      | inl found ↦ (found.0, found.2)
      | inr past ↦ absurd (omega (arith, past.0, below, holds.1.globals.count))
    ]

module _ (layouts : Layouts) (s : State) (k : ℕ) where
  -- the commands on slots, by what is there
  module _ (r : ℕ) (there : Slot) (result : Result Reply RunError) (new : StoreView ℕ) (runner : RunnerView) where
    pub store_goes : slot_at s.table k ≡ Some there → GoesBy layouts s (shape (command.Store k r)) (setting_tests (Some there) (given_register s r)) result new runner → GoesOn layouts s (command.Store k r) result new runner
    store_goes is goes = goes_by layouts s (shape (command.Store k r)) (setting_tests (Some there) (given_register s r)) (tests layouts s (command.Store k r)) result new runner
        (ap (λ (o : Option Slot). first_failing (setting_tests o (given_register s r))) is) goes

    pub set_global_goes : global_at s.table k ≡ Some there → GoesBy layouts s (shape (command.SetGlobal k r)) (setting_tests (Some there) (given_register s r)) result new runner → GoesOn layouts s (command.SetGlobal k r) result new runner
    set_global_goes is goes = goes_by layouts s (shape (command.SetGlobal k r)) (setting_tests (Some there) (given_register s r)) (tests layouts s (command.SetGlobal k r)) result new runner
        (ap (λ (o : Option Slot). first_failing (setting_tests o (given_register s r))) is) goes

    pub load_goes : slot_at s.table k ≡ Some there → GoesBy layouts s (shape (command.Load k r)) (getting_tests (Some there) (roots_full s.table)) result new runner → GoesOn layouts s (command.Load k r) result new runner
    load_goes is goes = goes_by layouts s (shape (command.Load k r)) (getting_tests (Some there) (roots_full s.table)) (tests layouts s (command.Load k r)) result new runner
        (ap (λ (o : Option Slot). first_failing (getting_tests o (roots_full s.table))) is) goes

    pub get_global_goes : global_at s.table k ≡ Some there → GoesBy layouts s (shape (command.GetGlobal k r)) (getting_tests (Some there) (roots_full s.table)) result new runner → GoesOn layouts s (command.GetGlobal k r) result new runner
    get_global_goes is goes = goes_by layouts s (shape (command.GetGlobal k r)) (getting_tests (Some there) (roots_full s.table)) (tests layouts s (command.GetGlobal k r)) result new runner
        (ap (λ (o : Option Slot). first_failing (getting_tests o (roots_full s.table))) is) goes

  module _ (store : StoreView ℕ) (runner : RunnerView) (r : ℕ) (holds : HoldsState layouts store runner s) (none : slot_at s.table k ≡ None) where
    -- no such slot is there
    pub no_slot_set : GoesOn layouts s (command.Store k r) (Ok (reply.Refused refusal.NoSuchName)) store runner
    no_slot_set = refuses layouts store runner s (command.Store k r) refusal.NoSuchName holds (ap (λ (o : Option Slot). first_failing (setting_tests o (given_register s r))) none)

    pub no_slot_read : GoesOn layouts s (command.Load k r) (Ok (reply.Refused refusal.NoSuchName)) store runner
    no_slot_read = refuses layouts store runner s (command.Load k r) refusal.NoSuchName holds (ap (λ (o : Option Slot). first_failing (getting_tests o (roots_full s.table))) none)
