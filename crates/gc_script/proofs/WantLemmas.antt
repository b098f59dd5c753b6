-- When a command wants memory: what its tests leave, and what it takes.
use Rattle.std.proofs.Common.{◌≡◌, ◌⊎◌, ℕ, Bool, ◌&&◌, true, false, [], ◌∷◌, Option, Some, None, sym, ap, ◌∙◌, refl, subst}
use Rattle.std.specs.Prelude.{Err, OnErr, Result, is_some, unwrap_or}
use Rattle.std.proofs.lemmas.Option.{none-some, slice_get_past}
use Rattle.gc_types.specs.declared.kind.Layouts.{Layouts}
use Rattle.gc_model.specs.Allocation.{too_large}
use Rattle.gc_model.specs.Sizes.{object_size}
use Rattle.gc_model.specs.Values.{Value, Object}
use Rattle.gc_model.specs.Table.{Table, Slot, null_slot}
use Rattle.gc_model.specs.Frames.{slot_at}
use Rattle.gc_model.specs.Globals.{global_at}
use Rattle.gc_model.specs.Live.{roots_full}
use Rattle.gc_model.specs.Reads.{makes_root}
use Rattle.gc_model.specs.Stores.{StoreView}
use Rattle.gc_model.specs.Accounts.{Account}
use Rattle.gc_values.specs.declared.root.RawValue.{RawValue}
use Rattle.gc_values.specs.declared.root.RootFault.{RootFault}
use Rattle.gc_values.specs.declared.root.RootFault.TheVariants as fault
use Rattle.gc_store.specs.declared.globals.SlotFault.{SlotFault}
use Rattle.gc_store.specs.declared.globals.SlotFault.TheVariants as slot_fault
use Rattle.gc_store.specs.Slots.{ReadsSlot, slot_value}
use Rattle.gc_store.specs.Thrown.{AnswersPending}
use Rattle.gc_store.specs.Values.{ReadsValue}
use Rattle.gc_commands.specs.declared.command.Command.{Command}
use Rattle.gc_commands.specs.declared.command.Command.TheVariants as command
use Rattle.gc_commands.specs.declared.reply.Reply.{Reply}
use Rattle.gc_commands.specs.declared.reply.Refusal.{Refusal}
use Rattle.gc_commands.specs.declared.reply.Refusal.TheVariants as refusal
use Rattle.gc_script.specs.declared.runner.RunError.{RunError}
use Rattle.gc_script.specs.Slots.{RunnerView, option_join}
use Rattle.gc_script.specs.State.{State, Held, number, reference, RegisterStands, HoldsState}
use Rattle.gc_script.specs.Steps.{tests, first_failing, heap_tests, getting_tests}
use Rattle.gc_script.specs.Named.{LacksRegister}
use Rattle.gc_script.specs.Wants.{IsUnrefused, IsNeverSet, ReadTakes, TakesIn, MayWant}
use Rattle.gc_script.proofs.ResultLemmas.{on_err}

-- where nothing but tests of room is left, nothing else refuses
pub full_only : (b : Bool) → IsUnrefused (first_failing ((b, refusal.RootsFull) ∷ []))
full_only true = refl
full_only false = tt

pub room_only : (a b : Bool) → IsUnrefused (first_failing ((a, refusal.TooLarge) ∷ (b, refusal.RootsFull) ∷ []))
room_only true b = refl
room_only false b = full_only b

-- the same, of tests that find the same
pub unrefused_by : (found known : Option Refusal) → found ≡ known → IsUnrefused known → IsUnrefused found
unrefused_by found known e unrefused = subst IsUnrefused (sym e) unrefused

-- a register for which the runner has no room was never set
none_held : (store : StoreView ℕ) (t : Table ℕ) (held : Option Held) → RegisterStands store t None held → held ≡ None
none_held store t None stands = refl
none_held store t (Some (number v)) stands = absurd stands
none_held store t (Some (reference c None)) stands = absurd stands
none_held store t (Some (reference c (Some serial))) stands = absurd stands

pub never_set : (layouts : Layouts) (store : StoreView ℕ) (runner : RunnerView) (s : State) → HoldsState layouts store runner s → (into : Option ℕ) → LacksRegister into runner.registers → IsNeverSet s into
never_set layouts store runner s holds None lacks = lacks
never_set layouts store runner s holds (Some d) lacks =
    none_held store s.table (s.registers d)
    (subst (λ (o : Option RawValue). RegisterStands store s.table o (s.registers d)) (ap option_join (slice_get_past runner.registers d lacks)) (holds.registers d))

pub new_register : (layouts : Layouts) (store : StoreView ℕ) (runner view : RunnerView) (s : State) → view ≡ runner → HoldsState layouts store runner s → (into : Option ℕ) → LacksRegister into view.registers → IsNeverSet s into
new_register layouts store runner view s same holds into lacks = never_set layouts store runner s holds into (subst (λ (r : RunnerView). LacksRegister into r.registers) same lacks)

-- what is left to the tests of an allocation
pub room_may : (layouts : Layouts) (s : State) (c : Command) (o : Object ℕ) → TakesIn s c → first_failing (tests layouts s c) ≡ first_failing (heap_tests layouts s o) → MayWant layouts s c
room_may layouts s c o takes e = record {
  takes = takes;
  unrefused = unrefused_by (first_failing (tests layouts s c)) (first_failing (heap_tests layouts s o)) e (room_only (too_large layouts (object_size layouts s.table.types o)) (roots_full s.table));
}

-- a read that fails makes a root
pub fault_makes : (layouts : Layouts) (t : Table ℕ) (a : Account) (v : Value) (f : RootFault) (new : StoreView ℕ) → ReadsValue layouts t a v (Err f) new → makes_root v ≡ true
fault_makes layouts t a v fault.WrongStore new told = absurd told
fault_makes layouts t a v fault.Unrooted new told = absurd told
fault_makes layouts t a v fault.RootsFull new told = told.0
fault_makes layouts t a v fault.Memory new told = told.0

-- a command that is known may want memory as it does
pub may_as : (layouts : Layouts) (s : State) (c known : Command) → c ≡ known → MayWant layouts s known → MayWant layouts s c
may_as layouts s c known is may = subst (MayWant layouts s) (sym is) may

-- why a command that is known fails is why it fails as the command that was given
pub may_by : (layouts : Layouts) (store : StoreView ℕ) (runner : RunnerView) (r : Result Reply RunError) (c known : Command) → c ≡ known → OnErr r ((s : State) → HoldsState layouts store runner s → MayWant layouts s known)
    → OnErr r ((s : State) → HoldsState layouts store runner s → MayWant layouts s c)
may_by layouts store runner r c known is = on_err r (λ may s holds. may_as layouts s c known is (may s holds))

-- a slot that is there, and a read of it that fails
slot_unrefused : (slot : Option Slot) (there : Slot) (full : Bool) → slot ≡ Some there → IsUnrefused (first_failing (getting_tests slot full))
slot_unrefused slot there full is =
    unrefused_by (first_failing (getting_tests slot full)) (first_failing (getting_tests (Some there) full)) (ap (λ (o : Option Slot). first_failing (getting_tests o full)) is)
    (full_only (makes_root (slot_value there) && full))

pub slot_makes : (layouts : Layouts) (t : Table ℕ) (a : Account) (slot : Slot) (f : SlotFault) (new : StoreView ℕ) → ReadsSlot layouts t a slot (Err f) new → makes_root (slot_value slot) ≡ true
slot_makes layouts t a slot slot_fault.NoSlot new told = absurd told
slot_makes layouts t a slot slot_fault.WrongStore new told = absurd told
slot_makes layouts t a slot slot_fault.Unrooted new told = absurd told
slot_makes layouts t a slot slot_fault.RootsFull new told = told.0
slot_makes layouts t a slot slot_fault.Memory new told = told.0

module _ (layouts : Layouts) (s : State) (k d : ℕ) (there : Slot) (takes : ReadTakes s (slot_value there) (Some d)) where
  taken_as : (slot : Option Slot) → slot ≡ Some there → ReadTakes s (slot_value (unwrap_or slot null_slot)) (Some d)
  taken_as slot is = subst (λ (o : Option Slot). ReadTakes s (slot_value (unwrap_or o null_slot)) (Some d)) (sym is) takes

  pub load_may : slot_at s.table k ≡ Some there → MayWant layouts s (command.Load k d)
  load_may is = record { takes = taken_as (slot_at s.table k) is; unrefused = slot_unrefused (slot_at s.table k) there (roots_full s.table) is }

  pub get_global_may : global_at s.table k ≡ Some there → MayWant layouts s (command.GetGlobal k d)
  get_global_may is = record { takes = taken_as (global_at s.table k) is; unrefused = slot_unrefused (global_at s.table k) there (roots_full s.table) is }

-- taking the pending exception fails where one is pending
pub pending_fault : (layouts : Layouts) (t : Table ℕ) (a : Account) (f : RootFault) (new : StoreView ℕ) → AnswersPending layouts t a (Err f) new → ¬ (t.pending ≡ None)
pending_fault layouts t a fault.WrongStore new told = absurd told
pending_fault layouts t a fault.Unrooted new told = absurd told
pending_fault layouts t a fault.RootsFull new told = λ none. none-some told.root (sym none ∙ told.is_pending)
pending_fault layouts t a fault.Memory new told = told.0

pub take_may : (layouts : Layouts) (s : State) (d : ℕ) → (¬ (s.table.pending ≡ None)) ⊎ IsNeverSet s (Some d) → MayWant layouts s (command.Take d)
take_may layouts s d takes = record { takes = takes; unrefused = full_only (is_some s.table.pending && roots_full s.table) }

-- what commands may want whatever the state is: their tests are of room, or none
pub small_may : (layouts : Layouts) (s : State) (d n : ℕ) → MayWant layouts s (command.I31 d n)
small_may layouts s d n = record { takes = refl; unrefused = full_only (roots_full s.table) }

pub host_may : (layouts : Layouts) (s : State) (d n : ℕ) → MayWant layouts s (command.Host d n)
host_may layouts s d n = record { takes = refl; unrefused = full_only (roots_full s.table) }
