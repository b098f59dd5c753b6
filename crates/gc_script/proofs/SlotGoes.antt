-- Slots, of frames and globals, that are set to what a register gives, and read into one.
use Rattle.std.proofs.Common.{◌≡◌, ℕ, ◌&&◌, List, [], Option, Some, None, Bool, true, false, not, sym, ap, ◌∙◌, refl}
use Rattle.std.specs.Prelude.{Ok, Err, unwrap_or}
use Rattle.std.specs.List.{slice_get}
use Rattle.std.proofs.lemmas.Option.{none-some}
use Rattle.gc_types.specs.declared.kind.Layouts.{Layouts}
use Rattle.gc_owner.specs.declared.entry.GcClass.{GcClass}
use Rattle.gc_model.specs.Values.{Reference, Value}
use Rattle.gc_model.specs.Values as values
use Rattle.gc_model.specs.Table.{Table, Slot, Push, null_slot}
use Rattle.gc_model.specs.Live.{roots_full}
use Rattle.gc_model.specs.Reads.{makes_root, after_read}
use Rattle.gc_model.specs.Stores.{StoreView}
use Rattle.gc_model.specs.Holds.{HoldsTable}
use Rattle.gc_commands.specs.declared.reply.Reply.{Reply}
use Rattle.gc_commands.specs.declared.reply.Reply.TheVariants as reply
use Rattle.gc_commands.specs.declared.reply.Refusal.{Refusal}
use Rattle.gc_commands.specs.declared.reply.Refusal.TheVariants as refusal
use Rattle.gc_values.specs.declared.root.GcRootIndex.{GcRootIndex}
use Rattle.gc_values.specs.declared.root.RawValue.{RawValue}
use Rattle.gc_values.specs.declared.root.RawValue.TheVariants as raw
use Rattle.gc_store.specs.declared.globals.SlotFault.{SlotFault}
use Rattle.gc_store.specs.declared.globals.SlotFault.TheVariants as fault
use Rattle.gc_model.specs.Accounts.{Account, HoldsAccount}
use Rattle.gc_store.specs.Slots.{HandleStands, SetsSlot, slot_value}
use Rattle.gc_store.specs.Stores.{IsSameStore}
use Rattle.gc_store.specs.Values.{RawStands, IsReadAs}
use Rattle.gc_store.proofs.HandleWords.{named_of_store}
use Rattle.gc_script.specs.Slots.{RunnerView, register_at}
use Rattle.gc_script.specs.State.{State, HoldsState, with_table, visible, over}
use Rattle.gc_script.specs.Given.{Given, is, given_register, given_value, is_reference}
use Rattle.gc_script.specs.Shapes.{CommandShape, plain, reads, slot_of}
use Rattle.gc_script.specs.Steps.{first_failing, setting_tests, getting_tests}
use Rattle.gc_script.specs.Run.{GoesBy}
use Rattle.gc_script.specs.Named.{register_with}
use Rattle.gc_script.specs.Values.{raw_slot, IsFoundLive, ShowsRead, registered, reference_tests, FoundReference}
use Rattle.gc_script.proofs.ReadLemmas.{read_goes}
use Rattle.gc_script.proofs.StandLemmas.{holds_kept, holds_same, holds_table}
use Rattle.gc_script.proofs.TestLemmas.{passes, stops, answers_by, refuses_by}
use Rattle.gc_script.proofs.ValueLemmas.{same_root, slot_stands}
use Rattle.gc_script.proofs.ValueReads.{both_true, not_both}

-- what stands for a value that goes into no slot is no reference
no_reference : (s : StoreView ℕ) (t : Table ℕ) (r : RawValue) (v : Value) → raw_slot r ≡ None → RawStands s t r v → is_reference v ≡ false
no_reference s t (raw.I32 n) v none stands = ap is_reference stands
no_reference s t (raw.I64 n) v none stands = ap is_reference stands
no_reference s t (raw.F32 n) v none stands = ap is_reference stands
no_reference s t (raw.F64 n) v none stands = ap is_reference stands
no_reference s t (raw.V128 n) v none stands = ap is_reference stands
no_reference s t (raw.Func f) v none stands = ap is_reference stands
no_reference s t (raw.Cont cont) v none stands = ap is_reference stands
no_reference s t (raw.Ref c h) v none stands = absurd (none-some (c, h) (sym none))

-- a reference, by what stands for it
reference_stands : (s : StoreView ℕ) (t : Table ℕ) (c : GcClass) (h : Option GcRootIndex) (v : Value) → RawStands s t (raw.Ref c h) v → (r : Reference) × ((v ≡ values.reference c r) × HandleStands s t h r)
reference_stands s t c None v stands = (values.null, (stands, refl))
reference_stands s t c (Some h) v stands = (stands.root, (stands.is, stands.named))

module _ (store : StoreView ℕ) (s : State) (r : ℕ) (value : RawValue) (found : IsFoundLive store s.table value (given_register s r) true) where
  -- the register gives a reference
  pub gives_reference : (c : GcClass) (h : Option GcRootIndex) → raw_slot value ≡ Some (c, h) → FoundReference store s r c h
  gives_reference c h slot_is =
      let it = reference_stands store s.table c h found.0 (slot_stands store s.table value found.0 c h slot_is found.1.1) in
      record { root = it.0; is_given = found.1.0 ∙ ap is it.1.0; stands = it.1.1 }

  -- or a number
  pub gives_number : raw_slot value ≡ None → first_failing (reference_tests (given_register s r)) ≡ Some refusal.WrongKind
  gives_number none =
      ap (λ (g : Given). first_failing (reference_tests g)) found.1.0
      ∙ stops (not (is_reference found.0)) refusal.WrongKind [] (ap not (no_reference store s.table value found.0 none found.1.1))

-- what a handle stands for is one
handle_one : (layouts : Layouts) (s : StoreView ℕ) (t : Table ℕ) → HoldsTable layouts s t → (h : Option GcRootIndex) (r q : Reference) → HandleStands s t h r → HandleStands s t h q → r ≡ q
handle_one layouts s t holds None r q a b = a ∙ sym b
handle_one layouts s t holds (Some h) r q a b = same_root layouts s t holds h r q a b

-- the store refuses no handle that stands for something
pub never_refused : (layouts : Layouts) (s new : StoreView ℕ) (t : Table ℕ) (a : Account) (handle : Option GcRootIndex) (set : Reference → Table ℕ) (r : Reference) (f : SlotFault) → HandleStands s t handle r → SetsSlot layouts s t a handle set (Err f) new → ⊥
never_refused layouts s new t a handle set r fault.NoSlot stands told = told
never_refused layouts s new t a None set r fault.WrongStore stands told = told
never_refused layouts s new t a (Some h) set r fault.WrongStore stands told = cc (sym told ∙ named_of_store s t h r stands)
never_refused layouts s new t a None set r fault.Unrooted stands told = told
never_refused layouts s new t a (Some h) set r fault.Unrooted stands told = told.1 r stands
never_refused layouts s new t a handle set r fault.RootsFull stands told = told
never_refused layouts s new t a handle set r fault.Memory stands told = told

-- what a slot is set to leaves the pushes and what is hidden alone
pub record SetsOnly (set : Slot → Table ℕ → Table ℕ) : Type 0 where
  pub pushes : (slot : Slot) (t : Table ℕ) → (set slot t).pushes ≡ t.pushes
  pub over_is : (slot : Slot) (s : State) → with_table (set slot s.table) s ≡ over s (with_table (set slot (visible s).table) (visible s))

module _ (layouts : Layouts) (store : StoreView ℕ) (runner : RunnerView) (s : State) (holds : HoldsState layouts store runner s) (there : Slot) where
  module _ (r : ℕ) (set : Slot → Table ℕ → Table ℕ) (only : SetsOnly set) where
    abbrev pub setting : CommandShape
    setting = plain (λ (x : State). (reply.Done, with_table (set (slot_of (given_value (given_register x r))) x.table) x))

    abbrev set_tests : List (Bool × Refusal)
    set_tests = setting_tests (Some there) (given_register s r)

    -- the register gives no reference
    pub not_set : (why : Refusal) → first_failing (reference_tests (given_register s r)) ≡ Some why → GoesBy layouts s setting set_tests (Ok (reply.Refused why)) store runner
    not_set why e = refuses_by layouts store runner s setting set_tests why holds e

    -- the slot was set to what it gives
    pub was_set : (new : StoreView ℕ) (c : GcClass) (handle : Option GcRootIndex) → FoundReference store s r c handle → IsSameStore store new
        → SetsSlot layouts store s.table s.account handle (λ (x : Reference). set (record { class = c; reference = x }) s.table) (Ok tt) new → GoesBy layouts s setting set_tests (Ok reply.Done) new runner
    was_set new c handle found same told =
        let root : found.root ≡ told.0 = handle_one layouts store s.table (holds_table holds.table) handle found.root told.0 found.stands told.1.0 in
        let slot : Slot = record { class = c; reference = told.0 } in
        let given_is : given_register s r ≡ is (values.reference c told.0) = found.is_given ∙ ap (λ (x : Reference). is (values.reference c x)) root in
        record {
          after = with_table (set slot s.table) s;
          answers = answers_by layouts None s setting (first_failing set_tests) None reply.Done (with_table (set slot s.table) s)
              (ap (λ (g : Given). first_failing (setting_tests (Some there) g)) given_is)
              (refl, only.over_is slot s ∙ ap (λ (g : Given). over s (with_table (set (slot_of (given_value g)) (visible s).table) (visible s))) (sym given_is));
          account = refl;
          holds = holds_kept layouts store new runner runner s (set slot s.table) s.account same (λ i p e. ap (λ (ps : List Push). slice_get ps i) (only.pushes slot s.table) ∙ e) (λ d. refl) refl holds told.1.1;
        }

  module _ (d : ℕ) (slot_in : State → Option Slot) (slot_is : slot_in (visible s) ≡ Some there) (new : StoreView ℕ) (runner' : RunnerView) (same : IsSameStore store new) (rest_is : runner'.rest ≡ runner.rest) where
    abbrev pub getting : CommandShape
    getting = plain (λ (x : State). reads (slot_value (unwrap_or (slot_in x) null_slot)) (Some d) x)

    abbrev get_tests : List (Bool × Refusal)
    get_tests = getting_tests (Some there) (roots_full s.table)

    -- no further root may be made
    pub full_refused : ((k : ℕ) → register_at runner'.registers k ≡ register_at runner.registers k) → makes_root (slot_value there) ≡ true → roots_full s.table ≡ true → HoldsAccount layouts new s.table s.account → GoesBy layouts s getting get_tests (Ok (reply.Refused refusal.RootsFull)) new runner'
    full_refused slots_are makes is_full table = refuses_by layouts new runner' s getting get_tests refusal.RootsFull
        (holds_same layouts store new runner runner' s same slots_are rest_is holds table)
        (stops (makes_root (slot_value there) && roots_full s.table) refusal.RootsFull [] (both_true (makes_root (slot_value there)) (roots_full s.table) makes is_full))

    -- the slot was read
    pub slot_read : (value : RawValue) (answer : Reply) → ((k : ℕ) → register_at runner'.registers k ≡ register_with (Some d) (registered value) runner.registers k) → (makes_root (slot_value there) ≡ true → roots_full s.table ≡ false) → IsReadAs new s.table (slot_value there) value → HoldsAccount layouts new (after_read (slot_value there) s.table) s.account → ShowsRead layouts new value answer → GoesBy layouts s getting get_tests (Ok answer) new runner'
    slot_read value answer slots_are may is_read table shows =
        read_goes layouts store new runner runner' s same holds rest_is (λ (x : State). slot_value (unwrap_or (slot_in x) null_slot)) (Some d) (slot_value there)
        (ap (λ (o : Option Slot). slot_value (unwrap_or o null_slot)) slot_is) get_tests value answer
        (passes (makes_root (slot_value there) && roots_full s.table) refusal.RootsFull [] (not_both (makes_root (slot_value there)) (roots_full s.table) may))
        slots_are is_read table shows
