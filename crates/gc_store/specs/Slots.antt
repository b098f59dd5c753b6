-- What setting and reading a slot, of a frame or a global, and closing a frame answer and leave.
use Rattle.std.specs.Prelude.{◌≡◌, ◌<◌, ℕ, Bool, true, false, [], length, Option, Some, None, Result, Ok, Err}
use Rattle.gc_types.specs.declared.kind.Layouts.{Layouts}
use Rattle.gc_owner.specs.declared.entry.GcClass.{GcClass}
use Rattle.gc_model.specs.Values.{Reference, null, Value, reference}
use Rattle.gc_model.specs.Table.{Table, Slot}
use Rattle.gc_model.specs.Frames.{pop_frame}
use Rattle.gc_model.specs.Stores.{StoreView}
use Rattle.gc_model.specs.Holds.{Placing, IsWord}
use Rattle.gc_values.specs.declared.root.GcRootIndex.{GcRootIndex}
use Rattle.gc_values.specs.declared.root.RawValue.TheVariants as raw
use Rattle.gc_values.specs.declared.root.RootFault.{RootFault}
use Rattle.gc_values.specs.declared.root.RootFault.TheVariants as root_fault
use Rattle.gc_store.specs.declared.globals.SlotFault.{SlotFault}
use Rattle.gc_store.specs.declared.globals.SlotFault.TheVariants as slot_fault
use Rattle.gc_model.specs.Accounts.{Account, HoldsAccount}
use Rattle.gc_store.specs.Roots.{is_of_store, NamesReference, NamesNothing}
use Rattle.gc_store.specs.Values.{ReadsValue}

-- the fault of a root, told by a call on slots
abbrev pub told_of_slot : RootFault → SlotFault
told_of_slot root_fault.WrongStore = slot_fault.WrongStore
told_of_slot root_fault.Unrooted = slot_fault.Unrooted
told_of_slot root_fault.RootsFull = slot_fault.RootsFull
told_of_slot root_fault.Memory = slot_fault.Memory

-- the handle is live and names the reference, or there is no handle and it is null
abbrev pub HandleStands : {D : Type 0} → StoreView D → Table D → Option GcRootIndex → Reference → Type 0
HandleStands s t None r = r ≡ null
HandleStands s t (Some handle) r = NamesReference s t handle r

-- the handle is another store's
abbrev pub IsForeign : {D : Type 0} → StoreView D → Option GcRootIndex → Type 0
IsForeign s None = ⊥
IsForeign s (Some handle) = is_of_store s handle ≡ false

-- the handle is the store's, and its root is gone or never was
abbrev pub IsGone : {D : Type 0} → StoreView D → Table D → Option GcRootIndex → Type 0
IsGone s t None = ⊥
IsGone s t (Some handle) = (is_of_store s handle ≡ true) × NamesNothing s t handle

-- the word of what a handle names, 0 for none, or why it has none
abbrev pub FindsWord : {D : Type 0} → StoreView D → Table D → Placing → Option GcRootIndex → Result ℕ RootFault → Type 0
FindsWord s t place handle (Ok word) = (r : Reference) × (HandleStands s t handle r × IsWord place r word)
FindsWord s t place handle (Err root_fault.WrongStore) = IsForeign s handle
FindsWord s t place handle (Err root_fault.Unrooted) = IsGone s t handle
FindsWord s t place handle (Err root_fault.RootsFull) = ⊥
FindsWord s t place handle (Err root_fault.Memory) = ⊥

-- What setting a slot that is there answers and leaves, by the table with the slot set.
abbrev pub SetsSlot : {D : Type 0} → Layouts → StoreView D → Table D → Account → Option GcRootIndex → (Reference → Table D)
    → Result (Unit {0}) SlotFault → StoreView D → Type 0
SetsSlot layouts old t a handle set (Ok done) new = (r : Reference) × (HandleStands old t handle r × HoldsAccount layouts new (set r) a)
SetsSlot layouts old t a handle set (Err slot_fault.NoSlot) new = ⊥
SetsSlot layouts old t a handle set (Err slot_fault.WrongStore) new = IsForeign old handle
SetsSlot layouts old t a handle set (Err slot_fault.Unrooted) new = IsGone old t handle
SetsSlot layouts old t a handle set (Err slot_fault.RootsFull) new = ⊥
SetsSlot layouts old t a handle set (Err slot_fault.Memory) new = ⊥

-- What closing the newest frame answers and leaves: true, or false where no frame is open.
abbrev pub PopsFrame : {D : Type 0} → Layouts → Table D → Account → Bool → StoreView D → Type 0
PopsFrame layouts t a true new = (0 < length t.frames) × HoldsAccount layouts new (pop_frame t) a
PopsFrame layouts t a false new = (t.frames ≡ []) × HoldsAccount layouts new t a

-- what a slot holds, as a value that is read
abbrev pub slot_value : Slot → Value
slot_value slot = reference slot.class slot.reference

-- What reading a slot that is there answers and leaves: the same as reading a value.
abbrev pub ReadsSlot : {D : Type 0} → Layouts → Table D → Account → Slot → Result (GcClass × Option GcRootIndex) SlotFault → StoreView D → Type 0
ReadsSlot layouts t a slot (Ok found) new = ReadsValue layouts t a (slot_value slot) (Ok (raw.Ref found.0 found.1)) new
ReadsSlot layouts t a slot (Err slot_fault.NoSlot) new = ⊥
ReadsSlot layouts t a slot (Err slot_fault.WrongStore) new = ⊥
ReadsSlot layouts t a slot (Err slot_fault.Unrooted) new = ⊥
ReadsSlot layouts t a slot (Err slot_fault.RootsFull) new = ReadsValue layouts t a (slot_value slot) (Err root_fault.RootsFull) new
ReadsSlot layouts t a slot (Err slot_fault.Memory) new = ReadsValue layouts t a (slot_value slot) (Err root_fault.Memory) new
