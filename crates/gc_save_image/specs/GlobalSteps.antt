-- What is known when globals were read, and when they have their lines.
use Rattle.std.specs.Prelude.{◌≡◌, ◌⊎◌, ◌<◌, ◌+◌, ℕ, Bool, true, false, None, List, [], ◌∷◌, ◌++◌, Some, Result, Ok, Err, length, slice_get, sum_by, take}
use Rattle.gc_types.specs.declared.kind.Layouts.{Layouts}
use Rattle.gc_model.specs.Stores.{StoreView}
use Rattle.gc_owner.specs.declared.entry.GcClass.TheVariants as class
use Rattle.gc_model.specs.Table.{Table, Slot, null_slot, global_count}
use Rattle.gc_model.specs.Accounts.{Account, HoldsAccount}
use Rattle.gc_store.specs.declared.globals.SlotFault.{SlotFault}
use Rattle.gc_store.specs.declared.globals.SlotFault.TheVariants as slot_fault
use Rattle.gc_values.specs.declared.root.RawValue.TheVariants as raw
use Rattle.gc_values.specs.declared.root.RootFault.TheVariants as root
use Rattle.gc_store.specs.Slots.{HandleStands, slot_value}
use Rattle.gc_store.specs.Values.{ReadsValue}
use Rattle.gc_paths.specs.Answers.{LacksRoots}
use Rattle.gc_paths.specs.Progress.{Basis, Grown, present_in_value}
use Rattle.gc_image.specs.declared.image.GlobalLine.{GlobalLine}
use Rattle.gc_image.specs.declared.image.ImageValue.{ImageValue}
use Rattle.gc_save_image.specs.declared.collect_fault.CollectFault.{CollectFault}
use Rattle.gc_save_image.specs.declared.collect_fault.CollectFault.TheVariants as fault
use Rattle.gc_save_image.specs.declared.globals.GlobalRead.{GlobalRead}
use Rattle.gc_save_image.specs.Progress.{ImageProgress, SaysValue}
use Rattle.gc_save_image.specs.Parts.{FoundHandles}

-- why nothing is collected where a global isn't read
abbrev pub slot_refused : SlotFault → CollectFault
slot_refused slot_fault.NoSlot = fault.Memory
slot_refused slot_fault.WrongStore = fault.Memory
slot_refused slot_fault.Unrooted = fault.Memory
slot_refused slot_fault.RootsFull = fault.RootsFull
slot_refused slot_fault.Memory = fault.Memory

-- how many of a global's references aren't null, and of those of many
abbrev pub slot_count : Slot → ℕ
slot_count slot = present_in_value (slot_value slot)

abbrev pub slots_count : List Slot → ℕ
slots_count slots = sum_by slot_count slots

-- what reading one global answers and leaves
abbrev pub ReadsGlobal : Layouts → Table ℕ → Account → Slot → Result GlobalRead CollectFault → StoreView ℕ → Type 0
ReadsGlobal layouts t a slot (Ok read) new = ReadsValue layouts t a (slot_value slot) (Ok (raw.Ref read.class read.handle)) new
ReadsGlobal layouts t a slot (Err fault.RootsFull) new = ReadsValue layouts t a (slot_value slot) (Err root.RootsFull) new
ReadsGlobal layouts t a slot (Err fault.Memory) new = HoldsAccount layouts new t a

-- what was read stands for the global
pub record IsRead (s : StoreView ℕ) (now : Table ℕ) (slot : Slot) (read : GlobalRead) : Type 0 where
  pub class : read.class ≡ slot.class
  pub stands : HandleStands s now read.handle slot.reference

-- so many globals were read
pub record GlobalsRead (layouts : Layouts) (t : Table ℕ) (a : Account) (k : ℕ) (s : StoreView ℕ) (reads : List GlobalRead) : Type 0 where
  pub now : Table ℕ
  pub grown : Grown t now (slots_count (take k t.globals))
  pub held : HoldsAccount layouts s now a
  pub same_count : length reads ≡ k
  pub each : (i : ℕ) (slot : Slot) (read : GlobalRead) → slice_get t.globals i ≡ Some slot → slice_get reads i ≡ Some read → IsRead s now slot read

-- a search that was refused has pushed some roots
pub record StoppedAt (layouts : Layouts) (t : Table ℕ) (a : Account) (s : StoreView ℕ) : Type 0 where
  pub count : ℕ
  pub now : Table ℕ
  pub grown : Grown t now count
  pub held : HoldsAccount layouts s now a

-- what reading all globals answers and leaves
abbrev pub AnswersGlobals : {X : Type 0} → Layouts → Table ℕ → Account → (X → Type 0) → Result X CollectFault → StoreView ℕ → Type 0
AnswersGlobals layouts t a Went (Ok x) s = Went x
AnswersGlobals layouts t a Went (Err fault.RootsFull) s = LacksRoots t (slots_count t.globals) × StoppedAt layouts t a s
AnswersGlobals layouts t a Went (Err fault.Memory) s = StoppedAt layouts t a s

-- a global is null of class Any and has no line, or one more line says it
pub record MoreLines (told : List ℕ) (old new : List GlobalLine) (index : ℕ) (slot : Slot) : Type 0 where
  pub value : ImageValue
  pub is : new ≡ old ++ record { index = index; value = value } ∷ []
  pub says : SaysValue told (slot_value slot) value
  pub is_set : ¬ (slot ≡ null_slot)

abbrev pub AddsLine : List ℕ → List GlobalLine → List GlobalLine → ℕ → Slot → Type 0
AddsLine told old new index slot = ((slot ≡ null_slot) × (new ≡ old)) ⊎ MoreLines told old new index slot

-- the line says the global of its index
pub record IsSaid (told : List ℕ) (globals : List Slot) (line : GlobalLine) : Type 0 where
  pub slot : Slot
  pub there : slice_get globals line.index ≡ Some slot
  pub says : SaysValue told (slot_value slot) line.value
  pub is_set : ¬ (slot ≡ null_slot)

-- the first globals have their lines
pub record GlobalsSaid (told : List ℕ) (k : ℕ) (globals : List Slot) (lines : List GlobalLine) : Type 0 where
  pub said : (i : ℕ) (line : GlobalLine) → slice_get lines i ≡ Some line → IsSaid told globals line
  pub below : (i : ℕ) (line : GlobalLine) → slice_get lines i ≡ Some line → line.index < k
  pub unsaid : (n : ℕ) (slot : Slot) → n < k → slice_get globals n ≡ Some slot → ((i : ℕ) (line : GlobalLine) → slice_get lines i ≡ Some line → ¬ (line.index ≡ n)) → slot ≡ null_slot
  pub rising : (i : ℕ) (one next : GlobalLine) → slice_get lines i ≡ Some one → slice_get lines (i + 1) ≡ Some next → one.index < next.index

-- a read global is null of class Any
abbrev pub IsUnset : GlobalRead → Bool → Type 0
IsUnset read true = (read.class ≡ class.Any) × (read.handle ≡ None)
IsUnset read false = ¬ ((read.class ≡ class.Any) × (read.handle ≡ None))

-- all globals were read
pub record AllRead (s : StoreView ℕ) (now : Table ℕ) (globals : List Slot) (reads : List GlobalRead) : Type 0 where
  pub same_count : length reads ≡ length globals
  pub few : length globals ≡ global_count
  pub each : (i : ℕ) (slot : Slot) (read : GlobalRead) → slice_get globals i ≡ Some slot → slice_get reads i ≡ Some read → IsRead s now slot read

-- in some search, all globals were read
pub record CanSay (layouts : Layouts) (s : StoreView ℕ) (f : FoundHandles) (reads : List GlobalRead) : Type 0 where
  pub basis : Basis ℕ
  pub count : ℕ
  pub progress : ImageProgress layouts basis [] count s f
  pub all : AllRead s progress.holds.now basis.table.globals reads
