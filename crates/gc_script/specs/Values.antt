-- What the values of a command's operands are found to be.
use Rattle.std.specs.Prelude.{◌≡◌, ℕ, suc, Bool, true, false, List, [], ◌∷◌, ◌++◌, Option, Some, None, Result, Ok, Err, map, not, slice_get, unwrap_or, if◌then◌else◌}
use Rattle.std.specs.List.{AllZip}
use Rattle.gc_types.specs.declared.kind.Layouts.{Layouts}
use Rattle.gc_types.specs.declared.value.FieldType.{FieldType}
use Rattle.gc_types.specs.declared.value.ValType.{ValType}
use Rattle.gc_types.specs.declared.value.ValType.TheVariants as val
use Rattle.gc_owner.specs.declared.entry.GcClass.{GcClass}
use Rattle.gc_owner.specs.declared.entry.GcClass.TheVariants as class
use Rattle.gc_model.specs.Stores.{StoreView}
use Rattle.gc_model.specs.Table.{Table}
use Rattle.gc_model.specs.Holds.{HoldsTable}
use Rattle.gc_model.specs.Values.{Reference, Value, reference}
use Rattle.gc_commands.specs.declared.command.Operand.{Operand}
use Rattle.gc_commands.specs.declared.command.Operand.TheVariants as operand
use Rattle.gc_commands.specs.declared.reply.Refusal.{Refusal}
use Rattle.gc_commands.specs.declared.reply.Refusal.TheVariants as refusal
use Rattle.gc_commands.specs.declared.reply.Reply.{Reply}
use Rattle.gc_commands.specs.declared.reply.Reply.TheVariants as reply
use Rattle.gc_values.specs.declared.root.GcRootIndex.{GcRootIndex}
use Rattle.gc_values.specs.declared.root.RawValue.{RawValue}
use Rattle.gc_values.specs.declared.root.RawValue.TheVariants as raw
use Rattle.gc_values.specs.declared.root.RootedObject.{RootedObject}
use Rattle.gc_store.specs.Roots.{NamesReference, IsReference}
use Rattle.gc_store.specs.Slots.{HandleStands}
use Rattle.gc_store.specs.Values.{RawStands, AllStand, CanStore}
use Rattle.gc_script.specs.declared.objects.ValueTypes.{ValueTypes}
use Rattle.gc_script.specs.Slots.{register_at}
use Rattle.gc_script.specs.State.{State, RegisterStands}
use Rattle.gc_script.specs.Given.{held_operand, Given, gone, is, given, given_register, given_value, given_values, is_unset, is_gone, is_reference}
use Rattle.gc_script.specs.Shapes.{shown_value}
use Rattle.gc_script.specs.Steps.{any_unset, first_failing, value_tests}
use Rattle.gc_script.specs.Named.{type_at}

-- the registers are those of the state
abbrev pub AreRegisters : StoreView ℕ → List (Option RawValue) → State → Type 0
AreRegisters store slots s = (d : ℕ) → RegisterStands store s.table (register_at slots d) (s.registers d)

-- what an operand holds, in each state that has these registers
abbrev pub HoldsOperand : List (Option RawValue) → Operand → Option RawValue → Type 0
HoldsOperand slots operand found =
    (store : StoreView ℕ) (s : State) → AreRegisters store slots s → RegisterStands store s.table found (held_operand s operand)

-- so by the value; none where it is a register that is unset
abbrev pub raw_operand : List (Option RawValue) → Operand → Option RawValue
raw_operand slots (operand.I32 n) = Some (raw.I32 n)
raw_operand slots (operand.I64 n) = Some (raw.I64 n)
raw_operand slots (operand.F32 n) = Some (raw.F32 n)
raw_operand slots (operand.F64 n) = Some (raw.F64 n)
raw_operand slots (operand.V128 n) = Some (raw.V128 n)
raw_operand slots operand.AnyNull = Some (raw.Ref class.Any None)
raw_operand slots operand.ExternNull = Some (raw.Ref class.Extern None)
raw_operand slots operand.ExnNull = Some (raw.Ref class.Exn None)
raw_operand slots (operand.Register r) = register_at slots r

-- so of an operand that is set, and of several
abbrev pub set_operand : List (Option RawValue) → Operand → RawValue
set_operand slots v = unwrap_or (raw_operand slots v) (raw.Ref class.Any None)

abbrev pub set_operands : List (Option RawValue) → List Operand → List RawValue
set_operands slots vs = map (set_operand slots) vs

-- the values are what the operands hold
abbrev pub AllHeld : StoreView ℕ → State → List Operand → List RawValue → Type 0
AllHeld store s = AllZip (λ (v : Operand) (r : RawValue). RegisterStands store s.table (Some r) (held_operand s v))

-- some operand is a register that is unset, in each state that has these registers
abbrev pub HasUnset : List (Option RawValue) → List Operand → Type 0
HasUnset slots operands = (store : StoreView ℕ) (s : State) → AreRegisters store slots s → any_unset s operands ≡ true

-- none is
abbrev pub AreSet : List (Option RawValue) → List Operand → Type 0
AreSet slots operands = (store : StoreView ℕ) (s : State) → AreRegisters store slots s → any_unset s operands ≡ false

-- what is told of a handle, where there is one: what it names in a table
abbrev pub TellsHandle : StoreView ℕ → Table ℕ → Option GcRootIndex → Option RootedObject → Type 0
TellsHandle store t None object = object ≡ None
TellsHandle store t (Some handle) None = ⊥
TellsHandle store t (Some handle) (Some object) = (r : Reference) → NamesReference store t handle r → IsReference t r object

-- the class and the handle of a value, where it is a reference
abbrev pub raw_slot : RawValue → Option (GcClass × Option GcRootIndex)
raw_slot (raw.I32 n) = None
raw_slot (raw.I64 n) = None
raw_slot (raw.F32 n) = None
raw_slot (raw.F64 n) = None
raw_slot (raw.V128 n) = None
raw_slot (raw.Func f) = None
raw_slot (raw.Cont c) = None
raw_slot (raw.Ref class handle) = Some (class, handle)

-- whether a value is a function or a continuation, or none: it is shown as opaque
abbrev pub is_opaque : RawValue → Bool
is_opaque (raw.I32 n) = false
is_opaque (raw.I64 n) = false
is_opaque (raw.F32 n) = false
is_opaque (raw.F64 n) = false
is_opaque (raw.V128 n) = false
is_opaque (raw.Func f) = true
is_opaque (raw.Cont c) = true
is_opaque (raw.Ref class handle) = false

-- none of the values is
abbrev pub AllPlain : List RawValue → Type 0
AllPlain raws = (i : ℕ) (r : RawValue) → slice_get raws i ≡ Some r → is_opaque r ≡ false

-- what a register holds of a value that the store gave: nothing of an opaque one
abbrev pub registered : RawValue → Option RawValue
registered r = if is_opaque r then None else Some r

-- A value that is found live stands for what is given; else its root is gone.
abbrev pub IsFoundLive : StoreView ℕ → Table ℕ → RawValue → Given → Bool → Type 0
IsFoundLive store t r g true = (v : Value) × ((g ≡ is v) × RawStands store t r v)
IsFoundLive store t r g false = g ≡ gone

-- the reply shows the value, in each table that the store holds
abbrev pub ShowsRead : Layouts → StoreView ℕ → RawValue → Reply → Type 0
ShowsRead layouts store r answer = (t : Table ℕ) (v : Value) → HoldsTable layouts store t → RawStands store t r v → answer ≡ reply.Value (shown_value t v)

-- the tests of what goes into a slot, by what a register gives
abbrev pub reference_tests : Given → List (Bool × Refusal)
reference_tests g =
    (is_unset g, refusal.NoSuchName)
    ∷ (is_gone g, refusal.Unrooted)
    ∷ (not (is_reference (given_value g)), refusal.WrongKind)
    ∷ []

-- A register gives a reference, of that class and named by that handle.
pub record FoundReference (store : StoreView ℕ) (s : State) (r : ℕ) (class : GcClass) (handle : Option GcRootIndex) : Type 0 where
  pub root : Reference
  pub is_given : given_register s r ≡ is (reference class root)
  pub stands : HandleStands store s.table handle root

-- a register gives a reference, or the tests say why not
abbrev pub FindsReference : StoreView ℕ → State → ℕ → Result (GcClass × Option GcRootIndex) Refusal → Type 0
FindsReference store s r (Ok found) = FoundReference store s r found.0 found.1
FindsReference store s r (Err why) = first_failing (reference_tests (given_register s r)) ≡ Some why

-- a value may be put into a field or an element of that type, where there is one
abbrev pub CanStoreRaw : Layouts → StoreView ℕ → Option FieldType → RawValue → Type 0
CanStoreRaw layouts store None r = ⊥
CanStoreRaw layouts store (Some field) r = CanStore ℕ layouts store field.element_type r

-- so of values in order
abbrev pub AllRawStorable : Layouts → StoreView ℕ → ValueTypes → List RawValue → Type 0
AllRawStorable layouts store types raws =
    (i : ℕ) (r : RawValue) → slice_get raws i ≡ Some r → CanStoreRaw layouts store (type_at store.types types i) r

-- A value may go into a field of that type, where the tests say so; else it is refused as they say.
abbrev pub ChecksOperand : StoreView ℕ → State → Option FieldType → Operand → RawValue → Result (Unit {0}) Refusal → Type 0
ChecksOperand store s field v r (Ok done) = (first_failing (value_tests s field v) ≡ None) × RawStands store s.table r (given_value (given s v))
ChecksOperand store s field v r (Err why) = first_failing (value_tests s field v) ≡ Some why

-- the tests of values in order, the first of which has the type at that index
abbrev pub typed_tests : State → (ℕ → Option FieldType) → ℕ → List Operand → List (Bool × Refusal)
typed_tests s types i [] = []
typed_tests s types i (v ∷ vs) = value_tests s (types i) v ++ typed_tests s types (suc i) vs

-- the same of values in order
abbrev pub ChecksOperands : StoreView ℕ → State → ValueTypes → List Operand → List RawValue → Result (Unit {0}) Refusal → Type 0
ChecksOperands store s types vs raws (Ok done) =
    (first_failing (typed_tests s (type_at s.table.types types) 0 vs) ≡ None) × AllStand store s.table raws (given_values s vs)
ChecksOperands store s types vs raws (Err why) = first_failing (typed_tests s (type_at s.table.types types) 0 vs) ≡ Some why

-- whether a value is a number of that type
abbrev pub number_fits : ValType → RawValue → Bool
number_fits val.I32 (raw.I32 n) = true
number_fits val.I64 (raw.I64 n) = true
number_fits val.F32 (raw.F32 n) = true
number_fits val.F64 (raw.F64 n) = true
number_fits val.V128 (raw.V128 n) = true
number_fits _ _ = false
