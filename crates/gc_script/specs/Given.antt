-- What the registers and operands of a command are in a state.
use Rattle.std.specs.Prelude.{ℕ, Bool, true, false, List, [], Option, Some, None, map, slice_get}
use Rattle.std.specs.Int.{w32, w64}
use Rattle.gc_types.specs.declared.value.FieldType.{FieldType}
use Rattle.gc_types.specs.declared.value.Mutability.{Mutability}
use Rattle.gc_types.specs.declared.value.Mutability.TheVariants.{Const, Var}
use Rattle.gc_types.specs.declared.value.StorageType.{StorageType}
use Rattle.gc_types.specs.declared.value.StorageType.TheVariants as storage
use Rattle.gc_types.specs.Declarations.{Declaration}
use Rattle.gc_owner.specs.declared.entry.GcClass.{GcClass}
use Rattle.gc_owner.specs.declared.entry.GcClass.TheVariants as class
use Rattle.gc_model.specs.Values.{Reference, null, small, at, Value, numeric, i32, i64, f32, f64, v128, function, continuation, Object, struct, array, host, exception, number_bits}
use Rattle.gc_model.specs.Values as values
use Rattle.gc_model.specs.Fits.{fits}
use Rattle.gc_model.specs.Reach.{object_values}
use Rattle.gc_model.specs.Stored.{value_type}
use Rattle.gc_model.specs.Table.{Table, Scoped}
use Rattle.gc_model.specs.Live.{rooted_among}
use Rattle.gc_commands.specs.declared.command.Operand.{Operand}
use Rattle.gc_commands.specs.declared.command.Operand.TheVariants as operand
use Rattle.gc_script.specs.State.{State, Held, number, reference}

-- what an operand holds, as a register would
abbrev pub operand_held : (ℕ → Option Held) → Operand → Option Held
operand_held registers (operand.I32 n) = Some (number (numeric i32 (number_bits w32 n)))
operand_held registers (operand.I64 n) = Some (number (numeric i64 (number_bits w64 n)))
operand_held registers (operand.F32 n) = Some (number (numeric f32 n))
operand_held registers (operand.F64 n) = Some (number (numeric f64 n))
operand_held registers (operand.V128 n) = Some (number (numeric v128 n))
operand_held registers operand.AnyNull = Some (reference class.Any None)
operand_held registers operand.ExternNull = Some (reference class.Extern None)
operand_held registers operand.ExnNull = Some (reference class.Exn None)
operand_held registers (operand.Register r) = registers r

abbrev pub held_operand : State → Operand → Option Held
held_operand s v = operand_held s.registers v

-- what is given: nothing, a root that is gone, or a value
pub data Given : Type 0 where
  unset : Given
  gone : Given
  is : Value → Given

abbrev pub given_root : GcClass → Option Reference → Given
given_root c None = gone
given_root c (Some r) = is (values.reference c r)

-- Each reader takes the part of the state that it reads, so that what it finds is the same in any state with that part.
abbrev pub given_among : List Scoped → Option Held → Given
given_among scoped None = unset
given_among scoped (Some (number v)) = is v
given_among scoped (Some (reference c None)) = is (values.reference c null)
given_among scoped (Some (reference c (Some serial))) = given_root c (rooted_among serial scoped)

abbrev pub given_held : Table ℕ → Option Held → Given
given_held t held = given_among t.scoped held

abbrev pub given : State → Operand → Given
given s v = given_held s.table (held_operand s v)

abbrev pub given_register : State → ℕ → Given
given_register s r = given_held s.table (s.registers r)

abbrev pub is_unset : Given → Bool
is_unset unset = true
is_unset gone = false
is_unset (is v) = false

abbrev pub is_gone : Given → Bool
is_gone unset = false
is_gone gone = true
is_gone (is v) = false

-- the value is a reference, null too
abbrev pub is_reference : Value → Bool
is_reference (numeric kind n) = false
is_reference (function f) = false
is_reference (continuation c) = false
is_reference (values.reference c r) = true

-- the value that is given; a null where there is none
abbrev pub given_value : Given → Value
given_value unset = values.reference class.Any null
given_value gone = values.reference class.Any null
given_value (is v) = v

-- the values that operands give
abbrev pub given_values : State → List Operand → List Value
given_values s vs = map (λ (v : Operand). given_value (given s v)) vs

-- the reference that is given, where it is one and not null
abbrev pub value_named : Value → Option Reference
value_named (numeric kind n) = None
value_named (function f) = None
value_named (continuation c) = None
value_named (values.reference c null) = None
value_named (values.reference c (small n)) = Some (small n)
value_named (values.reference c (at p)) = Some (at p)

-- the reference that a register names, where it does
abbrev pub named : State → ℕ → Option Reference
named s r = value_named (given_value (given_register s r))

-- what a register names of the objects: its position, and what it is
pub record Target : Type 0 where
  pub position : ℕ
  pub object : Object ℕ

abbrev pub object_target : ℕ → Option (Object ℕ) → Option Target
object_target p None = None
object_target p (Some o) = Some (record { position = p; object = o })

abbrev pub target_among : List (Object ℕ) → Option Reference → Option Target
target_among objects None = None
target_among objects (Some null) = None
target_among objects (Some (small n)) = None
target_among objects (Some (at p)) = object_target p (slice_get objects p)

abbrev pub reference_target : Table ℕ → Option Reference → Option Target
reference_target t r = target_among t.objects r

-- the object that a register names, where it does
abbrev pub target : State → ℕ → Option Target
target s r = reference_target s.table (named s r)

-- the kinds of objects that commands are for
abbrev pub is_struct : Object ℕ → Bool
is_struct (struct ty vs) = true
is_struct (array ty vs) = false
is_struct (host v) = false
is_struct (exception ty tag vs) = false

abbrev pub is_array : Object ℕ → Bool
is_array (struct ty vs) = false
is_array (array ty vs) = true
is_array (host v) = false
is_array (exception ty tag vs) = false

abbrev pub is_host : Object ℕ → Bool
is_host (struct ty vs) = false
is_host (array ty vs) = false
is_host (host v) = true
is_host (exception ty tag vs) = false

-- a struct or an exception
abbrev pub has_fields : Object ℕ → Bool
has_fields (struct ty vs) = true
has_fields (array ty vs) = false
has_fields (host v) = false
has_fields (exception ty tag vs) = true

abbrev pub is_exception : Object ℕ → Bool
is_exception (struct ty vs) = false
is_exception (array ty vs) = false
is_exception (host v) = false
is_exception (exception ty tag vs) = true

-- a register names an object of that kind
abbrev pub names_kind : (Object ℕ → Bool) → Option Target → Bool
names_kind of_kind None = false
names_kind of_kind (Some found) = of_kind found.object

abbrev pub target_values : Option Target → List Value
target_values None = []
target_values (Some found) = object_values found.object

-- the type of the value at an index of what a register names
abbrev pub field_among : List Declaration → Option Target → ℕ → Option FieldType
field_among types None i = None
field_among types (Some found) i = value_type types found.object i

abbrev pub target_field : Table ℕ → Option Target → ℕ → Option FieldType
target_field t found i = field_among t.types found i

abbrev pub is_const : Mutability → Bool
is_const Const = true
is_const Var = false

abbrev pub is_constant : Option FieldType → Bool
is_constant None = false
is_constant (Some f) = is_const f.mutability

-- whether the elements are 8 bits wide
abbrev pub is_byte : StorageType → Bool
is_byte storage.I8 = true
is_byte storage.I16 = false
is_byte (storage.ValType ty) = false

abbrev pub holds_bytes : Option FieldType → Bool
holds_bytes None = false
holds_bytes (Some f) = is_byte f.element_type

-- whether a value fits a field, by the types and the objects
abbrev pub fits_field : List Declaration → List (Object ℕ) → Option FieldType → Value → Bool
fits_field types objects None v = false
fits_field types objects (Some f) v = fits types objects f.element_type v
