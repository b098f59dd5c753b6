-- Which form a value has, which form a field holds, and the bytes that hold a value in a field: a number with its
-- lowest byte first at every width, a function as one above its id, and so a continuation, which is 0 where there is none; a
-- reference as its word.
use Rattle.std.specs.Prelude.{◌≡◌, ℕ, ◌-◌, List, take, drop, slice_index}
use Rattle.std.specs.Int.{sum_through, byte_worth}
use Rattle.gc_types.specs.declared.value.StorageType.{StorageType}
use Rattle.gc_types.specs.declared.value.StorageType.TheVariants as storage
use Rattle.gc_types.specs.declared.value.ValType.{ValType}
use Rattle.gc_types.specs.declared.value.ValType.TheVariants as val
use Rattle.gc_types.specs.declared.value.HeapTopType.{HeapTopType}
use Rattle.gc_types.specs.declared.value.HeapTopType.TheVariants as top
use Rattle.gc_types.specs.Values.{heap_top}
use Rattle.gc_types.specs.Layouts.{storage_width}
use Rattle.gc_owner.specs.declared.entry.GcClass.{GcClass}
use Rattle.gc_owner.specs.declared.entry.GcClass.TheVariants.{Any, Extern, Exn}
use Rattle.gc_model.specs.Values.{NumberKind, i32, i64, f32, f64, v128, Value, numeric, function, continuation, reference}
use Rattle.gc_model.specs.Words.{Placing, IsWord}
pub use Rattle.gc_model.specs.SideValues.{InternedIds, IsIdCode, IsContCode}

-- what a value is, and what a field holds
pub data Form : Type 0 where
  number_of : NumberKind → Form
  function_of : Form
  continuation_of : Form
  reference_of : GcClass → Form

abbrev pub value_form : Value → Form
value_form (numeric kind n) = number_of kind
value_form (function f) = function_of
value_form (continuation c) = continuation_of
value_form (reference class r) = reference_of class

-- the form of references whose types lie under that top
abbrev pub top_form : HeapTopType → Form
top_form top.Any = reference_of Any
top_form top.Extern = reference_of Extern
top_form top.Exn = reference_of Exn
top_form top.Func = function_of
top_form top.Cont = continuation_of

abbrev pub type_form : ValType → Form
type_form val.I32 = number_of i32
type_form val.I64 = number_of i64
type_form val.F32 = number_of f32
type_form val.F64 = number_of f64
type_form val.V128 = number_of v128
type_form (val.Ref ty) = top_form (heap_top ty.heap_type)

-- the form of what a field of that type holds; small integers are held as 32-bit numbers
abbrev pub storage_form : StorageType → Form
storage_form storage.I8 = number_of i32
storage_form storage.I16 = number_of i32
storage_form (storage.ValType ty) = type_form ty

-- the number of so many bytes that lies at an offset, its lowest byte first
abbrev pub number_at : ℕ → List ℕ → ℕ → ℕ
number_at width bytes offset = sum_through (λ i. byte_worth i (slice_index (take width (drop offset bytes)) i)) (width - 1)

-- What stands in a heap for a position, and for a function and a continuation: its place, and one above its id.
pub record Names : Type 0 where
  pub place : Placing
  pub ids : InternedIds

-- the names under a placing, with functions and continuations by their ids
abbrev pub naming : Placing → InternedIds → Names
naming place ids = record { place = place; ids = ids }

-- the number that stands in a heap for a value
abbrev pub IsCode : Names → Value → ℕ → Type 0
IsCode names (numeric kind n) code = code ≡ n
IsCode names (function f) code = IsIdCode names.ids.funcs f code
IsCode names (continuation c) code = IsContCode names.ids.conts c code
IsCode names (reference class r) code = IsWord names.place r code

-- a value lies at an offset of an object's bytes, as a field of that type holds it
pub record LiesAs (names : Names) (ty : StorageType) (v : Value) (bytes : List ℕ) (offset : ℕ) : Type 0 where
  pub form : storage_form ty ≡ value_form v
  pub code : IsCode names v (number_at (storage_width ty) bytes offset)
