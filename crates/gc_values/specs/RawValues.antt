-- What a value that is given to a store holds beside numbers: a function value, a continuation, or a handle.
use Rattle.std.specs.Prelude.{ℕ, List, [], ◌∷◌, Option, Some, None}
use Rattle.gc_types.specs.declared.value.Func.{Func}
use Rattle.gc_model.specs.SideValues.{SideValues}
use Rattle.gc_values.specs.declared.root.GcRootIndex.{GcRootIndex}
use Rattle.gc_values.specs.declared.root.RawValue.{RawValue}
use Rattle.gc_values.specs.declared.root.RawValue.TheVariants as raw

-- the function values among values that are given, in order
abbrev pub raw_functions : List RawValue → List (Option Func)
raw_functions [] = []
raw_functions (raw.I32 n ∷ raws) = raw_functions raws
raw_functions (raw.I64 n ∷ raws) = raw_functions raws
raw_functions (raw.F32 n ∷ raws) = raw_functions raws
raw_functions (raw.F64 n ∷ raws) = raw_functions raws
raw_functions (raw.V128 n ∷ raws) = raw_functions raws
raw_functions (raw.Func f ∷ raws) = f ∷ raw_functions raws
raw_functions (raw.Cont c ∷ raws) = raw_functions raws
raw_functions (raw.Ref class handle ∷ raws) = raw_functions raws

-- the continuations that are present among values that are given, in order
abbrev pub raw_conts : List RawValue → List ℕ
raw_conts [] = []
raw_conts (raw.I32 n ∷ raws) = raw_conts raws
raw_conts (raw.I64 n ∷ raws) = raw_conts raws
raw_conts (raw.F32 n ∷ raws) = raw_conts raws
raw_conts (raw.F64 n ∷ raws) = raw_conts raws
raw_conts (raw.V128 n ∷ raws) = raw_conts raws
raw_conts (raw.Func f ∷ raws) = raw_conts raws
raw_conts (raw.Cont None ∷ raws) = raw_conts raws
raw_conts (raw.Cont (Some c) ∷ raws) = c ∷ raw_conts raws
raw_conts (raw.Ref class handle ∷ raws) = raw_conts raws

-- both
abbrev pub raw_side_values : List RawValue → SideValues
raw_side_values raws = record { funcs = raw_functions raws; conts = raw_conts raws }

-- the handle that a value is, where it is one
abbrev pub raw_handle : RawValue → Option GcRootIndex
raw_handle (raw.I32 n) = None
raw_handle (raw.I64 n) = None
raw_handle (raw.F32 n) = None
raw_handle (raw.F64 n) = None
raw_handle (raw.V128 n) = None
raw_handle (raw.Func f) = None
raw_handle (raw.Cont c) = None
raw_handle (raw.Ref class handle) = handle
