-- References, values and objects of the table. Positions count from 0.
use Rattle.std.specs.Prelude.{ℕ, ℤ, List, [], Option}
use Rattle.std.specs.Int.{Width, cast_unsigned, cast_signed}
use Rattle.gc_types.specs.declared.value.Func.{Func}
use Rattle.gc_types.specs.declared.value.Tag.{Tag}
use Rattle.gc_owner.specs.declared.entry.GcClass.{GcClass}

-- null, a 31-bit number, or the object at a position
pub data Reference : Type 0 where
  null : Reference
  small : ℕ → Reference
  at : ℕ → Reference

-- the kinds of numbers
pub data NumberKind : Type 0 where
  i32 : NumberKind
  i64 : NumberKind
  f32 : NumberKind
  f64 : NumberKind
  v128 : NumberKind

-- a number with its kind, as its bits; a function or none; a continuation or none; a class with a reference
pub data Value : Type 0 where
  numeric : NumberKind → ℕ → Value
  function : Option Func → Value
  continuation : Option ℕ → Value
  reference : GcClass → Reference → Value

-- an object: its type's index and its values; a host object has a value of the embedder's
pub data Object (D : Type 0) : Type 0 where
  struct : ℕ → List Value → Object D
  array : ℕ → List Value → Object D
  host : D → Object D
  exception : ℕ → Tag → List Value → Object D

-- the values of an object; a host object has none
abbrev pub object_values : {D : Type 0} → Object D → List Value
object_values (struct ty values) = values
object_values (array ty values) = values
object_values (host value) = []
object_values (exception ty tag values) = values

-- The bits of a signed number of that width; those of one that is out of range are of no account.
abbrev pub number_bits : Width → ℤ → ℕ
number_bits w n = cast_unsigned w (cast_signed w (cast_unsigned w n))
