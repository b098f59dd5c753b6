-- How types, fields and operands are spelled.
use Rattle.std.specs.Prelude.{ℕ, ◌+◌, ◌/◌, ◌%◌, Bool, true, false, List, [], ◌∷◌, ◌++◌, codes, if◌then◌else◌, nat_lt, suc, zero}
use Rattle.std.specs.Fmt.{decimal, signed_decimal}
use Rattle.std.specs.List.{flat_map}
use Rattle.gc_commands.specs.declared.command.FieldWord.{FieldWord}
use Rattle.gc_commands.specs.declared.command.Operand.{Operand}
use Rattle.gc_commands.specs.declared.command.Operand.TheVariants as operand
use Rattle.gc_commands.specs.declared.command.ValueWord.{ValueWord}
use Rattle.gc_commands.specs.declared.command.ValueWord.TheVariants as value
use Rattle.gc_commands.specs.declared.command.HeapWord.{HeapWord}
use Rattle.gc_commands.specs.declared.command.HeapWord.TheVariants as heap
use Rattle.gc_commands.specs.declared.command.StorageWord.{StorageWord}
use Rattle.gc_commands.specs.declared.command.StorageWord.TheVariants as storage

-- a digit from 0 to 15, in lower case
abbrev pub hex_digit : ℕ → ℕ
hex_digit n = if nat_lt n 10 then 48 + n else 87 + n

-- so many hexadecimal digits of a number, highest first
abbrev pub hex_digits : ℕ → ℕ → List ℕ
hex_digits zero n = []
hex_digits (suc k) n = hex_digits k (n / 16) ++ hex_digit (n % 16) ∷ []

-- two digits of a byte
abbrev pub byte_text : ℕ → List ℕ
byte_text b = hex_digit (b / 16) ∷ hex_digit (b % 16) ∷ []

-- pairs of digits, or a dash for no bytes
abbrev pub bytes_text : List ℕ → List ℕ
bytes_text [] = codes "-"
bytes_text (b ∷ bs) = byte_text b ++ flat_map byte_text bs

-- the name of a heap type
abbrev pub heap_text : HeapWord → List ℕ
heap_text heap.Any = codes "any"
heap_text heap.Eq = codes "eq"
heap_text heap.I31 = codes "i31"
heap_text heap.Struct = codes "struct"
heap_text heap.Array = codes "array"
heap_text heap.None = codes "none"
heap_text heap.Extern = codes "extern"
heap_text heap.NoExtern = codes "noextern"
heap_text heap.Exn = codes "exn"
heap_text heap.NoExn = codes "noexn"
heap_text (heap.Named n) = codes "t" ++ decimal n

-- a reference that may not be null has a mark behind it
abbrev pub null_mark : Bool → List ℕ
null_mark true = []
null_mark false = codes "!"

abbrev pub value_type_text : ValueWord → List ℕ
value_type_text value.I32 = codes "i32"
value_type_text value.I64 = codes "i64"
value_type_text value.F32 = codes "f32"
value_type_text value.F64 = codes "f64"
value_type_text value.V128 = codes "v128"
value_type_text (value.Ref h nullable) = heap_text h ++ null_mark nullable

abbrev pub storage_text : StorageWord → List ℕ
storage_text storage.I8 = codes "i8"
storage_text storage.I16 = codes "i16"
storage_text (storage.Value v) = value_type_text v

-- mutable or constant
abbrev pub mutability_text : Bool → List ℕ
mutability_text true = codes "m:"
mutability_text false = codes "c:"

abbrev pub field_text : FieldWord → List ℕ
field_text f = mutability_text f.mutable ++ storage_text f.storage

abbrev pub operand_text : Operand → List ℕ
operand_text (operand.I32 n) = codes "i32:" ++ signed_decimal n
operand_text (operand.I64 n) = codes "i64:" ++ signed_decimal n
operand_text (operand.F32 n) = codes "f32:" ++ hex_digits 8 n
operand_text (operand.F64 n) = codes "f64:" ++ hex_digits 16 n
operand_text (operand.V128 n) = codes "v128:" ++ hex_digits 32 n
operand_text operand.AnyNull = codes "any:null"
operand_text operand.ExternNull = codes "extern:null"
operand_text operand.ExnNull = codes "exn:null"
operand_text (operand.Register r) = codes "r" ++ decimal r

-- words, each behind a space
abbrev pub spaced : List (List ℕ) → List ℕ
spaced words = flat_map (λ word. 32 ∷ word) words
