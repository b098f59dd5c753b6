-- Cells and nodes as objects of the table, which alone tells what they are.
use Rattle.std.specs.Prelude.{◌≡◌, ◌⊎◌, ℕ, ℤ, pos, List, [], ◌∷◌, Some, slice_get}
use Rattle.std.specs.Int.{w64, cast_signed}
use Rattle.gc_types.specs.Declarations.{Declaration}
use Rattle.gc_owner.specs.declared.entry.GcClass.TheVariants.{Any}
use Rattle.gc_model.specs.Values.{Reference, null, small, at, Value, numeric, i32, i64, reference, Object, struct}
use Rattle.gc_values.specs.declared.root.RawValue.{RawValue}
use Rattle.gc_values.specs.declared.root.RawValue.TheVariants as raw
use Rattle.gc_lists.specs.declared.kit.Kit.{Kit}
use Rattle.gc_lists.specs.Kits.{IsCellType, IsNodeType}

-- the number of 64 bits that is kept as these bits
abbrev pub number_of : ℕ → ℤ
number_of bits = cast_signed w64 bits

-- the integer of 64 bits that a value is that was read; 0 where it is none
abbrev pub number_in : RawValue → ℤ
number_in (raw.I32 n) = pos 0
number_in (raw.I64 n) = n
number_in (raw.F32 n) = pos 0
number_in (raw.F64 n) = pos 0
number_in (raw.V128 n) = pos 0
number_in (raw.Func f) = pos 0
number_in (raw.Cont c) = pos 0
number_in (raw.Ref class handle) = pos 0

-- a cell: the bits of its number, and the next cell
abbrev pub cell : {D : Type 0} → ℕ → ℕ → Reference → Object D
cell ty bits next = struct ty (numeric i64 bits ∷ reference Any next ∷ [])

-- a node: the bits of its key and of its value, its height, and its two children
abbrev pub node : {D : Type 0} → ℕ → ℕ → ℕ → ℕ → Reference → Reference → Object D
node ty key value height left right = struct ty (numeric i64 key ∷ numeric i64 value ∷ numeric i32 height ∷ reference Any left ∷ reference Any right ∷ [])

-- the reference names a cell with that number, behind which the next one stands
pub record IsCell {D : Type 0} (types : List Declaration) (objects : List (Object D)) (r : Reference) (x : ℤ) (next : Reference) : Type 0 where
  pub position : ℕ
  pub ty : ℕ
  pub bits : ℕ
  pub named : r ≡ at position
  pub of_cells : IsCellType types ty
  pub object_is : slice_get objects position ≡ Some (cell ty bits next)
  pub number_is : x ≡ number_of bits

-- the reference names a node with that key, value and height, and with these children
pub record IsNode {D : Type 0} (types : List Declaration) (objects : List (Object D)) (r : Reference) (key value : ℤ) (height : ℕ) (left right : Reference) : Type 0 where
  pub position : ℕ
  pub ty : ℕ
  pub key_bits : ℕ
  pub value_bits : ℕ
  pub named : r ≡ at position
  pub of_nodes : IsNodeType types ty
  pub object_is : slice_get objects position ≡ Some (node ty key_bits value_bits height left right)
  pub key_is : key ≡ number_of key_bits
  pub value_is : value ≡ number_of value_bits

-- null, or the name of a struct of that type
abbrev pub IsNullOr : {D : Type 0} → List (Object D) → ℕ → Reference → Type 0
IsNullOr objects ty null = Unit {0}
IsNullOr objects ty (small n) = ⊥
IsNullOr objects ty (at p) = (values : List Value) × (slice_get objects p ≡ Some (struct ty values))

-- the object is a struct of the kit's cells or of its nodes
pub record IsOfKit {D : Type 0} (kit : Kit) (o : Object D) : Type 0 where
  pub ty : ℕ
  pub of_kit : (ty ≡ kit.cell) ⊎ (ty ≡ kit.node)
  pub values : List Value
  pub object_is : o ≡ struct ty values
