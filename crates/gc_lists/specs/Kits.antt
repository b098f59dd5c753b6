-- The types of cells and of nodes, and kits, which name one of each.
use Rattle.std.specs.Prelude.{◌≡◌, ◌⊎◌, ◌+◌, ◌<◌, ◌≤◌, ◌==◌, ◌&&◌, ℕ, Bool, true, List, [], ◌∷◌, Some, None, Result, Ok, Err, length, slice_get}
use Rattle.gc_types.specs.declared.kind.Layouts.{Layouts}
use Rattle.gc_types.specs.declared.types.TypeFault.{TypeFault}
use Rattle.gc_types.specs.declared.types.TypeFault.TheVariants as type_fault
use Rattle.gc_types.specs.declared.value.HeapType.TheVariants as heap
use Rattle.gc_types.specs.declared.value.ValType.{ValType}
use Rattle.gc_types.specs.declared.value.ValType.TheVariants as val
use Rattle.gc_types.specs.declared.value.FieldType.{FieldType}
use Rattle.gc_types.specs.Declarations.{Declaration, constant_field, struct_type, max_types}
use Rattle.gc_model.specs.Table.{Table, declare}
use Rattle.gc_model.specs.Stores.{StoreView}
use Rattle.gc_model.specs.Accounts.{Account, HoldsAccount}
use Rattle.gc_lists.specs.declared.kit.Kit.{Kit}

-- a reference to a struct of that type, or null
abbrev pub link : ℕ → ValType
link ty = val.Ref (record { nullable = true; heap_type = heap.ConcreteStruct ty })

-- the fields of a cell: its number and the next cell
abbrev pub cell_fields : ℕ → List FieldType
cell_fields ty = constant_field val.I64 ∷ constant_field (link ty) ∷ []

-- the fields of a node: its key, its value, its height, and its left and its right child
abbrev pub node_fields : ℕ → List FieldType
node_fields ty = constant_field val.I64 ∷ constant_field val.I64 ∷ constant_field val.I32 ∷ constant_field (link ty) ∷ constant_field (link ty) ∷ []

-- the declaration of cells, and of nodes, whose type has that index itself: final, without a supertype
abbrev pub cell_type : ℕ → Declaration
cell_type ty = struct_type (cell_fields ty) None true

abbrev pub node_type : ℕ → Declaration
node_type ty = struct_type (node_fields ty) None true

-- the type with that index is one of cells, or of nodes
abbrev pub IsCellType : List Declaration → ℕ → Type 0
IsCellType types ty = slice_get types ty ≡ Some (cell_type ty)

abbrev pub IsNodeType : List Declaration → ℕ → Type 0
IsNodeType types ty = slice_get types ty ≡ Some (node_type ty)

-- whether a kit carries the store's id
abbrev pub is_kit_of : {D : Type 0} → StoreView D → Kit → Bool
is_kit_of s kit = (kit.store_id.engine == s.engine) && (kit.store_id.number == s.number)

-- a kit's two types are declared
pub record IsKit (types : List Declaration) (kit : Kit) : Type 0 where
  pub cells : IsCellType types kit.cell
  pub nodes : IsNodeType types kit.node

-- a kit that carries the store's id has the store's types
abbrev pub KitStands : {D : Type 0} → StoreView D → Kit → Type 0
KitStands s kit = is_kit_of s kit ≡ true → IsKit s.types kit

-- the types of a kit were declared behind those that there were
abbrev pub declare_kit : {D : Type 0} → Table D → Table D
declare_kit t = declare (node_type (length t.types + 1)) (declare (cell_type (length t.types)) t)

-- the kit of these two types
abbrev pub kit_behind : {D : Type 0} → StoreView D → Table D → Kit
kit_behind s t = record { store_id = record { engine = s.engine; number = s.number }; cell = length t.types; node = length t.types + 1 }

-- What the making of a kit answers and leaves: BadType exactly where fewer than two type indexes are left. Memory may have been wanting for the
-- second type alone.
abbrev pub MakesKit : {D : Type 0} → Layouts → Table D → Account → Result Kit TypeFault → StoreView D → Type 0
MakesKit layouts t a (Ok kit) new = (kit ≡ kit_behind new t) × HoldsAccount layouts new (declare_kit t) a
MakesKit layouts t a (Err type_fault.BadType) new = (max_types < length t.types + 2) × HoldsAccount layouts new t a
MakesKit layouts t a (Err type_fault.Memory) new =
    (length t.types + 2 ≤ max_types) × (HoldsAccount layouts new t a ⊎ HoldsAccount layouts new (declare (cell_type (length t.types)) t) a)
