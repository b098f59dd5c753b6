-- An object of a heap stands for one of the table, of whichever kind: its values lie in the slots of its shape.
use Rattle.std.specs.Prelude.{◌≡◌, ℕ, ◌+◌, ◌-◌, List, Some, length, slice_get, option_map}
use Rattle.std.specs.Ordering.{nat_cmp}
use Rattle.std.specs.FinMap as map
use Rattle.gc_types.specs.declared.kind.Layouts.{Layouts}
use Rattle.gc_types.specs.declared.kind.VMGcKind.TheVariants.{StructRef, ArrayRef, ExnRef, ExternRef}
use Rattle.gc_types.specs.declared.value.Tag.{Tag}
use Rattle.gc_types.specs.Declarations.{Declaration, Shape, shape_kind}
use Rattle.gc_types.specs.declared.kind.TypeKind.{TypeKind}
use Rattle.gc_types.specs.declared.kind.TypeKind.TheVariants as kinds
use Rattle.gc_types.specs.Layouts.{struct_base}
use Rattle.gc_view.specs.Bytes.{u32_at}
use Rattle.gc_view.specs.Heaps.{HeapObject}
use Rattle.gc_view.specs.Sizes.{stored_size}
use Rattle.gc_view.specs.Slots.{StorageSlot, shape_slots, shape_size}
use Rattle.gc_model.specs.Values.{Value, Object, struct, array, host, exception}
use Rattle.gc_model.specs.Forms.{Names, LiesAs}
use Rattle.gc_model.specs.Words.{Placing}

-- each value lies in the slot of its index; the bytes are those from an offset of the object on
pub record ValuesLie (names : Names) (base : ℕ) (slots : List StorageSlot) (values : List Value) (bytes : List ℕ) : Type 0 where
  pub same_count : length values ≡ length slots
  pub each : (i : ℕ) (slot : StorageSlot) (value : Value) → slice_get slots i ≡ Some slot → slice_get values i ≡ Some value → LiesAs names slot.storage value bytes (slot.offset - base)

-- An object of a heap has a declared type of that kind, as many bytes as its shape takes, and these values.
pub record ShapeStands (layouts : Layouts) (types : List Declaration) (names : Names) (type_kind : TypeKind) (ty : ℕ) (values : List Value) (h : HeapObject) : Type 0 where
  pub shape : Shape
  pub declared : option_map (λ (d : Declaration). d.shape) (slice_get types ty) ≡ Some shape
  pub of_kind : shape_kind shape ≡ type_kind
  pub same_type : h.ty ≡ ty
  pub count : ℕ
  pub counted : length values ≡ count
  pub size : struct_base layouts + length h.bytes ≡ stored_size layouts (shape_size layouts shape count)
  pub values_lie : ValuesLie names (struct_base layouts) (shape_slots layouts shape count) values h.bytes

-- an array of a heap, with its length in front of its elements
pub record ArrayStands (layouts : Layouts) (types : List Declaration) (names : Names) (ty : ℕ) (values : List Value) (h : HeapObject) : Type 0 where
  pub kind : h.kind ≡ ArrayRef
  pub elements : u32_at h.bytes 0 ≡ length values
  pub stands : ShapeStands layouts types names kinds.Array ty values h

-- an exception of a heap, with its tag in front of its fields
pub record ExceptionStands (layouts : Layouts) (types : List Declaration) (names : Names) (ty : ℕ) (tag : Tag) (values : List Value) (h : HeapObject) : Type 0 where
  pub kind : h.kind ≡ ExnRef
  pub instance : u32_at h.bytes 0 ≡ tag.instance
  pub index : u32_at h.bytes 4 ≡ tag.index
  pub stands : ShapeStands layouts types names kinds.Exn ty values h

-- an external object of a heap: the number in it is one above the id of its host value
pub record HostStands (id : ℕ) (h : HeapObject) : Type 0 where
  pub kind : h.kind ≡ ExternRef
  pub id_is : u32_at h.bytes 0 ≡ id + 1

-- a struct of a heap
pub record StructStands (layouts : Layouts) (types : List Declaration) (names : Names) (ty : ℕ) (values : List Value) (h : HeapObject) : Type 0 where
  pub kind : h.kind ≡ StructRef
  pub stands : ShapeStands layouts types names kinds.Struct ty values h

-- An object of a heap stands for one of the table. Which value a host object has is told by the host table (`HostsBy`).
abbrev pub Stands : {D : Type 0} → Layouts → List Declaration → Names → Object D → HeapObject → Type 0
Stands layouts types names (struct ty values) h = StructStands layouts types names ty values h
Stands layouts types names (array ty values) h = ArrayStands layouts types names ty values h
Stands layouts types names (host value) h = (id : ℕ) × HostStands id h
Stands layouts types names (exception ty tag values) h = ExceptionStands layouts types names ty tag values h

-- the host object of that position and value is placed, and its id is this
pub record IsHostAt {D : Type 0} (objects : List (Object D)) (place : Placing) (content : map.FinMap nat_cmp HeapObject) (position id : ℕ) (value : D) : Type 0 where
  pub word : ℕ
  pub object : HeapObject
  pub in_table : slice_get objects position ≡ Some (host value)
  pub placed : place position ≡ Some word
  pub in_heap : map.get content word ≡ Some object
  pub stands : HostStands id object

-- a host object that is placed has an id, under which its value stands in the host table
pub record HasHostValue {D : Type 0} (objects : List (Object D)) (place : Placing) (content : map.FinMap nat_cmp HeapObject) (hosts : map.FinMap nat_cmp D) (position : ℕ) (value : D) : Type 0 where
  pub id : ℕ
  pub is_at : IsHostAt objects place content position id value
  pub held : map.get hosts id ≡ Some value

-- The host table has exactly one entry for each host object that is placed, under the id in that object, with its value:
-- each has one, each entry is that of one, and no two have the same id.
pub record HostsBy {D : Type 0} (objects : List (Object D)) (place : Placing) (content : map.FinMap nat_cmp HeapObject) (hosts : map.FinMap nat_cmp D) : Type 0 where
  pub each : (position word : ℕ) (value : D) → place position ≡ Some word → slice_get objects position ≡ Some (host value) → HasHostValue objects place content hosts position value
  pub only : (id : ℕ) (value : D) → map.get hosts id ≡ Some value → (position : ℕ) × IsHostAt objects place content position id value
  pub apart : (p q id : ℕ) (v w : D) → IsHostAt objects place content p id v → IsHostAt objects place content q id w → p ≡ q
