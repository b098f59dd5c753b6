-- The types that the words of a declaration spell.
use Rattle.std.specs.Prelude.{ℕ, ◌==◌, Bool, List, [], ◌∷◌, Option, Some, None, option_map, length, if◌then◌else◌}
use Rattle.gc_types.specs.declared.value.FieldType.{FieldType}
use Rattle.gc_types.specs.declared.value.HeapType.{HeapType}
use Rattle.gc_types.specs.declared.value.HeapType.TheVariants as heap_type
use Rattle.gc_types.specs.declared.value.Mutability.{Mutability}
use Rattle.gc_types.specs.declared.value.Mutability.TheVariants.{Const, Var}
use Rattle.gc_types.specs.declared.value.StorageType.{StorageType}
use Rattle.gc_types.specs.declared.value.StorageType.TheVariants as storage_type
use Rattle.gc_types.specs.declared.value.ValType.{ValType}
use Rattle.gc_types.specs.declared.value.ValType.TheVariants as val_type
use Rattle.gc_types.specs.declared.kind.TypeKind.{TypeKind}
use Rattle.gc_types.specs.declared.kind.TypeKind.TheVariants as kinds
use Rattle.gc_types.specs.Declarations.{Declaration, kind_at, struct_type, array_type, exn_type}
use Rattle.gc_commands.specs.declared.command.FieldWord.{FieldWord}
use Rattle.gc_commands.specs.declared.command.HeapWord.{HeapWord}
use Rattle.gc_commands.specs.declared.command.HeapWord.TheVariants as heap
use Rattle.gc_commands.specs.declared.command.StorageWord.{StorageWord}
use Rattle.gc_commands.specs.declared.command.StorageWord.TheVariants as storage
use Rattle.gc_commands.specs.declared.command.ValueWord.{ValueWord}
use Rattle.gc_commands.specs.declared.command.ValueWord.TheVariants as value

-- The kinds of types by their indexes as a declaration reads them: those of the declared types, and its own for the next
-- index.
abbrev pub kinds_with : List Declaration → TypeKind → ℕ → Option TypeKind
kinds_with types own n = if n == length types then Some own else kind_at types n

-- the concrete heap type of an index, by the kind of its type; a function type can't be named
abbrev pub named_type : ℕ → Option TypeKind → Option HeapType
named_type n None = None
named_type n (Some kinds.Struct) = Some (heap_type.ConcreteStruct n)
named_type n (Some kinds.Array) = Some (heap_type.ConcreteArray n)
named_type n (Some kinds.Exn) = Some (heap_type.ConcreteExn n)
named_type n (Some kinds.Func) = None

abbrev pub heap_of : (ℕ → Option TypeKind) → HeapWord → Option HeapType
heap_of kind heap.Any = Some heap_type.Any
heap_of kind heap.Eq = Some heap_type.Eq
heap_of kind heap.I31 = Some heap_type.I31
heap_of kind heap.Struct = Some heap_type.Struct
heap_of kind heap.Array = Some heap_type.Array
heap_of kind heap.None = Some heap_type.None
heap_of kind heap.Extern = Some heap_type.Extern
heap_of kind heap.NoExtern = Some heap_type.NoExtern
heap_of kind heap.Exn = Some heap_type.Exn
heap_of kind heap.NoExn = Some heap_type.NoExn
heap_of kind (heap.Named n) = named_type n (kind n)

-- a reference type
abbrev pub reference_to : Bool → HeapType → ValType
reference_to nullable ty = val_type.Ref (record { nullable = nullable; heap_type = ty })

-- the value type that a word spells; none where it names no type that it may
abbrev pub value_type_of : (ℕ → Option TypeKind) → ValueWord → Option ValType
value_type_of kind value.I32 = Some val_type.I32
value_type_of kind value.I64 = Some val_type.I64
value_type_of kind value.F32 = Some val_type.F32
value_type_of kind value.F64 = Some val_type.F64
value_type_of kind value.V128 = Some val_type.V128
value_type_of kind (value.Ref h nullable) = option_map (reference_to nullable) (heap_of kind h)

abbrev pub storage_of : (ℕ → Option TypeKind) → StorageWord → Option StorageType
storage_of kind storage.I8 = Some storage_type.I8
storage_of kind storage.I16 = Some storage_type.I16
storage_of kind (storage.Value v) = option_map (λ (ty : ValType). storage_type.ValType ty) (value_type_of kind v)

abbrev pub mutability_of : Bool → Mutability
mutability_of mutable = if mutable then Var else Const

-- the field that a word spells
abbrev pub field_of : (ℕ → Option TypeKind) → FieldWord → Option FieldType
field_of kind f = option_map (λ (ty : StorageType). record { mutability = mutability_of f.mutable; element_type = ty }) (storage_of kind f.storage)

-- a list with one more in front, where both are there
abbrev pub with_first : {A : Type 0} → Option A → Option (List A) → Option (List A)
with_first None rest = None
with_first (Some x) None = None
with_first (Some x) (Some xs) = Some (x ∷ xs)

-- what words spell, in order, where each spells something
abbrev pub each_of : {A B : Type 0} → (A → Option B) → List A → Option (List B)
each_of read [] = Some []
each_of read (w ∷ ws) = with_first (read w) (each_of read ws)

abbrev pub fields_of : (ℕ → Option TypeKind) → List FieldWord → Option (List FieldType)
fields_of kind words = each_of (field_of kind) words

abbrev pub values_of : (ℕ → Option TypeKind) → List ValueWord → Option (List ValType)
values_of kind words = each_of (value_type_of kind) words

-- the struct type, the array type and the exception type that a declaration spells, among these types; none where some word names no type that
-- it may
abbrev pub declared_struct : Bool → Option ℕ → List FieldWord → List Declaration → Option Declaration
declared_struct is_final supertype fields types =
    option_map (λ (fs : List FieldType). struct_type fs supertype is_final) (fields_of (kinds_with types kinds.Struct) fields)

abbrev pub declared_array : Bool → Option ℕ → FieldWord → List Declaration → Option Declaration
declared_array is_final supertype element types =
    option_map (λ (f : FieldType). array_type f supertype is_final) (field_of (kinds_with types kinds.Array) element)

abbrev pub declared_exception : List ValueWord → List Declaration → Option Declaration
declared_exception params types = option_map (λ (ps : List ValType). exn_type ps) (values_of (kinds_with types kinds.Exn) params)
