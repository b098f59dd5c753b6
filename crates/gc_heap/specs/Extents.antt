-- How many bytes an object takes, and where its data begins.
use Rattle.std.specs.Prelude.{length, ℕ, ◌+◌, ◌-◌}
use Rattle.gc_types.specs.declared.kind.VMGcKind.TheVariants.{AnyRef, ArrayRef, EqRef, ExnRef, ExternRef, StructRef}
use Rattle.gc_types.specs.declared.kind.Layouts.{Layouts}
use Rattle.gc_types.specs.declared.kind.VMGcKind.{VMGcKind}
use Rattle.gc_types.specs.Layouts.{array_base, exception_base, struct_base}
use Rattle.gc_memory.specs.Offsets.{external_size, host_id_offset, stored_size}
use Rattle.gc_view.specs.Heaps.{HeapObject}
use Rattle.gc_view.specs.Bytes.{u32_at}

-- where the data of an object begins, counted from its first byte
abbrev pub data_offset : Layouts → VMGcKind → ℕ
data_offset layouts ExternRef = host_id_offset layouts
data_offset layouts AnyRef = struct_base layouts
data_offset layouts EqRef = struct_base layouts
data_offset layouts StructRef = struct_base layouts
data_offset layouts ArrayRef = struct_base layouts
data_offset layouts ExnRef = struct_base layouts

-- the first offset that a field or an element may take; behind an array's length, and behind an
-- exception's instance and tag
abbrev pub first_offset : Layouts → VMGcKind → ℕ
first_offset layouts ExternRef = host_id_offset layouts + 4
first_offset layouts AnyRef = struct_base layouts
first_offset layouts EqRef = struct_base layouts
first_offset layouts StructRef = struct_base layouts
first_offset layouts ArrayRef = array_base layouts
first_offset layouts ExnRef = exception_base layouts

-- where the part of an object begins that its holder may write: an exception's instance and tag are
-- in it, an array's length is not
abbrev pub writable_offset : Layouts → VMGcKind → ℕ
writable_offset layouts ExternRef = stored_size layouts (external_size layouts)
writable_offset layouts AnyRef = struct_base layouts
writable_offset layouts EqRef = struct_base layouts
writable_offset layouts StructRef = struct_base layouts
writable_offset layouts ArrayRef = array_base layouts
writable_offset layouts ExnRef = struct_base layouts

-- the bytes of an object of that kind with so many bytes of data
abbrev pub size_with : Layouts → VMGcKind → ℕ → ℕ
size_with layouts ExternRef n = stored_size layouts (external_size layouts)
size_with layouts AnyRef n = struct_base layouts + n
size_with layouts EqRef n = struct_base layouts + n
size_with layouts StructRef n = struct_base layouts + n
size_with layouts ArrayRef n = struct_base layouts + n
size_with layouts ExnRef n = struct_base layouts + n

-- the bytes of an object, as its heap keeps it
abbrev pub held_size : Layouts → HeapObject → ℕ
held_size layouts o = size_with layouts o.kind (length o.bytes)

-- the length of an array
abbrev pub array_length : HeapObject → ℕ
array_length o = u32_at o.bytes 0

-- the host id of an external object: the number that lies there is the id plus 1
abbrev pub host_id : HeapObject → ℕ
host_id o = u32_at o.bytes 0 - 1

-- a kind that objects have
abbrev pub IsObjectKind : VMGcKind → Type 0
IsObjectKind ExternRef = Unit {0}
IsObjectKind AnyRef = ⊥
IsObjectKind EqRef = ⊥
IsObjectKind StructRef = Unit {0}
IsObjectKind ArrayRef = Unit {0}
IsObjectKind ExnRef = Unit {0}

-- the kind of a struct, an array or an exception
abbrev pub HasFields : VMGcKind → Type 0
HasFields ExternRef = ⊥
HasFields AnyRef = ⊥
HasFields EqRef = ⊥
HasFields StructRef = Unit {0}
HasFields ArrayRef = Unit {0}
HasFields ExnRef = Unit {0}
