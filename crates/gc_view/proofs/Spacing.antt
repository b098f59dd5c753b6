-- How the slots of an object lie to each other, and which of them a collection follows.
use Rattle.std.specs.Prelude.{ℕ, ◌+◌, ◌≤◌, List, [], ◌∷◌, map, filter}
use Rattle.gc_types.specs.declared.kind.Layouts.{Layouts}
use Rattle.gc_types.specs.Declarations.{Shape, struct_of, array_of, exn_of, func_of}
use Rattle.gc_types.specs.Layouts.{storage_width, is_gc_storage, struct_base, exception_base, array_base}
use Rattle.gc_view.specs.Slots.{StorageSlot}

-- where a slot ends
abbrev pub slot_end : StorageSlot → ℕ
slot_end slot = slot.offset + storage_width slot.storage

-- the first offset that a slot may have: behind the header, an array's length, and an exception's instance and tag
abbrev pub shape_first : Layouts → Shape → ℕ
shape_first layouts (struct_of fields) = struct_base layouts
shape_first layouts (array_of element) = array_base layouts
shape_first layouts (exn_of params) = exception_base layouts
shape_first layouts (func_of params results) = 0

-- the slots lie one behind the other, from the first offset up to the second
abbrev pub AreSpaced : ℕ → List StorageSlot → ℕ → Type 0
AreSpaced from [] to = from ≤ to
AreSpaced from (slot ∷ slots) to = (from ≤ slot.offset) × AreSpaced (slot_end slot) slots to

-- the slots that a collection follows
abbrev pub followed_slots : List StorageSlot → List StorageSlot
followed_slots slots = filter (λ (slot : StorageSlot). is_gc_storage slot.storage) slots

-- the offsets of the references among them, in order
abbrev pub slot_offsets : List StorageSlot → List ℕ
slot_offsets slots = map (λ (slot : StorageSlot). slot.offset) (followed_slots slots)
