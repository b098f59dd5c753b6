-- Where the words of an object lie, counted from its first byte.
use Rattle.std.specs.Prelude.{ℕ, ◌+◌}
use Rattle.gc_types.specs.declared.kind.Layouts.{Layouts}
use Rattle.gc_types.specs.Layouts.{struct_base}
pub use Rattle.gc_view.specs.Sizes.{stored_size, host_id_offset, external_size}

-- the type word of a header; its kind word is at 0
abbrev pub type_word_offset : ℕ
type_word_offset = 4

-- the bytes of a header
abbrev pub header_size : ℕ
header_size = 8

-- the number of elements of an array
abbrev pub array_length_offset : Layouts → ℕ
array_length_offset layouts = struct_base layouts

-- the instance and the number of an exception's tag
abbrev pub exception_instance_offset : Layouts → ℕ
exception_instance_offset layouts = struct_base layouts

abbrev pub exception_tag_offset : Layouts → ℕ
exception_tag_offset layouts = struct_base layouts + 4

-- an object of the counting heap: how many references to it are counted, its size, the next object of
-- the list of those that were shown, and the next of those that wait
abbrev pub count_offset : ℕ
count_offset = 8

abbrev pub list_offset : ℕ
list_offset = 16

abbrev pub counting_size_offset : ℕ
counting_size_offset = 20

abbrev pub link_offset : ℕ
link_offset = 24

-- an object of the copying heap: its size; where it went, while a collection copies; and of an external
-- object the next one
abbrev pub copying_size_offset : ℕ
copying_size_offset = 8

abbrev pub forwarding_offset : ℕ
forwarding_offset = 12

abbrev pub next_external_offset : ℕ
next_external_offset = 20
