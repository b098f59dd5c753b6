-- How large an object is in each kind of heap, and how many bytes a heap wants where it has no room.
use Rattle.std.specs.Prelude.{ℕ, ◌+◌, ◌-◌, ◌*◌, ◌^◌, ◌≤◌, Bool, nat_le}
use Rattle.gc_types.specs.declared.kind.Layouts.{Layouts}
use Rattle.gc_types.specs.declared.kind.Layouts.TheVariants.{Null, Counting, Copying}
use Rattle.gc_types.specs.Layouts.{round_up}

-- every object of a heap begins at a multiple of this many bytes
abbrev pub alignment : ℕ
alignment = 16

-- What one kind of heap makes of sizes, in bytes: where the id of the host value of an external object
-- lies, and how large that object is; what the heap keeps for an object of a size; the least size that no
-- heap of the kind can hold; and by how much a heap without room for a size has to grow, so that it fits.
pub record SizeRules : Type 0 where
  pub host_id_at : ℕ
  pub external : ℕ
  pub stored : ℕ → ℕ
  pub limit : ℕ
  pub need : ℕ → ℕ

-- The null heap keeps an object's size in the spare bits of its header, which tell no greater one.
abbrev pub null_sizes : SizeRules
null_sizes = record {
  host_id_at = 8;
  external = 12;
  stored = λ size. size;
  limit = 67108864;
  need = λ size. size + 16;
}

-- The counting heap's blocks are whole multiples of 16, and their size is a number of 32 bits.
abbrev pub counting_sizes : SizeRules
counting_sizes = record {
  host_id_at = 28;
  external = 32;
  stored = λ size. size;
  limit = 2 ^ 32 - 16;
  need = λ size. round_up size alignment + 16;
}

-- The copying heap's objects are whole multiples of 16, and their size is a number of 32 bits. It wants
-- room in both halves, behind the bytes that each of them skips.
abbrev pub copying_sizes : SizeRules
copying_sizes = record {
  host_id_at = 16;
  external = 24;
  stored = λ size. round_up size alignment;
  limit = 2 ^ 32 - 15;
  need = λ size. 2 * round_up size alignment + 32;
}

abbrev pub size_rules : Layouts → SizeRules
size_rules Null = null_sizes
size_rules Counting = counting_sizes
size_rules Copying = copying_sizes

-- where the id of the host value of an external object lies
abbrev pub host_id_offset : Layouts → ℕ
host_id_offset layouts = (size_rules layouts).host_id_at

-- the bytes of an external object
abbrev pub external_size : Layouts → ℕ
external_size layouts = (size_rules layouts).external

-- the bytes that a heap keeps for an object of that size
abbrev pub stored_size : Layouts → ℕ → ℕ
stored_size layouts size = (size_rules layouts).stored size

-- An object of that size is too large for any heap of the kind.
abbrev pub IsTooLarge : Layouts → ℕ → Type 0
IsTooLarge layouts size = (size_rules layouts).limit ≤ size

-- whether it is
abbrev pub too_large : Layouts → ℕ → Bool
too_large layouts size = nat_le (size_rules layouts).limit size

-- the bytes that a heap without room for an object of that size has to grow by, so that it fits
abbrev pub need_of : Layouts → ℕ → ℕ
need_of layouts size = (size_rules layouts).need size
