-- The two halves of the memory of a copying heap.
use Rattle.std.specs.Prelude.{ℕ, ◌+◌, ◌==◌, Bool, if◌then◌else◌}
use Rattle.gc_heap.specs.Content.{half_of}

-- where the lower or the upper half begins, in a memory of so many bytes
abbrev pub half_start : ℕ → Bool → ℕ
half_start capacity upper = if upper then half_of capacity else 0

-- where it ends
abbrev pub half_end : ℕ → Bool → ℕ
half_end capacity upper = half_start capacity upper + half_of capacity

-- The bytes before the first object of a half, so that no object lies at 0. A half of no bytes has none.
abbrev pub half_skipped : ℕ → ℕ
half_skipped half = if half == 0 then 0 else 16

-- where its first object begins
abbrev pub half_first : ℕ → Bool → ℕ
half_first capacity upper = half_start capacity upper + half_skipped (half_of capacity)
