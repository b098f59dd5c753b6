-- Where the next object goes after a growth.
use Rattle.std.specs.Prelude.{ℕ, ◌==◌, if◌then◌else◌}
use Rattle.gc_copying.specs.Spaces.{half_skipped}

-- in a memory that now has so many bytes; a bump place of 0 says that there were none
abbrev pub bump_in_more : ℕ → ℕ → ℕ
bump_in_more bump capacity = if bump == 0 then half_skipped capacity else bump
