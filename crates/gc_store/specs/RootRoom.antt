-- How many scoped roots may still be made.
use Rattle.std.specs.Prelude.{ℕ, ◌-◌, ◌^◌, ◌==◌, length, if◌then◌else◌}
use Rattle.gc_model.specs.Table.{Table}

-- none where the count of scope ends is at its end
abbrev pub roots_left : {D : Type 0} → Table D → ℕ
roots_left t = if t.drops == 2 ^ 64 - 1 then 0 else t.max_scoped - length t.scoped
