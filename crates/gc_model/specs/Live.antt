-- Which handles are live.
use Rattle.std.specs.Prelude.{ℕ, ◌-◌, ◌^◌, ◌==◌, Bool, ◌||◌, nat_le, List, [], ◌∷◌, Option, Some, None, length, if◌then◌else◌}
use Rattle.gc_model.specs.Values.{Reference}
use Rattle.gc_model.specs.Table.{Table, Scoped}

-- what the root of that serial names, where it is among these
abbrev pub rooted_among : ℕ → List Scoped → Option Reference
rooted_among serial [] = None
rooted_among serial (root ∷ roots) = if root.serial == serial then Some root.reference else rooted_among serial roots

-- What the scoped root of that serial names; it is live exactly where this is present.
abbrev pub rooted : {D : Type 0} → Table D → ℕ → Option Reference
rooted t serial = rooted_among serial t.scoped

-- No further scoped root may be made: as many stand as may, or the count of scope ends is at its end.
abbrev pub roots_full : {D : Type 0} → Table D → Bool
roots_full t = nat_le t.max_scoped (length t.scoped) || (t.drops == 2 ^ 64 - 1)
