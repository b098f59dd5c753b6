-- The owned roots: each stands as long as it has handles.
use Rattle.std.specs.Prelude.{ℕ, ◌+◌, ◌-◌, ◌^◌, ◌==◌, Bool, ◌||◌, nat_le, not, List, [], ◌∷◌, ◌++◌, Option, Some, None, length, map, filter, if◌then◌else◌}
use Rattle.gc_model.specs.Values.{Reference}
use Rattle.gc_model.specs.Table.{Table, Owned}

-- one more owned root, with one handle; its number is how many were made before it
abbrev pub own : {D : Type 0} → Reference → Table D → Table D
own r t = record t { owned = t.owned ++ (record { number = t.owns; reference = r; handles = 1 }) ∷ []; owns = t.owns + 1 }

-- what the owned root of that number names, where it is among these
abbrev pub owned_among : ℕ → List Owned → Option Reference
owned_among number [] = None
owned_among number (root ∷ roots) = if root.number == number then Some root.reference else owned_among number roots

-- What the owned root of that number names; its handles are live exactly where this is present.
abbrev pub owned_reference : {D : Type 0} → Table D → ℕ → Option Reference
owned_reference t number = owned_among number t.owned

-- the owned root of that number has another number of handles
abbrev pub handles_changed : ℕ → (ℕ → ℕ) → List Owned → List Owned
handles_changed number change roots = map (λ (root : Owned). if root.number == number then record root { handles = change root.handles } else root) roots

-- those that have handles
abbrev pub handled_roots : List Owned → List Owned
handled_roots roots = filter (λ (root : Owned). not (root.handles == 0)) roots

-- the owned root of that number has one more handle
abbrev pub add_handle : {D : Type 0} → ℕ → Table D → Table D
add_handle number t = record t { owned = handles_changed number (λ n. n + 1) t.owned }

-- it has one fewer, and goes with its last
abbrev pub drop_handle : {D : Type 0} → ℕ → Table D → Table D
drop_handle number t = record t { owned = handled_roots (handles_changed number (λ n. n - 1) t.owned) }

-- No further owned root may be made: as many stand as may, or the count of those that were made is at its end.
abbrev pub owned_full : {D : Type 0} → Table D → Bool
owned_full t = nat_le t.max_owned (length t.owned) || (t.owns == 2 ^ 64 - 1)
