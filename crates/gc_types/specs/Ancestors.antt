-- What is kept of each declared type to find its ancestors quickly.
use Rattle.std.specs.Prelude.{ℕ, ◌≡◌, ◌<◌, ◌≤◌, ◌+◌, List, Option, Some, None, map, slice_get}
use Rattle.gc_types.specs.declared.ancestry.Entry.{Entry}
use Rattle.gc_types.specs.Subtyping.{Meets}

-- the supertypes of the entries, in order
abbrev pub entry_supers : List Entry → List (Option ℕ)
entry_supers entries = map (λ e. e.supertype) entries

-- the number of supertypes above a type, as its entry says
abbrev pub entry_depth : Option Entry → ℕ
entry_depth None = 0
entry_depth (Some e) = e.depth

abbrev pub depth_at : List Entry → ℕ → ℕ
depth_at entries i = entry_depth (slice_get entries i)

-- a type without a supertype has depth 0 and is its own farther ancestor; another lies one below its
-- supertype, which is older, as is the farther ancestor
abbrev pub IsAbove : List Entry → ℕ → Entry → Option ℕ → Type 0
IsAbove entries i e None = (e.depth ≡ 0) × (e.jump ≡ i)
IsAbove entries i e (Some p) = (p < i) × (e.depth ≡ depth_at entries p + 1) × (e.jump < i)

-- the entry of the type with index i
pub record IsPlaced (entries : List Entry) (i : ℕ) (e : Entry) : Type 0 where
  pub above : IsAbove entries i e e.supertype
  pub jump : Meets (entry_supers entries) i e.jump
  pub bounded : e.depth ≤ i

-- each entry tells its type's place
abbrev pub ArePlaced : List Entry → Type 0
ArePlaced entries = (i : ℕ) (e : Entry) → slice_get entries i ≡ Some e → IsPlaced entries i e
