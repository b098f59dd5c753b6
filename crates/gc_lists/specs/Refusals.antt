-- Why calls on lists and maps are refused.
use Rattle.std.specs.Prelude.{◌≡◌, ◌⊎◌, ◌+◌, ◌-◌, ◌<◌, ◌≤◌, ◌^◌, ℕ, true, min, length}
use Rattle.gc_view.specs.Pages.{max_pages}
use Rattle.gc_model.specs.Allocation.{Limits, Rose, asked}
use Rattle.gc_model.specs.Table.{Table}
use Rattle.gc_model.specs.OwnedRoots.{owned_full}
use Rattle.gc_lists.specs.Frames.{most_objects}

-- fewer than so many scoped roots are left, or the count of scope ends is at its end
abbrev pub LacksScoped : {D : Type 0} → Table D → ℕ → Type 0
LacksScoped t count = (t.max_scoped < length t.scoped + count) ⊎ (t.drops ≡ 2 ^ 64 - 1)

-- why a call that makes objects, or copies a map out, may be refused a root, and one that also answers a version
abbrev pub LacksCallRoots : {D : Type 0} → Table D → Type 0
LacksCallRoots t = LacksScoped t most_objects

abbrev pub LacksOwned : {D : Type 0} → Table D → Type 0
LacksOwned t = (owned_full t ≡ true) ⊎ LacksCallRoots t

-- a limiter, asked or not, has lost none of the refusals that it counted, in 64 bits
abbrev pub CountsOn : Limits → Limits → Type 0
CountsOn limits limits' = min limits.refusals (2 ^ 64 - 1) ≤ limits'.refusals

-- Pages were refused within a call, for a need of so many bytes: the limiter counted that, between what it told before the call and after; or nobody was
-- asked, as they would be more than a heap may have.
abbrev pub RefusedInCall : {D : Type 0} → ℕ → Limits → Limits → Table D → Type 0
RefusedInCall need limits limits' t = Rose limits.refusals limits'.refusals ⊎ (max_pages < t.pages + asked t.pages need)
