-- What calls on lists and maps change of the table, and nothing more.
use Rattle.std.specs.Prelude.{◌≡◌, ◌≤◌, ◌-◌, ◌^◌, min, ℕ, true, List, ◌++◌, Option, All, length}
use Rattle.gc_types.specs.declared.kind.Layouts.{Layouts}
use Rattle.gc_model.specs.Values.{Object}
use Rattle.gc_model.specs.Allocation.{MayHave}
use Rattle.gc_model.specs.Table.{Table, Owned, Push, made_pages}
use Rattle.gc_model.specs.Stores.{StoreView}
use Rattle.gc_model.specs.Accounts.{Account, HoldsAccount}
use Rattle.gc_lists.specs.declared.kit.Kit.{Kit}
use Rattle.gc_lists.specs.Cells.{IsOfKit}

-- how many objects a call makes at most, and how many scoped roots it may need beside those of a list's cells
abbrev pub most_objects : ℕ
most_objects = 1024

-- What is counted never falls: the scope ends that dropped a root, up to 2^64 - 1, and the owned roots that were made. So no handle comes again.
pub record CountsStay {D : Type 0} (t after : Table D) : Type 0 where
  pub drops : min t.drops (2 ^ 64 - 1) ≤ after.drops
  pub owns : t.owns ≤ after.owns

-- Roots were pushed and are gone, owned roots may have been made, and these stand now.
pub record ChangesOwned {D : Type 0} (t : Table D) (owned : List Owned) (after : Table D) : Type 0 where
  pub pushes : List Push
  pub counts : CountsStay t after
  pub rest : after ≡ record t { pushes = t.pushes ++ pushes; drops = after.drops; owns = after.owns; owned = owned }

-- The heap has the pages that it had; or it was made or has grown, lost none, and has no more than a limit that is told grants.
pub data KeepsLimit {D : Type 0} (limit : Option ℕ) (t after : Table D) : Type 0 where
  unchanged : after.made ≡ t.made → after.pages ≡ t.pages → KeepsLimit limit t after
  granted : after.made ≡ true → made_pages t ≤ after.pages → MayHave limit after.pages → KeepsLimit limit t after

-- The same, and at most so many objects were made, cells or nodes of the kit, for which the heap may have got pages, under a limit.
pub record ChangesObjects {D : Type 0} (limit : Option ℕ) (kit : Kit) (most : ℕ) (t : Table D) (owned : List Owned) (after : Table D) : Type 0 where
  pub made : List (Object D)
  pub few : length made ≤ most
  pub of_kit : All (IsOfKit kit) made
  pub pushes : List Push
  pub counts : CountsStay t after
  pub rest : after
      ≡ record t { objects = t.objects ++ made; pushes = t.pushes ++ pushes; drops = after.drops; owns = after.owns; owned = owned; made = after.made; pages = after.pages }
  pub pages : KeepsLimit limit t after

-- the store holds a table that a call so changed
pub record Leaves {D : Type 0} (layouts : Layouts) (Changed : Table D → Type 0) (new : StoreView D) : Type 0 where
  pub after : Table D
  pub account : Account
  pub holds : HoldsAccount layouts new after account
  pub changed : Changed after
