-- A report: each object to which there is a walk, once, with a shortest one, told entry by entry.
use Rattle.std.specs.Prelude.{◌≡◌, ◌≤◌, ◌<◌, ◌+◌, ℕ, Bool, List, Some, map, length, slice_get}
use Rattle.std.specs.List.{Contains}
use Rattle.gc_model.specs.Values.{at}
use Rattle.gc_model.specs.Reach.{AreAll}
use Rattle.gc_model.specs.Table.{Table}
use Rattle.gc_model.specs.Words.{Placing}
use Rattle.gc_paths.specs.declared.entry.PathEntry.{PathEntry}
use Rattle.gc_paths.specs.declared.entry.PathParent.{PathParent}
use Rattle.gc_paths.specs.declared.entry.PathParent.TheVariants as parent
use Rattle.gc_paths.specs.Walks.{start_root, start_roots, ValueNames, IsWalked, IsLeast}

-- an entry, with the position of the object that it tells of
pub record Told : Type 0 where
  pub position : ℕ
  pub entry : PathEntry

-- The entry of that number stands earlier and is one shorter, and its object's value of that index names the position.
pub record IsParent {D : Type 0} (t : Table D) (told : List Told) (i p length number index : ℕ) : Type 0 where
  pub earlier : number < i
  pub holder : Told
  pub there : slice_get told number ≡ Some holder
  pub shorter : length ≡ holder.entry.length + 1
  pub names : ValueNames t.objects holder.position index p

-- where the walk to an entry's object comes from: at length 0 from a root that names it, else from another entry
abbrev pub ComesFrom : {D : Type 0} → Bool → Table D → List Told → ℕ → ℕ → ℕ → PathParent → Type 0
ComesFrom scoped t told i p length (parent.FromRoot name) = (length ≡ 0) × Contains (start_roots scoped t) (start_root name (at p))
ComesFrom scoped t told i p length (parent.FromEntry number index) = IsParent t told i p length number index

-- an entry has its object's word, and tells where the walk comes from
pub record IsEntry {D : Type 0} (scoped : Bool) (t : Table D) (place : Placing) (told : List Told) (i : ℕ) (x : Told) : Type 0 where
  pub word : place x.position ≡ Some x.entry.word
  pub from : ComesFrom scoped t told i x.position x.entry.length x.entry.parent

abbrev pub positions : List Told → List ℕ
positions told = map (λ (x : Told). x.position) told

abbrev pub told_entries : List Told → List PathEntry
told_entries told = map (λ (x : Told). x.entry) told

-- Each object to which there is a walk is told once, and no other; lengths rise, and each is the least of a walk.
pub record IsReport {D : Type 0} (scoped : Bool) (t : Table D) (place : Placing) (told : List Told) : Type 0 where
  pub objects : AreAll (IsWalked scoped t) (positions told)
  pub rising : (i j : ℕ) (x y : Told) → i < j → slice_get told i ≡ Some x → slice_get told j ≡ Some y → x.entry.length ≤ y.entry.length
  pub each : (i : ℕ) (x : Told) → slice_get told i ≡ Some x → IsEntry scoped t place told i x
  pub shortest : (i : ℕ) (x : Told) → slice_get told i ≡ Some x → IsLeast scoped t x.entry.length x.position
