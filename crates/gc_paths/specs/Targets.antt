-- A shortest path to one object.
use Rattle.std.specs.Prelude.{◌≡◌, ◌+◌, ◌-◌, ◌<◌, ℕ, Bool, false, List, [], ◌∷◌, ◌++◌, Some, length, slice_get}
use Rattle.gc_model.specs.Table.{Table}
use Rattle.gc_model.specs.Words.{Placing}
use Rattle.gc_store.specs.declared.root_words.RootName.{RootName}
use Rattle.gc_paths.specs.declared.entry.PathEntry.{PathEntry}
use Rattle.gc_paths.specs.declared.entry.PathParent.TheVariants as parent
use Rattle.gc_paths.specs.Walks.{IsWalked, IsLeast}
use Rattle.gc_paths.specs.Reports.{Told, told_entries, IsEntry}
use Rattle.gc_paths.specs.Answers.{NeedsRoots, LacksRoots}

-- A path to a position: its entries come one from the other, the first from a root, and each has the least length of a walk,
-- which is its number; the last one is that of the position.
pub record IsPath {D : Type 0} (scoped : Bool) (t : Table D) (place : Placing) (told : List Told) (p : ℕ) : Type 0 where
  pub each : (i : ℕ) (x : Told) → slice_get told i ≡ Some x → IsEntry scoped t place told i x
  pub shortest : (i : ℕ) (x : Told) → slice_get told i ≡ Some x → IsLeast scoped t x.entry.length x.position
  pub lengths : (i : ℕ) (x : Told) → slice_get told i ≡ Some x → x.entry.length ≡ i
  pub target : Told
  pub at_last : slice_get told target.entry.length ≡ Some target
  pub none_behind : length told ≡ target.entry.length + 1
  pub position : target.position ≡ p

-- there is room for the roots that the walks need
pub record HasRootRoom {D : Type 0} (scoped : Bool) (t : Table D) : Type 0 where
  pub count : ℕ
  pub needs : NeedsRoots scoped t count
  pub room : ¬ LacksRoots t count

-- these entries are a path to the position
pub record FindsPath {D : Type 0} (t : Table D) (place : Placing) (p : ℕ) (result : List PathEntry) : Type 0 where
  pub told : List Told
  pub result_is : result ≡ told_entries told
  pub path : IsPath false t place told p
  pub room : HasRootRoom false t

-- there is no walk to the position
pub record LeadsNowhere {D : Type 0} (t : Table D) (p : ℕ) : Type 0 where
  pub none : ¬ IsWalked false t p
  pub room : HasRootRoom false t

-- an entry whose parent is the one before it
abbrev pub behind_parent : ℕ → ℕ → ℕ → PathEntry
behind_parent word length index = record { word = word; parent = parent.FromEntry (length - 1) index; length = length }

-- The path to the entry of a number, by the parents: it ends in that entry, whose parent is the one before it then.
pub data PathOf (es : List PathEntry) : ℕ → List PathEntry → Type 0 where
  at_root : {n : ℕ} (e : PathEntry) (name : RootName) → slice_get es n ≡ Some e → e.parent ≡ parent.FromRoot name → PathOf es n (e ∷ [])
  at_entry : {n number : ℕ} {path : List PathEntry} (e : PathEntry) (index : ℕ) → slice_get es n ≡ Some e → e.parent ≡ parent.FromEntry number index → PathOf es number path → PathOf es n (path ++ behind_parent e.word e.length index ∷ [])

-- each parent stands earlier, and is shorter
abbrev pub AreEarlier : List PathEntry → Type 0
AreEarlier es = (n : ℕ) (e : PathEntry) (number index : ℕ) → slice_get es n ≡ Some e → e.parent ≡ parent.FromEntry number index → (number < n) × (0 < e.length)
