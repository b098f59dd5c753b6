-- What the calls answer and leave.
use Rattle.std.specs.Prelude.{◌≡◌, ◌⊎◌, ◌<◌, ◌+◌, ◌-◌, ◌^◌, ℕ, Bool, not, min, List, [], ◌∷◌, ◌++◌, Option, Some, None, length, count_by, sum_by, slice_get}
use Rattle.gc_types.specs.declared.kind.Layouts.{Layouts}
use Rattle.gc_model.specs.Values.{Reference, Object}
use Rattle.gc_model.specs.Reads.{is_null}
use Rattle.gc_model.specs.Reach.{AreAll, references_in}
use Rattle.gc_model.specs.Table.{Table, Push}
use Rattle.gc_model.specs.Words.{Placing}
use Rattle.gc_model.specs.Stores.{StoreView}
use Rattle.gc_model.specs.Accounts.{Account}
use Rattle.gc_store.specs.OwnedWords.{HoldsThere}
use Rattle.gc_paths.specs.declared.entry.PathEntry.{PathEntry}
use Rattle.gc_paths.specs.declared.fault.PathFault.{PathFault}
use Rattle.gc_paths.specs.declared.fault.PathFault.TheVariants as fault
use Rattle.gc_paths.specs.Walks.{start_references, IsWalked}
use Rattle.gc_paths.specs.Reports.{Told, told_entries, IsReport}

-- how many references aren't null
abbrev pub present_count : List Reference → ℕ
present_count references = count_by (λ r. not (is_null r)) references

-- how many references of the object at a position aren't null
abbrev pub held_count : {D : Type 0} → Option (Object D) → ℕ
held_count None = 0
held_count (Some o) = present_count (references_in o)

-- How many roots a call pushes that looks at each root and at each reference of the objects to which there is a walk: one
-- for each that isn't null.
pub record NeedsRoots {D : Type 0} (scoped : Bool) (t : Table D) (count : ℕ) : Type 0 where
  pub walked : List ℕ
  pub are : AreAll (IsWalked scoped t) walked
  pub count_is : count ≡ present_count (start_references scoped t) + sum_by (λ p. held_count (slice_get t.objects p)) walked

-- So many further scoped roots can't stand: they pass what may stand, or the scope ends are counted to their end and there
-- is one to be pushed.
abbrev pub LacksRoots : {D : Type 0} → Table D → ℕ → Type 0
LacksRoots t count = (t.max_scoped < length t.scoped + count) ⊎ ((t.drops ≡ 2 ^ 64 - 1) × (0 < count))

-- the scope ends that dropped a root, after one that dropped the roots of these pushes
abbrev pub drops_after : ℕ → List Push → ℕ
drops_after drops [] = drops
drops_after drops (p ∷ ps) = min (drops + 1) (2 ^ 64 - 1)

-- Roots were pushed and are gone. Nothing else changed, and the objects lie where they lay.
pub record OnlyPushed {D : Type 0} (layouts : Layouts) (t : Table D) (place : Placing) (a : Account) (new : StoreView D) : Type 0 where
  pub more : List Push
  pub holds : HoldsThere layouts new (record t { pushes = t.pushes ++ more; drops = drops_after t.drops more }) place a

-- the entries are those of a report, for which there is room
pub record Reports {D : Type 0} (scoped : Bool) (t : Table D) (place : Placing) (result : List PathEntry) : Type 0 where
  pub told : List Told
  pub result_is : result ≡ told_entries told
  pub report : IsReport scoped t place told
  pub count : ℕ
  pub needs : NeedsRoots scoped t count
  pub room : ¬ LacksRoots t count

-- there is no room for the roots that the walks need
abbrev pub IsFull : {D : Type 0} → Bool → Table D → Type 0
IsFull scoped t = (count : ℕ) × (NeedsRoots scoped t count × LacksRoots t count)

-- why no report is answered
abbrev pub RefusesPaths : {D : Type 0} → Bool → Table D → PathFault → Type 0
RefusesPaths scoped t fault.WrongStore = ⊥
RefusesPaths scoped t fault.Unrooted = ⊥
RefusesPaths scoped t fault.NoObject = ⊥
RefusesPaths scoped t fault.RootsFull = IsFull scoped t
RefusesPaths scoped t fault.Memory = Unit {0}
