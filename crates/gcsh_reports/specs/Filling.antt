-- What becomes of inserts into a map of heap objects that are made one behind the other.
use Rattle.std.specs.Prelude.{◌≡◌, ◌+◌, ◌%◌, ℕ, ℤ, pos, suc, zero, true, List, [], ◌∷◌, Option, Some, None, Result, Ok, Err}
use Rattle.std.specs.List.{Contains}
use Rattle.std.specs.FinMap as finite
use Rattle.gc_types.specs.declared.kind.Layouts.{Layouts}
use Rattle.gc_model.specs.Allocation.{Limits, MayHave}
use Rattle.gc_model.specs.Holds.{HoldsTable}
use Rattle.gc_model.specs.Stores.{StoreView}
use Rattle.gc_model.specs.Reach.{root_references}
use Rattle.gc_model.specs.Table.{Table, Owned}
use Rattle.gc_model.specs.Values.{Reference, at}
use Rattle.gc_model.specs.Accounts.{Account, HoldsAccount}
use Rattle.gc_values.specs.declared.root.GcRootIndex.{GcRootIndex}
use Rattle.gc_store.specs.Stores.{IsSameStore}
use Rattle.gc_lists.specs.declared.fault.ListFault.{ListFault}
use Rattle.gc_lists.specs.declared.fault.ListFault.TheVariants as fault
use Rattle.gc_lists.specs.declared.kit.Kit.{Kit}
use Rattle.gc_lists.specs.Answers.{Releases}
use Rattle.gc_lists.specs.Kits.{IsKit, is_kit_of}
use Rattle.gc_maps.specs.declared.map.HeapMap.{HeapMap}
use Rattle.gc_maps.specs.Answers.{AnswersMap}
use Rattle.gc_maps.specs.Maps.{IntMap, StandsForMapOf}
use Rattle.gcsh_reports.specs.declared.fill.Filled.{Filled}
use Rattle.gcsh_reports.specs.Seeds.{seed_of}

-- a map may get this many inserts
abbrev pub max_inserts : ℕ
max_inserts = 100000

-- keys are below this number
abbrev pub key_count : ℕ
key_count = 1000

-- the key of the insert with that number, of so many
abbrev pub insert_key : ℕ → ℕ → ℤ
insert_key inserts number = pos (seed_of inserts number % key_count)

-- How far inserts have come: what is seen of the store, what the limiter tells, the version that stands for the entries, and how many were refused.
pub record InsertProgress : Type 0 where
  pub store : StoreView ℕ
  pub limits : Limits
  pub version : Option GcRootIndex
  pub entries : IntMap
  pub refused : ℕ

-- so where that struct tells it
abbrev pub progress_of : StoreView ℕ → Limits → Filled → IntMap → InsertProgress
progress_of store limits filled m = record { store = store; limits = limits; version = filled.map.root; entries = m; refused = filled.refused }

-- the store holds some table, whose pages a limit grants
pub record HoldsWithin (layouts : Layouts) (limit : Option ℕ) (s : StoreView ℕ) : Type 0 where
  pub table : Table ℕ
  pub holds : HoldsTable layouts s table
  pub within : MayHave limit table.pages

-- the owned root of a version, which has one handle, and none where it is empty
abbrev pub owned_of : Option GcRootIndex → Reference → List Owned
owned_of None r = []
owned_of (Some handle) r = record { number = handle.generation; reference = r; handles = 1 } ∷ []

-- a version's owned root is the only one, and no other root names an object
pub record IsAlone (t : Table ℕ) (version : Option GcRootIndex) (r : Reference) : Type 0 where
  pub owned : t.owned ≡ owned_of version r
  pub others : (p : ℕ) → ¬ Contains (root_references (record t { owned = [] })) (at p)

-- the kit and the version stand, and this alone, in some table that the store holds, whose pages a limit grants
pub record HoldsProgress (layouts : Layouts) (limit : Option ℕ) (kit : Kit) (p : InsertProgress) : Type 0 where
  pub table : Table ℕ
  pub account : Account
  pub holds : HoldsAccount layouts p.store table account
  pub kit_is : IsKit table.types kit
  pub kit_of : is_kit_of p.store kit ≡ true
  pub stands : StandsForMapOf p.store table p.version kit.node p.entries
  pub within : MayHave limit table.pages
  pub alone : IsAlone table p.version stands.reference

-- before the first one
abbrev pub begin_at : StoreView ℕ → Limits → InsertProgress
begin_at store limits = record { store = store; limits = limits; version = None; entries = finite.from_sorted []; refused = 0 }

-- what an insert into the version answers and leaves under a limit of pages, in each table that the store holds and in which the version
-- stands for the entries, by what the limiter tells before and after
abbrev pub Inserts : Layouts → Option ℕ → Kit → ℤ → ℤ → InsertProgress → Result HeapMap ListFault → Limits → StoreView ℕ → Type 0
Inserts layouts limit kit key value p result limits' new = (t : Table ℕ) (a : Account) → HoldsAccount layouts p.store t a → StandsForMapOf p.store t p.version kit.node p.entries
    → (limits'.limit ≡ limit) × AnswersMap layouts p.store.alloc_counter kit (finite.insert p.entries key value) t p.limits limits' result new

-- what giving up a version leaves
abbrev pub GivesUp : Layouts → StoreView ℕ → Option GcRootIndex → StoreView ℕ → Type 0
GivesUp layouts old version new = (t : Table ℕ) (a : Account) → HoldsAccount layouts old t a → Releases layouts old t a version new

-- a refusal that is counted: roots or room for nodes are wanting
abbrev pub IsCountedRefusal : ListFault → Type 0
IsCountedRefusal fault.WrongStore = ⊥
IsCountedRefusal fault.RootsFull = Unit {0}
IsCountedRefusal (fault.HeapOutOfMemory f) = Unit {0}
IsCountedRefusal fault.Memory = ⊥

-- An insert was taken, and then the version before was given up; or it was refused, and the version stays. The store is the same one.
pub data InsertStep (layouts : Layouts) (limit : Option ℕ) (kit : Kit) (key value : ℤ) (p q : InsertProgress) : Type 0 where
  taken : (map : HeapMap) (between : StoreView ℕ) → Inserts layouts limit kit key value p (Ok map) q.limits between → GivesUp layouts between p.version q.store
      → IsSameStore p.store between → IsSameStore between q.store
      → q ≡ record { store = q.store; limits = q.limits; version = map.root; entries = finite.insert p.entries key value; refused = p.refused } → InsertStep layouts limit kit key value p q
  refused : (why : ListFault) → Inserts layouts limit kit key value p (Err why) q.limits q.store → IsCountedRefusal why → IsSameStore p.store q.store
      → q ≡ record p { store = q.store; limits = q.limits; refused = p.refused + 1 } → InsertStep layouts limit kit key value p q

-- so many of the inserts were made, whose values are their numbers, where a limiter told these limits at first
abbrev pub Fills : Layouts → Limits → Kit → ℕ → StoreView ℕ → ℕ → InsertProgress → Type 0
Fills layouts limits kit inserts start zero q = q ≡ begin_at start limits
Fills layouts limits kit inserts start (suc k) q =
    (p : InsertProgress) × (Fills layouts limits kit inserts start k p × InsertStep layouts limits.limit kit (insert_key inserts (suc k)) (pos (suc k)) p q)

-- an insert on the way came to this, and all stands still
pub record InsertGoes (layouts : Layouts) (limit : Option ℕ) (kit : Kit) (key value : ℤ) (p : InsertProgress) (store : StoreView ℕ) (limits' : Limits) (filled : Filled) : Type 0 where
  pub entries : IntMap
  pub step : InsertStep layouts limit kit key value p (progress_of store limits' filled entries)
  pub held : HoldsProgress layouts limit kit (progress_of store limits' filled entries)

-- so did the first so many of the inserts
pub record FillsUpTo (layouts : Layouts) (limits : Limits) (kit : Kit) (inserts : ℕ) (start : StoreView ℕ) (done : ℕ) (store : StoreView ℕ) (limits' : Limits) (filled : Filled) : Type 0 where
  pub entries : IntMap
  pub fills : Fills layouts limits kit inserts start done (progress_of store limits' filled entries)
  pub held : HoldsProgress layouts limits.limit kit (progress_of store limits' filled entries)
