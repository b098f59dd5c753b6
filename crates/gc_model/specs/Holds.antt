-- A store holds a table: its heap, its roots and its numbers stand for the table's.
use Rattle.std.specs.Prelude.{◌≡◌, Bool, ℕ, ◌+◌, ◌-◌, ◌*◌, ◌%◌, ◌<◌, ◌≤◌, ◌^◌, true, false, List, [], Some, length, slice_get}
use Rattle.std.specs.Ordering.{nat_cmp}
use Rattle.std.specs.FinMap as map
use Rattle.gc_types.specs.declared.value.FieldType.{FieldType}
use Rattle.gc_types.specs.declared.kind.Layouts.{Layouts}
use Rattle.gc_types.specs.declared.kind.Layouts.TheVariants.{Null, Counting, Copying}
use Rattle.gc_types.specs.Declarations.{Declaration}
use Rattle.gc_model.specs.Values.{Value, Object, object_values}
use Rattle.gc_model.specs.Reach.{IsKept}
use Rattle.gc_model.specs.Stored.{value_type}
use Rattle.gc_model.specs.Fits.{fits}
use Rattle.gc_model.specs.Table.{Table}
pub use Rattle.gc_model.specs.Words.{Placing, IsWord}
pub use Rattle.gc_model.specs.SideValues.{InternedIds, InternedBy}
pub use Rattle.gc_model.specs.Forms.{Names, naming}
pub use Rattle.gc_model.specs.RootPoints.{EntryBy, ScopedBy, IsPastBy, PushesBy, SlotBy, SlotsBy, FramesBy, GlobalsBy, OwnedRootBy, OwnedBy, PendingBy, IsException, ThrownBy}
use Rattle.gc_model.specs.Sizes.{next_after}
pub use Rattle.gc_model.specs.Standing.{Stands, HostStands, IsHostAt, HasHostValue, HostsBy}
use Rattle.gc_view.specs.Pages.{page, max_pages}
use Rattle.gc_owner.specs.declared.entry.RootEntry.{RootEntry}
use Rattle.gc_view.specs.Heaps.{HeapObject, HeapView}
use Rattle.gc_owner.specs.declared.entry.SlotEntry.{SlotEntry}
use Rattle.gc_model.specs.Stores.{StoreView}
use Rattle.gc_owner.specs.declared.entry.OwnedEntry.{OwnedEntry}

-- what stands at the place of a position
pub record HeldBy {D : Type 0} (layouts : Layouts) (types : List Declaration) (objects : List (Object D)) (names : Names) (content : map.FinMap nat_cmp HeapObject) (position word : ℕ) : Type 0 where
  pub object : HeapObject
  pub entry : Object D
  pub in_heap : map.get content word ≡ Some object
  pub in_table : slice_get objects position ≡ Some entry
  pub stands : Stands layouts types names entry object

-- The heap's objects are the table's: each placed position is held, each held place is some
-- position's, no two positions share a place, and places are even and not 0.
pub record ObjectsBy {D : Type 0} (layouts : Layouts) (types : List Declaration) (objects : List (Object D)) (names : Names) (content : map.FinMap nat_cmp HeapObject) : Type 0 where
  pub placed : (position word : ℕ) → names.place position ≡ Some word → HeldBy layouts types objects names content position word
  pub only : (word : ℕ) (object : HeapObject) → map.get content word ≡ Some object → (position : ℕ) × (names.place position ≡ Some word)
  pub injective : (p q word : ℕ) → names.place p ≡ Some word → names.place q ≡ Some word → p ≡ q
  pub even : (word : ℕ) (object : HeapObject) → map.get content word ≡ Some object → (word % 2 ≡ 0) × (0 < word)

-- a null heap holds every object, and goes on where the table says
pub record NullBy {D : Type 0} (types : List Declaration) (objects : List (Object D)) (place : Placing) (bytes : ℕ) : Type 0 where
  pub all_held : (position : ℕ) → position < length objects → (word : ℕ) × (place position ≡ Some word)
  pub allocated : bytes + 1 ≡ next_after types 1 objects

-- what one kind of heap owes alone
abbrev pub KindBy : {D : Type 0} → Layouts → List Declaration → List (Object D) → Placing → ℕ → Type 0
KindBy Null types objects place bytes = NullBy types objects place bytes
KindBy Counting types objects place bytes = Unit {0}
KindBy Copying types objects place bytes = Unit {0}

-- the configuration of the store is the table's: the first pages, and the greatest numbers of scoped and owned roots
pub record SettingsBy (pages pages' scoped scoped' owned owned' : ℕ) : Type 0 where
  pub first : pages ≡ pages'
  pub max_scoped : scoped ≡ scoped'
  pub max_owned : owned ≡ owned'
  pub first_fits : pages' ≤ max_pages
  pub few_roots : scoped' ≤ 2 ^ 31

-- the heap has a memory where the table's is made, with as many pages; before that there are no objects
pub record MemoryBy {D : Type 0} (attached : Bool) (bytes : ℕ) (is_made : Bool) (pages : ℕ) (objects : List (Object D)) : Type 0 where
  pub made : attached ≡ is_made
  pub capacity : bytes ≡ page * pages
  pub no_pages : is_made ≡ false → pages ≡ 0
  pub no_objects : is_made ≡ false → objects ≡ []

-- as many scope ends were counted, and no more scoped roots stand than may
pub record ScopesBy (ends drops count most : ℕ) : Type 0 where
  pub generation : ends ≡ drops
  pub scoped_within : count ≤ most
  pub drops_within : drops ≤ 2 ^ 64 - 1

-- a value of an object has a declared type, of a field or of the elements, and fits it, by the types and the objects
pub record IsTypedValue {D : Type 0} (types : List Declaration) (objects : List (Object D)) (object : Object D) (index : ℕ) (value : Value) : Type 0 where
  pub field : FieldType
  pub field_is : value_type types object index ≡ Some field
  pub is_fit : fits types objects field.element_type value ≡ true

-- each value of each object does
abbrev pub TypedBy : {D : Type 0} → List Declaration → List (Object D) → Type 0
TypedBy {D} types objects = (position index : ℕ) (object : Object D) (value : Value)
    → slice_get objects position ≡ Some object → slice_get (object_values object) index ≡ Some value → IsTypedValue types objects object index value

-- A fact at each point: as the types of the facts are parameters, a change of one part of a store hands the
-- other points on as they are.
pub record Points (Types Settings Memory Objects Kind Scopes Scoped Pushes Frames Globals Owned Pending Interned Hosts Typed : Type 0) : Type 0 where
  pub types : Types
  pub settings : Settings
  pub memory : Memory
  pub objects : Objects
  pub by_kind : Kind
  pub scopes : Scopes
  pub scoped : Scoped
  pub pushes : Pushes
  pub frames : Frames
  pub globals : Globals
  pub owned : Owned
  pub pending : Pending
  pub interned : Interned
  pub hosts : Hosts
  pub typed : Typed

module _ {D : Type 0} where
  -- the points at a table, each over the parts that it speaks of
  abbrev pub ObjectsHold : Layouts → Table D → Names → HeapView → Type 0
  ObjectsHold layouts t names heap = ObjectsBy layouts t.types t.objects names heap.content

  abbrev pub KindHolds : Layouts → Table D → Placing → HeapView → Type 0
  KindHolds layouts t place heap = KindBy layouts t.types t.objects place heap.allocated

  abbrev pub SettingsHold : StoreView D → Table D → Type 0
  SettingsHold s t = SettingsBy s.first t.first s.max_scoped t.max_scoped s.max_owned t.max_owned

  abbrev pub MemoryHolds : StoreView D → Table D → Type 0
  MemoryHolds s t = MemoryBy s.heap.attached s.heap.capacity t.made t.pages t.objects

  abbrev pub ScopesHold : StoreView D → Table D → Type 0
  ScopesHold s t = ScopesBy s.generation t.drops (length t.scoped) t.max_scoped

  abbrev pub ScopedHold : Table D → Placing → List RootEntry → Type 0
  ScopedHold t place entries = ScopedBy t.pushes place t.scoped entries

  abbrev pub PushesDiffer : Table D → Type 0
  PushesDiffer t = PushesBy t.pushes t.drops (length t.scoped)

  abbrev pub FramesHold : Table D → Placing → List (List SlotEntry) → Type 0
  FramesHold t place entries = FramesBy place t.frames entries

  abbrev pub GlobalsHold : Table D → Placing → List SlotEntry → Type 0
  GlobalsHold t place entries = GlobalsBy place t.globals entries

  abbrev pub OwnedHold : Table D → Placing → ℕ → List OwnedEntry → Type 0
  OwnedHold t place count entries = OwnedBy place t.owns count t.owned entries

  abbrev pub PendingHolds : Table D → Placing → ℕ → Type 0
  PendingHolds t place word = ThrownBy t.objects place t.pending word

  abbrev pub HostsHold : Table D → Placing → HeapView → map.FinMap nat_cmp D → Type 0
  HostsHold t place heap hosts = HostsBy t.objects place heap.content hosts

  -- the store holds the table under that placing
  abbrev pub Holds : Layouts → StoreView D → Table D → Placing → Type 0
  Holds layouts s t place = Points
      (s.types ≡ t.types)
      (SettingsHold s t)
      (MemoryHolds s t)
      (ObjectsHold layouts t (naming place s.ids) s.heap)
      (KindHolds layouts t place s.heap)
      (ScopesHold s t)
      (ScopedHold t place s.scoped)
      (PushesDiffer t)
      (FramesHold t place s.frames)
      (GlobalsHold t place s.globals)
      (OwnedHold t place s.owns s.owned)
      (PendingHolds t place s.pending)
      (InternedBy t.interned s.ids)
      (HostsHold t place s.heap s.hosts)
      (TypedBy t.types t.objects)

-- the store holds the table, wherever its objects lie
abbrev pub HoldsTable : {D : Type 0} → Layouts → StoreView D → Table D → Type 0
HoldsTable layouts s t = (place : Placing) × Holds layouts s t place

-- the same, and the heap holds no other object than a collection would keep
abbrev pub HoldsKept : {D : Type 0} → Layouts → StoreView D → Table D → Type 0
HoldsKept layouts s t = (place : Placing) × (Holds layouts s t place × ((p word : ℕ) → place p ≡ Some word → IsKept layouts t p))
