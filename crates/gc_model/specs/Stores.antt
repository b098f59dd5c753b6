-- What contracts see of a store.
use Rattle.std.specs.Prelude.{ℕ, List, [], Option, replicate}
use Rattle.std.specs.Ordering.{nat_cmp}
use Rattle.std.specs.FinMap as map
use Rattle.gc_types.specs.Declarations.{Declaration}
use Rattle.gc_view.specs.Heaps.{HeapView, detached}
use Rattle.gc_owner.specs.declared.entry.RootEntry.{RootEntry}
use Rattle.gc_owner.specs.declared.entry.OwnedEntry.{OwnedEntry}
use Rattle.gc_owner.specs.declared.entry.SlotEntry.{SlotEntry}
use Rattle.gc_owner.specs.RootColumns.{global_count, empty_slot}
pub use Rattle.gc_model.specs.SideValues.{InternedIds}
use Rattle.gc_model.specs.SideValues.{no_ids}

-- the globals of which none was set
abbrev pub unset_globals : List SlotEntry
unset_globals = replicate global_count empty_slot

-- A store: its id, its types, its heap, its host values by their ids, its scoped roots, its generation,
-- its frames and globals, its owned roots and how many were made, the word of the pending exception (0 where
-- there is none), its function values and continuations by their ids, the bytes that were allocated after its last
-- collection, how many allocations it counted, for how many more scoped roots it has room, its configuration, and
-- the pairs of types of which it keeps whether the first is the second or one of its subtypes.
pub record StoreView (D : Type 0) : Type 0 where
  pub engine : ℕ
  pub number : ℕ
  pub types : List Declaration
  pub heap : HeapView
  pub hosts : map.FinMap nat_cmp D
  pub scoped : List RootEntry
  pub generation : ℕ
  pub frames : List (List SlotEntry)
  pub globals : List SlotEntry
  pub owned : List OwnedEntry
  pub owns : ℕ
  pub pending : ℕ
  pub ids : InternedIds
  pub last : ℕ
  pub tries : ℕ
  pub spare : ℕ
  pub first : ℕ
  pub max_scoped : ℕ
  pub max_owned : ℕ
  pub alloc_counter : Option ℕ
  pub kept_pairs : List (ℕ × ℕ)

-- what is seen of a store with nothing in it
abbrev pub empty_store : {D : Type 0} → ℕ → ℕ → ℕ → ℕ → ℕ → Option ℕ → StoreView D
empty_store engine number first max_scoped max_owned alloc_counter = record {
  engine = engine;
  number = number;
  types = [];
  heap = detached;
  hosts = map.empty;
  scoped = [];
  generation = 0;
  frames = [];
  globals = unset_globals;
  owned = [];
  owns = 0;
  pending = 0;
  ids = no_ids;
  last = 0;
  tries = 0;
  spare = 0;
  first = first;
  max_scoped = max_scoped;
  max_owned = max_owned;
  alloc_counter = alloc_counter;
  kept_pairs = [];
}

-- the store with another value under an id of a host value
abbrev pub with_host_at : {D : Type 0} → ℕ → D → StoreView D → StoreView D
with_host_at id w s = record s { hosts = map.insert s.hosts id w }
