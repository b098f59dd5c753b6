-- What a store's calls do, for every table that it held.
use Rattle.std.specs.Prelude.{◌≡◌, ℕ, ◌+◌, ◌-◌, ◌^◌, ◌==◌, ◌||◌, nat_le, Bool, true, false, List, [], Result, Ok, Err, length}
use Rattle.std.specs.Option.{option_map}
use Rattle.std.specs.Int.NonZero.{non_zero_u32_get}
use Rattle.gc_types.specs.declared.kind.Layouts.{Layouts}
use Rattle.gc_types.specs.declared.types.TypeFault.{TypeFault}
use Rattle.gc_types.specs.declared.types.TypeFault.TheVariants as type_fault
use Rattle.gc_types.specs.Declarable.{Declarable}
use Rattle.gc_types.specs.Declarations.{Declaration, TypeName}
use Rattle.gc_model.specs.Table.{Table, start, declare}
use Rattle.gc_model.specs.SideValues.{InternedIds, no_ids}
use Rattle.gc_model.specs.Stores.{StoreView, unset_globals, empty_store}
use Rattle.gc_model.specs.Accounts.{Account, no_account, HoldsAccount}
use Rattle.gc_owner.specs.Owners.{OwnerView}
use Rattle.gc_model.specs.Shown.{shown}
use Rattle.gc_values.specs.declared.engine.StoreId.{StoreId}
use Rattle.gc_values.specs.declared.config.HeapConfig.{HeapConfig}
use Rattle.gc_values.specs.declared.interned.InternedValues.{InternedValues}
use Rattle.gc_values.specs.declared.subtypes.AskedPairs.{AskedPairs}
use Rattle.gc_values.specs.Interning.{ids_of}
use Rattle.gc_values.specs.SlotCounts.{slot_counts}
use Rattle.gc_values.specs.Subtypes.{pairs_of}

-- What a store keeps beside its heap's owner: the ids of what is interned, and the pairs of types that it was asked of.
pub record StoreTables : Type 0 where
  pub ids : InternedIds
  pub kept_pairs : List (ℕ × ℕ)

abbrev pub tables_by : InternedIds → AskedPairs → StoreTables
tables_by ids asked = record { ids = ids; kept_pairs = pairs_of asked }

abbrev pub tables_of : InternedValues → AskedPairs → StoreTables
tables_of interned asked = tables_by (ids_of interned) asked

-- what is seen of a store with these parts
abbrev pub store_view : {D : Type 0} → StoreId → HeapConfig → StoreTables → OwnerView D → ℕ → StoreView D
store_view id config tables v tries =
    shown (record (empty_store id.engine id.number config.first_pages config.max_scoped config.max_owned (option_map non_zero_u32_get config.alloc_counter)) { ids = tables.ids; tries = tries; kept_pairs = tables.kept_pairs }) v

-- the store with another configuration
abbrev pub configured : {D : Type 0} → HeapConfig → StoreView D → StoreView D
configured config s = record s { first = config.first_pages; max_scoped = config.max_scoped; max_owned = config.max_owned; alloc_counter = option_map non_zero_u32_get config.alloc_counter }

-- No collection is under way, the store holds some table with some account, its types carry its id, and its open
-- frames have so many slots each.
pub record IsSoundStore (D : Type 0) (layouts : Layouts) (counts : List ℕ) (v : OwnerView D) (s : StoreView D) : Type 0 where
  pub idle : v.idle ≡ true
  pub engine : v.types.engine ≡ s.engine
  pub number : v.types.number ≡ s.number
  pub frames : counts ≡ slot_counts s.frames
  pub table : Table D
  pub account : Account
  pub holds : HoldsAccount layouts s table account

-- the store holds the empty table with the numbers of its configuration, and counted no allocation
abbrev pub HoldsStart : (D : Type 0) → Layouts → StoreView D → Type 0
HoldsStart D layouts s = HoldsAccount layouts s (start {D = D} s.first s.max_scoped s.max_owned) no_account

-- the store shows no type, root, scope end, frame, set global, pending exception, function value, continuation, memory or
-- allocation, and no owned root was made
pub record ShowsNothing {D : Type 0} (s : StoreView D) : Type 0 where
  pub tries : s.tries ≡ 0
  pub types : s.types ≡ []
  pub scoped : s.scoped ≡ []
  pub generation : s.generation ≡ 0
  pub frames : s.frames ≡ []
  pub globals : s.globals ≡ unset_globals
  pub pending : s.pending ≡ 0
  pub owns : s.owns ≡ 0
  pub ids : s.ids ≡ no_ids
  pub attached : s.heap.attached ≡ false

-- the store has the same id, and collects at every so many allocations as before
pub record IsSameStore {D : Type 0} (old new : StoreView D) : Type 0 where
  pub engine : new.engine ≡ old.engine
  pub number : new.number ≡ old.number
  pub counter : new.alloc_counter ≡ old.alloc_counter

-- the scoped roots, with those that there is room for: a push leaves no fewer
abbrev pub scoped_places : {D : Type 0} → StoreView D → ℕ
scoped_places s = s.spare + length s.scoped

-- no further scoped root may be made
abbrev pub is_full : {D : Type 0} → StoreView D → Bool
is_full s = nat_le s.max_scoped (length s.scoped) || (s.generation == 2 ^ 64 - 1)

-- what the declaration of a type answers and leaves
abbrev pub Declares : {D : Type 0} → Layouts → Declaration → Table D → Account → Result TypeName TypeFault → StoreView D → Type 0
Declares layouts d t a (Ok ty) new =
    Declarable t.types d × ((ty ≡ record { engine = new.engine; number = new.number; index = length t.types }) × HoldsAccount layouts new (declare d t) a)
Declares layouts d t a (Err type_fault.BadType) new = (¬ Declarable t.types d) × HoldsAccount layouts new t a
Declares layouts d t a (Err type_fault.Memory) new = HoldsAccount layouts new t a
