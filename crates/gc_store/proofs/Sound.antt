-- That a store is sound: it holds some table.
use Rattle.std.proofs.Common.{◌≡◌, ℕ, ◌-◌, ◌^◌, List, [], map, true, false, refl, sym, ap, ◌∙◌, subst, arith}
use Rattle.std.specs.List.{IsDistinct}
use Rattle.std.specs.Option.{option_map}
use Rattle.std.specs.Int.NonZero.{non_zero_u32_get}
use Rattle.std.proofs.lemmas.Option.{none-some}
use Rattle.gc_types.specs.declared.kind.Layouts.{Layouts}
use Rattle.gc_types.specs.Declarations.{TypeTable}
use Rattle.gc_model.specs.Table.{start}
use Rattle.gc_view.specs.Heaps.{HeapView}
use Rattle.gc_model.specs.SideValues.{no_ids}
use Rattle.gc_model.specs.Stores.{StoreView, empty_store}
use Rattle.gc_model.proofs.HoldsStart.{nowhere, IsUntouched, holds_untouched, untouched_new, untouched_from_parts, untouched_from_start}
use Rattle.gc_heap.specs.Content.{IsHeap}
use Rattle.gc_owner.specs.Owners.{OwnerView, new_owner, spent_owner}
use Rattle.gc_model.specs.Reach.{AreAll}
use Rattle.gc_model.specs.Holds.{Holds, KindHolds}
use Rattle.gc_model.specs.Collects.{HasPlace}
use Rattle.gc_model.specs.Accounts.{no_account}
use Rattle.gc_model.proofs.HeapGaps.{told_nowhere}
use Rattle.gc_values.specs.declared.engine.StoreId.{StoreId}
use Rattle.gc_values.specs.declared.config.HeapConfig.{HeapConfig}
use Rattle.gc_values.specs.declared.interned.InternedValues.{InternedValues}
use Rattle.gc_values.specs.declared.subtypes.AskedPairs.{AskedPairs}
use Rattle.gc_values.specs.declared.subtypes.TypePair.{TypePair}
use Rattle.gc_values.specs.Subtypes.{kept_count}
use Rattle.std.proofs.lemmas.List.{nil_from_length}
use Rattle.gc_store.specs.Collectings.{IsSpent, spent_table}
use Rattle.gc_store.specs.Stores.{StoreTables, tables_of, store_view, IsSoundStore, HoldsStart, ShowsNothing, configured, tables_of}
use Rattle.gc_values.specs.Interning.{ids_of, ids_of}
use Rattle.gc_values.specs.SlotCounts.{slot_counts}

-- The store has no account to speak of: nothing was allocated, counted or moved to an upper half.
pub record CountsNothing {D : Type 0} (s : StoreView D) : Type 0 where
  pub last : s.last ≡ 0
  pub tries : s.tries ≡ 0
  pub upper : s.heap.needs_gc ≡ false

-- no object is held
nothing_held : AreAll (HasPlace nowhere) []
unfolding IsDistinct
nothing_held = record { distinct = tt; all = λ p. (λ c. absurd (omega (arith, c.1)), λ placed. absurd (none-some placed.0 placed.1)) }

-- the greatest number that is counted
abbrev most : ℕ
most = 2 ^ 64 - 1

-- an untouched store that counted nothing holds the empty table
pub starts_untouched : (D : Type 0) (layouts : Layouts) (s : StoreView D) → IsUntouched layouts s → CountsNothing s → HoldsStart D layouts s
starts_untouched D layouts s untouched counts = record {
  place = nowhere;
  holds = holds_untouched D layouts s untouched;
  account = record {
    held = nothing_held;
    places = told_nowhere layouts;
    last = counts.last;
    tries = counts.tries;
    upper = counts.upper;
  };
}

-- and is sound
pub sound_start : (D : Type 0) (layouts : Layouts) (counts : List ℕ) (v : OwnerView D) (s : StoreView D) → v.idle ≡ true → v.types.engine ≡ s.engine → v.types.number ≡ s.number → counts ≡ slot_counts s.frames → HoldsStart D layouts s → IsSoundStore D layouts counts v s
sound_start D layouts counts v s idle engine number frames holds = record {
  idle = idle;
  engine = engine;
  number = number;
  frames = frames;
  table = start s.first s.max_scoped s.max_owned;
  account = no_account;
  holds = holds;
}

-- no value is interned, and no pair is kept
abbrev pub no_tables : StoreTables
no_tables = record { ids = no_ids; kept_pairs = [] }

pub none_told : (interned : InternedValues) (asked : AskedPairs) → ids_of interned ≡ no_ids → kept_count asked ≡ 0 → tables_of interned asked ≡ no_tables
none_told interned asked none few i = record { ids = none i; kept_pairs = map (λ (p : TypePair). (p.sub, p.sup)) (nil_from_length asked.pairs.keys few i) }

module _ {D : Type 0} (id : StoreId) (config : HeapConfig) (tables : StoreTables) (none : tables ≡ no_tables) (v : OwnerView D) (fresh : v ≡ new_owner id.engine id.number v.roots.list_spare) where
  -- a store over a new owner shows nothing
  pub new_view : store_view id config tables v 0 ≡ empty_store id.engine id.number config.first_pages config.max_scoped config.max_owned (option_map non_zero_u32_get config.alloc_counter)
  new_view = ap (λ (o : OwnerView D). store_view id config tables o 0) fresh ∙ ap (λ (m : StoreTables). store_view id config m (new_owner id.engine id.number v.roots.list_spare) 0) none

  -- so it holds the empty table
  pub starts_fresh : (layouts : Layouts) → HoldsStart D layouts (store_view id config tables v 0)
  starts_fresh layouts =
      subst (HoldsStart D layouts) (sym new_view)
      (starts_untouched D layouts (empty_store id.engine id.number config.first_pages config.max_scoped config.max_owned (option_map non_zero_u32_get config.alloc_counter))
      (untouched_new layouts id.engine id.number config.first_pages config.max_scoped config.max_owned (option_map non_zero_u32_get config.alloc_counter) config.few_pages config.few_roots)
      (record { last = refl; tries = refl; upper = refl }))

  -- and is sound
  pub sound_new : (layouts : Layouts) (counts : List ℕ) → counts ≡ [] → IsSoundStore D layouts counts v (store_view id config tables v 0)
  sound_new layouts counts no_frames =
      sound_start D layouts counts v (store_view id config tables v 0) (ap (λ (o : OwnerView D). o.idle) fresh) (ap (λ (o : OwnerView D). o.types.engine) fresh) (ap (λ (o : OwnerView D). o.types.number) fresh)
      (no_frames ∙ ap (λ (s : StoreView D). slot_counts s.frames) (sym new_view)) (starts_fresh layouts)

-- A spent store

spent_by_kind : (D : Type 0) (layouts : Layouts) (s : StoreView D) → KindHolds {D = D} layouts (start s.first s.max_scoped s.max_owned) nowhere s.heap → KindHolds {D = D} layouts (spent_table s.first s.max_scoped s.max_owned) nowhere s.heap
spent_by_kind D layouts s kind = kind

-- the numbers of the roots that were made and of the scopes that ended play no part in the rest
spent_holds : (D : Type 0) (layouts : Layouts) (s : StoreView D) → IsUntouched layouts s → Holds {D = D} layouts (record s { generation = most; owns = most; owned = [] }) (spent_table s.first s.max_scoped s.max_owned) nowhere
spent_holds D layouts s untouched =
    let points = holds_untouched D layouts s untouched in
    record {
      types = points.types;
      settings = points.settings;
      memory = points.memory;
      objects = points.objects;
      by_kind = spent_by_kind D layouts s points.by_kind;
      scopes = record { generation = refl; scoped_within = omega arith; drops_within = omega arith };
      scoped = points.scoped;
      pushes = record { past = λ serial p e. absurd (none-some p e); early = λ serial p e. absurd (none-some p e); apart = λ a b p e f. absurd (none-some p e) };
      frames = points.frames;
      globals = points.globals;
      owned = record {
        same_owns = refl;
        in_table = λ entry c some. absurd (omega (arith, c.1));
        in_store = λ root c. absurd (omega (arith, c.1));
        early = λ entry c. absurd (omega (arith, c.1));
        rising = λ i j d less inside. absurd (omega arith);
        in_order = λ i j d less inside. absurd (omega arith);
      };
      pending = points.pending;
      interned = points.interned;
      hosts = points.hosts;
      typed = points.typed;
    }

module _ {D : Type 0} (id : StoreId) (config : HeapConfig) (tables : StoreTables) (none : tables ≡ no_tables) (v : OwnerView D) (spent : v ≡ spent_owner id.engine id.number v.roots.list_spare) where
  abbrev empty_one : StoreView D
  empty_one = empty_store id.engine id.number config.first_pages config.max_scoped config.max_owned (option_map non_zero_u32_get config.alloc_counter)

  abbrev spent_one : StoreView D
  spent_one = record empty_one { generation = most; owns = most; owned = [] }

  pub spent_view : store_view id config tables v 0 ≡ spent_one
  spent_view = ap (λ (o : OwnerView D). store_view id config tables o 0) spent ∙ ap (λ (m : StoreTables). store_view id config m (spent_owner id.engine id.number v.roots.list_spare) 0) none

  pub is_spent : (layouts : Layouts) → IsSpent D layouts (store_view id config tables v 0)
  is_spent layouts =
      subst (IsSpent D layouts) (sym spent_view) (record {
        place = nowhere;
        holds = spent_holds D layouts empty_one (untouched_new layouts id.engine id.number config.first_pages config.max_scoped config.max_owned (option_map non_zero_u32_get config.alloc_counter) config.few_pages config.few_roots);
        account = record { held = nothing_held; places = told_nowhere layouts; last = refl; tries = refl; upper = refl };
      })

  pub sound_spent : (layouts : Layouts) (counts : List ℕ) → counts ≡ [] → IsSoundStore D layouts counts v (store_view id config tables v 0)
  sound_spent layouts counts no_frames = record {
    idle = ap (λ (o : OwnerView D). o.idle) spent;
    engine = ap (λ (o : OwnerView D). o.types.engine) spent;
    number = ap (λ (o : OwnerView D). o.types.number) spent;
    frames = no_frames ∙ ap (λ (s : StoreView D). slot_counts s.frames) (sym spent_view);
    table = spent_table config.first_pages config.max_scoped config.max_owned;
    account = no_account;
    holds = is_spent layouts;
  }

-- another configuration leaves a store untouched, and so it holds the empty table with the new numbers
pub starts_configured : (D : Type 0) (layouts : Layouts) (config : HeapConfig) (s : StoreView D) → HoldsStart D layouts s → HoldsStart D layouts (configured config s)
starts_configured D layouts config s holds =
    let untouched = untouched_from_start D layouts s holds.place holds.holds in
    let still : IsUntouched layouts (configured config s) = record {
      types = untouched.types;
      scoped = untouched.scoped;
      generation = untouched.generation;
      attached = untouched.attached;
      capacity = untouched.capacity;
      no_object = untouched.no_object;
      allocated = untouched.allocated;
      first_fits = config.few_pages;
      few_roots = config.few_roots;
      frames = untouched.frames;
      globals = untouched.globals;
      owned = untouched.owned;
      pending = untouched.pending;
      ids = untouched.ids;
      no_hosts = untouched.no_hosts;
    } in
    starts_untouched D layouts (configured config s) still (record { last = holds.account.last; tries = holds.account.tries; upper = holds.account.upper })

-- a sound store that shows nothing holds the empty table, where no collection ran without a heap
pub starts_nothing : (D : Type 0) (layouts : Layouts) (counts : List ℕ) (v : OwnerView D) (s : StoreView D) → IsHeap layouts s.heap → (s.heap.attached ≡ false → s.last ≡ 0) → IsSoundStore D layouts counts v s → ShowsNothing s → HoldsStart D layouts s
starts_nothing D layouts counts v s heap unused sound nothing =
    starts_untouched D layouts s (untouched_from_parts layouts s sound.table sound.holds.place sound.holds.holds nothing.types nothing.scoped nothing.generation nothing.frames nothing.globals nothing.pending nothing.owns nothing.ids nothing.attached)
    (record { last = unused nothing.attached; tries = nothing.tries; upper = ap (λ (h : HeapView). h.needs_gc) (heap.detached nothing.attached) })

-- a store that holds the empty table shows nothing
pub nothing_starts : (D : Type 0) (layouts : Layouts) (s : StoreView D) → HoldsStart D layouts s → ShowsNothing s
nothing_starts D layouts s holds =
    let untouched = untouched_from_start D layouts s holds.place holds.holds in
    record { tries = holds.account.tries; types = untouched.types; scoped = untouched.scoped; generation = untouched.generation; frames = untouched.frames; globals = untouched.globals; pending = untouched.pending; owns = holds.holds.owned.same_owns; ids = untouched.ids; attached = untouched.attached }

-- a table of types with that id
pub own_types : (types : TypeTable) (e n : ℕ) → types.engine ≡ e → types.number ≡ n → types ≡ record { engine = e; number = n; declarations = types.declarations }
own_types types e n engine number i = record { engine = engine i; number = number i; declarations = types.declarations }
