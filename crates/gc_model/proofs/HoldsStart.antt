-- A store with nothing in it holds the empty table.
use Rattle.std.specs.Prelude.{replicate}
use Rattle.std.proofs.Common.{List, ◌≡◌, ℕ, ◌+◌, ◌≤◌, ◌^◌, [], Option, Some, sym, ap, ◌∙◌, refl, arith, false, length, subst}
use Rattle.std.specs.Ordering.{nat_cmp}
use Rattle.std.specs.FinMap.{empty, get, get-empty}
use Rattle.std.proofs.lemmas.Option.{none-some}
use Rattle.std.proofs.lemmas.List.{nil_from_length}
use Rattle.gc_types.specs.declared.kind.Layouts.{Layouts}
use Rattle.gc_types.specs.declared.kind.Layouts.TheVariants.{Null, Counting, Copying}
use Rattle.gc_view.specs.Pages.{max_pages}
use Rattle.gc_model.specs.Sizes.{next_after}
use Rattle.gc_model.specs.Table.{Table, start, global_count, null_slot}
use Rattle.gc_view.specs.Heaps.{HeapView, HeapObject}
use Rattle.gc_owner.specs.declared.entry.SlotEntry.{SlotEntry}
use Rattle.gc_model.specs.Stores.{StoreView, empty_store, unset_globals}
pub use Rattle.gc_model.specs.Words.{nowhere}
use Rattle.gc_model.specs.Holds.{Placing, Holds, KindHolds}
use Rattle.gc_model.specs.RootPoints.{FramesBy, GlobalsBy, OwnedBy}
use Rattle.gc_model.proofs.RootsMoved.{frames-empty, globals-empty, unset_from_table, owned-none}
use Rattle.gc_model.proofs.HoldsHeap.{nothing_placed}
use Rattle.gc_model.proofs.Hosts.{hosts-empty, hosts-nil}
use Rattle.gc_model.proofs.Interned.{interned-none, none_interned}
use Rattle.gc_model.specs.SideValues.{no_ids}

-- nothing was done with the store yet
pub record IsUntouched {D : Type 0} (layouts : Layouts) (s : StoreView D) : Type 0 where
  pub types : s.types ≡ []
  pub scoped : s.scoped ≡ []
  pub generation : s.generation ≡ 0
  pub attached : s.heap.attached ≡ false
  pub capacity : s.heap.capacity ≡ 0
  pub no_object : (word : ℕ) (object : HeapObject) → get s.heap.content word ≡ Some object → ⊥
  pub allocated : layouts ≡ Null → s.heap.allocated ≡ 0
  pub first_fits : s.first ≤ max_pages
  pub few_roots : s.max_scoped ≤ 2 ^ 31
  pub frames : s.frames ≡ []
  pub globals : s.globals ≡ unset_globals
  pub owned : OwnedBy nowhere 0 s.owns [] s.owned
  pub pending : s.pending ≡ 0
  pub ids : s.ids ≡ no_ids
  pub no_hosts : s.hosts ≡ empty

start_by_kind : (D : Type 0) (layouts k : Layouts) (s : StoreView D) → layouts ≡ k → IsUntouched layouts s → KindHolds {D = D} k (start s.first s.max_scoped s.max_owned) nowhere s.heap
start_by_kind D layouts Null s is untouched = record { all_held = λ position h. absurd (omega arith); allocated = ap (λ n. n + 1) (untouched.allocated is) }
start_by_kind D layouts Counting s is untouched = tt
start_by_kind D layouts Copying s is untouched = tt

-- such a store holds the empty table with its numbers
pub holds_untouched : (D : Type 0) (layouts : Layouts) (s : StoreView D) → IsUntouched layouts s → Holds {D = D} layouts s (start s.first s.max_scoped s.max_owned) nowhere
holds_untouched D layouts s untouched = record {
  types = untouched.types;
  settings = record { first = refl; max_scoped = refl; max_owned = refl; first_fits = untouched.first_fits; few_roots = untouched.few_roots };
  memory = record { made = untouched.attached; capacity = untouched.capacity; no_pages = λ _. refl; no_objects = λ _. refl };
  scopes = record { generation = untouched.generation; scoped_within = omega arith; drops_within = omega arith };
  objects = record {
    placed = λ position word e. absurd (none-some word e);
    only = λ word object e. absurd (untouched.no_object word object e);
    injective = λ p q word e f. absurd (none-some word e);
    even = λ word object e. absurd (untouched.no_object word object e);
  };
  by_kind = start_by_kind D layouts layouts s refl untouched;
  scoped = record { same_count = ap length untouched.scoped; each = λ i entry root e f. absurd (none-some root f) };
  pushes = record { past = λ serial p e. absurd (none-some p e); early = λ serial p e. absurd (none-some p e); apart = λ a b p e f. absurd (none-some p e) };
  frames = subst (λ (es : List (List SlotEntry)). FramesBy nowhere [] es) (sym untouched.frames) (frames-empty nowhere);
  globals = subst (λ (es : List SlotEntry). GlobalsBy nowhere (replicate global_count null_slot) es) (sym untouched.globals) (globals-empty nowhere);
  owned = untouched.owned;
  pending = record { same_word = untouched.pending; thrown = λ r e. absurd (none-some r e) };
  interned = interned-none s.ids untouched.ids;
  hosts = hosts-nil [] nowhere s.heap.content s.hosts refl untouched.no_hosts;
  typed = λ position index object value e f. absurd (none-some object e);
}

untouched_allocated : {D : Type 0} (layouts : Layouts) (t : Table D) (place : Placing) (heap : HeapView) → t.objects ≡ [] → KindHolds layouts t place heap → layouts ≡ Null → heap.allocated ≡ 0
untouched_allocated Null t place heap none kind is = let e : heap.allocated + 1 ≡ 1 = kind.allocated ∙ ap (next_after t.types 1) none in omega arith
untouched_allocated Counting t place heap none kind is = absurd (cc)
untouched_allocated Copying t place heap none kind is = absurd (cc)

-- a store that holds some table, and shows no type, root, generation, frame, set global, pending exception, function value,
-- continuation or memory, and of which no owned root was made, is untouched
pub untouched_from_parts : {D : Type 0} (layouts : Layouts) (s : StoreView D) (t : Table D) (place : Placing) → Holds layouts s t place → s.types ≡ [] → s.scoped ≡ [] → s.generation ≡ 0 → s.frames ≡ [] → s.globals ≡ unset_globals → s.pending ≡ 0 → s.owns ≡ 0 → s.ids ≡ no_ids → s.heap.attached ≡ false → IsUntouched layouts s
untouched_from_parts layouts s t place holds no_types no_roots first_generation no_frames unset none_pending none_owned no_id unmade =
    let not_made : t.made ≡ false = sym holds.memory.made ∙ unmade in
    let none : t.objects ≡ [] = holds.memory.no_objects not_made in
    record {
      types = no_types;
      scoped = no_roots;
      generation = first_generation;
      attached = unmade;
      capacity = omega (arith, holds.memory.capacity, holds.memory.no_pages not_made);
      no_object = λ word object e. let p = holds.objects.only word object e in nothing_placed layouts t place s.heap holds.objects none p.0 word p.1;
      allocated = untouched_allocated layouts t place s.heap none holds.by_kind;
      first_fits = subst (λ n. n ≤ max_pages) (sym holds.settings.first) holds.settings.first_fits;
      few_roots = subst (λ n. n ≤ 2 ^ 31) (sym holds.settings.max_scoped) holds.settings.few_roots;
      frames = no_frames;
      globals = unset;
      owned = owned-none place nowhere t.owns s.owns t.owned s.owned none_owned holds.owned;
      pending = none_pending;
      ids = no_id;
      no_hosts = hosts-empty t.objects place s.heap.content s.hosts none holds.hosts;
    }

-- a store that holds the empty table is untouched
pub untouched_from_start : (D : Type 0) (layouts : Layouts) (s : StoreView D) (place : Placing) → Holds {D = D} layouts s (start s.first s.max_scoped s.max_owned) place → IsUntouched layouts s
untouched_from_start D layouts s place holds =
    untouched_from_parts layouts s (start s.first s.max_scoped s.max_owned) place holds holds.types (nil_from_length s.scoped holds.scoped.same_count) holds.scopes.generation (nil_from_length s.frames holds.frames.same_count) (unset_from_table place s.globals holds.globals) holds.pending.same_word holds.owned.same_owns (none_interned s.ids holds.interned) holds.memory.made

-- what is seen of a new store is untouched
pub untouched_new : {D : Type 0} (layouts : Layouts) (engine number first max_scoped max_owned : ℕ) (alloc_counter : Option ℕ) → first ≤ max_pages → max_scoped ≤ 2 ^ 31 → IsUntouched {D = D} layouts (empty_store engine number first max_scoped max_owned alloc_counter)
untouched_new layouts engine number first max_scoped max_owned alloc_counter few few_roots = record {
  types = refl;
  scoped = refl;
  generation = refl;
  attached = refl;
  capacity = refl;
  no_object = λ word object e. none-some object (sym (get-empty nat_cmp word) ∙ e);
  allocated = λ _. refl;
  first_fits = few;
  few_roots = few_roots;
  frames = refl;
  globals = refl;
  owned = record {
    same_owns = refl;
    in_table = λ entry c some. absurd (omega (arith, c.1));
    in_store = λ root c. absurd (omega (arith, c.1));
    early = λ entry c. absurd (omega (arith, c.1));
    rising = λ i j d less inside. absurd (omega arith);
    in_order = λ i j d less inside. absurd (omega arith);
  };
  pending = refl;
  ids = refl;
  no_hosts = refl;
}
