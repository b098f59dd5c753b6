-- What an owner's calls keep.
use Rattle.std.proofs.Common.{◌≡◌, ℕ, ◌+◌, ◌<◌, inl, inr, Bool, true, false, List, [], ◌∷◌, ◌++◌, length, map, take, drop, get_or, set, Option, Some, None, Result, Ok, Err, refl, sym, ap, ap₂, ◌∙◌, subst, arith}
use Rattle.std.specs.Prelude.{is_none}
use Rattle.std.specs.FinMap.{FinMap, get-empty}
use Rattle.std.specs.Ordering.{nat_cmp}
use Rattle.std.proofs.lemmas.Option.{none-some}
use Rattle.std.proofs.lemmas.List.{map-append, append_assoc, append-nil, length-take, take-append-drop, drop_more, set_at}
use Rattle.gc_types.specs.declared.kind.Layouts.{Layouts}
use Rattle.gc_types.specs.declared.kind.Layouts.TheVariants.{Null, Counting, Copying}
use Rattle.gc_types.specs.Declarations.{Declaration, TypeTable}
use Rattle.gc_roots.specs.Roots.{Root}
use Rattle.gc_view.specs.Heaps.{HeapView, detached, SameHeld}
use Rattle.gc_heap.specs.Content.{IsHeap}
use Rattle.gc_heap.specs.Heap.{empty_heap}
use Rattle.gc_heap.specs.Collection.{Stage, Start, CanCollect, IsWordOf, has_host, IsPartOf}
use Rattle.gc_heap.proofs.AddedLemmas.{start}
use Rattle.gc_heap.proofs.ClientLemmas.{can_collect_empty}
use Rattle.gc_owner.specs.declared.entry.RootEntry.{RootEntry}
use Rattle.gc_owner.specs.declared.entry.SlotEntry.{SlotEntry}
use Rattle.gc_owner.specs.RootColumns.{RootsView, scoped_words, owned_words, frame_slot_words, global_words, listed_as, roots_of, empty_slot, with_scoped, with_global}
use Rattle.gc_owner.proofs.ListUse.{ListUse, list_use}
pub use Rattle.gc_owner.specs.Owners.{heap_kind}
use Rattle.gc_owner.specs.Owners.{OwnerValue, Kind, IsReady, InOrder, owner_value, raised, lowered, CanDropWord, CollectsAll, CollectsRoots}
use Rattle.gc_owner.specs.Tracing.{IsCollectable}
use Rattle.gc_owner.specs.Limiters.{Limits}
use Rattle.gc_owner.specs.Growing.{MakesHeap}
use Rattle.gc_owner.specs.declared.pages.PagesFault.{PagesFault}
use Rattle.gc_owner.specs.declared.pages.PagesFault.TheVariants as pages_fault
use Rattle.gc_owner.proofs.Begins.{with_memory}
use Rattle.gc_owner.proofs.WordBarriers.{word_raised, word_replaced, word_droppable}

-- an idle owner is ready, and a ready one is in order
pub ready_of : {H S D : Type 0} (k : Kind H S) (v : OwnerValue H S D) (state : Option S) → InOrder k v state → is_none state ≡ true → IsReady k.layouts (k.sound v.heap) v.seen
ready_of k v None order idle = order
ready_of k v (Some state) order idle = absurd (cc)

pub in_order : {H S D : Type 0} (k : Kind H S) (v : OwnerValue H S D) (state : Option S) → is_none state ≡ true → IsReady k.layouts (k.sound v.heap) v.seen → InOrder k v state
in_order k v None idle ready = ready
in_order k v (Some state) idle ready = absurd (cc)

empty_memory : (layouts : Layouts) → empty_heap layouts 0 0 ≡ with_memory detached
empty_memory Null = refl
empty_memory Counting = refl
empty_memory Copying = refl

-- a new owner is ready
pub can_begin_new : (layouts : Layouts) (types : List Declaration) (h : HeapView) (r : RootsView) (hosts : ℕ → Bool) → h ≡ detached → roots_of r ≡ [] → IsCollectable layouts types h (roots_of r) hosts
can_begin_new layouts types h r hosts none new =
    subst (λ (v : HeapView). IsCollectable layouts types v (roots_of r) hosts) (sym none)
    (subst (λ (rs : List Root). IsCollectable layouts types detached rs hosts) (sym new) (record {
      traced = λ w o held. absurd (none-some o (sym (get-empty nat_cmp w) ∙ held));
      collects = subst (λ (v : HeapView). CanCollect layouts (start v [] types hosts)) (empty_memory layouts) (can_collect_empty layouts types 0 hosts);
    }))

-- Scoped roots

pub scoped_more : (word : ℕ) (r : RootsView) → scoped_words (with_scoped word r) ≡ scoped_words r ++ word ∷ []
scoped_more word r = map-append (λ (e : RootEntry). e.word) r.scoped ((record { generation = r.generation; word = word }) ∷ [])

abbrev behind_scoped : RootsView → List Root
behind_scoped r = listed_as 1 false (owned_words r) ++ (listed_as 2 true (frame_slot_words r) ++ (listed_as 3 false (global_words r) ++ listed_as 4 false (r.pending ∷ [])))

pub pushed_kept : (layouts : Layouts) (types : List Declaration) (h : HeapView) (r : RootsView) (hosts : ℕ → Bool) (word : ℕ) → IsCollectable layouts types h (roots_of r) hosts → IsWordOf h word
    → IsCollectable layouts types (raised h word) (roots_of (with_scoped word r)) hosts
pushed_kept layouts types h r hosts word can is =
    subst (λ ws. IsCollectable layouts types (raised h word) (listed_as 0 false ws ++ behind_scoped r) hosts) (sym (scoped_more word r))
    (word_raised layouts types [] 0 (behind_scoped r) hosts h (scoped_words r) [] word
    (subst (λ ws. IsCollectable layouts types h (listed_as 0 false ws ++ behind_scoped r) hosts) (sym (append-nil (scoped_words r))) can) is)

-- Globals

abbrev before_globals : RootsView → List Root
before_globals r = (listed_as 0 false (scoped_words r) ++ listed_as 1 false (owned_words r)) ++ listed_as 2 true (frame_slot_words r)

around_globals : (r : RootsView) (rest : List Root) → listed_as 0 false (scoped_words r) ++ (listed_as 1 false (owned_words r) ++ (listed_as 2 true (frame_slot_words r) ++ rest)) ≡ before_globals r ++ rest
around_globals r rest =
    sym (append_assoc (listed_as 0 false (scoped_words r)) (listed_as 1 false (owned_words r)) (listed_as 2 true (frame_slot_words r) ++ rest))
    ∙ sym (append_assoc (listed_as 0 false (scoped_words r) ++ listed_as 1 false (owned_words r)) (listed_as 2 true (frame_slot_words r)) rest)

module _ (r : RootsView) (index : ℕ) (entry : SlotEntry) (below : index < length r.globals) where
  abbrev old_entry : SlotEntry
  old_entry = get_or r.globals index empty_slot

  abbrev words_before : List ℕ
  words_before = map (λ (e : SlotEntry). e.word) (take index r.globals)

  abbrev words_behind : List ℕ
  words_behind = map (λ (e : SlotEntry). e.word) (drop (index + 1) r.globals)

  entries_split : r.globals ≡ take index r.globals ++ old_entry ∷ drop (index + 1) r.globals
  entries_split = sym (take-append-drop index r.globals) ∙ ap (λ es. take index r.globals ++ es) (drop_more r.globals index empty_slot below)

  entries_set : set r.globals index entry ≡ take index r.globals ++ entry ∷ drop (index + 1) r.globals
  entries_set =
      ap (λ es. set es index entry) entries_split
      ∙ set_at (take index r.globals) old_entry (drop (index + 1) r.globals) entry index (let count = length-take index r.globals in omega arith)

  words_split : global_words r ≡ words_before ++ old_entry.word ∷ words_behind
  words_split = ap (map (λ (e : SlotEntry). e.word)) entries_split ∙ map-append (λ (e : SlotEntry). e.word) (take index r.globals) (old_entry ∷ drop (index + 1) r.globals)

  words_set : global_words (with_global index entry r) ≡ words_before ++ entry.word ∷ words_behind
  words_set = ap (map (λ (e : SlotEntry). e.word)) entries_set ∙ map-append (λ (e : SlotEntry). e.word) (take index r.globals) (entry ∷ drop (index + 1) r.globals)

  module _ (layouts : Layouts) (types : List Declaration) (h : HeapView) (hosts : ℕ → Bool) (can : IsCollectable layouts types h (roots_of r) hosts) where
    can_around : IsCollectable layouts types h (before_globals r ++ (listed_as 3 false (words_before ++ old_entry.word ∷ words_behind) ++ listed_as 4 false (r.pending ∷ []))) hosts
    can_around =
        subst (λ ws. IsCollectable layouts types h (before_globals r ++ (listed_as 3 false ws ++ listed_as 4 false (r.pending ∷ []))) hosts) words_split
        (subst (λ rs. IsCollectable layouts types h rs hosts) (around_globals r (listed_as 3 false (global_words r) ++ listed_as 4 false (r.pending ∷ []))) can)

    pub global_droppable : IsHeap layouts h → CanDropWord h old_entry.word
    global_droppable heap = word_droppable layouts types (before_globals r) 3 (listed_as 4 false (r.pending ∷ [])) hosts h words_before words_behind old_entry.word heap can_around

    pub global_kept : IsWordOf h entry.word → IsCollectable layouts types (lowered (raised h entry.word) old_entry.word) (roots_of (with_global index entry r)) hosts
    global_kept is =
        let h' : HeapView = lowered (raised h entry.word) old_entry.word in
        subst (λ rs. IsCollectable layouts types h' rs hosts) (sym (around_globals r (listed_as 3 false (global_words (with_global index entry r)) ++ listed_as 4 false (r.pending ∷ []))))
        (subst (λ ws. IsCollectable layouts types h' (before_globals r ++ (listed_as 3 false ws ++ listed_as 4 false (r.pending ∷ []))) hosts) (sym words_set)
        (word_replaced layouts types (before_globals r) 3 (listed_as 4 false (r.pending ∷ [])) hosts h words_before words_behind old_entry.word entry.word can_around is))

-- The pending exception

abbrev before_pending : RootsView → List Root
before_pending r = before_globals r ++ listed_as 3 false (global_words r)

around_pending : (r : RootsView) (word : ℕ) → roots_of (record r { pending = word }) ≡ before_pending r ++ (listed_as 4 false ([] ++ word ∷ []) ++ [])
around_pending r word =
    around_globals r (listed_as 3 false (global_words r) ++ listed_as 4 false (word ∷ []))
    ∙ sym (append_assoc (before_globals r) (listed_as 3 false (global_words r)) (listed_as 4 false (word ∷ [])))
    ∙ ap (λ (rs : List Root). before_pending r ++ rs) (sym (append-nil (listed_as 4 false (word ∷ []))))

module _ (r : RootsView) (layouts : Layouts) (types : List Declaration) (h : HeapView) (hosts : ℕ → Bool) (can : IsCollectable layouts types h (roots_of r) hosts) where
  can_pending : IsCollectable layouts types h (before_pending r ++ (listed_as 4 false ([] ++ r.pending ∷ []) ++ [])) hosts
  can_pending = subst (λ rs. IsCollectable layouts types h rs hosts) (around_pending r r.pending) can

  pub pending_droppable : IsHeap layouts h → CanDropWord h r.pending
  pending_droppable heap = word_droppable layouts types (before_pending r) 4 [] hosts h [] [] r.pending heap can_pending

  pub pending_kept : (word : ℕ) → IsWordOf h word → IsCollectable layouts types (lowered (raised h word) r.pending) (roots_of (record r { pending = word })) hosts
  pending_kept word is =
      subst (λ rs. IsCollectable layouts types (lowered (raised h word) r.pending) rs hosts) (sym (around_pending r word))
      (word_replaced layouts types (before_pending r) 4 [] hosts h [] [] r.pending word can_pending is)

-- Owners by their parts

module _ {H S D : Type 0} (layouts : Layouts) (seen : H → HeapView) (sound : H → Type 0) (under_way : Start → ℕ → Bool → Stage H S → Type 0)
    (heap : H) (types : TypeTable) (hosts : FinMap nat_cmp D) (roots : RootsView) (last : ℕ) (state : Option S) where
  abbrev before : OwnerValue H S D
  before = owner_value (seen heap) types hosts roots last heap state

  pub idle_at : (now : OwnerValue H S D) → before ≡ now → now.seen.idle ≡ true → is_none state ≡ true
  idle_at now is idle = ap (λ (v : OwnerValue H S D). v.seen.idle) is ∙ idle

  pub ready_at : (now : OwnerValue H S D) → InOrder (heap_kind layouts seen sound under_way) before state → before ≡ now → now.seen.idle ≡ true → IsReady layouts (sound heap) before.seen
  ready_at now order is idle = ready_of (heap_kind layouts seen sound under_way) before state order (idle_at now is idle)

  pub word_at : (now : OwnerValue H S D) → before ≡ now → (word : ℕ) → IsWordOf now.seen.heap word → IsWordOf (seen heap) word
  word_at now is word names = subst (λ (v : OwnerValue H S D). IsWordOf v.seen.heap word) (sym is) names

  -- the heap holds the same objects, and a collection may begin from the new roots
  pub changed_order : (heap' : H) (roots' : RootsView) → is_none state ≡ true → IsReady layouts (sound heap) before.seen → sound heap' → SameHeld (seen heap) (seen heap')
      → IsCollectable layouts types.declarations (seen heap') (roots_of roots') (has_host hosts) → list_use roots' ≡ list_use roots
      → InOrder (heap_kind layouts seen sound under_way) (owner_value (seen heap') types hosts roots' last heap' state) state
  changed_order heap' roots' idle ready is held can listed = in_order (heap_kind layouts seen sound under_way) (owner_value (seen heap') types hosts roots' last heap' state) state idle (record {
    sound = is;
    can = can;
    unlisted = ap (λ (u : ListUse). u.listed) listed ∙ ready.unlisted;
    unused = λ none. ready.unused (sym held.attached ∙ none);
    placed = λ on. ap (λ (u : ListUse). u.has_places) listed ∙ ready.placed (sym held.attached ∙ on);
  })

  -- the same where the heap may have got its first pages
  pub first_order : (heap' : H) → is_none state ≡ true → IsReady layouts (sound heap) before.seen → sound heap' → IsCollectable layouts types.declarations (seen heap') (roots_of roots) (has_host hosts) → ((seen heap').attached ≡ false → (seen heap).attached ≡ false)
      → roots.has_places ≡ true → InOrder (heap_kind layouts seen sound under_way) (owner_value (seen heap') types hosts roots last heap' state) state
  first_order heap' idle ready is can kept places = in_order (heap_kind layouts seen sound under_way) (owner_value (seen heap') types hosts roots last heap' state) state idle (record {
    sound = is;
    can = can;
    unlisted = ready.unlisted;
    unused = λ none. ready.unused (kept none);
    placed = λ on. places;
  })

  -- and where it has its memory as before
  pub made_order : (heap' : H) → is_none state ≡ true → IsReady layouts (sound heap) before.seen → sound heap' → IsCollectable layouts types.declarations (seen heap') (roots_of roots) (has_host hosts) → (seen heap').attached ≡ (seen heap).attached
      → InOrder (heap_kind layouts seen sound under_way) (owner_value (seen heap') types hosts roots last heap' state) state
  made_order heap' idle ready is can kept = in_order (heap_kind layouts seen sound under_way) (owner_value (seen heap') types hosts roots last heap' state) state idle (record {
    sound = is;
    can = can;
    unlisted = ready.unlisted;
    unused = λ none. ready.unused (sym kept ∙ none);
    placed = λ on. ready.placed (sym kept ∙ on);
  })

  pub changed_seen : (now : OwnerValue H S D) → before ≡ now → (heap' : H) (h' : HeapView) (roots' roots'' : RootsView) → seen heap' ≡ h' → roots' ≡ roots''
      → (owner_value (seen heap') types hosts roots' last heap' state).seen ≡ record now.seen { heap = h'; roots = roots'' }
  changed_seen now is heap' h' roots' roots'' heap_is roots_are =
      ap₂ (λ (h : HeapView) (r : RootsView). record before.seen { heap = h; roots = r }) heap_is roots_are ∙ ap (λ (v : OwnerValue H S D). record v.seen { heap = h'; roots = roots'' }) is

-- a heap that was made stays so
pub made_stays : (layouts : Layouts) (first : ℕ) (old new : HeapView) (limits limits' : Limits) (result : Result (Unit {0}) PagesFault) → MakesHeap layouts first old new limits limits' result → new.attached ≡ false → old.attached ≡ false
made_stays layouts first old new limits limits' (Ok done) (inl same, kept) none = ap (λ (h : HeapView). h.attached) (sym same.1) ∙ none
made_stays layouts first old new limits limits' (Ok done) (inr first_pages, kept) none = first_pages.detached
made_stays layouts first old new limits limits' (Err pages_fault.Refused) refused none = refused.detached
made_stays layouts first old new limits limits' (Err pages_fault.Memory) wanting none = ap (λ (h : HeapView). h.attached) (sym wanting.0) ∙ none

-- A collection ran
module _ {H S D : Type 0} (layouts : Layouts) (seen : H → HeapView) (sound : H → Type 0) (under_way : Start → ℕ → Bool → Stage H S → Type 0)
    (heap : H) (types : TypeTable) (hosts : FinMap nat_cmp D) (roots : RootsView) (last : ℕ) (state : Option S) (heap' : H) (hosts' : FinMap nat_cmp D) (roots' : RootsView) (last' : ℕ)
    (col : CollectsRoots layouts types.declarations (seen heap) (seen heap') roots roots' (has_host hosts) (has_host hosts')) where
  pub collected_order : is_none state ≡ true → IsReady layouts (sound heap) (owner_value (seen heap) types hosts roots last heap state).seen → (seen heap).attached ≡ true → sound heap'
      → InOrder (heap_kind layouts seen sound under_way) (owner_value (seen heap') types hosts' roots' last' heap' state) state
  collected_order idle ready on is = in_order (heap_kind layouts seen sound under_way) (owner_value (seen heap') types hosts' roots' last' heap' state) state idle (record {
    sound = is;
    can = col.can;
    unlisted = ap (λ (r : RootsView). r.listed) col.moves ∙ ready.unlisted;
    unused = λ none. let made : (seen heap').attached ≡ true = col.collected.attached in absurd (cc);
    placed = λ still. ap (λ (r : RootsView). r.has_places) col.moves ∙ ready.placed on;
  })

  pub collected_seen : (now : OwnerValue H S D) → owner_value (seen heap) types hosts roots last heap state ≡ now → IsHeap layouts (seen heap') → IsPartOf hosts' hosts → last' ≡ (seen heap').allocated
      → CollectsAll layouts now.seen (owner_value (seen heap') types hosts' roots' last' heap' state).seen
  collected_seen now is is_heap values last_is =
      subst (λ (v : OwnerValue H S D). CollectsAll layouts v.seen (owner_value (seen heap') types hosts' roots' last' heap' state).seen) is (record {
        collected = col.collected;
        roots = col.moves;
        values = values;
        is_heap = is_heap;
        can = col.can;
        rest = ap (λ n. record (owner_value (seen heap) types hosts roots last heap state).seen { heap = seen heap'; hosts = hosts'; roots = roots'; last = n }) last_is;
      })
