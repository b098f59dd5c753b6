-- A collection leaves a store settled.
use Rattle.std.proofs.Common.{◌≡◌, ℕ, ◌==◌, ◌<◌, inl, inr, true, false, not, List, ◌∷◌, ◌++◌, [], length, map, filter, Contains, sym, ap, ◌∙◌, subst, arith}
use Rattle.std.proofs.lemmas.Bool.{cases_eq, eq-eqb}
use Rattle.std.proofs.lemmas.List.{length-map}
use Rattle.std.proofs.lemmas.List.Elements.{Contains-append_cases}
use Rattle.gc_types.specs.declared.kind.Layouts.{Layouts}
use Rattle.gc_types.specs.declared.kind.Layouts.TheVariants.{Counting}
use Rattle.gc_roots.specs.Roots.{Root, root}
use Rattle.gc_heap.specs.Collection.{moved, stack_words, CountsAnew, KindCollected, Start}
use Rattle.gc_view.specs.Heaps.{HeapView}
use Rattle.gc_owner.specs.declared.entry.OwnedEntry.{OwnedEntry}
use Rattle.gc_owner.specs.declared.entry.SlotEntry.{SlotEntry}
use Rattle.gc_owner.specs.RootColumns.{RootsView, AreFrames, scoped_words, owned_words, global_words, listed_as, roots_of, with_handles}
use Rattle.gc_owner.specs.RootColumns as columns
use Rattle.gc_owner.specs.Owners.{OwnerView, Collects, start_of}
use Rattle.gc_model.proofs.Members.{filter_among}
use Rattle.gc_model.proofs.CollectedLists.{contains_map, get_contains}
use Rattle.gc_model.proofs.Columns.{listed_word}
use Rattle.gc_model.proofs.Frames.{frame_words}
use Rattle.gc_model.proofs.RootsShown.{SlotsInFrames}
use Rattle.gc_store.specs.Settled.{IsSettled}
use Rattle.gc_store.specs.Stores.{StoreTables, store_view}
use Rattle.gc_values.specs.declared.engine.StoreId.{StoreId}
use Rattle.gc_values.specs.declared.config.HeapConfig.{HeapConfig}

-- roots that are no frame slots are on no stack
off_stack : (kind : ℕ) (words : List ℕ) (r : Root) → Contains (listed_as kind false words) r → r.on_stack ≡ false
off_stack kind words r c = let found = contains_map (λ (w : ℕ). root kind false w) (columns.non_null_words words) r c in sym (ap (λ (x : Root). x.on_stack) found.is)

no_stack : {A : Type 0} (kind : ℕ) (words : List ℕ) (r : Root) → r.on_stack ≡ true → Contains (listed_as kind false words) r → A
no_stack kind words r on c = let off = off_stack kind words r c in absurd (cc)

-- a root on a stack is that of a slot
on_stack : (r : RootsView) (x : Root) → Contains (roots_of r) x → x.on_stack ≡ true → Contains (columns.frame_slot_words r) x.word
on_stack r x c on = elim (Contains-append_cases (listed_as 0 false (scoped_words r)) behind_scoped x c) [
  | inl scoped ↦ no_stack 0 (scoped_words r) x on scoped
  | inr behind ↦ elim (Contains-append_cases (listed_as 1 false (owned_words r)) behind_owned x behind) [
    | inl owned ↦ no_stack 1 (owned_words r) x on owned
    | inr later ↦ elim (Contains-append_cases (listed_as 2 true (columns.frame_slot_words r)) behind_slots x later) [
      | inl slot ↦ (listed_word 2 true (columns.frame_slot_words r) x slot).0
      | inr last ↦ elim (Contains-append_cases (listed_as 3 false (global_words r)) (listed_as 4 false (r.pending ∷ [])) x last) [
        | inl global ↦ no_stack 3 (global_words r) x on global
        | inr pending ↦ no_stack 4 (r.pending ∷ []) x on pending
      ]
    ]
  ]
]
  where
    behind_slots : List Root
    behind_slots = listed_as 3 false (global_words r) ++ listed_as 4 false (r.pending ∷ [])

    behind_owned : List Root
    behind_owned = listed_as 2 true (columns.frame_slot_words r) ++ behind_slots

    behind_scoped : List Root
    behind_scoped = listed_as 1 false (owned_words r) ++ behind_owned

stack_slot : (r : RootsView) (word : ℕ) → Contains (stack_words (roots_of r)) word → Contains (columns.frame_slot_words r) word
stack_slot r word c =
    let found = contains_map (λ (x : Root). x.word) (filter (λ (x : Root). x.on_stack) (roots_of r)) word c in
    let among = filter_among (λ (x : Root). x.on_stack) (roots_of r) found.element (get_contains (filter (λ (x : Root). x.on_stack) (roots_of r)) found.index found.element found.there) in
    subst (Contains (columns.frame_slot_words r)) found.is (on_stack r found.element among.0 among.1)

-- what a collection leaves of the counts of a counting heap
anew : (layouts : Layouts) (s : Start) (to : ℕ → ℕ) (h : HeapView) (roots : List Root) → layouts ≡ Counting → KindCollected layouts s to h roots → CountsAnew s.types h roots
anew layouts s to h roots is left = (subst (λ (l : Layouts). KindCollected l s to h roots) is left).1.0

has_handles : (e : OwnedEntry) → not (e.handles == 0) ≡ true → 0 < e.handles
has_handles e some = elim (cases_eq e.handles 0) [
  | inl none ↦ absurd (grind (arith, eq-eqb e.handles 0 none, some))
  | inr above ↦ omega (arith, above)
]

module _ {D : Type 0} (layouts : Layouts) (v w : OwnerView D) (is : Collects layouts v w) where
  abbrev moved_entry : OwnedEntry → OwnedEntry
  moved_entry e = record e { word = moved is.runs.collected.to e.word }

  owned_are : w.roots.owned ≡ map moved_entry (with_handles v.roots.owned)
  owned_are = ap (λ (r : RootsView). r.owned) is.runs.roots ∙ ap (λ (x : OwnerView D). map moved_entry x.roots.owned) is.trims.changes.rest

  owned_held : (e : OwnedEntry) → Contains w.roots.owned e → 0 < e.handles
  owned_held e c =
      let found = contains_map moved_entry (with_handles v.roots.owned) e (subst (λ (es : List OwnedEntry). Contains es e) owned_are c) in
      let among = filter_among (λ (x : OwnedEntry). not (x.handles == 0)) v.roots.owned found.element (get_contains (with_handles v.roots.owned) found.index found.element found.there) in
      subst (λ (n : ℕ). 0 < n) (ap (λ (x : OwnedEntry). x.handles) found.is) (has_handles found.element among.1)

  -- the frames have as many slots as before
  frames_stay : SlotsInFrames v.roots → SlotsInFrames w.roots
  frames_stay in_frames =
      let to = is.runs.collected.to in
      let frames : w.roots.frames ≡ v.roots.frames = ap (λ (r : RootsView). r.frames) is.runs.roots ∙ ap (λ (x : OwnerView D). x.roots.frames) is.trims.changes.rest in
      let slots : length w.roots.slots ≡ length v.roots.slots =
      ap (λ (r : RootsView). length r.slots) is.runs.roots
      ∙ length-map is.trimmed.roots.slots (λ (e : SlotEntry). record e { word = moved to e.word })
      ∙ ap (λ (x : OwnerView D). length x.roots.slots) is.trims.changes.rest in
      subst (λ (starts : List ℕ). AreFrames starts (length w.roots.slots)) (sym frames) (subst (AreFrames v.roots.frames) (sym slots) in_frames)

  pub settled : (id : StoreId) (config : HeapConfig) (tables : StoreTables) (tries : ℕ) → SlotsInFrames v.roots → IsSettled layouts (store_view id config tables w tries)
  settled id config tables tries in_frames = record {
    held = owned_held;
    queued = λ counting. (anew layouts (start_of is.trimmed) is.runs.collected.to w.heap (roots_of w.roots) counting is.runs.collected.by_kind).queued;
    shown = λ counting word there.
        subst (λ (ws : List ℕ). Contains ws word) (sym (frame_words w.roots.slots w.roots.frames (frames_stay in_frames)))
        (stack_slot w.roots word ((anew layouts (start_of is.trimmed) is.runs.collected.to w.heap (roots_of w.roots) counting is.runs.collected.by_kind).shown word there));
  }
