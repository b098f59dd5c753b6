-- What the roots of a table reach, a collection of its heap reaches: so the table tells how many increments it takes.
use Rattle.std.proofs.Common.{◌≡◌, ℕ, ◌-◌, ◌<◌, ◌/◌, ◌+◌, ◌++◌, true, inl, inr, nat_eq, Bool, List, [], ◌∷◌, length, map, Option, Some, None, Contains, refl, sym, ap, ◌∙◌, subst, arith}
use Rattle.std.specs.List.{slice_get, flat_map, IsDistinct}
use Rattle.std.proofs.lemmas.List.{length-map}
use Rattle.std.proofs.lemmas.List.Elements.{Contains-append_cases, Contains-append_right}
use Rattle.gc_types.specs.declared.value.StorageType.{StorageType}
use Rattle.gc_types.specs.declared.kind.Layouts.{Layouts}
use Rattle.gc_types.specs.declared.kind.Layouts.TheVariants.{Null, Counting, Copying}
use Rattle.gc_types.specs.Declarations.{Declaration}
use Rattle.gc_types.specs.Layouts.{struct_base}
use Rattle.gc_view.specs.Bytes.{u32_at}
use Rattle.gc_view.specs.Heaps.{HeapObject}
use Rattle.gc_view.specs.Slots.{shape_slots}
use Rattle.gc_heap.specs.Content.{IsHeap, IsHeld}
use Rattle.gc_heap.specs.Collection as heap
use Rattle.gc_heap.specs.Collection.{AreReached, IsIncrements, has_host, objects_per_increment}
use Rattle.gc_heap.specs.References.{reference_offsets, references, word_in}
use Rattle.gc_memory.proofs.ListLemmas.{only_item, in_contains}
use Rattle.gc_heap.proofs.AgainLemmas.{kept_held}
use Rattle.gc_owner.specs.declared.entry.GcClass.{GcClass}
use Rattle.gc_owner.specs.declared.entry.RootEntry.{RootEntry}
use Rattle.gc_owner.specs.declared.entry.SlotEntry.{SlotEntry}
use Rattle.gc_owner.specs.declared.entry.OwnedEntry.{OwnedEntry}
use Rattle.gc_owner.specs.Owners.{OwnerView, Trims, start_of}
use Rattle.gc_owner.specs.Tracing.{IsTraced, AreTraced}
use Rattle.gc_model.specs.Values.{Reference, at, Value, numeric, function, continuation, reference, Object}
use Rattle.gc_model.specs.Table.{Table, Scoped, Slot, Owned}
use Rattle.gc_model.specs.Reach as reach
use Rattle.gc_model.specs.Reach.{IsReached, AreAll, HasNumber, value_references, object_values, references_in, root_references, slot_references, owned_references, present}
use Rattle.gc_model.specs.Stores.{StoreView}
use Rattle.gc_model.specs.RootPoints.{PendingBy}
use Rattle.gc_model.specs.Forms.{Names, LiesAs, number_at}
use Rattle.gc_model.specs.Holds.{Placing, IsWord, naming, Holds, HoldsTable, Stands}
use Rattle.gc_model.proofs.Lists.{slice_get-same_length}
use Rattle.gc_model.proofs.Members.{map_among, among_map}
use Rattle.gc_model.proofs.OwnedRoots.{trimmed_held}
use Rattle.gc_model.proofs.ReadingBack.{storage_reference, reference_width}
use Rattle.gc_model.proofs.ObjectStands.{stands_by_shape, value_not_host, value_lying, slot_stands}
use Rattle.gc_model.proofs.PointParts.{is_reference}
use Rattle.gc_model.specs.Shown.{shown}
use Rattle.gc_model.proofs.AccountLemmas.{trimmed_table}
use Rattle.gc_model.proofs.RootsShown.{SlotsInFrames, AllHeld, IsRooted, frames_named, scoped_rooted, slot_rooted, global_rooted, owned_rooted, pending_rooted}
use Rattle.gc_model.proofs.Columns.{none_in}
use Rattle.gc_model.proofs.Frames.{frame_words}
use Rattle.gc_model.proofs.CollectedLists.{get_contains, contains_map, contains_flat, map_get}
use Rattle.gc_model.proofs.CollectedOffsets.{traced_slots, slot_followed}
use Rattle.gc_model.proofs.CollectedKept.{traced_here, reached_position}
use Rattle.gc_model.proofs.HeldEntries.{all_others}
use Rattle.gc_model.proofs.HeldSums.{no_other}
use Rattle.gc_store.specs.IncrementCounts.{increments, increments_where, TakesIncrements}

-- Roots

-- lists of roots and entries that stand for each other one by one: what a root names has a word
each_word : {A B : Type 0} (place : Placing) (reference_of : A → Reference) (word_of : B → ℕ) (roots : List A) (entries : List B) → length entries ≡ length roots
    → ((i : ℕ) (e : B) (root : A) → slice_get entries i ≡ Some e → slice_get roots i ≡ Some root → IsWord place (reference_of root) (word_of e)) → (r : Reference) → Contains (map reference_of roots) r
    → (w : ℕ) × (Contains (map word_of entries) w × IsWord place r w)
each_word place reference_of word_of roots entries count each r c =
    let found = contains_map reference_of roots r c in
    let entry = slice_get-same_length roots entries found.index found.element (sym count) found.there in
    (word_of entry.0, (get_contains (map word_of entries) found.index (word_of entry.0) (map_get word_of entries found.index entry.0 entry.1), subst (λ (q : Reference). IsWord place q (word_of entry.0)) found.is (each found.index entry.0 found.element entry.1 found.there)))

pending_word : (place : Placing) (pending : Option Reference) (word : ℕ) → PendingBy place pending word → (r : Reference) → Contains (present pending) r → IsWord place r word
pending_word place None word is r c = absurd (none_in r c)
pending_word place (Some q) word is r c = subst (λ (x : Reference). IsWord place x word) (only_item q r c) is.0

-- the references of the table's roots, in order
module _ {D : Type 0} (t : Table D) where
  abbrev owned_and_pending : List Reference
  owned_and_pending = owned_references t.owned ++ present t.pending

  abbrev from_globals : List Reference
  from_globals = slot_references t.globals ++ owned_and_pending

  abbrev from_frames : List Reference
  from_frames = flat_map slot_references t.frames ++ from_globals

  abbrev scoped_references : List Reference
  scoped_references = map (λ (root : Scoped). root.reference) t.scoped

module _ {D : Type 0} (layouts : Layouts) (s : StoreView D) (v : OwnerView D) (t : Table D) (place : Placing) (holds : Holds layouts (shown s v) t place) (in_frames : SlotsInFrames v.roots) where
  -- a word of a reference, which is that of a root where it isn't null
  abbrev HasRoot : Reference → Type 0
  HasRoot r = (w : ℕ) × (IsWord place r w × (0 < w → IsRooted v.roots w))

  scoped_root : (r : Reference) → Contains (scoped_references t) r → HasRoot r
  scoped_root r c =
      let found = each_word place (λ (root : Scoped). root.reference) (λ (e : RootEntry). e.word) t.scoped v.roots.scoped holds.scoped.same_count (λ i e root f g. (holds.scoped.each i e root f g).word) r c in
      (found.0, (found.1.1, scoped_rooted v.roots found.0 found.1.0))

  slot_root : (r : Reference) → Contains (flat_map slot_references t.frames) r → HasRoot r
  slot_root r c =
      let found = (frames_named layouts (shown s v) t place holds).forth r c in
      (found.0, (found.1.1, slot_rooted v.roots found.0 (subst (λ (ws : List ℕ). Contains ws found.0) (frame_words v.roots.slots v.roots.frames in_frames) found.1.0)))

  global_root : (r : Reference) → Contains (slot_references t.globals) r → HasRoot r
  global_root r c =
      let found = each_word place (λ (slot : Slot). slot.reference) (λ (e : SlotEntry). e.word) t.globals v.roots.globals holds.globals.slots.same_count (λ i e slot f g. (holds.globals.slots.each i e slot f g).word) r c in
      (found.0, (found.1.1, global_rooted v.roots found.0 found.1.0))

  owned_root : (r : Reference) → Contains (owned_references t.owned) r → HasRoot r
  owned_root r c =
      let root = map_among (λ (x : Owned). x.reference) t.owned r c in
      let found = holds.owned.in_store root.of root.among in
      (found.0.word, (subst (λ (q : Reference). IsWord place q found.0.word) root.is found.1.1.word, owned_rooted v.roots found.0.word (among_map (λ (e : OwnedEntry). e.word) v.roots.owned found.0 found.1.0)))

  pending_root : (r : Reference) → Contains (present t.pending) r → HasRoot r
  pending_root r c = (v.roots.pending, (pending_word place t.pending v.roots.pending holds.pending.same_word r c, pending_rooted v.roots))

  -- what a root of the table names has a word that is that of a root
  has_root : (r : Reference) → Contains (root_references t) r → HasRoot r
  has_root r c = elim (Contains-append_cases (scoped_references t) (from_frames t) r c) [
    | inl scoped ↦ scoped_root r scoped
    | inr behind ↦ elim (Contains-append_cases (flat_map slot_references t.frames) (from_globals t) r behind) [
      | inl slot ↦ slot_root r slot
      | inr rest ↦ elim (Contains-append_cases (slot_references t.globals) (owned_and_pending t) r rest) [
        | inl global ↦ global_root r global
        | inr last ↦ elim (Contains-append_cases (owned_references t.owned) (present t.pending) r last) [
          | inl one ↦ owned_root r one
          | inr pending ↦ pending_root r pending
        ]
      ]
    ]
  ]

-- Fields

class_of : (v : Value) (r : Reference) → Contains (value_references v) r → (class : GcClass) × (v ≡ reference class r)
class_of (numeric kind n) r c = absurd (none_in r c)
class_of (function f) r c = absurd (none_in r c)
class_of (continuation k) r c = absurd (none_in r c)
class_of (reference class q) r c = (class, ap (reference class) (only_item q r c))

-- a reference lies in a slot as its word
reference_lies : (names : Names) (ty : StorageType) (class : GcClass) (r : Reference) (bytes : List ℕ) (offset : ℕ) → LiesAs names ty (reference class r) bytes offset → IsWord names.place r (u32_at bytes offset)
reference_lies names ty class r bytes offset lies =
    subst (λ (w : ℕ). IsWord names.place r (number_at w bytes offset)) (reference_width ty (ap is_reference lies.form)) lies.code

-- a reference among the values of an object has a word that a collection follows
field_word : {D : Type 0} (layouts : Layouts) (types : List Declaration) (names : Names) (o : Object D) (h : HeapObject) → Stands layouts types names o h → IsTraced layouts types h → (r : Reference) → Contains (references_in o) r
    → (word : ℕ) × (IsWord names.place r word × Contains (references layouts types h) word)
field_word layouts types names o h stands traced r among =
    let from = contains_flat value_references (object_values o) r among in
    let class = class_of from.element r from.among in
    let value_is = from.there ∙ ap (λ v. Some v) class.1 in
    let not_host = value_not_host o from.index (reference class.0 r) value_is in
    let lying = value_lying layouts types names o h stands from.index (reference class.0 r) value_is in
    let by = stands_by_shape layouts types names o h not_host stands in
    let followed = storage_reference lying.slot.storage ∙ ap is_reference lying.lies.form in
    let slot_is = slot_stands layouts types names o h by from.index lying.slot lying.is_slot in
    let listed = in_contains (reference_offsets layouts types h) lying.slot.offset
    ((traced_slots layouts types names o h not_host stands traced by).back lying.slot.offset (slot_followed (shape_slots layouts by.stands.shape by.stands.count) from.index lying.slot slot_is followed)) in (
      word_in layouts h lying.slot.offset,
      (
        reference_lies names lying.slot.storage class.0 r h.bytes (lying.slot.offset - struct_base layouts) lying.lies,
        among_map (word_in layouts h) (reference_offsets layouts types h) lying.slot.offset listed,
      ),
    )

-- What is reached

-- A position that the roots of the table reach is at a place that a collection reaches.
record IsThere {D : Type 0} (layouts : Layouts) (place : Placing) (v : OwnerView D) (p : ℕ) : Type 0 where
  pub word : ℕ
  pub placed : place p ≡ Some word
  pub reached : heap.ReachedPlace layouts (start_of v) word

module _ {D : Type 0} (layouts : Layouts) (s : StoreView D) (v : OwnerView D) (t : Table D) (place : Placing) (holds : Holds layouts (shown s v) t place) (in_frames : SlotsInFrames v.roots) (all_held : AllHeld v.roots.owned) (traced : AreTraced layouts v.types.declarations v.heap) where
  held_at : (p word : ℕ) → place p ≡ Some word → IsHeld v.heap word × (0 < word)
  held_at p word e = let there = holds.objects.placed p word e in ((there.object, there.in_heap), (holds.objects.even word there.object there.in_heap).1)

  is_there : (p : ℕ) → IsReached t p → IsThere layouts place v p
  is_there p (reach.by_start c) =
      let root = has_root layouts s v t place holds in_frames (at p) c in
      let held = held_at p root.0 root.1.0 in
      let rooted = root.1.1 held.1 in
      record { word = root.0; placed = root.1.0; reached = reach.by_start (record { held = held.0; root = rooted.0; among = rooted.1.0; names = rooted.1.1 }) }
  is_there p (reach.by_step {y = q} reached named) =
      let before = is_there q reached in
      let there = holds.objects.placed q before.word before.placed in
      let both : Some named.object ≡ Some there.entry = sym named.there ∙ there.in_table in
      let same : named.object ≡ there.entry = grind (arith, both) in
      let field = field_word layouts t.types (naming place s.ids) there.entry there.object there.stands (traced_here layouts s v t place holds in_frames all_held traced (has_host v.hosts) before.word there.object there.in_heap)
      (at p) (subst (λ (x : Object D). Contains (references_in x) (at p)) same named.among) in
      record {
        word = field.0;
        placed = field.1.0;
        reached =
            reach.by_step before.reached (record {
              held = (held_at p field.0 field.1.0).0;
              object = there.object;
              there = there.in_heap;
              among = subst (λ (types : List Declaration). Contains (references layouts types there.object) field.0) (sym holds.types) field.1.1;
            });
      }

-- images of different numbers, each once
distinct_map : (f : ℕ → ℕ) (xs : List ℕ) → ((x y : ℕ) → Contains xs x → Contains xs y → f x ≡ f y → x ≡ y) → IsDistinct nat_eq xs → IsDistinct nat_eq (map f xs)
unfolding IsDistinct
distinct_map f [] injective distinct = tt
distinct_map f (x ∷ xs) injective distinct = (
  all_others (f x) (map f xs) (λ y c same.
      let found = contains_map f xs y c in
      let among = get_contains xs found.index found.element found.there in
      no_other x xs distinct.0 found.element among
      (sym (injective x found.element (get_contains (x ∷ xs) 0 x refl) (Contains-append_right (x ∷ []) xs found.element among) (same ∙ sym found.is)))),
  distinct_map f xs (λ y z c d. injective y z (Contains-append_right (x ∷ []) xs y c) (Contains-append_right (x ∷ []) xs z d)) distinct.1,
)

-- a place, or 0
abbrev word_of : Option ℕ → ℕ
word_of None = 0
word_of (Some word) = word

module _ {D : Type 0} (s : StoreView D) (v : OwnerView D) (t : Table D) (place : Placing) (holds : Holds Copying (shown s v) t place) (in_frames : SlotsInFrames v.roots) (all_held : AllHeld v.roots.owned) (traced : AreTraced Copying v.types.declarations v.heap) (is_heap : IsHeap Copying v.heap)
    (positions : List ℕ) (all : AreAll (IsReached t) positions) where
  abbrev word_at : ℕ → ℕ
  word_at p = word_of (place p)

  there : (p : ℕ) → Contains positions p → IsThere Copying place v p
  there p c = is_there Copying s v t place holds in_frames all_held traced p ((all.all p).0 c)

  placed_there : (p : ℕ) → Contains positions p → place p ≡ Some (word_at p)
  placed_there p c = let is = there p c in is.placed ∙ ap (λ (o : Option ℕ). Some (word_of o)) (sym is.placed)

  reached_word : (word : ℕ) → Contains (map word_at positions) word → heap.ReachedPlace Copying (start_of v) word
  reached_word word c =
      let found = contains_map word_at positions word c in
      let among = get_contains positions found.index found.element found.there in
      let is = there found.element among in
      subst (heap.ReachedPlace Copying (start_of v)) (sym (ap word_of is.placed) ∙ found.is) is.reached

  word_reached : (word : ℕ) → heap.ReachedPlace Copying (start_of v) word → Contains (map word_at positions) word
  word_reached word reached =
      let held = kept_held Copying (start_of v) word reached in
      let position = holds.objects.only word held.0 held.1 in
      let among = (all.all position.0).1 (reached_position Copying s v t place holds in_frames all_held traced (has_host v.hosts) is_heap word reached position.0 position.1) in
      subst (Contains (map word_at positions)) (ap word_of position.1) (among_map word_at positions position.0 among)

  pub are_reached : AreReached Copying (start_of v) (map word_at positions)
  are_reached = record {
    distinct = distinct_map word_at positions (λ x y c d same. holds.objects.injective x y (word_at x) (placed_there x c) (placed_there y d ∙ ap (λ (w : ℕ). Some w) (sym same))) all.distinct;
    reached = λ word. (reached_word word, word_reached word);
  }

-- The increments

increments_by : {D : Type 0} (layouts : Layouts) (s : StoreView D) (v : OwnerView D) (t : Table D) (place : Placing) → Holds layouts (shown s v) t place → SlotsInFrames v.roots → AllHeld v.roots.owned → AreTraced layouts v.types.declarations v.heap → IsHeap layouts v.heap
    → (reached n : ℕ) → HasNumber (IsReached t) reached → n ≡ increments layouts reached → IsIncrements layouts (start_of v) n
increments_by Null s v t place holds in_frames all_held traced is_heap reached n has is = is
increments_by Counting s v t place holds in_frames all_held traced is_heap reached n has is = is
increments_by Copying s v t place holds in_frames all_held traced is_heap reached n (positions, (all, count)) is = (
  map (word_at s v t place holds in_frames all_held traced is_heap positions all) positions,
  (
    are_reached s v t place holds in_frames all_held traced is_heap positions all,
    is ∙ ap (λ (m : ℕ). m / objects_per_increment + 3) (count ∙ sym (length-map positions (word_at s v t place holds in_frames all_held traced is_heap positions all))),
  ),
)

-- As many increments as a table's collection takes, one of its heap takes that began from the roots that a trim left.
pub increments_taken : {D : Type 0} (layouts : Layouts) (s : StoreView D) (t : Table D) (v m : OwnerView D) → HoldsTable layouts (shown s v) t → SlotsInFrames v.roots → v.heap.attached ≡ true → Trims layouts v m
    → (n : ℕ) → TakesIncrements layouts t n → IsIncrements layouts (start_of m) n
increments_taken {D} layouts s t v m (place, holds) in_frames attached trims n takes =
    increments_by layouts s m t place (trimmed_table layouts s t place v m trims holds) (subst (λ (x : OwnerView D). SlotsInFrames x.roots) (sym trims.changes.rest) in_frames)
    (subst (λ (x : OwnerView D). AllHeld x.roots.owned) (sym trims.changes.rest) (trimmed_held v.roots.owned)) trims.can.traced trims.is_heap
    takes.reached n takes.reaches (takes.number ∙ ap (λ (made : Bool). increments_where made layouts takes.reached) (sym holds.memory.made ∙ attached))
