-- Values that are written one after another into the slots of a new object.
use Rattle.std.proofs.Common.{◌≡◌, ℕ, ◌+◌, ◌-◌, ◌^◌, ◌<◌, ◌≤◌, inl, inr, true, false, cond, nat_eq, List, [], ◌∷◌, length, Some, None, Ok, Err, Option, Contains, refl, sym, ap, ◌∙◌, subst, arith}
use Rattle.std.specs.List.{slice_get}
use Rattle.std.proofs.lemmas.Bool.{cases_eq}
use Rattle.std.proofs.lemmas.Option.{slice_get_within, get_or_from_slice_get}
use Rattle.gc_types.specs.declared.value.StorageType.{StorageType}
use Rattle.gc_types.specs.declared.value.StorageType.TheVariants as storage
use Rattle.gc_types.specs.declared.value.ValType.TheVariants as val
use Rattle.gc_types.specs.declared.value.HeapTopType.{HeapTopType}
use Rattle.gc_types.specs.declared.value.HeapTopType.TheVariants as top
use Rattle.gc_types.specs.Values.{unpacked, heap_top}
use Rattle.gc_types.specs.declared.kind.Layouts.{Layouts}
use Rattle.gc_types.specs.Declarations.{Shape, shape_at}
use Rattle.gc_types.specs.Layouts.{struct_base, storage_width, value_width}
use Rattle.gc_view.specs.Bytes.{put_bytes}
use Rattle.gc_view.specs.Heaps.{HeapObject, HeapView}
use Rattle.gc_view.specs.Slots.{StorageSlot, shape_slots, shape_size}
use Rattle.gc_view.proofs.Spacing.{slot_end, shape_first, AreSpaced}
use Rattle.gc_view.proofs.Layouts.{storage_width_positive}
use Rattle.gc_view.proofs.SlotLemmas.{shape_spaced}
use Rattle.gc_heap.specs.Content.{IsHeap}
use Rattle.gc_heap.specs.Collection.{IsWordOf}
use Rattle.gc_owner.specs.declared.entry.RootEntry.{RootEntry}
use Rattle.gc_owner.specs.Owners.{OwnerView, CanBegin}
use Rattle.gc_owner.specs.declared.entry.OwnedEntry.{OwnedEntry}
use Rattle.gc_model.proofs.Members.{among_map}
use Rattle.gc_model.proofs.RootsShown.{IsRooted, scoped_rooted, owned_rooted}
use Rattle.gc_model.specs.Values.{Value}
use Rattle.gc_model.specs.Forms.{Form, function_of, continuation_of, reference_of, top_form, storage_form, Names, InternedIds}
use Rattle.gc_model.proofs.Lists.{slice_get-same_length}
use Rattle.gc_model.proofs.SlotWrites.{LieUpTo, lie_up_to-none, lie_up_to-step, lie_up_to-all}
use Rattle.gc_model.proofs.StoredBytes.{stored_encoded}
use Rattle.gc_model.proofs.PointParts.{IsEncodedAs}
use Rattle.gc_values.specs.declared.slot.Slot.{Slot}
use Rattle.gc_values.specs.declared.stored.Stored.{Stored}
use Rattle.gc_values.specs.declared.root.RawValue.{RawValue}
use Rattle.gc_values.specs.declared.root.RawValue.TheVariants as raw
use Rattle.gc_values.specs.declared.root.RootSlot.{RootSlot}
use Rattle.gc_values.specs.declared.root.RootSlot.TheVariants as slot
use Rattle.gc_values.specs.declared.root.RootFault.TheVariants as fault
use Rattle.gc_values.specs.Words.{HandleRoots, handle_roots, root_word_at, entry_word, owned_id, owned_word, owned_at}
use Rattle.gc_values.proofs.OwnedWords.{owned_there, owned_word-ok, tested-ok}
use Rattle.gc_values.specs.Kept.{kept_code, KeptAs, CanBeKept, raw_form, form_width, FitsForm, OfForm, StoredStands}
use Rattle.gc_values.specs.HeldSlots.{storage_slot, HasStorageSlot, FindsSlot, IsHeldOf, CanWriteSlot, WritesAt}
use Rattle.gc_values.specs.Filling.{EachFits, EachStands, IsToFill, Rewrites, FillsSlots, slot_bytes}
use Rattle.gc_values.proofs.Rewriting.{rewrites-nothing, rewrites-more, held_again}
use Rattle.gc_values.proofs.SlotPlaces.{first_above, bytes_reach, slot_lies, held_size_is, held_small}
use Rattle.gc_values.proofs.SlotWrites.{length-low}

-- a root's word is that of an entry
slot_entry : (entries : List RootEntry) (index generation word : ℕ) → entry_word (slice_get entries index) generation ≡ Ok word → (e : RootEntry) × (Contains entries e × (e.word ≡ word))
slot_entry entries index generation word is = at (slice_get entries index) refl is
  where
    at : (found : Option RootEntry) → slice_get entries index ≡ found → entry_word found generation ≡ Ok word → (e : RootEntry) × (Contains entries e × (e.word ≡ word))
    at None e is = absurd (cc)
    at (Some entry) e is =
        let here : Contains entries entry = (index, slice_get_within entries index entry e, get_or_from_slice_get entries index entry entry e) in
        elim (nat_eq entry.generation generation) as (λ b. cond b (Ok entry.word) (Err fault.Unrooted) ≡ Ok word → (e : RootEntry) × (Contains entries e × (e.word ≡ word))) [
          | true ↦ λ same. (entry, (here, cc))
          | false ↦ λ same. absurd (cc)
        ] is

owned_entry : (entries : List OwnedEntry) (id generation word : ℕ) → cond (nat_eq id (owned_id generation)) (owned_word (owned_at generation entries)) (Err fault.Unrooted) ≡ Ok word → (e : OwnedEntry) × (Contains entries e × (e.word ≡ word))
owned_entry entries id generation word is =
    let found = owned_word-ok (owned_at generation entries) word (tested-ok (nat_eq id (owned_id generation)) (owned_word (owned_at generation entries)) fault.Unrooted word is).1 in
    (found.0, ((owned_there generation entries found.0 found.1.0).0, found.1.1.1))

-- the words of the roots are words of the heap
pub record AreWords (h : HeapView) (roots : HandleRoots) : Type 0 where
  pub scoped : (e : RootEntry) → Contains roots.scoped e → IsWordOf h e.word
  pub owned : (e : OwnedEntry) → Contains roots.owned e → IsWordOf h e.word

root_words : {D : Type 0} (layouts : Layouts) (v : OwnerView D) → CanBegin layouts v → (word : ℕ) → (0 < word → IsRooted v.roots word) → IsWordOf v.heap word
root_words layouts v can word rooted = elim (cases_eq word 0) [
  | inl null ↦ inl null
  | inr present ↦
      let root = rooted (omega (arith, present)) in
      subst (IsWordOf v.heap) root.1.1 (can.collects.roots root.0 root.1.0)
]

-- the words of an owner's scoped and owned roots are words of its heap
pub are_words : {D : Type 0} (layouts : Layouts) (v : OwnerView D) → CanBegin layouts v → AreWords v.heap (handle_roots v.roots)
are_words layouts v can = record {
  scoped = λ e among. root_words layouts v can e.word (scoped_rooted v.roots e.word (among_map (λ (x : RootEntry). x.word) v.roots.scoped e among));
  owned = λ e among. root_words layouts v can e.word (owned_rooted v.roots e.word (among_map (λ (x : OwnedEntry). x.word) v.roots.owned e among));
}

slot_is_word : (h : HeapView) (roots : HandleRoots) → AreWords h roots → (s : RootSlot) (generation word : ℕ) → root_word_at roots s generation ≡ Ok word → IsWordOf h word
slot_is_word h roots words (slot.Scoped index) generation word is =
    let e = slot_entry roots.scoped index generation word is in
    subst (IsWordOf h) e.1.1 (words.scoped e.0 e.1.0)
slot_is_word h roots words (slot.Owned id) generation word is =
    let e = owned_entry roots.owned id generation word is in
    subst (IsWordOf h) e.1.1 (words.owned e.0 e.1.0)

-- what is kept of a value is of its form
kept_form : (h : HeapView) (ids : InternedIds) (entries : HandleRoots) (r : RawValue) (x : Stored) → AreWords h entries → KeptAs ids entries r x → OfForm h (raw_form r) x
kept_form h ids entries (raw.I32 n) x words is = subst (OfForm h (raw_form (raw.I32 n))) (sym is) tt
kept_form h ids entries (raw.I64 n) x words is = subst (OfForm h (raw_form (raw.I64 n))) (sym is) tt
kept_form h ids entries (raw.F32 n) x words is = subst (OfForm h (raw_form (raw.F32 n))) (sym is) tt
kept_form h ids entries (raw.F64 n) x words is = subst (OfForm h (raw_form (raw.F64 n))) (sym is) tt
kept_form h ids entries (raw.V128 n) x words is = subst (OfForm h (raw_form (raw.V128 n))) (sym is) tt
kept_form h ids entries (raw.Func f) x words is = subst (OfForm h function_of) (sym is.1.1) tt
kept_form h ids entries (raw.Cont c) x words is = subst (OfForm h continuation_of) (sym is.1.1) tt
kept_form h ids entries (raw.Ref class None) x words is = subst (OfForm h (reference_of class)) (sym is) (inl refl)
kept_form h ids entries (raw.Ref class (Some handle)) x words is =
    subst (OfForm h (reference_of class)) (sym is.1.1) (slot_is_word h entries words handle.slot handle.generation is.0 is.1.0)

pub kept_of_form : (h : HeapView) (ids : InternedIds) (entries : HandleRoots) (ty : StorageType) (r : RawValue) (x : Stored) → AreWords h entries → raw_form r ≡ storage_form ty → KeptAs ids entries r x → OfForm h (storage_form ty) x
kept_of_form h ids entries ty r x words form is = subst (λ (f : Form). OfForm h f x) form (kept_form h ids entries r x words is)

-- a form is as wide as the value types that have it
top_width : (t : HeapTopType) → form_width (top_form t) ≡ 4
top_width top.Any = refl
top_width top.Extern = refl
top_width top.Func = refl
top_width top.Exn = refl
top_width top.Cont = refl

storage_form_width : (ty : StorageType) → form_width (storage_form ty) ≡ value_width (unpacked ty)
storage_form_width storage.I8 = refl
storage_form_width storage.I16 = refl
storage_form_width (storage.ValType val.I32) = refl
storage_form_width (storage.ValType val.I64) = refl
storage_form_width (storage.ValType val.F32) = refl
storage_form_width (storage.ValType val.F64) = refl
storage_form_width (storage.ValType val.V128) = refl
storage_form_width (storage.ValType (val.Ref ty)) = top_width (heap_top ty.heap_type)

-- The low bytes of what is kept are those of the value that a slot keeps.
pub kept_encoded : (ids : InternedIds) (names : Names) (entries : HandleRoots) (ty : StorageType) (r : RawValue) (w : Value) (x : Stored) → StoredStands ids names entries ty r w → KeptAs ids entries r x → FitsForm (raw_form r) (kept_code x)
    → IsEncodedAs names ty w (slot_bytes ty (kept_code x))
kept_encoded ids names entries ty r w x stands is small =
    let width : form_width (raw_form r) ≡ value_width (unpacked ty) = ap form_width stands.raw_form_is ∙ storage_form_width ty in
    subst (λ (v : Value). IsEncodedAs names ty v (slot_bytes ty (kept_code x))) (sym stands.stored_is)
    (stored_encoded names ty stands.value (kept_code x) stands.form (stands.stands x is small) (subst (λ (n : ℕ). kept_code x < 256 ^ n) width small))

-- no more slots than bytes
spaced_count : (from to : ℕ) (slots : List StorageSlot) → AreSpaced from slots to → from + length slots ≤ to
spaced_count from to [] spaced = omega (arith, spaced)
spaced_count from to (s ∷ slots) spaced =
    let rest = spaced_count (slot_end s) to slots spaced.1 in
    let wide = storage_width_positive s.storage in
    omega (arith, spaced.0, rest, wide)

-- The first k values are written.
pub record FillsTo {D : Type 0} (layouts : Layouts) (ids : InternedIds) (raws : List RawValue) (old new : OwnerView D) (place : ℕ) (before : HeapObject) (shape : Shape) (count k : ℕ) : Type 0 where
  pub bytes : List ℕ
  pub rewrites : Rewrites layouts shape old new place before bytes
  pub lie : (names : Names) (values : List Value) → EachStands ids raws names (handle_roots old.roots) (shape_slots layouts shape count) values
      → LieUpTo names (struct_base layouts) (shape_slots layouts shape count) values bytes k

module _ {D : Type 0} (layouts : Layouts) (ids : InternedIds) (raws : List RawValue) (old : OwnerView D) (place ty : ℕ) (before : HeapObject) (shape : Shape) (count : ℕ) (f : IsToFill layouts old place ty (EachFits ids raws) before shape count) where
  abbrev base : ℕ
  base = struct_base layouts

  abbrev slots : List StorageSlot
  slots = shape_slots layouts shape count

  same_count : (names : Names) (values : List Value) → EachStands ids raws names (handle_roots old.roots) slots values → length values ≡ length slots
  same_count names values all = sym all.same_count ∙ f.fit.same_count

  pub fills-none : FillsTo layouts ids raws old old place before shape count 0
  fills-none = record {
    bytes = before.bytes;
    rewrites = rewrites-nothing layouts shape old place before f.is.held;
    lie = λ names values all. lie_up_to-none names base slots values before.bytes (same_count names values all);
  }

  module _ (new : OwnerView D) (k : ℕ) (r : RawValue) (r_is : slice_get raws k ≡ Some r) (w : FillsTo layouts ids raws old new place before shape count k) (heap : IsHeap layouts new.heap) (can : CanBegin layouts new) where
    -- the slot at the index
    abbrev pub slot_here : (s : StorageSlot) × (slice_get slots k ≡ Some s)
    slot_here = slice_get-same_length raws slots k r f.fit.same_count r_is

    abbrev now : HeapObject
    now = record before { bytes = w.bytes }

    held_now : IsHeldOf new.types.declarations new.heap place now shape count
    held_now = held_again layouts shape old place before f.is.held new count w.bytes f.is w.rewrites

    same_roots : handle_roots new.roots ≡ handle_roots old.roots
    same_roots = ap (λ (v : OwnerView D). handle_roots v.roots) w.rewrites.rest

    reach : shape_size layouts shape count ≤ base + length w.bytes
    reach = bytes_reach layouts new.types.declarations new.heap place now shape count held_now (can.traced place now held_now.held)

    declared_here : shape_at new.types.declarations ty ≡ Some shape
    declared_here = subst (λ (t : ℕ). shape_at new.types.declarations t ≡ Some shape) f.of_type held_now.declared

    -- the type table has it, below 2 ^ 32
    pub has_slot : HasStorageSlot layouts new.types.declarations ty k
    has_slot = record {
      shape = shape;
      declared = declared_here;
      has = record {
        count = count;
        slot = slot_here.0;
        slot_is = slot_here.1;
        small = (
            let range = slot_lies layouts new.types.declarations new.heap place now shape count held_now (can.traced place now held_now.held) k slot_here.0 slot_here.1 in
            let end = held_small layouts new.heap place now heap held_now.held in
            omega (arith, range.high, reach, end, held_size_is layouts now shape count held_now.has));
      };
    }

    pub small_index : k < 2 ^ 32
    small_index =
        let below = slice_get_within slots k slot_here.0 slot_here.1 in
        let count_is = spaced_count (shape_first layouts shape) (shape_size layouts shape count) slots (shape_spaced layouts shape count) in
        let end = held_small layouts new.heap place now heap held_now.held in
        omega (arith, below, count_is, reach, end, held_size_is layouts now shape count held_now.has)

    pub is_kept : CanBeKept ids (handle_roots new.roots) r
    is_kept = subst (λ (es : HandleRoots). CanBeKept ids es r) (sym same_roots) (f.fit.kept k r r_is)

    -- what the type table finds is that slot
    pub slot_found : (found : Slot) → FindsSlot layouts new.types.declarations ty k found → storage_slot found ≡ slot_here.0
    slot_found found finds = finds shape count slot_here.0 declared_here slot_here.1

    module _ (x : Stored) (x_is : KeptAs ids (handle_roots new.roots) r x) where
      pub can_write : CanWriteSlot layouts new place slot_here.0 x
      can_write = record {
        object = now;
        shape = shape;
        count = count;
        is = held_now;
        index = k;
        slot_is = slot_here.1;
        of_form = kept_of_form new.heap ids (handle_roots new.roots) slot_here.0.storage r x (are_words layouts new can) (f.fit.forms k slot_here.0 r slot_here.1 r_is) x_is;
      }

      -- one more value was written
      pub fills-more : FitsForm (raw_form r) (kept_code x) → (after : OwnerView D) → WritesAt layouts new after place slot_here.0.offset (slot_bytes slot_here.0.storage (kept_code x)) → FillsTo layouts ids raws old after place before shape count (k + 1)
      fills-more small after did =
          let s : StorageSlot = slot_here.0 in
          let ws : List ℕ = slot_bytes s.storage (kept_code x) in
          let above = first_above layouts now shape count held_now.has in
          let range = slot_lies layouts new.types.declarations new.heap place now shape count held_now (can.traced place now held_now.held) k s slot_here.1 in
          let wide = length-low 0 (storage_width s.storage) (kept_code x) in
          record {
            bytes = put_bytes w.bytes (s.offset - base) ws;
            rewrites = rewrites-more layouts shape old place before f.is.held new after w.bytes s.offset ws above range.low (omega (arith, range.low, range.high, above, reach, wide)) w.rewrites did;
            lie = λ names values all.
                let v = slice_get-same_length raws values k r all.same_count r_is in
                let stands = all.each k s r v.0 slot_here.1 r_is v.1 in
                lie_up_to-step names base (shape_first layouts shape) (shape_size layouts shape count) slots above (shape_spaced layouts shape count) values w.bytes k s v.0 ws (w.lie names values all) slot_here.1 v.1
                (kept_encoded ids names (handle_roots old.roots) s.storage r v.0 x stands (subst (λ (es : HandleRoots). KeptAs ids es r x) same_roots x_is) small) reach;
          }

  -- all values are written
  pub fills-all : (new : OwnerView D) (k : ℕ) → k ≡ length raws → FillsTo layouts ids raws old new place before shape count k → FillsSlots layouts (EachStands ids raws) old new place before shape count
  fills-all new k all w = record {
    bytes = w.bytes;
    rewrites = w.rewrites;
    lie = λ names values stands. lie_up_to-all names base slots values w.bytes k (all ∙ f.fit.same_count) (w.lie names values stands);
  }
