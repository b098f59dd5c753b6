-- The elements of a new array that are filled at once: with one value, or with bytes.
use Rattle.std.proofs.Common.{◌≡◌, ℕ, zero, suc, ◌+◌, ◌-◌, ◌*◌, ◌<◌, ◌≤◌, List, [], length, replicate, Some, refl, sym, ap, ◌∙◌, subst, arith}
use Rattle.std.specs.List.{slice_get}
use Rattle.std.proofs.lemmas.List.{length-replicate, length-map}
use Rattle.std.proofs.lemmas.Option.{none-some}
use Rattle.gc_types.specs.declared.value.StorageType.{StorageType}
use Rattle.gc_types.specs.declared.value.StorageType.TheVariants as storage
use Rattle.gc_types.specs.declared.kind.Layouts.{Layouts}
use Rattle.gc_types.specs.Declarations.{Shape, shape_at}
use Rattle.gc_types.specs.Layouts.{struct_base, storage_width}
use Rattle.gc_view.specs.Bytes.{put_bytes}
use Rattle.gc_view.specs.Heaps.{HeapObject}
use Rattle.gc_view.specs.Slots.{StorageSlot, element_slots, shape_slots, shape_size}
use Rattle.gc_view.proofs.Spacing.{shape_first, slot_offsets}
use Rattle.gc_view.proofs.ByteLemmas.{part-put_bytes}
use Rattle.gc_view.proofs.SlotLemmas.{SlotRange, slot_range, shape_spaced, length-element_slots, elements_not_followed}
use Rattle.gc_heap.specs.Content.{IsHeap}
use Rattle.gc_values.specs.Words.{HandleRoots, handle_roots}
use Rattle.gc_owner.specs.Owners.{OwnerView, CanBegin}
use Rattle.gc_owner.specs.Writes.{IsNumberPlace, WritesBytes}
use Rattle.gc_model.specs.Values.{Value}
use Rattle.gc_model.specs.Stored.{byte_value}
use Rattle.gc_model.specs.Forms.{Names, InternedIds}
use Rattle.gc_model.specs.Standing.{ValuesLie}
use Rattle.gc_model.proofs.Elements.{byte_elements, equal_elements}
use Rattle.gc_model.proofs.ObjectShapes.{element_slot_at}
use Rattle.gc_values.specs.declared.slot.Slot.{Slot}
use Rattle.gc_values.specs.declared.stored.Stored.{Stored}
use Rattle.gc_values.specs.declared.root.RawValue.{RawValue}
use Rattle.gc_values.specs.Kept.{kept_code, KeptAs, raw_form, FitsForm}
use Rattle.gc_values.specs.HeldSlots.{storage_slot, HasStorageSlot, FindsSlot}
use Rattle.gc_values.specs.Filling.{SameFits, SameStands, BytesFit, BytesStand, IsToFill, FillsSlots, AreElements, FillsElements}
use Rattle.gc_values.proofs.EachValue.{are_words, kept_of_form, kept_encoded}
use Rattle.gc_values.proofs.Rewriting.{rewrites-nothing, rewrites-more}
use Rattle.gc_values.proofs.SlotPlaces.{first_above, bytes_reach, bytes_place, held_size_is, held_small}
use Rattle.gc_values.proofs.SlotWrites.{bytes_written}

-- no values lie in no slots
nothing_lies : (names : Names) (base : ℕ) (slots : List StorageSlot) (values : List Value) (bytes : List ℕ) → slots ≡ [] → length values ≡ length slots → ValuesLie names base slots values bytes
nothing_lies names base slots values bytes none same = record {
  same_count = same;
  each = λ i slot value e f. absurd (none-some slot (ap (λ (ss : List StorageSlot). slice_get ss i) (sym none) ∙ e));
}

-- an array of no elements is filled as it is
pub nothing_filled : {D : Type 0} (layouts : Layouts) (v : OwnerView D) (place ty : ℕ) (Fit : HandleRoots → List StorageSlot → Type 0) (Stand : Names → HandleRoots → List StorageSlot → List Value → Type 0) (object : HeapObject) (shape : Shape) (n : ℕ)
    → IsToFill layouts v place ty Fit object shape n → shape_slots layouts shape n ≡ []
    → ((names : Names) (values : List Value) → Stand names (handle_roots v.roots) (shape_slots layouts shape n) values → length values ≡ length (shape_slots layouts shape n)) → FillsSlots layouts Stand v v place object shape n
nothing_filled layouts v place ty Fit Stand object shape n f none same = record {
  bytes = object.bytes;
  rewrites = rewrites-nothing layouts shape v place object f.is.held;
  lie = λ names values stands. nothing_lies names (struct_base layouts) (shape_slots layouts shape n) values object.bytes none (same names values stands);
}

no_elements : (ty : StorageType) (n from : ℕ) → n ≡ 0 → element_slots ty n from ≡ []
no_elements ty zero from none = refl
no_elements ty (suc n) from none = absurd (omega (arith, none))

same_length : (ids : InternedIds) (r : RawValue) (names : Names) (entries : HandleRoots) (slots : List StorageSlot) (values : List Value) → SameStands ids r names entries slots values → length values ≡ length slots
same_length ids r names entries slots values stands = ap (λ (vs : List Value). length vs) stands.values_are ∙ length-replicate (length slots) stands.kept

pub none_filled : {D : Type 0} (layouts : Layouts) (v : OwnerView D) (place ty : ℕ) (ids : InternedIds) (r : RawValue) (count : ℕ) (object : HeapObject) (shape : Shape) (n : ℕ) → IsToFill layouts v place ty (SameFits ids r count) object shape n → count ≡ 0
    → FillsSlots layouts (SameStands ids r) v v place object shape n
none_filled layouts v place ty ids r count object shape n f none =
    nothing_filled layouts v place ty (SameFits ids r count) (SameStands ids r) object shape n f (f.fit.slots_are ∙ no_elements f.fit.ty count f.fit.from none)
    (λ names values. same_length ids r names (handle_roots v.roots) (shape_slots layouts shape n) values)

-- One value in some elements.
module _ {D : Type 0} (layouts : Layouts) (v : OwnerView D) (place ty : ℕ) (ids : InternedIds) (r : RawValue) (count : ℕ) (object : HeapObject) (shape : Shape) (n : ℕ) (f : IsToFill layouts v place ty (SameFits ids r count) object shape n) (some : 0 < count) (can : CanBegin layouts v) where
  abbrev pub first : StorageSlot
  first = record { storage = f.fit.ty; offset = f.fit.from }

  abbrev slots : List StorageSlot
  slots = shape_slots layouts shape n

  first_is : slice_get slots 0 ≡ Some first
  first_is =
      ap (λ (ss : List StorageSlot). slice_get ss 0) f.fit.slots_are ∙ element_slot_at f.fit.ty count f.fit.from 0 some
      ∙ ap (λ (o : ℕ). Some (record { storage = f.fit.ty; offset = o })) (let e : f.fit.from + 0 * storage_width f.fit.ty ≡ f.fit.from = omega arith in e)

  range : SlotRange (shape_first layouts shape) (shape_size layouts shape n) first
  range = slot_range (shape_first layouts shape) (shape_size layouts shape n) slots (shape_spaced layouts shape n) 0 first first_is

  declared_here : shape_at v.types.declarations ty ≡ Some shape
  declared_here = subst (λ (t : ℕ). shape_at v.types.declarations t ≡ Some shape) f.of_type f.is.declared

  pub has_first : IsHeap layouts v.heap → HasStorageSlot layouts v.types.declarations ty 0
  has_first heap = record {
    shape = shape;
    declared = declared_here;
    has = record {
      count = n;
      slot = first;
      slot_is = first_is;
      small = (
          let end = held_small layouts v.heap place object heap f.is.held in
          let reach = bytes_reach layouts v.types.declarations v.heap place object shape n f.is (can.traced place object f.is.held) in
          omega (arith, range.high, end, reach, held_size_is layouts object shape n f.is.has));
    };
  }

  pub first_found : (found : Slot) → FindsSlot layouts v.types.declarations ty 0 found → storage_slot found ≡ first
  first_found found finds = finds shape n first declared_here first_is

  module _ (x : Stored) (x_is : KeptAs ids (handle_roots v.roots) r x) where
    abbrev pub are_elements : AreElements layouts v place first count x
    are_elements = record {
      object = object;
      shape = shape;
      n = n;
      is = f.is;
      some = some;
      slots_are = f.fit.slots_are;
      blank = f.blank;
      of_form = kept_of_form v.heap ids (handle_roots v.roots) f.fit.ty r x (are_words layouts v can) (f.fit.form some) x_is;
    }

    pub same_filled : (new : OwnerView D) → FitsForm (raw_form r) (kept_code x) → FillsElements layouts v new place first count x are_elements → FillsSlots layouts (SameStands ids r) v new place object shape n
    same_filled new small filled = record {
      bytes = filled.bytes;
      rewrites = filled.rewrites;
      lie = λ names values stands.
          let encoded = kept_encoded ids names (handle_roots v.roots) f.fit.ty r stands.kept x (stands.stands 0 first first_is) x_is small in
          let many : length slots ≡ count = ap (λ (ss : List StorageSlot). length ss) f.fit.slots_are ∙ length-element_slots f.fit.ty count f.fit.from in
          let above = first_above layouts object shape n f.is.has in
          let lie = equal_elements names (struct_base layouts) f.fit.from filled.bytes (omega (arith, above, range.low)) f.fit.ty count stands.kept _ encoded filled.filled in
          subst (λ (ss : List StorageSlot). ValuesLie names (struct_base layouts) ss values filled.bytes) (sym f.fit.slots_are)
          (subst (λ (vs : List Value). ValuesLie names (struct_base layouts) (element_slots f.fit.ty count f.fit.from) vs filled.bytes) (sym (stands.values_are ∙ ap (λ (k : ℕ). replicate k stands.kept) many)) lie);
    }

bytes_length : (bs : List ℕ) (names : Names) (entries : HandleRoots) (slots : List StorageSlot) (values : List Value) → BytesFit bs entries slots → BytesStand bs names entries slots values → length values ≡ length slots
bytes_length bs names entries slots values fit stands =
    ap (λ (vs : List Value). length vs) stands ∙ length-map bs byte_value ∙ sym (ap (λ (ss : List StorageSlot). length ss) fit.slots_are ∙ length-element_slots storage.I8 (length bs) fit.from)

pub no_bytes_filled : {D : Type 0} (layouts : Layouts) (v : OwnerView D) (place ty : ℕ) (bs : List ℕ) (object : HeapObject) (shape : Shape) (n : ℕ) → IsToFill layouts v place ty (BytesFit bs) object shape n → length bs ≡ 0
    → FillsSlots layouts (BytesStand bs) v v place object shape n
no_bytes_filled layouts v place ty bs object shape n f none =
    nothing_filled layouts v place ty (BytesFit bs) (BytesStand bs) object shape n f (f.fit.slots_are ∙ no_elements storage.I8 (length bs) f.fit.from none)
    (λ names values. bytes_length bs names (handle_roots v.roots) (shape_slots layouts shape n) values f.fit)

-- Bytes in as many elements.
module _ {D : Type 0} (layouts : Layouts) (v : OwnerView D) (place ty : ℕ) (bs : List ℕ) (object : HeapObject) (shape : Shape) (n : ℕ) (f : IsToFill layouts v place ty (BytesFit bs) object shape n) (some : 0 < length bs) (can : CanBegin layouts v) where
  abbrev from : ℕ
  from = f.fit.from

  abbrev byte_slot : ℕ → StorageSlot
  byte_slot i = record { storage = storage.I8; offset = from + i * 1 }

  byte_at : (i : ℕ) → i < length bs → slice_get (shape_slots layouts shape n) i ≡ Some (byte_slot i)
  byte_at i below = ap (λ (ss : List StorageSlot). slice_get ss i) f.fit.slots_are ∙ element_slot_at storage.I8 (length bs) from i below

  byte_range : (i : ℕ) → i < length bs → SlotRange (shape_first layouts shape) (shape_size layouts shape n) (byte_slot i)
  byte_range i below = slot_range (shape_first layouts shape) (shape_size layouts shape n) (shape_slots layouts shape n) (shape_spaced layouts shape n) i (byte_slot i) (byte_at i below)

  bytes_low : shape_first layouts shape ≤ from
  bytes_low = omega (arith, (byte_range 0 some).low)

  bytes_high : from + length bs ≤ shape_size layouts shape n
  bytes_high = omega (arith, some, (byte_range (length bs - 1) (omega (arith, some))).high)

  reach : shape_size layouts shape n ≤ struct_base layouts + length object.bytes
  reach = bytes_reach layouts v.types.declarations v.heap place object shape n f.is (can.traced place object f.is.held)

  type_here : shape_at v.types.declarations ty ≡ Some shape
  type_here = subst (λ (t : ℕ). shape_at v.types.declarations t ≡ Some shape) f.of_type f.is.declared

  pub has_byte : IsHeap layouts v.heap → HasStorageSlot layouts v.types.declarations ty 0
  has_byte heap = record {
    shape = shape;
    declared = type_here;
    has = record {
      count = n;
      slot = byte_slot 0;
      slot_is = byte_at 0 some;
      small = (let end = held_small layouts v.heap place object heap f.is.held in omega (arith, (byte_range 0 some).high, end, reach, held_size_is layouts object shape n f.is.has));
    };
  }

  pub byte_found : (found : Slot) → FindsSlot layouts v.types.declarations ty 0 found → found.offset ≡ from
  byte_found found finds =
      ap (λ (s : StorageSlot). s.offset) (finds shape n (byte_slot 0) type_here (byte_at 0 some)) ∙ (let e : from + 0 * 1 ≡ from = omega arith in e)

  pub bytes_go : IsNumberPlace layouts v place from (length bs)
  bytes_go = bytes_place layouts v place object shape n f.is can (ap slot_offsets f.fit.slots_are ∙ elements_not_followed storage.I8 (length bs) from refl) from (length bs) bytes_low bytes_high

  pub bytes_filled : (new : OwnerView D) → WritesBytes layouts v new place from bs → FillsSlots layouts (BytesStand bs) v new place object shape n
  bytes_filled new did =
      let base : ℕ = struct_base layouts in
      let above = first_above layouts object shape n f.is.has in
      let within : from - base + length bs ≤ length object.bytes = omega (arith, above, bytes_low, bytes_high, reach) in
      record {
        bytes = put_bytes object.bytes (from - base) bs;
        rewrites = rewrites-more layouts shape v place object f.is.held v new object.bytes from bs above bytes_low within (rewrites-nothing layouts shape v place object f.is.held) (bytes_written layouts v new place from bs bs refl did);
        lie = λ names values stands.
            let lie = byte_elements names base from (put_bytes object.bytes (from - base) bs) (omega (arith, above, bytes_low)) bs (part-put_bytes object.bytes (from - base) bs within) in
            subst (λ (ss : List StorageSlot). ValuesLie names base ss values (put_bytes object.bytes (from - base) bs)) (sym f.fit.slots_are)
            (subst (λ (vs : List Value). ValuesLie names base (element_slots storage.I8 (length bs) from) vs (put_bytes object.bytes (from - base) bs)) (sym stands) lie);
      }
