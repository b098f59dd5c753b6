-- One value in all elements of a new array.
use Rattle.std.proofs.Common.{◌≡◌, ℕ, zero, suc, ◌+◌, ◌-◌, ◌*◌, ◌/◌, ◌%◌, ◌^◌, ◌<◌, ◌≤◌, false, List, ◌∷◌, length, take, drop, get_or, Some, replicate, slice_index_or, slice_set, inl, inr, refl, sym, ap, ◌∙◌, subst, arith}
use Rattle.std.specs.Int.{bytes_low_first}
use Rattle.std.specs.List.{slice_get}
use Rattle.std.proofs.Math.Nat.{div-mul-le_self}
use Rattle.std.proofs.lemmas.Bool.{cases_eq}
use Rattle.std.proofs.lemmas.List.{get_or-set_same, get_or-set_other, length-take-le, length-drop, get_or-take, get_or-drop, ext_get_or, take_all}
use Rattle.std.proofs.lemmas.Nat.{mod-mul-add}
use Rattle.gc_types.specs.declared.value.StorageType.{StorageType}
use Rattle.gc_types.specs.declared.kind.Layouts.{Layouts}
use Rattle.gc_types.specs.Layouts.{struct_base, storage_width, is_gc_storage}
use Rattle.gc_view.specs.Bytes.{put_bytes}
use Rattle.gc_view.specs.Heaps.{HeapObject, HeapView}
use Rattle.gc_view.specs.Slots.{StorageSlot, shape_slots, shape_size}
use Rattle.gc_view.proofs.Spacing.{shape_first, slot_offsets}
use Rattle.gc_view.proofs.SlotLemmas.{SlotRange, slot_range, shape_spaced, elements_not_followed}
use Rattle.gc_heap.specs.Content.{IsHeap}
use Rattle.gc_owner.specs.Owners.{OwnerView, CanBegin}
use Rattle.gc_heap.specs.Collection.{IsWordOf}
use Rattle.gc_owner.specs.Writes.{IsNumberPlace}
use Rattle.gc_model.specs.Forms.{Form, number_of, function_of, continuation_of, reference_of, storage_form}
use Rattle.gc_model.proofs.ObjectShapes.{element_slot_at}
use Rattle.gc_values.specs.declared.stored.Stored.{Stored}
use Rattle.gc_values.specs.declared.stored.Stored.TheVariants as kept
use Rattle.gc_values.specs.Kept.{kept_code, OfForm}
use Rattle.gc_values.specs.HeldSlots.{HasStorageSlot, IsHeldOf, CanWriteSlot, WritesAt}
use Rattle.gc_values.specs.Filling.{Rewrites, AreElements, AreFilled, FillsElements, slot_bytes}
use Rattle.gc_values.proofs.Rewriting.{rewrites-nothing, rewrites-more, held_again, word_again, filled-more, element-le, part_of_take}
use Rattle.gc_values.proofs.SlotPlaces.{first_above, bytes_reach, bytes_place, held_size_is, held_small}
use Rattle.gc_values.proofs.SlotWrites.{length-low, take-low}

-- one more byte of a chunk
pub repeat_more : (chunk bytes : List ℕ) (at w : ℕ) → at < length chunk → ((k : ℕ) → k < at → slice_index_or chunk k 0 ≡ slice_index_or bytes (k % w) 0)
    → (k : ℕ) → k < at + 1 → slice_index_or (slice_set chunk at (slice_index_or bytes (at % w) 0)) k 0 ≡ slice_index_or bytes (k % w) 0
repeat_more chunk bytes at w inside same k below = elim (cases_eq k at) [
  | inl here ↦
      ap (λ j. get_or (slice_set chunk at (get_or bytes (at % w) 0)) j 0) here ∙ get_or-set_same chunk at (get_or bytes (at % w) 0) 0 inside ∙ ap (λ j. get_or bytes (j % w) 0) (sym here)
  | inr other ↦ get_or-set_other chunk at k (get_or bytes (at % w) 0) 0 other ∙ same k (omega (arith, below, other))
]

-- A chunk that has the same bytes over and over has them at each of its elements.
pub chunk_filled : (chunk bytes : List ℕ) (w most : ℕ) → length chunk ≡ 256 → 0 < w → w ≤ length bytes → most * w ≤ 256 → ((k : ℕ) → k < 256 → slice_index_or chunk k 0 ≡ slice_index_or bytes (k % w) 0)
    → AreFilled 0 w (take w bytes) most chunk
chunk_filled chunk bytes w most long positive wide all same i below =
    let ends = element-le i most w below in
    let from : ℕ = 0 + i * w in
    let count : length (take w (drop from chunk)) ≡ w = length-take-le w (drop from chunk) (omega (arith, length-drop from chunk, long, ends, all)) in
    ext_get_or 0 (take w (drop from chunk)) (take w bytes) (count ∙ sym (length-take-le w bytes wide))
    (λ j inside.
    let here : j < w = omega (arith, inside, count) in
    get_or-take w (drop from chunk) j 0 here ∙ get_or-drop from chunk j 0
    ∙ same (from + j) (omega (arith, ends, all, here))
    ∙ ap (λ k. get_or bytes k 0) (ap (λ k. (k + j) % w) (let z : from ≡ i * w = omega arith in z) ∙ mod-mul-add i w j here)
    ∙ sym (get_or-take w bytes j 0 here))

-- the low bytes of a number
pub low_bytes : (ty : StorageType) (number n : ℕ) (bytes : List ℕ) → n ≡ storage_width ty → n ≤ 16 → bytes ≡ bytes_low_first 0 16 number → take n bytes ≡ slot_bytes ty number
low_bytes ty number n bytes wide small are = ap (take n) are ∙ take-low 0 n 16 number small ∙ ap (λ k. bytes_low_first 0 k number) wide

-- a chunk of them
pub number_chunk : (ty : StorageType) (number n : ℕ) (chunk bytes : List ℕ) → n ≡ storage_width ty → 0 < n → n ≤ 16 → bytes ≡ bytes_low_first 0 16 number → length chunk ≡ 256
    → ((k : ℕ) → k < 256 → slice_index_or chunk k 0 ≡ slice_index_or bytes (k % n) 0) → AreFilled 0 (storage_width ty) (slot_bytes ty number) (256 / n) chunk
number_chunk ty number n chunk bytes wide positive small are long same =
    let count : length bytes ≡ 16 = ap length are in
    let filled = chunk_filled chunk bytes n (256 / n) long positive (omega (arith, small, count)) (div-mul-le_self 256 n) same in
    subst (λ (k : ℕ). AreFilled 0 k (slot_bytes ty number) (256 / n) chunk) wide (subst (λ (ws : List ℕ). AreFilled 0 n ws (256 / n) chunk) (low_bytes ty number n bytes wide small are) filled)

-- so have its first elements
pub part_filled : (w : ℕ) (ws chunk : List ℕ) (most m : ℕ) → AreFilled 0 w ws most chunk → m ≤ most → AreFilled 0 w ws m (take (m * w) chunk)
part_filled w ws chunk most m filled few i below =
    let ends = element-le i m w below in
    part_of_take chunk (m * w) (0 + i * w) w (omega (arith, ends)) ∙ filled i (omega (arith, below, few))

-- one element has its bytes
one_filled : (w : ℕ) (ws : List ℕ) → length ws ≡ w → AreFilled 0 w ws 1 ws
one_filled w ws wide zero below = ap (λ p. take w (drop p ws)) (let z : 0 + 0 * w ≡ 0 = omega arith in z) ∙ take_all w ws (omega (arith, wide))
one_filled w ws wide (suc i) below = absurd (omega (arith, below))

-- some zeros
pub take-zeros : (w n : ℕ) → w ≤ n → take {A = ℕ} w (replicate n 0) ≡ replicate w 0
take-zeros zero n below = refl
take-zeros (suc w) zero below = absurd (omega (arith, below))
take-zeros (suc w) (suc n) below = ap (λ xs. 0 ∷ xs) (take-zeros w n (omega (arith, below)))

-- what may be written into a slot of a heap may be in a later one, where words are words still
form_again : (h h' : HeapView) (form : Form) (x : Stored) → ((word : ℕ) → IsWordOf h word → IsWordOf h' word) → OfForm h form x → OfForm h' form x
form_again h h' (number_of kind) (kept.Number n) again of = of
form_again h h' (number_of kind) (kept.Ref word) again of = absurd of
form_again h h' function_of (kept.Number n) again of = of
form_again h h' function_of (kept.Ref word) again of = absurd of
form_again h h' continuation_of (kept.Number n) again of = of
form_again h h' continuation_of (kept.Ref word) again of = absurd of
form_again h h' (reference_of class) (kept.Number n) again of = absurd of
form_again h h' (reference_of class) (kept.Ref word) again of = again word of

-- The first k elements are written.
pub record FilledTo {D : Type 0} (layouts : Layouts) (old new : OwnerView D) (place : ℕ) (slot : StorageSlot) (count : ℕ) (x : Stored) (e : AreElements layouts old place slot count x) (k : ℕ) : Type 0 where
  pub bytes : List ℕ
  pub rewrites : Rewrites layouts e.shape old new place e.object bytes
  pub filled : AreFilled (slot.offset - struct_base layouts) (storage_width slot.storage) (slot_bytes slot.storage (kept_code x)) k bytes

module _ {D : Type 0} (layouts : Layouts) (old : OwnerView D) (place : ℕ) (slot : StorageSlot) (count : ℕ) (x : Stored) (e : AreElements layouts old place slot count x) where
  abbrev base : ℕ
  base = struct_base layouts

  abbrev w : ℕ
  w = storage_width slot.storage

  abbrev ws : List ℕ
  ws = slot_bytes slot.storage (kept_code x)

  abbrev slots : List StorageSlot
  slots = shape_slots layouts e.shape e.n

  abbrev pub element : ℕ → StorageSlot
  element i = record { storage = slot.storage; offset = slot.offset + i * w }

  element_at : (i : ℕ) → i < count → slice_get slots i ≡ Some (element i)
  element_at i below = ap (λ (ss : List StorageSlot). slice_get ss i) e.slots_are ∙ element_slot_at slot.storage count slot.offset i below

  range : (i : ℕ) → i < count → SlotRange (shape_first layouts e.shape) (shape_size layouts e.shape e.n) (element i)
  range i below = slot_range (shape_first layouts e.shape) (shape_size layouts e.shape e.n) slots (shape_spaced layouts e.shape e.n) i (element i) (element_at i below)

  above : base ≤ shape_first layouts e.shape
  above = first_above layouts e.object e.shape e.n e.is.has

  low : shape_first layouts e.shape ≤ slot.offset
  low = omega (arith, (range 0 e.some).low)

  -- some elements end inside
  high : (k : ℕ) → k ≤ count → slot.offset + k * w ≤ shape_size layouts e.shape e.n
  high zero few = omega (arith, (range 0 e.some).high)
  high (suc k) few = omega (arith, (range k (omega (arith, few))).high)

  pub filled-none : FilledTo layouts old old place slot count x e 0
  filled-none = record {
    bytes = e.object.bytes;
    rewrites = rewrites-nothing layouts e.shape old place e.object e.is.held;
    filled = λ i below. absurd (omega (arith, below));
  }

  -- Where the bytes are 0 all are filled before.
  pub filled-zeros : ws ≡ replicate w 0 → FillsElements layouts old old place slot count x e
  filled-zeros zeros = record {
    bytes = e.object.bytes;
    rewrites = rewrites-nothing layouts e.shape old place e.object e.is.held;
    filled = λ i below.
        let at : slot.offset - base + i * w ≡ slot.offset + i * w - base = omega (arith, low, above) in
        ap (λ p. take w (drop p e.object.bytes)) at ∙ e.blank i (element i) (element_at i below) ∙ sym zeros;
  }

  pub filled-all : (new : OwnerView D) → FilledTo layouts old new place slot count x e count → FillsElements layouts old new place slot count x e
  filled-all new f = record { bytes = f.bytes; rewrites = f.rewrites; filled = f.filled }

  -- the type table has the first of them
  pub has_first : (can : CanBegin layouts old) (heap : IsHeap layouts old.heap) → HasStorageSlot layouts old.types.declarations e.object.ty 0
  has_first can heap = record {
    shape = e.shape;
    declared = e.is.declared;
    has = record {
      count = e.n;
      slot = element 0;
      slot_is = element_at 0 e.some;
      small = (
          let end = held_small layouts old.heap place e.object heap e.is.held in
          let reach = bytes_reach layouts old.types.declarations old.heap place e.object e.shape e.n e.is (can.traced place e.object e.is.held) in
          omega (arith, (range 0 e.some).high, end, reach, held_size_is layouts e.object e.shape e.n e.is.has));
    };
  }

  module _ (new : OwnerView D) (k : ℕ) (f : FilledTo layouts old new place slot count x e k) (heap : IsHeap layouts new.heap) (can : CanBegin layouts new) where
    abbrev now : HeapObject
    now = record e.object { bytes = f.bytes }

    held_now : IsHeldOf new.types.declarations new.heap place now e.shape e.n
    held_now = held_again layouts e.shape old place e.object e.is.held new e.n f.bytes e.is f.rewrites

    reach : shape_size layouts e.shape e.n ≤ base + length f.bytes
    reach = bytes_reach layouts new.types.declarations new.heap place now e.shape e.n held_now (can.traced place now held_now.held)

    -- an offset among the elements is small
    pub small_offset : (i : ℕ) → i ≤ count → slot.offset + i * w < 2 ^ 32
    small_offset i few =
        let end = held_small layouts new.heap place now heap held_now.held in
        omega (arith, high i few, reach, end, held_size_is layouts now e.shape e.n held_now.has)

    module _ (m : ℕ) (few : k + m ≤ count) where
      sum_is : slot.offset + (k + m) * w ≡ slot.offset + k * w + m * w
      sum_is = omega arith

      within : slot.offset - base + k * w + m * w ≤ length f.bytes
      within = omega (arith, high (k + m) few, sum_is, reach, low, above)

      -- numbers may be written into some more of them at once
      pub numbers_go : is_gc_storage slot.storage ≡ false → IsNumberPlace layouts new place (slot.offset + k * w) (m * w)
      numbers_go number =
          bytes_place layouts new place now e.shape e.n held_now can (ap slot_offsets e.slots_are ∙ elements_not_followed slot.storage count slot.offset number) (slot.offset + k * w) (m * w)
          (omega (arith, low)) (omega (arith, high (k + m) few, sum_is))

      -- so more are filled
      pub more_filled : (after : OwnerView D) (part : List ℕ) → WritesAt layouts new after place (slot.offset + k * w) part → length part ≡ m * w → AreFilled 0 w ws m part → FilledTo layouts old after place slot count x e (k + m)
      more_filled after part did long parts =
          let at : slot.offset + k * w - base ≡ slot.offset - base + k * w = omega (arith, low, above) in
          record {
            bytes = put_bytes f.bytes (slot.offset + k * w - base) part;
            rewrites = rewrites-more layouts e.shape old place e.object e.is.held new after f.bytes (slot.offset + k * w) part above (omega (arith, low)) (omega (arith, at, within, long)) f.rewrites did;
            filled = subst (λ p. AreFilled (slot.offset - base) w ws (k + m) (put_bytes f.bytes p part)) (sym at) (filled-more (slot.offset - base) w ws f.bytes part k m f.filled long parts within);
          }

    -- what is kept may be written into the next one
    pub next_goes : k < count → CanWriteSlot layouts new place (element k) x
    next_goes below = record {
      object = now;
      shape = e.shape;
      count = e.n;
      is = held_now;
      index = k;
      slot_is = element_at k below;
      of_form = form_again old.heap new.heap (storage_form slot.storage) x (λ word. word_again layouts e.shape old place e.object e.is.held new f.bytes word f.rewrites) e.of_form;
    }

    pub next_filled : (after : OwnerView D) → k < count → WritesAt layouts new after place (slot.offset + k * w) ws → FilledTo layouts old after place slot count x e (k + 1)
    next_filled after below did =
        let wide = length-low 0 w (kept_code x) in
        more_filled 1 (omega (arith, below)) after ws did (omega (arith, wide)) (one_filled w ws wide)
