-- What a write to a slot leaves, by the bytes of the number that is written.
use Rattle.std.proofs.Common.{◌≡◌, ℕ, zero, suc, ◌≤◌, List, ◌∷◌, length, take, true, false, refl, sym, ap, ◌∙◌, subst, arith}
use Rattle.std.specs.Int.{bytes_low_first, byte_at}
use Rattle.gc_types.specs.declared.kind.Layouts.{Layouts}
use Rattle.gc_types.specs.declared.value.StorageType.{StorageType}
use Rattle.gc_types.specs.Layouts.{storage_width, is_gc_storage}
use Rattle.gc_view.specs.Heaps.{HeapView}
use Rattle.gc_heap.specs.Heap.{put_object, with_data}
use Rattle.gc_owner.specs.Owners.{OwnerView, CanBegin}
use Rattle.gc_owner.specs.Writes.{IsNumberPlace, IsReferencePlace, WritesBytes, WritesWord}
use Rattle.gc_model.specs.Forms.{Form, number_of, function_of, continuation_of, reference_of, storage_form}
use Rattle.gc_model.proofs.ReadingBack.{storage_reference, reference_width}
use Rattle.gc_model.proofs.PointParts.{is_reference}
use Rattle.gc_view.specs.Slots.{StorageSlot}
use Rattle.gc_values.specs.declared.stored.Stored.TheVariants as kept
use Rattle.gc_values.specs.Kept.{OfForm}
use Rattle.gc_values.specs.HeldSlots.{CanWriteSlot, WritesAt}
use Rattle.gc_values.proofs.SlotPlaces.{number_place, reference_place}

-- the low bytes of a number
pub take-low : (i k m n : ℕ) → k ≤ m → take k (bytes_low_first i m n) ≡ bytes_low_first i k n
take-low i zero m n below = refl
take-low i (suc k) zero n below = absurd (omega (arith, below))
take-low i (suc k) (suc m) n below = ap (λ bs. byte_at i n ∷ bs) (take-low (suc i) k m n (omega (arith, below)))

pub length-low : (i k n : ℕ) → length (bytes_low_first i k n) ≡ k
length-low i zero n = refl
length-low i (suc k) n = ap suc (length-low (suc i) k n)

-- the form of a slot tells whether it is followed, by what it may have
number_form : (h : HeapView) (form : Form) (n : ℕ) → OfForm h form (kept.Number n) → is_reference form ≡ false
number_form h (number_of kind) n of = refl
number_form h function_of n of = refl
number_form h continuation_of n of = refl
number_form h (reference_of class) n of = absurd of

word_form : (h : HeapView) (form : Form) (word : ℕ) → OfForm h form (kept.Ref word) → is_reference form ≡ true
word_form h (number_of kind) word of = absurd of
word_form h function_of word of = absurd of
word_form h continuation_of word of = absurd of
word_form h (reference_of class) word of = refl

pub number_slot : (h : HeapView) (ty : StorageType) (n : ℕ) → OfForm h (storage_form ty) (kept.Number n) → is_gc_storage ty ≡ false
number_slot h ty n of = storage_reference ty ∙ number_form h (storage_form ty) n of

pub word_slot : (h : HeapView) (ty : StorageType) (word : ℕ) → OfForm h (storage_form ty) (kept.Ref word) → is_gc_storage ty ≡ true
word_slot h ty word of = storage_reference ty ∙ word_form h (storage_form ty) word of

pub word_width : (h : HeapView) (ty : StorageType) (word : ℕ) → OfForm h (storage_form ty) (kept.Ref word) → storage_width ty ≡ 4
word_width h ty word of = reference_width ty (word_form h (storage_form ty) word of)

module _ {D : Type 0} (layouts : Layouts) (v : OwnerView D) (place : ℕ) (slot : StorageSlot) (can : CanBegin layouts v) where
  pub number_goes : (n : ℕ) → CanWriteSlot layouts v place slot (kept.Number n) → (count : ℕ) → count ≡ storage_width slot.storage → IsNumberPlace layouts v place slot.offset count
  number_goes n c = number_place layouts v place c.object c.shape c.count c.is can c.index slot c.slot_is (number_slot v.heap slot.storage n c.of_form)

  pub word_goes : (word : ℕ) → CanWriteSlot layouts v place slot (kept.Ref word) → IsReferencePlace layouts v place slot.offset
  word_goes word c = reference_place layouts v place c.object c.shape c.count c.is can c.index slot c.slot_is (word_slot v.heap slot.storage word c.of_form)

-- the owner's writes, by the bytes
pub bytes_written : {D : Type 0} (layouts : Layouts) (old new : OwnerView D) (place offset : ℕ) (bs ws : List ℕ) → bs ≡ ws → WritesBytes layouts old new place offset bs → WritesAt layouts old new place offset ws
bytes_written {D} layouts old new place offset bs ws same did o held =
    let is = subst (λ (xs : List ℕ). new ≡ record old { heap = put_object old.heap place (with_data layouts o offset xs) }) same (did o held) in
    is ∙ ap (λ c. record old { heap = record (put_object old.heap place (with_data layouts o offset ws)) { counts = c } }) (sym (ap (λ (v : OwnerView D). v.heap.counts) is))

pub word_written : {D : Type 0} (layouts : Layouts) (old new : OwnerView D) (place offset word width : ℕ) → width ≡ 4 → WritesWord layouts old new place offset word → WritesAt layouts old new place offset (bytes_low_first 0 width word)
word_written layouts old new place offset word width wide did = subst (λ (w : ℕ). WritesAt layouts old new place offset (bytes_low_first 0 w word)) (sym wide) did
