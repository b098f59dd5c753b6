-- The elements of an array that is filled: each a byte, or all of them one value.
use Rattle.std.proofs.Common.{◌≡◌, ℕ, ◌+◌, ◌-◌, ◌*◌, ◌<◌, ◌≤◌, List, length, map, take, drop, get_or, Some, refl, sym, ap, ◌∙◌, subst, arith}
use Rattle.std.specs.List.{slice_get}
use Rattle.std.specs.Prelude.{replicate}
use Rattle.std.proofs.lemmas.List.{length-map, length-replicate, get_or-take, get_or-drop}
use Rattle.std.proofs.lemmas.Option.{slice_get_within, get_or_from_slice_get}
use Rattle.gc_types.specs.declared.value.StorageType.{StorageType}
use Rattle.gc_types.specs.declared.value.StorageType.TheVariants as storage
use Rattle.gc_types.specs.Layouts.{storage_width}
use Rattle.gc_view.specs.Slots.{StorageSlot, element_slots}
use Rattle.gc_view.proofs.Layouts.{storage_width_positive}
use Rattle.gc_view.proofs.SlotLemmas.{length-element_slots}
use Rattle.gc_model.specs.Values.{Value}
use Rattle.gc_model.specs.Forms.{Names, IsCode, LiesAs, number_at}
use Rattle.gc_model.specs.Standing.{ValuesLie}
use Rattle.gc_model.specs.Stored.{byte_value}
use Rattle.gc_model.proofs.Encoding.{number_in, number_of_bytes}
use Rattle.gc_model.proofs.ObjectShapes.{element_slot_at}
use Rattle.gc_model.proofs.StoredValues.{mapped_from, replicated}
use Rattle.gc_model.proofs.PointParts.{IsEncodedAs}

-- a byte of a part of the bytes, as the number of one byte
byte_of_part : (bytes bs : List ℕ) (from i b : ℕ) → take (length bs) (drop from bytes) ≡ bs → slice_get bs i ≡ Some b → number_at 1 bytes (from + i) ≡ b
byte_of_part bytes bs from i b part e =
    let below : i < length bs = slice_get_within bs i b e in
    get_or-take 1 (drop (from + i) bytes) 0 0 (omega arith)
    ∙ get_or-drop (from + i) bytes 0 0
    ∙ ap (λ k. get_or bytes k 0) (let same : from + i + 0 ≡ from + i = omega arith in same)
    ∙ sym (get_or-take (length bs) (drop from bytes) i 0 below ∙ get_or-drop from bytes i 0)
    ∙ ap (λ (xs : List ℕ). get_or xs i 0) part
    ∙ get_or_from_slice_get bs i b 0 e

-- the slot at an index below the count of elements
element_is : (ty : StorageType) (n p i : ℕ) (slot : StorageSlot) → slice_get (element_slots ty n p) i ≡ Some slot → (i < n) × ((record { storage = ty; offset = p + i * storage_width ty }) ≡ slot)
element_is ty n p i slot e =
    let below : i < n = omega (arith, slice_get_within (element_slots ty n p) i slot e, length-element_slots ty n p) in
    let both : Some (record { storage = ty; offset = p + i * storage_width ty }) ≡ Some slot = sym (element_slot_at ty n p i below) ∙ e in
    (below, grind (arith, both))

module _ (names : Names) (base from : ℕ) (bytes : List ℕ) (behind : base ≤ from) where
  -- The elements of an array of bytes are those that lie there.
  pub byte_elements : (bs : List ℕ) → take (length bs) (drop (from - base) bytes) ≡ bs → ValuesLie names base (element_slots storage.I8 (length bs) from) (map byte_value bs) bytes
  byte_elements bs part = record {
    same_count = length-map bs byte_value ∙ sym (length-element_slots storage.I8 (length bs) from);
    each = λ i slot value e f.
        let is = (element_is storage.I8 (length bs) from i slot e).1 in
        let mapped = mapped_from byte_value bs i value f in
        let at : from - base + i ≡ from + i * 1 - base = omega (arith, behind) in
        let number : number_at 1 bytes (from + i * 1 - base) ≡ mapped.element = subst (λ o. number_at 1 bytes o ≡ mapped.element) at (byte_of_part bytes bs (from - base) i mapped.element part mapped.there) in
        subst (λ (s : StorageSlot). LiesAs names s.storage value bytes (s.offset - base)) is
        (subst (λ (v : Value). LiesAs names storage.I8 v bytes (from + i * 1 - base)) mapped.is (record { form = refl; code = number }));
  }

  -- Each element of an array is one value where its bytes stand there so many times.
  pub equal_elements : (ty : StorageType) (n : ℕ) (v : Value) (ws : List ℕ) → IsEncodedAs names ty v ws → ((i : ℕ) → i < n → take (storage_width ty) (drop (from - base + i * storage_width ty) bytes) ≡ ws)
      → ValuesLie names base (element_slots ty n from) (replicate n v) bytes
  equal_elements ty n v ws encoded parts = record {
    same_count = length-replicate n v ∙ sym (length-element_slots ty n from);
    each = λ i slot value e f.
        let is = element_is ty n from i slot e in
        let at : from - base + i * storage_width ty ≡ from + i * storage_width ty - base = omega (arith, behind) in
        let number : number_at (storage_width ty) bytes (from - base + i * storage_width ty) ≡ encoded.word =
        ap (number_in (storage_width ty)) (parts i is.0 ∙ encoded.encoded) ∙ number_of_bytes (storage_width ty) encoded.word (storage_width_positive ty) encoded.small in
        let lies : LiesAs names ty v bytes (from - base + i * storage_width ty) = record { form = encoded.form; code = subst (IsCode names v) (sym number) encoded.code } in
        subst (λ (s : StorageSlot). LiesAs names s.storage value bytes (s.offset - base)) is.1
        (subst (λ (w : Value). LiesAs names ty w bytes (from + i * storage_width ty - base)) (replicated n v i value f) (subst (LiesAs names ty v bytes) at lies));
  }
