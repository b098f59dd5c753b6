-- Values in slots after one of them was written, and while they are written one after another.
use Rattle.std.proofs.Common.{◌≡◌, ◌≢◌, ℕ, ◌+◌, ◌-◌, ◌<◌, ◌≤◌, inl, inr, List, length, Some, sym, ap, ◌∙◌, subst, arith}
use Rattle.std.specs.List.{slice_get}
use Rattle.std.specs.Prelude.{slice_set}
use Rattle.std.proofs.lemmas.Bool.{cases_eq}
use Rattle.std.proofs.lemmas.List.{length-set}
use Rattle.std.proofs.lemmas.Option.{slice_get_within}
use Rattle.gc_types.specs.Layouts.{storage_width}
use Rattle.gc_view.specs.Bytes.{put_bytes}
use Rattle.gc_view.specs.Slots.{StorageSlot}
use Rattle.gc_view.proofs.Spacing.{AreSpaced}
use Rattle.gc_view.proofs.SlotLemmas.{slot_range, slots_apart}
use Rattle.gc_model.specs.Values.{Value}
use Rattle.gc_model.specs.Forms.{Names, LiesAs}
use Rattle.gc_model.specs.Standing.{ValuesLie}
use Rattle.gc_model.proofs.Changes.{slice_get-set_same, slice_get-set_other}
use Rattle.gc_model.proofs.Encoding.{IsApart, encoded_width, encoded_lies}
use Rattle.gc_model.proofs.Lying.{lies_apart}
use Rattle.gc_model.proofs.PointParts.{IsEncodedAs}

-- The slots are spaced behind the first of the bytes, which reach to the end.
module _ (names : Names) (base from to : ℕ) (slots : List StorageSlot) (behind : base ≤ from) (spaced : AreSpaced from slots to) where
  -- a slot's bytes end inside the object's
  pub slot_within : (k : ℕ) (slot : StorageSlot) (v : Value) (bytes ws : List ℕ) → slice_get slots k ≡ Some slot → IsEncodedAs names slot.storage v ws → to ≤ base + length bytes → slot.offset - base + length ws ≤ length bytes
  slot_within k slot v bytes ws is encoded room =
      let range = slot_range from to slots spaced k slot is in
      omega (arith, behind, range.low, range.high, room, encoded_width names slot.storage v ws encoded)

  -- the value of another slot lies where it lay
  other_slot : (i k : ℕ) (slot there : StorageSlot) (v written : Value) (bytes ws : List ℕ) → slice_get slots i ≡ Some slot → slice_get slots k ≡ Some there → i ≢ k
      → IsEncodedAs names there.storage written ws → to ≤ base + length bytes → LiesAs names slot.storage v bytes (slot.offset - base) → LiesAs names slot.storage v (put_bytes bytes (there.offset - base) ws) (slot.offset - base)
  other_slot i k slot there v written bytes ws here is differ encoded room lies =
      let low = (slot_range from to slots spaced i slot here).low in
      let low' = (slot_range from to slots spaced k there is).low in
      let wide = encoded_width names there.storage written ws encoded in
      let apart : IsApart (slot.offset - base) (storage_width slot.storage) (there.offset - base) (length ws) =
      elim (slots_apart from to slots spaced i k slot there here is differ) [
        | inl before ↦ inl (omega (arith, before, behind, low, low'))
        | inr after ↦ inr (omega (arith, after, behind, low, low', wide))
      ] in
      lies_apart names slot.storage v bytes (slot.offset - base) (there.offset - base) ws (slot_within k there written bytes ws is encoded room) apart lies

  -- the value that was written lies in its slot
  own_slot : (k : ℕ) (slot other : StorageSlot) (v w : Value) (bytes ws : List ℕ) → slice_get slots k ≡ Some slot → slice_get slots k ≡ Some other → w ≡ v
      → IsEncodedAs names slot.storage v ws → to ≤ base + length bytes → LiesAs names other.storage w (put_bytes bytes (slot.offset - base) ws) (other.offset - base)
  own_slot k slot other v w bytes ws is here same encoded room =
      let both : Some slot ≡ Some other = sym is ∙ here in
      let slot_same : slot ≡ other = grind (arith, both) in
      subst (λ (s : StorageSlot). LiesAs names s.storage w (put_bytes bytes (slot.offset - base) ws) (s.offset - base)) slot_same
      (subst (λ (x : Value). LiesAs names slot.storage x (put_bytes bytes (slot.offset - base) ws) (slot.offset - base)) (sym same)
      (encoded_lies names slot.storage v bytes (slot.offset - base) ws encoded (slot_within k slot v bytes ws is encoded room)))

  -- the values lie after one of them was written
  pub shape_write : (values : List Value) (bytes : List ℕ) (k : ℕ) (slot : StorageSlot) (v : Value) (ws : List ℕ) → ValuesLie names base slots values bytes → slice_get slots k ≡ Some slot
      → IsEncodedAs names slot.storage v ws → to ≤ base + length bytes → ValuesLie names base slots (slice_set values k v) (put_bytes bytes (slot.offset - base) ws)
  shape_write values bytes k slot v ws lie is encoded room = record {
    same_count = length-set values k v ∙ lie.same_count;
    each = λ i other w here w_is.
        elim (cases_eq i k) [
          | inl same ↦
              let within : k < length values = omega (arith, slice_get_within slots k slot is, lie.same_count) in
              let both : Some w ≡ Some v = sym w_is ∙ ap (slice_get (slice_set values k v)) same ∙ slice_get-set_same values k v within in
              own_slot k slot other v w bytes ws is (ap (slice_get slots) (sym same) ∙ here) (grind (arith, both)) encoded room
          | inr differ ↦ other_slot i k other slot w v bytes ws here is differ encoded room (lie.each i other w here (sym (slice_get-set_other values k i v differ) ∙ w_is))
        ];
  }

-- the first k values lie in their slots
pub record LieUpTo (names : Names) (base : ℕ) (slots : List StorageSlot) (values : List Value) (bytes : List ℕ) (k : ℕ) : Type 0 where
  pub same_count : length values ≡ length slots
  pub each : (i : ℕ) (slot : StorageSlot) (value : Value) → i < k → slice_get slots i ≡ Some slot → slice_get values i ≡ Some value → LiesAs names slot.storage value bytes (slot.offset - base)

pub lie_up_to-none : (names : Names) (base : ℕ) (slots : List StorageSlot) (values : List Value) (bytes : List ℕ) → length values ≡ length slots → LieUpTo names base slots values bytes 0
lie_up_to-none names base slots values bytes same = record { same_count = same; each = λ i slot value below. absurd (omega arith) }

-- one more value was written
pub lie_up_to-step : (names : Names) (base from to : ℕ) (slots : List StorageSlot) → base ≤ from → AreSpaced from slots to → (values : List Value) (bytes : List ℕ) (k : ℕ) (slot : StorageSlot) (v : Value) (ws : List ℕ)
    → LieUpTo names base slots values bytes k → slice_get slots k ≡ Some slot → slice_get values k ≡ Some v → IsEncodedAs names slot.storage v ws → to ≤ base + length bytes
    → LieUpTo names base slots values (put_bytes bytes (slot.offset - base) ws) (k + 1)
lie_up_to-step names base from to slots behind spaced values bytes k slot v ws before is v_is encoded room = record {
  same_count = before.same_count;
  each = λ i other w below here w_is.
      elim (cases_eq i k) [
        | inl same ↦
            let both : Some w ≡ Some v = sym w_is ∙ ap (slice_get values) same ∙ v_is in
            own_slot names base from to slots behind spaced k slot other v w bytes ws is (ap (slice_get slots) (sym same) ∙ here) (grind (arith, both)) encoded room
        | inr differ ↦ other_slot names base from to slots behind spaced i k other slot w v bytes ws here is differ encoded room (before.each i other w (omega (arith, below, differ)) here w_is)
      ];
}

-- all values lie, once as many were written as there are slots
pub lie_up_to-all : (names : Names) (base : ℕ) (slots : List StorageSlot) (values : List Value) (bytes : List ℕ) (k : ℕ) → k ≡ length slots → LieUpTo names base slots values bytes k → ValuesLie names base slots values bytes
lie_up_to-all names base slots values bytes k all lie = record {
  same_count = lie.same_count;
  each = λ i slot value e f. lie.each i slot value (omega (arith, all, slice_get_within slots i slot e)) e f;
}
