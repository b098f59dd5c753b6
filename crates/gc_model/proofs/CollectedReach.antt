-- What the roots and the values of a table name, and the words in the heap that stand for it.
use Rattle.std.proofs.Common.{◌≡◌, ℕ, ◌-◌, true, List, [], Some, Contains, sym, ap, ◌∙◌, subst, arith}
use Rattle.std.specs.List.{slice_get, flat_map}
use Rattle.gc_types.specs.declared.value.StorageType.{StorageType}
use Rattle.gc_types.specs.declared.kind.Layouts.{Layouts}
use Rattle.gc_types.specs.Declarations.{Declaration}
use Rattle.gc_types.specs.Layouts.{struct_base, is_gc_storage, storage_width}
use Rattle.gc_memory.specs.Lists.{In}
use Rattle.gc_owner.specs.declared.entry.GcClass.{GcClass}
use Rattle.gc_owner.specs.Tracing.{IsTraced}
use Rattle.gc_model.specs.Values.{Reference, Value, numeric, function, continuation, reference, Object, struct, array, host, exception}
use Rattle.gc_model.specs.Reach.{value_references, object_values, references_in, IsHost}
use Rattle.gc_view.specs.Bytes.{u32_at}
use Rattle.gc_view.specs.Heaps.{HeapObject}
use Rattle.gc_view.specs.Slots.{StorageSlot, shape_slots}
use Rattle.gc_model.specs.Holds.{Placing, IsWord, Stands}
use Rattle.gc_model.specs.Forms.{Names, LiesAs, storage_form, number_at}
use Rattle.gc_model.proofs.ReadingBack.{ReferenceAs, reference_lying, storage_reference, reference_class, reference_width}
use Rattle.gc_model.proofs.ObjectStands.{stands_by_shape, shape_slot_value, value_lying}
use Rattle.gc_model.proofs.PointParts.{is_reference}
use Rattle.gc_heap.specs.Content.{IsSpare}
use Rattle.gc_heap.specs.References.{reference_offsets, word_in}
use Rattle.gc_heap.proofs.AgainLemmas.{external_offsets}
use Rattle.gc_memory.proofs.ListLemmas.{only_item}
use Rattle.gc_model.proofs.CollectedLists.{contains_one, contains_flat, flat_contains}
use Rattle.gc_model.proofs.CollectedOffsets.{ref_slot, traced_slots}

none_contained : {X : Type 0} (x : X) → Contains [] x → ⊥
none_contained x c = omega (arith, c.1)

-- A reference, with its class and its word.
pub record AnyLies (place : Placing) (v : Value) (word : ℕ) : Type 0 where
  pub class_is : GcClass
  pub lies : ReferenceAs place class_is v word

-- a reference that lies in a field is as wide as a word
word_lies : (place : Placing) (class : GcClass) (v : Value) (bytes : List ℕ) (offset width : ℕ) → width ≡ 4 → ReferenceAs place class v (number_at width bytes offset) → ReferenceAs place class v (u32_at bytes offset)
word_lies place class v bytes offset width is lies = subst (λ (w : ℕ). ReferenceAs place class v (number_at w bytes offset)) is lies

-- what lies in a slot that a collection follows is a reference
followed_lies : (names : Names) (ty : StorageType) (v : Value) (bytes : List ℕ) (offset : ℕ) → is_gc_storage ty ≡ true → LiesAs names ty v bytes offset → AnyLies names.place v (u32_at bytes offset)
followed_lies names ty v bytes offset followed lies =
    let refers : is_reference (storage_form ty) ≡ true = sym (storage_reference ty) ∙ followed in
    let class = reference_class (storage_form ty) refers in
    record {
      class_is = class.0;
      lies = word_lies names.place class.0 v bytes offset (storage_width ty) (reference_width ty refers) (reference_lying names ty v bytes offset class.0 class.1 lies);
    }

-- a reference lies in a slot as its word
reference_lies : (names : Names) (ty : StorageType) (class : GcClass) (r : Reference) (bytes : List ℕ) (offset : ℕ) → LiesAs names ty (reference class r) bytes offset → IsWord names.place r (u32_at bytes offset)
reference_lies names ty class r bytes offset lies =
    subst (λ (w : ℕ). IsWord names.place r (number_at w bytes offset)) (reference_width ty (ap is_reference lies.form)) lies.code

class_of : (v : Value) (r : Reference) → Contains (value_references v) r → (class : GcClass) × (v ≡ reference class r)
class_of (numeric kind n) r c = absurd (none_contained r c)
class_of (function f) r c = absurd (none_contained r c)
class_of (continuation k) r c = absurd (none_contained r c)
class_of (reference class q) r c = (class, ap (reference class) (only_item q r c))

-- a reference among the values of an object has a word
pub reference_word : {D : Type 0} (layouts : Layouts) (types : List Declaration) (names : Names) (o : Object D) (h : HeapObject) → Stands layouts types names o h
    → (r : Reference) → Contains (references_in o) r → (word : ℕ) × IsWord names.place r word
reference_word layouts types names o h stands r among =
    let from = contains_flat value_references (object_values o) r among in
    let class = class_of from.element r from.among in
    let lying = value_lying layouts types names o h stands from.index (reference class.0 r) (from.there ∙ ap (λ v. Some v) class.1) in
    (u32_at h.bytes (lying.slot.offset - struct_base layouts), reference_lies names lying.slot.storage class.0 r h.bytes (lying.slot.offset - struct_base layouts) lying.lies)

-- A word among the references of an object of the heap, as a reference of the table's object.
pub record ReferenceOfWord (place : Placing) (values : List Value) (word : ℕ) : Type 0 where
  pub reference_is : Reference
  pub among : Contains (flat_map value_references values) reference_is
  pub is_word : IsWord place reference_is word

word_of_value : (place : Placing) (values : List Value) (index : ℕ) (value : Value) (word : ℕ) → slice_get values index ≡ Some value → AnyLies place value word → ReferenceOfWord place values word
word_of_value place values index value word e lies = record {
  reference_is = lies.lies.reference_is;
  among = flat_contains value_references values index value lies.lies.reference_is e (subst (λ v. Contains (value_references v) lies.lies.reference_is) (sym lies.lies.value_is) (contains_one lies.lies.reference_is));
  is_word = lies.lies.is_word;
}

-- each word that a collection follows in a traced object is that of one of its values
reference_of_shape : {D : Type 0} (layouts : Layouts) (types : List Declaration) (names : Names) (o : Object D) (h : HeapObject) → ¬ IsHost (Some o) → Stands layouts types names o h → IsTraced layouts types h
    → (offset : ℕ) → In offset (reference_offsets layouts types h) → ReferenceOfWord names.place (object_values o) (word_in layouts h offset)
reference_of_shape layouts types names o h not_host stands traced offset i =
    let by = stands_by_shape layouts types names o h not_host stands in
    let slots : List StorageSlot = shape_slots layouts by.stands.shape by.stands.count in
    let r = ref_slot slots offset ((traced_slots layouts types names o h not_host stands traced by).there offset i) in
    let value = shape_slot_value layouts types names o h by r.index r.slot r.slot_is in
    let word : ℕ = u32_at h.bytes (r.slot.offset - struct_base layouts) in
    let lies : AnyLies names.place value.0 word =
    followed_lies names r.slot.storage value.0 h.bytes (r.slot.offset - struct_base layouts) r.is_reference (by.stands.values_lie.each r.index r.slot value.0 r.slot_is value.1) in
    subst (λ x. ReferenceOfWord names.place (object_values o) (word_in layouts h x)) r.at (word_of_value names.place (object_values o) r.index value.0 word value.1 lies)

-- also in an external object, which has none
pub reference_of_word : {D : Type 0} (layouts : Layouts) (types : List Declaration) (names : Names) (o : Object D) (h : HeapObject) → Stands layouts types names o h → IsSpare layouts h → IsTraced layouts types h
    → (offset : ℕ) → In offset (reference_offsets layouts types h) → ReferenceOfWord names.place (object_values o) (word_in layouts h offset)
reference_of_word {D} layouts types names (struct ty values) h stands spare traced offset i = reference_of_shape {D = D} layouts types names (struct ty values) h (λ is. is) stands traced offset i
reference_of_word {D} layouts types names (array ty values) h stands spare traced offset i = reference_of_shape {D = D} layouts types names (array ty values) h (λ is. is) stands traced offset i
reference_of_word {D} layouts types names (host value) h stands spare traced offset i =
    let none : In offset [] = subst (λ (offsets : List ℕ). In offset offsets) (external_offsets layouts types h stands.1.kind spare) i in
    elim none [ ]
reference_of_word {D} layouts types names (exception ty tag values) h stands spare traced offset i = reference_of_shape {D = D} layouts types names (exception ty tag values) h (λ is. is) stands traced offset i
