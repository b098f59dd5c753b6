-- Slots lie one behind the other, inside the object, and no two have a byte in common.
use Rattle.std.proofs.Common.{◌≡◌, ◌≢◌, ℕ, ◌+◌, ◌*◌, ◌<◌, ◌≤◌, ◌⊎◌, inl, inr, List, [], ◌∷◌, Some, map, filter, true, false, cond, length, ap, ◌∙◌, refl, subst, arith, zero, suc}
use Rattle.std.specs.List.{slice_get}
use Rattle.std.proofs.lemmas.Bool.{cases_lt}
use Rattle.std.proofs.lemmas.Option.{none-some}
use Rattle.gc_types.specs.declared.value.FieldType.{FieldType}
use Rattle.gc_types.specs.declared.value.StorageType.{StorageType}
use Rattle.gc_types.specs.declared.kind.Layouts.{Layouts}
use Rattle.gc_types.specs.declared.kind.Layouts.TheVariants.{Null, Counting, Copying}
use Rattle.gc_types.specs.declared.layout.FieldLayout.{FieldLayout}
use Rattle.gc_types.specs.Declarations.{Shape, struct_of, array_of, exn_of, func_of, constant_field}
use Rattle.gc_types.specs.Layouts.{storage_width, is_gc_storage, field_offset, field_layouts, ref_offsets, fields_end, struct_base, exception_base, array_base}
use Rattle.gc_view.specs.Slots.{StorageSlot, field_slots, element_slots, elements_from, shape_slots, shape_size}
use Rattle.gc_view.proofs.Spacing.{slot_end, shape_first, AreSpaced, followed_slots, slot_offsets}
use Rattle.gc_view.proofs.Layouts.{round_up-le, storage_width_positive, offset_low}

fields_spaced : (p : ℕ) (fields : List FieldType) → AreSpaced p (field_slots p fields) (fields_end p fields)
fields_spaced p [] = omega arith
fields_spaced p (field ∷ fields) = (offset_low p field, fields_spaced (field_offset p field + storage_width field.element_type) fields)

elements_spaced : (ty : StorageType) (n p : ℕ) → AreSpaced p (element_slots ty n p) (p + n * storage_width ty)
elements_spaced ty zero p = omega arith
elements_spaced ty (suc n) p =
    let e : p + storage_width ty + n * storage_width ty ≡ p + suc n * storage_width ty = omega arith in
    (omega arith, subst (AreSpaced (p + storage_width ty) (element_slots ty n (p + storage_width ty))) e (elements_spaced ty n (p + storage_width ty)))

-- slots that are spaced from an offset on are so from any lower one
spaced_lower : (from low to : ℕ) (slots : List StorageSlot) → low ≤ from → AreSpaced from slots to → AreSpaced low slots to
spaced_lower from low to [] below spaced = omega (arith, below, spaced)
spaced_lower from low to (slot ∷ slots) below spaced = (omega (arith, below, spaced.0), spaced.1)

-- the slots of an object lie behind its header and inside it
pub shape_spaced : (layouts : Layouts) (shape : Shape) (n : ℕ) → AreSpaced (shape_first layouts shape) (shape_slots layouts shape n) (shape_size layouts shape n)
shape_spaced layouts (struct_of fields) n = fields_spaced (struct_base layouts) fields
shape_spaced layouts (array_of element) n =
    let ty : StorageType = element.element_type in
    spaced_lower (elements_from layouts element) (array_base layouts) (elements_from layouts element + n * storage_width ty) (element_slots ty n (elements_from layouts element))
    (round_up-le (array_base layouts) (storage_width ty) (storage_width_positive ty)) (elements_spaced ty n (elements_from layouts element))
shape_spaced layouts (exn_of params) n = fields_spaced (exception_base layouts) (map constant_field params)
shape_spaced layouts (func_of params results) n = omega arith

-- where the first slot may lie is not behind the end
pub spaced-le : (from to : ℕ) (slots : List StorageSlot) → AreSpaced from slots to → from ≤ to
spaced-le from to [] spaced = spaced
spaced-le from to (slot ∷ slots) spaced = omega (arith, spaced.0, spaced-le (slot_end slot) to slots spaced.1)

-- where a slot lies
pub record SlotRange (from to : ℕ) (slot : StorageSlot) : Type 0 where
  pub low : from ≤ slot.offset
  pub high : slot_end slot ≤ to

pub slot_range : (from to : ℕ) (slots : List StorageSlot) → AreSpaced from slots to → (k : ℕ) (slot : StorageSlot) → slice_get slots k ≡ Some slot → SlotRange from to slot
slot_range from to [] spaced k slot e = absurd (none-some slot e)
slot_range from to (s ∷ slots) spaced zero slot e =
    let same : s ≡ slot = grind (arith, e) in
    subst (SlotRange from to) same (record { low = spaced.0; high = spaced-le (slot_end s) to slots spaced.1 })
slot_range from to (s ∷ slots) spaced (suc k) slot e =
    let rest = slot_range (slot_end s) to slots spaced.1 k slot e in
    record { low = omega (arith, spaced.0, rest.low); high = rest.high }

-- a slot ends before a later one begins
pub slots_ordered : (from to : ℕ) (slots : List StorageSlot) → AreSpaced from slots to → (i k : ℕ) (one other : StorageSlot) → slice_get slots i ≡ Some one → slice_get slots k ≡ Some other → i < k → slot_end one ≤ other.offset
slots_ordered from to [] spaced i k one other e f below = absurd (none-some one e)
slots_ordered from to (s ∷ slots) spaced zero zero one other e f below = absurd (omega arith)
slots_ordered from to (s ∷ slots) spaced zero (suc k) one other e f below =
    let same : s ≡ one = grind (arith, e) in
    subst (λ (x : StorageSlot). slot_end x ≤ other.offset) same (slot_range (slot_end s) to slots spaced.1 k other f).low
slots_ordered from to (s ∷ slots) spaced (suc i) zero one other e f below = absurd (omega arith)
slots_ordered from to (s ∷ slots) spaced (suc i) (suc k) one other e f below = slots_ordered (slot_end s) to slots spaced.1 i k one other e f (omega (arith, below))

-- two slots have no byte in common
pub slots_apart : (from to : ℕ) (slots : List StorageSlot) → AreSpaced from slots to → (i k : ℕ) (one other : StorageSlot) → slice_get slots i ≡ Some one → slice_get slots k ≡ Some other → i ≢ k
    → (slot_end one ≤ other.offset) ⊎ (slot_end other ≤ one.offset)
slots_apart from to slots spaced i k one other e f differ =
    elim (cases_lt i k) [
      | inl before ↦ inl (slots_ordered from to slots spaced i k one other e f before)
      | inr behind ↦ inr (slots_ordered from to slots spaced k i other one f e (omega (arith, behind, differ)))
    ]

-- as many slots as fields, and as elements
pub length-field_slots : (p : ℕ) (fields : List FieldType) → length (field_slots p fields) ≡ length fields
length-field_slots p [] = refl
length-field_slots p (field ∷ fields) = ap suc (length-field_slots (field_offset p field + storage_width field.element_type) fields)

pub length-element_slots : (ty : StorageType) (n p : ℕ) → length (element_slots ty n p) ≡ n
length-element_slots ty zero p = refl
length-element_slots ty (suc n) p = ap suc (length-element_slots ty n (p + storage_width ty))

-- the references among fields are those that their layouts say
pub fields_followed : (p : ℕ) (fields : List FieldType) → slot_offsets (field_slots p fields) ≡ ref_offsets (field_layouts p fields)
fields_followed p [] = refl
fields_followed p (field ∷ fields) =
    let next : ℕ = field_offset p field + storage_width field.element_type in
    let slot : StorageSlot = record { storage = field.element_type; offset = field_offset p field } in
    let layout : FieldLayout = record { offset = field_offset p field; is_gc_ref = is_gc_storage field.element_type } in
    let rest = fields_followed next fields in
    elim (is_gc_storage field.element_type) as (λ b.
    map (λ (s : StorageSlot). s.offset) (cond b (slot ∷ followed_slots (field_slots next fields)) (followed_slots (field_slots next fields)))
    ≡ map (λ (l : FieldLayout). l.offset) (cond b (layout ∷ filter (λ (l : FieldLayout). l.is_gc_ref) (field_layouts next fields)) (filter (λ (l : FieldLayout). l.is_gc_ref) (field_layouts next fields)))) [
      | true ↦ ap (λ os. field_offset p field ∷ os) rest
      | false ↦ rest
    ]

-- elements are all references or none
pub elements_followed : (ty : StorageType) (n p : ℕ) → is_gc_storage ty ≡ true → slot_offsets (element_slots ty n p) ≡ map (λ (s : StorageSlot). s.offset) (element_slots ty n p)
elements_followed ty zero p is = refl
elements_followed ty (suc n) p is =
    let slot : StorageSlot = record { storage = ty; offset = p } in
    let rest : List StorageSlot = element_slots ty n (p + storage_width ty) in
    ap (λ b. map (λ (s : StorageSlot). s.offset) (cond b (slot ∷ followed_slots rest) (followed_slots rest))) is ∙ ap (λ os. p ∷ os) (elements_followed ty n (p + storage_width ty) is)

pub elements_not_followed : (ty : StorageType) (n p : ℕ) → is_gc_storage ty ≡ false → slot_offsets (element_slots ty n p) ≡ []
elements_not_followed ty zero p is = refl
elements_not_followed ty (suc n) p is =
    let slot : StorageSlot = record { storage = ty; offset = p } in
    let rest : List StorageSlot = element_slots ty n (p + storage_width ty) in
    ap (λ b. map (λ (s : StorageSlot). s.offset) (cond b (slot ∷ followed_slots rest) (followed_slots rest))) is ∙ elements_not_followed ty n (p + storage_width ty) is

-- a slot lies behind where the data of structs begins
pub first_behind : (layouts : Layouts) (shape : Shape) (n k : ℕ) (slot : StorageSlot) → slice_get (shape_slots layouts shape n) k ≡ Some slot → struct_base layouts ≤ shape_first layouts shape
first_behind Null (struct_of fields) n k slot e = omega arith
first_behind Null (array_of element) n k slot e = omega arith
first_behind Null (exn_of params) n k slot e = omega arith
first_behind Null (func_of params results) n k slot e = absurd (none-some slot e)
first_behind Counting (struct_of fields) n k slot e = omega arith
first_behind Counting (array_of element) n k slot e = omega arith
first_behind Counting (exn_of params) n k slot e = omega arith
first_behind Counting (func_of params results) n k slot e = absurd (none-some slot e)
first_behind Copying (struct_of fields) n k slot e = omega arith
first_behind Copying (array_of element) n k slot e = omega arith
first_behind Copying (exn_of params) n k slot e = omega arith
first_behind Copying (func_of params results) n k slot e = absurd (none-some slot e)
