-- The values of new objects.
use Rattle.std.specs.Prelude.{◌≡◌, ℕ, ◌+◌, ◌-◌, ◌*◌, ◌<◌, List, Some, length, map, take, drop, replicate, slice_get}
use Rattle.std.specs.Int.{bytes_low_first}
use Rattle.std.specs.FinMap as finite
use Rattle.gc_types.specs.declared.value.StorageType.{StorageType}
use Rattle.gc_types.specs.declared.value.StorageType.TheVariants as storage
use Rattle.gc_types.specs.declared.kind.Layouts.{Layouts}
use Rattle.gc_types.specs.Declarations.{Shape}
use Rattle.gc_types.specs.Layouts.{storage_width, struct_base}
use Rattle.gc_types.specs.declared.kind.VMGcKind.{VMGcKind}
use Rattle.gc_types.specs.declared.kind.VMGcKind.TheVariants.{StructRef, ArrayRef, ExnRef}
use Rattle.gc_view.specs.Heaps.{HeapObject, HeapView}
use Rattle.gc_view.specs.Slots.{StorageSlot, shape_slots, element_slots}
use Rattle.gc_owner.specs.Owners.{OwnerView}
use Rattle.gc_model.specs.Values.{Value}
use Rattle.gc_model.specs.Stored.{byte_value}
use Rattle.gc_model.specs.Forms.{Names, InternedIds, storage_form}
use Rattle.gc_model.specs.Standing.{ValuesLie}
use Rattle.gc_model.proofs.ObjectStands.{KeepsFront}
use Rattle.gc_values.specs.declared.stored.Stored.{Stored}
use Rattle.gc_values.specs.declared.request.Place.{Place}
use Rattle.gc_values.specs.declared.request.Place.TheVariants as place
use Rattle.gc_values.specs.declared.request.Contents.{Contents}
use Rattle.gc_values.specs.declared.request.Contents.TheVariants as contents
use Rattle.gc_values.specs.declared.root.RawValue.{RawValue}
use Rattle.gc_values.specs.Kept.{CanBeKept, OfForm, kept_code, raw_form, StoredStands}
use Rattle.gc_values.specs.Words.{HandleRoots, handle_roots, AreOwnedRising}
use Rattle.gc_values.specs.HeldSlots.{IsHeldOf}
use Rattle.gc_values.specs.Tagging.{BeginsWithTag}

-- values fit slots, one for each
pub record EachFits (ids : InternedIds) (raws : List RawValue) (entries : HandleRoots) (slots : List StorageSlot) : Type 0 where
  pub same_count : length raws ≡ length slots
  pub forms : (i : ℕ) (slot : StorageSlot) (r : RawValue) → slice_get slots i ≡ Some slot → slice_get raws i ≡ Some r → raw_form r ≡ storage_form slot.storage
  pub kept : (i : ℕ) (r : RawValue) → slice_get raws i ≡ Some r → CanBeKept ids entries r

-- one value fits so many slots, which follow each other
pub record SameFits (ids : InternedIds) (r : RawValue) (count : ℕ) (entries : HandleRoots) (slots : List StorageSlot) : Type 0 where
  pub ty : StorageType
  pub from : ℕ
  pub slots_are : slots ≡ element_slots ty count from
  pub form : 0 < count → raw_form r ≡ storage_form ty
  pub kept : 0 < count → CanBeKept ids entries r

-- bytes fit slots, which follow each other
pub record BytesFit (bytes : List ℕ) (entries : HandleRoots) (slots : List StorageSlot) : Type 0 where
  pub from : ℕ
  pub slots_are : slots ≡ element_slots storage.I8 (length bytes) from

-- what slots keep of values that are given, one for each
pub record EachStands (ids : InternedIds) (raws : List RawValue) (names : Names) (entries : HandleRoots) (slots : List StorageSlot) (values : List Value) : Type 0 where
  pub same_count : length raws ≡ length values
  pub each : (i : ℕ) (slot : StorageSlot) (r : RawValue) (w : Value) → slice_get slots i ≡ Some slot → slice_get raws i ≡ Some r → slice_get values i ≡ Some w → StoredStands ids names entries slot.storage r w

-- what they keep of one value
pub record SameStands (ids : InternedIds) (r : RawValue) (names : Names) (entries : HandleRoots) (slots : List StorageSlot) (values : List Value) : Type 0 where
  pub kept : Value
  pub values_are : values ≡ replicate (length slots) kept
  pub stands : (i : ℕ) (slot : StorageSlot) → slice_get slots i ≡ Some slot → StoredStands ids names entries slot.storage r kept

-- what they keep of bytes
abbrev pub BytesStand : List ℕ → Names → HandleRoots → List StorageSlot → List Value → Type 0
BytesStand bytes names entries slots values = values ≡ map byte_value bytes

-- the type of what is requested
abbrev pub asked_type : Place → ℕ
asked_type (place.Struct ty) = ty
asked_type (place.Exn ty tag) = ty
asked_type (place.Array ty count) = ty

-- a value for each slot, wherever these stand
abbrev pub each_of : List RawValue → Contents
each_of raws = contents.Each (record { ref_ptr = (0, 0); now = raws })

-- the contents of a request fit slots
abbrev pub ContentsFit : InternedIds → Place → Contents → HandleRoots → List StorageSlot → Type 0
ContentsFit ids request (contents.Each raws) entries slots = EachFits ids raws.now entries slots
ContentsFit ids (place.Array ty count) (contents.Same r) entries slots = SameFits ids r.now count entries slots
ContentsFit ids (place.Array ty count) (contents.Bytes bytes) entries slots = BytesFit bytes.now entries slots
ContentsFit ids _ _ entries slots = ⊥

-- what slots keep of the contents of a request
abbrev pub ContentsStand : InternedIds → Contents → Names → HandleRoots → List StorageSlot → List Value → Type 0
ContentsStand ids (contents.Each raws) names entries slots values = EachStands ids raws.now names entries slots values
ContentsStand ids (contents.Same r) names entries slots values = SameStands ids r.now names entries slots values
ContentsStand ids (contents.Bytes bytes) names entries slots values = BytesStand bytes.now names entries slots values

-- each slot has bytes that are 0
abbrev pub AreBlank : ℕ → List StorageSlot → List ℕ → Type 0
AreBlank base slots bytes =
    (i : ℕ) (slot : StorageSlot) → slice_get slots i ≡ Some slot → take (storage_width slot.storage) (drop (slot.offset - base) bytes) ≡ replicate (storage_width slot.storage) 0

-- A new object of an owner is of that type, and what is given fits it.
pub record IsToFill {D : Type 0} (layouts : Layouts) (v : OwnerView D) (place ty : ℕ) (Fit : HandleRoots → List StorageSlot → Type 0) (object : HeapObject) (shape : Shape) (count : ℕ) : Type 0 where
  pub is : IsHeldOf v.types.declarations v.heap place object shape count
  pub of_type : object.ty ≡ ty
  pub blank : AreBlank (struct_base layouts) (shape_slots layouts shape count) object.bytes
  pub rising : AreOwnedRising v.roots.owned
  pub fit : Fit (handle_roots v.roots) (shape_slots layouts shape count)

pub record CanFill {D : Type 0} (layouts : Layouts) (v : OwnerView D) (place ty : ℕ) (Fit : HandleRoots → List StorageSlot → Type 0) : Type 0 where
  pub object : HeapObject
  pub shape : Shape
  pub count : ℕ
  pub to_fill : IsToFill layouts v place ty Fit object shape count

-- The object at a place has other bytes now, of which that is so; every other object, and all else of the owner but counts, is
-- as it was.
pub record RewritesTo {D : Type 0} (AreFrom : List ℕ → List ℕ → Type 0) (old new : OwnerView D) (place : ℕ) (before : HeapObject) (bytes : List ℕ) : Type 0 where
  pub written : finite.get new.heap.content place ≡ Some (record before { bytes = bytes })
  pub others : (q : ℕ) → ¬ (q ≡ place) → finite.get new.heap.content q ≡ finite.get old.heap.content q
  pub attached : new.heap.attached ≡ old.heap.attached
  pub capacity : new.heap.capacity ≡ old.heap.capacity
  pub allocated : new.heap.allocated ≡ old.heap.allocated
  pub needs_gc : new.heap.needs_gc ≡ old.heap.needs_gc
  pub same_length : length bytes ≡ length before.bytes
  pub front : AreFrom before.bytes bytes
  pub rest : new ≡ record old { heap = new.heap }

-- but not in front of its slots
abbrev pub Rewrites : {D : Type 0} → Layouts → Shape → OwnerView D → OwnerView D → ℕ → HeapObject → List ℕ → Type 0
Rewrites layouts shape old new place before bytes = RewritesTo (KeepsFront layouts shape) old new place before bytes

-- The object at a place has the values now that stand for what was given, and that is so of its bytes.
pub record FillsBy {D : Type 0} (layouts : Layouts) (AreFrom : List ℕ → List ℕ → Type 0) (Stand : Names → HandleRoots → List StorageSlot → List Value → Type 0) (old new : OwnerView D) (place : ℕ) (before : HeapObject) (shape : Shape) (count : ℕ) : Type 0 where
  pub bytes : List ℕ
  pub rewrites : RewritesTo AreFrom old new place before bytes
  pub lie : (names : Names) (values : List Value) → Stand names (handle_roots old.roots) (shape_slots layouts shape count) values
      → ValuesLie names (struct_base layouts) (shape_slots layouts shape count) values bytes

-- but not in front of its slots
abbrev pub FillsSlots : {D : Type 0} → Layouts → (Names → HandleRoots → List StorageSlot → List Value → Type 0) → OwnerView D → OwnerView D → ℕ → HeapObject → Shape → ℕ → Type 0
FillsSlots layouts Stand old new place before shape count = FillsBy layouts (KeepsFront layouts shape) Stand old new place before shape count

-- a new object that was to be filled is, and that is so of its bytes
abbrev pub FillsAs : {D : Type 0} → Layouts → (Shape → List ℕ → List ℕ → Type 0) → OwnerView D → OwnerView D → ℕ → ℕ → (HandleRoots → List StorageSlot → Type 0) → (Names → HandleRoots → List StorageSlot → List Value → Type 0) → Type 0
FillsAs layouts AreFrom old new place ty Fit Stand =
    (object : HeapObject) (shape : Shape) (count : ℕ) → IsToFill layouts old place ty Fit object shape count → FillsBy layouts (AreFrom shape) Stand old new place object shape count

-- but not in front of its slots
abbrev pub FillsNew : {D : Type 0} → Layouts → OwnerView D → OwnerView D → ℕ → ℕ → (HandleRoots → List StorageSlot → Type 0) → (Names → HandleRoots → List StorageSlot → List Value → Type 0) → Type 0
FillsNew layouts old new place ty Fit Stand =
    (object : HeapObject) (shape : Shape) (count : ℕ) → IsToFill layouts old place ty Fit object shape count → FillsSlots layouts Stand old new place object shape count

-- a width of slots
abbrev pub IsWidth : ℕ → Type 0
IsWidth width = (ty : StorageType) × (width ≡ storage_width ty)

-- the low bytes of a number that a slot has
abbrev pub slot_bytes : StorageType → ℕ → List ℕ
slot_bytes ty n = bytes_low_first 0 (storage_width ty) n

-- So many slots of a new object of an owner follow each other, from that one on, and may have what is kept.
pub record AreElements {D : Type 0} (layouts : Layouts) (v : OwnerView D) (place : ℕ) (slot : StorageSlot) (count : ℕ) (x : Stored) : Type 0 where
  pub object : HeapObject
  pub shape : Shape
  pub n : ℕ
  pub is : IsHeldOf v.types.declarations v.heap place object shape n
  pub some : 0 < count
  pub slots_are : shape_slots layouts shape n ≡ element_slots slot.storage count slot.offset
  pub blank : AreBlank (struct_base layouts) (shape_slots layouts shape n) object.bytes
  pub of_form : OfForm v.heap (storage_form slot.storage) x

-- the bytes of so many elements, from an offset on, are those
abbrev pub AreFilled : ℕ → ℕ → List ℕ → ℕ → List ℕ → Type 0
AreFilled from width ws count bytes = (i : ℕ) → i < count → take width (drop (from + i * width) bytes) ≡ ws

-- they have the low bytes of what is kept
pub record FillsElements {D : Type 0} (layouts : Layouts) (old new : OwnerView D) (place : ℕ) (slot : StorageSlot) (count : ℕ) (x : Stored) (e : AreElements layouts old place slot count x) : Type 0 where
  pub bytes : List ℕ
  pub rewrites : Rewrites layouts e.shape old new place e.object bytes
  pub filled : AreFilled (slot.offset - struct_base layouts) (storage_width slot.storage) (slot_bytes slot.storage (kept_code x)) count bytes

abbrev pub FillsAll : {D : Type 0} → Layouts → OwnerView D → OwnerView D → ℕ → StorageSlot → ℕ → Stored → Type 0
FillsAll layouts old new place slot count x = (e : AreElements layouts old place slot count x) → FillsElements layouts old new place slot count x e

-- what lies in front of the slots of an object of that request: an exception has its tag there, and any other object what it had
abbrev pub front_of : Layouts → Place → Shape → List ℕ → List ℕ → Type 0
front_of layouts (place.Struct ty) shape before after = KeepsFront layouts shape before after
front_of layouts (place.Exn ty tag) shape before after = BeginsWithTag tag after
front_of layouts (place.Array ty count) shape before after = KeepsFront layouts shape before after

-- the kind of what is requested
abbrev pub requested_kind : Place → VMGcKind
requested_kind (place.Struct ty) = StructRef
requested_kind (place.Exn ty tag) = ExnRef
requested_kind (place.Array ty count) = ArrayRef

-- the object at a place is of it
abbrev pub IsOfAskedKind : Place → HeapView → ℕ → Type 0
IsOfAskedKind request h p = (o : HeapObject) → finite.get h.content p ≡ Some o → o.kind ≡ requested_kind request
