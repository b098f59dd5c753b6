-- The loops that write values one after another into the slots of their indices.
use Rattle.std.proofs.Common.{inl, inr, ◌≡◌, ℕ, ◌+◌, ◌^◌, ◌<◌, true, List, length, Some, sym, ap, ◌∙◌, subst, arith}
use Rattle.std.specs.List.{slice_get}
use Rattle.std.proofs.lemmas.Option.{slice_get_cases}
use Rattle.gc_types.specs.declared.kind.Layouts.{Layouts}
use Rattle.gc_types.specs.Declarations.{Shape, TypeTable, shape_at}
use Rattle.gc_view.specs.Heaps.{HeapObject}
use Rattle.gc_view.specs.Slots.{StorageSlot}
use Rattle.gc_heap.specs.Content.{IsHeap}
use Rattle.gc_owner.specs.Owners.{OwnerView, CanBegin}
use Rattle.gc_model.specs.Forms.{InternedIds}
use Rattle.gc_values.specs.declared.slot.Slot.{Slot}
use Rattle.gc_values.specs.declared.root.RawValue.{RawValue}
use Rattle.gc_values.specs.Words.{AreOwnedRising}
use Rattle.gc_values.specs.Kept.{kept_code}
use Rattle.gc_values.specs.HeldSlots.{storage_slot, HasShapeSlot, FindsShapeSlot, FindsSlot, CanWriteSlot, WritesAt, CanWriteKept, WritesKept}
use Rattle.gc_values.specs.Filling.{EachFits, EachStands, IsToFill, CanFill, FillsNew, slot_bytes}
use Rattle.gc_values.proofs.ShapeSlots.{has_shape_slot, finds_slot}
use Rattle.gc_values.proofs.EachValue.{FillsTo, fills-none, slot_here, has_slot, small_index, is_kept, slot_found, can_write, fills-more, fills-all}

-- The first k values are written, into whatever object they are said to fit.
pub record FillsFirst {D : Type 0} (layouts : Layouts) (ids : InternedIds) (raws : List RawValue) (old new : OwnerView D) (place ty k : ℕ) : Type 0 where
  pub idle : new.idle ≡ true
  pub filled : (object : HeapObject) (shape : Shape) (count : ℕ) → IsToFill layouts old place ty (EachFits ids raws) object shape count → FillsTo layouts ids raws old new place object shape count k

-- none at first
pub begun : {D : Type 0} (layouts : Layouts) (ids : InternedIds) (raws : List RawValue) (old : OwnerView D) (place ty : ℕ) → old.idle ≡ true → FillsFirst layouts ids raws old old place ty 0
begun layouts ids raws old place ty idle = record {
  idle = idle;
  filled = λ object shape count f. fills-none layouts ids raws old place ty object shape count f;
}

-- all in the end
pub ended : {D : Type 0} {layouts : Layouts} {ids : InternedIds} {raws : List RawValue} {old new : OwnerView D} {place ty k : ℕ} → FillsFirst layouts ids raws old new place ty k → k ≡ length raws → FillsNew layouts old new place ty (EachFits ids raws) (EachStands ids raws)
ended {D} {layouts} {ids} {raws} {old} {new} {place} {ty} {k} w all object shape count f = fills-all layouts ids raws old place ty object shape count f new k all (w.filled object shape count f)

-- the value at an index that is within
pub value_within : (raws : List RawValue) (k : ℕ) → k < length raws → (r : RawValue) × (slice_get raws k ≡ Some r)
value_within raws k within = elim ((slice_get_cases raws k).1) [
  | inl found ↦ (found.0, found.2)
  | inr past ↦ absurd (omega (arith, within, past.0))
]

-- A value is the next one.
pub record IsNext {D : Type 0} (layouts : Layouts) (ids : InternedIds) (raws : List RawValue) (old new : OwnerView D) (place ty k : ℕ) (r : RawValue) : Type 0 where
  pub begins : CanFill layouts old place ty (EachFits ids raws)
  pub before : FillsFirst layouts ids raws old new place ty k
  pub value_is : slice_get raws k ≡ Some r
  pub heap : IsHeap layouts new.heap
  pub can : CanBegin layouts new

module _ {D : Type 0} {layouts : Layouts} {ids : InternedIds} {raws : List RawValue} {old new : OwnerView D} {place ty k : ℕ} {r : RawValue} (n : IsNext layouts ids raws old new place ty k r) where
  abbrev object : HeapObject
  object = n.begins.object

  abbrev shape : Shape
  shape = n.begins.shape

  abbrev count : ℕ
  count = n.begins.count

  so_far : FillsTo layouts ids raws old new place object shape count k
  so_far = n.before.filled object shape count n.begins.to_fill

  pub next_small : k < 2 ^ 32
  next_small = small_index layouts ids raws old place ty object shape count n.begins.to_fill new k r n.value_is so_far n.heap n.can

  -- the types are those of the beginning
  pub same_types : new.types ≡ old.types
  same_types = ap (λ (v : OwnerView D). v.types) so_far.rewrites.rest

  -- the shape of the type has its slot
  module _ (kind : Layouts) (kind_is : kind ≡ layouts) (listed : Shape) (declared : shape_at old.types.declarations ty ≡ Some listed) where
    declared_here : shape_at new.types.declarations ty ≡ Some listed
    declared_here = ap (λ (ts : TypeTable). shape_at ts.declarations ty) same_types ∙ declared

    pub next_has : HasShapeSlot kind listed k
    next_has =
        subst (λ (l : Layouts). HasShapeSlot l listed k) (sym kind_is)
        (has_shape_slot layouts new.types.declarations ty k listed declared_here (has_slot layouts ids raws old place ty object shape count n.begins.to_fill new k r n.value_is so_far n.heap n.can))

    pub next_found : (found : Slot) → FindsShapeSlot kind listed k found → FindsSlot layouts new.types.declarations ty k found
    next_found found finds = finds_slot layouts new.types.declarations ty k listed declared_here found (subst (λ (l : Layouts). FindsShapeSlot l listed k found) kind_is finds)

  module _ (found : Slot) (finds : FindsSlot layouts new.types.declarations ty k found) where
    -- it is that of any fields that these are said to be
    slot_is : (o : HeapObject) (s : Shape) (m : ℕ) (f : IsToFill layouts old place ty (EachFits ids raws) o s m) → storage_slot found ≡ (slot_here layouts ids raws old place ty o s m f new k r n.value_is (n.before.filled o s m f) n.heap n.can).0
    slot_is o s m f = slot_found layouts ids raws old place ty o s m f new k r n.value_is (n.before.filled o s m f) n.heap n.can found finds

    pub next_goes : CanWriteKept layouts ids new place (storage_slot found) r
    next_goes = record {
      rising = subst AreOwnedRising (sym (ap (λ (v : OwnerView D). v.roots.owned) so_far.rewrites.rest)) n.begins.to_fill.rising;
      kept = is_kept layouts ids raws old place ty object shape count n.begins.to_fill new k r n.value_is so_far n.heap n.can;
      goes = λ x x_is.
          subst (λ (s : StorageSlot). CanWriteSlot layouts new place s x) (sym (slot_is object shape count n.begins.to_fill))
          (can_write layouts ids raws old place ty object shape count n.begins.to_fill new k r n.value_is so_far n.heap n.can x x_is);
    }

    -- so one more is written
    pub next_written : (after : OwnerView D) → WritesKept layouts ids new after place (storage_slot found) r → FillsFirst layouts ids raws old after place ty (k + 1)
    next_written after did = record {
      idle = ap (λ (v : OwnerView D). v.idle) (more object shape count n.begins.to_fill).rewrites.rest ∙ sym (ap (λ (v : OwnerView D). v.idle) so_far.rewrites.rest) ∙ n.before.idle;
      filled = more;
    }
      where
        more : (o : HeapObject) (s : Shape) (m : ℕ) → IsToFill layouts old place ty (EachFits ids raws) o s m → FillsTo layouts ids raws old after place o s m (k + 1)
        more o s m f =
            fills-more layouts ids raws old place ty o s m f new k r n.value_is (n.before.filled o s m f) n.heap n.can did.kept did.kept_is did.small after
            (subst (λ (x : StorageSlot). WritesAt layouts new after place x.offset (slot_bytes x.storage (kept_code did.kept))) (slot_is o s m f) did.writes)
