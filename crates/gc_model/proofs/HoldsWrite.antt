-- A store that holds a table holds it after a value of an object was written.
use Rattle.std.proofs.Common.{◌≡◌, ◌≢◌, ℕ, ◌+◌, ◌-◌, inl, inr, true, List, Some, sym, ap, ◌∙◌, subst, arith}
use Rattle.std.specs.List.{slice_get}
use Rattle.std.specs.FinMap.{get}
use Rattle.std.proofs.lemmas.Bool.{cases_eq}
use Rattle.gc_types.specs.declared.kind.Layouts.{Layouts}
use Rattle.gc_types.specs.declared.kind.Layouts.TheVariants.{Null, Counting, Copying}
use Rattle.gc_types.specs.declared.value.StorageType.{StorageType}
use Rattle.gc_types.specs.Layouts.{struct_base}
use Rattle.gc_view.specs.Bytes.{put_bytes}
use Rattle.gc_view.specs.Heaps.{HeapView, HeapObject}
use Rattle.gc_view.specs.Slots.{StorageSlot}
use Rattle.gc_model.specs.Values.{Value, Object}
use Rattle.gc_model.specs.Table.{Table, change_at, with_value, put}
use Rattle.gc_model.specs.Stores.{StoreView}
use Rattle.gc_model.specs.Fits.{fits}
use Rattle.gc_model.specs.Holds.{Placing, naming, Holds, KindHolds, Stands, ObjectsHold, IsTypedValue}
use Rattle.gc_model.proofs.Changes.{length-change_at, slice_get-change_at_same, slice_get-change_at_other, next_after-with_value}
use Rattle.gc_model.proofs.HeldObjects.{object_held}
use Rattle.gc_model.proofs.HoldsParts.{heap_changed, pending_changed}
use Rattle.gc_model.proofs.Hosts.{hosts-written}
use Rattle.gc_model.proofs.ObjectShapes.{IsSlotOf}
use Rattle.gc_model.proofs.ObjectStands.{slot_type, slot_not_host}
use Rattle.gc_model.proofs.SlotObjects.{slot_written, stands_write}
use Rattle.gc_model.proofs.Thrown.{thrown-written}
use Rattle.gc_model.proofs.Typing.{typed-written}
use Rattle.gc_model.proofs.PointParts.{IsEncodedAs, HeldAt}

-- What a write of some bytes to an object's data left of a heap.
pub record IsWrittenObject (old new : HeapView) (word offset : ℕ) (ws : List ℕ) : Type 0 where
  pub before : HeapObject
  pub there : get old.content word ≡ Some before
  pub here : get new.content word ≡ Some (record before { bytes = put_bytes before.bytes offset ws })
  pub others : (q : ℕ) → q ≢ word → get new.content q ≡ get old.content q
  pub attached : new.attached ≡ old.attached
  pub capacity : new.capacity ≡ old.capacity
  pub allocated : new.allocated ≡ old.allocated

module _ {D : Type 0} (layouts : Layouts) (s : StoreView D) (t : Table D) (place : Placing) (heap : HeapView) (word position index : ℕ) (o : Object D) (slot : StorageSlot) (v : Value) (ws : List ℕ) (holds : Holds layouts s t place) (placed : place position ≡ Some word) (object_is : slice_get t.objects position ≡ Some o) (is : IsSlotOf layouts t.types o index slot) (encoded : IsEncodedAs (naming place s.ids) slot.storage v ws) (fit : fits t.types t.objects slot.storage v ≡ true) (written : IsWrittenObject s.heap heap word (slot.offset - struct_base layouts) ws) where
  stands_before : Stands layouts t.types (naming place s.ids) o written.before
  stands_before = object_held layouts s t place holds position word o written.before placed written.there object_is

  -- the value that was written fits the type that its object says
  typed_here : IsTypedValue t.types t.objects o index v
  typed_here =
      let ty = slot_type layouts t.types (naming place s.ids) o written.before stands_before index slot is in
      record { field = ty.field; field_is = ty.field_is; is_fit = ap (λ (st : StorageType). fits t.types t.objects st v) ty.type_is ∙ fit }

  -- the object that was written
  held_here : HeldAt layouts (put position index v t) (naming place s.ids) heap.content position word
  held_here = record {
    object = slot_written layouts written.before slot ws;
    entry = with_value index v o;
    in_heap = written.here;
    in_table = slice_get-change_at_same position (with_value index v) t.objects o object_is;
    stands = stands_write layouts t.types (naming place s.ids) o written.before index slot v ws is encoded stands_before;
  }

  -- any other object
  held_other : (p w : ℕ) → p ≢ position → place p ≡ Some w → HeldAt layouts (put position index v t) (naming place s.ids) heap.content p w
  held_other p w ne e =
      let held = holds.objects.placed p w e in
      let elsewhere : w ≢ word = λ same. ne (holds.objects.injective p position w e (placed ∙ ap Some (sym same))) in
      record {
        object = held.object;
        entry = held.entry;
        in_heap = written.others w elsewhere ∙ held.in_heap;
        in_table = slice_get-change_at_other position (with_value index v) t.objects p ne ∙ held.in_table;
        stands = held.stands;
      }

  held_all : (p w : ℕ) → place p ≡ Some w → HeldAt layouts (put position index v t) (naming place s.ids) heap.content p w
  held_all p w e =
      elim (cases_eq p position) [
        | inl same ↦
            let at_word : word ≡ w = grind (arith, sym placed ∙ ap place (sym same) ∙ e) in
            subst (λ (q : ℕ). HeldAt layouts (put position index v t) (naming place s.ids) heap.content q w) (sym same)
            (subst (λ (q : ℕ). HeldAt layouts (put position index v t) (naming place s.ids) heap.content position q) at_word held_here)
        | inr differ ↦ held_other p w differ e
      ]

  -- an object that is held now was held before
  was_held : (q : ℕ) (h : HeapObject) → get heap.content q ≡ Some h → (b : HeapObject) × (get s.heap.content q ≡ Some b)
  was_held q h e =
      elim (cases_eq q word) [
        | inl same ↦ (written.before, ap (get s.heap.content) same ∙ written.there)
        | inr differ ↦ (h, sym (written.others q differ) ∙ e)
      ]

  objects : ObjectsHold layouts (put position index v t) (naming place s.ids) heap
  objects = record {
    placed = held_all;
    only = λ q h e. let was = was_held q h e in holds.objects.only q was.0 was.1;
    injective = holds.objects.injective;
    even = λ q h e. let was = was_held q h e in holds.objects.even q was.0 was.1;
  }

  written_by_kind : (k : Layouts) → KindHolds k t place s.heap → KindHolds k (put position index v t) place heap
  written_by_kind Null kind = record {
    all_held = λ p below. kind.all_held p (omega (arith, below, length-change_at position (with_value index v) t.objects));
    allocated = ap (λ n. n + 1) written.allocated ∙ kind.allocated ∙ sym (next_after-with_value t.types 1 position index v t.objects);
  }
  written_by_kind Counting kind = tt
  written_by_kind Copying kind = tt

  pub holds_write : Holds layouts (record s { heap = heap }) (put position index v t) place
  holds_write =
      pending_changed
      (heap_changed holds
      (record {
        made = written.attached ∙ holds.memory.made;
        capacity = written.capacity ∙ holds.memory.capacity;
        no_pages = holds.memory.no_pages;
        no_objects = λ unmade. ap (change_at position (with_value index v)) (holds.memory.no_objects unmade);
      })
      objects
      (written_by_kind layouts holds.by_kind)
      (hosts-written t.objects position index v o object_is (slot_not_host layouts t.types o index slot is) place word placed holds.objects.injective s.heap.content heap.content written.others s.hosts holds.hosts)
      (typed-written t.types t.objects holds.typed position index v o object_is typed_here))
      (thrown-written place t.objects position index v t.pending s.pending holds.pending)
