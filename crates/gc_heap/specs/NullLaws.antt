-- The laws of a null heap: what is always true of it outside a collection, and that a collection may
-- begin.
use Rattle.std.proofs.Common.{◌≡◌, ℕ, ◌+◌, ◌%◌, ◌<◌, ◌≤◌, ◌^◌, List, length, Option, Some, None, refl, sym, ap, subst, ◌∙◌, arith}
use Rattle.std.specs.Ordering.{nat_cmp}
use Rattle.std.specs.FinMap as map
use Rattle.std.proofs.lemmas.Cmp.{nat_cmp_total}
use Rattle.gc_types.specs.declared.kind.Layouts.TheVariants.{Null}
use Rattle.gc_types.specs.declared.kind.VMGcKind.{VMGcKind}
use Rattle.gc_types.specs.declared.kind.VMGcKind.TheVariants.{ExternRef, AnyRef, EqRef, StructRef, ArrayRef, ExnRef}
use Rattle.gc_types.specs.Layouts.{round_up}
use Rattle.gc_view.specs.Sizes.{alignment}
use Rattle.gc_view.specs.Heaps.{HeapObject, detached_in}
use Rattle.gc_heap.specs.Objects.{held_size, data_offset}
use Rattle.gc_heap.specs.Content.{total, LiesAtPlace, IsHeap}
use Rattle.gc_heap.specs.Totals.{total-empty}
use Rattle.gc_heap.specs.Collection.{Start, CanCollect}
use Rattle.gc_heap.specs.NullWalk.{bump_first_place, bump_size_at, bump_object_at, entries, BumpLiesAt}
use Rattle.gc_heap.specs.NullStates.{bump_view, view_of, null_seen, HasMemory, IsBumped, IsNullSound, IsNullUnderWay}
use Rattle.gc_heap.specs.declared.null.NullHeap.{NullHeap}
use Rattle.gc_heap.specs.NullWalkLaws.{least, spare_is, length-object, held_is, found_lies, total_entries, apart_among, LiesAmong}

-- nothing is held in a heap with no memory
pub nothing_in_detached : (q : ℕ) (o : HeapObject) → map.get {X = HeapObject} (map.empty {R = nat_cmp}) q ≡ Some o → ⊥
nothing_in_detached q o held =
    let none : map.get {X = HeapObject} (map.empty {R = nat_cmp}) q ≡ None = map.get-empty nat_cmp q in
    cc

bump_detached_is_heap : (scopes : ℕ) → scopes < 2 ^ 64 → IsHeap Null (detached_in scopes)
bump_detached_is_heap scopes small = record {
  objects = λ place o held. absurd (nothing_in_detached place o held);
  apart = λ p q o o' at_p at_q before. absurd (nothing_in_detached p o at_p);
  fits = omega (arith, total-empty (held_size Null));
  pages = refl;
  bound = omega arith;
  within = omega arith;
  allocated = λ place o held. absurd (nothing_in_detached place o held);
  by_kind = (refl, refl);
  detached = λ _. refl;
  scopes = small;
}

-- the data of every kind begins at 8
pub data_begins : (k : VMGcKind) → data_offset Null k ≡ 8
data_begins ExternRef = refl
data_begins AnyRef = refl
data_begins EqRef = refl
data_begins StructRef = refl
data_begins ArrayRef = refl
data_begins ExnRef = refl

-- an object that lies in the memory is one of a null heap
bump_lies_at_place : (bytes : List ℕ) (place : ℕ) → BumpLiesAt bytes place → place % 16 ≡ 0 → 0 < place → LiesAtPlace Null (length bytes) place (bump_object_at bytes place)
bump_lies_at_place bytes place lies aligned not_null =
    let o : HeapObject = bump_object_at bytes place in
    record {
      aligned = aligned;
      not_null = not_null;
      kind = lies.is_kind;
      whole = omega (arith, lies.first, data_begins o.kind, length-object bytes place lies, least lies);
      host = λ e. (lies.host e).size;
      spare = spare_is bytes place;
      inside = omega (arith, held_is bytes place lies, lies.inside);
    }

bumped_is_heap : (bytes : List ℕ) (next n scopes : ℕ) → IsBumped bytes next n → scopes < 2 ^ 64 → IsHeap Null (bump_view bytes next n scopes)
bumped_is_heap bytes next n scopes s small =
    let es : List (ℕ × HeapObject) = entries n bytes bump_first_place in
    let e : ℕ = round_up next alignment in
    let content : map.FinMap nat_cmp HeapObject = map.from_entries es in
    let found : (q : ℕ) (o : HeapObject) → map.get content q ≡ Some o → map.find nat_cmp q es ≡ Some o =
    λ q o held. sym (map.get-from_entries nat_cmp_total es q) ∙ held in
    let lies : (q : ℕ) (o : HeapObject) → map.get content q ≡ Some o → LiesAmong bytes bump_first_place e q o =
    λ q o held. found_lies n bytes bump_first_place e q o (omega arith) s.follow (found q o held) in
    let size : (q : ℕ) (o : HeapObject) → map.get content q ≡ Some o → held_size Null o ≡ bump_size_at bytes q =
    λ q o held. ap (held_size Null) (lies q o held).is ∙ held_is bytes q (lies q o held).lies in
    let begun : 0 < next = s.begun in
    let within : next ≤ length bytes + 1 = s.within in
    let sum : total (held_size Null) content + bump_first_place ≤ e = total_entries n bytes bump_first_place e s.follow in
    record {
      objects = λ q o held.
          let l = lies q o held in
          subst (LiesAtPlace Null (length bytes) q) (sym l.is) (bump_lies_at_place bytes q l.lies l.aligned (omega (arith, l.from)));
      apart = λ p q o o' at_p at_q before.
          let before_end : p + bump_size_at bytes p ≤ q =
          apart_among n bytes bump_first_place e p q o o' (omega arith) s.follow (found p o at_p) (found q o' at_q) before in
          omega (arith, size p o at_p);
      fits = omega arith;
      pages = s.pages;
      bound = s.bound;
      within = omega arith;
      allocated = λ q o held. let inside : q + held_size Null o ≤ next = s.ends q o (found q o held) in omega arith;
      by_kind = (refl, refl);
      detached = λ not. cc;
      scopes = small;
    }

memory_is_heap : (memory : Option (List ℕ)) (next objects scopes : ℕ) → HasMemory memory next objects → scopes < 2 ^ 64
    → IsHeap Null (view_of memory next objects scopes)
memory_is_heap None next objects scopes s small = bump_detached_is_heap scopes small
memory_is_heap (Some bytes) next objects scopes s small = bumped_is_heap bytes next objects scopes s small

pub null_is_heap : (heap : NullHeap) → IsNullSound heap → IsHeap Null (null_seen heap)
null_is_heap heap s = memory_is_heap heap.memory heap.next heap.objects heap.scopes s.memory s.scopes

pub null_starts : (s : Start) (heap : NullHeap) → IsNullSound heap → null_seen heap ≡ s.heap → CanCollect Null s
    → IsNullUnderWay s 0 heap s.roots s.types s.hosts
null_starts s heap sound seen can = record {
  sound = sound;
  heap_is = seen;
  roots_are = refl;
  types_are = refl;
  hosts_are = refl;
  can = can;
}
