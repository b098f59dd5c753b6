-- A sound space of a counting heap is what a heap always is.
use Rattle.std.proofs.Common.{◌≡◌, ℕ, ◌+◌, ◌-◌, ◌%◌, ◌<◌, ◌≤◌, ◌^◌, List, [], ◌∷◌, take, drop, length, map, Option, Some, None, refl, sym, ap, subst, ◌∙◌, inl, inr, arith}
use Rattle.std.specs.Prelude.{IsSome, IsTrue}
use Rattle.std.specs.Ordering.{nat_cmp}
use Rattle.std.specs.FinMap as finite
use Rattle.std.specs.FinSet as finset
use Rattle.std.proofs.lemmas.Bool.{cases_lt}
use Rattle.std.proofs.lemmas.List.{length-take-le, length-drop}
use Rattle.gc_types.specs.declared.kind.Layouts.TheVariants.{Counting}
use Rattle.gc_types.specs.declared.kind.VMGcKind.{VMGcKind}
use Rattle.gc_types.specs.declared.kind.VMGcKind.TheVariants.{ExternRef, AnyRef, EqRef, StructRef, ArrayRef, ExnRef}
use Rattle.gc_memory.specs.Lists.{In, here, there, sum_over}
use Rattle.gc_memory.proofs.ListLemmas.{sum_over-same, sum_over-le}
use Rattle.gc_view.specs.Heaps.{HeapObject, detached_in}
use Rattle.gc_free.specs.Runs.{IsSpread}
use Rattle.gc_free.specs.Space.{places_end, AllAligned}
use Rattle.gc_heap.specs.Objects.{held_size, size_with, first_offset, data_offset}
use Rattle.gc_heap.specs.Content.{total, block_size, LiesAtPlace, TellsCounts, IsHeap}
use Rattle.gc_heap.specs.Totals.{total-empty}
use Rattle.gc_drc.specs.declared.space.CountedSpace.{CountedSpace}
use Rattle.gc_drc.specs.Layout.{counting_size_at, block_of, counting_kind_at, counting_data_at, counting_object_at, IsCountingWhole}
use Rattle.gc_drc.specs.View.{View, block_at, HoldsBlocks}
use Rattle.gc_drc.specs.Content.{at_places, places_of, counted_at, counting_seen_in, IsSoundSpace}
use Rattle.gc_drc.specs.PlaceLaws.{get_in, found_in, places-blocks, spread-lies, spread-apart, spread-sum, spread-total, total-at_places, in_contains, in_filter}

-- the blocks of a view lie apart
pub blocks_apart : (v : View) (s : CountedSpace) → HoldsBlocks v s → IsSpread 16 (places_end s.free.space.capacity) (map (block_at v.sizes) v.places)
blocks_apart v s h = subst (IsSpread 16 (places_end s.free.space.capacity)) h.blocks h.sound.blocks

pub aligned_at : (sizes : ℕ → ℕ) (p : ℕ) (ps : List ℕ) → AllAligned (map (block_at sizes) ps) → In p ps → p % 16 ≡ 0
aligned_at sizes p [] all i = elim i [ ]
aligned_at sizes _ (p ∷ ps) all here = all.0.0
aligned_at sizes q (p ∷ ps) all (there i) = aligned_at sizes q ps all.1 i

-- the places of its blocks are those of the view
pub places_are : (v : View) (s : CountedSpace) → HoldsBlocks v s → places_of s.free.space.held ≡ v.places
places_are v s h = ap places_of h.blocks ∙ places-blocks v.sizes v.places

-- where an object lies, and its size
pub record Lies (v : View) (s : CountedSpace) (p : ℕ) : Type 0 where
  pub aligned : p % 16 ≡ 0
  pub not_null : 16 ≤ p
  pub least : 28 ≤ v.sizes p
  pub inside : p + v.sizes p ≤ length s.memory
  pub block : p + block_of (v.sizes p) ≤ length s.memory
  pub fits : length s.memory < 2 ^ 32

least_offset : (k : VMGcKind) → 28 ≤ first_offset Counting k
least_offset ExternRef = omega arith
least_offset AnyRef = omega arith
least_offset EqRef = omega arith
least_offset StructRef = omega arith
least_offset ArrayRef = omega arith
least_offset ExnRef = omega arith

pub least_size : (bytes : List ℕ) (p : ℕ) → IsCountingWhole bytes p → 28 ≤ counting_size_at bytes p
least_size bytes p w = let a = least_offset (counting_kind_at bytes p) in omega (arith, w.least)

pub lies : (v : View) (s : CountedSpace) (p : ℕ) → HoldsBlocks v s → In p v.places → Lies v s p
lies v s p h i =
    let l = spread-lies v.sizes 16 (places_end s.free.space.capacity) p v.places (blocks_apart v s h) i in
    let o = h.objects p i in
    let least = least_size s.memory p o.whole in
    let size = o.size_is in
    let capacity = h.capacity in
    let bound = h.bound in
    let to = l.to in
    record {
      aligned = aligned_at v.sizes p v.places (subst AllAligned h.blocks h.sound.aligned) i;
      not_null = l.from;
      least = omega arith;
      inside = omega arith;
      block = omega arith;
      fits = omega arith;
    }

-- of two objects the one ends before the other begins
pub apart : (v : View) (s : CountedSpace) (p q : ℕ) → HoldsBlocks v s → In p v.places → In q v.places → p < q → p + block_of (v.sizes p) ≤ q
apart v s p q h i j before = spread-apart v.sizes 16 (places_end s.free.space.capacity) p q v.places (blocks_apart v s h) i j before

length-counting_part : (bytes : List ℕ) (lo n : ℕ) → lo + n ≤ length bytes → length (take n (drop lo bytes)) ≡ n
length-counting_part bytes lo n h = length-take-le n (drop lo bytes) (omega (arith, length-drop lo bytes))

pub length-counting_data_at : (bytes : List ℕ) (p : ℕ) → 28 ≤ counting_size_at bytes p → p + counting_size_at bytes p ≤ length bytes → length (counting_data_at bytes p) ≡ counting_size_at bytes p - 28
length-counting_data_at bytes p least h = length-counting_part bytes (p + 28) (counting_size_at bytes p - 28) (omega arith)

size_by : (k : VMGcKind) (n size : ℕ) → 28 ≤ size → n ≡ size - 28 → (k ≡ ExternRef → size ≡ 32) → size_with Counting k n ≡ size
size_by ExternRef n size least is ext = sym (ext refl)
size_by AnyRef n size least is ext = omega arith
size_by EqRef n size least is ext = omega arith
size_by StructRef n size least is ext = omega arith
size_by ArrayRef n size least is ext = omega arith
size_by ExnRef n size least is ext = omega arith

-- an object takes as many bytes as its size word says
pub held_size-counting : (bytes : List ℕ) (p : ℕ) → IsCountingWhole bytes p → p + counting_size_at bytes p ≤ length bytes → held_size Counting (counting_object_at bytes p) ≡ counting_size_at bytes p
held_size-counting bytes p w h =
    let least = least_size bytes p w in
    size_by (counting_kind_at bytes p) (length (counting_data_at bytes p)) (counting_size_at bytes p) least (length-counting_data_at bytes p least h) (λ e. (w.external e).size)

pub held_size-in : (v : View) (s : CountedSpace) (p : ℕ) → HoldsBlocks v s → In p v.places → held_size Counting (counting_object_at s.memory p) ≡ v.sizes p
held_size-in v s p h i =
    let o = h.objects p i in
    let l = lies v s p h i in
    let size = o.size_is in
    held_size-counting s.memory p o.whole (let inside = l.inside in omega arith) ∙ size

data_from : (k : VMGcKind) → data_offset Counting k ≡ 28
data_from ExternRef = refl
data_from AnyRef = refl
data_from EqRef = refl
data_from StructRef = refl
data_from ArrayRef = refl
data_from ExnRef = refl

-- the object at a place of a space lies there
pub counting_lies_at_place : (v : View) (s : CountedSpace) (p : ℕ) → HoldsBlocks v s → In p v.places → LiesAtPlace Counting (length s.memory) p (counting_object_at s.memory p)
counting_lies_at_place v s p h i =
    let o = h.objects p i in
    let l = lies v s p h i in
    let w = o.whole in
    let size = o.size_is in
    let bytes_are = length-counting_data_at s.memory p (let least = l.least in omega arith) (let inside = l.inside in omega arith) in
    let from = data_from (counting_kind_at s.memory p) in
    record {
      aligned = l.aligned;
      not_null = let from = l.not_null in omega arith;
      kind = w.object_kind;
      whole = let least = w.least in let more = l.least in omega arith;
      host = λ e. let x = (w.external e).size in omega arith;
      spare = (omega arith, omega arith);
      inside = subst (λ n. p + n ≤ length s.memory) (sym (held_size-in v s p h i)) l.inside;
    }

some_get : (o : Option ℕ) (n : ℕ) → o ≡ Some n → IsSome o
some_get o n e = subst IsSome (sym e) refl

none_some : IsSome {T = ℕ} None → ⊥
none_some e = cc

held_some : (f : ℕ → HeapObject) (g : ℕ → ℕ) (ps : List ℕ) (q : ℕ) → IsSome (finite.get (at_places g ps) q) → (o : HeapObject) × (finite.get (at_places f ps) q ≡ Some o)
held_some f g ps q some = elim (finite.get (at_places g ps) q) as (λ o. finite.get (at_places g ps) q ≡ o → IsSome o → (o : HeapObject) × (finite.get (at_places f ps) q ≡ Some o)) [
  | Some n ↦ λ e s. let r = found_in g q n ps e in (f q, get_in f q ps r.0)
  | None ↦ λ e s. absurd (none_some s)
] refl some

tells_counts : (v : View) (s : CountedSpace) (scopes : ℕ) → HoldsBlocks v s → TellsCounts (counting_seen_in scopes s)
tells_counts v s scopes h =
    let ps : List ℕ = places_of s.free.space.held in
    let are = places_are v s h in
    record {
      counted = λ q. (
        λ held. some_get _ (counted_at s.memory q) (get_in (counted_at s.memory) q ps (found_in (counting_object_at s.memory) q held.0 ps held.1).0),
        λ some. held_some (counting_object_at s.memory) (counted_at s.memory) ps q some,
      );
      shown = λ q e. held_in q ps (in_filter _ q ps (in_contains q _ e)).0;
      queued = λ q e. held_in q ps (in_filter _ q ps (in_contains q _ e)).0;
    }
  where
    held_in : (q : ℕ) (ps : List ℕ) → In q ps → (o : HeapObject) × (finite.get (at_places (counting_object_at s.memory) ps) q ≡ Some o)
    held_in q ps i = (counting_object_at s.memory q, get_in (counting_object_at s.memory) q ps i)

-- the blocks of the objects add up to the allocated bytes, and their sizes to no more
sums : (v : View) (s : CountedSpace) → HoldsBlocks v s
    → (total (held_size Counting) (at_places (counting_object_at s.memory) v.places) ≤ length s.memory) × (s.allocated ≡ total (block_size Counting) (at_places (counting_object_at s.memory) v.places))
sums v s h =
    let up = blocks_apart v s h in
    let high : ℕ = places_end s.free.space.capacity in
    let sizes = total-at_places (held_size Counting) (counting_object_at s.memory) v.sizes 16 high v.places up
    ∙ sum_over-same v.sizes (λ p. held_size Counting (counting_object_at s.memory p)) v.places (λ p i. held_size-in v s p h i) in
    let blocks = total-at_places (block_size Counting) (counting_object_at s.memory) v.sizes 16 high v.places up
    ∙ sum_over-same (λ p. block_of (v.sizes p)) (λ p. block_size Counting (counting_object_at s.memory p)) v.places (λ p i. ap block_of (held_size-in v s p h i)) in
    let less = sum_over-le (λ p. block_of (v.sizes p)) v.sizes v.places (λ p i. omega arith) in
    (fits up sizes less, h.allocated ∙ sym blocks)
  where
    fits : IsSpread 16 (places_end s.free.space.capacity) (map (block_at v.sizes) v.places)
        → total (held_size Counting) (at_places (counting_object_at s.memory) v.places) ≡ sum_over v.sizes v.places
        → sum_over v.sizes v.places ≤ sum_over (λ p. block_of (v.sizes p)) v.places
        → total (held_size Counting) (at_places (counting_object_at s.memory) v.places) ≤ length s.memory
    fits up e less = elim (cases_lt (places_end s.free.space.capacity) 16) [
      | inl small ↦ subst (λ n. n ≤ length s.memory) (sym (e ∙ none v.places up small)) (omega arith)
      | inr large ↦ let sum = spread-sum v.sizes 16 (places_end s.free.space.capacity) v.places large up in let c = h.capacity in omega arith
    ]
      where
        none : (ps : List ℕ) → IsSpread 16 (places_end s.free.space.capacity) (map (block_at v.sizes) ps) → places_end s.free.space.capacity < 16 → sum_over v.sizes ps ≡ 0
        none [] up small = refl
        none (p ∷ ps) up small = absurd (let a : 16 ≤ p = up.0 in let b : p + block_of (v.sizes p) ≤ places_end s.free.space.capacity = up.2 in omega arith)

-- the allocated bytes lie in the memory
within_memory : (v : View) (s : CountedSpace) → HoldsBlocks v s → s.allocated ≤ length s.memory
within_memory v s h =
    let all = spread-total v.sizes 16 (places_end s.free.space.capacity) v.places (blocks_apart v s h) in
    let capacity = h.capacity in
    let allocated = h.allocated in omega arith

-- A sound space is a heap.
pub counting_space_is_heap : (s : CountedSpace) (scopes : ℕ) → IsSoundSpace s → scopes < 2 ^ 64 → IsHeap Counting (counting_seen_in scopes s)
counting_space_is_heap s scopes sound below =
    let v = sound.view in
    let h = sound.holds in
    let are = places_are v s h in
    let sum = subst (λ ps. (total (held_size Counting) (at_places (counting_object_at s.memory) ps) ≤ length s.memory) × (s.allocated ≡ total (block_size Counting) (at_places (counting_object_at s.memory) ps))) (sym are) (sums v s h) in
    let place = λ (p : ℕ) (o : HeapObject) (e : finite.get (at_places (counting_object_at s.memory) (places_of s.free.space.held)) p ≡ Some o).
    found_in (counting_object_at s.memory) p o (places_of s.free.space.held) e in
    record {
      objects = λ p o e. let f = place p o e in subst (LiesAtPlace Counting (length s.memory) p) (sym f.1) (counting_lies_at_place v s p h (subst (In p) are f.0));
      apart = λ p q o o' e e' before.
          let f = place p o e in
          let g = place q o' e' in
          let i = subst (In p) are f.0 in
          let ends = apart v s p q h i (subst (In q) are g.0) before in
          let held = ap (held_size Counting) f.1 ∙ held_size-in v s p h i in
          subst (λ n. p + n ≤ q) (sym held) (omega arith);
      fits = sum.0;
      pages = h.pages;
      bound = h.bound;
      within = within_memory v s h;
      allocated = sum.1;
      by_kind = (tells_counts v s scopes h, refl);
      detached = λ e. absurd (cc);
      scopes = below;
    }

-- A heap with no memory is one.
pub counting_detached_is_heap : (scopes : ℕ) → scopes < 2 ^ 64 → IsHeap Counting (detached_in scopes)
counting_detached_is_heap scopes below = record {
  objects = λ p o e. absurd (none p o e);
  apart = λ p q o o' e e' before. absurd (none p o e);
  fits = omega (arith, total-empty (held_size Counting));
  pages = refl;
  bound = omega arith;
  within = omega arith;
  allocated = sym (total-empty (block_size Counting));
  by_kind = (
    record {
      counted = λ q. (λ held. absurd (none q held.0 held.1), λ some. absurd (no_count q some));
      shown = λ q e. absurd (no_member q e);
      queued = λ q e. absurd (no_member q e);
    },
    refl,
  );
  detached = λ e. refl;
  scopes = below;
}
  where
    none : (p : ℕ) (o : HeapObject) → finite.get (finite.empty {X = HeapObject} {R = nat_cmp}) p ≡ Some o → ⊥
    none p o e = cc (finite.get-empty nat_cmp p)

    no_count : (q : ℕ) → IsSome (finite.get (finite.empty {X = ℕ} {R = nat_cmp}) q) → ⊥
    no_count q some = none_some (subst IsSome (finite.get-empty nat_cmp q) some)

    no_member : (q : ℕ) → IsTrue (finset.contains (finset.empty {R = nat_cmp}) q) → ⊥
    no_member q e = cc (finset.contains-empty nat_cmp q)
