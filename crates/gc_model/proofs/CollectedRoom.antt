-- Room in a heap: beside all its objects, and beside those that the roots of the table reach.
use Rattle.std.proofs.Common.{◌≡◌, ℕ, List, filter, Option, Some, None, Contains, refl, sym, ◌∙◌, arith}
use Rattle.std.specs.List.{sum_by, slice_get}
use Rattle.std.specs.FinMap.{get, entries}
use Rattle.std.proofs.lemmas.List.Sums.{sum-map}
use Rattle.gc_types.specs.declared.kind.Layouts.{Layouts}
use Rattle.gc_types.specs.declared.kind.Layouts.TheVariants.{Null, Counting, Copying}
use Rattle.gc_types.specs.Declarations.{Declaration}
use Rattle.gc_types.specs.Layouts.{round_up}
use Rattle.gc_view.specs.Sizes.{alignment}
use Rattle.gc_model.specs.Table.{Table}
use Rattle.gc_model.specs.Values.{Object}
use Rattle.gc_model.specs.Sizes.{rounded_size}
use Rattle.gc_model.specs.Reach.{IsReached, IsKept, AreAll, root_references}
use Rattle.gc_model.specs.Gaps.{KeptAt, IsGap}
use Rattle.gc_model.specs.Allocation as allocation
use Rattle.gc_model.specs.Allocation.{copied_size, FitsIn, LacksFit}
use Rattle.gc_view.specs.Heaps.{HeapObject}
use Rattle.gc_model.specs.Stores.{StoreView}
use Rattle.gc_model.specs.Holds.{Placing, Holds, HoldsKept}
use Rattle.gc_heap.specs.Content.{total, block_size}
use Rattle.gc_heap.specs.Heap.{HasRoom}
use Rattle.gc_model.proofs.CollectedKept.{reached_placed}
use Rattle.gc_model.specs.Accounts.{HoldsAccount}
use Rattle.gc_model.specs.Policy.{PolicyState, LiesNow, block_bytes}
use Rattle.gc_model.proofs.HeapGaps.{gap_beside, gap_now, free_now}
use Rattle.gc_model.proofs.HeldBlocks.{held_block}
use Rattle.gc_model.proofs.HeldEntries.{held_entry}
use Rattle.gc_model.proofs.HeldNumber.{position_of, placed_of, positions, are_placed, are_kept}
use Rattle.gc_model.proofs.HeldPaths.{is_reached, is_reached-true, true-is_reached}
use Rattle.gc_model.proofs.HeldSums.{sum_part, passing, passes, distinct_passing, same_sums}

-- what an object takes in a copying heap is its block
as_block : {D : Type 0} (types : List Declaration) (o : Option (Object D)) → rounded_size types o ≡ block_bytes Copying types o
as_block types None = refl
as_block types (Some o) = refl

module _ {D : Type 0} (s : StoreView D) (t : Table D) (place : Placing) (holds : Holds Copying s t place) where
  -- an object takes as many bytes as the table says
  block_is : (word : ℕ) (o : HeapObject) → get s.heap.content word ≡ Some o → copied_size t (position_of Copying t place s.heap holds.objects word) ≡ block_size Copying o
  block_is word o e =
      as_block t.types (slice_get t.objects (position_of Copying t place s.heap holds.objects word))
      ∙ held_block Copying s t place holds (position_of Copying t place s.heap holds.objects word) word o (placed_of Copying t place s.heap holds.objects word o e) e

  abbrev all_positions : List ℕ
  all_positions = positions Copying t place s.heap holds.objects

  total_is : sum_by (copied_size t) all_positions ≡ total (block_size Copying) s.heap.content
  total_is =
      same_sums (copied_size t) (λ (e : ℕ × HeapObject). position_of Copying t place s.heap holds.objects e.0) (λ (e : ℕ × HeapObject). block_size Copying e.1) (entries s.heap.content)
      (λ i e there. block_is e.0 e.1 (held_entry s.heap.content i e there))
      ∙ sym (sum-map (λ (e : ℕ × HeapObject). block_size Copying e.1) (entries s.heap.content))

  abbrev reached : List ℕ
  reached = filter (is_reached t.objects (root_references t)) all_positions

  reached_are : AreAll (IsReached t) reached
  reached_are =
      let placed = are_placed Copying t place s.heap holds.objects in
      record {
        distinct = distinct_passing (is_reached t.objects (root_references t)) all_positions placed.distinct;
        all = λ p. (
          λ c. is_reached-true t.objects (root_references t) p (passing (is_reached t.objects (root_references t)) all_positions p c).1,
          λ r. passes (is_reached t.objects (root_references t)) all_positions p ((placed.all p).1 (reached_placed Copying s t place holds p r)) (true-is_reached t.objects (root_references t) p r),
        );
      }

  -- Room beside all objects of the heap is room beside those that are reached.
  pub held_room : (size : ℕ) → HasRoom Copying s.heap size → allocation.FitsHalf t size
  held_room size room =
      let capacity = holds.memory.capacity in
      let part = sum_part (copied_size t) reached all_positions reached_are.distinct (λ p c. (passing (is_reached t.objects (root_references t)) all_positions p c).0) in
      let all = total_is in
      let as_sum = sum-map (copied_size t) reached in
      record { reached = reached; are_reached = reached_are; room = omega arith }

-- After a collection these are the same.
pub collected_room : {D : Type 0} (s : StoreView D) (t : Table D) (size : ℕ) → HoldsKept Copying s t → allocation.FitsHalf t size → HasRoom Copying s.heap size
collected_room s t size kept has =
    let holds = kept.1.0 in
    let capacity = holds.memory.capacity in
    let are = are_kept Copying s t kept.0 holds kept.1.1 in
    let part = sum_part (copied_size t) (positions Copying t kept.0 s.heap holds.objects) has.reached are.distinct (λ p c. (has.are_reached.all p).1 ((are.all p).0 c)) in
    let all : sum_by (copied_size t) (positions Copying t kept.0 s.heap holds.objects) ≡ total (block_size Copying) s.heap.content = total_is s t kept.0 holds in
    let as_sum = sum-map (copied_size t) has.reached in
    let room = has.room in
    omega arith

-- where a heap has room for so many bytes, the table has
pub fits_in : {D : Type 0} (layouts : Layouts) (s : StoreView D) (p : PolicyState D) (size : ℕ) → HoldsAccount layouts s p.table p.account → HasRoom layouts s.heap size → FitsIn layouts p.account.places p.table size
fits_in Null s p size holds room = let next = holds.holds.by_kind.allocated in let capacity = holds.holds.memory.capacity in omega arith
fits_in Counting s p size holds room = (
  room.0,
  gap_beside (LiesNow p) (KeptAt Counting p.table p.account.places) p.table room.0 (round_up size alignment) (λ q word kept. kept.0) (gap_now s p holds room.0 (round_up size alignment) room.1),
)
fits_in Copying s p size holds room = held_room s p.table holds.place holds.holds size room

-- the heap holds nothing but what a collection keeps
abbrev pub OnlyKept : {D : Type 0} → Layouts → PolicyState D → Type 0
OnlyKept layouts p = (q : ℕ) → Contains p.account.held q → IsKept layouts p.table q

kept_alone : {D : Type 0} (layouts : Layouts) (s : StoreView D) (p : PolicyState D) → HoldsAccount layouts s p.table p.account → OnlyKept layouts p → HoldsKept layouts s p.table
kept_alone layouts s p holds only = (holds.place, (holds.holds, λ q word placed. only q ((holds.account.held.all q).1 (word, placed))))

-- where a heap has none after a collection, the table has none
pub lacks_fit : {D : Type 0} (layouts : Layouts) (s : StoreView D) (p : PolicyState D) (size : ℕ) → HoldsAccount layouts s p.table p.account → OnlyKept layouts p → (HasRoom layouts s.heap size → ⊥) → LacksFit layouts p.account.places p.table size
lacks_fit Null s p size holds only none = λ fits. none (let next = holds.holds.by_kind.allocated in let capacity = holds.holds.memory.capacity in omega arith)
lacks_fit Counting s p size holds only none = λ fits.
    let gap : IsGap (LiesNow p) p.table fits.0 (round_up size alignment) =
    gap_beside (KeptAt Counting p.table p.account.places) (LiesNow p) p.table fits.0 (round_up size alignment)
    (λ q word lies. (lies, only q ((holds.account.held.all q).1 (word, sym (holds.account.places q) ∙ lies)))) fits.1 in
    none (fits.0, free_now s p holds fits.0 (round_up size alignment) gap)
lacks_fit Copying s p size holds only none = λ has. none (collected_room s p.table size (kept_alone Copying s p holds only) has)
