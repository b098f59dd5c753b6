-- Which words barriers may be given: a place has fewer names than the heap has bytes and counted roots.
use Rattle.std.proofs.Common.{◌≡◌, ℕ, ◌<◌, ◌≤◌, ◌^◌, Bool, false, List, ◌∷◌, ◌++◌, length, ◌∙◌, arith}
use Rattle.gc_types.specs.declared.kind.Layouts.{Layouts}
use Rattle.gc_types.specs.Declarations.{Declaration}
use Rattle.gc_roots.specs.Roots.{Root}
use Rattle.gc_view.specs.Heaps.{HeapView}
use Rattle.gc_heap.specs.Content.{IsHeap}
use Rattle.gc_heap.specs.Barriers.{CanName, CanUnname}
use Rattle.gc_heap.specs.Collection.{CanCollect, IsWordOf, held_words}
use Rattle.gc_heap.proofs.CountLemmas.{held-between, held_one, once}
use Rattle.gc_heap.proofs.NameLemmas.{counted_is, is_named, names_few}
use Rattle.gc_heap.proofs.RootedLemmas.{is_among}
use Rattle.gc_owner.specs.Tracing.{start_from}
use Rattle.gc_owner.proofs.Begins.{with_memory, memory_heap}

-- a word of a heap or a root may be cloned
pub can_name : (layouts : Layouts) (types : List Declaration) (h : HeapView) (roots : List Root) (hosts : ℕ → Bool) → IsHeap layouts h → CanCollect layouts (start_from types h roots hosts) → length (held_words roots) ≤ 2 ^ 34
    → (word : ℕ) → IsWordOf h word → 0 < word → CanName h word
can_name layouts types h roots hosts heap can few word is present = record {
  named = is_named h word is present;
  below = λ n counted.
      let names = counted_is layouts types (with_memory h) roots (memory_heap layouts h heap) can.counts word n counted in
      let most = names_few layouts types (with_memory h) roots hosts (memory_heap layouts h heap) can word in
      omega arith;
}

-- a root's word may be dropped
pub can_unname : (layouts : Layouts) (types : List Declaration) (h : HeapView) (before : List Root) (r : Root) (behind : List Root) (hosts : ℕ → Bool) → IsHeap layouts h
    → CanCollect layouts (start_from types h (before ++ r ∷ behind) hosts) → r.on_stack ≡ false → 0 < r.word → CanUnname h r.word
can_unname layouts types h before r behind hosts heap can held present = record {
  named = is_named h r.word (can.roots r (is_among before r behind)) present;
  counted = λ n counted.
      let names = counted_is layouts types (with_memory h) (before ++ r ∷ behind) (memory_heap layouts h heap) can.counts r.word n counted in
      let between = held-between r.word before r behind in
      let one = held_one r.word r held ∙ once r.word in
      omega arith;
}
