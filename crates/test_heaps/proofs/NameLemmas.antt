-- What it makes of the names of an object that a word is copied, and given up.
use Rattle.std.proofs.Common.{◌≡◌, ℕ, ◌+◌, ◌-◌, ◌<◌, inr, Option, Some, None, refl, sym, ◌∙◌, subst, arith}
use Rattle.std.specs.FinMap.{get}
use Rattle.std.proofs.lemmas.Option.{none-some, same_Some}
use Rattle.gc_types.specs.declared.kind.Layouts.{Layouts}
use Rattle.gc_view.specs.Heaps.{Counts, HeapObject, HeapView}
use Rattle.gc_heap.specs.Content.{IsHeap}
use Rattle.gc_heap.specs.Barriers.{CanUnname, cloned, dropped, lower, raise}
use Rattle.gc_heap.specs.Heap.{AddsObject}
use Rattle.gc_drc.proofs.SeenLemmas.{get-insert-same}
use Rattle.gc_heap.proofs.GivenLemmas.{can_give_back}
use Rattle.gc_raw_store.specs.Stores.{GcStoreView}
use Rattle.test_heaps.specs.Names.{HasNames}

-- a new object has one name
pub names_added : (layouts : Layouts) (old new : HeapView) (place size : ℕ) (o : HeapObject) → IsHeap layouts old → AddsObject layouts old new place o size → HasNames new place 1
names_added layouts old new place size o heap added =
    let can = can_give_back layouts old new place size o (λ kind. Unit {0}) tt heap added in record { held = (can.object, can.held); counted = can.one_name }

module _ (c : Counts) (place n : ℕ) (counted : (k : ℕ) → get c.counted place ≡ Some k → k ≡ n) where
  raised : (found : Option ℕ) → get c.counted place ≡ found → (k : ℕ) → get (raise found place c).counted place ≡ Some k → k ≡ n + 1
  raised None is k e = absurd (none-some k (sym is ∙ e))
  raised (Some m) is k e = let had = counted m is in let now = same_Some (m + 1) k (sym (get-insert-same c.counted place (m + 1)) ∙ e) in omega arith

  lowered : (found : Option ℕ) → get c.counted place ≡ found → (k : ℕ) → get (lower found place c).counted place ≡ Some k → k ≡ n - 1
  lowered None is k e = absurd (none-some k (sym is ∙ e))
  lowered (Some m) is k e = let had = counted m is in let now = same_Some (m - 1) k (sym (get-insert-same c.counted place (m - 1)) ∙ e) in omega arith

module _ (s t : GcStoreView ℕ) (place n word : ℕ) (names : HasNames s.heap place n) (is : word ≡ place) where
  to : (heap : ℕ → HeapView) (m : ℕ) → t ≡ record s { heap = heap word } → HasNames (heap place) place m → HasNames t.heap place m
  to heap m same has = subst (λ (v : GcStoreView ℕ). HasNames v.heap place m) (sym same) (subst (λ w. HasNames (heap w) place m) (sym is) has)

  pub after_clone : t ≡ record s { heap = cloned s.heap word } → HasNames t.heap place (n + 1)
  after_clone same = to (cloned s.heap) (n + 1) same (record { held = names.held; counted = raised s.heap.counts place n names.counted (get s.heap.counts.counted place) refl })

  pub after_drop : t ≡ record s { heap = dropped s.heap word } → HasNames t.heap place (n - 1)
  after_drop same = to (dropped s.heap) (n - 1) same (record { held = names.held; counted = lowered s.heap.counts place n names.counted (get s.heap.counts.counted place) refl })

-- a word that names the object may be given up
pub can_unname_as : (h : HeapView) (place word n : ℕ) → HasNames h place n → word ≡ place → 0 < n → CanUnname h word
can_unname_as h place word n names is some = subst (CanUnname h) (sym is) (record { named = inr names.held; counted = λ k got. let same = names.counted k got in omega arith })
