-- The plain law of counting: what the first two increments of a collection free.
use Rattle.std.specs.Prelude.{◌≡◌, ℕ, Bool, true, false, List, Some, None}
use Rattle.std.specs.List.{Contains}
use Rattle.std.specs.FinMap as finite
use Rattle.gc_types.specs.declared.kind.Layouts.TheVariants.{Counting}
use Rattle.gc_types.specs.Declarations.{Declaration}
use Rattle.gc_roots.specs.Roots.{Root}
use Rattle.gc_view.specs.Heaps.{HeapObject, HeapView}
use Rattle.gc_heap.specs.Objects.{host_id}
use Rattle.gc_heap.specs.References.{references}
use Rattle.gc_heap.specs.Content.{IsHeld}
use Rattle.gc_heap.specs.Collection.{Start, IsExternal, CountsAnew}
use Rattle.gc_drc.specs.declared.collection.DrcCollection.{DrcCollection}
use Rattle.gc_drc.specs.declared.heap.DrcHeap.{DrcHeap}
use Rattle.gc_drc.specs.ObjectsBetween.{IsDrcUnderWay}

-- The least set that has in it each held object that no root word names and whose holders are all in the set.
-- The words of frame slots are root words too. An object of a cycle of garbage isn't in it.
pub data IsUnheld (s : Start) : ℕ → Type 0 where
  unheld : {place : ℕ} → IsHeld s.heap place → ((r : Root) → Contains s.roots r → r.word ≡ place → ⊥)
      → ((holder : ℕ) (o : HeapObject) → finite.get s.heap.content holder ≡ Some o → Contains (references Counting s.types o) place → IsUnheld s holder)
      → IsUnheld s place

-- Exactly the objects of the least set are gone, with their host values: each of the set is gone, and what was held
-- and is gone is of the set. The others are where and as they were, the counts are exact, shown is what frame slots
-- name, nothing is queued, and the memory has its size.
pub record UnheldGone (s : Start) (h : HeapView) (hosts : ℕ → Bool) : Type 0 where
  pub freed : (place : ℕ) → IsUnheld s place → finite.get h.content place ≡ None
  pub only : (place : ℕ) → IsHeld s.heap place → finite.get h.content place ≡ None → IsUnheld s place
  pub kept : (place : ℕ) → (IsUnheld s place → ⊥) → finite.get h.content place ≡ finite.get s.heap.content place
  pub hosts_lost : (place : ℕ) (o : HeapObject) → IsExternal s.heap place o → IsUnheld s place → hosts (host_id o) ≡ false
  pub hosts_kept : (id : ℕ) → ((place : ℕ) (o : HeapObject) → IsExternal s.heap place o → host_id o ≡ id → IsUnheld s place → ⊥)
      → hosts id ≡ s.hosts id
  pub counts : CountsAnew s.types h s.roots
  pub attached : h.attached ≡ true
  pub scopes : h.scopes ≡ 0
  pub capacity : h.capacity ≡ s.heap.capacity

-- A collection that began there has done n increments in this heap, and its state is at the phase behind them.
abbrev pub HasDone : Start → ℕ → DrcHeap → DrcCollection → List Root → List Declaration → (ℕ → Bool) → Type 0
HasDone s n h state roots types hosts = IsDrcUnderWay s n h state.phase roots types hosts
