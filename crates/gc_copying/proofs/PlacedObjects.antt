-- A new object, and the list of external objects with it.
use Rattle.std.proofs.Common.{◌≡◌, ℕ, ◌+◌, List}
use Rattle.std.proofs.Math.Logic.{◌⊎◌}
use Rattle.gc_types.specs.declared.kind.VMGcKind.TheVariants.{ExternRef}
use Rattle.gc_memory.specs.Words.{word}
use Rattle.gc_memory.specs.Changes.{Wrote}
use Rattle.gc_view.specs.Heaps.{HeapObject}
use Rattle.gc_copying.specs.Layout.{copying_size_at, copying_kind_at, copying_object_at}
use Rattle.gc_copying.specs.Content.{IsCopyingWhole}

-- a whole object was written at a place, and nothing else
pub record PutsObject (before after : List ℕ) (place : ℕ) (object : HeapObject) (size : ℕ) : Type 0 where
  pub around : Wrote before after place size
  pub size_is : copying_size_at after place ≡ size
  pub whole : IsCopyingWhole after place
  pub object_is : copying_object_at after place ≡ object

-- the head of the list of external objects after an object was made: it is the new one where that is
-- external, which is then linked to the old head
abbrev pub MovesHead : List ℕ → ℕ → ℕ → ℕ → Type 0
MovesHead after place old new =
    ((copying_kind_at after place ≡ ExternRef → ⊥) × (new ≡ old))
    ⊎ ((copying_kind_at after place ≡ ExternRef) × ((new ≡ place) × (word after (place + 20) ≡ old)))
