-- What the end of a scope and a trim drop, and from which roots a collection may begin while they do.
use Rattle.std.specs.Prelude.{◌≡◌, ℕ, ◌<◌, ◌≤◌, ◌==◌, if◌then◌else◌, Bool, List, [], ◌∷◌, ◌++◌, length, Option, Some, None}
use Rattle.gc_types.specs.declared.kind.Layouts.{Layouts}
use Rattle.gc_types.specs.Declarations.{Declaration}
use Rattle.gc_view.specs.Heaps.{HeapView}
use Rattle.gc_owner.specs.declared.entry.RootEntry.{RootEntry}
use Rattle.gc_owner.specs.declared.entry.OwnedEntry.{OwnedEntry}
use Rattle.gc_owner.specs.RootColumns.{RootsView, roots_of}
use Rattle.gc_owner.specs.Owners.{lowered}
use Rattle.gc_owner.specs.Tracing.{IsCollectable}

-- the newest scoped root, which was one past so many, was taken off
pub record PopsOne (mark : ℕ) (old new : RootsView) (word : ℕ) : Type 0 where
  pub past : mark < length old.scoped
  pub entry : RootEntry
  pub scoped : old.scoped ≡ new.scoped ++ entry ∷ []
  pub word_is : entry.word ≡ word
  pub rest : new ≡ record old { scoped = new.scoped }

-- what taking the newest scoped root past so many answers and leaves
abbrev pub PopsPast : ℕ → RootsView → RootsView → Option ℕ → Type 0
PopsPast mark old new (Some word) = PopsOne mark old new word
PopsPast mark old new None = (length old.scoped ≤ mark) × (new ≡ old)

-- a collection may begin from these roots, by some types and host values
pub record CanDropRoots (layouts : Layouts) (h : HeapView) (r : RootsView) : Type 0 where
  pub types : List Declaration
  pub hosts : ℕ → Bool
  pub collectable : IsCollectable layouts types h (roots_of r) hosts

-- the heap after the word of an owned root was given up, if that has no handles
abbrev pub released : HeapView → OwnedEntry → HeapView
released h entry = if entry.handles == 0 then lowered h entry.word else h
