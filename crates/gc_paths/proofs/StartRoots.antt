-- The root words from which walks begin, and that the objects which they name are told.
use Rattle.std.specs.Prelude.{◌≡◌, ℕ, Bool, true, false, List, [], ◌∷◌, ◌++◌, Some, map, slice_get}
use Rattle.gc_owner.specs.declared.entry.RootEntry.{RootEntry}
use Rattle.gc_model.specs.Stores.{StoreView}
use Rattle.gc_store.specs.declared.root_words.RootName.TheVariants as name
use Rattle.gc_store.specs.declared.root_words.RootWord.{RootWord}
use Rattle.gc_store.specs.RootWords.{with_numbers, root_word, global_root_word, slot_roots, owned_root_word, scoped_root_word}
use Rattle.gc_paths.specs.Progress.{Basis, TellsRoot}
use Rattle.gc_paths.specs.Reports.{Told}

-- the words of the scoped roots, where they are asked for
abbrev pub scoped_words : Bool → List RootEntry → List RootWord
scoped_words false entries = []
scoped_words true entries = with_numbers scoped_root_word 0 entries

-- the words of the roots from which walks begin
abbrev pub start_words : {D : Type 0} → Bool → StoreView D → List RootWord
start_words scoped s =
    with_numbers global_root_word 0 s.globals
    ++ (root_word name.Pending s.pending ∷ (slot_roots 0 s.frames ++ (map owned_root_word s.owned ++ scoped_words scoped s.scoped)))

-- the objects that root words name are told
abbrev pub TellsRoots : {D : Type 0} → Basis D → List RootWord → List Told → Type 0
TellsRoots b words told = (i : ℕ) (w : RootWord) → slice_get words i ≡ Some w → TellsRoot b w told
