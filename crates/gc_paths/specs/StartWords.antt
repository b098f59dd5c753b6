-- The root words from which walks begin.
use Rattle.std.specs.Prelude.{ℕ, Bool, true, false, ◌&&◌, nat_lt, List, [], ◌∷◌, ◌++◌, map}
use Rattle.gc_owner.specs.declared.entry.RootEntry.{RootEntry}
use Rattle.gc_model.specs.Stores.{StoreView}
use Rattle.gc_store.specs.declared.root_words.RootName.{RootName}
use Rattle.gc_store.specs.declared.root_words.RootName.TheVariants as name
use Rattle.gc_store.specs.declared.root_words.RootWord.{RootWord}
use Rattle.gc_store.specs.RootWords.{with_numbers, root_word, global_root_word, slot_roots, owned_root_word, scoped_root_word}

-- whether walks begin from a root of that name, where so many scoped roots stand
abbrev pub is_start_name : Bool → ℕ → RootName → Bool
is_start_name scoped count (name.Global index) = true
is_start_name scoped count name.Pending = true
is_start_name scoped count (name.Slot frame slot) = true
is_start_name scoped count (name.Owned id) = true
is_start_name scoped count (name.Scoped index) = scoped && nat_lt index count
