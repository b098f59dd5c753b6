-- What a list of roots ends as, where its roots are lent.
use Rattle.std.specs.Prelude.{◌≡◌, List}
use Rattle.std.specs.Borrow.{follows, Fml, MutBor, Array}
use Rattle.std.specs.Slice.Iter.{iter_rest, iter_mut_rest, iter_mut_name}
use Rattle.gc_refs.specs.contracts.word.VMGcRef as word
use Rattle.gc_roots.specs.declared.entry.GcRoot.{GcRoot}
use Rattle.gc_roots.specs.declared.iter.GcRootsIter.{GcRootsIter}
use Rattle.gc_roots.specs.Columns.{root_of, paired_roots}
use Rattle.gc_roots.specs.Roots.{Root, Roots, with_words}
use Rattle.gc_roots.specs.contracts.list.GcRootsList.{the_row}

-- the root as it stands behind what lends it
abbrev pub lent_root : GcRoot → Root
lent_root root = root_of root.origin root.word.now

-- both lend the same root of a list
abbrev pub IsSameLoan : GcRoot → GcRoot → Type 0
IsSameLoan old new = new.word.ghost_name ≡ old.word.ghost_name

-- the roots that are left to an iterator
abbrev pub rest_of : GcRootsIter → List Root
rest_of it = paired_roots (iter_rest it.origins) (iter_mut_rest it.words)

-- once the borrow of the iterator ends, the list has the words as they were left, and is else as before
abbrev pub lends_words : MutBor Roots → GcRootsIter → Fml
lends_words list it = follows the_row (Array word.the_row 0) list.ghost_name (iter_mut_name it.words) (λ words. record {
  roots = with_words list.now.roots words;
  spare = list.now.spare;
})
