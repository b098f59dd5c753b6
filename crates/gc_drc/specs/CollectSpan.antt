-- A whole collection in memory: how it begins, and how it ends.
use Rattle.std.specs.Prelude.{◌≡◌, ℕ, ◌+◌, ◌-◌, Bool, true, false, List, [], length}
use Rattle.gc_types.specs.Declarations.{Declaration}
use Rattle.gc_types.specs.declared.kind.VMGcKind.TheVariants.{ExternRef}
use Rattle.gc_roots.specs.Roots.{Root}
use Rattle.gc_memory.specs.Lists.{In, occ}
use Rattle.gc_heap.specs.Collection.{held_words, stack_words}
use Rattle.gc_drc.specs.declared.space.CountedSpace.{CountedSpace}
use Rattle.gc_drc.specs.Layout.{counting_kind_at}
use Rattle.gc_drc.specs.View.{View, HoldsBlocks}
use Rattle.gc_drc.specs.Graph.{names}
use Rattle.gc_drc.specs.CollectStates.{Done}
use Rattle.gc_drc.specs.CollectMemory.{Context, SameObject, At}
use Rattle.gc_drc.specs.CollectHosts.{counting_host_word}

-- The words of its roots are those of these roots, and its types are these.
pub record IsContextOf (c : Context) (roots : List Root) (types : List Declaration) : Type 0 where
  pub roots_are : c.graph.roots ≡ held_words roots
  pub frames_are : c.graph.frames ≡ stack_words roots
  pub types_are : c.types ≡ types

-- A collection begins: all objects of the start are held, the counts are the names, what frame slots name is
-- shown, and nothing is marked. Objects may be queued.
pub record Begins (c : Context) (v : View) (s : CountedSpace) : Type 0 where
  pub at : At c v s
  pub all_held : v.places ≡ c.graph.places
  pub counts : (x : ℕ) → In x v.places → v.counted x ≡ names c.graph v.places x + occ x c.graph.roots
  pub frames_shown : (x : ℕ) → In x v.places → In x c.graph.frames → In x v.shown
  pub unmarked : v.marked ≡ []

-- Where these places of a start are still held, by the ids that have a host value: those of the other external
-- objects have none, and no other id changed.
pub record HostsGone (c : Context) (places : List ℕ) (before now : ℕ → Bool) : Type 0 where
  pub lost : (p : ℕ) → In p c.graph.places → counting_kind_at c.memory p ≡ ExternRef → (In p places → ⊥) → now (counting_host_word c.memory p - 1) ≡ false
  pub kept : (id : ℕ) → ((p : ℕ) → In p c.graph.places → counting_kind_at c.memory p ≡ ExternRef → counting_host_word c.memory p ≡ id + 1 → In p places) → now id ≡ before id
  pub part : (id : ℕ) → now id ≡ true → before id ≡ true

-- A collection is complete: held is what is reached, as it was but for the heap's own words; the counts are the
-- names, shown is what frame slots name, and nothing is queued or marked.
pub record Ends (c : Context) (v : View) (s : CountedSpace) (before now : ℕ → Bool) : Type 0 where
  pub holds : HoldsBlocks v s
  pub same_length : length s.memory ≡ length c.memory
  pub intact : (p : ℕ) → In p v.places → SameObject c.memory s.memory p
  pub done : Done c.graph v
  pub unmarked : v.marked ≡ []
  pub unqueued : v.queue ≡ []
  pub hosts : HostsGone c v.places before now
