use Rattle.std.proofs.Common.{◌≡◌, ℕ, ◌%◌, refl, arith}
use Rattle.gc_types.specs.declared.kind.Layouts.{Layouts}
use Rattle.gc_model.specs.Holds.{Holds, Placing, IsWord}
use Rattle.gc_model.specs.Stores.{StoreView}
use Rattle.gc_model.specs.Table.{Table}
use Rattle.gc_model.specs.Values.{Reference, null, small, at}
use Rattle.gc_model.proofs.Words.{place_even}
use Rattle.gc_values.specs.declared.root.GcRootIndex.{GcRootIndex}
use Rattle.gc_store.specs.Roots.{NamesReference}
use Rattle.gc_store.proofs.HandleWords.{named_held}
use Rattle.gc_paths.specs.declared.entry.PathParent.{PathParent}
use Rattle.gc_paths.specs.Parts.{Parts, Adds}
use Rattle.gc_paths.specs.Taking.{path_entry, TakesObject}
use Rattle.gc_paths.proofs.taking.take.Goals as goal

module _ {D : Type 0} (layouts : Layouts) (s : StoreView D) (t : Table D) (place : Placing) (holds : Holds layouts s t place) (handle : GcRootIndex) (parent : PathParent) (length : ℕ) where
  -- an odd word is no object's
  odd_taken : (r : Reference) (word : ℕ) (p : Parts) → IsWord place r word → word % 2 ≡ 1 → TakesObject place r handle parent length p p
  odd_taken null word p is odd = absurd (omega (arith, is, odd))
  odd_taken (small n) word p is odd = record { entries = refl; handles = refl; knows = λ w. refl }
  odd_taken (at q) word p is odd = let even = (place_even layouts t place s.heap holds.objects q word is).0 in absurd (omega (arith, even, odd))

  -- any other is an object's
  even_taken : (r : Reference) (word : ℕ) (old new : Parts) → NamesReference s t handle r → IsWord place r word → (word % 2 ≡ 1 → ⊥) → Adds old new (path_entry word parent length) handle → TakesObject place r handle parent length old new
  even_taken null word old new named is even adds =
      let held = named_held layouts s t place holds handle null named in
      let zero_is = held.1.0 in
      let some = held.1.1 in
      absurd (omega (arith, zero_is, some))
  even_taken (small n) word old new named is even adds = absurd (even (omega (arith, is)))
  even_taken (at q) word old new named is even adds = (word, (is, adds))

pub unreachable-requires : goal.unreachable-requires
unreachable-requires g c = c.in-Err.ensures.live c.requires.table c.requires.holds.0 c.requires.root c.requires.holds.1 c.requires.named

pub returns-then-word-eq1 : goal.returns-then-word-eq1
returns-then-word-eq1 g c t place r holds named =
    odd_taken g.H.GcHeap.KIND c.args.store.now t place holds c.args.handle c.args.parent c.args.length r c.in-Ok.word _ (c.in-Ok.ensures.live t place r holds named) c.if-word-eq1.true

pub returns-in-Ok-add : goal.returns-in-Ok-add
returns-in-Ok-add g c t place r holds named =
    even_taken g.H.GcHeap.KIND c.args.store.now t place holds c.args.handle c.args.parent c.args.length r c.in-Ok.word _ _ named (c.in-Ok.ensures.live t place r holds named) c.if-word-eq1.false c.in-Ok-add.ensures
