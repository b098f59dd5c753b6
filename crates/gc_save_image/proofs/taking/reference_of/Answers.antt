use Rattle.std.proofs.Common.{◌≡◌, ℕ, ◌+◌, ◌*◌, ◌%◌, ◌/◌, ◌<◌, ◌^◌, refl, ap, arith, rules}
use Rattle.gc_types.specs.declared.kind.Layouts.{Layouts}
use Rattle.gc_model.specs.Holds.{Holds, Placing, IsWord}
use Rattle.gc_model.specs.Stores.{StoreView}
use Rattle.gc_model.specs.Table.{Table}
use Rattle.gc_model.specs.Values.{Reference, null, small, at}
use Rattle.gc_model.proofs.Words.{place_even}
use Rattle.gc_values.specs.declared.root.GcRootIndex.{GcRootIndex}
use Rattle.gc_store.specs.Roots.{NamesReference}
use Rattle.gc_store.proofs.HandleWords.{named_held}
use Rattle.gc_image.specs.declared.image.ImageReference.TheVariants as image_reference
use Rattle.gc_save_image.specs.Parts.{FoundHandles, NumbersObject}
use Rattle.gc_save_image.specs.Steps.{MakesImageReference}
use Rattle.gc_save_image.proofs.taking.reference_of.Goals as goal

module _ {D : Type 0} (layouts : Layouts) (s : StoreView D) (t : Table D) (place : Placing) (holds : Holds layouts s t place) (handle : GcRootIndex) where
  half_is : (n word : ℕ) → word ≡ 2 * n + 1 → word / 2 ≡ n
  half_is n word is = omega (arith, is)

  -- an odd word is no object's
  odd_taken : (r : Reference) (word : ℕ) (f : FoundHandles) → IsWord place r word → word < 2 ^ 32 → word % 2 ≡ 1 → MakesImageReference place r handle f f (image_reference.Small (word / 2))
  odd_taken null word f is fits odd = absurd (omega (arith, is, odd))
  odd_taken (small n) word f is fits odd = (ap image_reference.Small (half_is n word is), omega (arith, is, fits), record { handles = refl; number = λ w. refl })
  odd_taken (at q) word f is fits odd = let even = (place_even layouts t place s.heap holds.objects q word is).0 in absurd (omega (arith, even, odd))

  -- any other is an object's
  even_taken : (r : Reference) (word number : ℕ) (old new : FoundHandles) → NamesReference s t handle r → IsWord place r word → number < 2 ^ 64 → (word % 2 ≡ 1 → ⊥) → NumbersObject old new word handle number
      → MakesImageReference place r handle old new (image_reference.Object number)
  even_taken null word number old new named is fits even numbers =
      let held = named_held layouts s t place holds handle null named in
      let zero_is = held.1.0 in
      let some = held.1.1 in
      absurd (omega (arith, zero_is, some))
  even_taken (small n) word number old new named is fits even numbers = absurd (even (omega (arith, is)))
  even_taken (at q) word number old new named is fits even numbers = (word, number, (is, fits, refl, numbers))

pub unreachable-requires : goal.unreachable-requires
unreachable-requires g c = c.in-Err.ensures.live c.requires.table c.requires.holds.0 c.requires.root c.requires.holds.1 c.requires.named

pub returns-then-word-eq1 : goal.returns-then-word-eq1
returns-then-word-eq1 g c t place r holds named =
    let fits : c.in-Ok.word < 2 ^ 32 = search rules in
    odd_taken g.H.GcHeap.KIND c.args.store.now t place holds c.args.handle r c.in-Ok.word _ (c.in-Ok.ensures.live t place r holds named) fits c.if-word-eq1.true

pub returns-in-Ok-number : goal.returns-in-Ok-number
returns-in-Ok-number g c t place r holds named =
    let fits : c.in-Ok-number.number < 2 ^ 64 = search rules in
    even_taken g.H.GcHeap.KIND c.args.store.now t place holds c.args.handle r c.in-Ok.word c.in-Ok-number.number _ _ named (c.in-Ok.ensures.live t place r holds named) fits c.if-word-eq1.false c.in-Ok-number.ensures
