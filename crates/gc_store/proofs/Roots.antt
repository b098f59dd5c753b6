-- What a root's word tells of the table.
use Rattle.std.proofs.Common.{◌≡◌, ℕ, ◌%◌, ◌<◌, List, Option, Some, None, IsSome, sym, ap, ◌∙◌, refl, subst, arith}
use Rattle.std.specs.Option.{SomeIff, MatchOption}
use Rattle.std.specs.FinMap as map
use Rattle.gc_types.specs.declared.kind.Layouts.{Layouts}
use Rattle.gc_types.specs.declared.kind.VMGcKind.{VMGcKind}
use Rattle.gc_types.specs.Declarations.{Declaration}
use Rattle.gc_refs.specs.Words.{i31_word, IsHeapWord}
use Rattle.gc_model.specs.Values.{Reference, null, small, at, Object, struct, array, host, exception}
use Rattle.gc_model.specs.Table.{Table}
use Rattle.gc_view.specs.Heaps.{HeapObject}
use Rattle.gc_model.specs.Stores.{StoreView}
use Rattle.gc_model.specs.Forms.{Names as Naming, naming}
use Rattle.gc_model.specs.Holds.{Placing, IsWord, Holds, Stands}
use Rattle.gc_values.specs.declared.root.RootedObject.{RootedObject}
use Rattle.gc_values.specs.declared.root.RootedObject.TheVariants as rooted_object
use Rattle.gc_store.specs.Roots.{IsReference, IsObject}
use Rattle.gc_values.specs.Described.{IsOfKindAs, TellsHeld}

-- What a held object is, as the table has it
stands_object : {D : Type 0} (layouts : Layouts) (types : List Declaration) (names : Naming) (entry : Object D) (h : HeapObject) (answer : RootedObject) → Stands layouts types names entry h → IsOfKindAs h.kind h answer → IsObject (Some entry) answer
stands_object layouts types names (struct ty values) h answer stands is = subst (λ (k : VMGcKind). IsOfKindAs k h answer) stands.kind is ∙ ap rooted_object.Struct stands.stands.same_type
stands_object layouts types names (array ty values) h answer stands is =
    subst (λ (k : VMGcKind). IsOfKindAs k h answer) stands.kind is ∙ (λ i. rooted_object.Array (stands.stands.same_type i) (stands.elements i))
stands_object layouts types names (host value) h answer stands is = subst (λ (k : VMGcKind). IsOfKindAs k h answer) stands.1.kind is
stands_object layouts types names (exception ty tag values) h answer stands is =
    subst (λ (k : VMGcKind). IsOfKindAs k h answer) stands.kind is ∙ (λ i. rooted_object.Exn (stands.stands.same_type i) (record { instance = stands.instance i; index = stands.index i }))

-- an odd word is that of a small number
pub describes_small : {D : Type 0} (layouts : Layouts) (s : StoreView D) (t : Table D) (place : Placing) (r : Reference) (word number : ℕ) → Holds layouts s t place → IsWord place r word → word ≡ i31_word number → IsReference t r (rooted_object.I31 number)
describes_small layouts s t place null word number holds is odd = absurd (omega (arith, is, odd))
describes_small layouts s t place (small n) word number holds is odd = ap rooted_object.I31 (omega (arith, is, odd))
describes_small layouts s t place (at p) word number holds is odd =
    let held = holds.objects.placed p word is in
    absurd (omega (arith, odd, (holds.objects.even word held.object held.in_heap).0))

-- an even word is that of an object, which the heap tells
pub describes_object : {D : Type 0} (layouts : Layouts) (s : StoreView D) (t : Table D) (place : Placing) (r : Reference) (word : ℕ) (answer : RootedObject) → Holds layouts s t place → IsWord place r word → 0 < word → (word % 2 ≡ 1 → ⊥)
    → TellsHeld s.heap word answer → IsReference t r answer
describes_object layouts s t place null word answer holds is positive even tells = absurd (omega (arith, is))
describes_object layouts s t place (small n) word answer holds is positive even tells = absurd (even (omega (arith, is)))
describes_object layouts s t place (at p) word answer holds is positive even tells =
    let held = holds.objects.placed p word is in
    subst (λ o. IsObject o answer) (sym held.in_table) (stands_object layouts t.types (naming place s.ids) held.entry held.object answer held.stands (tells held.object held.in_heap))

-- there is an object at an even word of a root
pub held_object : {D : Type 0} (layouts : Layouts) (s : StoreView D) (t : Table D) (place : Placing) (r : Reference) (word : ℕ) → Holds layouts s t place → IsWord place r word → 0 < word → (word % 2 ≡ 1 → ⊥) → (object : HeapObject) × (map.get s.heap.content word ≡ Some object)
held_object layouts s t place null word holds is positive even = absurd (omega (arith, is))
held_object layouts s t place (small n) word holds is positive even = absurd (even (omega (arith, is)))
held_object layouts s t place (at p) word holds is positive even = let held = holds.objects.placed p word is in (held.object, held.in_heap)

-- the value of an option that is present exactly where P holds
pub SomeIff-value : (P : Type 0) (o : Option ℕ) (v x : ℕ) → SomeIff o P v → o ≡ Some x → x ≡ v
SomeIff-value P None v x h e = absurd (cc)
SomeIff-value P (Some y) v x h e = grind (arith, h.1, e)

-- a word that is no 31-bit number is even
pub is_even : (o : Option ℕ) (word : ℕ) → MatchOption o (IsHeapWord word) (λ n. word ≡ i31_word n) → ((n : ℕ) → o ≡ Some n → ⊥) → word % 2 ≡ 1 → ⊥
is_even None word even other odd = omega (arith, even, odd)
is_even (Some n) word number other odd = other n refl

pub SomeIff-some : (P : Type 0) (o : Option ℕ) (v : ℕ) → SomeIff o P v → P → IsSome o
SomeIff-some P None v h p = absurd (h p)
SomeIff-some P (Some y) v h p = refl

-- the same of a number that is above 0
pub SomeIff-positive : (o : Option ℕ) (v x : ℕ) → SomeIff o (0 < v) v → o ≡ Some x → 0 < v
SomeIff-positive None v x h e = absurd (cc)
SomeIff-positive (Some y) v x h e = h.0

pub SomeIff-zero : (o : Option ℕ) (v : ℕ) → SomeIff o (0 < v) v → o ≡ None → v ≡ 0
SomeIff-zero None v h e = omega (arith, h)
SomeIff-zero (Some y) v h e = absurd (cc)
