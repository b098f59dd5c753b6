-- Elements of arrays, and writes to fields.
use Rattle.std.proofs.Common.{◌≡◌, ℕ, zero, suc, ◌+◌, ◌-◌, ◌/◌, ◌%◌, ◌≤◌, ◌<◌, ◌⊎◌, inl, inr, List, ◌∷◌, Option, Some, None, refl, sym, ap, subst, ◌∙◌, Result, Ok, arith}
use Rattle.std.specs.List.{Contains}
use Rattle.std.proofs.lemmas.Bool.{cases_eq}
use Rattle.std.specs.Prelude.{SomeIff}
use Rattle.std.specs.FinMap.{get}
use Rattle.std.specs.Int.{w32}
use Rattle.gc_types.specs.declared.kind.Layouts.{Layouts}
use Rattle.gc_types.specs.declared.kind.VMGcKind.{VMGcKind}
use Rattle.gc_types.specs.declared.kind.VMGcKind.TheVariants.{ExternRef, AnyRef, EqRef, StructRef, ArrayRef, ExnRef}
use Rattle.gc_types.specs.Layouts.{struct_base, array_base}
use Rattle.gc_refs.specs.LittleEndian.{unsigned_at}
use Rattle.gc_refs.specs.Views.{IsInside, part_of, ReadsNumber}
use Rattle.gc_refs.specs.declared.fault.DataFault.{DataFault}
use Rattle.gc_view.specs.Heaps.{HeapObject, HeapView}
use Rattle.gc_memory.specs.Lists.{In, here, there}
use Rattle.gc_heap.specs.Objects.{HasFields, writable_offset, array_length, IsObjectData}
use Rattle.gc_heap.specs.References.{word_offsets, word_in}
use Rattle.gc_heap.specs.Content.{IsHeap, IsHeld}
use Rattle.gc_heap.specs.Access.{IsReadable, data_part}
use Rattle.gc_heap.proofs.AccessLemmas.{reads_data}
use Rattle.gc_heap.proofs.WrittenLemmas.{writable_from}
use Rattle.gc_memory.proofs.ListLemmas.{first_or_later, contains_in, in_contains}
use Rattle.test_mutator.specs.Fields.{HasWord, StepsTo, Leads, word_or_null}

element_in : (n from x : ℕ) → from ≤ x → (x - from) % 4 ≡ 0 → (x - from) / 4 < n → In x (word_offsets from n)
element_in zero from x low aligned below = absurd (omega arith)
element_in (suc n) from x low aligned below = elim (cases_eq x from) [
  | inl at ↦ subst (λ y. In y (from ∷ word_offsets (from + 4) n)) (sym at) here
  | inr ne ↦ let other : (x ≡ from → ⊥) = ne in there (element_in n (from + 4) x (omega arith) (omega arith) (omega arith))
]

-- an element lies there
pub has_element : (n from x : ℕ) → from ≤ x → (x - from) % 4 ≡ 0 → (x - from) / 4 < n → Contains (word_offsets from n) x
has_element n from x low aligned below = in_contains (word_offsets from n) x (element_in n from x low aligned below)

-- Where an element lies.
pub record IsElement (n from x : ℕ) : Type 0 where
  pub low : from ≤ x
  pub aligned : (x - from) % 4 ≡ 0
  pub below : (x - from) / 4 < n

element_at : (n from x : ℕ) → In x (word_offsets from n) → IsElement n from x
element_at zero from x i = elim i [ ]
element_at (suc n) from x i = elim (first_or_later from x (word_offsets (from + 4) n) i) [
  | inl first ↦ record { low = omega arith; aligned = omega arith; below = omega arith }
  | inr later ↦
      let rest = element_at n (from + 4) x later in
      let low = rest.low in
      let aligned = rest.aligned in
      let below = rest.below in
      record { low = omega arith; aligned = omega arith; below = omega arith }
]

pub element_lies : (n from x : ℕ) → Contains (word_offsets from n) x → IsElement n from x
element_lies n from x has = element_at n from x (contains_in (word_offsets from n) x has)

-- the word in front of an array's elements can be read where a later one can
pub length_readable : (layouts : Layouts) (h : HeapView) (place : ℕ) (o : HeapObject) (offset : ℕ) (kind : Layouts) (base : ℕ) → get h.content place ≡ Some o → HasWord layouts o offset → kind ≡ layouts → base ≡ struct_base kind → IsReadable layouts h place base 4
length_readable layouts h place o offset kind base held word is base_is =
    let base_of : base ≡ struct_base layouts = base_is ∙ ap struct_base is in
    let least = writable_from layouts o.kind word.fields in
    let from = word.from in
    let to = word.to in
    record { object = o; held = held; has_fields = word.fields; from = omega arith; to = omega arith }

-- and is its length
pub length_read : (layouts : Layouts) (o : HeapObject) (kind : Layouts) (base number : ℕ) → kind ≡ layouts → base ≡ struct_base kind → number ≡ unsigned_at w32 (data_part layouts o base 4) → array_length o ≡ number
length_read layouts o kind base number is base_is read =
    let first : base - struct_base layouts ≡ 0 = let base_of : base ≡ struct_base layouts = base_is ∙ ap struct_base is in omega arith in
    sym (read ∙ ap (λ n. unsigned_at w32 (part_of o.bytes n 4)) first)

-- a word that may be written can be read
pub word_readable : (layouts : Layouts) (h : HeapView) (place : ℕ) (o : HeapObject) (offset : ℕ) → get h.content place ≡ Some o → HasWord layouts o offset → IsReadable layouts h place offset 4
word_readable layouts h place o offset held word =
    let least = writable_from layouts o.kind word.fields in
    let from = word.from in
    record { object = o; held = held; has_fields = word.fields; from = omega arith; to = word.to }

-- a kind that is none of the three that have fields
pub no_fields : (kind : VMGcKind) → (kind ≡ StructRef → ⊥) → (kind ≡ ExnRef → ⊥) → (kind ≡ ArrayRef → ⊥) → HasFields kind → ⊥
no_fields ExternRef struct exn array fields = fields
no_fields AnyRef struct exn array fields = fields
no_fields EqRef struct exn array fields = fields
no_fields StructRef struct exn array fields = struct refl
no_fields ArrayRef struct exn array fields = array refl
no_fields ExnRef struct exn array fields = exn refl

-- where the part of a struct, an array or an exception begins that its holder may write
pub struct_from : (layouts kind : Layouts) (own : VMGcKind) (n : ℕ) → (own ≡ StructRef) ⊎ (own ≡ ExnRef) → kind ≡ layouts → n ≡ struct_base kind → HasFields own × (writable_offset layouts own ≡ n)
struct_from layouts kind own n (inl is) same base = subst (λ k. HasFields k × (writable_offset layouts k ≡ n)) (sym is) (tt, sym (base ∙ ap struct_base same))
struct_from layouts kind own n (inr is) same base = subst (λ k. HasFields k × (writable_offset layouts k ≡ n)) (sym is) (tt, sym (base ∙ ap struct_base same))

pub array_from : (layouts kind : Layouts) (own : VMGcKind) (n : ℕ) → own ≡ ArrayRef → kind ≡ layouts → n ≡ array_base kind → HasFields own × (writable_offset layouts own ≡ n)
array_from layouts kind own n is same base = subst (λ k. HasFields k × (writable_offset layouts k ≡ n)) (sym is) (tt, sym (base ∙ ap array_base same))

-- a 31-bit number names no object
pub number_names_none : (layouts : Layouts) (h : HeapView) (word : ℕ) → IsHeap layouts h → word % 2 ≡ 1 → IsHeld h word → ⊥
number_names_none layouts h word heap odd held =
    let aligned : word % 16 ≡ 0 = (heap.objects word held.0 held.1).aligned in
    omega arith

-- the word that lies at an offset of a held object, if it isn't null
pub word_at : (layouts : Layouts) (h : HeapView) (place offset : ℕ) (o : HeapObject) (bytes : List ℕ) (read : Result ℕ DataFault) (number : ℕ) (made : Option ℕ) → get h.content place ≡ Some o → HasWord layouts o offset
    → IsObjectData layouts o bytes → ReadsNumber 4 (unsigned_at w32) 0 bytes offset read → read ≡ Ok number → SomeIff made (0 < number) number → SomeIff made (HasWord layouts o offset × (0 < word_in layouts o offset)) (word_in layouts o offset)
word_at layouts h place offset o bytes read number made held lies told reads is gives =
    let same : number ≡ word_in layouts o offset = reads_data (unsigned_at w32) layouts h place offset 4 bytes read number (word_readable layouts h place o offset held lies) (λ o' held'. subst (λ (x : HeapObject). IsObjectData layouts x bytes) (some_is o o' (sym held ∙ held')) told) reads is o held in
    by_made made (subst (λ n. SomeIff made (0 < n) n) same gives)
  where
    some_is : (a b : HeapObject) → Some a ≡ Some b → a ≡ b
    some_is a b e = cc

    by_made : (made : Option ℕ) → SomeIff made (0 < word_in layouts o offset) (word_in layouts o offset) → SomeIff made (HasWord layouts o offset × (0 < word_in layouts o offset)) (word_in layouts o offset)
    by_made None none = λ both. none both.1
    by_made (Some w) some = ((lies, some.0), some.1)

-- where a word that lies inside isn't read
pub word_inside : (layouts : Layouts) (o : HeapObject) (bytes : List ℕ) (offset : ℕ) → HasWord layouts o offset → IsObjectData layouts o bytes → IsInside 0 bytes offset 4
word_inside layouts o bytes offset lies told = let to = lies.to in let size = told.size in (omega arith, omega arith)

module _ (layouts : Layouts) (h : HeapView) (from offset : ℕ) (path : List ℕ) (to : Option ℕ) (made : Option ℕ) (held : (o : HeapObject) → get h.content from ≡ Some o → SomeIff made (HasWord layouts o offset × (0 < word_in layouts o offset)) (word_in layouts o offset))
    (number : from % 2 ≡ 1 → made ≡ None) where
  -- where a path leads from the next word, it leads from this one
  pub leads_on : (next : ℕ) → made ≡ Some next → Leads layouts h next path to → Leads layouts h from (offset ∷ path) to
  leads_on next is leads = (λ next' step. subst (λ w. Leads layouts h w path to) (same next' step) leads, λ known none. absurd (stuck known none))
    where
      read : (o : HeapObject) → get h.content from ≡ Some o → (HasWord layouts o offset × (0 < word_in layouts o offset)) × (next ≡ word_in layouts o offset)
      read o is_held = subst (λ m. SomeIff m (HasWord layouts o offset × (0 < word_in layouts o offset)) (word_in layouts o offset)) is (held o is_held)

      same : (next' : ℕ) → StepsTo layouts h from offset next' → next ≡ next'
      same next' step = (read step.object step.held).1 ∙ sym step.is

      stuck : (from % 2 ≡ 1) ⊎ IsHeld h from → ((next' : ℕ) → StepsTo layouts h from offset next' → ⊥) → ⊥
      stuck (inl odd) none = let nothing : made ≡ None = number odd in absurd (cc)
      stuck (inr o) none =
          let found = read o.0 o.1 in
          none next (record { object = o.0; held = o.1; lies = found.0.0; present = subst (λ n. 0 < n) (sym found.1) found.0.1; is = found.1 })

  -- and it leads nowhere where there is no next word
  pub leads_nowhere : made ≡ None → Leads layouts h from (offset ∷ path) None
  leads_nowhere is = (λ next step. absurd (subst (λ m. SomeIff m (HasWord layouts step.object offset × (0 < word_in layouts step.object offset)) (word_in layouts step.object offset)) is (held step.object step.held) (step.lies, subst (λ n. 0 < n) step.is step.present)), λ known none. refl)

-- the word that a slot stands for
pub slot_of_raw : (made : Option ℕ) (word : ℕ) → SomeIff made (0 < word) word → word_or_null made ≡ word
slot_of_raw None word gives = let none : (0 < word → ⊥) = gives in omega arith
slot_of_raw (Some held) word gives = gives.1
