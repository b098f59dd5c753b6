-- What tests of a word's object answer.
use Rattle.std.specs.Prelude.{◌≡◌, ◌↔◌, ℕ, ◌%◌, Bool, true, false, Some, Option, Result, IsTrue, MatchOption, MatchResult}
use Rattle.std.specs.FinMap as finite
use Rattle.gc_types.specs.declared.kind.Layouts.{Layouts}
use Rattle.gc_types.specs.declared.kind.VMGcKind.{VMGcKind}
use Rattle.gc_types.specs.declared.kind.VMGcKind.TheVariants.{AnyRef}
use Rattle.gc_types.specs.Kinds.{IsKindOf}
use Rattle.gc_refs.specs.Header.{Header}
use Rattle.gc_view.specs.Heaps.{HeapObject, HeapView}
use Rattle.gc_heap.specs.Objects.{IsHeaderOf}

-- The answer of a test of a word: of a 31-bit number it is this one, and of a held object it is true
-- exactly where its kind is such a kind. Of other words nothing is said.
pub record TellsKind (h : HeapView) (word : ℕ) (of_number : Bool) (is_such : VMGcKind → Type 0) (answer : Bool) : Type 0 where
  pub number : word % 2 ≡ 1 → answer ≡ of_number
  pub object : (o : HeapObject) → finite.get h.content word ≡ Some o → IsTrue answer ↔ is_such o.kind

-- objects of these kinds are any references, as 31-bit numbers are
abbrev pub IsAny : VMGcKind → Type 0
IsAny kind = IsKindOf kind AnyRef

-- The answer of a test of a word's header: of a 31-bit number it is false, and of a held object it is
-- what the test says of its header.
pub record TellsHeader (layouts : Layouts) (h : HeapView) (word : ℕ) (is_such : Header → Bool) (answer : Bool) : Type 0 where
  pub number : word % 2 ≡ 1 → answer ≡ false
  pub object : (o : HeapObject) → finite.get h.content word ≡ Some o → (header : Header) × (IsHeaderOf layouts o header × (answer ≡ is_such header))

-- the same word is answered exactly where a test is true
abbrev pub GivesWhere : (Bool → Type 0) → ℕ → Option ℕ → Type 0
GivesWhere Tells word answer = MatchOption answer (Tells false) (λ r. (r ≡ word) × Tells true)

-- the same word is answered exactly where a test is true, and else what was taken is handed back
abbrev pub TakesWhere : {S : Type 0} → (Bool → Type 0) → (S → ℕ) → S → Result ℕ S → Type 0
TakesWhere Tells word taken answer = MatchResult answer (λ r. (r ≡ word taken) × Tells true) (λ back. (back ≡ taken) × Tells false)
