-- Steps by which tests make a graph leave a heap in which a collection may begin.
use Rattle.std.proofs.Common.{◌≡◌, ℕ, ◌+◌, ◌%◌, ◌<◌, ◌≤◌, ◌^◌, ◌⊎◌, inl, inr, Bool, false, List, [], ◌∷◌, ◌++◌, length, Some, Contains, slice_index_or, slice_set, sym, ap, subst, ◌∙◌, arith}
use Rattle.std.specs.Int.{w32, to_le_bytes}
use Rattle.std.specs.FinMap.{get}
use Rattle.std.proofs.lemmas.Bool.{cases_eq}
use Rattle.std.proofs.lemmas.List.{length-set, get_or-set_same, get_or-set_other}
use Rattle.gc_types.specs.declared.kind.Layouts.{Layouts}
use Rattle.gc_types.specs.declared.kind.Layouts.TheVariants.{Copying, Counting}
use Rattle.gc_types.specs.declared.kind.VMGcKind.TheVariants.{StructRef, ExternRef}
use Rattle.gc_types.specs.Declarations.{Declaration}
use Rattle.gc_refs.specs.Trace.{form_unit, form_of}
use Rattle.std.proofs.lemmas.List.Elements.{Contains-get_or}
use Rattle.gc_roots.specs.Roots.{Root, no_root, root, root_at, with_word, with_word_at}
use Rattle.gc_view.specs.Heaps.{HeapObject, HeapView}
use Rattle.gc_heap.specs.Objects.{zeroed, held_size, writable_offset, HasFields}
use Rattle.gc_heap.specs.Content.{IsHeld, IsHeap}
use Rattle.gc_heap.specs.Heap.{AddsObject, put_object, with_data}
use Rattle.gc_heap.specs.Collection.{CanCollect, IsWordOf}
use Rattle.gc_heap.proofs.AddedLemmas.{start, IsBlank, owns_none, blank_traced}
use Rattle.gc_heap.proofs.MadeLemmas.{can_collect_made}
use Rattle.gc_heap.proofs.RootedLemmas.{can_collect_any_roots}
use Rattle.gc_heap.proofs.StoredLemmas.{can_collect_word}
use Rattle.gc_heap.proofs.WrittenLemmas.{fits_data}

not_counting : (layouts : Layouts) → layouts ≡ Copying → layouts ≡ Counting → ⊥
not_counting layouts is counting = let both : Copying ≡ Counting = sym is ∙ counting in absurd (cc)

struct_is : StructRef ≡ ExternRef → ⊥
struct_is e = cc

struct_blank : (layouts : Layouts) (types : List Declaration) (ty spare bitmap size : ℕ) → layouts ≡ Copying → spare ≡ bitmap → bitmap < form_unit → IsBlank layouts types (zeroed layouts StructRef ty spare size)
struct_blank layouts types ty spare bitmap size is bits small =
    let form : form_of spare ≡ 2 → ⊥ = λ e. absurd (omega arith) in
    subst (λ l. IsBlank l types (zeroed l StructRef ty spare size)) (sym is) (blank_traced types StructRef ty spare size form)

-- a struct was made and rooted
pub struct_added : (layouts : Layouts) (types : List Declaration) (old new : HeapView) (roots roots' : List Root) (hosts : ℕ → Bool) (place ty spare bitmap size : ℕ) → layouts ≡ Copying → IsHeap layouts old
    → AddsObject layouts old new place (zeroed layouts StructRef ty spare size) size → spare ≡ bitmap → bitmap < form_unit → roots' ≡ roots ++ root 0 false place ∷ []
    → CanCollect layouts (start old roots types hosts) → CanCollect layouts (start new roots' types hosts)
struct_added layouts types old new roots roots' hosts place ty spare bitmap size is heap added bits small rooted can =
    subst (λ rs. CanCollect layouts (start new rs types hosts)) (sym rooted)
    (can_collect_made layouts types old new roots 0 place (zeroed layouts StructRef ty spare size) size hosts added heap can (struct_blank layouts types ty spare bitmap size is bits small) (owns_none hosts old (zeroed layouts StructRef ty spare size) struct_is))

-- a word was written
pub word_put : (layouts : Layouts) (types : List Declaration) (old new : HeapView) (roots : List Root) (hosts : ℕ → Bool) (place : ℕ) (o : HeapObject) (first offset size word : ℕ) → layouts ≡ Copying → IsHeap layouts old
    → get old.content place ≡ Some o → HasFields o.kind → writable_offset Copying o.kind ≡ first → offset % 4 ≡ 0 → first ≤ offset → offset + 4 ≤ size → size ≡ held_size layouts o → word < 2 ^ 32 → IsWordOf old word
    → new ≡ put_object old place (with_data layouts o offset (to_le_bytes w32 word)) → CanCollect layouts (start old roots types hosts) → CanCollect layouts (start new roots types hosts)
word_put layouts types old new roots hosts place o first offset size word is heap held fields writable aligned from to size_is small word_is written can =
    let from_writable : writable_offset layouts o.kind ≤ offset = subst (λ l. writable_offset l o.kind ≤ offset) (sym is) (omega arith) in
    subst (λ (h : HeapView). CanCollect layouts (start h roots types hosts)) (sym written)
    (can_collect_word layouts types old place o offset word roots hosts (not_counting layouts is) (record { heap = heap; held = held; fits = fits_data layouts o offset (to_le_bytes w32 word) fields from_writable (omega arith) }) small aligned word_is can)

contains_set : (xs : List Root) (i : ℕ) (r x : Root) → Contains (slice_set xs i r) x → (r ≡ x) ⊎ Contains xs x
contains_set xs i r x h = elim (cases_eq h.0 i) [
  | inl at ↦ inl (sym (get_or-set_same xs i r x (omega (arith, h.1, length-set xs i r))) ∙ ap (λ k. slice_index_or (slice_set xs i r) k x) (sym at) ∙ h.2)
  | inr ne ↦ inr (h.0, (let below = h.1 in omega (arith, length-set xs i r)), sym (get_or-set_other xs i h.0 r x ne) ∙ h.2)
]

-- a root got another word
pub word_set : (layouts : Layouts) (types : List Declaration) (h : HeapView) (roots roots' : List Root) (hosts : ℕ → Bool) (index word : ℕ) → layouts ≡ Copying → IsWordOf h word → roots' ≡ with_word_at roots index word
    → CanCollect layouts (start h roots types hosts) → CanCollect layouts (start h roots' types hosts)
word_set layouts types h roots roots' hosts index word is word_is set can =
    subst (λ rs. CanCollect layouts (start h rs types hosts)) (sym set)
    (can_collect_any_roots layouts types h roots (with_word_at roots index word) hosts (not_counting layouts is) can
    (λ x among. elim (contains_set roots index (with_word (root_at roots index) word) x among) [
      | inl same ↦ subst (λ (x : Root). IsWordOf h x.word) same word_is
      | inr other ↦ can.roots x other
    ]))

-- a root's word names an object where it is neither null nor a number
pub root_held : (layouts : Layouts) (types : List Declaration) (h : HeapView) (roots : List Root) (hosts : ℕ → Bool) (index : ℕ) → CanCollect layouts (start h roots types hosts) → index < length roots → 0 < (root_at roots index).word
    → ((root_at roots index).word % 2 ≡ 1 → ⊥) → IsHeld h (root_at roots index).word
root_held layouts types h roots hosts index can inside above even = elim (can.roots (root_at roots index) (Contains-get_or roots index no_root inside)) [
  | inl null ↦ absurd (omega arith)
  | inr other ↦ elim other [ inl odd ↦ absurd (even odd) | inr held ↦ held ]
]
