-- A collection may begin after a reference was written by its barrier, or a number to an object without references.
use Rattle.std.proofs.Common.{◌≡◌, ℕ, ◌+◌, ◌≤◌, ◌<◌, ◌^◌, ◌⊎◌, inl, inr, Bool, true, false, List, [], ◌∷◌, length, Option, Some, None, Contains, refl, sym, ap, ◌∙◌, subst, arith}
use Rattle.std.specs.Prelude.{◌↔◌, IfSome, IsTrue}
use Rattle.std.specs.Int.{w32, to_le_bytes}
use Rattle.std.specs.FinMap.{FinMap, get, get-empty}
use Rattle.std.specs.Ordering.{nat_cmp}
use Rattle.gc_types.specs.declared.kind.Layouts.{Layouts}
use Rattle.gc_types.specs.declared.kind.Layouts.TheVariants.{Null, Counting, Copying}
use Rattle.gc_types.specs.declared.kind.VMGcKind.{VMGcKind}
use Rattle.gc_types.specs.declared.kind.VMGcKind.TheVariants.{ExternRef, AnyRef, EqRef, StructRef, ArrayRef, ExnRef}
use Rattle.gc_types.specs.Declarations.{Declaration}
use Rattle.gc_types.specs.Layouts.{trace_at}
use Rattle.gc_roots.specs.Roots.{Root}
use Rattle.gc_memory.specs.Lists.{In, here, there}
use Rattle.gc_view.specs.Heaps.{HeapObject, HeapView, Counts, no_counts}
use Rattle.gc_types.specs.declared.layout.TraceInfo.{TraceInfo}
use Rattle.gc_types.specs.declared.layout.TraceInfo.TheVariants as trace
use Rattle.gc_refs.specs.Trace.{form_unit}
use Rattle.gc_heap.specs.Objects.{SpareIs}
use Rattle.gc_heap.specs.References.{reference_offsets, typed_offsets, info_offsets, traced_offsets, references, word_in}
use Rattle.gc_heap.specs.Content.{IsHeap, total}
use Rattle.gc_heap.specs.Heap.{IsWritable, with_data, put_object}
use Rattle.gc_heap.specs.Barriers.{CanUnname, CanUnnameSlot, raise, lower, copied, emptied, overwritten}
use Rattle.gc_heap.specs.Collection.{CanCollect, IsWordOf, names_of, occurrences}
use Rattle.gc_heap.proofs.TotalLemmas.{total-least}
use Rattle.gc_heap.proofs.AddedLemmas.{start}
use Rattle.gc_heap.proofs.CountLemmas.{occurrences-append, once}
use Rattle.gc_memory.proofs.ListLemmas.{contains_in, in_contains, map_in}
use Rattle.gc_heap.proofs.StoredLemmas.{IsSlotOf, IsWrite, can_collect_word, can_collect_stored, can_collect_number}
use Rattle.gc_heap.proofs.WrittenLemmas.{fits_data}
use Rattle.test_mutator.specs.Mutators.{MutatorView, word_at_root, source_word}
use Rattle.test_mutator.specs.Fields.{HasWord, HasReference, HasNumberWord, NamesNone, HasOnlyNumbers, word_or_null, WritesNumber, WritesReference}
use Rattle.test_mutator.proofs.MakeLemmas.{view}
use Rattle.gc_heap.proofs.NameLemmas.{is_named}

occurs : (word : ℕ) (words : List ℕ) → In word words → 0 < occurrences word words
occurs word [] i = elim i [ ]
occurs word (_ ∷ words) here = let both = occurrences-append word (word ∷ []) words in let one = once word in omega arith
occurs word (w ∷ words) (there i) = let both = occurrences-append word (w ∷ []) words in let later = occurs word words i in omega arith

-- a slot as the heap's lemmas name it
pub slot_is : (slot : Option ℕ) (word : ℕ) → word_or_null slot ≡ word → IfSome slot (λ w. 0 < w) → IsSlotOf slot word
slot_is None word is present = sym is
slot_is (Some held) word is present = (is, omega arith)

module _ (types : List Declaration) (h : HeapView) (roots : List Root) (hosts : ℕ → Bool) (place : ℕ) (o : HeapObject) (offset : ℕ) (heap : IsHeap Counting h) (can : CanCollect Counting (start h roots types hosts))
    (held : get h.content place ≡ Some o) (among : Contains (reference_offsets Counting types o) offset) where
  old_in : In (word_in Counting o offset) (references Counting types o)
  old_in = map_in (word_in Counting o) (reference_offsets Counting types o) offset (contains_in (reference_offsets Counting types o) offset among)

  -- a heap that counts may give up the word that a reference holds
  can_lower : (slot : Option ℕ) → word_or_null slot ≡ word_in Counting o offset → IfSome slot (λ w. 0 < w) → CanUnnameSlot h slot
  can_lower None is present = tt
  can_lower (Some held_word) is present =
      let word : ℕ = word_in Counting o offset in
      subst (CanUnname h) (sym is) (record {
        named = is_named h word (can.fields place o word held (in_contains (references Counting types o) word old_in)) (omega arith);
        counted = λ n counted.
            let names : n ≡ names_of Counting types h roots word = can.counts.counted word n counted in
            let count : HeapObject → ℕ = λ x. occurrences word (references Counting types x) in
            let least : count o ≤ total count h.content = total-least count h.content place o held in
            let one = occurs word (references Counting types o) old_in in
            omega arith;
      })

none_slot : (h : HeapView) (slot : Option ℕ) → slot ≡ None → CanUnnameSlot h slot
none_slot h slot none = subst (CanUnnameSlot h) (sym none) tt

null_other : Null ≡ Counting → ⊥
null_other e = cc

copying_other : Copying ≡ Counting → ⊥
copying_other e = cc

-- what is overwritten may be told to the heap
pub can_overwrite : (layouts : Layouts) (types : List Declaration) (h : HeapView) (roots : List Root) (hosts : ℕ → Bool) (place : ℕ) (o : HeapObject) (offset : ℕ) (slot : Option ℕ) → IsHeap layouts h → CanCollect layouts (start h roots types hosts)
    → get h.content place ≡ Some o → HasReference layouts types o offset → (layouts ≡ Counting → word_or_null slot ≡ word_in layouts o offset) → IfSome slot (λ w. 0 < w) → ((layouts ≡ Counting → ⊥) → slot ≡ None) → CanUnnameSlot h slot
can_overwrite Null types h roots hosts place o offset slot heap can held lies told present others = none_slot h slot (others null_other)
can_overwrite Counting types h roots hosts place o offset slot heap can held lies told present others = can_lower types h roots hosts place o offset heap can held lies.among slot (told refl) present
can_overwrite Copying types h roots hosts place o offset slot heap can held lies told present others = none_slot h slot (others copying_other)

-- a heap without counts is as it was after a barrier
no_raise : (c : Counts) (w : ℕ) → c ≡ no_counts → raise (get c.counted w) w c ≡ c
no_raise c w none = ap (λ (d : Counts). raise (get d.counted w) w c) none ∙ ap (λ found. raise found w c) (get-empty nat_cmp w)

no_lower : (c : Counts) (w : ℕ) → c ≡ no_counts → lower (get c.counted w) w c ≡ c
no_lower c w none = ap (λ (d : Counts). lower (get d.counted w) w c) none ∙ ap (λ found. lower found w c) (get-empty nat_cmp w)

no_copy : (h : HeapView) (source : Option ℕ) → h.counts ≡ no_counts → copied h source ≡ h
no_copy h None none = refl
no_copy h (Some w) none = ap (λ (c : Counts). record h { counts = c }) (no_raise h.counts w none)

no_empty : (h : HeapView) (slot : Option ℕ) → h.counts ≡ no_counts → emptied h slot ≡ h
no_empty h None none = refl
no_empty h (Some w) none = ap (λ (c : Counts). record h { counts = c }) (no_lower h.counts w none)

untold : (h : HeapView) (slot source : Option ℕ) → h.counts ≡ no_counts → overwritten h slot source ≡ h
untold h slot source none = ap (λ (v : HeapView). emptied v slot) (no_copy h source none) ∙ no_empty h slot none

is_write : (layouts : Layouts) (h : HeapView) (place : ℕ) (o : HeapObject) (offset word : ℕ) → IsHeap layouts h → get h.content place ≡ Some o → HasWord layouts o offset → IsWrite layouts h place o offset (to_le_bytes w32 word)
is_write layouts h place o offset word heap held lies =
    let to = lies.to in
    record { heap = heap; held = held; fits = fits_data layouts o offset (to_le_bytes w32 word) lies.fields lies.from (omega arith) }

word_stored : (layouts : Layouts) (types : List Declaration) (h : HeapView) (roots : List Root) (hosts : ℕ → Bool) (place : ℕ) (o : HeapObject) (offset word : ℕ) (slot source : Option ℕ) → h.counts ≡ no_counts → (layouts ≡ Counting → ⊥) → IsHeap layouts h
    → CanCollect layouts (start h roots types hosts) → get h.content place ≡ Some o → HasReference layouts types o offset → word < 2 ^ 32 → IsWordOf h word
    → CanCollect layouts (start (put_object (overwritten h slot source) place (with_data layouts o offset (to_le_bytes w32 word))) roots types hosts)
word_stored layouts types h roots hosts place o offset word slot source none other heap can held lies small is =
    subst (λ (v : HeapView). CanCollect layouts (start (put_object v place (with_data layouts o offset (to_le_bytes w32 word))) roots types hosts)) (sym (untold h slot source none))
    (can_collect_word layouts types h place o offset word roots hosts other (is_write layouts h place o offset word heap held lies.word) small lies.aligned is can)

-- a reference was written, after its barrier
stored : (layouts : Layouts) (types : List Declaration) (h : HeapView) (roots : List Root) (hosts : ℕ → Bool) (place : ℕ) (o : HeapObject) (offset word : ℕ) (slot source : Option ℕ) → IsHeap layouts h → CanCollect layouts (start h roots types hosts)
    → get h.content place ≡ Some o → HasReference layouts types o offset → word < 2 ^ 32 → IsWordOf h word → (layouts ≡ Counting → IsSlotOf slot (word_in layouts o offset)) → IsSlotOf source word
    → CanCollect layouts (start (put_object (overwritten h slot source) place (with_data layouts o offset (to_le_bytes w32 word))) roots types hosts)
stored Null types h roots hosts place o offset word slot source heap can held lies small is was now = word_stored Null types h roots hosts place o offset word slot source heap.by_kind.0 null_other heap can held lies small is
stored Counting types h roots hosts place o offset word slot source heap can held lies small is was now =
    can_collect_stored Counting types h place o offset word slot source roots hosts (is_write Counting h place o offset word heap held lies.word) small lies.among is (was refl) now can
stored Copying types h roots hosts place o offset word slot source heap can held lies small is was now = word_stored Copying types h roots hosts place o offset word slot source heap.by_kind.counts copying_other heap can held lies small is

content_overwritten : (h : HeapView) (slot source : Option ℕ) → (overwritten h slot source).content ≡ h.content
content_overwritten h None None = refl
content_overwritten h None (Some w) = refl
content_overwritten h (Some d) None = refl
content_overwritten h (Some d) (Some w) = refl

module _ (layouts : Layouts) (types : List Declaration) (h middle : HeapView) (roots : List Root) (hosts : ℕ → Bool) (place : ℕ) (o : HeapObject) (offset : ℕ) (slot source : Option ℕ) (heap : IsHeap layouts h)
    (held : get h.content place ≡ Some o) (lies : HasReference layouts types o offset) (seen : middle ≡ overwritten h slot source) where
  pub held_then : get middle.content place ≡ Some o
  held_then = ap (λ (v : HeapView). get v.content place) seen ∙ ap (λ m. get m place) (content_overwritten h slot source) ∙ held

  pub writable_then : IsWritable layouts middle place offset 4
  writable_then = record { object = o; held = held_then; from = lies.word.from; to = lies.word.to }

  pub reference_stored : (h' : HeapView) (word : ℕ) → CanCollect layouts (start h roots types hosts) → word < 2 ^ 32 → word ≡ word_or_null source → IsWordOf h (word_or_null source) → (layouts ≡ Counting → word_or_null slot ≡ word_in layouts o offset)
      → IfSome slot (λ w. 0 < w) → IfSome source (λ w. 0 < w) → h' ≡ put_object middle place (with_data layouts o offset (to_le_bytes w32 word)) → CanCollect layouts (start h' roots types hosts)
  reference_stored h' word can small is names told filled present written =
      subst (λ (v : HeapView). CanCollect layouts (start v roots types hosts)) (sym (written ∙ ap (λ (v : HeapView). put_object v place (with_data layouts o offset (to_le_bytes w32 word))) seen))
      (stored layouts types h roots hosts place o offset word slot source heap can held lies small (subst (IsWordOf h) (sym is) names) (λ counting. slot_is slot (word_in layouts o offset) (told counting) filled) (slot_is source word (sym is) present))

-- a number was written to an object without references
pub number_stored : (layouts : Layouts) (types : List Declaration) (h h' : HeapView) (roots : List Root) (hosts : ℕ → Bool) (place : ℕ) (o : HeapObject) (offset number : ℕ) → IsHeap layouts h → CanCollect layouts (start h roots types hosts)
    → get h.content place ≡ Some o → HasWord layouts o offset → reference_offsets layouts types o ≡ [] → h' ≡ put_object h place (with_data layouts o offset (to_le_bytes w32 number)) → CanCollect layouts (start h' roots types hosts)
number_stored layouts types h h' roots hosts place o offset number heap can held lies none written =
    let nothing : (x : ℕ) → Contains (reference_offsets layouts types o) x → (x + 4 ≤ offset) ⊎ (offset + 4 ≤ x) = λ x among. let empty : Contains [] x = subst (λ os. Contains os x) none among in absurd (omega (arith, empty.1)) in
    subst (λ (v : HeapView). CanCollect layouts (start v roots types hosts)) (sym written)
    (can_collect_number layouts types h place o offset (to_le_bytes w32 number) roots hosts (is_write layouts h place o offset number heap held lies) nothing can)

-- an object whose type names no references has none
names_none : (layouts : Layouts) (o : HeapObject) (info : Option TraceInfo) → NamesNone info → info_offsets layouts o info ≡ []
names_none layouts o None none = refl
names_none layouts o (Some (trace.Struct offsets)) none = none
names_none layouts o (Some (trace.Array true)) none = absurd (cc)
names_none layouts o (Some (trace.Array false)) none = refl

typed_none : (layouts : Layouts) (types : List Declaration) (o : HeapObject) (k : VMGcKind) → NamesNone (trace_at layouts types o.ty) → typed_offsets layouts types o k ≡ []
typed_none layouts types o ExternRef none = refl
typed_none layouts types o AnyRef none = refl
typed_none layouts types o EqRef none = refl
typed_none layouts types o StructRef none = names_none layouts o (trace_at layouts types o.ty) none
typed_none layouts types o ArrayRef none = names_none layouts o (trace_at layouts types o.ty) none
typed_none layouts types o ExnRef none = names_none layouts o (trace_at layouts types o.ty) none

-- nor has one whose trace word names none
traced_none : (types : List Declaration) (o : HeapObject) → (o.spare ≡ 0) ⊎ (o.spare ≡ form_unit) → traced_offsets types o ≡ []
traced_none types o (inl none) = ap (λ (n : ℕ). traced_offsets types (record o { spare = n })) none
traced_none types o (inr plain) = ap (λ (n : ℕ). traced_offsets types (record o { spare = n })) plain

-- an object of numbers alone has no references
pub numbers_alone : (layouts : Layouts) (types : List Declaration) (o : HeapObject) → HasOnlyNumbers layouts types o → reference_offsets layouts types o ≡ []
numbers_alone Null types o none = typed_none Null types o o.kind none
numbers_alone Counting types o none = typed_none Counting types o o.kind none
numbers_alone Copying types o none = traced_none types o none

-- whether a held object is one, where its heap traces it by its type, and where by its trace word
pub tells_typed : (layouts kind : Layouts) (types : List Declaration) (o : HeapObject) (info : Option TraceInfo) (answer : Bool) → (kind ≡ Null) ⊎ (kind ≡ Counting) → kind ≡ layouts → info ≡ trace_at layouts types o.ty → (IsTrue answer ↔ NamesNone info)
    → (IsTrue answer ↔ HasOnlyNumbers layouts types o)
tells_typed layouts kind types o info answer (inl null) is told tells =
    subst (λ l. IsTrue answer ↔ HasOnlyNumbers l types o) (sym null ∙ is) (subst (λ i. IsTrue answer ↔ NamesNone i) (told ∙ ap (λ l. trace_at l types o.ty) (sym is ∙ null)) tells)
tells_typed layouts kind types o info answer (inr counting) is told tells =
    subst (λ l. IsTrue answer ↔ HasOnlyNumbers l types o) (sym counting ∙ is) (subst (λ i. IsTrue answer ↔ NamesNone i) (told ∙ ap (λ l. trace_at l types o.ty) (sym is ∙ counting)) tells)

pub tells_traced : (layouts kind : Layouts) (types : List Declaration) (o : HeapObject) (word : ℕ) (answer : Bool) → kind ≡ Copying → kind ≡ layouts → o.spare ≡ word → (IsTrue answer ↔ ((word ≡ 0) ⊎ (word ≡ form_unit))) → (IsTrue answer ↔ HasOnlyNumbers layouts types o)
tells_traced layouts kind types o word answer copying is spare tells =
    subst (λ l. IsTrue answer ↔ HasOnlyNumbers l types o) (sym copying ∙ is) (subst (λ w. IsTrue answer ↔ ((w ≡ 0) ⊎ (w ≡ form_unit))) (sym spare) tells)

pub spare_of : (layouts kind : Layouts) (o : HeapObject) (bits : ℕ) → kind ≡ Copying → kind ≡ layouts → SpareIs layouts o bits → o.spare ≡ bits
spare_of layouts kind o bits copying is spare = sym (subst (λ l. SpareIs l o bits) (sym is ∙ copying) spare)

-- what the calls that write say of the mutator
pub number_written : (layouts : Layouts) (m : MutatorView) (h h' : HeapView) (roots : List Root) (types : List Declaration) (hosts : FinMap nat_cmp ℕ) (holder place : ℕ) (o : HeapObject) (offset number : ℕ) → view h roots types hosts ≡ m → place ≡ word_at_root m holder → holder < length m.roots
    → get h.content place ≡ Some o → HasNumberWord layouts types o offset → h' ≡ put_object h place (with_data layouts o offset (to_le_bytes w32 number)) → WritesNumber layouts m (view h' roots types hosts) holder offset number
number_written layouts m h h' roots types hosts holder place o offset number is at stands held lies written =
    let root : word_at_root (view h roots types hosts) holder ≡ place = ap (λ (v : MutatorView). word_at_root v holder) is ∙ sym at in
    subst (λ (v : MutatorView). WritesNumber layouts v (view h' roots types hosts) holder offset number) is (record {
      stands = subst (λ (v : MutatorView). holder < length v.roots) (sym is) stands;
      object = o;
      held = ap (get h.content) root ∙ held;
      lies = lies;
      written = ap (λ (v : HeapView). view v roots types hosts) (written ∙ ap (λ p. put_object h p (with_data layouts o offset (to_le_bytes w32 number))) (sym root));
    })

pub reference_written : (layouts : Layouts) (m : MutatorView) (h middle h' : HeapView) (roots : List Root) (types : List Declaration) (hosts : FinMap nat_cmp ℕ) (holder place : ℕ) (o : HeapObject) (offset word : ℕ) (slot written_word : Option ℕ) (source : Option ℕ)
    → view h roots types hosts ≡ m → place ≡ word_at_root m holder → holder < length m.roots → get h.content place ≡ Some o → HasReference layouts types o offset → written_word ≡ source_word m source → (layouts ≡ Counting → word_or_null slot ≡ word_in layouts o offset)
    → middle ≡ overwritten h slot written_word → word ≡ word_or_null written_word → h' ≡ put_object middle place (with_data layouts o offset (to_le_bytes w32 word)) → WritesReference layouts m (view h' roots types hosts) holder offset (source_word m source)
reference_written layouts m h middle h' roots types hosts holder place o offset word slot written_word source is at stands held lies word_is told seen raw written =
    let root : word_at_root (view h roots types hosts) holder ≡ place = ap (λ (v : MutatorView). word_at_root v holder) is ∙ sym at in
    subst (WritesReference layouts m (view h' roots types hosts) holder offset) word_is
    (subst (λ (v : MutatorView). WritesReference layouts v (view h' roots types hosts) holder offset written_word) is (record {
      stands = subst (λ (v : MutatorView). holder < length v.roots) (sym is) stands;
      object = o;
      held = ap (get h.content) root ∙ held;
      lies = lies;
      slot = slot;
      told = told;
      written = ap (λ (v : HeapView). view v roots types hosts)
          (written ∙ ap (λ (v : HeapView). put_object v place (with_data layouts o offset (to_le_bytes w32 word))) seen ∙ ap (λ n. put_object (overwritten h slot written_word) place (with_data layouts o offset (to_le_bytes w32 n))) raw
          ∙ ap (λ p. put_object (overwritten h slot written_word) p (with_data layouts o offset (to_le_bytes w32 (word_or_null written_word)))) (sym root));
    }))
