-- A collection may begin after an object was made.
use Rattle.std.proofs.Common.{◌≡◌, ◌≢◌, ℕ, zero, suc, ◌+◌, ◌-◌, ◌*◌, ◌%◌, ◌<◌, ◌≤◌, ◌^◌, ◌⊎◌, inl, inr, Bool, true, false, nat_eq, if◌then◌else◌, List, [], ◌++◌, length, map, take, replicate, Some, None, Contains, refl, sym, ap, ◌∙◌, subst, arith}
use Rattle.std.specs.Int.{w32, to_le_bytes, from_le_bytes}
use Rattle.std.specs.FinMap.{get, insert}
use Rattle.std.proofs.lemmas.Bool.Decides.{nat_tests}
use Rattle.std.proofs.lemmas.List.{drop-replicate, length-replicate, length-append}
use Rattle.std.proofs.Math.Seq.{drop-append-add}
use Rattle.std.specs.Prelude.{◌==◌}
use Rattle.std.proofs.lemmas.Nat.{from_le_bytes-to_le_bytes_4}
use Rattle.gc_types.specs.declared.kind.Layouts.{Layouts}
use Rattle.gc_types.specs.declared.kind.Layouts.TheVariants.{Null, Counting, Copying}
use Rattle.gc_types.specs.declared.kind.VMGcKind.{VMGcKind}
use Rattle.gc_types.specs.declared.kind.VMGcKind.TheVariants.{ExternRef, ArrayRef}
use Rattle.gc_types.specs.declared.layout.GcStructLayout.{GcStructLayout}
use Rattle.gc_types.specs.declared.layout.GcArrayLayout.{GcArrayLayout}
use Rattle.gc_types.specs.Declarations.{Declaration}
use Rattle.gc_types.specs.Layouts.{struct_base, array_base, ref_offsets, layout_at, array_layout_at}
use Rattle.gc_refs.specs.Trace.{form_of}
use Rattle.gc_roots.specs.Roots.{Root}
use Rattle.gc_memory.specs.Lists.{In, here, there}
use Rattle.gc_memory.specs.Offsets.{stored_size}
use Rattle.gc_view.specs.Bytes.{u32_at}
use Rattle.gc_view.specs.Heaps.{HeapObject, HeapView}
use Rattle.gc_view.proofs.Content.{get-put_same, get-put_other}
use Rattle.gc_heap.specs.Objects.{held_size, zeroed, zeroed_array, external, host_id, array_length}
use Rattle.gc_heap.specs.References.{reference_offsets, typed_offsets, traced_offsets, word_offsets, references, word_in, HoldsType}
use Rattle.gc_heap.specs.Rules.{IsTyped, struct_spare, array_spare}
use Rattle.gc_heap.specs.Content.{IsHeld}
use Rattle.gc_heap.specs.Heap.{IsNewPlace, AddsObject, counts_with, layout_kind, exn_or_struct, new_struct, new_array, array_size}
use Rattle.gc_heap.specs.Collection.{Start, CanCollect, AreCounted, IsWordOf, IsExternal}
use Rattle.gc_heap.proofs.SpacedLemmas.{Spaced-in}
use Rattle.gc_memory.proofs.ListLemmas.{contains_in, in_map}
use Rattle.gc_heap.proofs.ReferenceLemmas.{external_none, content_by_form, typed_spaced}

-- the start of a collection with these
abbrev pub start : HeapView → List Root → List Declaration → (ℕ → Bool) → Start
start h roots types hosts = record { heap = h; roots = roots; types = types; hosts = hosts }

-- One object more, at a new place.
pub record Adds (layouts : Layouts) (old new : HeapView) (place : ℕ) (o : HeapObject) : Type 0 where
  pub fresh : IsNewPlace old place
  pub content : new.content ≡ insert old.content place o
  pub attached : new.attached ≡ old.attached
  pub scopes : new.scopes ≡ old.scopes
  pub counts : new.counts ≡ counts_with layouts old.counts place

-- as an allocation leaves it
pub adds_of : (layouts : Layouts) (old new : HeapView) (place : ℕ) (o : HeapObject) (size : ℕ) → AddsObject layouts old new place o size → Adds layouts old new place o
adds_of layouts old new place o size a = record {
  fresh = a.fresh;
  content = ap (λ (h : HeapView). h.content) a.added;
  attached = ap (λ (h : HeapView). h.attached) a.added;
  scopes = ap (λ (h : HeapView). h.scopes) a.added;
  counts = ap (λ (h : HeapView). h.counts) a.added;
}

-- An object whose references are all null, and whose type is known as far as its heap needs it.
pub record IsBlank (layouts : Layouts) (types : List Declaration) (o : HeapObject) : Type 0 where
  pub null : (word : ℕ) → Contains (references layouts types o) word → word ≡ 0
  pub typed : IsTyped layouts types o

-- Where the object is external, its host value is there and no other object's.
pub record OwnsHost (hosts : ℕ → Bool) (h : HeapView) (o : HeapObject) : Type 0 where
  pub there : o.kind ≡ ExternRef → hosts (host_id o) ≡ true
  pub own : o.kind ≡ ExternRef → (q : ℕ) (x : HeapObject) → IsExternal h q x → host_id x ≡ host_id o → ⊥

module _ (layouts : Layouts) (old new : HeapView) (place : ℕ) (o : HeapObject) (adds : Adds layouts old new place o) where
  pub held_new : get new.content place ≡ Some o
  held_new = ap (λ m. get m place) adds.content ∙ get-put_same old.content place o

  pub held_other : (q : ℕ) → q ≢ place → get new.content q ≡ get old.content q
  held_other q ne = ap (λ m. get m q) adds.content ∙ get-put_other old.content place q o ne

  pub not_held : (q : ℕ) (x : HeapObject) → get old.content q ≡ Some x → q ≢ place
  not_held q x is e = let free : get old.content q ≡ None = ap (get old.content) e ∙ adds.fresh.free in absurd (cc)

  pub held_still : (q : ℕ) → IsHeld old q → IsHeld new q
  held_still q is = (is.0, held_other q (not_held q is.0 is.1) ∙ is.1)

  pub word_still : (w : ℕ) → IsWordOf old w → IsWordOf new w
  word_still w (inl null) = inl null
  word_still w (inr (inl number)) = inr (inl number)
  word_still w (inr (inr held)) = inr (inr (held_still w held))

  pub cases_held : (q : ℕ) (x : HeapObject) → get new.content q ≡ Some x → ((q ≡ place) × (x ≡ o)) ⊎ (get old.content q ≡ Some x)
  cases_held q x is = elim (nat_eq q place) as (λ b. nat_eq q place ≡ b → ((q ≡ place) × (x ≡ o)) ⊎ (get old.content q ≡ Some x)) [
    | true ↦ λ e. let same : q ≡ place = grind (arith, nat_tests, e) in
        inl (same, (let both : Some x ≡ Some o = sym is ∙ ap (get new.content) same ∙ held_new in cc))
    | false ↦ λ e. let other : q ≢ place = grind (arith, nat_tests, e) in
        inr (sym (held_other q other) ∙ is)
  ] refl

  -- the new place is no word of the old heap
  pub no_word : IsWordOf old place → ⊥
  no_word (inl null) = let above = adds.fresh.not_null in absurd (omega arith)
  no_word (inr (inl odd)) = let aligned = adds.fresh.aligned in absurd (omega arith)
  no_word (inr (inr held)) = not_held place held.0 held.1 refl

  cases_external : (q : ℕ) (x : HeapObject) → IsExternal new q x → ((q ≡ place) × ((x ≡ o) × (o.kind ≡ ExternRef))) ⊎ IsExternal old q x
  cases_external q x is = elim (cases_held q x is.held) [
    | inl new_one ↦ inl (new_one.0, (new_one.1, sym (ap (λ (x : HeapObject). x.kind) new_one.1) ∙ is.kind))
    | inr was ↦ inr (record { held = was; kind = is.kind })
  ]

  -- A collection may begin with the new object, whose references are null, and with any roots that name
  -- held objects.
  pub can_collect_added : (types : List Declaration) (roots roots' : List Root) (hosts : ℕ → Bool) → CanCollect layouts (start old roots types hosts) → IsBlank layouts types o → OwnsHost hosts old o
      → ((r : Root) → Contains roots' r → IsWordOf new r.word) → AreCounted layouts types new roots' → CanCollect layouts (start new roots' types hosts)
  can_collect_added types roots roots' hosts can blank owns words counted = record {
    attached = adds.attached ∙ can.attached;
    open_scopes = adds.scopes ∙ can.open_scopes;
    roots = words;
    fields = λ q x w is has. elim (cases_held q x is) [
      | inl new_one ↦ inl (blank.null w (subst (λ (x : HeapObject). Contains (references layouts types x) w) new_one.1 has))
      | inr was ↦ word_still w (can.fields q x w was has)
    ];
    typed = λ q x is. elim (cases_held q x is) [
      | inl new_one ↦ subst (IsTyped layouts types) (sym new_one.1) blank.typed
      | inr was ↦ can.typed q x was
    ];
    hosts = λ q x is. elim (cases_external q x is) [
      | inl new_one ↦ ap (λ (x : HeapObject). hosts (host_id x)) new_one.1.0 ∙ owns.there new_one.1.1
      | inr was ↦ can.hosts q x was
    ];
    own_hosts = λ p q x y is is' same. elim (cases_external p x is) [
      | inl one ↦ elim (cases_external q y is') [
        | inl other ↦ one.0 ∙ sym other.0
        | inr was ↦ absurd (owns.own one.1.1 q y was (sym same ∙ ap host_id one.1.0))
      ]
      | inr was ↦ elim (cases_external q y is') [
        | inl other ↦ absurd (owns.own other.1.1 p x was (same ∙ ap host_id other.1.0))
        | inr were ↦ can.own_hosts p q x y was were same
      ]
    ];
    counts = counted;
  }

-- a word among null ones
all_null : (f : ℕ → ℕ) (offsets : List ℕ) (word : ℕ) → ((x : ℕ) → In x offsets → f x ≡ 0) → Contains (map f offsets) word → word ≡ 0
all_null f offsets word each has =
    let found = in_map f offsets word (contains_in (map f offsets) word has) in
    sym found.1.1 ∙ each found.0 found.1.0

-- a word of zeros, or of a part of them
few_zeros : (n : ℕ) → from_le_bytes w32 (take 4 (replicate n 0)) ≡ 0
few_zeros zero = refl
few_zeros (suc zero) = refl
few_zeros (suc (suc zero)) = refl
few_zeros (suc (suc (suc zero))) = refl
few_zeros (suc (suc (suc (suc n)))) = refl

pub zero_word : (n at : ℕ) → u32_at (replicate n 0) at ≡ 0
zero_word n at = ap (λ bs. from_le_bytes w32 (take 4 bs)) (drop-replicate at n 0) ∙ few_zeros (n - at)

-- an object whose data is 0 has null references alone
pub zeroed_null : (layouts : Layouts) (types : List Declaration) (kind : VMGcKind) (ty spare size word : ℕ) → Contains (references layouts types (zeroed layouts kind ty spare size)) word → word ≡ 0
zeroed_null layouts types kind ty spare size word has =
    let o : HeapObject = zeroed layouts kind ty spare size in
    all_null (word_in layouts o) (reference_offsets layouts types o) word (λ x i. zero_word (stored_size layouts size - struct_base layouts) (x - struct_base layouts)) has

-- an object that a copying heap traces without its type
pub blank_traced : (types : List Declaration) (kind : VMGcKind) (ty spare size : ℕ) → (form_of spare ≡ 2 → ⊥) → IsBlank Copying types (zeroed Copying kind ty spare size)
blank_traced types kind ty spare size form = record { null = λ w. zeroed_null Copying types kind ty spare size w; typed = λ out. absurd (form out) }

-- a heap stores no less than it was asked for
pub stored-least : (layouts : Layouts) (size : ℕ) → size ≤ stored_size layouts size
stored-least Null size = omega arith
stored-least Counting size = omega arith
stored-least Copying size = omega arith

zeroed_size : (layouts : Layouts) (size : ℕ) → size ≤ struct_base layouts + length (replicate {A = ℕ} (stored_size layouts size - struct_base layouts) 0)
zeroed_size layouts size =
    let least : size ≤ stored_size layouts size = stored-least layouts size in
    omega (arith, length-replicate {A = ℕ} (stored_size layouts size - struct_base layouts) 0)

holds_layout : (layouts : Layouts) (types : List Declaration) (ty : ℕ) (layout : GcStructLayout) (spare : ℕ) (is_exception : Bool) → layout.is_exception ≡ is_exception → layout_at layouts types ty ≡ Some layout
    → HoldsType layouts types (zeroed layouts (exn_or_struct is_exception) ty spare layout.size) (exn_or_struct is_exception)
holds_layout layouts types ty layout spare true is declared = record { is = layout; stands = declared; kind = is; fits = zeroed_size layouts layout.size }
holds_layout layouts types ty layout spare false is declared = record { is = layout; stands = declared; kind = is; fits = zeroed_size layouts layout.size }

typed_where : (layouts : Layouts) (types : List Declaration) (o : HeapObject) → HoldsType layouts types o o.kind → IsTyped layouts types o
typed_where Null types o holds = holds
typed_where Counting types o holds = holds
typed_where Copying types o holds = λ _. holds

-- a new struct or exception of a declared type
pub blank_struct : (layouts : Layouts) (types : List Declaration) (ty : ℕ) (layout : GcStructLayout) → layout_at layouts types ty ≡ Some layout → IsBlank layouts types (new_struct layouts ty layout)
blank_struct layouts types ty layout declared =
    let spare : ℕ = struct_spare layouts (ref_offsets layout.fields) in
    record {
      null = λ w. zeroed_null layouts types (layout_kind layout) ty spare layout.size w;
      typed = typed_where layouts types (new_struct layouts ty layout) (holds_layout layouts types ty layout spare layout.is_exception refl declared);
    }

-- the words behind the length of a new array are 0
array_zero : (count n at : ℕ) → 4 ≤ at → u32_at (to_le_bytes w32 count ++ replicate n 0) at ≡ 0
array_zero count n at from =
    let e : 4 + (at - 4) ≡ at = omega arith in
    ap (λ k. u32_at (to_le_bytes w32 count ++ replicate n 0) k) (sym e)
    ∙ ap (λ bs. from_le_bytes w32 (take 4 bs)) (drop-append-add (to_le_bytes w32 count) (replicate n 0) (at - 4))
    ∙ zero_word n (at - 4)

array_count : (count n : ℕ) → count < 2 ^ 32 → u32_at (to_le_bytes w32 count ++ replicate n 0) 0 ≡ count
array_count count n small = from_le_bytes-to_le_bytes_4 count small

pub array_bases : (layouts : Layouts) → struct_base layouts + 4 ≡ array_base layouts
array_bases Null = refl
array_bases Counting = refl
array_bases Copying = refl

holds_array : (layouts : Layouts) (types : List Declaration) (ty count spare : ℕ) (layout : GcArrayLayout) → count < 2 ^ 32 → array_layout_at layouts types ty ≡ Some layout
    → HoldsType layouts types (zeroed_array layouts ty spare count (array_size layout count)) ArrayRef
holds_array layouts types ty count spare layout small declared =
    let zeros : ℕ = stored_size layouts (array_size layout count) - array_base layouts in
    let least : array_size layout count ≤ stored_size layouts (array_size layout count) = stored-least layouts (array_size layout count) in
    let bases = array_bases layouts in
    let size : length (to_le_bytes w32 count ++ replicate zeros 0) ≡ 4 + zeros = length-append (to_le_bytes w32 count) (replicate zeros 0) ∙ ap (λ n. 4 + n) (length-replicate zeros 0) in
    record {
      is = layout;
      stands = declared;
      fits = subst (λ n. layout.base_size + n * layout.elem_size ≤ struct_base layouts + length (to_le_bytes w32 count ++ replicate zeros 0)) (sym (array_count count zeros small)) (omega arith);
    }

words_from : (n from x : ℕ) → In x (word_offsets from n) → from ≤ x
words_from zero from x i = elim i [ ]
words_from (suc n) from _ here = omega arith
words_from (suc n) from x (there i) = let later = words_from n (from + 4) x i in omega arith

elements_from : (o : HeapObject) (b : Bool) (x : ℕ) → In x (if b then word_offsets 16 (array_length o) else []) → 16 ≤ x
elements_from o true x i = words_from (array_length o) 16 x i
elements_from o false x i = elim i [ ]

array_form : (refs : Bool) → form_of (array_spare Copying refs) ≡ 1
array_form true = refl
array_form false = refl

traced_from : (types : List Declaration) (o : HeapObject) (refs : Bool) → o.spare ≡ array_spare Copying refs → (x : ℕ) → In x (traced_offsets types o) → 16 ≤ x
traced_from types o refs spare x i =
    let form : form_of o.spare ≡ 1 = ap form_of spare ∙ array_form refs in
    elements_from o (o.spare % 2 == 1) x (subst (In x) (content_by_form types o 1 form) i)

-- the references of an array lie behind its length
array_from : (layouts : Layouts) (types : List Declaration) (o : HeapObject) (refs : Bool) → o.kind ≡ ArrayRef → o.spare ≡ array_spare layouts refs → HoldsType layouts types o ArrayRef
    → (x : ℕ) → In x (reference_offsets layouts types o) → array_base layouts ≤ x
array_from Null types o refs kind spare holds x i = (Spaced-in 12 (held_size Null o) _ x (typed_spaced Null types o ArrayRef holds) (subst (λ k. In x (typed_offsets Null types o k)) kind i)).0
array_from Counting types o refs kind spare holds x i = (Spaced-in 32 (held_size Counting o) _ x (typed_spaced Counting types o ArrayRef holds) (subst (λ k. In x (typed_offsets Counting types o k)) kind i)).0
array_from Copying types o refs kind spare holds x i = traced_from types o refs spare x i

-- a new array of a declared type
pub blank_array : (layouts : Layouts) (types : List Declaration) (ty count : ℕ) (layout : GcArrayLayout) → count < 2 ^ 32 → array_layout_at layouts types ty ≡ Some layout → IsBlank layouts types (new_array layouts ty count layout)
blank_array layouts types ty count layout small declared =
    let o : HeapObject = new_array layouts ty count layout in
    let zeros : ℕ = stored_size layouts (array_size layout count) - array_base layouts in
    let holds = holds_array layouts types ty count (array_spare layouts layout.elems_are_gc_refs) layout small declared in
    record {
      null = λ w. all_null (word_in layouts o) (reference_offsets layouts types o) w (λ x i.
          let from = array_from layouts types o layout.elems_are_gc_refs refl refl holds x i in
          let bases = array_bases layouts in
          array_zero count zeros (x - struct_base layouts) (omega arith));
      typed = typed_where layouts types o holds;
    }

-- an array that a copying heap traces needs no declared type
pub blank_traced_array : (types : List Declaration) (ty count : ℕ) (layout : GcArrayLayout) → IsBlank Copying types (new_array Copying ty count layout)
blank_traced_array types ty count layout =
    let o : HeapObject = new_array Copying ty count layout in
    let zeros : ℕ = stored_size Copying (array_size layout count) - 16 in
    record {
      null = λ w. all_null (word_in Copying o) (reference_offsets Copying types o) w (λ x i.
          let from = traced_from types o layout.elems_are_gc_refs refl x i in
          array_zero count zeros (x - 12) (omega arith));
      typed = λ out. let form = array_form layout.elems_are_gc_refs in absurd (omega arith);
    }

no_offsets_external : (layouts : Layouts) (types : List Declaration) (id : ℕ) → reference_offsets layouts types (external id) ≡ []
no_offsets_external Null types id = refl
no_offsets_external Counting types id = refl
no_offsets_external Copying types id = external_none types (external id) refl

-- a new external object
pub blank_external : (layouts : Layouts) (types : List Declaration) (id : ℕ) → IsBlank layouts types (external id)
blank_external layouts types id = record {
  null = λ w has. absurd (omega (arith, (subst (λ os. Contains (map (word_in layouts (external id)) os) w) (no_offsets_external layouts types id) has).1));
  typed = typed_where layouts types (external id) tt;
}

-- only an external object has a host value
pub owns_none : (hosts : ℕ → Bool) (h : HeapView) (o : HeapObject) → (o.kind ≡ ExternRef → ⊥) → OwnsHost hosts h o
owns_none hosts h o other = record { there = λ is. absurd (other is); own = λ is. absurd (other is) }

pub external_id : (id : ℕ) → id + 1 < 2 ^ 32 → host_id (external id) ≡ id
external_id id small = ap (λ n. n - 1) (from_le_bytes-to_le_bytes_4 (id + 1) small) ∙ omega arith

-- a new external object has its host value alone, where the id is new to the host table
pub owns_new : (layouts : Layouts) (types : List Declaration) (h : HeapView) (roots : List Root) (hosts hosts' : ℕ → Bool) (id : ℕ) → CanCollect layouts (start h roots types hosts) → id + 1 < 2 ^ 32
    → hosts id ≡ false → hosts' id ≡ true → OwnsHost hosts' h (external id)
owns_new layouts types h roots hosts hosts' id can small free taken = record {
  there = λ _. ap hosts' (external_id id small) ∙ taken;
  own = λ _ q x is same.
      let has : hosts id ≡ true = ap hosts (sym (same ∙ external_id id small)) ∙ can.hosts q x is in
      absurd (cc);
}

-- a host table with more values serves as well
pub more_hosts : (layouts : Layouts) (types : List Declaration) (h : HeapView) (roots : List Root) (hosts hosts' : ℕ → Bool) → CanCollect layouts (start h roots types hosts)
    → ((id : ℕ) → hosts id ≡ true → hosts' id ≡ true) → CanCollect layouts (start h roots types hosts')
more_hosts layouts types h roots hosts hosts' can more = record {
  attached = can.attached;
  open_scopes = can.open_scopes;
  roots = can.roots;
  fields = can.fields;
  typed = can.typed;
  hosts = λ q x is. more (host_id x) (can.hosts q x is);
  own_hosts = can.own_hosts;
  counts = can.counts;
}
