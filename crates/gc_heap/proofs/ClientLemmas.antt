-- A collection may begin after a struct without references was made and rooted.
use Rattle.std.proofs.Common.{◌≡◌, ℕ, Bool, false, List, [], ◌∷◌, ◌++◌, length, map, Option, Some, None, Contains, option_map, slice_get, refl, sym, ap, ◌∙◌, subst, arith}
use Rattle.std.specs.FinMap.{get, empty, get-empty}
use Rattle.std.proofs.lemmas.Option.{none-some}
use Rattle.std.specs.Ordering.{nat_cmp}
use Rattle.std.proofs.lemmas.List.{same_lists}
use Rattle.gc_types.specs.declared.kind.Layouts.{Layouts}
use Rattle.gc_types.specs.declared.kind.Layouts.TheVariants.{Null, Counting, Copying}
use Rattle.gc_types.specs.declared.kind.VMGcKind.TheVariants.{StructRef, ExternRef}
use Rattle.gc_types.specs.declared.layout.GcStructLayout.{GcStructLayout}
use Rattle.gc_types.specs.declared.layout.TraceInfo.TheVariants as trace
use Rattle.gc_types.specs.Declarations.{Declaration, Shape, struct_of, array_of, exn_of, func_of}
use Rattle.gc_types.specs.Layouts.{ref_offsets, shape_layout, shape_trace, declaration_layout, declaration_trace}
use Rattle.gc_roots.specs.Roots.{Root, root, root_at}
use Rattle.gc_view.specs.Heaps.{HeapObject, HeapView}
use Rattle.gc_heap.specs.References.{reference_offsets, references, typed_offsets, info_offsets, traced_offsets, word_in, HoldsType}
use Rattle.gc_heap.specs.Rules.{IsTyped}
use Rattle.gc_heap.specs.Heap.{empty_heap}
use Rattle.gc_heap.specs.Collection.{CanCollect, AreCounted, occurrences, IsMoved, moved_root}
use Rattle.gc_heap.specs.Client.{IsPlainObject, AddsPlain}
use Rattle.gc_heap.proofs.AddedLemmas.{start, Adds, IsBlank, owns_none}
use Rattle.gc_heap.proofs.MadeLemmas.{NamesNone, can_collect_rooted}

shape_trace-layout : (layouts : Layouts) (shape : Shape) (layout : GcStructLayout) → shape_layout layouts shape ≡ Some layout → shape_trace layouts shape ≡ Some (trace.Struct (ref_offsets layout.fields))
shape_trace-layout layouts (struct_of fields) layout e = ap (λ l. option_map (λ (l : GcStructLayout). trace.Struct (ref_offsets l.fields)) l) e
shape_trace-layout layouts (array_of elem) layout e = absurd (cc)
shape_trace-layout layouts (exn_of params) layout e = ap (λ l. option_map (λ (l : GcStructLayout). trace.Struct (ref_offsets l.fields)) l) e
shape_trace-layout layouts (func_of params results) layout e = absurd (cc)

declaration_trace-layout : (layouts : Layouts) (d : Option Declaration) (layout : GcStructLayout) → declaration_layout layouts d ≡ Some layout → declaration_trace layouts d ≡ Some (trace.Struct (ref_offsets layout.fields))
declaration_trace-layout layouts None layout e = absurd (cc)
declaration_trace-layout layouts (Some d) layout e = shape_trace-layout layouts d.shape layout e

no_typed_offsets : (layouts : Layouts) (types : List Declaration) (layout : GcStructLayout) (o : HeapObject) → IsPlainObject layouts types layout o → typed_offsets layouts types o o.kind ≡ []
no_typed_offsets layouts types layout o is =
    ap (typed_offsets layouts types o) is.kind
    ∙ ap (info_offsets layouts o) (declaration_trace-layout layouts (slice_get types o.ty) layout is.declared)
    ∙ is.no_references

-- such an object has no references
pub no_offsets : (layouts : Layouts) (types : List Declaration) (layout : GcStructLayout) (o : HeapObject) → IsPlainObject layouts types layout o → reference_offsets layouts types o ≡ []
no_offsets Null types layout o is = no_typed_offsets Null types layout o is
no_offsets Counting types layout o is = no_typed_offsets Counting types layout o is
no_offsets Copying types layout o is =
    let none : (spare : ℕ) → spare ≡ 0 → traced_offsets types (record o { spare = spare }) ≡ [] = λ spare e. ap (λ n. traced_offsets types (record o { spare = n })) e in
    none o.spare is.spare

holds_type : (layouts : Layouts) (types : List Declaration) (layout : GcStructLayout) (o : HeapObject) → IsPlainObject layouts types layout o → HoldsType layouts types o o.kind
holds_type layouts types layout o is = subst (HoldsType layouts types o) (sym is.kind) (record { is = layout; stands = is.declared; kind = is.plain; fits = is.size })

-- and its type is known
typed : (layouts : Layouts) (types : List Declaration) (layout : GcStructLayout) (o : HeapObject) → IsPlainObject layouts types layout o → IsTyped layouts types o
typed Null types layout o is = holds_type Null types layout o is
typed Counting types layout o is = holds_type Counting types layout o is
typed Copying types layout o is = λ _. holds_type Copying types layout o is

names_none : (layouts : Layouts) (types : List Declaration) (h : HeapView) (o : HeapObject) → references layouts types o ≡ [] → NamesNone layouts types h o
names_none Null types h o none = tt
names_none Counting types h o none = λ q n is. ap (occurrences q) none
names_none Copying types h o none = tt

module _ (layouts : Layouts) (types : List Declaration) (layout : GcStructLayout) (old new : HeapView) (place : ℕ) (o : HeapObject) (plain : AddsPlain layouts types layout old new place o) where
  pub adds : Adds layouts old new place o
  adds = record { fresh = plain.fresh; content = plain.content; attached = plain.attached; scopes = plain.scopes; counts = plain.counts }

  no_words : references layouts types o ≡ []
  no_words = ap (map (word_in layouts o)) (no_offsets layouts types layout o plain.plain)

  blank : IsBlank layouts types o
  blank = record {
    null = λ w has. let none : Contains [] w = subst (λ ws. Contains ws w) no_words has in absurd (omega (arith, none.1));
    typed = typed layouts types layout o plain.plain;
  }

  not_external : o.kind ≡ ExternRef → ⊥
  not_external is = let kind : StructRef ≡ ExternRef = sym plain.plain.kind ∙ is in absurd (cc)

  -- a collection may begin once the new object is rooted
  pub can_collect : (roots : List Root) (number : ℕ) (hosts : ℕ → Bool) → CanCollect layouts (start old roots types hosts) → CanCollect layouts (start new (roots ++ root number false place ∷ []) types hosts)
  can_collect roots number hosts can =
      can_collect_rooted layouts types old new roots number place o hosts adds can blank (owns_none hosts old o not_external) (names_none layouts types new o no_words)

-- a moved object without references has the same bytes
pub same_bytes : (layouts : Layouts) (types : List Declaration) (layout : GcStructLayout) (to : ℕ → ℕ) (o moved : HeapObject) → IsPlainObject layouts types layout o → IsMoved layouts types to o moved → moved.bytes ≡ o.bytes
same_bytes layouts types layout to o moved plain is = same_lists _ _ is.size (λ at d h. is.rest at d (λ offset among.
    let none : Contains [] offset = subst (λ offsets. Contains offsets offset) (no_offsets layouts types layout o plain) among in
    absurd (omega (arith, none.1))))

-- the root that was added last
pub last_moved : (to : ℕ → ℕ) (roots : List Root) (r : Root) → root_at (map (moved_root to) (roots ++ r ∷ [])) (length roots) ≡ moved_root to r
last_moved to [] r = refl
last_moved to (x ∷ roots) r = last_moved to roots r

nothing : {X : Type 0} (q : ℕ) (x : X) → get (empty {X = X} {R = nat_cmp}) q ≡ Some x → ⊥
nothing q x is = none-some x (sym (get-empty nat_cmp q) ∙ is)

counts_empty : (layouts : Layouts) (types : List Declaration) (bytes : ℕ) → AreCounted layouts types (empty_heap layouts bytes 0) []
counts_empty Null types bytes = tt
counts_empty Counting types bytes = record { counted = λ place n is. absurd (nothing place n is); shown = λ place held on_stack. absurd (nothing place held.0 held.1) }
counts_empty Copying types bytes = tt

-- a collection may begin in an empty heap that no root names
pub can_collect_empty : (layouts : Layouts) (types : List Declaration) (bytes : ℕ) (hosts : ℕ → Bool) → CanCollect layouts (start (empty_heap layouts bytes 0) [] types hosts)
can_collect_empty layouts types bytes hosts = record {
  attached = refl;
  open_scopes = refl;
  roots = λ r h. absurd (omega (arith, h.1));
  fields = λ q x w is has. absurd (nothing q x is);
  typed = λ q x is. absurd (nothing q x is);
  hosts = λ q x is. absurd (nothing q x is.held);
  own_hosts = λ p q x y is is' same. absurd (nothing p x is.held);
  counts = counts_empty layouts types bytes;
}
