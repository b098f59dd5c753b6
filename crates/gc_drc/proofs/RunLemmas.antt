-- Starts of a collection for which the objects of a heap are known.
use Rattle.std.proofs.Common.{◌≡◌, ℕ, ◌+◌, ◌<◌, ◌≤◌, ◌^◌, Bool, List, [], ◌∷◌, map, replicate, false, Some, None, refl, sym, ap, ap₂, subst, ◌∙◌, inl, inr, arith, Contains}
use Rattle.std.specs.Int.{w32}
use Rattle.gc_refs.specs.LittleEndian.{unsigned_bytes}
use Rattle.gc_view.specs.Bytes.{put_bytes}
use Rattle.std.specs.Ordering.{nat_cmp}
use Rattle.std.specs.FinMap.{FinMap, get, insert, empty, gets, same_map, nat_cmp-IsAntisymmetric}
use Rattle.std.specs.FinMap as finite
use Rattle.std.specs.Cmp.{nat_cmp_total}
use Rattle.std.proofs.lemmas.Bool.{cases_eq}
use Rattle.std.proofs.lemmas.Bool.Decides.{nat_tests}
use Rattle.std.proofs.lemmas.Grind.{common_steps}
use Rattle.std.proofs.lemmas.Nat.{from_le_bytes-to_le_bytes_4}
use Rattle.gc_types.specs.declared.kind.Layouts.TheVariants.{Counting}
use Rattle.gc_types.specs.declared.kind.VMGcKind.TheVariants.{ExternRef, StructRef}
use Rattle.gc_types.specs.declared.layout.GcStructLayout.{GcStructLayout}
use Rattle.gc_types.specs.declared.layout.TraceInfo.TheVariants as trace
use Rattle.gc_types.specs.Declarations.{Declaration}
use Rattle.gc_types.specs.Layouts.{layout_at, trace_at}
use Rattle.gc_view.specs.Bytes.{u32_at}
use Rattle.gc_view.specs.Heaps.{HeapObject, HeapView}
use Rattle.gc_heap.specs.Objects.{zeroed, held_size, writable_offset}
use Rattle.gc_heap.specs.References.{references, word_in, info_offsets, HoldsType}
use Rattle.gc_heap.specs.Content.{IsHeld, total}
use Rattle.gc_heap.specs.Totals.{total-empty, total-insert}
use Rattle.gc_heap.specs.Heap.{empty_heap, with_object, put_object, with_data, AddsObject, IsWritable, new_struct, exn_or_struct}
use Rattle.gc_heap.specs.Access.{WritesData}
use Rattle.gc_heap.specs.Collection.{CanCollect, IsWordOf, occurrences}
use Rattle.gc_drc.proofs.SeenLemmas.{get-insert-same, get-insert-other}
use Rattle.gc_memory.proofs.ListLemmas.{only_item}

-- one entry alone
only_entry : {X : Type 0} (place q : ℕ) (x y : X) → get (insert (empty {X = X} {R = nat_cmp}) place x) q ≡ Some y → (q ≡ place) × (y ≡ x)
only_entry {X} place q x y got = elim (cases_eq q place) [
  | inl e ↦ (e, some_is (sym (ap (get (insert (empty {X = X} {R = nat_cmp}) place x)) e ∙ get-insert-same (empty {X = X} {R = nat_cmp}) place x) ∙ got))
  | inr ne ↦ absurd (none_some (sym (get-insert-other (empty {X = X} {R = nat_cmp}) place q x ne ∙ finite.get-empty nat_cmp q) ∙ got))
]
  where
    some_is : Some x ≡ Some y → y ≡ x
    some_is e = cc

    none_some : None ≡ Some y → ⊥
    none_some e = cc

-- an entry that is put in twice
put_again : (m : FinMap nat_cmp HeapObject) (k : ℕ) (x y : HeapObject) → insert (insert m k x) k y ≡ insert m k y
put_again m k x y = same_map nat_cmp_total nat_cmp-IsAntisymmetric _ _ (λ q. grind (arith, common_steps, gets))

held_new : (h h' : HeapView) (place : ℕ) (o : HeapObject) (size : ℕ) → AddsObject Counting h h' place o size → get h'.content place ≡ Some o
held_new h h' place o size added = ap (λ (x : HeapView). get x.content place) added.added ∙ get-insert-same h.content place o

-- the one field of a new struct may be written
pub can_write_new : (h h' : HeapView) (place ty : ℕ) (layout : GcStructLayout) → layout.is_exception ≡ false → layout.size ≡ 32
    → AddsObject Counting h h' place (new_struct Counting ty layout) layout.size → IsWritable Counting h' place 28 4
can_write_new h h' place ty layout plain size added = record {
  object = new_struct Counting ty layout;
  held = held_new h h' place (new_struct Counting ty layout) layout.size added;
  from = subst (λ (e : Bool). writable_offset Counting (exn_or_struct e) ≤ 28) (sym plain) (omega arith);
  to = subst (λ (e : Bool). 32 ≤ held_size Counting (zeroed Counting (exn_or_struct e) ty 0 layout.size)) (sym plain)
      (subst (λ (n : ℕ). 32 ≤ held_size Counting (zeroed Counting StructRef ty 0 n)) (sym size) (omega arith));
}

-- what is seen once it was written
pub named_new : (h h' h'' : HeapView) (place word ty : ℕ) (layout : GcStructLayout) → AddsObject Counting h h' place (new_struct Counting ty layout) layout.size → word ≡ place
    → h ≡ empty_heap Counting 65536 0 → WritesData Counting h' h'' place 28 (unsigned_bytes w32 word)
    → h'' ≡ put_object (with_object Counting (empty_heap Counting 65536 0) place (new_struct Counting ty layout) layout.size) place (with_data Counting (new_struct Counting ty layout) 28 (unsigned_bytes w32 place))
named_new h h' h'' place word ty layout added is empty_is writes =
    let o : HeapObject = new_struct Counting ty layout in
    let seen : h' ≡ with_object Counting (empty_heap Counting 65536 0) place o layout.size = added.added ∙ ap (λ (x : HeapView). with_object Counting x place o layout.size) empty_is in
    writes o (held_new h h' place o layout.size added)
    ∙ ap₂ (λ (x : HeapView) (w : ℕ). put_object x place (with_data Counting o 28 (unsigned_bytes w32 w))) seen is

-- a struct with one reference, which names the struct itself and which nothing else names
module _ (types : List Declaration) (bytes place ty : ℕ) (layout : GcStructLayout) (hosts : ℕ → Bool) (plain : layout.is_exception ≡ false) (size : layout.size ≡ 32)
    (declared : layout_at Counting types ty ≡ Some layout) (traced : trace_at Counting types ty ≡ Some (trace.Struct (28 ∷ []))) (small : place < 2 ^ 32) where
  abbrev itself : HeapObject
  itself = record { kind = StructRef; ty = ty; spare = 0; bytes = put_bytes (replicate 4 0) 0 (unsigned_bytes w32 place) }

  -- the new struct with its word written
  abbrev written : HeapObject
  written = with_data Counting (new_struct Counting ty layout) 28 (unsigned_bytes w32 place)

  is_itself : written ≡ itself
  is_itself = ap₂ (λ (e : Bool) (n : ℕ). with_data Counting (zeroed Counting (exn_or_struct e) ty 0 n) 28 (unsigned_bytes w32 place)) plain size

  -- the heap with it
  abbrev named : HeapView
  named = put_object (with_object Counting (empty_heap Counting bytes 0) place (new_struct Counting ty layout) layout.size) place written

  content_is : named.content ≡ insert empty place itself
  content_is = put_again empty place (new_struct Counting ty layout) written ∙ ap (insert empty place) is_itself

  held_is : (q : ℕ) (o : HeapObject) → get named.content q ≡ Some o → (q ≡ place) × (o ≡ itself)
  held_is q o got = only_entry place q itself o (ap (λ m. get m q) (sym content_is) ∙ got)

  is_held : IsHeld named place
  is_held = (itself, ap (λ m. get m place) content_is ∙ get-insert-same (empty {X = HeapObject} {R = nat_cmp}) place itself)

  word_is : u32_at itself.bytes 0 ≡ place
  word_is = from_le_bytes-to_le_bytes_4 place small

  references_are : references Counting types itself ≡ place ∷ []
  references_are = ap (λ i. map (word_in Counting itself) (info_offsets Counting itself i)) traced ∙ ap (λ (w : ℕ). w ∷ []) word_is

  typed_so : HoldsType Counting types itself StructRef
  typed_so = record { is = layout; stands = declared; kind = plain; fits = omega arith }

  one_name : (q : ℕ) → q ≡ place → total (λ (o : HeapObject). occurrences q (references Counting types o)) named.content ≡ 1
  one_name q e =
      let f : HeapObject → ℕ = λ (o : HeapObject). occurrences q (references Counting types o) in
      let once : occurrences q (place ∷ []) ≡ 1 = ap (λ (w : ℕ). occurrences w (place ∷ [])) e ∙ grind (arith, nat_tests) in
      ap (total f) content_is
      ∙ total-insert f (empty {X = HeapObject} {R = nat_cmp}) place itself (finite.get-empty nat_cmp place)
      ∙ ap₂ (λ (n k : ℕ). n + k) (total-empty f) (ap (occurrences q) references_are ∙ once)

  -- a collection may begin then
  pub can_collect_named : CanCollect Counting (record { heap = named; roots = []; types = types; hosts = hosts })
  can_collect_named = record {
    attached = refl;
    open_scopes = refl;
    roots = λ r c. absurd (omega (arith, c.1));
    fields = λ q x word got has.
        let one : Contains (place ∷ []) word = subst (λ (ws : List ℕ). Contains ws word) (ap (references Counting types) (held_is q x got).1 ∙ references_are) has in
        subst (IsWordOf named) (only_item place word one) (inr (inr is_held));
    typed = λ q x got. subst (λ (y : HeapObject). HoldsType Counting types y y.kind) (sym (held_is q x got).1) typed_so;
    hosts = λ q x e. absurd (no_external (ap (λ (y : HeapObject). y.kind) (sym (held_is q x e.held).1) ∙ e.kind));
    own_hosts = λ p q x y e f same. (held_is p x e.held).0 ∙ sym (held_is q y f.held).0;
    counts = record {
      counted = λ q n got.
          let only = only_entry place q 1 n got in
          only.1 ∙ sym (ap (λ (k : ℕ). k + 0) (one_name q only.0));
      shown = λ q h c. absurd (omega (arith, c.1));
    };
  }
    where
      no_external : StructRef ≡ ExternRef → ⊥
      no_external e = cc
