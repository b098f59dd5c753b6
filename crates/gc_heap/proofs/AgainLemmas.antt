-- A collection may begin again after a collection.
use Rattle.std.proofs.Common.{◌≡◌, ℕ, ◌+◌, ◌-◌, ◌%◌, ◌<◌, inl, inr, Bool, true, List, [], ◌∷◌, map, Some, Contains, refl, sym, ap, ◌∙◌, subst, arith}
use Rattle.std.specs.FinMap.{get}
use Rattle.std.proofs.lemmas.Bool.Decides.{nat_tests}
use Rattle.std.proofs.lemmas.List.{same_lists}
use Rattle.std.proofs.lemmas.List.Elements.{Contains-append_cases, Contains-append_right}
use Rattle.gc_types.specs.declared.kind.Layouts.{Layouts}
use Rattle.gc_types.specs.declared.kind.Layouts.TheVariants.{Null, Counting, Copying}
use Rattle.gc_types.specs.declared.kind.VMGcKind.TheVariants.{ExternRef, ArrayRef}
use Rattle.gc_types.specs.Declarations.{Declaration}
use Rattle.gc_types.specs.Layouts.{struct_base, array_base}
use Rattle.gc_roots.specs.Roots.{Root}
use Rattle.gc_view.specs.Bytes.{u32_at}
use Rattle.gc_view.specs.Heaps.{HeapObject, HeapView}
use Rattle.gc_view.specs.Reach.{by_start, by_step}
use Rattle.gc_view.proofs.ByteLemmas.{u32_in_same}
use Rattle.gc_heap.specs.Objects.{held_size, writable_offset, host_id}
use Rattle.gc_heap.specs.References.{reference_offsets, typed_offsets, references, word_in, Spaced}
use Rattle.gc_heap.specs.Content.{IsHeld, IsHeap, IsSpare, TracesInside}
use Rattle.gc_heap.specs.Collection.{Start, CanCollect, AreCounted, IsWordOf, IsExternal, ReachedPlace, Kept, moved, moved_root, IsNoReference, IsMoved, Collected, KindCollected}
use Rattle.gc_heap.proofs.SpacedLemmas.{Spaced-in}
use Rattle.gc_memory.proofs.ListLemmas.{only_item, contains_in, in_contains, in_map, map_in}
use Rattle.gc_heap.proofs.ReferenceLemmas.{HasSameShape, references_spaced, same_offsets, typed_kept, external_none}
use Rattle.gc_heap.proofs.AddedLemmas.{start, array_bases}

-- what a root names is kept
pub kept_by_root : (layouts : Layouts) (s : Start) (place : ℕ) (r : Root) → IsHeld s.heap place → Contains s.roots r → r.word ≡ place → Kept layouts s place
kept_by_root Null s place r held among is = held
kept_by_root Counting s place r held among is = by_start (record { held = held; root = r; among = among; names = is })
kept_by_root Copying s place r held among is = by_start (record { held = held; root = r; among = among; names = is })

-- what a kept object names is kept
pub kept_by_field : (layouts : Layouts) (s : Start) (place from : ℕ) (o : HeapObject) → IsHeld s.heap place → Kept layouts s from → get s.heap.content from ≡ Some o → Contains (references layouts s.types o) place → Kept layouts s place
kept_by_field Null s place from o held kept got among = held
kept_by_field Counting s place from o held kept got among = by_step kept (record { held = held; object = o; there = got; among = among })
kept_by_field Copying s place from o held kept got among = by_step kept (record { held = held; object = o; there = got; among = among })

reached_held : (layouts : Layouts) (s : Start) (place : ℕ) → ReachedPlace layouts s place → IsHeld s.heap place
reached_held layouts s _ (by_start named) = named.held
reached_held layouts s _ (by_step reached named) = named.held

-- what is kept was held
pub kept_held : (layouts : Layouts) (s : Start) (place : ℕ) → Kept layouts s place → IsHeld s.heap place
kept_held Null s place kept = kept
kept_held Counting s place kept = reached_held Counting s place kept
kept_held Copying s place kept = reached_held Copying s place kept

-- the word of a place is moved with its object
pub moved-place : (to : ℕ → ℕ) (place : ℕ) → place % 16 ≡ 0 → 0 < place → moved to place ≡ to place
moved-place to place aligned above = grind (arith, nat_tests)

moved-null : (to : ℕ → ℕ) (word : ℕ) → word ≡ 0 → moved to word ≡ 0
moved-null to word null = ap (moved to) null

moved-number : (to : ℕ → ℕ) (word : ℕ) → word % 2 ≡ 1 → moved to word ≡ word
moved-number to word odd = grind (arith, nat_tests)

-- an external object has no references
pub external_offsets : (layouts : Layouts) (types : List Declaration) (o : HeapObject) → o.kind ≡ ExternRef → IsSpare layouts o → reference_offsets layouts types o ≡ []
external_offsets Null types o is spare = ap (typed_offsets Null types o) is
external_offsets Counting types o is spare = ap (typed_offsets Counting types o) is
external_offsets Copying types o is spare = external_none types o (subst (TracesInside o) is spare.1)

-- the length of an array is no reference
pub length_apart : (layouts : Layouts) (types : List Declaration) (o : HeapObject) (at : ℕ) → o.kind ≡ ArrayRef → Spaced (writable_offset layouts o.kind) (held_size layouts o) (reference_offsets layouts types o)
    → at < 4 → IsNoReference (reference_offsets layouts types o) (struct_base layouts + at)
length_apart layouts types o at is spaced below = λ offset among.
    let from_array : Spaced (array_base layouts) (held_size layouts o) (reference_offsets layouts types o) = subst (λ k. Spaced (writable_offset layouts k) (held_size layouts o) (reference_offsets layouts types o)) is spaced in
    let inside = Spaced-in (array_base layouts) (held_size layouts o) (reference_offsets layouts types o) offset from_array (contains_in (reference_offsets layouts types o) offset among) in
    let bases = array_bases layouts in
    let before : struct_base layouts + at < offset = omega (arith, inside.0) in
    inl before

-- a moved object has the shape of the old one
pub moved_shape : (layouts : Layouts) (types : List Declaration) (to : ℕ → ℕ) (o x : HeapObject) → IsMoved layouts types to o x → Spaced (writable_offset layouts o.kind) (held_size layouts o) (reference_offsets layouts types o) → HasSameShape o x
moved_shape layouts types to o x is spaced = record {
  kind = is.kind;
  ty = is.ty;
  spare = is.spare;
  size = is.size;
  count = λ array. u32_in_same o.bytes x.bytes 0 (record { same_length = is.size; at = λ j d lo hi. is.rest j d (length_apart layouts types o j array spaced hi) });
}

counts_again : (layouts : Layouts) (s : Start) (h : HeapView) (roots : List Root) (to : ℕ → ℕ) → KindCollected layouts s to h roots → AreCounted layouts s.types h roots
counts_again Null s h roots to is = tt
counts_again Counting s h roots to is = is.1.0.exact
counts_again Copying s h roots to is = tt

-- Where an object was before a collection.
pub record Origin (layouts : Layouts) (s : Start) (to : ℕ → ℕ) (q : ℕ) (x : HeapObject) : Type 0 where
  pub place : ℕ
  pub object : HeapObject
  pub kept : Kept layouts s place
  pub held : get s.heap.content place ≡ Some object
  pub is_moved : IsMoved layouts s.types to object x
  pub at : to place ≡ q

module _ (layouts : Layouts) (s : Start) (h : HeapView) (roots : List Root) (hosts : ℕ → Bool) (heap : IsHeap layouts s.heap) (can : CanCollect layouts s) (done : Collected layouts s h roots hosts) where
  pub origin : (q : ℕ) (x : HeapObject) → get h.content q ≡ Some x → Origin layouts s done.to q x
  origin q x is =
      let from = done.only q (x, is) in
      let was = kept_held layouts s from.0 from.1.0 in
      let after = done.kept from.0 was.0 from.1.0 was.1 in
      let both : Some after.0 ≡ Some x = sym after.1.0 ∙ ap (get h.content) from.1.1 ∙ is in
      let same : after.0 ≡ x = cc in
      record { place = from.0; object = was.0; kept = from.1.0; held = was.1; is_moved = subst (IsMoved layouts s.types done.to was.0) same after.1.1; at = from.1.1 }

  spaced_at : (p : ℕ) (o : HeapObject) → get s.heap.content p ≡ Some o → Spaced (writable_offset layouts o.kind) (held_size layouts o) (reference_offsets layouts s.types o)
  spaced_at p o is = references_spaced layouts s.types o (heap.objects p o is).spare (can.typed p o is)

  shape_at : (q : ℕ) (x : HeapObject) (from : Origin layouts s done.to q x) → HasSameShape from.object x
  shape_at q x from = moved_shape layouts s.types done.to from.object x from.is_moved (spaced_at from.place from.object from.held)

  -- a moved word names an object where the old one did
  word_moved : (w : ℕ) → IsWordOf s.heap w → (IsHeld s.heap w → Kept layouts s w) → IsWordOf h (moved done.to w)
  word_moved w (inl null) kept = inl (moved-null done.to w null)
  word_moved w (inr (inl odd)) kept = inr (inl (ap (λ n. n % 2) (moved-number done.to w odd) ∙ odd))
  word_moved w (inr (inr held)) kept =
      let lies = heap.objects w held.0 held.1 in
      let after = done.kept w held.0 (kept held) held.1 in
      inr (inr (after.0, ap (get h.content) (moved-place done.to w lies.aligned lies.not_null) ∙ after.1.0))

  fields_again : (q : ℕ) (x : HeapObject) (w : ℕ) → get h.content q ≡ Some x → Contains (references layouts s.types x) w → IsWordOf h w
  fields_again q x w is has =
      let from = origin q x is in
      let o : HeapObject = from.object in
      let offsets : List ℕ = reference_offsets layouts s.types o in
      let same : reference_offsets layouts s.types x ≡ offsets = same_offsets layouts s.types o x (shape_at q x from) (heap.objects from.place o from.held).spare (can.typed from.place o from.held) in
      let found = in_map (word_in layouts x) offsets w (contains_in (map (word_in layouts x) offsets) w (subst (λ os. Contains (map (word_in layouts x) os) w) same has)) in
      let old : ℕ = word_in layouts o found.0 in
      let among : Contains (references layouts s.types o) old = in_contains (references layouts s.types o) old (map_in (word_in layouts o) offsets found.0 found.1.0) in
      let moves : moved done.to old ≡ w = sym (from.is_moved.refers found.0 (in_contains offsets found.0 found.1.0)) ∙ found.1.1 in
      subst (IsWordOf h) moves (word_moved old (can.fields from.place o old from.held among) (λ held. kept_by_field layouts s old from.place o held from.kept from.held among))

  -- an external object was one, with the same host value
  pub external_origin : (q : ℕ) (x : HeapObject) (from : Origin layouts s done.to q x) → IsExternal h q x → IsExternal s.heap from.place from.object × (host_id x ≡ host_id from.object)
  external_origin q x from is =
      let o : HeapObject = from.object in
      let kind : o.kind ≡ ExternRef = sym from.is_moved.kind ∙ is.kind in
      let none = external_offsets layouts s.types o kind (heap.objects from.place o from.held).spare in
      let bytes : x.bytes ≡ o.bytes = same_lists _ _ from.is_moved.size (λ at d below. from.is_moved.rest at d (λ offset among.
      let nothing : Contains [] offset = subst (λ offsets. Contains offsets offset) none among in
      absurd (omega (arith, nothing.1)))) in
      (record { held = from.held; kind = kind }, ap (λ bs. u32_at bs 0 - 1) bytes)

  hosts_again : (q : ℕ) (x : HeapObject) → IsExternal h q x → hosts (host_id x) ≡ true
  hosts_again q x is =
      let from = origin q x is.held in
      let was = external_origin q x from is in
      ap hosts was.1
      ∙ done.hosts_kept (host_id from.object) (λ p y e same. subst (Kept layouts s) (can.own_hosts from.place p from.object y was.0 e (sym same)) from.kept)
      ∙ can.hosts from.place from.object was.0

  own_again : (q q' : ℕ) (x x' : HeapObject) → IsExternal h q x → IsExternal h q' x' → host_id x ≡ host_id x' → q ≡ q'
  own_again q q' x x' is is' same =
      let from = origin q x is.held in
      let from' = origin q' x' is'.held in
      let was = external_origin q x from is in
      let was' = external_origin q' x' from' is' in
      sym from.at ∙ ap done.to (can.own_hosts from.place from'.place from.object from'.object was.0 was'.0 (sym was.1 ∙ same ∙ was'.1)) ∙ from'.at

  root_words : (rs : List Root) → ((r : Root) → Contains rs r → IsWordOf h (moved done.to r.word)) → (r : Root) → Contains (map (moved_root done.to) rs) r → IsWordOf h r.word
  root_words [] each r among = absurd (omega (arith, among.1))
  root_words (x ∷ rs) each r among = elim (Contains-append_cases (moved_root done.to x ∷ []) (map (moved_root done.to) rs) r among) [
    | inl first ↦ subst (λ (r : Root). IsWordOf h r.word) (only_item (moved_root done.to x) r first) (each x (0, omega arith, refl))
    | inr later ↦ root_words rs (λ y i. each y (Contains-append_right (x ∷ []) rs y i)) r later
  ]

  -- A collection may begin again.
  pub can_collect_again : CanCollect layouts (start h roots s.types hosts)
  can_collect_again = record {
    attached = done.attached;
    open_scopes = done.scopes;
    roots = λ r among. root_words s.roots (λ x i. word_moved x.word (can.roots x i) (λ held. kept_by_root layouts s x.word x held i refl)) r (subst (λ rs. Contains rs r) done.roots_moved among);
    fields = fields_again;
    typed = λ q x is. let from = origin q x is in typed_kept layouts s.types from.object x (shape_at q x from) (can.typed from.place from.object from.held);
    hosts = hosts_again;
    own_hosts = own_again;
    counts = counts_again layouts s h roots done.to done.by_kind;
  }
