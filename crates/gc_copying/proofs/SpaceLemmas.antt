-- What the changes of a memory leave of the objects of a copying heap.
use Rattle.std.proofs.Common.{◌≡◌, ℕ, ◌+◌, ◌-◌, ◌*◌, ◌%◌, ◌<◌, ◌≤◌, Bool, List, [], ◌∷◌, ◌++◌, take, drop, length, map, None, refl, sym, ap, ap₂, subst, ◌∙◌, inl, inr, arith}
use Rattle.std.specs.Ordering.{nat_cmp}
use Rattle.std.specs.Cmp.{nat_cmp_total}
use Rattle.std.specs.FinMap as finite
use Rattle.std.proofs.lemmas.Bool.{cases_eq}
use Rattle.std.proofs.lemmas.List.{length-append, map-append}
use Rattle.gc_types.specs.declared.kind.Layouts.TheVariants.{Copying}
use Rattle.gc_types.specs.declared.kind.VMGcKind.{VMGcKind}
use Rattle.gc_types.specs.declared.kind.VMGcKind.TheVariants.{ExternRef, AnyRef, EqRef, StructRef, ArrayRef, ExnRef}
use Rattle.gc_types.specs.Kinds.{kind_bits, kind_of}
use Rattle.gc_types.specs.Layouts.{round_up}
use Rattle.gc_refs.specs.Header.{spare_bits, kind_part}
use Rattle.gc_memory.specs.Words.{word}
use Rattle.gc_memory.specs.Lists.{In, here, there, occ}
use Rattle.gc_memory.specs.Chains.{Chain}
use Rattle.gc_memory.proofs.ChainLemmas.{Chain-resized, Chain-push, Chain-places}
use Rattle.gc_memory.proofs.ChangeLemmas.{Wrote-before}
use Rattle.gc_memory.proofs.ListLemmas.{In-left, In-right, In-split, In-one, occ-none, occ-same, occ-other}
use Rattle.gc_memory.proofs.WordLemmas.{word_in_same}
use Rattle.gc_view.specs.Pages.{page, max_pages}
use Rattle.gc_view.specs.Bytes.{SameBytes}
use Rattle.gc_view.proofs.ByteLemmas.{SameBytes-part, part_in_same}
use Rattle.gc_view.specs.Heaps.{HeapObject}
use Rattle.gc_heap.specs.Objects.{first_offset, IsObjectKind}
use Rattle.gc_heap.specs.Content.{IsSpare}
use Rattle.gc_heap.specs.Heap.{HasRoom}
use Rattle.gc_copying.specs.Spaces.{half_end}
use Rattle.gc_copying.specs.Layout.{copying_first_place, copying_size_at, places_in, copying_kind_at, copying_data_at, copying_object_at}
use Rattle.gc_copying.specs.Content.{objects_at, space_view, IsCopyingWhole, CopyingLinked, last, link, ExternalsLinked, IsSpace}
use Rattle.gc_copying.specs.ObjectLaws.{held_none}
use Rattle.gc_copying.specs.HeapLaws.{nothing, sixteen, skips, lies_in_space, blocks_are}
use Rattle.gc_copying.proofs.PlacedObjects.{PutsObject, MovesHead}

-- the kind of an object whose kind word stays
pub kind_in_same : (a b : List ℕ) (p : ℕ) → word b p ≡ word a p → copying_kind_at b p ≡ copying_kind_at a p
unfolding copying_kind_at
kind_in_same a b p e = ap (λ w. kind_of (kind_part w)) e

data_in_same : (a b : List ℕ) (p n : ℕ) (k : VMGcKind) → first_offset Copying k ≤ n → (k ≡ ExternRef → n ≡ 32) → n ≡ copying_size_at a p → copying_size_at b p ≡ copying_size_at a p
    → SameBytes a b p (p + n) → copying_data_at b p k ≡ copying_data_at a p k
unfolding copying_data_at
data_in_same a b p n ExternRef least ext size same s =
    let whole : n ≡ 32 = ext refl in
    part_in_same a b (p + 16) 4 (SameBytes-part s (p + 16) (p + 16 + 4) (omega arith) (omega arith))
data_in_same a b p n AnyRef least ext size same s =
    ap (λ k. take (k - 12) (drop (p + 12) b)) same ∙ part_in_same a b (p + 12) (copying_size_at a p - 12) (SameBytes-part s (p + 12) (p + 12 + (copying_size_at a p - 12)) (omega arith) (omega arith))
data_in_same a b p n EqRef least ext size same s =
    ap (λ k. take (k - 12) (drop (p + 12) b)) same ∙ part_in_same a b (p + 12) (copying_size_at a p - 12) (SameBytes-part s (p + 12) (p + 12 + (copying_size_at a p - 12)) (omega arith) (omega arith))
data_in_same a b p n StructRef least ext size same s =
    ap (λ k. take (k - 12) (drop (p + 12) b)) same ∙ part_in_same a b (p + 12) (copying_size_at a p - 12) (SameBytes-part s (p + 12) (p + 12 + (copying_size_at a p - 12)) (omega arith) (omega arith))
data_in_same a b p n ArrayRef least ext size same s =
    ap (λ k. take (k - 12) (drop (p + 12) b)) same ∙ part_in_same a b (p + 12) (copying_size_at a p - 12) (SameBytes-part s (p + 12) (p + 12 + (copying_size_at a p - 12)) (omega arith) (omega arith))
data_in_same a b p n ExnRef least ext size same s =
    ap (λ k. take (k - 12) (drop (p + 12) b)) same ∙ part_in_same a b (p + 12) (copying_size_at a p - 12) (SameBytes-part s (p + 12) (p + 12 + (copying_size_at a p - 12)) (omega arith) (omega arith))

-- What is as before of an object.
pub record SameObject (a b : List ℕ) (p : ℕ) : Type 0 where
  pub size : copying_size_at b p ≡ copying_size_at a p
  pub kind : copying_kind_at b p ≡ copying_kind_at a p
  pub object : copying_object_at b p ≡ copying_object_at a p
  pub whole : IsCopyingWhole b p
  pub next : copying_kind_at a p ≡ ExternRef → word b (p + 20) ≡ word a (p + 20)

pub same_object : (x y : HeapObject) → x.kind ≡ y.kind → x.ty ≡ y.ty → x.spare ≡ y.spare → x.bytes ≡ y.bytes → x ≡ y
same_object x y kind ty spare bytes = λ i. record { kind = kind i; ty = ty i; spare = spare i; bytes = bytes i }

-- an object whose words stay is whole
pub whole_in_same : (a b : List ℕ) (p : ℕ) → IsCopyingWhole a p → word b p ≡ word a p → copying_size_at b p ≡ copying_size_at a p → IsSpare Copying (copying_object_at b p)
    → (copying_kind_at a p ≡ ExternRef → word b (p + 16) ≡ word a (p + 16)) → IsCopyingWhole b p
whole_in_same a b p w same size spare host =
    let kind : copying_kind_at b p ≡ copying_kind_at a p = kind_in_same a b p same in
    record {
      kind = ap kind_bits kind ∙ w.kind ∙ ap kind_part (sym same);
      object_kind = subst IsObjectKind (sym kind) w.object_kind;
      least = subst (λ k. first_offset Copying k ≤ copying_size_at b p) (sym kind) (subst (λ n. first_offset Copying (copying_kind_at a p) ≤ n) (sym size) w.least);
      spare = spare;
      external = λ e.
          let x = w.external (sym kind ∙ e) in
          let id = host (sym kind ∙ e) in
          record { size = size ∙ x.size; from = subst (λ n. 0 < n) (sym id) x.from; to = omega (arith, x.to, id) };
    }

-- an object whose bytes stay is the same
pub object_in_same : (a b : List ℕ) (p : ℕ) → IsCopyingWhole a p → 16 ≤ copying_size_at a p → SameBytes a b p (p + copying_size_at a p) → SameObject a b p
object_in_same a b p w least s =
    let first : word b p ≡ word a p = word_in_same a b p (SameBytes-part s p (p + 4) (omega arith) (omega arith)) in
    let ty : word b (p + 4) ≡ word a (p + 4) = word_in_same a b (p + 4) (SameBytes-part s (p + 4) (p + 4 + 4) (omega arith) (omega arith)) in
    let size : copying_size_at b p ≡ copying_size_at a p = word_in_same a b (p + 8) (SameBytes-part s (p + 8) (p + 8 + 4) (omega arith) (omega arith)) in
    let kind : copying_kind_at b p ≡ copying_kind_at a p = kind_in_same a b p first in
    let held : copying_data_at b p (copying_kind_at b p) ≡ copying_data_at a p (copying_kind_at a p) =
    ap (copying_data_at b p) kind ∙ data_in_same a b p (copying_size_at a p) (copying_kind_at a p) w.least (λ e. (w.external e).size) refl size s in
    let object : copying_object_at b p ≡ copying_object_at a p = same_object _ _ kind ty (ap (λ n. n % spare_bits) first) held in
    record {
      size = size;
      kind = kind;
      object = object;
      whole = whole_in_same a b p w first size (subst (IsSpare Copying) (sym object) w.spare)
          (λ e. let n = (w.external e).size in word_in_same a b (p + 16) (SameBytes-part s (p + 16) (p + 16 + 4) (omega arith) (omega arith)));
      next = λ e. let n = (w.external e).size in word_in_same a b (p + 20) (SameBytes-part s (p + 20) (p + 20 + 4) (omega arith) (omega arith));
    }

-- links that stay
pub linked_in_same : (a b : List ℕ) (head : ℕ) (ps : List ℕ) → CopyingLinked a head ps → ((p : ℕ) → In p ps → word b (p + 20) ≡ word a (p + 20)) → CopyingLinked b head ps
linked_in_same a b _ [] last same = last
linked_in_same a b _ (p ∷ ps) (link positive rest) same =
    link positive (subst (λ w. CopyingLinked b w ps) (sym (same p here)) (linked_in_same a b (word a (p + 20)) ps rest (λ q i. same q (there i))))

-- the map of objects that are each the same
pub objects_same : (a b : List ℕ) (ps : List ℕ) → ((p : ℕ) → In p ps → copying_object_at b p ≡ copying_object_at a p) → objects_at b ps ≡ objects_at a ps
objects_same a b [] same = refl
objects_same a b (p ∷ ps) same = ap₂ (λ m o. finite.insert m p o) (objects_same a b ps (λ q i. same q (there i))) (same p here)

-- a chain of whole objects in half of a memory is a space
pub space_of : (bytes : List ℕ) (upper : Bool) (bump head objects : ℕ) (ps : List ℕ) → length bytes % page ≡ 0 → length bytes ≤ page * max_pages
    → Chain (copying_size_at bytes) (copying_first_place (length bytes) upper) bump ps → bump ≤ half_end (length bytes) upper
    → ((p : ℕ) → In p ps → IsCopyingWhole bytes p) → objects ≡ length ps → ExternalsLinked bytes head ps → IsSpace bytes upper bump head objects
space_of bytes upper bump head objects ps pages bound chain inside whole count externals =
    let are : places_in bytes upper bump ≡ ps = Chain-places (copying_size_at bytes) (copying_first_place (length bytes) upper) bump ps chain in
    record {
      pages = pages;
      bound = bound;
      chain = subst (Chain (copying_size_at bytes) (copying_first_place (length bytes) upper) bump) (sym are) chain;
      inside = inside;
      whole = subst (λ qs. (p : ℕ) → In p qs → IsCopyingWhole bytes p) (sym are) whole;
      count = count ∙ ap length (sym are);
      externals = subst (ExternalsLinked bytes head) (sym are) externals;
    }

-- What a new object at the bump place does.
pub record Adds (a b : List ℕ) (upper : Bool) (bump size head objects : ℕ) (object : HeapObject) : Type 0 where
  pub space : IsSpace b upper (bump + size) head (objects + 1)
  pub content : objects_at b (places_in b upper (bump + size)) ≡ finite.insert (objects_at a (places_in a upper bump)) bump object
  pub fresh : finite.get (objects_at a (places_in a upper bump)) bump ≡ None

-- no object of a space lies at the bump place
not_at_bump : (bytes : List ℕ) (upper : Bool) (bump head objects : ℕ) → IsSpace bytes upper bump head objects → In bump (places_in bytes upper bump) → ⊥
not_at_bump bytes upper bump head objects s i = let l = lies_in_space bytes upper bump head objects bump s i in omega (arith, l.to, l.least)

externals_moved : (a b : List ℕ) (upper : Bool) (bump head head' objects : ℕ) (s : IsSpace a upper bump head objects)
    → ((p : ℕ) → In p (places_in a upper bump) → SameObject a b p) → 0 < bump → MovesHead b bump head head'
    → ExternalsLinked b head' (places_in a upper bump ++ (bump ∷ []))
externals_moved a b upper bump head head' objects s same positive moves =
    let ps : List ℕ = places_in a upper bump in
    let x = s.externals in
    let kept : CopyingLinked b head x.list = linked_in_same a b head x.list x.linked (λ p i. let o = x.only p i in (same p o.0).next o.1) in
    let only : (p : ℕ) → In p x.list → In p (ps ++ (bump ∷ [])) × (copying_kind_at b p ≡ ExternRef) =
    λ p i. let o = x.only p i in (In-left p ps (bump ∷ []) o.0, (same p o.0).kind ∙ o.1) in
    let each : (p : ℕ) → In p ps → copying_kind_at b p ≡ ExternRef → In p x.list = λ p i e. x.each p i (sym (same p i).kind ∙ e) in
    let none : In bump x.list → ⊥ = λ i. not_at_bump a upper bump head objects s (x.only bump i).0 in
    elim moves [
      | inl other ↦ record {
        list = x.list;
        linked = subst (λ h. CopyingLinked b h x.list) (sym other.1) kept;
        only = only;
        each = λ p i e. elim (In-split p ps (bump ∷ []) i) [
          | inl j ↦ each p j e
          | inr j ↦ absurd (other.0 (subst (λ q. copying_kind_at b q ≡ ExternRef) (In-one p bump j) e))
        ];
        once = x.once;
      }
      | inr new ↦ record {
        list = bump ∷ x.list;
        linked = subst (λ h. CopyingLinked b h (bump ∷ x.list)) (sym new.1.0) (link positive (subst (λ h. CopyingLinked b h x.list) (sym new.1.1) kept));
        only = λ p i. external_only p i new.0 only;
        each = λ p i e. elim (In-split p ps (bump ∷ []) i) [
          | inl j ↦ there (each p j e)
          | inr j ↦ subst (λ q. In q (bump ∷ x.list)) (sym (In-one p bump j)) here
        ];
        once = λ p. elim (cases_eq p bump) [
          | inl e ↦ subst (λ q. occ q (bump ∷ x.list) ≤ 1) (sym e) (omega (arith, occ-same bump x.list, occ-none bump x.list none))
          | inr ne ↦ subst (λ n. n ≤ 1) (sym (occ-other p bump x.list ne)) (x.once p)
        ];
      }
    ]
  where
    external_only : (p : ℕ) → In p (bump ∷ s.externals.list) → copying_kind_at b bump ≡ ExternRef
        → ((q : ℕ) → In q s.externals.list → In q (places_in a upper bump ++ (bump ∷ [])) × (copying_kind_at b q ≡ ExternRef))
        → In p (places_in a upper bump ++ (bump ∷ [])) × (copying_kind_at b p ≡ ExternRef)
    external_only _ here kind only = (In-right bump (places_in a upper bump) (bump ∷ []) here, kind)
    external_only p (there i) kind only = only p i

pub adds : (a b : List ℕ) (upper : Bool) (bump size head head' objects : ℕ) (object : HeapObject) → IsSpace a upper bump head objects → PutsObject a b bump object size
    → 16 ≤ size → size % 16 ≡ 0 → bump + size ≤ half_end (length a) upper → 0 < bump → MovesHead b bump head head' → Adds a b upper bump size head' objects object
adds a b upper bump size head head' objects object s puts least units inside positive moves =
    let ps : List ℕ = places_in a upper bump in
    let qs : List ℕ = ps ++ (bump ∷ []) in
    let len : length b ≡ length a = puts.around.same_length in
    let same : (p : ℕ) → In p ps → SameObject a b p = λ p i.
    let l = lies_in_space a upper bump head objects p s i in
    object_in_same a b p (s.whole p i) l.least (Wrote-before puts.around p (p + copying_size_at a p) l.to) in
    let old : Chain (copying_size_at b) (copying_first_place (length a) upper) bump ps =
    Chain-resized (copying_size_at a) (copying_size_at b) (copying_first_place (length a) upper) bump ps s.chain (λ p i. (same p i).size) in
    let own : copying_size_at b bump ≡ size = puts.size_is in
    let pushed : Chain (copying_size_at b) (copying_first_place (length a) upper) (bump + copying_size_at b bump) qs =
    Chain-push (copying_size_at b) (copying_first_place (length a) upper) bump ps old (omega arith) (ap (λ n. n % 16) own ∙ units) in
    let sized : Chain (copying_size_at b) (copying_first_place (length a) upper) (bump + size) qs = subst (λ n. Chain (copying_size_at b) (copying_first_place (length a) upper) (bump + n) qs) own pushed in
    let chain : Chain (copying_size_at b) (copying_first_place (length b) upper) (bump + size) qs = subst (λ n. Chain (copying_size_at b) (copying_first_place n upper) (bump + size) qs) (sym len) sized in
    let are : places_in b upper (bump + size) ≡ qs = Chain-places (copying_size_at b) (copying_first_place (length b) upper) (bump + size) qs chain in
    let fresh : finite.get (objects_at a ps) bump ≡ None = held_none a bump ps (not_at_bump a upper bump head objects s) in
    record {
      space = space_of b upper (bump + size) head' (objects + 1) qs
          (subst (λ n. n % page ≡ 0) (sym len) s.pages)
          (subst (λ n. n ≤ page * max_pages) (sym len) s.bound)
          chain
          (subst (λ n. bump + size ≤ half_end n upper) (sym len) inside)
          (λ p i. elim (In-split p ps (bump ∷ []) i) [ inl j ↦ (same p j).whole | inr j ↦ subst (IsCopyingWhole b) (sym (In-one p bump j)) puts.whole ])
          (ap (λ n. n + 1) s.count ∙ sym (length-append ps (bump ∷ [])))
          (externals_moved a b upper bump head head' objects s same positive moves);
      content = ap (objects_at b) are ∙ pushed_content a b ps bump object (λ p i. (same p i).object) puts.object_is fresh;
      fresh = fresh;
    }
  where
    entry : List ℕ → ℕ → ℕ × HeapObject
    entry bytes p = (p, copying_object_at bytes p)

    pushed_content : (a b : List ℕ) (ps : List ℕ) (bump : ℕ) (object : HeapObject) → ((p : ℕ) → In p ps → copying_object_at b p ≡ copying_object_at a p) → copying_object_at b bump ≡ object
        → finite.get (objects_at a ps) bump ≡ None → objects_at b (ps ++ (bump ∷ [])) ≡ finite.insert (objects_at a ps) bump object
    pushed_content a b ps bump object same is none =
        let es : List (ℕ × HeapObject) = map (λ (p : ℕ). (p, copying_object_at b p)) ps in
        let before : objects_at b ps ≡ objects_at a ps = objects_same a b ps same in
        let none_b : finite.find nat_cmp bump es ≡ None = sym (finite.get-from_entries nat_cmp_total es bump) ∙ ap (λ m. finite.get m bump) before ∙ none in
        ap finite.from_entries (map-append (λ (p : ℕ). (p, copying_object_at b p)) ps (bump ∷ []))
        ∙ finite.from_entries_push nat_cmp_total finite.nat_cmp-IsAntisymmetric es bump (copying_object_at b bump) none_b
        ∙ ap₂ (λ m o. finite.insert m bump o) before is

-- there is room for so many bytes exactly where they end in the active half
pub room_is : (bytes : List ℕ) (upper : Bool) (bump head objects scopes size : ℕ) → IsSpace bytes upper bump head objects → 0 < size
    → HasRoom Copying (space_view bytes upper bump scopes) size → bump + round_up size 16 ≤ half_end (length bytes) upper
room_is bytes upper bump head objects scopes size s positive room =
    let blocks = blocks_are bytes upper bump head objects s in
    elim (skips (length bytes) upper) [
      | nothing e skip start half ↦ absurd (omega arith)
      | sixteen more skip ↦ omega arith
    ]

pub has_room : (bytes : List ℕ) (upper : Bool) (bump head objects scopes size : ℕ) → IsSpace bytes upper bump head objects → 0 < size
    → bump + round_up size 16 ≤ half_end (length bytes) upper → HasRoom Copying (space_view bytes upper bump scopes) size
has_room bytes upper bump head objects scopes size s positive room =
    let blocks = blocks_are bytes upper bump head objects s in
    elim (skips (length bytes) upper) [
      | nothing e skip start half ↦ absurd (omega arith)
      | sixteen more skip ↦ omega arith
    ]
