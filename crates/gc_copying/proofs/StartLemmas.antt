-- Where a collection begins in objects, it begins in bytes.
use Rattle.std.proofs.Common.{◌≡◌, ℕ, ◌+◌, ◌*◌, ◌/◌, ◌%◌, ◌<◌, ◌≤◌, ◌^◌, Bool, cond, List, [], ◌∷◌, length, Some, refl, sym, ap, subst, ◌∙◌, inl, inr, arith, Contains}
use Rattle.std.specs.FinMap as finite
use Rattle.std.proofs.lemmas.Bool.{cases_eq, eq-eqb, ne_eqb}
use Rattle.std.proofs.lemmas.List.Elements.{Contains-append_cases, Contains-append_right}
use Rattle.gc_types.specs.declared.kind.Layouts.TheVariants.{Copying}
use Rattle.gc_types.specs.declared.kind.VMGcKind.TheVariants.{ExternRef}
use Rattle.gc_types.specs.Kinds.{kind_bits, kind_of}
use Rattle.gc_refs.specs.Header.{spare_bits, kind_part}
use Rattle.gc_refs.specs.Trace.{form_of}
use Rattle.gc_roots.specs.Roots.{Root}
use Rattle.gc_memory.specs.Words.{word}
use Rattle.gc_memory.specs.Lists.{In, here, there}
use Rattle.gc_view.specs.Pages.{page}
use Rattle.gc_view.specs.Heaps.{HeapObject, HeapView}
use Rattle.gc_heap.specs.Objects.{held_size, HasFields}
use Rattle.gc_heap.specs.References.{reference_offsets, references, word_in, Spaced}
use Rattle.gc_heap.specs.Content.{IsHeld, half_of}
use Rattle.gc_heap.specs.Collection.{Start, IsWordOf, CanCollect}
use Rattle.gc_heap.specs.Collection as content
use Rattle.gc_copying.specs.Spaces.{half_start, half_end, half_first}
use Rattle.gc_copying.specs.Layout.{copying_first_place, copying_size_at, places_in, copying_kind_at, copying_object_at}
use Rattle.gc_copying.specs.Content.{CopyingLinked, last, link, IsCopyingWhole}
use Rattle.gc_copying.specs.ObjectLaws.{held_size-copying, held_only, FoundAt}
use Rattle.gc_copying.proofs.ObjectLemmas.{held_in}
use Rattle.gc_copying.specs.HeapLaws.{nothing, sixteen, skips, half_lies, first_aligned, LiesInSpace, lies_in_space}
use Rattle.gc_copying.specs.CopyWords.{copying_offsets_at, IsCopyingExternal}
use Rattle.gc_copying.specs.CopyStart.{From, IsFrom, IsCopyingWord, ListsExternals}
use Rattle.gc_copying.specs.CopyStart as start
use Rattle.gc_view.specs.Reach as reach
use Rattle.gc_copying.specs.CopySteps.{words_of_roots}
use Rattle.gc_copying.specs.CopyBetween.{start_in_bytes, CopyingBeginsIn}
use Rattle.gc_heap.proofs.SpacedLemmas.{Spaced-in}
use Rattle.gc_copying.proofs.ReferenceLemmas.{field_word, same_form, refs_are, refs_fields, external_none, refs_spaced}
use Rattle.gc_heap.proofs.ReferenceLemmas.{outside, by_bits, by_length, by_type, form_is}
use Rattle.gc_memory.proofs.ListLemmas.{only_item, contains_in, in_contains, map_in, in_map}

-- the words of roots, and the roots of words
pub word_of_root : (rs : List Root) (r : Root) → Contains rs r → In r.word (words_of_roots rs)
word_of_root [] r c = absurd (omega (arith, c.1))
word_of_root (x ∷ rs) r c = elim (Contains-append_cases (x ∷ []) rs r c) [
  | inl one ↦ subst (λ (y : Root). In y.word (words_of_roots (x ∷ rs))) (only_item x r one) here
  | inr rest ↦ there (word_of_root rs r rest)
]

pub root_of_word : (rs : List Root) (w : ℕ) → In w (words_of_roots rs) → (r : Root) × (Contains rs r × (r.word ≡ w))
root_of_word [] w i = elim i [ ]
root_of_word (x ∷ rs) _ here = (x, ((0, omega arith, refl), refl))
root_of_word (x ∷ rs) w (there i) = let r = root_of_word rs w i in (r.0, (Contains-append_right (x ∷ []) rs r.0 r.1.0, r.1.1))

-- in whole pages both ways to skip the first bytes agree
pub first_same : (n : ℕ) (upper : Bool) → n % page ≡ 0 → copying_first_place n upper ≡ half_first n upper
first_same n upper pages = elim (cases_eq n 0) [
  | inl e ↦
      let none : half_of n ≡ 0 = omega arith in
      ap (λ b. half_start n upper + cond b 0 16) (eq-eqb n 0 e ∙ sym (eq-eqb (half_of n) 0 none))
  | inr ne ↦
      let some : half_of n ≡ 0 → ⊥ = λ z. ne (omega arith) in
      ap (λ b. half_start n upper + cond b 0 16) (ne_eqb n 0 ne ∙ sym (ne_eqb (half_of n) 0 some))
]

-- the kind word of an external object
pub external_bits_are : (m : List ℕ) (p : ℕ) → kind_bits (copying_kind_at m p) ≡ kind_part (word m p) → copying_kind_at m p ≡ ExternRef → IsCopyingExternal m p
external_bits_are m p kind is =
    let e : kind_bits ExternRef ≡ kind_part (word m p) = subst (λ k. kind_bits k ≡ kind_part (word m p)) is kind in
    omega arith

pub kind_by_bits : (m : List ℕ) (p : ℕ) → IsCopyingExternal m p → copying_kind_at m p ≡ ExternRef
unfolding copying_kind_at
kind_by_bits m p e = ap (λ (q : ℕ). kind_of (q * spare_bits)) e

linked_so : (m : List ℕ) (head : ℕ) (ps : List ℕ) → CopyingLinked m head ps → start.NextExternals m head ps
linked_so m _ [] last = start.none
linked_so m _ (p ∷ ps) (link some l) = start.link some (linked_so m (word m (p + 20)) ps l)

low_by : (n : ℕ) (upper : Bool) (bump : ℕ) → bump ≤ half_end n upper → 0 < bump → 16 ≤ copying_first_place n upper
low_by n upper bump inside some = elim (skips n upper) [
  | nothing e skip begins half ↦ absurd (omega arith)
  | sixteen more skip ↦ omega arith
]

small_form : (w : ℕ) → w % spare_bits < 2 ^ 25 → w / 33554432 % 2 ≡ 0
small_form w h = omega arith

-- no whole object's trace word has the fourth form
whole_form : (m : List ℕ) (p : ℕ) → IsCopyingWhole m p → form_of (word m p) ≡ 3 → ⊥
whole_form m p whole three =
    let same : form_of (word m p % spare_bits) ≡ form_of (word m p) = same_form (word m p) in
    elim (form_is (copying_object_at m p) (copying_kind_at m p) whole.spare.1) [
      | outside is none ↦ omega arith
      | by_bits fields form all ↦ omega arith
      | by_length is form all ↦ omega arith
      | by_type fields form ↦ omega arith
    ]

module _ (s : Start) (m : List ℕ) (upper : Bool) (bump head objects scopes : ℕ) (b : CopyingBeginsIn s m upper bump head objects scopes) where
  abbrev pub from : From
  from = start_in_bytes s m upper bump head

  pub lies_so : (p : ℕ) → In p (places_in m upper bump) → LiesInSpace m upper bump p
  lies_so p i = lies_in_space m upper bump head objects p b.space i

  -- the object at a place
  pub held : (p : ℕ) → In p (places_in m upper bump) → finite.get s.heap.content p ≡ Some (copying_object_at m p)
  held p i = ap (λ (h : HeapView). finite.get h.content p) (sym b.heap_is) ∙ held_in m p (places_in m upper bump) i

  pub found : (p : ℕ) (o : HeapObject) → finite.get s.heap.content p ≡ Some o → FoundAt m (places_in m upper bump) p o
  found p o e = held_only m p o (places_in m upper bump) (ap (λ (h : HeapView). finite.get h.content p) b.heap_is ∙ e)

  pub is_held : (p : ℕ) → In p (places_in m upper bump) → IsHeld s.heap p
  is_held p i = (copying_object_at m p, held p i)

  pub held_place : (p : ℕ) → IsHeld s.heap p → In p (places_in m upper bump)
  held_place p h = (found p h.0 h.1).among

  -- its references
  pub refs_so : (p : ℕ) → In p (places_in m upper bump) → reference_offsets Copying s.types (copying_object_at m p) ≡ copying_offsets_at s.types m p
  refs_so p i = let l = lies_so p i in refs_are s.types m p (b.space.whole p i) l.least l.inside

  pub spaced_so : (p : ℕ) → In p (places_in m upper bump) → Spaced 12 (copying_size_at m p) (copying_offsets_at s.types m p)
  spaced_so p i =
      let l = lies_so p i in
      let w = b.space.whole p i in
      let s1 : Spaced 12 (held_size Copying (copying_object_at m p)) (reference_offsets Copying s.types (copying_object_at m p)) = refs_spaced s.types (copying_object_at m p) w.spare (b.can.typed p (copying_object_at m p) (held p i)) in
      let s2 : Spaced 12 (copying_size_at m p) (reference_offsets Copying s.types (copying_object_at m p)) = subst (λ n. Spaced 12 n (reference_offsets Copying s.types (copying_object_at m p))) (held_size-copying m p w l.inside) s1 in
      subst (Spaced 12 (copying_size_at m p)) (refs_so p i) s2

  pub ref_fields : (p o : ℕ) → In p (places_in m upper bump) → In o (copying_offsets_at s.types m p) → HasFields (copying_kind_at m p)
  ref_fields p o i j = refs_fields s.types (copying_object_at m p) o (b.space.whole p i).spare.1 (subst (In o) (sym (refs_so p i)) j)

  pub word_so : (p o : ℕ) → In p (places_in m upper bump) → In o (copying_offsets_at s.types m p) → word_in Copying (copying_object_at m p) o ≡ word m (p + o)
  word_so p o i j =
      let inside = Spaced-in 12 (copying_size_at m p) (copying_offsets_at s.types m p) o (spaced_so p i) j in
      field_word m p o (copying_kind_at m p) (ref_fields p o i j) inside.0 inside.1 (lies_so p i).inside

  pub names : (p o : ℕ) → In p (places_in m upper bump) → In o (copying_offsets_at s.types m p) → Contains (references Copying s.types (copying_object_at m p)) (word m (p + o))
  names p o i j =
      subst (Contains (references Copying s.types (copying_object_at m p))) (word_so p o i j)
      (in_contains (references Copying s.types (copying_object_at m p)) (word_in Copying (copying_object_at m p) o)
      (map_in (word_in Copying (copying_object_at m p)) (reference_offsets Copying s.types (copying_object_at m p)) o (subst (In o) (sym (refs_so p i)) j)))

  -- a word of an object is a reference's
  pub named_by : (p w : ℕ) → In p (places_in m upper bump) → Contains (references Copying s.types (copying_object_at m p)) w → (o : ℕ) × (In o (copying_offsets_at s.types m p) × (word m (p + o) ≡ w))
  named_by p w i c =
      let r = in_map (word_in Copying (copying_object_at m p)) (reference_offsets Copying s.types (copying_object_at m p)) w (contains_in _ w c) in
      let j : In r.0 (copying_offsets_at s.types m p) = subst (In r.0) (refs_so p i) r.1.0 in
      (r.0, (j, sym (word_so p r.0 i j) ∙ r.1.1))

  word_is : (w : ℕ) → IsWordOf s.heap w → IsCopyingWord from w
  word_is w (inl e) = inl e
  word_is w (inr (inl odd)) = inr (inl odd)
  word_is w (inr (inr h)) = inr (inr (held_place w h))

  pub externals_so : ListsExternals m head (places_in m upper bump)
  externals_so =
      let x = b.space.externals in
      record {
        listed = x.list;
        linked = linked_so m head x.list x.linked;
        only = λ p i. let o = x.only p i in (o.0, external_bits_are m p (b.space.whole p o.0).kind o.1);
        all = λ p i e. x.each p i (kind_by_bits m p e);
        once = x.once;
      }

  -- A collection may begin in bytes.
  pub is_from : IsFrom from
  is_from =
      let h = half_lies (length m) upper in
      record {
        chain = b.space.chain;
        aligned = first_aligned (length m) upper;
        low = λ some. low_by (length m) upper bump b.space.inside some;
        inside = omega (arith, b.space.inside, h.to);
        small = omega (arith, b.space.bound);
        fresh = λ p i. small_form (word m p) (b.space.whole p i).spare.0;
        form = λ p i three. whole_form m p (b.space.whole p i) three;
        spaced = spaced_so;
        fields = λ p o i j. word_is (word m (p + o)) (b.can.fields p (copying_object_at m p) (word m (p + o)) (held p i) (names p o i j));
        roots = λ w i. let r = root_of_word s.roots w i in word_is w (subst (IsWordOf s.heap) r.1.1 (b.can.roots r.0 r.1.0));
        externals = externals_so;
        external_size = λ p i e. let x = ((b.space.whole p i).external (kind_by_bits m p e)).size in omega arith;
        external_refs = λ p i e. sym (refs_so p i) ∙ external_none s.types (copying_object_at m p) (kind_by_bits m p e) (b.space.whole p i).spare.1;
        hosts = λ p i e. let x = (b.space.whole p i).external (kind_by_bits m p e) in (x.from, x.to);
      }

  -- what is reached, in objects and in bytes
  pub reached_so : (p : ℕ) → content.ReachedPlace Copying s p → start.CopyingReached from p
  reached_so p (reach.by_start named) =
      reach.by_start (held_place p named.held, subst (λ w. In w (words_of_roots s.roots)) named.names (word_of_root s.roots named.root named.among))
  reached_so p (reach.by_step {y = q} r named) =
      let f = found q named.object named.there in
      let n = named_by q p f.among (subst (λ (x : HeapObject). Contains (references Copying s.types x) p) f.is named.among) in
      reach.by_step (reached_so q r) (held_place p named.held, (n.0, (n.1.0, n.1.1)))

  pub reached_in : (p : ℕ) → start.CopyingReached from p → In p (places_in m upper bump)
  reached_in p (reach.by_start (i, j)) = i
  reached_in p (reach.by_step r (i, named)) = i

  pub reached_back : (p : ℕ) → start.CopyingReached from p → content.ReachedPlace Copying s p
  reached_back p (reach.by_start (i, j)) =
      let r = root_of_word s.roots p j in
      reach.by_start (record { held = is_held p i; root = r.0; among = r.1.0; names = r.1.1 })
  reached_back p (reach.by_step {y = q} r (i, (o, (j, e)))) =
      let k = reached_in q r in
      reach.by_step (reached_back q r) (record {
        held = is_held p i;
        object = copying_object_at m q;
        there = held q k;
        among = subst (Contains (references Copying s.types (copying_object_at m q))) e (names q o k j);
      })
