-- An object that was renamed in bytes has moved.
use Rattle.std.proofs.Common.{◌≡◌, ℕ, ◌+◌, ◌-◌, ◌%◌, ◌<◌, ◌≤◌, ◌^◌, Bool, List, [], take, drop, length, get_or, refl, sym, ap, subst, ◌∙◌, inl, inr, arith}
use Rattle.std.proofs.lemmas.Bool.{cases_lt}
use Rattle.std.proofs.lemmas.List.{get_or_past, get_or-take, get_or-drop, length-take-le, length-drop}
use Rattle.gc_types.specs.declared.kind.Layouts.TheVariants.{Copying}
use Rattle.gc_types.specs.declared.kind.VMGcKind.{VMGcKind}
use Rattle.gc_types.specs.declared.kind.VMGcKind.TheVariants.{ExternRef, AnyRef, EqRef, StructRef, ArrayRef, ExnRef}
use Rattle.gc_types.specs.Kinds.{kind_bits, kind_of}
use Rattle.gc_refs.specs.Header.{spare_bits, kind_part}
use Rattle.gc_tables.specs.SideTables.{max_entries}
use Rattle.gc_memory.specs.Words.{word}
use Rattle.gc_memory.specs.Lists.{In}
use Rattle.gc_memory.proofs.WordLemmas.{word_by_bytes}
use Rattle.gc_heap.specs.Objects.{held_size, first_offset, array_length, HasFields, IsObjectKind}
use Rattle.gc_heap.specs.References.{reference_offsets, Spaced}
use Rattle.gc_heap.specs.Content.{IsSpare, TracesInside}
use Rattle.gc_heap.specs.Collection.{Start, moved, IsMoved}
use Rattle.gc_copying.specs.Layout.{copying_size_at, places_in, copying_kind_at, copying_data_at, copying_object_at}
use Rattle.gc_copying.specs.Content.{IsCopyingWhole, HasCopyingHost}
use Rattle.gc_copying.specs.ObjectLaws.{held_size-copying, length-copying_data_at, length-external}
use Rattle.gc_copying.specs.CopyWords.{copying_offsets_at}
use Rattle.gc_copying.specs.CopyMiddle.{IsOutsideWords}
use Rattle.gc_copying.specs.CopyEnd.{IsRenamed}
use Rattle.gc_copying.specs.CopyBetween.{start_in_bytes, CopyingBeginsIn}
use Rattle.gc_copying.proofs.MidLemmas.{Spaced-outside}
use Rattle.gc_heap.proofs.SpacedLemmas.{Spaced-in}
use Rattle.gc_copying.proofs.WriteLemmas.{traces_same}
use Rattle.gc_copying.proofs.ReferenceLemmas.{length_is, field_word, external_none, array_spaced}
use Rattle.gc_memory.proofs.ListLemmas.{in_contains, contains_in}
use Rattle.gc_copying.proofs.StartLemmas.{lies_so, refs_so, spaced_so, ref_fields, word_so, kind_by_bits}

kind_same : (m m' : List ℕ) (p q : ℕ) → word m' q ≡ word m p → copying_kind_at m' q ≡ copying_kind_at m p
unfolding copying_kind_at
kind_same m m' p q e = ap (λ w. kind_of (kind_part w)) e

length-fields : (m : List ℕ) (p : ℕ) → p + copying_size_at m p ≤ length m → 12 ≤ copying_size_at m p → length (take (copying_size_at m p - 12) (drop (p + 12) m)) ≡ copying_size_at m p - 12
length-fields m p inside least = length-take-le (copying_size_at m p - 12) (drop (p + 12) m) (omega (arith, length-drop (p + 12) m))

length_by_fields : (m m' : List ℕ) (p q : ℕ) → copying_size_at m' q ≡ copying_size_at m p → 16 ≤ copying_size_at m p → p + copying_size_at m p ≤ length m → q + copying_size_at m p ≤ length m'
    → length (take (copying_size_at m' q - 12) (drop (q + 12) m')) ≡ length (take (copying_size_at m p - 12) (drop (p + 12) m))
length_by_fields m m' p q size least inside inside' =
    length-fields m' q (omega arith) (omega arith) ∙ ap (λ n. n - 12) size ∙ sym (length-fields m p inside (omega arith))

-- the data is as long as before
data_length : (m m' : List ℕ) (p q : ℕ) (k : VMGcKind) → IsObjectKind k → copying_size_at m' q ≡ copying_size_at m p → 16 ≤ copying_size_at m p → (k ≡ ExternRef → copying_size_at m p ≡ 32)
    → p + copying_size_at m p ≤ length m → q + copying_size_at m p ≤ length m' → length (copying_data_at m' q k) ≡ length (copying_data_at m p k)
unfolding copying_data_at
data_length m m' p q ExternRef ok size least ext inside inside' =
    let whole : copying_size_at m p ≡ 32 = ext refl in
    length-external m' q (omega arith) ∙ sym (length-external m p (omega arith))
data_length m m' p q AnyRef ok size least ext inside inside' = absurd ok
data_length m m' p q EqRef ok size least ext inside inside' = absurd ok
data_length m m' p q StructRef ok size least ext inside inside' = length_by_fields m m' p q size least inside inside'
data_length m m' p q ArrayRef ok size least ext inside inside' = length_by_fields m m' p q size least inside inside'
data_length m m' p q ExnRef ok size least ext inside inside' = length_by_fields m m' p q size least inside inside'

part_get : (bytes : List ℕ) (lo n k d : ℕ) → k < n → get_or (take n (drop lo bytes)) k d ≡ get_or bytes (lo + k) d
part_get bytes lo n k d h = get_or-take n (drop lo bytes) k d h ∙ get_or-drop lo bytes k d

byte_by_fields : (m m' : List ℕ) (p q at d : ℕ) → copying_size_at m' q ≡ copying_size_at m p → 16 ≤ copying_size_at m p → p + copying_size_at m p ≤ length m → q + copying_size_at m p ≤ length m'
    → (12 + at < copying_size_at m p → get_or m' (q + (12 + at)) d ≡ get_or m (p + (12 + at)) d)
    → get_or (take (copying_size_at m' q - 12) (drop (q + 12) m')) at d ≡ get_or (take (copying_size_at m p - 12) (drop (p + 12) m)) at d
byte_by_fields m m' p q at d size least inside inside' same = elim (cases_lt at (copying_size_at m p - 12)) [
  | inl below ↦
      let e' : q + 12 + at ≡ q + (12 + at) = omega arith in
      let e : p + 12 + at ≡ p + (12 + at) = omega arith in
      part_get m' (q + 12) (copying_size_at m' q - 12) at d (omega arith)
      ∙ ap (λ x. get_or m' x d) e'
      ∙ same (omega arith)
      ∙ sym (part_get m (p + 12) (copying_size_at m p - 12) at d below ∙ ap (λ x. get_or m x d) e)
  | inr past ↦
      get_or_past (take (copying_size_at m' q - 12) (drop (q + 12) m')) at d (omega (arith, length-fields m' q (omega arith) (omega arith)))
      ∙ sym (get_or_past (take (copying_size_at m p - 12) (drop (p + 12) m)) at d (omega (arith, length-fields m p inside (omega arith))))
]

-- a byte of the data that is no reference's
data_byte : (m m' : List ℕ) (p q at d : ℕ) (k : VMGcKind) → IsObjectKind k → copying_size_at m' q ≡ copying_size_at m p → 16 ≤ copying_size_at m p → (k ≡ ExternRef → copying_size_at m p ≡ 32)
    → p + copying_size_at m p ≤ length m → q + copying_size_at m p ≤ length m'
    → (k ≡ ExternRef → (j : ℕ) → j < 20 → get_or m' (q + j) d ≡ get_or m (p + j) d)
    → (HasFields k → 12 + at < copying_size_at m p → get_or m' (q + (12 + at)) d ≡ get_or m (p + (12 + at)) d)
    → get_or (copying_data_at m' q k) at d ≡ get_or (copying_data_at m p k) at d
unfolding copying_data_at
data_byte m m' p q at d ExternRef ok size least ext inside inside' host same =
    let whole : copying_size_at m p ≡ 32 = ext refl in
    elim (cases_lt at 4) [
      | inl below ↦
          let e' : q + 16 + at ≡ q + (16 + at) = omega arith in
          let e : p + 16 + at ≡ p + (16 + at) = omega arith in
          part_get m' (q + 16) 4 at d below
          ∙ ap (λ x. get_or m' x d) e'
          ∙ host refl (16 + at) (omega arith)
          ∙ sym (part_get m (p + 16) 4 at d below ∙ ap (λ x. get_or m x d) e)
      | inr past ↦
          get_or_past (take 4 (drop (q + 16) m')) at d (omega (arith, length-external m' q (omega arith)))
          ∙ sym (get_or_past (take 4 (drop (p + 16) m)) at d (omega (arith, length-external m p (omega arith))))
    ]
data_byte m m' p q at d AnyRef ok size least ext inside inside' host same = absurd ok
data_byte m m' p q at d EqRef ok size least ext inside inside' host same = absurd ok
data_byte m m' p q at d StructRef ok size least ext inside inside' host same = byte_by_fields m m' p q at d size least inside inside' (same tt)
data_byte m m' p q at d ArrayRef ok size least ext inside inside' host same = byte_by_fields m m' p q at d size least inside inside' (same tt)
data_byte m m' p q at d ExnRef ok size least ext inside inside' host same = byte_by_fields m m' p q at d size least inside inside' (same tt)

module _ (s : Start) (m : List ℕ) (upper : Bool) (bump head objects scopes : ℕ) (b : CopyingBeginsIn s m upper bump head objects scopes)
    (m' : List ℕ) (to : ℕ → ℕ) (p q : ℕ) (i : In p (places_in m upper bump)) (r : IsRenamed (start_in_bytes s m upper bump head) m' to p q) where
  whole : IsCopyingWhole m p
  whole = b.space.whole p i

  spaced : Spaced 12 (copying_size_at m p) (copying_offsets_at s.types m p)
  spaced = spaced_so s m upper bump head objects scopes b p i

  least : 16 ≤ copying_size_at m p
  least = (lies_so s m upper bump head objects scopes b p i).least

  old_inside : p + copying_size_at m p ≤ length m
  old_inside = (lies_so s m upper bump head objects scopes b p i).inside

  -- a byte before the fields is as before
  head_byte : (j d : ℕ) → j < 12 → get_or m' (q + j) d ≡ get_or m (p + j) d
  head_byte j d h =
      let l = least in
      r.rest j d (omega arith) (Spaced-outside 12 (copying_size_at m p) (copying_offsets_at s.types m p) j spaced h) (λ k. let f = k.from in absurd (omega arith))

  head_words : (o : ℕ) → o + 4 ≤ 12 → word m' (q + o) ≡ word m (p + o)
  head_words o h = word_by_bytes m m' (p + o) (q + o) (λ k l.
      let e' : q + o + k ≡ q + (o + k) = omega arith in
      let e : p + o + k ≡ p + (o + k) = omega arith in
      ap (λ x. get_or m' x 0) e' ∙ head_byte (o + k) 0 (omega arith) ∙ sym (ap (λ x. get_or m x 0) e))

  first_word : word m' q ≡ word m p
  first_word = word_by_bytes m m' p q (λ k l. head_byte k 0 (omega arith))

  pub same_size : copying_size_at m' q ≡ copying_size_at m p
  same_size = head_words 8 (omega arith)

  pub same_kind : copying_kind_at m' q ≡ copying_kind_at m p
  same_kind = kind_same m m' p q first_word

  -- an external object has no references
  no_refs : copying_kind_at m p ≡ ExternRef → copying_offsets_at s.types m p ≡ []
  no_refs e = sym (refs_so s m upper bump head objects scopes b p i) ∙ external_none s.types (copying_object_at m p) e whole.spare.1

  external_byte : copying_kind_at m p ≡ ExternRef → (j d : ℕ) → j < 20 → get_or m' (q + j) d ≡ get_or m (p + j) d
  external_byte e j d h =
      let size : copying_size_at m p ≡ 32 = (whole.external e).size in
      r.rest j d (omega arith) (subst (λ os. IsOutsideWords os j) (sym (no_refs e)) (λ o k. elim k [ ])) (λ k. let f = k.from in absurd (omega arith))

  pub host_same : copying_kind_at m p ≡ ExternRef → word m' (q + 16) ≡ word m (p + 16)
  host_same e = word_by_bytes m m' (p + 16) (q + 16) (λ k l.
      let e1 : q + 16 + k ≡ q + (16 + k) = omega arith in
      let e2 : p + 16 + k ≡ p + (16 + k) = omega arith in
      ap (λ x. get_or m' x 0) e1 ∙ external_byte e (16 + k) 0 (omega arith) ∙ sym (ap (λ x. get_or m x 0) e2))

  array_byte : copying_kind_at m p ≡ ArrayRef → (j d : ℕ) → 12 ≤ j → j < 16 → get_or m' (q + j) d ≡ get_or m (p + j) d
  array_byte e j d from h =
      let l = least in
      let sp : Spaced 16 (held_size Copying (copying_object_at m p)) (copying_offsets_at s.types m p) =
      subst (Spaced 16 (held_size Copying (copying_object_at m p))) (refs_so s m upper bump head objects scopes b p i) (array_spaced s.types (copying_object_at m p) e whole.spare) in
      r.rest j d (omega arith) (Spaced-outside 16 (held_size Copying (copying_object_at m p)) (copying_offsets_at s.types m p) j sp h) (λ k. let f = k.from in absurd (omega arith))

  array_same : copying_kind_at m p ≡ ArrayRef → word m' (q + 12) ≡ word m (p + 12)
  array_same e = word_by_bytes m m' (p + 12) (q + 12) (λ k l.
      let e1 : q + 12 + k ≡ q + (12 + k) = omega arith in
      let e2 : p + 12 + k ≡ p + (12 + k) = omega arith in
      ap (λ x. get_or m' x 0) e1 ∙ array_byte e (12 + k) 0 (omega arith) (omega arith) ∙ sym (ap (λ x. get_or m x 0) e2))

  new_kind : IsObjectKind (copying_kind_at m' q)
  new_kind = subst IsObjectKind (sym same_kind) whole.object_kind

  new_least : first_offset Copying (copying_kind_at m' q) ≤ copying_size_at m' q
  new_least = subst (λ k. first_offset Copying k ≤ copying_size_at m' q) (sym same_kind) (subst (λ n. first_offset Copying (copying_kind_at m p) ≤ n) (sym same_size) whole.least)

  new_external : copying_kind_at m' q ≡ ExternRef → HasCopyingHost m' q
  new_external e =
      let was : copying_kind_at m p ≡ ExternRef = sym same_kind ∙ e in
      let x = whole.external was in
      let id = host_same was in
      record { size = same_size ∙ x.size; from = subst (λ n. 0 < n) (sym id) x.from; to = subst (λ n. n ≤ max_entries) (sym id) x.to }

  module _ (new_inside : q + copying_size_at m p ≤ length m') where
    inside_so : q + copying_size_at m' q ≤ length m'
    inside_so = subst (λ n. q + n ≤ length m') (sym same_size) new_inside

    new_held : held_size Copying (copying_object_at m' q) ≡ copying_size_at m' q
    new_held = length-copying_data_at m' q (copying_kind_at m' q) new_kind new_least (λ e. (new_external e).size) inside_so

    same_held : held_size Copying (copying_object_at m' q) ≡ held_size Copying (copying_object_at m p)
    same_held = new_held ∙ same_size ∙ sym (held_size-copying m p whole old_inside)

    same_spare : word m' q % spare_bits ≡ word m p % spare_bits
    same_spare = ap (λ w. w % spare_bits) first_word

    same_count : copying_kind_at m p ≡ ArrayRef → array_length (copying_object_at m' q) ≡ array_length (copying_object_at m p)
    same_count e =
        let fields : HasFields (copying_kind_at m p) = subst HasFields (sym e) tt in
        let fields' : HasFields (copying_kind_at m' q) = subst HasFields (sym (same_kind ∙ e)) tt in
        length_is m' q fields' (subst (λ n. 16 ≤ n) (sym same_size) least) inside_so ∙ array_same e ∙ sym (length_is m p fields least old_inside)

    new_spare : IsSpare Copying (copying_object_at m' q)
    new_spare =
        let w : IsSpare Copying (copying_object_at m p) = whole.spare in
        let t : TracesInside (copying_object_at m' q) (copying_kind_at m p) = traces_same (copying_object_at m p) (copying_object_at m' q) (copying_kind_at m p) same_spare same_held same_count w.1 in
        (subst (λ n. n < 2 ^ 25) (sym same_spare) w.0, subst (TracesInside (copying_object_at m' q)) (sym same_kind) t)

    -- it is whole
    pub moved_whole : IsCopyingWhole m' q
    moved_whole = record {
      kind = ap kind_bits same_kind ∙ whole.kind ∙ ap kind_part (sym first_word);
      object_kind = new_kind;
      least = new_least;
      spare = new_spare;
      external = new_external;
    }

    -- it is the old one, with its references moved
    pub is_moved : IsMoved Copying s.types to (copying_object_at m p) (copying_object_at m' q)
    is_moved = record {
      kind = same_kind;
      ty = head_words 4 (omega arith);
      spare = same_spare;
      size = ap (λ k. length (copying_data_at m' q k)) same_kind ∙ data_length m m' p q (copying_kind_at m p) whole.object_kind same_size least (λ e. (whole.external e).size) old_inside new_inside;
      refers = λ o c.
          let j : In o (copying_offsets_at s.types m p) = subst (In o) (refs_so s m upper bump head objects scopes b p i) (contains_in (reference_offsets Copying s.types (copying_object_at m p)) o c) in
          let fields : HasFields (copying_kind_at m p) = ref_fields s m upper bump head objects scopes b p o i j in
          let fields' : HasFields (copying_kind_at m' q) = subst HasFields (sym same_kind) fields in
          let at = spaced_in o j in
          field_word m' q o (copying_kind_at m' q) fields' at.0 (subst (λ n. o + 4 ≤ n) (sym same_size) at.1) inside_so
          ∙ r.refers o j
          ∙ ap (moved to) (sym (word_so s m upper bump head objects scopes b p o i j));
      rest = λ at d free.
          ap (λ k. get_or (copying_data_at m' q k) at d) same_kind
          ∙ data_byte m m' p q at d (copying_kind_at m p) whole.object_kind same_size least (λ e. (whole.external e).size) old_inside new_inside
          (λ e j h. external_byte e j d h)
          (λ fields below. r.rest (12 + at) d below
          (λ o j. free o (in_contains (reference_offsets Copying s.types (copying_object_at m p)) o (subst (In o) (sym (refs_so s m upper bump head objects scopes b p i)) j)))
          (λ k. not_external fields (kind_by_bits m p k.external)));
    }
      where
        spaced_in : (o : ℕ) → In o (copying_offsets_at s.types m p) → (12 ≤ o) × (o + 4 ≤ copying_size_at m p)
        spaced_in o j = Spaced-in 12 (copying_size_at m p) (copying_offsets_at s.types m p) o spaced j

        not_external : HasFields (copying_kind_at m p) → copying_kind_at m p ≡ ExternRef → ⊥
        not_external h e = subst HasFields e h
