-- What a write to the data of an object leaves of a space.
use Rattle.std.proofs.Common.{◌≡◌, ℕ, ◌+◌, ◌-◌, ◌*◌, ◌%◌, ◌<◌, ◌≤◌, ◌^◌, Bool, true, cond, List, [], ◌∷◌, ◌++◌, take, drop, length, Some, refl, sym, ap, subst, ◌∙◌, inl, inr, arith}
use Rattle.std.proofs.Math.Logic.{◌⊎◌}
use Rattle.std.specs.Ordering.{nat_cmp, eq_by_cmp}
use Rattle.std.specs.Cmp.{unsigned_tied, nat_cmp_total}
use Rattle.std.specs.FinMap as finite
use Rattle.std.proofs.lemmas.Bool.{cases_eq, cases_lt, ne_eqb, eq-eqb}
use Rattle.std.proofs.lemmas.List.{take-append-drop}
use Rattle.gc_types.specs.declared.kind.Layouts.TheVariants.{Copying}
use Rattle.gc_types.specs.declared.kind.VMGcKind.{VMGcKind}
use Rattle.gc_types.specs.declared.kind.VMGcKind.TheVariants.{ExternRef, AnyRef, EqRef, StructRef, ArrayRef, ExnRef}
use Rattle.gc_refs.specs.Header.{spare_bits}
use Rattle.gc_memory.specs.Words.{word}
use Rattle.gc_memory.specs.Changes.{Wrote}
use Rattle.gc_memory.specs.Lists.{In, occ}
use Rattle.gc_memory.specs.Chains.{Chain}
use Rattle.gc_memory.proofs.ChainLemmas.{Chain-resized, Chain-apart, Chain-places}
use Rattle.gc_memory.proofs.ChangeLemmas.{Wrote-before, Wrote-behind, Wrote-put_bytes}
use Rattle.gc_memory.proofs.ListLemmas.{In-occ, occ-In}
use Rattle.gc_memory.proofs.WordLemmas.{word-is, word_before}
use Rattle.gc_view.specs.Bytes.{put_bytes}
use Rattle.gc_view.proofs.ByteLemmas.{part-put_bytes_inside, u32_at-part}
use Rattle.gc_view.specs.Bytes.{u32_at}
use Rattle.gc_view.specs.Heaps.{HeapObject, no_counts}
use Rattle.gc_heap.specs.Objects.{held_size, first_offset, writable_offset, array_length, IsObjectKind}
use Rattle.gc_heap.specs.References.{IsTraceWord}
use Rattle.gc_heap.specs.Content.{IsSpare, TracesInside}
use Rattle.gc_heap.specs.Heap.{IsWritable, with_data, put_object}
use Rattle.gc_view.specs.Pages.{page, max_pages}
use Rattle.gc_copying.specs.Spaces.{half_start, half_end}
use Rattle.gc_copying.specs.Layout.{copying_first_place, copying_size_at, places_in, copying_kind_at, copying_data_at, copying_object_at}
use Rattle.gc_copying.specs.Content.{objects_at, space_view, IsCopyingWhole, ExternalsLinked, IsSpace}
use Rattle.gc_copying.specs.ObjectLaws.{length-copying_data_at, held_size-copying, held_only, held_none}
use Rattle.gc_copying.proofs.ObjectLemmas.{held_in}
use Rattle.gc_copying.specs.HeapLaws.{lies_in_space}
use Rattle.gc_copying.proofs.SpaceLemmas.{SameObject, same_object, kind_in_same, object_in_same, whole_in_same, linked_in_same, space_of}

-- the length of an array is the word behind its size
pub array_word : (bytes : List ℕ) (p : ℕ) → 16 ≤ copying_size_at bytes p → p + copying_size_at bytes p ≤ length bytes → u32_at (copying_data_at bytes p ArrayRef) 0 ≡ word bytes (p + 12)
unfolding copying_data_at
array_word bytes p least inside =
    let at : p + 12 + 0 ≡ p + 12 = omega arith in
    u32_at-part bytes (p + 12) (copying_size_at bytes p - 12) 0 (omega arith) (omega arith) ∙ ap (u32_at bytes) at ∙ sym (word-is bytes (p + 12))

pub traces_same : (o o' : HeapObject) (k : VMGcKind) → o'.spare ≡ o.spare → held_size Copying o' ≡ held_size Copying o → (k ≡ ArrayRef → array_length o' ≡ array_length o) → TracesInside o k → TracesInside o' k
traces_same o o' ExternRef spare size count t = spare ∙ t
traces_same o o' AnyRef spare size count t = t
traces_same o o' EqRef spare size count t = t
traces_same o o' StructRef spare size count t = subst (λ n. IsTraceWord StructRef n o'.spare) (sym size) (subst (λ w. IsTraceWord StructRef (held_size Copying o) w) (sym spare) t)
traces_same o o' ArrayRef spare size count t = (
  subst (λ w. IsTraceWord ArrayRef (held_size Copying o') w) (sym spare) t.0,
  λ odd. subst (λ n. 16 + array_length o' * 4 ≤ n) (sym size) (subst (λ n. 16 + n * 4 ≤ held_size Copying o) (sym (count refl)) (t.1 (sym (ap (λ w. w % 2) spare) ∙ odd))),
)
traces_same o o' ExnRef spare size count t = subst (λ n. IsTraceWord ExnRef n o'.spare) (sym size) (subst (λ w. IsTraceWord ExnRef (held_size Copying o) w) (sym spare) t)

no_bytes : (ws : List ℕ) → length ws ≡ 0 → ws ≡ []
no_bytes [] e = refl
no_bytes (x ∷ ws) e = absurd (omega arith)

put_nothing : (xs ws : List ℕ) (n : ℕ) → length ws ≡ 0 → put_bytes xs n ws ≡ xs
put_nothing xs ws n e =
    let none : n + 0 ≡ n = omega arith in
    ap (λ y. put_bytes xs n y) (no_bytes ws e) ∙ ap (λ k. take n xs ++ drop k xs) none ∙ take-append-drop n xs

data_written_inside : (a : List ℕ) (p offset : ℕ) (ws : List ℕ) → copying_size_at (put_bytes a (p + offset) ws) p ≡ copying_size_at a p → 12 ≤ offset → offset + length ws ≤ copying_size_at a p → p + copying_size_at a p ≤ length a
    → take (copying_size_at (put_bytes a (p + offset) ws) p - 12) (drop (p + 12) (put_bytes a (p + offset) ws)) ≡ put_bytes (take (copying_size_at a p - 12) (drop (p + 12) a)) (offset - 12) ws
data_written_inside a p offset ws size from to inside =
    let at : p + offset - (p + 12) ≡ offset - 12 = omega arith in
    ap (λ n. take (n - 12) (drop (p + 12) (put_bytes a (p + offset) ws))) size
    ∙ part-put_bytes_inside a (p + 12) (copying_size_at a p - 12) (p + offset) ws (omega arith) (omega arith) (omega arith)
    ∙ ap (λ n. put_bytes (take (copying_size_at a p - 12) (drop (p + 12) a)) n ws) at

-- the data of an object that was written to
data_written : (a : List ℕ) (p offset : ℕ) (ws : List ℕ) (k : VMGcKind) → IsObjectKind k → first_offset Copying k ≤ copying_size_at a p → (k ≡ ExternRef → copying_size_at a p ≡ 32)
    → writable_offset Copying k ≤ offset → offset + length ws ≤ copying_size_at a p → p + copying_size_at a p ≤ length a → copying_size_at (put_bytes a (p + offset) ws) p ≡ copying_size_at a p
    → copying_data_at (put_bytes a (p + offset) ws) p k ≡ put_bytes (copying_data_at a p k) (offset - 12) ws
unfolding copying_data_at
data_written a p offset ws ExternRef ok least ext from to inside size =
    let whole : copying_size_at a p ≡ 32 = ext refl in
    let nothing : length ws ≡ 0 = omega arith in
    ap (λ y. take 4 (drop (p + 16) y)) (put_nothing a ws (p + offset) nothing) ∙ sym (put_nothing (take 4 (drop (p + 16) a)) ws (offset - 12) nothing)
data_written a p offset ws AnyRef ok least ext from to inside size = absurd ok
data_written a p offset ws EqRef ok least ext from to inside size = absurd ok
data_written a p offset ws StructRef ok least ext from to inside size = data_written_inside a p offset ws size from to inside
data_written a p offset ws ArrayRef ok least ext from to inside size = data_written_inside a p offset ws size (omega arith) to inside
data_written a p offset ws ExnRef ok least ext from to inside size = data_written_inside a p offset ws size from to inside

least_size : (k : VMGcKind) (n : ℕ) → writable_offset Copying k ≤ n → 12 ≤ n
least_size ExternRef n h = omega arith
least_size AnyRef n h = omega arith
least_size EqRef n h = omega arith
least_size StructRef n h = omega arith
least_size ArrayRef n h = omega arith
least_size ExnRef n h = omega arith

-- What a write keeps of the object that it writes to.
pub record KeepsObject (a b : List ℕ) (p : ℕ) : Type 0 where
  pub size : copying_size_at b p ≡ copying_size_at a p
  pub kind : copying_kind_at b p ≡ copying_kind_at a p
  pub whole : IsCopyingWhole b p
  pub next : copying_kind_at a p ≡ ExternRef → word b (p + 20) ≡ word a (p + 20)

-- What a write does to an object.
pub record Rewrites (a b : List ℕ) (p offset : ℕ) (ws : List ℕ) : Type 0 where
  pub keeps : KeepsObject a b p
  pub object : copying_object_at b p ≡ with_data Copying (copying_object_at a p) offset ws

pub rewrites : (a b : List ℕ) (p offset : ℕ) (ws : List ℕ) → IsCopyingWhole a p → 16 ≤ copying_size_at a p → p + copying_size_at a p ≤ length a → writable_offset Copying (copying_kind_at a p) ≤ offset
    → offset + length ws ≤ copying_size_at a p → b ≡ put_bytes a (p + offset) ws → Rewrites a b p offset ws
rewrites a b p offset ws w least inside from to written =
    let k : VMGcKind = copying_kind_at a p in
    let x : Wrote a b (p + offset) (length ws) = subst (λ y. Wrote a y (p + offset) (length ws)) (sym written) (Wrote-put_bytes a (p + offset) ws (length ws) refl (omega arith)) in
    let far : 12 ≤ offset = least_size k offset from in
    let first : word b p ≡ word a p = word_before x p (omega arith) in
    let ty : word b (p + 4) ≡ word a (p + 4) = word_before x (p + 4) (omega arith) in
    let size : copying_size_at b p ≡ copying_size_at a p = word_before x (p + 8) (omega arith) in
    let kind : copying_kind_at b p ≡ k = kind_in_same a b p first in
    let external_far : k ≡ ExternRef → 32 ≤ offset = λ e. subst (λ j. writable_offset Copying j ≤ offset) e from in
    let array_far : k ≡ ArrayRef → 16 ≤ offset = λ e. subst (λ j. writable_offset Copying j ≤ offset) e from in
    let held : copying_data_at b p (copying_kind_at b p) ≡ put_bytes (copying_data_at a p k) (offset - 12) ws =
    ap (copying_data_at b p) kind
    ∙ ap (λ y. copying_data_at y p k) written
    ∙ data_written a p offset ws k w.object_kind w.least (λ e. (w.external e).size) from to inside (sym (ap (λ y. copying_size_at y p) written) ∙ size) in
    let object : copying_object_at b p ≡ with_data Copying (copying_object_at a p) offset ws = same_object _ _ kind ty (ap (λ n. n % spare_bits) first) held in
    let sizes_a : held_size Copying (copying_object_at a p) ≡ copying_size_at a p = held_size-copying a p w inside in
    let sizes_b : held_size Copying (copying_object_at b p) ≡ copying_size_at b p =
    length-copying_data_at b p (copying_kind_at b p) (subst IsObjectKind (sym kind) w.object_kind)
    (subst (λ j. first_offset Copying j ≤ copying_size_at b p) (sym kind) (subst (λ n. first_offset Copying k ≤ n) (sym size) w.least))
    (λ e. size ∙ (w.external (sym kind ∙ e)).size) (let len = x.same_length in omega arith) in
    let count : k ≡ ArrayRef → array_length (copying_object_at b p) ≡ array_length (copying_object_at a p) = λ e.
    let off = array_far e in
    ap (λ j. u32_at (copying_data_at b p j) 0) (kind ∙ e) ∙ array_word b p (omega arith) (let len = x.same_length in omega arith) ∙ word_before x (p + 12) (omega arith)
    ∙ sym (ap (λ j. u32_at (copying_data_at a p j) 0) e ∙ array_word a p least inside) in
    let spare : IsSpare Copying (copying_object_at b p) = (
      subst (λ n. n % spare_bits < 2 ^ 25) (sym first) w.spare.0,
      subst (TracesInside (copying_object_at b p)) (sym kind) (traces_same (copying_object_at a p) (copying_object_at b p) k (ap (λ n. n % spare_bits) first) (sizes_b ∙ size ∙ sym sizes_a) count w.spare.1),
    ) in
    record {
      keeps = record {
        size = size;
        kind = kind;
        whole = whole_in_same a b p w first size spare (λ e. let off = external_far e in word_before x (p + 16) (omega arith));
        next = λ e. let off = external_far e in word_before x (p + 20) (omega arith);
      };
      object = object;
    }

-- a number is one of a list, or not
in_or_not : (x : ℕ) (xs : List ℕ) → In x xs ⊎ (In x xs → ⊥)
in_or_not x xs = elim (cases_lt 0 (occ x xs)) [
  | inl some ↦ inl (occ-In x xs some)
  | inr none ↦ inr (λ i. absurd (omega (arith, In-occ x xs i)))
]

-- the map where one object is another
objects_put : (a b : List ℕ) (q : ℕ) (o : HeapObject) (ps : List ℕ) → In q ps → copying_object_at b q ≡ o → ((p : ℕ) → In p ps → (p ≡ q → ⊥) → copying_object_at b p ≡ copying_object_at a p)
    → objects_at b ps ≡ finite.insert (objects_at a ps) q o
objects_put a b q o ps i is same = finite.same_map nat_cmp_total finite.nat_cmp-IsAntisymmetric _ _ (λ r.
    let at : finite.get (finite.insert (objects_at a ps) q o) r ≡ cond (eq_by_cmp nat_cmp r q) (Some o) (finite.get (objects_at a ps) r) = finite.get-insert nat_cmp_total (objects_at a ps) q o r in
    elim (cases_eq r q) [
      | inl here ↦
          ap (finite.get (objects_at b ps)) here ∙ held_in b q ps i ∙ ap (λ x. Some x) is
          ∙ sym (at ∙ ap (λ t. cond t (Some o) (finite.get (objects_at a ps) r)) (unsigned_tied r q ∙ eq-eqb r q here))
      | inr other ↦
          let rest : finite.get (finite.insert (objects_at a ps) q o) r ≡ finite.get (objects_at a ps) r =
          at ∙ ap (λ t. cond t (Some o) (finite.get (objects_at a ps) r)) (unsigned_tied r q ∙ ne_eqb r q other) in
          elim (in_or_not r ps) [
            | inl j ↦ held_in b r ps j ∙ ap (λ x. Some x) (same r j other) ∙ sym (rest ∙ held_in a r ps j)
            | inr none ↦ held_none b r ps none ∙ sym (rest ∙ held_none a r ps none)
          ]
    ])

-- links that stay, of objects that keep their kinds
pub externals_kept : (a b : List ℕ) (head : ℕ) (ps : List ℕ) → ExternalsLinked a head ps → ((p : ℕ) → In p ps → copying_kind_at b p ≡ copying_kind_at a p)
    → ((p : ℕ) → In p ps → copying_kind_at a p ≡ ExternRef → word b (p + 20) ≡ word a (p + 20)) → ExternalsLinked b head ps
externals_kept a b head ps x kinds nexts = record {
  list = x.list;
  linked = linked_in_same a b head x.list x.linked (λ p i. nexts p (x.only p i).0 (x.only p i).1);
  only = λ p i. ((x.only p i).0, kinds p (x.only p i).0 ∙ (x.only p i).1);
  each = λ p i e. x.each p i (sym (kinds p i) ∙ e);
  once = x.once;
}

-- What a write to the data of an object does to a space.
pub record WritesData (a b : List ℕ) (upper : Bool) (bump head objects q offset : ℕ) (ws : List ℕ) : Type 0 where
  pub space : IsSpace b upper bump head objects
  pub seen : (scopes : ℕ) (o : HeapObject) → finite.get (objects_at a (places_in a upper bump)) q ≡ Some o
      → space_view b upper bump scopes ≡ put_object (space_view a upper bump scopes) q (with_data Copying o offset ws)

-- a writable range lies in its object
pub record WritableAt (a : List ℕ) (upper : Bool) (bump q offset count : ℕ) : Type 0 where
  pub among : In q (places_in a upper bump)
  pub from : writable_offset Copying (copying_kind_at a q) ≤ offset
  pub to : offset + count ≤ copying_size_at a q
  pub inside : q + (offset + count) ≤ length a

pub writable_at : (a : List ℕ) (upper : Bool) (bump head objects scopes q offset count : ℕ) → IsSpace a upper bump head objects
    → IsWritable Copying (space_view a upper bump scopes) q offset count → WritableAt a upper bump q offset count
writable_at a upper bump head objects scopes q offset count s w =
    let f = held_only a q w.object (places_in a upper bump) w.held in
    let l = lies_in_space a upper bump head objects q s f.among in
    let size = ap (held_size Copying) f.is ∙ held_size-copying a q (s.whole q f.among) l.inside in
    let to : offset + count ≤ copying_size_at a q = subst (λ n. offset + count ≤ n) size w.to in
    record {
      among = f.among;
      from = subst (λ (o : HeapObject). writable_offset Copying o.kind ≤ offset) f.is w.from;
      to = to;
      inside = omega (arith, l.inside);
    }

pub writes_data : (a b : List ℕ) (upper : Bool) (bump head objects q offset : ℕ) (ws : List ℕ) → IsSpace a upper bump head objects
    → WritableAt a upper bump q offset (length ws) → b ≡ put_bytes a (q + offset) ws → WritesData a b upper bump head objects q offset ws
writes_data a b upper bump head objects q offset ws s w written =
    let ps : List ℕ = places_in a upper bump in
    let first : ℕ = copying_first_place (length a) upper in
    let l = lies_in_space a upper bump head objects q s w.among in
    let x : Wrote a b (q + offset) (length ws) = subst (λ y. Wrote a y (q + offset) (length ws)) (sym written) (Wrote-put_bytes a (q + offset) ws (length ws) refl (omega (arith, w.inside))) in
    let len : length b ≡ length a = x.same_length in
    let r = rewrites a b q offset ws (s.whole q w.among) l.least l.inside w.from w.to written in
    let other : (p : ℕ) → In p ps → (p ≡ q → ⊥) → SameObject a b p = λ p i ne.
    let m = lies_in_space a upper bump head objects p s i in
    object_in_same a b p (s.whole p i) m.least (elim (cases_lt p q) [
      | inl below ↦
          let apart = Chain-apart (copying_size_at a) first bump p q ps s.chain i w.among below in
          Wrote-before x p (p + copying_size_at a p) (omega arith)
      | inr above ↦
          let apart = Chain-apart (copying_size_at a) first bump q p ps s.chain w.among i (not_equal p q above ne) in
          Wrote-behind x p (p + copying_size_at a p) (omega (arith, w.to))
    ]) in
    let keeps : (p : ℕ) → In p ps → KeepsObject a b p = λ p i. elim (cases_eq p q) [
      | inl e ↦ subst (KeepsObject a b) (sym e) r.keeps
      | inr ne ↦ let o = other p i ne in record { size = o.size; kind = o.kind; whole = o.whole; next = o.next }
    ] in
    let chain_a : Chain (copying_size_at b) first bump ps = Chain-resized (copying_size_at a) (copying_size_at b) first bump ps s.chain (λ p i. (keeps p i).size) in
    let chain : Chain (copying_size_at b) (copying_first_place (length b) upper) bump ps = subst (λ n. Chain (copying_size_at b) (copying_first_place n upper) bump ps) (sym len) chain_a in
    let are : places_in b upper bump ≡ ps = Chain-places (copying_size_at b) (copying_first_place (length b) upper) bump ps chain in
    record {
      space = space_of b upper bump head objects ps (subst (λ n. n % page ≡ 0) (sym len) s.pages) (subst (λ n. n ≤ page * max_pages) (sym len) s.bound) chain
          (subst (λ n. bump ≤ half_end n upper) (sym len) s.inside) (λ p i. (keeps p i).whole) s.count
          (externals_kept a b head ps s.externals (λ p i. (keeps p i).kind) (λ p i. (keeps p i).next));
      seen = λ scopes o held.
          let f = held_only a q o ps held in
          let content : objects_at b (places_in b upper bump) ≡ finite.insert (objects_at a ps) q (with_data Copying o offset ws) =
          ap (objects_at b) are ∙ objects_put a b q (with_data Copying o offset ws) ps w.among
          (r.object ∙ ap (λ (y : HeapObject). with_data Copying y offset ws) (sym f.is)) (λ p i ne. (other p i ne).object) in
          λ i. record {
            attached = true;
            content = content i;
            capacity = len i;
            allocated = bump - half_start (len i) upper;
            needs_gc = upper;
            scopes = scopes;
            counts = no_counts;
          };
    }
  where
    not_equal : (p q : ℕ) → q ≤ p → (p ≡ q → ⊥) → q < p
    not_equal p q le ne = elim (cases_lt q p) [ inl lt ↦ lt | inr ge ↦ absurd (ne (omega arith)) ]
