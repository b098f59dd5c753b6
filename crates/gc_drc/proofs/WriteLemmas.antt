-- What a write to an object leaves of a space.
use Rattle.std.proofs.Common.{◌≡◌, ℕ, ◌+◌, ◌-◌, ◌*◌, ◌/◌, ◌%◌, ◌<◌, ◌≤◌, ◌^◌, List, take, drop, length, refl, sym, ap, subst, ◌∙◌, inl, inr, arith}
use Rattle.std.proofs.Math.Logic.{◌⊎◌}
use Rattle.std.specs.FinMap as finite
use Rattle.std.proofs.lemmas.Bool.{cases_eq}
use Rattle.gc_types.specs.declared.kind.Layouts.TheVariants.{Counting}
use Rattle.gc_types.specs.declared.kind.VMGcKind.{VMGcKind}
use Rattle.gc_types.specs.declared.kind.VMGcKind.TheVariants.{ExternRef, AnyRef, EqRef, StructRef, ArrayRef, ExnRef}
use Rattle.gc_types.specs.Kinds.{kind_bits, kind_of}
use Rattle.gc_refs.specs.Header.{spare_bits, kind_part}
use Rattle.gc_memory.specs.Words.{word}
use Rattle.gc_memory.specs.Changes.{Wrote}
use Rattle.gc_memory.specs.Lists.{In}
use Rattle.gc_memory.proofs.ChangeLemmas.{Wrote-within, Wrote-put_bytes, Wrote-put_u32, Wrote-behind}
use Rattle.gc_memory.proofs.WordLemmas.{word_before, word64_before, word_behind, word64_behind, word_in_same, word-put_u32}
use Rattle.gc_view.specs.Bytes.{put_bytes, SameBytes}
use Rattle.gc_view.proofs.ByteLemmas.{SameBytes-part, part_in_same, part-put_bytes_inside}
use Rattle.gc_view.specs.Bytes.{put_u32}
use Rattle.gc_view.specs.Heaps.{HeapObject}
use Rattle.gc_heap.specs.Objects.{first_offset, writable_offset, IsObjectKind}
use Rattle.gc_heap.specs.Heap.{IsWritable, with_data, with_spare_of, put_object}
use Rattle.gc_view.specs.Pages.{page}
use Rattle.gc_drc.specs.declared.space.CountedSpace.{CountedSpace}
use Rattle.gc_drc.specs.Layout.{count_at, counting_size_at, block_of, flags_at, counting_kind_at, counting_data_at, counting_object_at, IsCountingWhole}
use Rattle.gc_drc.specs.View.{View, count_of, flags_of, HoldsBlocks, ShowsObject}
use Rattle.gc_drc.specs.Content.{at_places, places_of, counting_seen_in, IsSoundSpace}
use Rattle.gc_drc.specs.SpaceLaws.{lies, places_are}
use Rattle.gc_drc.proofs.CountsSeen.{counts_are}
use Rattle.gc_drc.proofs.TendLemmas.{same_object, object_in_same, linked_in_same, other_bytes, other_words}
use Rattle.gc_drc.proofs.SeenLemmas.{same_view, at_places-put}
use Rattle.gc_drc.proofs.ReadLemmas.{HeldAt, held_at, size_of}

-- What is kept of an object that is written to.
pub record Keeps (a b : List ℕ) (x : ℕ) : Type 0 where
  pub around : Wrote a b x (counting_size_at a x)
  pub size : counting_size_at b x ≡ counting_size_at a x
  pub count : count_at b x ≡ count_at a x
  pub flags : flags_at b x ≡ flags_at a x
  pub list : word b (x + 16) ≡ word a (x + 16)
  pub link : word b (x + 24) ≡ word a (x + 24)
  pub whole : IsCountingWhole b x

-- an object whose kind, size and host id stay is whole
whole_kept : (a b : List ℕ) (x : ℕ) → IsCountingWhole a x → kind_part (word b x) ≡ kind_part (word a x) → counting_size_at b x ≡ counting_size_at a x → (counting_kind_at a x ≡ ExternRef → word b (x + 28) ≡ word a (x + 28)) → IsCountingWhole b x
unfolding counting_kind_at
whole_kept a b x w part size host =
    let kind : kind_of (kind_part (word b x)) ≡ kind_of (kind_part (word a x)) = ap kind_of part in
    record {
      kind = ap kind_bits kind ∙ w.kind ∙ sym part;
      object_kind = subst IsObjectKind (sym kind) w.object_kind;
      least = subst (λ k. first_offset Counting k ≤ counting_size_at b x) (sym kind) (subst (λ n. first_offset Counting (kind_of (kind_part (word a x))) ≤ n) (sym size) w.least);
      external = λ e.
          let y = w.external (sym kind ∙ e) in
          let id = host (sym kind ∙ e) in
          record { size = size ∙ y.size; from = subst (λ n. 0 < n) (sym id) y.from; to = omega (arith, y.to, id) };
    }

pub kind_kept : (a b : List ℕ) (x : ℕ) → kind_part (word b x) ≡ kind_part (word a x) → counting_kind_at b x ≡ counting_kind_at a x
unfolding counting_kind_at
kind_kept a b x e = ap kind_of e

-- the space goes on showing the view
holds_kept : (v : View) (s : CountedSpace) (m : List ℕ) (x : ℕ) → HoldsBlocks v s → In x v.places → Keeps s.memory m x → HoldsBlocks v (record s { memory = m })
holds_kept v s m x h j k =
    let len : length m ≡ length s.memory = k.around.same_length in
    let bound = h.bound in
    let capacity = h.capacity in
    record {
      pages = ap (λ n. n % page) len ∙ h.pages;
      bound = omega arith;
      capacity = omega arith;
      sound = h.sound;
      blocks = h.blocks;
      objects = λ p i. object p i (cases_eq p x);
      shown_part = h.shown_part;
      queue_part = h.queue_part;
      marked_part = h.marked_part;
      shown_linked = linked_in_same s.memory m 16 s.shown v.shown h.shown_linked (λ p i. links 16 p (h.shown_part.inside p i) (omega arith) k.list);
      queue_linked = linked_in_same s.memory m 24 s.queued v.queue h.queue_linked (λ p i. links 24 p (h.queue_part.inside p i) (omega arith) k.link);
      count = h.count;
      allocated = h.allocated;
    }
  where
    small : counting_size_at s.memory x ≤ block_of (v.sizes x)
    small = let is = (h.objects x j).size_is in omega arith

    links : (offset p : ℕ) → In p v.places → offset ≤ 24 → word m (x + offset) ≡ word s.memory (x + offset) → word m (p + offset) ≡ word s.memory (p + offset)
    links offset p i le own = elim (cases_eq p x) [
      | inl e ↦ subst (λ q. word m (q + offset) ≡ word s.memory (q + offset)) (sym e) own
      | inr ne ↦
          let l = (lies v s p h i).least in
          word_in_same s.memory m (p + offset) (SameBytes-part (other_bytes v s m p x (counting_size_at s.memory x) h i j ne k.around small) (p + offset) (p + offset + 4) (omega arith) (omega arith))
    ]

    object : (p : ℕ) → In p v.places → (p ≡ x) ⊎ (p ≡ x → ⊥) → ShowsObject m p (v.sizes p) (count_of v p) (flags_of v p)
    object p i (inl e) =
        let o = h.objects x j in
        subst (λ q. ShowsObject m q (v.sizes q) (count_of v q) (flags_of v q)) (sym e)
        (record { whole = k.whole; size_is = k.size ∙ o.size_is; count_is = k.count ∙ o.count_is; positive = o.positive; flags_are = k.flags ∙ o.flags_are })
    object p i (inr ne) =
        let o = h.objects p i in
        let l = (lies v s p h i).least in
        let is = o.size_is in
        let same = object_in_same s.memory m p o.whole (omega arith) (subst (λ n. SameBytes s.memory m p (p + n)) (sym o.size_is) (other_bytes v s m p x (counting_size_at s.memory x) h i j ne k.around small)) in
        let words = other_words v s m p x (counting_size_at s.memory x) h i j ne k.around small in
        record { whole = same.whole; size_is = same.size ∙ o.size_is; count_is = words.0 ∙ o.count_is; positive = o.positive; flags_are = words.1 ∙ o.flags_are }

-- What a write to an object does to a space.
pub record Rewrites (s t : CountedSpace) (x : ℕ) (o : HeapObject) : Type 0 where
  pub sound : IsSoundSpace t
  pub seen : (scopes : ℕ) → counting_seen_in scopes t ≡ put_object (counting_seen_in scopes s) x o

pub rewrites : (s t : CountedSpace) (m : List ℕ) (x : ℕ) (o : HeapObject) → IsSoundSpace s → In x (places_of s.free.space.held) → Keeps s.memory m x → counting_object_at m x ≡ o → t ≡ record s { memory = m }
    → Rewrites s t x o
rewrites s t m x o sound among k is new =
    let v = sound.view in
    let h = sound.holds in
    let j = subst (In x) (places_are v s h) among in
    let after = holds_kept v s m x h j k in
    let content : at_places (counting_object_at m) (places_of s.free.space.held) ≡ finite.insert (at_places (counting_object_at s.memory) (places_of s.free.space.held)) x o =
    at_places-put (counting_object_at s.memory) (counting_object_at m) x o (places_of s.free.space.held) among is (λ p i ne. other p (subst (In p) (places_are v s h) i) j ne) in
    subst (λ y. Rewrites s y x o) (sym new) (record {
      sound = record { view = v; holds = after; unmarked = sound.unmarked };
      seen = λ scopes. same_view _ _ refl content k.around.same_length refl refl refl (counts_are v (record s { memory = m }) after ∙ sym (counts_are v s h));
    })
  where
    other : (p : ℕ) → In p sound.view.places → In x sound.view.places → (p ≡ x → ⊥) → counting_object_at m p ≡ counting_object_at s.memory p
    other p i j ne =
        let o = sound.holds.objects p i in
        let l = (lies sound.view s p sound.holds i).least in
        let is = o.size_is in
        let own = (sound.holds.objects x j).size_is in
        (object_in_same s.memory m p o.whole (omega arith)
        (subst (λ n. SameBytes s.memory m p (p + n)) (sym o.size_is) (other_bytes sound.view s m p x (counting_size_at s.memory x) sound.holds i j ne k.around (omega arith)))).object

-- DATA

far_offset : (k : VMGcKind) (n : ℕ) → writable_offset Counting k ≤ n → 28 ≤ n
far_offset ExternRef n h = omega arith
far_offset AnyRef n h = omega arith
far_offset EqRef n h = omega arith
far_offset StructRef n h = omega arith
far_offset ArrayRef n h = omega arith
far_offset ExnRef n h = omega arith

-- what a write to the data of an object does to it
pub record WritesData (a b : List ℕ) (x offset : ℕ) (ws : List ℕ) : Type 0 where
  pub keeps : Keeps a b x
  pub object : counting_object_at b x ≡ with_data Counting (counting_object_at a x) offset ws

pub writes_data : (a b : List ℕ) (x offset : ℕ) (ws : List ℕ) → IsCountingWhole a x → x + counting_size_at a x ≤ length a → writable_offset Counting (counting_kind_at a x) ≤ offset → offset + length ws ≤ counting_size_at a x
    → b ≡ put_bytes a (x + offset) ws → WritesData a b x offset ws
writes_data a b x offset ws w inside from to written =
    let far : 28 ≤ offset = far_offset (counting_kind_at a x) offset from in
    let y : Wrote a b (x + offset) (length ws) = subst (λ z. Wrote a z (x + offset) (length ws)) (sym written) (Wrote-put_bytes a (x + offset) ws (length ws) refl (omega arith)) in
    let first : word b x ≡ word a x = word_before y x (omega arith) in
    let ty : word b (x + 4) ≡ word a (x + 4) = word_before y (x + 4) (omega arith) in
    let size : counting_size_at b x ≡ counting_size_at a x = word_before y (x + 20) (omega arith) in
    let external_far : counting_kind_at a x ≡ ExternRef → 32 ≤ offset = λ e. subst (λ j. writable_offset Counting j ≤ offset) e from in
    let at : x + offset - (x + 28) ≡ offset - 28 = omega arith in
    let held : counting_data_at b x ≡ put_bytes (counting_data_at a x) (offset - 28) ws =
    ap (λ n. take (n - 28) (drop (x + 28) b)) size
    ∙ ap (λ z. take (counting_size_at a x - 28) (drop (x + 28) z)) written
    ∙ part-put_bytes_inside a (x + 28) (counting_size_at a x - 28) (x + offset) ws (omega arith) (omega arith) (omega arith)
    ∙ ap (λ n. put_bytes (counting_data_at a x) n ws) at in
    record {
      keeps = record {
        around = Wrote-within y x (counting_size_at a x) (omega arith) (omega arith);
        size = size;
        count = word64_before y (x + 8) (omega arith);
        flags = ap (λ n. n % 8) first;
        list = word_before y (x + 16) (omega arith);
        link = word_before y (x + 24) (omega arith);
        whole = whole_kept a b x w (ap kind_part first) size (λ e. let more = external_far e in word_before y (x + 28) (omega arith));
      };
      object = same_object _ _ (kind_kept a b x (ap kind_part first)) ty (ap (λ n. n % spare_bits / 8 * 8) first) held;
    }

-- the object that is written to
pub record Writable (s : CountedSpace) (x offset count : ℕ) : Type 0 where
  pub object : HeapObject
  pub held : HeldAt s x object
  pub from : writable_offset Counting (counting_kind_at s.memory x) ≤ offset
  pub to : offset + count ≤ counting_size_at s.memory x

pub writable : (s : CountedSpace) (scopes x offset count : ℕ) → IsSoundSpace s → IsWritable Counting (counting_seen_in scopes s) x offset count → Writable s x offset count
writable s scopes x offset count sound can =
    let h = held_at s scopes x can.object sound can.held in
    record {
      object = can.object;
      held = h;
      from = subst (λ k. writable_offset Counting k ≤ offset) (ap (λ (o : HeapObject). o.kind) h.is) can.from;
      to = subst (λ n. offset + count ≤ n) (size_of s x can.object h) can.to;
    }

-- HEADERS

-- what setting a header does to an object
pub writes_header : (a b : List ℕ) (x hw : ℕ) → IsCountingWhole a x → 28 ≤ counting_size_at a x → x + counting_size_at a x ≤ length a → hw < 2 ^ 32 → word a x < 2 ^ 32 → kind_part hw ≡ kind_part (word a x) → b ≡ put_u32 a x (hw / 8 * 8 + word a x % 8)
    → Keeps a b x × (counting_object_at b x ≡ with_spare_of Counting (counting_object_at a x) (hw % spare_bits))
writes_header a b x hw w least inside small own_small same written =
    let n : ℕ = hw / 8 * 8 + word a x % 8 in
    let y : Wrote a b x 4 = subst (λ z. Wrote a z x 4) (sym written) (Wrote-put_u32 a x n (omega arith)) in
    let first : word b x ≡ n = ap (λ z. word z x) written ∙ word-put_u32 a x n (omega arith) (omega arith) in
    let part : kind_part (word b x) ≡ kind_part (word a x) = omega arith in
    let spare : word b x % spare_bits / 8 * 8 ≡ hw % spare_bits / 8 * 8 = omega arith in
    let size : counting_size_at b x ≡ counting_size_at a x = word_behind y (x + 20) (omega arith) in
    let held : counting_data_at b x ≡ counting_data_at a x =
    ap (λ k. take (k - 28) (drop (x + 28) b)) size ∙ part_in_same a b (x + 28) (counting_size_at a x - 28) (Wrote-behind y (x + 28) (x + 28 + (counting_size_at a x - 28)) (omega arith)) in (
      record {
        around = Wrote-within y x (counting_size_at a x) (omega arith) (omega arith);
        size = size;
        count = word64_behind y (x + 8) (omega arith);
        flags = omega arith;
        list = word_behind y (x + 16) (omega arith);
        link = word_behind y (x + 24) (omega arith);
        whole = whole_kept a b x w part size (λ e. word_behind y (x + 28) (omega arith));
      },
      same_object _ _ (kind_kept a b x part) (word_behind y (x + 4) (omega arith)) spare held,
    )
