-- What the words of a held object tell.
use Rattle.std.proofs.Common.{◌≡◌, ℕ, ◌+◌, ◌-◌, ◌/◌, ◌*◌, ◌%◌, ◌<◌, ◌≤◌, cond, List, [], take, drop, length, get_or, Some, refl, sym, ap, subst, ◌∙◌, inl, inr, arith}
use Rattle.std.specs.FinMap as finite
use Rattle.std.specs.FinSet as finset
use Rattle.std.proofs.lemmas.List.{same_lists, get_or-take, get_or-drop, length-take-le, length-drop}
use Rattle.gc_types.specs.declared.kind.Layouts.TheVariants.{Counting}
use Rattle.gc_types.specs.declared.kind.VMGcKind.{VMGcKind}
use Rattle.gc_types.specs.declared.kind.VMGcKind.TheVariants.{ExternRef, AnyRef, EqRef, StructRef, ArrayRef, ExnRef}
use Rattle.gc_types.specs.Kinds.{kind_bits}
use Rattle.gc_refs.specs.Header.{kind_part, spare_bits}
use Rattle.gc_memory.specs.Words.{word}
use Rattle.gc_memory.specs.Lists.{In, occ}
use Rattle.gc_memory.proofs.ListLemmas.{In-occ, occ-none}
use Rattle.gc_memory.proofs.WordLemmas.{word-is, word64-is}
use Rattle.gc_view.proofs.ByteLemmas.{u32_at-part}
use Rattle.gc_view.specs.Bytes.{u32_at}
use Rattle.gc_view.specs.Heaps.{HeapObject, Counts}
use Rattle.gc_heap.specs.Objects.{held_size, data_offset, IsHeaderOf, IsObjectData}
use Rattle.gc_heap.specs.Barriers.{ShowsCount, one_in}
use Rattle.gc_drc.specs.declared.space.CountedSpace.{CountedSpace}
use Rattle.gc_drc.specs.Layout.{counting_size_at, counting_kind_at, counting_data_at, counting_object_at, IsCountingWhole, HasCountingHost}
use Rattle.gc_drc.specs.View.{View, HoldsBlocks}
use Rattle.gc_drc.specs.Content.{places_of, counting_seen_in, IsSoundSpace}
use Rattle.gc_drc.proofs.CountsSeen.{counts_of}
use Rattle.gc_drc.specs.PlaceLaws.{found_in, in_or_not}
use Rattle.gc_drc.proofs.PlaceLemmas.{contains_in, contains_not}
use Rattle.gc_drc.specs.SpaceLaws.{lies, places_are, held_size-counting, length-counting_data_at}
use Rattle.gc_drc.proofs.CountsSeen.{counts_are}

-- What is known of the place of a held object.
pub record HeldAt (s : CountedSpace) (q : ℕ) (o : HeapObject) : Type 0 where
  pub among : In q (places_of s.free.space.held)
  pub is : o ≡ counting_object_at s.memory q
  pub whole : IsCountingWhole s.memory q
  pub least : 28 ≤ counting_size_at s.memory q
  pub inside : q + counting_size_at s.memory q ≤ length s.memory
  pub aligned : q % 16 ≡ 0

-- what is known of a place among the blocks
pub among_at : (s : CountedSpace) (q : ℕ) → IsSoundSpace s → In q (places_of s.free.space.held) → HeldAt s q (counting_object_at s.memory q)
among_at s q sound i =
    let v = sound.view in
    let h = sound.holds in
    let j = subst (In q) (places_are v s h) i in
    let o = h.objects q j in
    let l = lies v s q h j in
    let size = o.size_is in
    let least = l.least in
    let inside = l.inside in
    record { among = i; is = refl; whole = o.whole; least = omega arith; inside = omega arith; aligned = l.aligned }

pub held_at : (s : CountedSpace) (scopes q : ℕ) (o : HeapObject) → IsSoundSpace s → finite.get (counting_seen_in scopes s).content q ≡ Some o → HeldAt s q o
held_at s scopes q o sound held =
    let f = found_in (counting_object_at s.memory) q o (places_of s.free.space.held) held in
    subst (HeldAt s q) (sym f.1) (among_at s q sound f.0)

-- its first two words are its header
pub header_of : (s : CountedSpace) (q : ℕ) (o : HeapObject) (kind_word type_word : ℕ) → HeldAt s q o → kind_word ≡ word s.memory q → type_word ≡ word s.memory (q + 4)
    → IsHeaderOf Counting o (record { kind_word = kind_word; type_word = type_word })
header_of s q o kind_word type_word h kind ty = record {
  kind = ap kind_part kind ∙ sym h.whole.kind ∙ ap (λ (x : HeapObject). kind_bits x.kind) (sym h.is);
  ty = ty ∙ ap (λ (x : HeapObject). x.ty) (sym h.is);
  spare = ap (λ w. w % spare_bits / 8 * 8) kind ∙ ap (λ (x : HeapObject). x.spare) (sym h.is);
}

-- its size word is its size
pub size_of : (s : CountedSpace) (q : ℕ) (o : HeapObject) → HeldAt s q o → held_size Counting o ≡ counting_size_at s.memory q
size_of s q o h = ap (held_size Counting) h.is ∙ held_size-counting s.memory q h.whole h.inside

-- the first word of its data
data_word : (m : List ℕ) (q : ℕ) → 32 ≤ counting_size_at m q → q + counting_size_at m q ≤ length m → u32_at (counting_data_at m q) 0 ≡ word m (q + 28)
data_word m q least inside =
    let at : q + 28 + 0 ≡ q + 28 = omega arith in
    u32_at-part m (q + 28) (counting_size_at m q - 28) 0 (omega arith) (omega arith) ∙ ap (u32_at m) at ∙ sym (word-is m (q + 28))

-- What the words of an external object are.
pub record HostAt (m : List ℕ) (q : ℕ) (o : HeapObject) : Type 0 where
  pub word_is : word m (q + 28) ≡ u32_at o.bytes 0
  pub kind : counting_kind_at m q ≡ ExternRef
  pub external : HasCountingHost m q

pub host_of : (s : CountedSpace) (q : ℕ) (o : HeapObject) → HeldAt s q o → o.kind ≡ ExternRef → HostAt s.memory q o
host_of s q o h kind =
    let at : counting_kind_at s.memory q ≡ ExternRef = sym (ap (λ (x : HeapObject). x.kind) h.is) ∙ kind in
    let x = h.whole.external at in
    record {
      word_is = sym (ap (λ (y : HeapObject). u32_at y.bytes 0) h.is ∙ data_word s.memory q (let size = x.size in omega arith) h.inside);
      kind = at;
      external = x;
    }

length-part : (bytes : List ℕ) (lo n : ℕ) → lo + n ≤ length bytes → length (take n (drop lo bytes)) ≡ n
length-part bytes lo n h = length-take-le n (drop lo bytes) (omega (arith, length-drop lo bytes))

-- a part of a part
part_of_part : (m : List ℕ) (q n lo k : ℕ) → lo + k ≤ n → q + n ≤ length m → take k (drop lo (take n (drop q m))) ≡ take k (drop (q + lo) m)
part_of_part m q n lo k h inside =
    let len : length (take n (drop q m)) ≡ n = length-part m q n inside in
    let left : length (take k (drop lo (take n (drop q m)))) ≡ k = length-part (take n (drop q m)) lo k (omega arith) in
    let right : length (take k (drop (q + lo) m)) ≡ k = length-part m (q + lo) k (omega arith) in
    same_lists _ _ (left ∙ sym right) (λ j d below.
    let small : j < k = omega arith in
    let at : q + (lo + j) ≡ q + lo + j = omega arith in
    get_or-take k (drop lo (take n (drop q m))) j d small
    ∙ get_or-drop lo (take n (drop q m)) j d
    ∙ get_or-take n (drop q m) (lo + j) d (omega arith)
    ∙ get_or-drop q m (lo + j) d
    ∙ ap (λ i. get_or m i d) at
    ∙ sym (get_or-take k (drop (q + lo) m) j d small ∙ get_or-drop (q + lo) m j d))

data_from : (k : VMGcKind) → data_offset Counting k ≡ 28
data_from ExternRef = refl
data_from AnyRef = refl
data_from EqRef = refl
data_from StructRef = refl
data_from ArrayRef = refl
data_from ExnRef = refl

data_read : (m : List ℕ) (q : ℕ) (k : VMGcKind) → 28 ≤ counting_size_at m q → q + counting_size_at m q ≤ length m
    → take (length (counting_data_at m q)) (drop (data_offset Counting k) (take (counting_size_at m q) (drop q m))) ≡ counting_data_at m q
data_read m q k least inside =
    ap (λ n. take n (drop (data_offset Counting k) (take (counting_size_at m q) (drop q m)))) (length-counting_data_at m q least inside)
    ∙ ap (λ n. take (counting_size_at m q - 28) (drop n (take (counting_size_at m q) (drop q m)))) (data_from k)
    ∙ part_of_part m q (counting_size_at m q) 28 (counting_size_at m q - 28) (omega arith) inside

-- all its bytes
pub data_of : (s : CountedSpace) (q : ℕ) (o : HeapObject) → HeldAt s q o → IsObjectData Counting o (take (counting_size_at s.memory q) (drop q s.memory))
data_of s q o h =
    let m : List ℕ = s.memory in
    let inside = h.inside in
    let least = h.least in
    let part : List ℕ = take (counting_size_at m q) (drop q m) in
    let zero : q + 0 ≡ q = omega arith in
    record {
      size = length-part m q (counting_size_at m q) inside ∙ sym (size_of s q o h);
      header = header_of s q o (u32_at part 0) (u32_at part 4) h
          (u32_at-part m q (counting_size_at m q) 0 (omega arith) inside ∙ ap (u32_at m) zero ∙ sym (word-is m q))
          (u32_at-part m q (counting_size_at m q) 4 (omega arith) inside ∙ sym (word-is m (q + 4)));
      size_word = u32_at-part m q (counting_size_at m q) 20 (omega arith) inside ∙ sym (word-is m (q + 20)) ∙ sym (size_of s q o h);
      data_is = subst (λ (x : HeapObject). take (length x.bytes) (drop (data_offset Counting x.kind) part) ≡ x.bytes) (sym h.is)
          (data_read m q (counting_kind_at m q) least inside);
    }

-- COUNTS

-- how often a place is in a set of places that stand once
one_is : (q : ℕ) (xs : List ℕ) → occ q xs ≤ 1 → one_in (finset.from_list xs) q ≡ occ q xs
one_is q xs once = elim (in_or_not q xs) [
  | inl i ↦ ap (λ b. cond b 1 0) (contains_in q xs i) ∙ (let some = In-occ q xs i in omega arith)
  | inr none ↦ ap (λ b. cond b 1 0) (contains_not q xs none) ∙ sym (occ-none q xs none)
]

shows_view : (v : View) (s : CountedSpace) (scopes q n : ℕ) → HoldsBlocks v s → v.marked ≡ [] → finite.get (counts_of v).counted q ≡ Some n
    → ShowsCount (record (counting_seen_in scopes s) { counts = counts_of v }) s.memory q n
shows_view v s scopes q n h unmarked held =
    let f = found_in v.counted q n v.places held in
    let o = h.objects q f.0 in
    let is = f.1 in
    let shown = one_is q v.shown (h.shown_part.once q) in
    let queued = one_is q v.queue (h.queue_part.once q) in
    let marked : occ q v.marked ≡ 0 = ap (occ q) unmarked in
    let positive = o.positive in
    let count = o.count_is in
    let flags = o.flags_are in
    record {
      word = sym (word64-is s.memory (q + 8)) ∙ (omega arith);
      positive = omega arith;
      flags = ap (λ w. w % 8) (sym (word-is s.memory q)) ∙ (omega arith);
    }

-- the bytes show each count
pub shows_count : (s : CountedSpace) (scopes q n : ℕ) → IsSoundSpace s → finite.get (counting_seen_in scopes s).counts.counted q ≡ Some n → ShowsCount (counting_seen_in scopes s) s.memory q n
shows_count s scopes q n sound =
    subst (λ (c : Counts). finite.get c.counted q ≡ Some n → ShowsCount (record (counting_seen_in scopes s) { counts = c }) s.memory q n) (sym (counts_are sound.view s sound.holds))
    (shows_view sound.view s scopes q n sound.holds sound.unmarked)
