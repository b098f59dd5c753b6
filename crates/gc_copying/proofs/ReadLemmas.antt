-- What the words of a held object tell.
use Rattle.std.proofs.Common.{◌≡◌, ℕ, ◌+◌, ◌-◌, ◌%◌, ◌<◌, ◌≤◌, Bool, List, take, drop, length, get_or, Some, refl, sym, ap, subst, ◌∙◌, arith}
use Rattle.std.specs.FinMap as finite
use Rattle.std.proofs.lemmas.List.{same_lists, get_or-take, get_or-drop, length-take-le, length-drop}
use Rattle.gc_types.specs.declared.kind.Layouts.TheVariants.{Copying}
use Rattle.gc_types.specs.declared.kind.VMGcKind.{VMGcKind}
use Rattle.gc_types.specs.declared.kind.VMGcKind.TheVariants.{ExternRef, AnyRef, EqRef, StructRef, ArrayRef, ExnRef}
use Rattle.gc_types.specs.Kinds.{kind_bits}
use Rattle.gc_refs.specs.Header.{kind_part, spare_bits}
use Rattle.gc_memory.specs.Words.{word}
use Rattle.gc_memory.specs.Lists.{In}
use Rattle.gc_memory.proofs.WordLemmas.{word-is}
use Rattle.gc_view.proofs.ByteLemmas.{u32_at-part}
use Rattle.gc_view.specs.Bytes.{u32_at}
use Rattle.gc_view.specs.Heaps.{HeapObject}
use Rattle.gc_heap.specs.Objects.{held_size, first_offset, data_offset, IsObjectKind, IsHeaderOf, IsObjectData}
use Rattle.gc_copying.specs.Layout.{copying_size_at, places_in, copying_kind_at, copying_data_at, copying_object_at}
use Rattle.gc_copying.specs.Content.{objects_at, IsCopyingWhole, HasCopyingHost, IsSpace}
use Rattle.gc_copying.specs.ObjectLaws.{held_size-copying, held_only}
use Rattle.gc_copying.specs.HeapLaws.{LiesInSpace, lies_in_space}

-- What is known of the place of a held object.
pub record HeldAt (m : List ℕ) (upper : Bool) (bump q : ℕ) (o : HeapObject) : Type 0 where
  pub among : In q (places_in m upper bump)
  pub is : o ≡ copying_object_at m q
  pub whole : IsCopyingWhole m q
  pub lies : LiesInSpace m upper bump q

pub held_at : (m : List ℕ) (upper : Bool) (bump head objects q : ℕ) (o : HeapObject) → IsSpace m upper bump head objects
    → finite.get (objects_at m (places_in m upper bump)) q ≡ Some o → HeldAt m upper bump q o
held_at m upper bump head objects q o s held =
    let f = held_only m q o (places_in m upper bump) held in
    record { among = f.among; is = f.is; whole = s.whole q f.among; lies = lies_in_space m upper bump head objects q s f.among }

-- its first two words are its header
pub header_of : (m : List ℕ) (upper : Bool) (bump q : ℕ) (o : HeapObject) (kind_word type_word : ℕ) → HeldAt m upper bump q o → kind_word ≡ word m q → type_word ≡ word m (q + 4)
    → IsHeaderOf Copying o (record { kind_word = kind_word; type_word = type_word })
header_of m upper bump q o kind_word type_word h kind ty = record {
  kind = ap kind_part kind ∙ sym h.whole.kind ∙ ap (λ (x : HeapObject). kind_bits x.kind) (sym h.is);
  ty = ty ∙ ap (λ (x : HeapObject). x.ty) (sym h.is);
  spare = ap (λ w. w % spare_bits) kind ∙ ap (λ (x : HeapObject). x.spare) (sym h.is);
}

-- its size word is its size
pub size_of : (m : List ℕ) (upper : Bool) (bump q : ℕ) (o : HeapObject) → HeldAt m upper bump q o → held_size Copying o ≡ copying_size_at m q
size_of m upper bump q o h = ap (held_size Copying) h.is ∙ held_size-copying m q h.whole h.lies.inside

host_word : (m : List ℕ) (q : ℕ) → q + 20 ≤ length m → u32_at (copying_data_at m q ExternRef) 0 ≡ word m (q + 16)
unfolding copying_data_at
host_word m q inside =
    let at : q + 16 + 0 ≡ q + 16 = omega arith in
    u32_at-part m (q + 16) 4 0 (omega arith) (omega arith) ∙ ap (u32_at m) at ∙ sym (word-is m (q + 16))

-- What the words of an external object are.
pub record HostAt (m : List ℕ) (q : ℕ) (o : HeapObject) : Type 0 where
  pub word_is : word m (q + 16) ≡ u32_at o.bytes 0
  pub kind : copying_kind_at m q ≡ ExternRef
  pub external : HasCopyingHost m q

pub host_of : (m : List ℕ) (upper : Bool) (bump q : ℕ) (o : HeapObject) → HeldAt m upper bump q o → o.kind ≡ ExternRef → HostAt m q o
host_of m upper bump q o h kind =
    let at : copying_kind_at m q ≡ ExternRef = sym (ap (λ (x : HeapObject). x.kind) h.is) ∙ kind in
    let x = h.whole.external at in
    record {
      word_is = sym (ap (λ (y : HeapObject). u32_at y.bytes 0) h.is ∙ ap (λ k. u32_at (copying_data_at m q k) 0) at ∙ host_word m q (omega (arith, h.lies.inside, x.size)));
      kind = at;
      external = x;
    }

length-part : (bytes : List ℕ) (lo n : ℕ) → lo + n ≤ length bytes → length (take n (drop lo bytes)) ≡ n
length-part bytes lo n h = length-take-le n (drop lo bytes) (omega (arith, length-drop lo bytes))

-- a part of a part
part_of_part : (m : List ℕ) (q n lo k : ℕ) → lo + k ≤ n → q + n ≤ length m → take k (drop lo (take n (drop q m))) ≡ take k (drop (q + lo) m)
part_of_part m q n lo k h inside =
    let len : length (take n (drop q m)) ≡ n = length-part m q n inside in
    let left : length (take k (drop lo (take n (drop q m)))) ≡ k = length-part (take n (drop q m)) lo k (omega arith) in
    let right : length (take k (drop (q + lo) m)) ≡ k = length-part m (q + lo) k (omega arith) in
    same_lists _ _ (left ∙ sym right) (λ j d below.
    let small : j < k = omega arith in
    let at : q + (lo + j) ≡ q + lo + j = omega arith in
    get_or-take k (drop lo (take n (drop q m))) j d small
    ∙ get_or-drop lo (take n (drop q m)) j d
    ∙ get_or-take n (drop q m) (lo + j) d (omega arith)
    ∙ get_or-drop q m (lo + j) d
    ∙ ap (λ i. get_or m i d) at
    ∙ sym (get_or-take k (drop (q + lo) m) j d small ∙ get_or-drop (q + lo) m j d))

data_read : (m : List ℕ) (q : ℕ) (k : VMGcKind) → IsObjectKind k → first_offset Copying k ≤ copying_size_at m q → (k ≡ ExternRef → copying_size_at m q ≡ 32) → q + copying_size_at m q ≤ length m
    → take (length (copying_data_at m q k)) (drop (data_offset Copying k) (take (copying_size_at m q) (drop q m))) ≡ copying_data_at m q k
unfolding copying_data_at
data_read m q ExternRef ok least ext inside =
    let whole : copying_size_at m q ≡ 32 = ext refl in
    ap (λ n. take n (drop 16 (take (copying_size_at m q) (drop q m)))) (length-part m (q + 16) 4 (omega arith)) ∙ part_of_part m q (copying_size_at m q) 16 4 (omega arith) inside
data_read m q AnyRef ok least ext inside = absurd ok
data_read m q EqRef ok least ext inside = absurd ok
data_read m q StructRef ok least ext inside =
    ap (λ n. take n (drop 12 (take (copying_size_at m q) (drop q m)))) (length-part m (q + 12) (copying_size_at m q - 12) (omega arith)) ∙ part_of_part m q (copying_size_at m q) 12 (copying_size_at m q - 12) (omega arith) inside
data_read m q ArrayRef ok least ext inside =
    ap (λ n. take n (drop 12 (take (copying_size_at m q) (drop q m)))) (length-part m (q + 12) (copying_size_at m q - 12) (omega arith)) ∙ part_of_part m q (copying_size_at m q) 12 (copying_size_at m q - 12) (omega arith) inside
data_read m q ExnRef ok least ext inside =
    ap (λ n. take n (drop 12 (take (copying_size_at m q) (drop q m)))) (length-part m (q + 12) (copying_size_at m q - 12) (omega arith)) ∙ part_of_part m q (copying_size_at m q) 12 (copying_size_at m q - 12) (omega arith) inside

-- all its bytes
pub data_of : (m : List ℕ) (upper : Bool) (bump q : ℕ) (o : HeapObject) → HeldAt m upper bump q o → IsObjectData Copying o (take (copying_size_at m q) (drop q m))
data_of m upper bump q o h =
    let inside = h.lies.inside in
    let part : List ℕ = take (copying_size_at m q) (drop q m) in
    let zero : q + 0 ≡ q = omega arith in
    record {
      size = length-part m q (copying_size_at m q) inside ∙ sym (size_of m upper bump q o h);
      header = header_of m upper bump q o (u32_at part 0) (u32_at part 4) h
          (u32_at-part m q (copying_size_at m q) 0 (omega (arith, h.lies.least)) inside ∙ ap (u32_at m) zero ∙ sym (word-is m q))
          (u32_at-part m q (copying_size_at m q) 4 (omega (arith, h.lies.least)) inside ∙ sym (word-is m (q + 4)));
      size_word = u32_at-part m q (copying_size_at m q) 8 (omega (arith, h.lies.least)) inside ∙ sym (word-is m (q + 8)) ∙ sym (size_of m upper bump q o h);
      data_is = subst (λ (x : HeapObject). take (length x.bytes) (drop (data_offset Copying x.kind) part) ≡ x.bytes) (sym h.is)
          (data_read m q (copying_kind_at m q) h.whole.object_kind h.whole.least (λ e. (h.whole.external e).size) inside);
    }
