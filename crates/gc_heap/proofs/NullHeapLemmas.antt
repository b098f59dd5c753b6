-- A null heap with no memory holds nothing; with one, what is read there is what is held.
use Rattle.std.proofs.Common.{◌≡◌, ℕ, ◌+◌, ◌-◌, ◌*◌, ◌%◌, ◌≤◌, ◌++◌, List, take, drop, length, replicate, Option, Some, None, refl, sym, ap, subst, ◌∙◌, arith}
use Rattle.std.specs.Ordering.{nat_cmp}
use Rattle.std.specs.FinMap as map
use Rattle.std.proofs.lemmas.Cmp.{nat_cmp_total}
use Rattle.std.proofs.lemmas.Grind.{common_steps}
use Rattle.std.proofs.lemmas.List.{length-replicate, length-take-le, length-drop, drop-take, drop-drop, take-take}
use Rattle.gc_types.specs.declared.kind.Layouts.TheVariants.{Null}
use Rattle.gc_types.specs.declared.kind.VMGcKind.TheVariants.{ExternRef}
use Rattle.gc_types.specs.Kinds.{kind_bits}
use Rattle.gc_types.specs.Layouts.{round_up}
use Rattle.gc_refs.specs.Header.{Header, spare_bits}
use Rattle.gc_view.specs.Sizes.{alignment}
use Rattle.gc_view.specs.Pages.{page, max_pages}
use Rattle.gc_view.specs.Bytes.{put_bytes}
use Rattle.gc_view.specs.Bytes.{u32_at}
use Rattle.gc_view.specs.Heaps.{Counts, no_counts, HeapObject, HeapView, Counts, no_counts}
use Rattle.gc_view.proofs.ByteLemmas.{u32_at-part}
use Rattle.gc_heap.specs.Objects.{held_size, IsHeaderOf, IsObjectData}
use Rattle.gc_heap.specs.Content.{LiesAtPlace}
use Rattle.gc_heap.specs.Lying.{LiesIn}
use Rattle.gc_heap.specs.Heap.{grown, put_object, with_data, IsWritable}
use Rattle.gc_heap.specs.Barriers.{cloned, dropped, exposed, copied, emptied, overwritten, raise, lower, show}
use Rattle.gc_heap.specs.NullWalk.{bump_first_place, bump_size_at, bump_object_at, HasBumpHost, BumpLiesAt, header_in}
use Rattle.gc_heap.specs.NullWalkLaws.{least, object_bytes, length-object, held_is, LiesAmong}
use Rattle.gc_heap.proofs.NullWalkLemmas.{object_ty, size_word, len_entries}
use Rattle.gc_heap.specs.NullStates.{bump_view, view_of, null_seen, HasMemory, IsBumped, IsNullSound, IsNullTaken}
use Rattle.gc_heap.specs.NullLaws.{data_begins, nothing_in_detached, null_is_heap}
use Rattle.gc_heap.specs.declared.null.NullHeap.{NullHeap}
use Rattle.gc_heap.proofs.NullMemoryLemmas.{held_lies, written_inside, write_data, grows}

pub nothing_held : (h : NullHeap) (q : ℕ) (object : HeapObject) → h.memory ≡ None → map.get (null_seen h).content q ≡ Some object → ⊥
nothing_held h q object is held =
    nothing_in_detached q object (subst (λ (m : Option (List ℕ)). map.get (view_of m h.next h.objects h.scopes).content q ≡ Some object) is held)

-- a null heap counts nothing
counted_of : (memory : Option (List ℕ)) (next objects scopes : ℕ) → (view_of memory next objects scopes).counts ≡ no_counts
counted_of None next objects scopes = refl
counted_of (Some bytes) next objects scopes = refl

pub nothing_counted : (h : NullHeap) (q n : ℕ) → map.get (null_seen h).counts.counted q ≡ Some n → ⊥
nothing_counted h q n counted =
    let none : map.get (null_seen h).counts.counted q ≡ None = ap (λ (c : Counts). map.get c.counted q) (counted_of h.memory h.next h.objects h.scopes) ∙ map.get-empty nat_cmp q in
    cc

-- a heap with a memory is seen as that memory is
pub seen_in : (h : NullHeap) (bytes : List ℕ) → h.memory ≡ Some bytes → null_seen h ≡ bump_view bytes h.next h.objects h.scopes
seen_in h bytes is = ap (λ (m : Option (List ℕ)). view_of m h.next h.objects h.scopes) is

pub bumped_in : (h : NullHeap) (bytes : List ℕ) → h.memory ≡ Some bytes → IsNullSound h → IsBumped bytes h.next h.objects
bumped_in h bytes is sound = subst (λ (m : Option (List ℕ)). HasMemory m h.next h.objects) is sound.memory

pub held_in : (h : NullHeap) (bytes : List ℕ) (q : ℕ) (object : HeapObject) → h.memory ≡ Some bytes → map.get (null_seen h).content q ≡ Some object
    → map.get (bump_view bytes h.next h.objects h.scopes).content q ≡ Some object
held_in h bytes q object is held = subst (λ (v : HeapView). map.get v.content q ≡ Some object) (seen_in h bytes is) held

-- what is held lies in the memory
pub lies_in : (h : NullHeap) (bytes : List ℕ) (q : ℕ) (object : HeapObject) → IsNullSound h → h.memory ≡ Some bytes
    → map.get (null_seen h).content q ≡ Some object → LiesAmong bytes bump_first_place (round_up h.next alignment) q object
lies_in h bytes q object sound is held =
    held_lies bytes h.next h.objects h.scopes q object (bumped_in h bytes is sound) (held_in h bytes q object is held)

-- An object lies whole at a place of a memory.
pub record Lies (bytes : List ℕ) (q : ℕ) (object : HeapObject) : Type 0 where
  pub lies : BumpLiesAt bytes q
  pub is : object ≡ bump_object_at bytes q
  pub aligned : q % 16 ≡ 0
  pub size : u32_at bytes q % spare_bits ≡ held_size Null object
  pub length_is : length object.bytes ≡ bump_size_at bytes q - 8

pub lies_whole : (h : NullHeap) (bytes : List ℕ) (q : ℕ) (object : HeapObject) → IsNullSound h → h.memory ≡ Some bytes
    → map.get (null_seen h).content q ≡ Some object → Lies bytes q object
lies_whole h bytes q object sound is held =
    let l = lies_in h bytes q object sound is held in
    record {
      lies = l.lies;
      is = l.is;
      aligned = l.aligned;
      size = sym (size_word bytes q) ∙ sym (held_is bytes q l.lies) ∙ ap (held_size Null) (sym l.is);
      length_is = ap (λ (o : HeapObject). length o.bytes) l.is ∙ length-object bytes q l.lies;
    }

-- the words at a held object are its header
header_is : (bytes : List ℕ) (q : ℕ) (object : HeapObject) → Lies bytes q object → IsHeaderOf Null object (header_in bytes q)
header_is bytes q object l = record {
  kind = l.lies.kind ∙ ap (λ (x : HeapObject). kind_bits x.kind) (sym l.is);
  ty = sym (object_ty bytes q) ∙ ap (λ (x : HeapObject). x.ty) (sym l.is);
  spare = l.size;
}

-- the bytes at a held object are its own
pub data_is : (bytes : List ℕ) (q : ℕ) (object : HeapObject) → Lies bytes q object → IsObjectData Null object (take (held_size Null object) (drop q bytes))
data_is bytes q object l =
    let n : ℕ = held_size Null object in
    let part : List ℕ = take n (drop q bytes) in
    let size : n ≡ bump_size_at bytes q = sym l.size ∙ sym (size_word bytes q) in
    let least_size : 8 ≤ bump_size_at bytes q = least l.lies in
    let inside : q + bump_size_at bytes q ≤ length bytes = l.lies.inside in
    let whole : 8 + (n - 8) ≡ n = omega arith in
    let length_is : length object.bytes ≡ n - 8 = l.length_is ∙ ap (λ k. k - 8) (sym size) in
    let h : Header = header_in bytes q in
    let first : u32_at part 0 ≡ u32_at bytes q = u32_at-part bytes q n 0 (omega arith) (omega arith) ∙ ap (u32_at bytes) (let e : q + 0 ≡ q = omega arith in e) in
    let second : u32_at part 4 ≡ u32_at bytes (q + 4) = u32_at-part bytes q n 4 (omega arith) (omega arith) in
    let object_is : object.bytes ≡ take (n - 8) (drop (q + 8) bytes) =
    ap (λ (x : HeapObject). x.bytes) l.is ∙ object_bytes bytes q ∙ ap (λ k. take (k - 8) (drop (q + 8) bytes)) (sym size) in
    record {
      size = length-take-le n (drop q bytes) (omega (arith, length-drop q bytes));
      header = subst (IsHeaderOf Null object) (λ i. record { kind_word = (sym first) i; type_word = (sym second) i }) (header_is bytes q object l);
      size_word = tt;
      data_is = ap (λ k. take (length object.bytes) (drop k part)) (data_begins object.kind)
          ∙ ap (λ k. take (length object.bytes) (drop 8 (take k (drop q bytes)))) (sym whole)
          ∙ ap (take (length object.bytes)) (drop-take 8 (n - 8) (drop q bytes) ∙ ap (take (n - 8)) (drop-drop 8 q bytes))
          ∙ ap (λ k. take k (take (n - 8) (drop (q + 8) bytes))) length_is
          ∙ take-take (n - 8) (n - 8) (drop (q + 8) bytes) (omega arith)
          ∙ sym object_is;
    }

-- what is held lies in the memory, whole
pub null_lies : (h : NullHeap) (bytes : List ℕ) (q : ℕ) (object : HeapObject) → IsNullSound h → h.memory ≡ Some bytes → map.get (null_seen h).content q ≡ Some object → LiesIn Null bytes q object
null_lies h bytes q object sound is held = record {
  lies = subst (λ (v : HeapView). LiesAtPlace Null v.capacity q object) (seen_in h bytes is) ((null_is_heap h sound).objects q object held);
  object = data_is bytes q object (lies_whole h bytes q object sound is held);
}

-- a null heap tells no counts, so barriers leave it as it is
no_counts_in : (m : Option (List ℕ)) (next objects scopes : ℕ) → (view_of m next objects scopes).counts ≡ no_counts
no_counts_in None next objects scopes = refl
no_counts_in (Some bytes) next objects scopes = refl

uncounted : (v : HeapView) (word : ℕ) → v.counts ≡ no_counts → map.get v.counts.counted word ≡ None
uncounted v word counts = ap (λ (c : Counts). map.get c.counted word) counts ∙ map.get-empty nat_cmp word

cloned_same : (v : HeapView) (word : ℕ) → v.counts ≡ no_counts → v ≡ cloned v word
cloned_same v word counts = ap (λ (o : Option ℕ). record v { counts = raise o word v.counts }) (sym (uncounted v word counts))

dropped_same : (v : HeapView) (word : ℕ) → v.counts ≡ no_counts → v ≡ dropped v word
dropped_same v word counts = ap (λ (o : Option ℕ). record v { counts = lower o word v.counts }) (sym (uncounted v word counts))

copied_same : (v : HeapView) (slot : Option ℕ) → v.counts ≡ no_counts → v ≡ copied v slot
copied_same v None counts = refl
copied_same v (Some word) counts = cloned_same v word counts

emptied_same : (v : HeapView) (slot : Option ℕ) → v.counts ≡ no_counts → v ≡ emptied v slot
emptied_same v None counts = refl
emptied_same v (Some word) counts = dropped_same v word counts

pub null_cloned : (h : NullHeap) (word : ℕ) → null_seen h ≡ cloned (null_seen h) word
null_cloned h word = cloned_same (null_seen h) word (no_counts_in h.memory h.next h.objects h.scopes)

pub null_dropped : (h : NullHeap) (word : ℕ) → null_seen h ≡ dropped (null_seen h) word
null_dropped h word = dropped_same (null_seen h) word (no_counts_in h.memory h.next h.objects h.scopes)

pub null_exposed : (h : NullHeap) (word : ℕ) → null_seen h ≡ exposed (null_seen h) word
null_exposed h word =
    let v : HeapView = null_seen h in
    ap (λ (o : Option ℕ). record v { counts = show o word v.counts }) (sym (uncounted v word (no_counts_in h.memory h.next h.objects h.scopes)))

pub null_overwritten : (h : NullHeap) (destination source : Option ℕ) → null_seen h ≡ overwritten (null_seen h) destination source
null_overwritten h destination source =
    let v : HeapView = null_seen h in
    let counts : v.counts ≡ no_counts = no_counts_in h.memory h.next h.objects h.scopes in
    emptied_same v destination counts ∙ ap (λ (x : HeapView). emptied x destination) (copied_same v source counts)

count_of : (m : Option (List ℕ)) (next objects scopes : ℕ) → HasMemory m next objects → objects ≡ map.len (view_of m next objects scopes).content
count_of None next objects scopes s = s.1 ∙ sym (map.len-empty nat_cmp HeapObject)
count_of (Some bytes) next objects scopes s = sym (len_entries objects bytes bump_first_place (round_up next alignment) s.follow)

pub null_count : (h : NullHeap) → IsNullSound h → h.objects ≡ map.len (null_seen h).content
null_count h sound = count_of h.memory h.next h.objects h.scopes sound.memory

-- What a memory that is put back does to a heap.
pub record Replaces (h : NullHeap) (view : HeapView) (memory : List ℕ) (delta : ℕ) : Type 0 where
  pub sound : IsNullSound (record { memory = Some memory; next = h.next; objects = h.objects; scopes = h.scopes })
  pub seen : bump_view memory h.next h.objects h.scopes ≡ grown Null view delta

pub replaces : (h : NullHeap) (view : HeapView) (bytes memory : List ℕ) (delta : ℕ) → IsNullTaken h view bytes → memory ≡ bytes ++ replicate delta 0
    → length memory % page ≡ 0 → length memory ≤ page * max_pages → Replaces h view memory delta
replaces h view bytes memory delta taken is whole bound =
    let more : List ℕ = replicate delta 0 in
    let g = grows bytes more h.next h.objects taken.bumped (subst (λ (m : List ℕ). length m % page ≡ 0) is whole) (subst (λ (m : List ℕ). length m ≤ page * max_pages) is bound) in
    record {
      sound = record {
        memory = subst (λ (m : List ℕ). IsBumped m h.next h.objects) (sym is) g.bumped;
        scopes = taken.scopes;
      };
      seen = ap (λ (m : List ℕ). bump_view m h.next h.objects h.scopes) is
          ∙ g.view h.scopes
          ∙ ap (λ k. record (bump_view bytes h.next h.objects h.scopes) { capacity = length bytes + k }) (length-replicate {A = ℕ} delta 0)
          ∙ ap (λ (v : HeapView). grown Null v delta) (sym taken.seen);
    }

-- What a write to an object does to a heap.
pub record WritesIn (h : NullHeap) (bytes after : List ℕ) (q offset count : ℕ) : Type 0 where
  pub fits : q + offset + count ≤ length bytes
  pub sound : IsNullSound (record { memory = Some after; next = h.next; objects = h.objects; scopes = h.scopes })

pub writes_in : (h : NullHeap) (bytes ws : List ℕ) (q offset : ℕ) → IsNullSound h → h.memory ≡ Some bytes
    → IsWritable Null (null_seen h) q offset (length ws) → WritesIn h bytes (put_bytes bytes (q + offset) ws) q offset (length ws)
writes_in h bytes ws q offset sound is r =
    let s = bumped_in h bytes is sound in
    let seen : null_seen h ≡ bump_view bytes h.next h.objects h.scopes = seen_in h bytes is in
    let held = held_in h bytes q r.object is r.held in
    let r' = subst (λ (v : HeapView). IsWritable Null v q offset (length ws)) seen r in
    record {
      fits = (written_inside bytes h.next h.objects h.scopes q offset (length ws) r.object s r' held).fits;
      sound = record {
        memory = (write_data bytes h.next h.objects h.scopes q offset ws r.object s r' held).bumped;
        scopes = sound.scopes;
      };
    }

pub written_seen : (h : NullHeap) (bytes ws : List ℕ) (q offset : ℕ) (object : HeapObject) → IsNullSound h → h.memory ≡ Some bytes
    → IsWritable Null (null_seen h) q offset (length ws) → map.get (null_seen h).content q ≡ Some object
    → bump_view (put_bytes bytes (q + offset) ws) h.next h.objects h.scopes ≡ put_object (null_seen h) q (with_data Null object offset ws)
written_seen h bytes ws q offset object sound is r held =
    let s = bumped_in h bytes is sound in
    let seen : null_seen h ≡ bump_view bytes h.next h.objects h.scopes = seen_in h bytes is in
    let r' = subst (λ (v : HeapView). IsWritable Null v q offset (length ws)) seen r in
    (write_data bytes h.next h.objects h.scopes q offset ws object s r' (held_in h bytes q object is held)).view
    ∙ ap (λ (v : HeapView). put_object v q (with_data Null object offset ws)) (sym seen)

-- the object that is held put back
pub put_same : (v : HeapView) (q : ℕ) (object : HeapObject) → map.get v.content q ≡ Some object → v ≡ put_object v q object
put_same v q object held =
    ap (λ (m : map.FinMap nat_cmp HeapObject). record v { content = m })
    (map.same_map nat_cmp_total map.nat_cmp-IsAntisymmetric v.content (map.insert v.content q object) (λ k. grind (arith, common_steps, map.gets)))

host_in : (h : NullHeap) (m : Option (List ℕ)) (q : ℕ) (object : HeapObject) → h.memory ≡ m → IsNullSound h → map.get (null_seen h).content q ≡ Some object
    → object.kind ≡ ExternRef → HasBumpHost object
host_in h None q object is sound held kind = absurd (nothing_held h q object is held)
host_in h (Some bytes) q object is sound held kind =
    let l = lies_whole h bytes q object sound is held in
    subst HasBumpHost (sym l.is) (l.lies.host (ap (λ (o : HeapObject). o.kind) (sym l.is) ∙ kind))

pub null_host : (h : NullHeap) (q : ℕ) (object : HeapObject) → IsNullSound h → map.get (null_seen h).content q ≡ Some object
    → object.kind ≡ ExternRef → HasBumpHost object
null_host h q object sound held kind = host_in h h.memory q object refl sound held kind
