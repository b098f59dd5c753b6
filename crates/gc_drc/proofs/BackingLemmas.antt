-- What is seen of a heap by where it has its memory.
use Rattle.std.proofs.Common.{drop, take, ◌≡◌, ℕ, ◌+◌, ◌*◌, ◌%◌, ◌<◌, ◌≤◌, ◌++◌, true, false, List, length, replicate, Option, Some, None, refl, sym, ap, subst, ◌∙◌, inl, inr, arith}
use Rattle.std.specs.Ordering.{nat_cmp}
use Rattle.std.specs.FinMap as finite
use Rattle.std.proofs.lemmas.Bool.{cases_eq}
use Rattle.gc_types.specs.declared.kind.Layouts.TheVariants.{Counting}
use Rattle.gc_types.specs.declared.kind.VMGcKind.TheVariants.{ExternRef}
use Rattle.gc_view.specs.Bytes.{u32_at}
use Rattle.gc_view.specs.Pages.{page, max_pages}
use Rattle.gc_view.specs.Heaps.{HeapObject, HeapView, detached_in}
use Rattle.gc_free.specs.Space.{IsSound, grow}
use Rattle.gc_heap.specs.Content.{LiesAtPlace}
use Rattle.gc_heap.specs.FreedHosts.{IsHostWord}
use Rattle.gc_heap.specs.Lying.{LiesIn}
use Rattle.gc_heap.specs.Objects.{IsObjectData}
use Rattle.gc_heap.specs.Heap.{grown}
use Rattle.gc_heap.specs.Barriers.{raise, lower, show, cloned, dropped, exposed, copied, CanUnname, CanUnnameSlot, IsNamed}
use Rattle.gc_heap.proofs.MemoryLemmas as memory
use Rattle.gc_heap.specs.Backings.{objects_in, IsAttached, GivesAway, TakesOut}
use Rattle.gc_drc.specs.declared.space.CountedSpace.{CountedSpace}
use Rattle.gc_drc.specs.declared.growth.Marks.{Marks}
use Rattle.gc_drc.specs.declared.heap.DrcHeap.{DrcHeap}
use Rattle.gc_drc.specs.Backed.{CountingBacking, counting_marks_of}
use Rattle.gc_heap.specs.declared.backing.Backing.TheVariants as backing
use Rattle.gc_drc.specs.Layout.{counting_object_at}
use Rattle.gc_drc.specs.Content.{at_places, counting_seen_in, IsSoundSpace}
use Rattle.gc_drc.specs.Growth.{with_bytes}
use Rattle.gc_drc.proofs.PlaceLemmas.{len-at}
use Rattle.gc_drc.specs.SpaceLaws.{blocks_apart, places_are}
use Rattle.gc_free.specs.Space.{places_end}
use Rattle.gc_drc.specs.States.{IsCountingBacked, counting_seen_of, drc_seen, IsCountingOut, IsDrcSound}
use Rattle.gc_drc.specs.DrcHeapLaw.{drc_is_heap}
use Rattle.gc_drc.proofs.GrowLemmas.{grows}
use Rattle.gc_drc.proofs.ReadLemmas.{HeldAt, held_at, size_of, data_of, host_of}
use Rattle.gc_drc.proofs.SeenLemmas.{get-insert-same, get-insert-other}

-- where no memory is attached, what is seen is a heap without one
pub not_attached : (scopes : ℕ) (b : CountingBacking) → ((s : CountedSpace) → b ≡ backing.Attached s → ⊥) → counting_seen_of scopes b ≡ detached_in scopes
not_attached scopes backing.Detached never = refl
not_attached scopes (backing.Attached s) never = absurd (never s refl)
not_attached scopes (backing.Taken m) never = refl

-- and it holds nothing
pub nothing_held : (scopes : ℕ) (b : CountingBacking) (q : ℕ) (o : HeapObject) → ((s : CountedSpace) → b ≡ backing.Attached s → ⊥) → finite.get (counting_seen_of scopes b).content q ≡ Some o → ⊥
nothing_held scopes b q o never held =
    let none = not_attached scopes b never in
    memory.nothing_held (counting_seen_of scopes b) q o (none ∙ ap detached_in (sym (ap (λ (h : HeapView). h.scopes) none))) held

attached_at : (h : DrcHeap) (s : CountedSpace) (q : ℕ) (o : HeapObject) → h.backing ≡ backing.Attached s → IsDrcSound h → finite.get (drc_seen h).content q ≡ Some o → HeldAt s q o
attached_at h s q o is sound held = held_at s h.scopes q o (subst IsCountingBacked is sound.backed) (subst (λ b. finite.get (counting_seen_of h.scopes b).content q ≡ Some o) is held)

-- what it holds where its memory is attached lies in that
pub held_lies : (h : DrcHeap) (s : CountedSpace) (q : ℕ) (o : HeapObject) → h.backing ≡ backing.Attached s → IsDrcSound h → finite.get (drc_seen h).content q ≡ Some o → LiesIn Counting s.memory q o
held_lies h s q o is sound held =
    let at = attached_at h s q o is sound held in
    record {
      lies = subst (λ b. LiesAtPlace Counting (counting_seen_of h.scopes b).capacity q o) is ((drc_is_heap h sound).objects q o held);
      object = subst (λ n. IsObjectData Counting o (take n (drop q s.memory))) (sym (size_of s q o at)) (data_of s q o at);
    }

-- the host id of what it holds is one that a table may give
pub host_number : (h : DrcHeap) (s : CountedSpace) (q : ℕ) (o : HeapObject) → h.backing ≡ backing.Attached s → IsDrcSound h → finite.get (drc_seen h).content q ≡ Some o → o.kind ≡ ExternRef
    → IsHostWord (u32_at o.bytes 0)
host_number h s q o is sound held kind =
    let x = host_of s q o (attached_at h s q o is sound held) kind in
    (omega (arith, x.external.from, x.word_is), omega (arith, x.external.to, x.word_is))

pub nothing_counted : (scopes : ℕ) (b : CountingBacking) (q n : ℕ) → ((s : CountedSpace) → b ≡ backing.Attached s → ⊥) → finite.get (counting_seen_of scopes b).counts.counted q ≡ Some n → ⊥
nothing_counted scopes b q n never counted =
    let none = not_attached scopes b never in
    memory.nothing_counted (counting_seen_of scopes b) q n (none ∙ ap detached_in (sym (ap (λ (h : HeapView). h.scopes) none))) counted

pub scopes_of : (scopes : ℕ) (b : CountingBacking) → (counting_seen_of scopes b).scopes ≡ scopes
scopes_of scopes backing.Detached = refl
scopes_of scopes (backing.Attached s) = refl
scopes_of scopes (backing.Taken m) = refl

-- it counts nothing, so that a barrier leaves it as it is
not_counted : (q : ℕ) → finite.get (finite.empty {X = ℕ} {R = nat_cmp}) q ≡ None
not_counted q = finite.get-empty nat_cmp q

pub unchanged_cloned : (scopes : ℕ) (b : CountingBacking) (q : ℕ) → ((s : CountedSpace) → b ≡ backing.Attached s → ⊥) → counting_seen_of scopes b ≡ cloned (counting_seen_of scopes b) q
unchanged_cloned scopes b q never = subst (λ h. h ≡ cloned h q) (sym (not_attached scopes b never))
    (ap (λ n. record (detached_in scopes) { counts = raise n q (detached_in scopes).counts }) (sym (not_counted q)))

pub unchanged_dropped : (scopes : ℕ) (b : CountingBacking) (q : ℕ) → ((s : CountedSpace) → b ≡ backing.Attached s → ⊥) → counting_seen_of scopes b ≡ dropped (counting_seen_of scopes b) q
unchanged_dropped scopes b q never = subst (λ h. h ≡ dropped h q) (sym (not_attached scopes b never))
    (ap (λ n. record (detached_in scopes) { counts = lower n q (detached_in scopes).counts }) (sym (not_counted q)))

pub unchanged_exposed : (scopes : ℕ) (b : CountingBacking) (q : ℕ) → ((s : CountedSpace) → b ≡ backing.Attached s → ⊥) → counting_seen_of scopes b ≡ exposed (counting_seen_of scopes b) q
unchanged_exposed scopes b q never = subst (λ h. h ≡ exposed h q) (sym (not_attached scopes b never))
    (ap (λ n. record (detached_in scopes) { counts = show n q (detached_in scopes).counts }) (sym (not_counted q)))

-- as many objects as are counted
pub count_of : (scopes : ℕ) (s : CountedSpace) → IsSoundSpace s → s.objects ≡ finite.len (counting_seen_in scopes s).content
count_of scopes s sound =
    let v = sound.view in
    let h = sound.holds in
    h.count ∙ sym (ap (λ ps. finite.len (at_places (counting_object_at s.memory) ps)) (places_are v s h)
    ∙ len-at (counting_object_at s.memory) v.sizes 16 (places_end s.free.space.capacity) v.places (blocks_apart v s h))

-- as many objects are told as are seen
pub objects_counted : (scopes : ℕ) (b : CountingBacking) → IsCountingBacked b → objects_in (λ (s : CountedSpace). s.objects) b ≡ finite.len (counting_seen_of scopes b).content
objects_counted scopes backing.Detached backed = sym (finite.len-empty nat_cmp HeapObject)
objects_counted scopes (backing.Attached s) backed = count_of scopes s backed
objects_counted scopes (backing.Taken m) backed = absurd backed

pub allocated_detached : (scopes : ℕ) (b : CountingBacking) → ((s : CountedSpace) → b ≡ backing.Attached s → ⊥) → 0 ≡ (counting_seen_of scopes b).allocated
allocated_detached scopes b never = sym (ap (λ (h : HeapView). h.allocated) (not_attached scopes b never))

pub needs_none : (scopes : ℕ) (b : CountingBacking) → false ≡ (counting_seen_of scopes b).needs_gc
needs_none scopes backing.Detached = refl
needs_none scopes (backing.Attached s) = refl
needs_none scopes (backing.Taken m) = refl

-- what a heap is after its memory was put back
pub puts_back : (m : Marks) (t : CountedSpace) (memory : List ℕ) (scopes delta : ℕ) (view : HeapView) (bytes : List ℕ) → IsCountingOut scopes (backing.Taken m) view bytes
    → memory ≡ bytes ++ replicate delta 0 → t ≡ record { memory = memory; free = t.free; shown = m.shown; queued = m.queued; objects = m.objects; allocated = m.allocated }
    → t.free.space ≡ grow delta m.free.space → IsSound t.free.space → length memory % page ≡ 0 → length memory ≤ page * max_pages
    → IsSoundSpace t × (counting_seen_in scopes t ≡ grown Counting view delta)
puts_back m t memory scopes delta view bytes out grown_by is list sound pages bound =
    let g = grows (with_bytes m bytes) t memory delta out.0 grown_by pages bound is list sound in
    (g.sound, g.seen scopes ∙ ap (λ v. grown Counting v delta) (sym out.1))

-- a slot that may lose what it holds may still do so after another word was copied
unname_after : (h : HeapView) (x y : ℕ) → CanUnname h y → CanUnname (cloned h x) y
unname_after h x y can = record { named = named can.named; counted = λ n e. after (finite.get h.counts.counted x) n refl e }
  where
    named : IsNamed h y → IsNamed (cloned h x) y
    named (inl odd) = inl odd
    named (inr held) = inr held

    after : (o : Option ℕ) (n : ℕ) → o ≡ finite.get h.counts.counted x → finite.get (raise (finite.get h.counts.counted x) x h.counts).counted y ≡ Some n → 0 < n
    after None n is e = can.counted n (subst (λ p. finite.get (raise p x h.counts).counted y ≡ Some n) (sym is) e)
    after (Some k) n is e = elim (cases_eq y x) [
      | inl same ↦ more (some_is (k + 1) n (sym (subst (λ q. finite.get (finite.insert h.counts.counted x (k + 1)) q ≡ Some (k + 1)) (sym same) (get-insert-same h.counts.counted x (k + 1))) ∙ found))
      | inr ne ↦ can.counted n (sym (get-insert-other h.counts.counted x y (k + 1) ne) ∙ found)
    ]
      where
        found : finite.get (finite.insert h.counts.counted x (k + 1)) y ≡ Some n
        found = subst (λ p. finite.get (raise p x h.counts).counted y ≡ Some n) (sym is) e

        some_is : (a b : ℕ) → Some a ≡ Some b → a ≡ b
        some_is a b e = cc

        more : k + 1 ≡ n → 0 < n
        more e = omega arith

unname_slot : (h : HeapView) (x : ℕ) (slot : Option ℕ) → CanUnnameSlot h slot → CanUnnameSlot (cloned h x) slot
unname_slot h x None can = can
unname_slot h x (Some y) can = unname_after h x y can

pub slot_after : (h : HeapView) (source slot : Option ℕ) → CanUnnameSlot h slot → CanUnnameSlot (copied h source) slot
slot_after h None slot can = can
slot_after h (Some x) slot can = unname_slot h x slot can

-- a memory that is out was taken
pub is_taken : (scopes : ℕ) (b : CountingBacking) (view : HeapView) (bytes : List ℕ) → IsCountingOut scopes b view bytes → ((m : Marks) → b ≡ backing.Taken m → ⊥) → ⊥
is_taken scopes backing.Detached view bytes out never = out
is_taken scopes (backing.Attached s) view bytes out never = out
is_taken scopes (backing.Taken m) view bytes out never = never m refl

-- a heap that is attached has its memory in place
false_not_true : false ≡ true → ⊥
false_not_true e = cc

pub attached : (scopes : ℕ) (b : CountingBacking) → (counting_seen_of scopes b).attached ≡ true → IsAttached b
attached scopes backing.Detached e = false_not_true e
attached scopes (backing.Attached s) e = tt
attached scopes (backing.Taken m) e = false_not_true e

-- the memory that is given away has all bytes of the heap
pub given_size : (scopes : ℕ) (b : CountingBacking) (bytes : List ℕ) → GivesAway (λ (s : CountedSpace). s.memory) b bytes → length bytes ≡ (counting_seen_of scopes b).capacity
given_size scopes backing.Detached bytes given = absurd given
given_size scopes (backing.Attached s) bytes given = ap length given
given_size scopes (backing.Taken m) bytes given = absurd given

-- What a heap is whose memory was handed out.
pub record HandsOut (scopes : ℕ) (b after : CountingBacking) (bytes : List ℕ) : Type 0 where
  pub out : IsCountingOut scopes after (counting_seen_of scopes b) bytes
  pub size : length bytes ≡ (counting_seen_of scopes b).capacity
  pub none : (counting_seen_of scopes after).attached ≡ false

pub hands_out : (scopes : ℕ) (b after : CountingBacking) (bytes : List ℕ) → IsCountingBacked b → TakesOut (λ (s : CountedSpace). s.memory) counting_marks_of b after bytes → HandsOut scopes b after bytes
hands_out scopes backing.Detached after bytes sound t = absurd t
hands_out scopes (backing.Attached s) after bytes sound t = record {
  out = out_of s sound t.0 t.1;
  size = ap length t.0;
  none = ap (λ a. (counting_seen_of scopes a).attached) t.1;
}
  where
    out_of : (s : CountedSpace) → IsSoundSpace s → bytes ≡ s.memory → after ≡ backing.Taken (counting_marks_of s) → IsCountingOut scopes after (counting_seen_in scopes s) bytes
    out_of s sound bytes_are is =
        subst (λ a. IsCountingOut scopes a (counting_seen_in scopes s) bytes) (sym is)
        (subst (λ m. IsSoundSpace (with_bytes (counting_marks_of s) m) × (counting_seen_in scopes s ≡ counting_seen_in scopes (with_bytes (counting_marks_of s) m))) (sym bytes_are) (sound, refl))
hands_out scopes (backing.Taken m) after bytes sound t = absurd t
