-- What is seen of a heap by where it has its memory.
use Rattle.std.proofs.Common.{drop, take, ◌≡◌, ℕ, ◌*◌, ◌%◌, ◌≤◌, ◌++◌, true, false, cond, List, length, replicate, Option, Some, None, refl, sym, ap, subst, ◌∙◌, inl, inr, arith}
use Rattle.std.proofs.Math.Logic.{◌⊎◌}
use Rattle.std.specs.Ordering.{nat_cmp, eq_by_cmp}
use Rattle.std.specs.Cmp.{unsigned_tied, nat_cmp_total}
use Rattle.std.specs.FinMap as finite
use Rattle.std.proofs.lemmas.Bool.{cases_eq, ne_eqb, eq-eqb}
use Rattle.gc_types.specs.declared.kind.Layouts.TheVariants.{Copying}
use Rattle.gc_types.specs.declared.kind.VMGcKind.TheVariants.{ExternRef}
use Rattle.gc_view.specs.Bytes.{u32_at}
use Rattle.gc_view.specs.Pages.{page, max_pages}
use Rattle.gc_view.specs.Heaps.{HeapObject, HeapView, Counts, no_counts, detached_in}
use Rattle.gc_heap.specs.Content.{LiesAtPlace}
use Rattle.gc_heap.specs.FreedHosts.{IsHostWord}
use Rattle.gc_heap.specs.Lying.{LiesIn}
use Rattle.gc_heap.specs.Objects.{IsObjectData}
use Rattle.gc_heap.specs.Heap.{put_object, grown}
use Rattle.gc_heap.specs.Barriers.{raise, lower, show, cloned, dropped, exposed, copied, emptied, overwritten}
use Rattle.gc_heap.proofs.MemoryLemmas as memory
use Rattle.gc_heap.specs.Backings.{IsAttached, GivesAway, TakesOut, objects_in}
use Rattle.gc_copying.specs.Layout.{copying_first_place, places_in}
use Rattle.gc_copying.specs.Growth.{bump_in_more}
use Rattle.gc_copying.proofs.ObjectLemmas.{len-at}
use Rattle.gc_copying.specs.CopyingHeapLaw.{copying_is_heap}
use Rattle.gc_copying.specs.States.{IsCopyingBacked, copying_seen_in, copying_seen_of, copying_seen, IsSoundSemiSpace, IsCopyingOut, IsCopyingSound}
use Rattle.gc_copying.specs.declared.space.Space.{Space}
use Rattle.gc_copying.specs.declared.growth.Marks.{Marks}
use Rattle.gc_copying.specs.declared.heap.CopyingHeap.{CopyingHeap}
use Rattle.gc_copying.specs.Backed.{CopyingBacking, copying_marks_of}
use Rattle.gc_copying.specs.Content.{IsSpace, space_view}
use Rattle.gc_heap.specs.declared.backing.Backing.TheVariants as backing
use Rattle.gc_copying.proofs.GrowLemmas.{grows}
use Rattle.gc_copying.proofs.ReadLemmas.{HeldAt, held_at, size_of, data_of, host_of}

-- where no memory is attached, what is seen is a heap without one
pub not_attached : (scopes : ℕ) (b : CopyingBacking) → ((s : Space) → b ≡ backing.Attached s → ⊥) → copying_seen_of scopes b ≡ detached_in scopes
not_attached scopes backing.Detached never = refl
not_attached scopes (backing.Attached s) never = absurd (never s refl)
not_attached scopes (backing.Taken m) never = refl

-- and it holds nothing
pub nothing_held : (scopes : ℕ) (b : CopyingBacking) (q : ℕ) (o : HeapObject) → ((s : Space) → b ≡ backing.Attached s → ⊥) → finite.get (copying_seen_of scopes b).content q ≡ Some o → ⊥
nothing_held scopes b q o never held =
    let none = not_attached scopes b never in
    memory.nothing_held (copying_seen_of scopes b) q o (none ∙ ap detached_in (sym (ap (λ (h : HeapView). h.scopes) none))) held

attached_at : (h : CopyingHeap) (s : Space) (q : ℕ) (o : HeapObject) → h.backing ≡ backing.Attached s → IsCopyingSound h → finite.get (copying_seen h).content q ≡ Some o → HeldAt s.memory s.upper s.bump q o
attached_at h s q o is sound held =
    held_at s.memory s.upper s.bump s.externals s.objects q o (subst IsCopyingBacked is sound.backed) (subst (λ b. finite.get (copying_seen_of h.scopes b).content q ≡ Some o) is held)

-- what it holds where its memory is attached lies in that
pub held_lies : (h : CopyingHeap) (s : Space) (q : ℕ) (o : HeapObject) → h.backing ≡ backing.Attached s → IsCopyingSound h → finite.get (copying_seen h).content q ≡ Some o → LiesIn Copying s.memory q o
held_lies h s q o is sound held =
    let at = attached_at h s q o is sound held in
    record {
      lies = subst (λ b. LiesAtPlace Copying (copying_seen_of h.scopes b).capacity q o) is ((copying_is_heap h sound).objects q o held);
      object = subst (λ n. IsObjectData Copying o (take n (drop q s.memory))) (sym (size_of s.memory s.upper s.bump q o at)) (data_of s.memory s.upper s.bump q o at);
    }

-- the host id of what it holds is one that a table may give
pub host_number : (h : CopyingHeap) (s : Space) (q : ℕ) (o : HeapObject) → h.backing ≡ backing.Attached s → IsCopyingSound h → finite.get (copying_seen h).content q ≡ Some o → o.kind ≡ ExternRef
    → IsHostWord (u32_at o.bytes 0)
host_number h s q o is sound held kind =
    let x = host_of s.memory s.upper s.bump q o (attached_at h s q o is sound held) kind in
    (omega (arith, x.external.from, x.word_is), omega (arith, x.external.to, x.word_is))

pub scopes_of : (scopes : ℕ) (b : CopyingBacking) → (copying_seen_of scopes b).scopes ≡ scopes
scopes_of scopes backing.Detached = refl
scopes_of scopes (backing.Attached s) = refl
scopes_of scopes (backing.Taken m) = refl

counts_of : (scopes : ℕ) (b : CopyingBacking) → (copying_seen_of scopes b).counts ≡ no_counts
counts_of scopes backing.Detached = refl
counts_of scopes (backing.Attached s) = refl
counts_of scopes (backing.Taken m) = refl

not_counted : (h : HeapView) (word : ℕ) → h.counts ≡ no_counts → finite.get h.counts.counted word ≡ None
not_counted h word e = ap (λ (k : Counts). finite.get k.counted word) e ∙ finite.get-empty nat_cmp word

-- a heap that counts nothing is as it was after each barrier
cloned_same : (h : HeapView) (word : ℕ) → h.counts ≡ no_counts → h ≡ cloned h word
cloned_same h word e = ap (λ k. record h { counts = k }) (sym (ap (λ o. raise o word h.counts) (not_counted h word e)))

dropped_same : (h : HeapView) (word : ℕ) → h.counts ≡ no_counts → h ≡ dropped h word
dropped_same h word e = ap (λ k. record h { counts = k }) (sym (ap (λ o. lower o word h.counts) (not_counted h word e)))

exposed_same : (h : HeapView) (word : ℕ) → h.counts ≡ no_counts → h ≡ exposed h word
exposed_same h word e = ap (λ k. record h { counts = k }) (sym (ap (λ o. show o word h.counts) (not_counted h word e)))

copied_same : (h : HeapView) (source : Option ℕ) → h.counts ≡ no_counts → h ≡ copied h source
copied_same h None e = refl
copied_same h (Some word) e = cloned_same h word e

emptied_same : (h : HeapView) (slot : Option ℕ) → h.counts ≡ no_counts → h ≡ emptied h slot
emptied_same h None e = refl
emptied_same h (Some word) e = dropped_same h word e

overwritten_same : (h : HeapView) (slot source : Option ℕ) → h.counts ≡ no_counts → h ≡ overwritten h slot source
overwritten_same h slot source e = emptied_same h slot e ∙ ap (λ x. emptied x slot) (copied_same h source e)

pub seen_cloned : (h : CopyingHeap) (word : ℕ) → copying_seen h ≡ cloned (copying_seen h) word
seen_cloned h word = cloned_same (copying_seen h) word (counts_of h.scopes h.backing)

pub seen_dropped : (h : CopyingHeap) (word : ℕ) → copying_seen h ≡ dropped (copying_seen h) word
seen_dropped h word = dropped_same (copying_seen h) word (counts_of h.scopes h.backing)

pub seen_exposed : (h : CopyingHeap) (word : ℕ) → copying_seen h ≡ exposed (copying_seen h) word
seen_exposed h word = exposed_same (copying_seen h) word (counts_of h.scopes h.backing)

pub seen_overwritten : (h : CopyingHeap) (slot source : Option ℕ) → copying_seen h ≡ overwritten (copying_seen h) slot source
seen_overwritten h slot source = overwritten_same (copying_seen h) slot source (counts_of h.scopes h.backing)

-- an object that is put where it stands
pub put_same : (h : HeapView) (q : ℕ) (o : HeapObject) → finite.get h.content q ≡ Some o → h ≡ put_object h q o
put_same h q o held = ap (λ m. record h { content = m }) (finite.same_map nat_cmp_total finite.nat_cmp-IsAntisymmetric h.content (finite.insert h.content q o) (λ r.
    let at : finite.get (finite.insert h.content q o) r ≡ cond (eq_by_cmp nat_cmp r q) (Some o) (finite.get h.content r) = finite.get-insert nat_cmp_total h.content q o r in
    elim (cases_eq r q) [
      | inl here ↦ ap (finite.get h.content) here ∙ held ∙ sym (at ∙ ap (λ t. cond t (Some o) (finite.get h.content r)) (unsigned_tied r q ∙ eq-eqb r q here))
      | inr other ↦ sym (at ∙ ap (λ t. cond t (Some o) (finite.get h.content r)) (unsigned_tied r q ∙ ne_eqb r q other))
    ]))

-- as many objects as are counted
pub count_of : (scopes : ℕ) (s : Space) → IsSoundSemiSpace s → s.objects ≡ finite.len (copying_seen_in scopes s).content
count_of scopes s sound = sound.count ∙ sym (len-at s.memory (copying_first_place (length s.memory) s.upper) s.bump (places_in s.memory s.upper s.bump) sound.chain)

-- as many objects are told as are seen
pub objects_counted : (scopes : ℕ) (b : CopyingBacking) → IsCopyingBacked b → objects_in (λ (s : Space). s.objects) b ≡ finite.len (copying_seen_of scopes b).content
objects_counted scopes backing.Detached backed = sym (finite.len-empty nat_cmp HeapObject)
objects_counted scopes (backing.Attached s) backed = count_of scopes s backed
objects_counted scopes (backing.Taken m) backed = absurd backed

-- What a heap is after its memory was put back.
pub record PutsBack (scopes : ℕ) (s : Space) (view : HeapView) (delta : ℕ) : Type 0 where
  pub sound : IsSoundSemiSpace s
  pub seen : copying_seen_in scopes s ≡ grown Copying view delta

-- the upper half isn't active where nothing asks for a collection
pub low_of : (m : Marks) (scopes delta : ℕ) (view : HeapView) (bytes : List ℕ) → IsCopyingOut scopes (backing.Taken m) view bytes → (delta ≡ 0) ⊎ (view.needs_gc ≡ false) → (delta ≡ 0) ⊎ (m.upper ≡ false)
low_of m scopes delta view bytes out (inl none) = inl none
low_of m scopes delta view bytes out (inr low) = inr (sym (ap (λ (h : HeapView). h.needs_gc) out.1) ∙ low)

pub puts_back : (m : Marks) (s : Space) (memory : List ℕ) (scopes delta : ℕ) (view : HeapView) (bytes : List ℕ) → IsCopyingOut scopes (backing.Taken m) view bytes
    → memory ≡ bytes ++ replicate delta 0 → (delta ≡ 0) ⊎ (m.upper ≡ false)
    → s ≡ record { memory = memory; upper = m.upper; bump = bump_in_more m.bump (length memory); externals = m.externals; objects = m.objects }
    → length memory ≤ page * max_pages → length memory % 65536 ≡ 0 → PutsBack scopes s view delta
puts_back m s memory scopes delta view bytes out grown_by low is bound pages =
    let g = grows bytes memory m.upper m.bump m.externals m.objects delta out.0 grown_by low bound pages in
    subst (λ (x : Space). PutsBack scopes x view delta) (sym is)
    (record { sound = g.space; seen = g.seen scopes ∙ ap (λ v. grown Copying v delta) (sym out.1) })

-- nothing is counted
pub nothing_counted : (scopes : ℕ) (b : CopyingBacking) (q n : ℕ) → finite.get (copying_seen_of scopes b).counts.counted q ≡ Some n → ⊥
nothing_counted scopes backing.Detached q n e = cc (finite.get-empty nat_cmp q)
nothing_counted scopes (backing.Attached s) q n e = cc (finite.get-empty nat_cmp q)
nothing_counted scopes (backing.Taken m) q n e = cc (finite.get-empty nat_cmp q)

-- a heap that is attached has its memory in place
false_not_true : false ≡ true → ⊥
false_not_true e = cc

pub attached : (scopes : ℕ) (b : CopyingBacking) → (copying_seen_of scopes b).attached ≡ true → IsAttached b
attached scopes backing.Detached e = false_not_true e
attached scopes (backing.Attached s) e = tt
attached scopes (backing.Taken m) e = false_not_true e

-- the memory that is given away has all bytes of the heap
pub given_size : (scopes : ℕ) (b : CopyingBacking) (bytes : List ℕ) → GivesAway (λ (s : Space). s.memory) b bytes → length bytes ≡ (copying_seen_of scopes b).capacity
given_size scopes backing.Detached bytes given = absurd given
given_size scopes (backing.Attached s) bytes given = ap length given
given_size scopes (backing.Taken m) bytes given = absurd given

-- What a heap is whose memory was handed out.
pub record HandsOut (scopes : ℕ) (b after : CopyingBacking) (bytes : List ℕ) : Type 0 where
  pub out : IsCopyingOut scopes after (copying_seen_of scopes b) bytes
  pub size : length bytes ≡ (copying_seen_of scopes b).capacity
  pub none : (copying_seen_of scopes after).attached ≡ false

pub hands_out : (scopes : ℕ) (b after : CopyingBacking) (bytes : List ℕ) → IsCopyingBacked b → TakesOut (λ (s : Space). s.memory) copying_marks_of b after bytes → HandsOut scopes b after bytes
hands_out scopes backing.Detached after bytes sound t = absurd t
hands_out scopes (backing.Attached s) after bytes sound t = record {
  out = out_of s sound t.0 t.1;
  size = ap length t.0;
  none = ap (λ a. (copying_seen_of scopes a).attached) t.1;
}
  where
    out_of : (s : Space) → IsSoundSemiSpace s → bytes ≡ s.memory → after ≡ backing.Taken (copying_marks_of s) → IsCopyingOut scopes after (copying_seen_in scopes s) bytes
    out_of s sound bytes_are is =
        subst (λ a. IsCopyingOut scopes a (copying_seen_in scopes s) bytes) (sym is)
        (subst (λ m. IsSpace m s.upper s.bump s.externals s.objects × (copying_seen_in scopes s ≡ space_view m s.upper s.bump scopes)) (sym bytes_are) (sound, refl))
hands_out scopes (backing.Taken m) after bytes sound t = absurd t
