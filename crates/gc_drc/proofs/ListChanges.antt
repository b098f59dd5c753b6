-- An object leaves the queue, or the list of shown words.
use Rattle.std.proofs.Common.{◌≡◌, ℕ, ◌+◌, ◌-◌, ◌*◌, ◌/◌, ◌%◌, ◌<◌, ◌≤◌, ◌^◌, List, [], ◌∷◌, length, refl, sym, ap, subst, ◌∙◌, inl, inr, arith}
use Rattle.std.proofs.Math.Logic.{◌⊎◌}
use Rattle.std.proofs.lemmas.Bool.{cases_eq}
use Rattle.gc_view.specs.Bytes.{put_u32}
use Rattle.gc_memory.specs.Words.{word, word64, put_u64}
use Rattle.gc_memory.specs.Lists.{In, occ}
use Rattle.gc_memory.proofs.ListLemmas.{In-occ, occ-In, occ-same}
use Rattle.gc_drc.specs.declared.space.CountedSpace.{CountedSpace}
use Rattle.gc_drc.specs.View.{View, Linked, count_of}
use Rattle.gc_drc.specs.CollectOps.{same, without_one, unqueued, unshown}
use Rattle.gc_drc.specs.CollectLists.{onto, front}
use Rattle.gc_drc.specs.CollectMemory.{Context, At, CanLeave, CanHide, Relinks}
use Rattle.gc_drc.proofs.OccLemmas.{same-is, same-not, occ-without}
use Rattle.gc_drc.proofs.RewriteLemmas.{Sets, sets_kind, sets_count, sets_shown, sets_then, sets_as, linked_same}
use Rattle.gc_drc.proofs.HoldsLemmas.{Loose, loose, linked_at, Rewritten, loose_room, room_at, link_kept, loose_link_kept, with_lists, loose_written, at_written}
use Rattle.gc_drc.proofs.LinkLemmas.{linked_rest, linked_behind, relinked, without_first, without_onto, occ-onto}
use Rattle.gc_drc.proofs.MarkLemmas.{flags_in, count_in, part_without}

-- THE QUEUE

-- what an object that may leave the queue tells
pub record Leavable (s : CountedSpace) (x : ℕ) : Type 0 where
  pub room : x + 28 ≤ length s.memory
  pub count : 1 < word64 s.memory (x + 8)
  pub flag : 4 ≤ word s.memory x % 8

pub leavable : (s : CountedSpace) (x : ℕ) → CanLeave s x → Leavable s x
leavable s x can =
    let i = can.at.holds.queue_part.inside x (occ-In x can.view.queue can.queued) in
    let flags = flags_in can.context can.view s x can.at i in
    let counts = count_in can.context can.view s x can.at i in
    let queued = can.queued in
    let more = can.more in
    record { room = room_at can.context can.view s x can.at i; count = omega arith; flag = omega arith }

-- the flag of the queue is the highest of the three
pub flags_high : (c : Context) (v : View) (s : CountedSpace) (x : ℕ) → CanLeave s x → 4 ≤ word s.memory x % 8
flags_high c v s x can = (leavable s x can).flag

-- the object after its count was written
pub room_counted : (s s1 : CountedSpace) (x n : ℕ) → x + 28 ≤ length s.memory → n < 2 ^ 64 → s1 ≡ record s { memory = put_u64 s.memory (x + 8) n }
    → (x + 28 ≤ length s1.memory) × (word s1.memory x % 8 ≡ word s.memory x % 8)
room_counted s s1 x n room small is =
    let sets = sets_count s.memory x n room small in
    let len = sets.around.same_length in
    let len1 : length s1.memory ≡ length (put_u64 s.memory (x + 8) n) = ap (λ (t : CountedSpace). length t.memory) is in
    (omega arith, ap (λ (t : CountedSpace). word t.memory x % 8) is ∙ sets.flags_are)

pub room_kinded : (s s1 : CountedSpace) (x k k' : ℕ) → x + 28 ≤ length s.memory → k' < 2 ^ 32 → k ≡ word s.memory x → k' / 8 ≡ k / 8 → s1 ≡ record s { memory = put_u32 s.memory x k' }
    → x + 28 ≤ length s1.memory
room_kinded s s1 x k k' room small read same_kind is =
    let same_is : k' / 8 ≡ word s.memory x / 8 = same_kind ∙ ap (λ (n : ℕ). n / 8) read in
    let sets = sets_kind s.memory x k' room small same_is in
    let len = sets.around.same_length in
    let len1 : length s1.memory ≡ length (put_u32 s.memory x k') = ap (λ (t : CountedSpace). length t.memory) is in
    omega arith

pub flag_counted : (s s1 : CountedSpace) (x n k : ℕ) → CanLeave s x → n < 2 ^ 64 → s1 ≡ record s { memory = put_u64 s.memory (x + 8) n } → k ≡ word s1.memory x → 4 ≤ k
flag_counted s s1 x n k can small is read =
    let l = leavable s x can in
    let same_flags = (room_counted s s1 x n l.room small is).1 in
    let flag = l.flag in
    omega arith

pub room_left : (s s1 s2 : CountedSpace) (x n k : ℕ) → CanLeave s x → n < 2 ^ 64 → s1 ≡ record s { memory = put_u64 s.memory (x + 8) n } → k ≡ word s1.memory x → k < 2 ^ 32
    → s2 ≡ record s1 { memory = put_u32 s1.memory x (k - 4) } → x + 28 ≤ length s2.memory
room_left s s1 s2 x n k can small is read small_k is2 =
    let l = leavable s x can in
    let r = room_counted s s1 x n l.room small is in
    let same_flags = r.1 in
    let flag = l.flag in
    room_kinded s1 s2 x k (k - 4) r.0 (omega arith) read (let f = flags_high can.context can.view s x can in omega arith) is2

-- an object leaves the queue, of which it is the first
pub left_queue : (c : Context) (v : View) (s s1 s2 : CountedSpace) (x n k q : ℕ) (rest : List ℕ)
    → n ≡ word64 s.memory (x + 8) → n < 2 ^ 64 → s1 ≡ record s { memory = put_u64 s.memory (x + 8) (n - 1) }
    → k ≡ word s1.memory x → k < 2 ^ 32 → s2 ≡ record s1 { memory = put_u32 s1.memory x (k - 4) } → q ≡ word s2.memory (x + 24)
    → At c v s → v.queue ≡ x ∷ rest → 1 < count_of v x → At c (unqueued v x) (record s2 { queued = q })
left_queue c v s s1 s2 x n k q rest read small e1 read_k small_k e2 read_q at is more =
    let h = at.holds in
    let times : occ x v.queue ≡ occ x (x ∷ rest) = ap (λ (xs : List ℕ). occ x xs) is in
    let one = occ-same x rest in
    let queued : 0 < occ x v.queue = omega arith in
    let i = h.queue_part.inside x (occ-In x v.queue queued) in
    let once = h.queue_part.once x in
    let once_shown = h.shown_part.once x in
    let once_marked = h.marked_part.once x in
    let flags = flags_in c v s x at i in
    let counts = count_in c v s x at i in
    let room = room_at c v s x at i in
    let more_is : 1 < v.counted x + occ x v.shown + occ x v.queue = more in
    let w = occ-without x x v.queue queued in
    let itself : same x x ≡ 1 = same-is x x refl in
    let first = sets_count s.memory x (n - 1) room (omega arith) in
    let m1 : s1.memory ≡ put_u64 s.memory (x + 8) (n - 1) = ap (λ (t : CountedSpace). t.memory) e1 in
    let first_as : Sets s.memory s1.memory x (word s.memory x % 8) (n - 1) (word s.memory (x + 16)) (word s.memory (x + 24)) =
    subst (λ (m : List ℕ). Sets s.memory m x (word s.memory x % 8) (n - 1) (word s.memory (x + 16)) (word s.memory (x + 24))) (sym m1) first in
    let len1 = first_as.around.same_length in
    let flags1 = first_as.flags_are in
    let second = sets_kind s1.memory x (k - 4) (omega arith) (omega arith) (omega arith) in
    let m2 : s2.memory ≡ put_u32 s1.memory x (k - 4) = ap (λ (t : CountedSpace). t.memory) e2 in
    let second_as : Sets s1.memory s2.memory x ((k - 4) % 8) (word64 s1.memory (x + 8)) (word s1.memory (x + 16)) (word s1.memory (x + 24)) =
    subst (λ (m : List ℕ). Sets s1.memory m x ((k - 4) % 8) (word64 s1.memory (x + 8)) (word s1.memory (x + 16)) (word s1.memory (x + 24))) (sym m2) second in
    let both = sets_then first_as second_as in
    let count1 = first_as.count_is in
    let now : CountedSpace = record s2 { queued = q } in
    let after = with_lists v v.shown (without_one x v.queue) v.marked v.counted in
    let r : Rewritten v after s s2.memory x = record {
      held = i;
      sets = sets_as both _ _ _ _ (omega arith) (omega arith) (sym both.shown_is) (sym both.link_is);
      positive = omega arith;
      counts = λ p j ne. let wp = occ-without x p v.queue queued in let other : same p x ≡ 0 = same-not p x ne in omega arith;
      flags = λ p j ne. let wp = occ-without x p v.queue queued in let other : same p x ≡ 0 = same-not p x ne in omega arith;
    } in
    let shown_word : word s2.memory (x + 16) ≡ word s.memory (x + 16) = both.shown_is ∙ first_as.shown_is in
    let link_word : word s2.memory (x + 24) ≡ word s.memory (x + 24) = both.link_is ∙ first_as.link_is in
    let free : s2.free ≡ s.free = ap (λ (t : CountedSpace). t.free) e2 ∙ ap (λ (t : CountedSpace). t.free) e1 in
    let objects : s2.objects ≡ s.objects = ap (λ (t : CountedSpace). t.objects) e2 ∙ ap (λ (t : CountedSpace). t.objects) e1 in
    let allocated : s2.allocated ≡ s.allocated = ap (λ (t : CountedSpace). t.allocated) e2 ∙ ap (λ (t : CountedSpace). t.allocated) e1 in
    let shown : s2.shown ≡ s.shown = ap (λ (t : CountedSpace). t.shown) e2 ∙ ap (λ (t : CountedSpace). t.shown) e1 in
    let without_is : without_one x v.queue ≡ rest = ap (without_one x) is ∙ without_first x rest in
    let linked : Linked s.memory 24 s.queued (x ∷ rest) = subst (λ (xs : List ℕ). Linked s.memory 24 s.queued xs) is h.queue_linked in
    let behind : Linked s.memory 24 (word s.memory (x + 24)) rest = (linked_rest s.memory 24 s.queued x rest linked).2 in
    let next : word s.memory (x + 24) ≡ q = sym link_word ∙ sym read_q in
    let rest_linked : Linked s.memory 24 q (without_one x v.queue) =
    subst (λ (xs : List ℕ). Linked s.memory 24 q xs) (sym without_is) (subst (λ (n : ℕ). Linked s.memory 24 n rest) next behind) in
    let part = part_without v.places v.queue x h.queue_part queued in
    at_written c v v.shown (without_one x v.queue) v.marked v.counted s now x at r free objects allocated (record {
      shown_part = h.shown_part;
      queue_part = part;
      marked_part = h.marked_part;
      shown_linked = subst (λ (n : ℕ). Linked s2.memory 16 n v.shown) (sym shown)
          (linked_same s.memory s2.memory 16 s.shown v.shown (link_kept c v after s s2.memory x 16 at r (omega arith) v.shown h.shown_part.inside (λ _. shown_word)) h.shown_linked);
      queue_linked = linked_same s.memory s2.memory 24 q (without_one x v.queue)
          (link_kept c v after s s2.memory x 24 at r (omega arith) (without_one x v.queue) part.inside (λ _. link_word)) rest_linked;
    })

-- THE LIST OF SHOWN WORDS

-- the word that leads on from one object was written
relinked_loose : (c : Context) (v : View) (s s1 : CountedSpace) (before next : ℕ) → At c v s → In before v.places → next < 2 ^ 32
    → s1 ≡ record s { memory = put_u32 s.memory (before + 16) next }
    → Rewritten v (with_lists v v.shown v.queue v.marked v.counted) s s1.memory before × Loose c v s1
relinked_loose c v s s1 before next at i small is =
    let room = room_at c v s before at i in
    let sets = sets_shown s.memory before next room small in
    let m1 : s1.memory ≡ put_u32 s.memory (before + 16) next = ap (λ (t : CountedSpace). t.memory) is in
    let h = at.holds in
    let now : Sets s.memory s1.memory before (word s.memory before % 8) (word64 s.memory (before + 8)) next (word s.memory (before + 24)) =
    subst (λ (m : List ℕ). Sets s.memory m before (word s.memory before % 8) (word64 s.memory (before + 8)) next (word s.memory (before + 24))) (sym m1) sets in
    let r : Rewritten v (with_lists v v.shown v.queue v.marked v.counted) s s1.memory before = record {
      held = i;
      sets = sets_as now _ _ _ _ (flags_in c v s before at i) (count_in c v s before at i) (sym now.shown_is) (sym now.link_is);
      positive = (h.objects before i).positive;
      counts = λ p j ne. refl;
      flags = λ p j ne. refl;
    } in (
      r,
      loose_written c v v.shown v.queue v.marked v.counted s s1 before (loose c v s at) r (ap (λ (t : CountedSpace). t.free) is) (ap (λ (t : CountedSpace). t.objects) is)
          (ap (λ (t : CountedSpace). t.allocated) is) h.shown_part h.queue_part h.marked_part,
    )

-- the flag of an object was cleared that leaves the list
record Unflags (c : Context) (v : View) (s1 s2 : CountedSpace) (x : ℕ) : Type 0 where
  pub rewritten : Rewritten v (unshown v x) s1 s2.memory x
  pub loosely : Loose c (unshown v x) s2
  pub shown_word : word s2.memory (x + 16) ≡ word s1.memory (x + 16)
  pub link_word : word s2.memory (x + 24) ≡ word s1.memory (x + 24)

unflags : (c : Context) (v : View) (s1 s2 : CountedSpace) (x k : ℕ) → Loose c v s1 → In x v.places → 0 < occ x v.shown → k ≡ word s1.memory x → k < 2 ^ 32
    → s2 ≡ record s1 { memory = put_u32 s1.memory x (k - 2) } → Unflags c v s1 s2 x
unflags c v s1 s2 x k l i on_list read small is =
    let o = l.objects x i in
    let flags : word s1.memory x % 8 ≡ occ x v.marked + 2 * occ x v.shown + 4 * occ x v.queue = o.flags_are in
    let counts : word64 s1.memory (x + 8) ≡ v.counted x + occ x v.shown + occ x v.queue = o.count_is in
    let once = l.shown_part.once x in
    let once_marked = l.marked_part.once x in
    let once_queue = l.queue_part.once x in
    let w = occ-without x x v.shown on_list in
    let itself : same x x ≡ 1 = same-is x x refl in
    let room = loose_room c v s1 x l i in
    let sets = sets_kind s1.memory x (k - 2) room (omega arith) (omega arith) in
    let m2 : s2.memory ≡ put_u32 s1.memory x (k - 2) = ap (λ (t : CountedSpace). t.memory) is in
    let now : Sets s1.memory s2.memory x ((k - 2) % 8) (word64 s1.memory (x + 8)) (word s1.memory (x + 16)) (word s1.memory (x + 24)) =
    subst (λ (m : List ℕ). Sets s1.memory m x ((k - 2) % 8) (word64 s1.memory (x + 8)) (word s1.memory (x + 16)) (word s1.memory (x + 24))) (sym m2) sets in
    let r : Rewritten v (unshown v x) s1 s2.memory x = record {
      held = i;
      sets = sets_as now _ _ _ _ (omega arith) (omega arith) (sym now.shown_is) (sym now.link_is);
      positive = omega arith;
      counts = λ p j ne. let wp = occ-without x p v.shown on_list in let other : same p x ≡ 0 = same-not p x ne in omega arith;
      flags = λ p j ne. let wp = occ-without x p v.shown on_list in let other : same p x ≡ 0 = same-not p x ne in omega arith;
    } in
    record {
      rewritten = r;
      loosely = loose_written c v (without_one x v.shown) v.queue v.marked (λ (y : ℕ). v.counted y + same y x) s1 s2 x l r (ap (λ (t : CountedSpace). t.free) is)
          (ap (λ (t : CountedSpace). t.objects) is) (ap (λ (t : CountedSpace). t.allocated) is) (part_without v.places v.shown x l.shown_part on_list) l.queue_part l.marked_part;
      shown_word = now.shown_is;
      link_word = now.link_is;
    }

-- an object that stands on the list, behind others
on_list_at : (v : View) (x : ℕ) (kept left : List ℕ) → v.shown ≡ onto kept (x ∷ left) → occ x v.shown ≡ occ x kept + (1 + occ x left)
on_list_at v x kept left is = ap (λ (xs : List ℕ). occ x xs) is ∙ occ-onto x kept (x ∷ left) ∙ ap (λ (n : ℕ). occ x kept + n) (occ-same x left)

-- it is the first of the list
hidden_first : (c : Context) (v : View) (s s1 s2 : CountedSpace) (x next k : ℕ) (left : List ℕ) → next ≡ word s.memory (x + 16) → s1 ≡ record s { shown = next } → k ≡ word s1.memory x
    → k < 2 ^ 32 → s2 ≡ record s1 { memory = put_u32 s1.memory x (k - 2) } → At c v s → v.shown ≡ x ∷ left → At c (unshown v x) s2
hidden_first c v s s1 s2 x next k left read is1 read_k small is2 at is =
    let h = at.holds in
    let times = on_list_at v x [] left is in
    let on_list : 0 < occ x v.shown = omega arith in
    let i = h.shown_part.inside x (occ-In x v.shown on_list) in
    let once = h.shown_part.once x in
    let m1 : s1.memory ≡ s.memory = ap (λ (t : CountedSpace). t.memory) is1 in
    let lax = loose c v s at in
    let l : Loose c v s1 = subst (λ (t : CountedSpace). Loose c v t) (sym is1) (record {
      start = lax.start;
      intact = lax.intact;
      from = lax.from;
      pages = lax.pages;
      bound = lax.bound;
      capacity = lax.capacity;
      sound = lax.sound;
      blocks = lax.blocks;
      objects = lax.objects;
      shown_part = lax.shown_part;
      queue_part = lax.queue_part;
      marked_part = lax.marked_part;
      count = lax.count;
      allocated = lax.allocated;
    }) in
    let u = unflags c v s1 s2 x k l i on_list read_k small is2 in
    let without_is : without_one x v.shown ≡ left = ap (without_one x) is ∙ without_first x left in
    let linked : Linked s.memory 16 s.shown (x ∷ left) = subst (λ (xs : List ℕ). Linked s.memory 16 s.shown xs) is h.shown_linked in
    let behind : Linked s.memory 16 (word s.memory (x + 16)) left = (linked_rest s.memory 16 s.shown x left linked).2 in
    let head : s2.shown ≡ next = ap (λ (t : CountedSpace). t.shown) is2 ∙ ap (λ (t : CountedSpace). t.shown) is1 in
    let queued : s2.queued ≡ s.queued = ap (λ (t : CountedSpace). t.queued) is2 ∙ ap (λ (t : CountedSpace). t.queued) is1 in
    let part = part_without v.places v.shown x h.shown_part on_list in
    let behind1 : Linked s1.memory 16 next (without_one x v.shown) =
    subst (λ (m : List ℕ). Linked m 16 next (without_one x v.shown)) (sym m1)
    (subst (λ (xs : List ℕ). Linked s.memory 16 next xs) (sym without_is) (subst (λ (n : ℕ). Linked s.memory 16 n left) (sym read) behind)) in
    let queue1 : Linked s1.memory 24 s.queued v.queue = subst (λ (m : List ℕ). Linked m 24 s.queued v.queue) (sym m1) h.queue_linked in
    linked_at c (unshown v x) s2 u.loosely
    (subst (λ (n : ℕ). Linked s2.memory 16 n (without_one x v.shown)) (sym head)
    (linked_same s1.memory s2.memory 16 next (without_one x v.shown)
    (loose_link_kept c v (unshown v x) s1 s2.memory x 16 l u.rewritten (omega arith) (without_one x v.shown) part.inside (λ _. u.shown_word)) behind1))
    (subst (λ (n : ℕ). Linked s2.memory 24 n v.queue) (sym queued)
    (linked_same s1.memory s2.memory 24 s.queued v.queue
    (loose_link_kept c v (unshown v x) s1 s2.memory x 24 l u.rewritten (omega arith) v.queue h.queue_part.inside (λ _. u.link_word)) queue1))

-- another one stands before it
hidden_behind : (c : Context) (v : View) (s s1 s2 : CountedSpace) (x j next k : ℕ) (js left : List ℕ) → next ≡ word s.memory (x + 16) → next < 2 ^ 32
    → s1 ≡ record s { memory = put_u32 s.memory (j + 16) next } → k ≡ word s1.memory x
    → k < 2 ^ 32 → s2 ≡ record s1 { memory = put_u32 s1.memory x (k - 2) } → At c v s → v.shown ≡ onto (j ∷ js) (x ∷ left) → At c (unshown v x) s2
hidden_behind c v s s1 s2 x j next k js left read fits is1 read_k small is2 at is =
    let h = at.holds in
    let times : occ x v.shown ≡ occ x (j ∷ js) + (1 + occ x left) = on_list_at v x (j ∷ js) left is in
    let on_list : 0 < occ x v.shown = omega arith in
    let once = h.shown_part.once x in
    let i = h.shown_part.inside x (occ-In x v.shown on_list) in
    let none : occ x (j ∷ js) ≡ 0 = omega arith in
    let times_j : occ j v.shown ≡ occ j (j ∷ js) + occ j (x ∷ left) = ap (λ (xs : List ℕ). occ j xs) is ∙ occ-onto j (j ∷ js) (x ∷ left) in
    let one_j = occ-same j js in
    let once_j = h.shown_part.once j in
    let j_held = h.shown_part.inside j (occ-In j v.shown (omega arith)) in
    let none_j : occ j js ≡ 0 = omega arith in
    let first = relinked_loose c v s s1 j next at j_held fits is1 in
    let l = first.1 in
    let r1 = first.0 in
    let u = unflags c v s1 s2 x k l i on_list read_k small is2 in
    let linked : Linked s.memory 16 s.shown (onto js (j ∷ x ∷ left)) = subst (λ (xs : List ℕ). Linked s.memory 16 s.shown xs) is h.shown_linked in
    let to_x = linked_behind s.memory 16 s.shown j js (x ∷ left) linked in
    let behind : Linked s.memory 16 (word s.memory (x + 16)) left = (linked_rest s.memory 16 (word s.memory (j + 16)) x left to_x.1).2 in
    let sets = sets_shown s.memory j next (room_at c v s j at j_held) fits in
    let m1 : s1.memory ≡ put_u32 s.memory (j + 16) next = ap (λ (t : CountedSpace). t.memory) is1 in
    let word_j : word s1.memory (j + 16) ≡ next = ap (λ (m : List ℕ). word m (j + 16)) m1 ∙ sets.shown_is in
    let link_j : word s1.memory (j + 24) ≡ word s.memory (j + 24) = ap (λ (m : List ℕ). word m (j + 24)) m1 ∙ sets.link_is in
    let without_is : without_one x v.shown ≡ onto (j ∷ js) left = ap (without_one x) is ∙ without_onto x (j ∷ js) left none in
    let part = part_without v.places v.shown x h.shown_part on_list in
    let same_view = with_lists v v.shown v.queue v.marked v.counted in
    let left_part = λ (p : ℕ) (q : In p left). h.shown_part.inside p (occ-In p v.shown
    (let t : occ p v.shown ≡ occ p (j ∷ js) + occ p (x ∷ left) = ap (λ (xs : List ℕ). occ p xs) is ∙ occ-onto p (j ∷ js) (x ∷ left) in let some = In-occ p left q in omega arith)) in
    let js_part = λ (p : ℕ) (q : In p js). h.shown_part.inside p (occ-In p v.shown
    (let t : occ p v.shown ≡ occ p (j ∷ js) + occ p (x ∷ left) = ap (λ (xs : List ℕ). occ p xs) is ∙ occ-onto p (j ∷ js) (x ∷ left) in let some = In-occ p js q in omega arith)) in
    let behind1 : Linked s1.memory 16 next left =
    linked_same s.memory s1.memory 16 next left
    (loose_link_kept c v same_view s s1.memory j 16 (loose c v s at) r1 (omega arith) left left_part
    (λ (q : In j left). absurd (let some = In-occ j left q in omega arith)))
    (subst (λ (n : ℕ). Linked s.memory 16 n left) (sym read) behind) in
    let shown1 : Linked s1.memory 16 s.shown (without_one x v.shown) =
    subst (λ (xs : List ℕ). Linked s1.memory 16 s.shown xs) (sym without_is)
    (relinked s.memory s1.memory 16 s.shown j next js (x ∷ left) left linked behind1 word_j
    (loose_link_kept c v same_view s s1.memory j 16 (loose c v s at) r1 (omega arith) js js_part
    (λ (q : In j js). absurd (let some = In-occ j js q in omega arith)))) in
    let queue1 : Linked s1.memory 24 s.queued v.queue =
    linked_same s.memory s1.memory 24 s.queued v.queue
    (loose_link_kept c v same_view s s1.memory j 24 (loose c v s at) r1 (omega arith) v.queue h.queue_part.inside (λ _. link_j)) h.queue_linked in
    let head : s2.shown ≡ s.shown = ap (λ (t : CountedSpace). t.shown) is2 ∙ ap (λ (t : CountedSpace). t.shown) is1 in
    let queued : s2.queued ≡ s.queued = ap (λ (t : CountedSpace). t.queued) is2 ∙ ap (λ (t : CountedSpace). t.queued) is1 in
    linked_at c (unshown v x) s2 u.loosely
    (subst (λ (n : ℕ). Linked s2.memory 16 n (without_one x v.shown)) (sym head)
    (linked_same s1.memory s2.memory 16 s.shown (without_one x v.shown)
    (loose_link_kept c v (unshown v x) s1 s2.memory x 16 l u.rewritten (omega arith) (without_one x v.shown) part.inside (λ _. u.shown_word)) shown1))
    (subst (λ (n : ℕ). Linked s2.memory 24 n v.queue) (sym queued)
    (linked_same s1.memory s2.memory 24 s.queued v.queue
    (loose_link_kept c v (unshown v x) s1 s2.memory x 24 l u.rewritten (omega arith) v.queue h.queue_part.inside (λ _. u.link_word)) queue1))

pub hidden_at : (c : Context) (v : View) (s s1 s2 : CountedSpace) (x before next k : ℕ) (kept left : List ℕ) → next ≡ word s.memory (x + 16) → next < 2 ^ 32 → Relinks s s1 before next
    → k ≡ word s1.memory x → k < 2 ^ 32 → s2 ≡ record s1 { memory = put_u32 s1.memory x (k - 2) } → At c v s → v.shown ≡ onto kept (x ∷ left) → front kept ≡ before
    → At c (unshown v x) s2
hidden_at c v s s1 s2 x before next k [] left read fits r read_k small is2 at is e =
    hidden_first c v s s1 s2 x next k left read (r.head (sym e)) read_k small is2 at is
hidden_at c v s s1 s2 x before next k (j ∷ js) left read fits r read_k small is2 at is e =
    let linked : Linked s.memory 16 s.shown (onto js (j ∷ x ∷ left)) = subst (λ (xs : List ℕ). Linked s.memory 16 s.shown xs) is at.holds.shown_linked in
    let positive = (linked_behind s.memory 16 s.shown j js (x ∷ left) linked).0 in
    let is1 : s1 ≡ record s { memory = put_u32 s.memory (before + 16) next } = r.word_is (λ (z : before ≡ 0). absurd (omega arith)) in
    let is1_j : s1 ≡ record s { memory = put_u32 s.memory (j + 16) next } =
    subst (λ (b : ℕ). s1 ≡ record s { memory = put_u32 s.memory (b + 16) next }) (sym e) is1 in
    hidden_behind c v s s1 s2 x j next k js left read fits is1_j read_k small is2 at is

-- what an object that may be taken off the list tells
pub record Hideable (s : CountedSpace) (before x : ℕ) : Type 0 where
  pub room : x + 28 ≤ length s.memory
  pub room_before : (before ≡ 0) ⊎ (before + 28 ≤ length s.memory)

front_held : (c : Context) (v : View) (s : CountedSpace) (before x : ℕ) (kept left : List ℕ) → At c v s → v.shown ≡ onto kept (x ∷ left) → front kept ≡ before
    → (before ≡ 0) ⊎ In before v.places
front_held c v s before x [] left at is e = inl (sym e)
front_held c v s before x (j ∷ js) left at is e = inr (subst (λ (b : ℕ). In b v.places) e (at.holds.shown_part.inside j (occ-In j v.shown
    (let t : occ j v.shown ≡ occ j (j ∷ js) + occ j (x ∷ left) = ap (λ (xs : List ℕ). occ j xs) is ∙ occ-onto j (j ∷ js) (x ∷ left) in let one = occ-same j js in omega arith))))

pub hidden_held : (s : CountedSpace) (before x : ℕ) (can : CanHide s before x) → In x can.view.places
hidden_held s before x can =
    let times = on_list_at can.view x can.kept can.left can.list in
    can.at.holds.shown_part.inside x (occ-In x can.view.shown (omega arith))

pub hideable : (s : CountedSpace) (before x : ℕ) → CanHide s before x → Hideable s before x
hideable s before x can = record {
  room = room_at can.context can.view s x can.at (hidden_held s before x can);
  room_before = elim (front_held can.context can.view s before x can.kept can.left can.at can.list can.is_before) [
    | inl e ↦ inl e
    | inr i ↦ inr (room_at can.context can.view s before can.at i)
  ];
}

-- what stands after the list was written
pub after_relink : (s s1 : CountedSpace) (before next x k : ℕ) → CanHide s before x → Relinks s s1 before next → next < 2 ^ 32 → k ≡ word s1.memory x → (x + 28 ≤ length s1.memory) × (2 ≤ k)
after_relink s s1 before next x k can r fits read =
    let c = can.context in
    let v = can.view in
    let i = hidden_held s before x can in
    let times = on_list_at v x can.kept can.left can.list in
    let l : Loose c v s1 = elim (cases_eq before 0) [
      | inl e ↦ (
          let lax = loose c v s can.at in
          subst (λ (t : CountedSpace). Loose c v t) (sym (r.head e)) (record {
            start = lax.start;
            intact = lax.intact;
            from = lax.from;
            pages = lax.pages;
            bound = lax.bound;
            capacity = lax.capacity;
            sound = lax.sound;
            blocks = lax.blocks;
            objects = lax.objects;
            shown_part = lax.shown_part;
            queue_part = lax.queue_part;
            marked_part = lax.marked_part;
            count = lax.count;
            allocated = lax.allocated;
          }))
      | inr ne ↦ elim (front_held c v s before x can.kept can.left can.at can.list can.is_before) [
        | inl e ↦ elim (ne e) [ ]
        | inr held ↦ (relinked_loose c v s s1 before next can.at held fits (r.word_is ne)).1
      ]
    ] in
    let flags : word s1.memory x % 8 ≡ occ x v.marked + 2 * occ x v.shown + 4 * occ x v.queue = (l.objects x i).flags_are in
    (loose_room c v s1 x l i, omega arith)
