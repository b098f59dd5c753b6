-- Marks and counts in memory.
use Rattle.std.proofs.Common.{◌≡◌, ℕ, ◌+◌, ◌-◌, ◌*◌, ◌%◌, ◌<◌, ◌≤◌, ◌^◌, cond, nat_eq, List, ◌∷◌, length, refl, sym, ap, subst, ◌∙◌, inl, inr, arith}
use Rattle.std.proofs.lemmas.Bool.{cases_eq, eq-eqb, ne_eqb}
use Rattle.gc_view.specs.Bytes.{put_u32}
use Rattle.gc_memory.specs.Words.{word, word64, put_u64}
use Rattle.gc_memory.specs.Lists.{In, here, there, occ}
use Rattle.gc_memory.proofs.ListLemmas.{In-occ, occ-In, occ-same}
use Rattle.gc_memory.proofs.ChangeLemmas.{Wrote-put_u32, Wrote-put_u64}
use Rattle.gc_memory.proofs.WordLemmas.{word_apart}
use Rattle.gc_drc.specs.declared.space.CountedSpace.{CountedSpace}
use Rattle.gc_drc.specs.View.{View, IsPart, Linked, link, count_of}
use Rattle.gc_drc.specs.CollectOps.{same, without_one, marked_also, unmarked, uncounted, uncounted_or_queued}
use Rattle.gc_drc.specs.CollectMemory.{Context, At, CanUnmark}
use Rattle.gc_drc.proofs.OccLemmas.{same-is, same-not, occ-without}
use Rattle.gc_drc.proofs.RewriteLemmas.{sets_kind, sets_count, sets_link, sets_then, sets_as, linked_same, apart_at}
use Rattle.gc_drc.proofs.HoldsLemmas.{Rewritten, room_at, link_kept, with_lists, at_written, lists_kept}

-- an object's flags in its kind word
pub flags_in : (c : Context) (v : View) (s : CountedSpace) (x : ℕ) → At c v s → In x v.places → word s.memory x % 8 ≡ occ x v.marked + 2 * occ x v.shown + 4 * occ x v.queue
flags_in c v s x at i = (at.holds.objects x i).flags_are

pub count_in : (c : Context) (v : View) (s : CountedSpace) (x : ℕ) → At c v s → In x v.places → word64 s.memory (x + 8) ≡ count_of v x
count_in c v s x at i = (at.holds.objects x i).count_is

-- a list with a new one in front, and without one of its own
pub part_with : (places list : List ℕ) (x : ℕ) → IsPart places list → In x places → occ x list ≡ 0 → IsPart places (x ∷ list)
part_with places list x part i none = record {
  inside = with_in;
  once = λ p. elim (cases_eq p x) [
    | inl e ↦ let at : occ p list ≡ occ x list = ap (λ n. occ n list) e in let one : same p x ≡ 1 = same-is p x e in omega arith
    | inr ne ↦ let z : same p x ≡ 0 = same-not p x ne in let o = part.once p in omega arith
  ];
}
  where
    with_in : (p : ℕ) → In p (x ∷ list) → In p places
    with_in _ here = i
    with_in p (there j) = part.inside p j

pub part_without : (places list : List ℕ) (x : ℕ) → IsPart places list → 0 < occ x list → IsPart places (without_one x list)
part_without places list x part h = record {
  inside = λ p j. part.inside p (occ-In p list (let w = occ-without x p list h in let some = In-occ p (without_one x list) j in omega arith));
  once = λ p. let w = occ-without x p list h in let o = part.once p in omega arith;
}

-- MARKS

mark_rewrites : (c : Context) (v : View) (s : CountedSpace) (x k : ℕ) → At c v s → In x v.places → occ x v.marked ≡ 0 → k ≡ word s.memory x → k + 1 < 2 ^ 32
    → Rewritten v (marked_also v x) s (put_u32 s.memory x (k + 1)) x
mark_rewrites c v s x k at i fresh read small =
    let flags = flags_in c v s x at i in
    let sets = sets_kind s.memory x (k + 1) (room_at c v s x at i) small (omega arith) in
    let one = occ-same x v.marked in
    record {
      held = i;
      sets = sets_as sets _ _ _ _ (omega arith) (count_in c v s x at i) (sym sets.shown_is) (sym sets.link_is);
      positive = (at.holds.objects x i).positive;
      counts = λ p j ne. refl;
      flags = λ p j ne. let other : same p x ≡ 0 = same-not p x ne in omega arith;
    }

pub mark_at : (c : Context) (v : View) (s s' : CountedSpace) (x k : ℕ) → k ≡ word s.memory x → k + 1 < 2 ^ 32 → s' ≡ record s { memory = put_u32 s.memory x (k + 1) }
    → At c v s → In x v.places → occ x v.marked ≡ 0 → At c (marked_also v x) s'
mark_at c v s s' x k read small is at i fresh =
    let r = mark_rewrites c v s x k at i fresh read small in
    let now : CountedSpace = record s { memory = put_u32 s.memory x (k + 1) } in
    let sets = sets_kind s.memory x (k + 1) (room_at c v s x at i) small (let flags = flags_in c v s x at i in omega arith) in
    let part = part_with v.places v.marked x at.holds.marked_part i fresh in
    subst (λ t. At c (marked_also v x) t) (sym is)
    (at_written c v v.shown v.queue (x ∷ v.marked) v.counted s now x at r refl refl refl
    (lists_kept c v (x ∷ v.marked) v.counted s now x at r part sets.shown_is sets.link_is refl refl))

pub mark_links : (c : Context) (v : View) (s s' : CountedSpace) (x k : ℕ) → k ≡ word s.memory x → k + 1 < 2 ^ 32 → s' ≡ record s { memory = put_u32 s.memory x (k + 1) }
    → At c v s → In x v.places → (head : ℕ) (list : List ℕ) → ((p : ℕ) → In p list → In p v.places) → Linked s.memory 24 head list → Linked s'.memory 24 head list
mark_links c v s s' x k read small is at i head list part linked =
    let w = Wrote-put_u32 s.memory x (k + 1) (let room = room_at c v s x at i in omega arith) in
    subst (λ t. Linked t.memory 24 head list) (sym is)
    (linked_same s.memory (put_u32 s.memory x (k + 1)) 24 head list (λ p j. elim (cases_eq p x) [
      | inl e ↦ word_apart w (p + 24) (inr (omega arith))
      | inr ne ↦
          let size_was = (at.intact.objects p (at.from p (part p j))).size in
          let least = (at.start.lies p (at.from p (part p j))).least in
          elim (apart_at c x p at.start (at.from x i) (at.from p (part p j)) ne) [
            | inl h ↦ word_apart w (p + 24) (inl (omega arith))
            | inr h ↦ word_apart w (p + 24) (inr (omega arith))
          ]
    ]) linked)

unmark_rewrites : (c : Context) (v : View) (s : CountedSpace) (x k : ℕ) → At c v s → In x v.places → 0 < occ x v.marked → k ≡ word s.memory x → k < 2 ^ 32
    → Rewritten v (unmarked v x) s (put_u32 s.memory x (k - 1)) x
unmark_rewrites c v s x k at i h read small =
    let flags = flags_in c v s x at i in
    let once = at.holds.marked_part.once x in
    let sets = sets_kind s.memory x (k - 1) (room_at c v s x at i) (omega arith) (omega arith) in
    let w = occ-without x x v.marked h in
    let one : same x x ≡ 1 = same-is x x refl in
    record {
      held = i;
      sets = sets_as sets _ _ _ _ (omega arith) (count_in c v s x at i) (sym sets.shown_is) (sym sets.link_is);
      positive = (at.holds.objects x i).positive;
      counts = λ p j ne. refl;
      flags = λ p j ne. let other : same p x ≡ 0 = same-not p x ne in let wp = occ-without x p v.marked h in omega arith;
    }

pub unmark_at : (c : Context) (v : View) (s s' : CountedSpace) (x k : ℕ) → k ≡ word s.memory x → k < 2 ^ 32 → s' ≡ record s { memory = put_u32 s.memory x (k - 1) }
    → At c v s → 0 < occ x v.marked → At c (unmarked v x) s'
unmark_at c v s s' x k read small is at h =
    let i = at.holds.marked_part.inside x (occ-In x v.marked h) in
    let r = unmark_rewrites c v s x k at i h read small in
    let flags = flags_in c v s x at i in
    let once = at.holds.marked_part.once x in
    let now : CountedSpace = record s { memory = put_u32 s.memory x (k - 1) } in
    let sets = sets_kind s.memory x (k - 1) (room_at c v s x at i) (omega arith) (omega arith) in
    let part = part_without v.places v.marked x at.holds.marked_part h in
    subst (λ t. At c (unmarked v x) t) (sym is)
    (at_written c v v.shown v.queue (without_one x v.marked) v.counted s now x at r refl refl refl
    (lists_kept c v (without_one x v.marked) v.counted s now x at r part sets.shown_is sets.link_is refl refl))

-- what a mark that may be cleared tells
pub can_unmark : (s : CountedSpace) (x k : ℕ) → CanUnmark s x → k ≡ word s.memory x → (x + 28 ≤ length s.memory) × (1 ≤ k)
can_unmark s x k can read =
    let i = can.at.holds.marked_part.inside x (occ-In x can.view.marked can.is_marked) in
    let flags = flags_in can.context can.view s x can.at i in
    let m = can.is_marked in
    (room_at can.context can.view s x can.at i, omega arith)

-- COUNTS

uncount_rewrites : (c : Context) (v : View) (s : CountedSpace) (x n : ℕ) → At c v s → In x v.places → 0 < v.counted x → 1 < n → n ≡ word64 s.memory (x + 8) → n < 2 ^ 64
    → Rewritten v (uncounted v x) s (put_u64 s.memory (x + 8) (n - 1)) x
uncount_rewrites c v s x n at i named more read small =
    let counts = count_in c v s x at i in
    let sets = sets_count s.memory x (n - 1) (room_at c v s x at i) (omega arith) in
    let one : same x x ≡ 1 = same-is x x refl in
    record {
      held = i;
      sets = sets_as sets _ _ _ _ (flags_in c v s x at i) (omega arith) (sym sets.shown_is) (sym sets.link_is);
      positive = omega arith;
      counts = λ p j ne. let other : same p x ≡ 0 = same-not p x ne in omega arith;
      flags = λ p j ne. refl;
    }

pub uncount_at : (c : Context) (v : View) (s s' : CountedSpace) (x n : ℕ) → n ≡ word64 s.memory (x + 8) → n < 2 ^ 64 → s' ≡ record s { memory = put_u64 s.memory (x + 8) (n - 1) }
    → At c v s → In x v.places → 0 < v.counted x → 1 < n → At c (uncounted v x) s'
uncount_at c v s s' x n read small is at i named more =
    let r = uncount_rewrites c v s x n at i named more read small in
    let now : CountedSpace = record s { memory = put_u64 s.memory (x + 8) (n - 1) } in
    let sets = sets_count s.memory x (n - 1) (room_at c v s x at i) (omega arith) in
    subst (λ t. At c (uncounted v x) t) (sym is)
    (at_written c v v.shown v.queue v.marked (λ (y : ℕ). v.counted y - same y x) s now x at r refl refl refl
    (lists_kept c v v.marked (λ (y : ℕ). v.counted y - same y x) s now x at r at.holds.marked_part sets.shown_is sets.link_is refl refl))

-- the count word as the count
pub more_names : (c : Context) (v : View) (s : CountedSpace) (x n : ℕ) → At c v s → In x v.places → n ≡ word64 s.memory (x + 8) → 1 < count_of v x → 1 < n
more_names c v s x n at i read more = let counts = count_in c v s x at i in omega arith

-- another name of an object is lowered
pub lower_at_more : (c : Context) (v : View) (s s' : CountedSpace) (x n : ℕ) → n ≡ word64 s.memory (x + 8) → n < 2 ^ 64 → (n ≡ 1 → ⊥) → s' ≡ record s { memory = put_u64 s.memory (x + 8) (n - 1) }
    → At c v s → In x v.places → 0 < v.counted x → At c (uncounted_or_queued v x) s'
lower_at_more c v s s' x n read small isnt is at i named =
    let counts = count_in c v s x at i in
    let more : 1 < n = elim (cases_eq n 1) [ inl e ↦ elim (isnt e) [ ] | inr ne ↦ omega arith ] in
    let queue_is : cond (nat_eq (count_of v x) 1) (x ∷ v.queue) v.queue ≡ v.queue =
    ap (λ b. cond b (x ∷ v.queue) v.queue) (ne_eqb (count_of v x) 1 (λ (e : count_of v x ≡ 1). absurd (omega arith))) in
    subst (λ (q : List ℕ). At c (with_lists v v.shown q v.marked (λ (y : ℕ). v.counted y - same y x)) s') (sym queue_is)
    (uncount_at c v s s' x n read small is at i named more)

-- the last name of an object is lowered, which is queued
queue_rewrites : (c : Context) (v : View) (s : CountedSpace) (x k : ℕ) → At c v s → In x v.places → 0 < v.counted x → count_of v x ≡ 1 → k ≡ word s.memory x → k < 2 ^ 32 → s.queued < 2 ^ 32
    → Rewritten v (with_lists v v.shown (x ∷ v.queue) v.marked (λ (y : ℕ). v.counted y - same y x)) s (put_u32 (put_u32 s.memory x (k + 4)) (x + 24) s.queued) x
queue_rewrites c v s x k at i named alone read small fits =
    let flags = flags_in c v s x at i in
    let once = at.holds.marked_part.once x in
    let counts = count_in c v s x at i in
    let room = room_at c v s x at i in
    let first = sets_kind s.memory x (k + 4) room (omega arith) (omega arith) in
    let len = first.around.same_length in
    let second = sets_link (put_u32 s.memory x (k + 4)) x s.queued (omega arith) fits in
    let sets = sets_then first second in
    let one : same x x ≡ 1 = same-is x x refl in
    let flags_first = first.flags_are in
    let count_first = first.count_is in
    record {
      held = i;
      sets = sets_as sets _ _ _ _ (omega arith) (omega arith) (sym sets.shown_is) (sym sets.link_is);
      positive = omega arith;
      counts = λ p j ne. let other : same p x ≡ 0 = same-not p x ne in omega arith;
      flags = λ p j ne. let other : same p x ≡ 0 = same-not p x ne in omega arith;
    }

pub lower_at_last : (c : Context) (v : View) (s s' : CountedSpace) (x n k : ℕ) → n ≡ word64 s.memory (x + 8) → n ≡ 1 → k ≡ word s.memory x → k < 2 ^ 32 → s.queued < 2 ^ 32
    → s'.memory ≡ put_u32 (put_u32 s.memory x (k + 4)) (x + 24) s.queued → s'.free ≡ s.free → s'.shown ≡ s.shown → s'.queued ≡ x → s'.objects ≡ s.objects → s'.allocated ≡ s.allocated
    → At c v s → In x v.places → 0 < v.counted x → At c (uncounted_or_queued v x) s'
lower_at_last c v s s' x n k read one_n read_k small fits memory free shown queued objects allocated at i named =
    let counts = count_in c v s x at i in
    let alone : count_of v x ≡ 1 = omega arith in
    let counted' : ℕ → ℕ = λ y. v.counted y - same y x in
    let after = with_lists v v.shown (x ∷ v.queue) v.marked counted' in
    let r : Rewritten v after s s'.memory x = subst (λ (m : List ℕ). Rewritten v after s m x) (sym memory) (queue_rewrites c v s x k at i named alone read_k small fits) in
    let h = at.holds in
    let room = room_at c v s x at i in
    let flags = flags_in c v s x at i in
    let once = h.marked_part.once x in
    let none : occ x v.queue ≡ 0 = omega arith in
    let first = sets_kind s.memory x (k + 4) room (omega arith) (omega arith) in
    let len = first.around.same_length in
    let sets = sets_then first (sets_link (put_u32 s.memory x (k + 4)) x s.queued (omega arith) fits) in
    let shown_word : word s'.memory (x + 16) ≡ word s.memory (x + 16) = ap (λ (m : List ℕ). word m (x + 16)) memory ∙ sets.shown_is ∙ first.shown_is in
    let link_word : word s'.memory (x + 24) ≡ s.queued = ap (λ (m : List ℕ). word m (x + 24)) memory ∙ sets.link_is in
    let lies = at.start.lies x (at.from x i) in
    let queue_is : x ∷ v.queue ≡ cond (nat_eq (count_of v x) 1) (x ∷ v.queue) v.queue = sym (ap (λ b. cond b (x ∷ v.queue) v.queue) (eq-eqb (count_of v x) 1 alone)) in
    let queue_rest : Linked s'.memory 24 s.queued v.queue =
    linked_same s.memory s'.memory 24 s.queued v.queue
    (link_kept c v after s s'.memory x 24 at r (omega arith) v.queue h.queue_part.inside (λ (j : In x v.queue). absurd (let some = In-occ x v.queue j in omega arith))) h.queue_linked in
    subst (λ (q : List ℕ). At c (with_lists v v.shown q v.marked counted') s') queue_is
    (at_written c v v.shown (x ∷ v.queue) v.marked counted' s s' x at r free objects allocated (record {
      shown_part = h.shown_part;
      queue_part = part_with v.places v.queue x h.queue_part i none;
      marked_part = h.marked_part;
      shown_linked = subst (λ (n : ℕ). Linked s'.memory 16 n v.shown) (sym shown)
          (linked_same s.memory s'.memory 16 s.shown v.shown (link_kept c v after s s'.memory x 16 at r (omega arith) v.shown h.shown_part.inside (λ _. shown_word)) h.shown_linked);
      queue_linked = subst (λ (n : ℕ). Linked s'.memory 24 n (x ∷ v.queue)) (sym queued)
          (link lies.not_null (subst (λ (n : ℕ). Linked s'.memory 24 n v.queue) (sym link_word) queue_rest));
    }))

-- the same by the two writes
pub lower_at_writes : (c : Context) (v : View) (s s1 s2 : CountedSpace) (x n k : ℕ) → n ≡ word64 s.memory (x + 8) → n ≡ 1 → k ≡ word s.memory x → k < 2 ^ 32 → s.queued < 2 ^ 32
    → s1 ≡ record s { memory = put_u32 s.memory x (k + 4) } → s2 ≡ record s1 { memory = put_u32 s1.memory (x + 24) s1.queued }
    → At c v s → In x v.places → 0 < v.counted x → At c (uncounted_or_queued v x) (record s2 { queued = x })
lower_at_writes c v s s1 s2 x n k read one read_k small fits e1 e2 at i named =
    let linked_on : CountedSpace → CountedSpace = λ t. record t { memory = put_u32 t.memory (x + 24) t.queued } in
    let both : s2 ≡ record s { memory = put_u32 (put_u32 s.memory x (k + 4)) (x + 24) s.queued } =
    e2 ∙ ap linked_on e1 in
    lower_at_last c v s (record s2 { queued = x }) x n k read one read_k small fits (ap (λ t. t.memory) both) (ap (λ t. t.free) both) (ap (λ t. t.shown) both) refl
    (ap (λ t. t.objects) both) (ap (λ t. t.allocated) both) at i named

-- a count that is written leaves the kind words of all objects
pub uncount_kinds : (c : Context) (v : View) (s s' : CountedSpace) (x n : ℕ) → s' ≡ record s { memory = put_u64 s.memory (x + 8) n } → At c v s → In x v.places
    → (p : ℕ) → In p c.graph.places → word s'.memory p ≡ word s.memory p
uncount_kinds c v s s' x n is at i p j =
    let room = room_at c v s x at i in
    let w = Wrote-put_u64 s.memory (x + 8) n (omega arith) in
    ap (λ (t : CountedSpace). word t.memory p) is ∙ elim (cases_eq p x) [
      | inl e ↦ word_apart w p (inl (omega arith))
      | inr ne ↦
          let least = (at.start.lies p j).least in
          elim (apart_at c x p at.start (at.from x i) j ne) [
            | inl h ↦ word_apart w p (inl (omega arith))
            | inr h ↦ word_apart w p (inr (omega arith))
          ]
    ]
