-- What a heap shows where the words in front of one object were written.
use Rattle.std.proofs.Common.{◌≡◌, ℕ, ◌+◌, ◌*◌, ◌%◌, ◌<◌, ◌≤◌, List, length, map, sym, ap, subst, ◌∙◌, inl, inr, arith}
use Rattle.std.proofs.Math.Logic.{◌⊎◌}
use Rattle.std.proofs.lemmas.Bool.{cases_eq}
use Rattle.gc_view.specs.Pages.{page, max_pages}
use Rattle.gc_memory.specs.Words.{word}
use Rattle.gc_memory.specs.Lists.{In, sum_over}
use Rattle.gc_memory.proofs.WordLemmas.{word_apart, word64_apart}
use Rattle.gc_free.specs.Space.{IsSound}
use Rattle.gc_drc.specs.declared.space.CountedSpace.{CountedSpace}
use Rattle.gc_drc.specs.Layout.{count_at, counting_size_at, block_of}
use Rattle.gc_drc.specs.View.{View, ShowsObject, IsPart, Linked, block_at, count_of, flags_of}
use Rattle.gc_drc.specs.CollectMemory.{Context, IsContext, Intact, At}
use Rattle.gc_drc.proofs.RewriteLemmas.{Sets, same_written, same_apart, whole_same, apart_at, intact_written, linked_same}

-- the object that was written shows other numbers
pub record Rewritten (v v' : View) (s : CountedSpace) (m' : List ℕ) (x : ℕ) : Type 0 where
  pub held : In x v.places
  pub sets : Sets s.memory m' x (flags_of v' x) (count_of v' x) (word m' (x + 16)) (word m' (x + 24))
  pub positive : 0 < count_of v' x
  pub counts : (p : ℕ) → In p v.places → (p ≡ x → ⊥) → count_of v' p ≡ count_of v p
  pub flags : (p : ℕ) → In p v.places → (p ≡ x → ⊥) → flags_of v' p ≡ flags_of v p

-- The heap shows a view, but for how its two lists are linked.
pub record Loose (c : Context) (v : View) (s : CountedSpace) : Type 0 where
  pub start : IsContext c
  pub intact : Intact c s.memory
  pub from : (p : ℕ) → In p v.places → In p c.graph.places
  pub pages : length s.memory % page ≡ 0
  pub bound : length s.memory ≤ page * max_pages
  pub capacity : s.free.space.capacity ≡ length s.memory
  pub sound : IsSound s.free.space
  pub blocks : s.free.space.held ≡ map (block_at v.sizes) v.places
  pub objects : (p : ℕ) → In p v.places → ShowsObject s.memory p (v.sizes p) (count_of v p) (flags_of v p)
  pub shown_part : IsPart v.places v.shown
  pub queue_part : IsPart v.places v.queue
  pub marked_part : IsPart v.places v.marked
  pub count : s.objects ≡ length v.places
  pub allocated : s.allocated ≡ sum_over (λ p. block_of (v.sizes p)) v.places

pub loose : (c : Context) (v : View) (s : CountedSpace) → At c v s → Loose c v s
loose c v s at = record {
  start = at.start;
  intact = at.intact;
  from = at.from;
  pages = at.holds.pages;
  bound = at.holds.bound;
  capacity = at.holds.capacity;
  sound = at.holds.sound;
  blocks = at.holds.blocks;
  objects = at.holds.objects;
  shown_part = at.holds.shown_part;
  queue_part = at.holds.queue_part;
  marked_part = at.holds.marked_part;
  count = at.holds.count;
  allocated = at.holds.allocated;
}

pub linked_at : (c : Context) (v : View) (s : CountedSpace) → Loose c v s → Linked s.memory 16 s.shown v.shown → Linked s.memory 24 s.queued v.queue → At c v s
linked_at c v s l shown queue = record {
  start = l.start;
  holds = record {
    pages = l.pages;
    bound = l.bound;
    capacity = l.capacity;
    sound = l.sound;
    blocks = l.blocks;
    objects = l.objects;
    shown_part = l.shown_part;
    queue_part = l.queue_part;
    marked_part = l.marked_part;
    shown_linked = shown;
    queue_linked = queue;
    count = l.count;
    allocated = l.allocated;
  };
  intact = l.intact;
  from = l.from;
}

-- an object that lies apart is shown as before
shows_apart : (c : Context) (v v' : View) (s : CountedSpace) (m' : List ℕ) (x p : ℕ) → Loose c v s → Rewritten v v' s m' x → In p v.places → (p ≡ x → ⊥)
    → ShowsObject m' p (v.sizes p) (count_of v' p) (flags_of v' p)
shows_apart c v v' s m' x p at r i ne =
    let was = at.objects p i in
    let size_was = (at.intact.objects p (at.from p i)).size in
    let least = (at.start.lies p (at.from p i)).least in
    let apart : (p + counting_size_at s.memory p ≤ x) ⊎ (x + 28 ≤ p) = elim (apart_at c x p at.start (at.from x r.held) (at.from p i) ne) [ inl h ↦ inl (omega arith) | inr h ↦ inr h ] in
    let obj = same_apart r.sets p (omega arith) apart in
    let around = r.sets.around in
    let count_same : count_at m' p ≡ count_at s.memory p = elim apart [ inl h ↦ word64_apart around (p + 8) (inl (omega arith)) | inr h ↦ word64_apart around (p + 8) (inr (omega arith)) ] in
    let word_same : word m' p ≡ word s.memory p = elim apart [ inl h ↦ word_apart around p (inl (omega arith)) | inr h ↦ word_apart around p (inr h) ] in
    let count_e = r.counts p i ne in
    let positive = was.positive in
    record {
      whole = whole_same s.memory m' p obj was.whole;
      size_is = obj.size ∙ was.size_is;
      count_is = count_same ∙ was.count_is ∙ sym count_e;
      positive = omega arith;
      flags_are = ap (λ (n : ℕ). n % 8) word_same ∙ was.flags_are ∙ sym (r.flags p i ne);
    }

shows_at : (c : Context) (v v' : View) (s : CountedSpace) (m' : List ℕ) (x : ℕ) → Loose c v s → Rewritten v v' s m' x
    → ShowsObject m' x (v.sizes x) (count_of v' x) (flags_of v' x)
shows_at c v v' s m' x at r =
    let was = at.objects x r.held in
    record {
      whole = whole_same s.memory m' x (same_written r.sets) was.whole;
      size_is = r.sets.size ∙ was.size_is;
      count_is = r.sets.count_is;
      positive = r.positive;
      flags_are = r.sets.flags_are;
    }

pub shows_all : (c : Context) (v v' : View) (s : CountedSpace) (m' : List ℕ) (x : ℕ) → Loose c v s → Rewritten v v' s m' x
    → (p : ℕ) → In p v.places → ShowsObject m' p (v.sizes p) (count_of v' p) (flags_of v' p)
shows_all c v v' s m' x at r p i = elim (cases_eq p x) [
  | inl e ↦ subst (λ (q : ℕ). ShowsObject m' q (v.sizes q) (count_of v' q) (flags_of v' q)) (sym e) (shows_at c v v' s m' x at r)
  | inr ne ↦ shows_apart c v v' s m' x p at r i ne
]

-- words of lists in objects that were not written, or that stayed
pub loose_link_kept : (c : Context) (v v' : View) (s : CountedSpace) (m' : List ℕ) (x : ℕ) (offset : ℕ) → Loose c v s → Rewritten v v' s m' x → offset + 4 ≤ 28
    → (ps : List ℕ) → ((p : ℕ) → In p ps → In p v.places) → (In x ps → word m' (x + offset) ≡ word s.memory (x + offset))
    → (p : ℕ) → In p ps → word m' (p + offset) ≡ word s.memory (p + offset)
loose_link_kept c v v' s m' x offset at r inside ps part stayed p i = elim (cases_eq p x) [
  | inl e ↦ subst (λ (q : ℕ). word m' (q + offset) ≡ word s.memory (q + offset)) (sym e) (stayed (subst (λ (q : ℕ). In q ps) e i))
  | inr ne ↦ (
      let size_was = (at.intact.objects p (at.from p (part p i))).size in
      let least = (at.start.lies p (at.from p (part p i))).least in
      elim (apart_at c x p at.start (at.from x r.held) (at.from p (part p i)) ne) [
        | inl h ↦ word_apart r.sets.around (p + offset) (inl (omega arith))
        | inr h ↦ word_apart r.sets.around (p + offset) (inr (omega arith))
      ])
]

-- what an object that a heap holds has room for
pub loose_room : (c : Context) (v : View) (s : CountedSpace) (x : ℕ) → Loose c v s → In x v.places → x + 28 ≤ length s.memory
loose_room c v s x at i =
    let lies = at.start.lies x (at.from x i) in
    let inside = lies.inside in
    let least = lies.least in
    let len = at.intact.same_length in
    omega arith

pub room_at : (c : Context) (v : View) (s : CountedSpace) (x : ℕ) → At c v s → In x v.places → x + 28 ≤ length s.memory
room_at c v s x at i = loose_room c v s x (loose c v s at) i

pub link_kept : (c : Context) (v v' : View) (s : CountedSpace) (m' : List ℕ) (x : ℕ) (offset : ℕ) → At c v s → Rewritten v v' s m' x → offset + 4 ≤ 28
    → (ps : List ℕ) → ((p : ℕ) → In p ps → In p v.places) → (In x ps → word m' (x + offset) ≡ word s.memory (x + offset))
    → (p : ℕ) → In p ps → word m' (p + offset) ≡ word s.memory (p + offset)
link_kept c v v' s m' x offset at r inside ps part stayed p i = loose_link_kept c v v' s m' x offset (loose c v s at) r inside ps part stayed p i

-- A HEAP THAT WAS WRITTEN

-- the lists that a heap shows after a write, and that they are linked
pub record Lists (v v' : View) (s' : CountedSpace) : Type 0 where
  pub shown_part : IsPart v.places v'.shown
  pub queue_part : IsPart v.places v'.queue
  pub marked_part : IsPart v.places v'.marked
  pub shown_linked : Linked s'.memory 16 s'.shown v'.shown
  pub queue_linked : Linked s'.memory 24 s'.queued v'.queue

-- the view with other lists and counts
abbrev pub with_lists : View → List ℕ → List ℕ → List ℕ → (ℕ → ℕ) → View
with_lists v shown queue marked counted = record {
  places = v.places;
  shown = shown;
  queue = queue;
  marked = marked;
  counted = counted;
  sizes = v.sizes;
}

-- one object was written, and the blocks are as they were
pub loose_written : (c : Context) (v : View) (shown queue marked : List ℕ) (counted : ℕ → ℕ) (s s' : CountedSpace) (x : ℕ) → Loose c v s
    → Rewritten v (with_lists v shown queue marked counted) s s'.memory x → s'.free ≡ s.free → s'.objects ≡ s.objects → s'.allocated ≡ s.allocated
    → IsPart v.places shown → IsPart v.places queue → IsPart v.places marked → Loose c (with_lists v shown queue marked counted) s'
loose_written c v shown queue marked counted s s' x l r free objects allocated shown_part queue_part marked_part =
    let len : length s'.memory ≡ length s.memory = r.sets.around.same_length in
    let bound = l.bound in
    record {
      start = l.start;
      intact = intact_written c s.memory s'.memory x l.start l.intact (l.from x r.held) r.sets;
      from = l.from;
      pages = ap (λ n. n % page) len ∙ l.pages;
      bound = omega arith;
      capacity = ap (λ f. f.space.capacity) free ∙ l.capacity ∙ sym len;
      sound = subst (λ f. IsSound f.space) (sym free) l.sound;
      blocks = ap (λ f. f.space.held) free ∙ l.blocks;
      objects = shows_all c v (with_lists v shown queue marked counted) s s'.memory x l r;
      shown_part = shown_part;
      queue_part = queue_part;
      marked_part = marked_part;
      count = objects ∙ l.count;
      allocated = allocated ∙ l.allocated;
    }

pub at_written : (c : Context) (v : View) (shown queue marked : List ℕ) (counted : ℕ → ℕ) (s s' : CountedSpace) (x : ℕ) → At c v s
    → Rewritten v (with_lists v shown queue marked counted) s s'.memory x → s'.free ≡ s.free → s'.objects ≡ s.objects → s'.allocated ≡ s.allocated
    → Lists v (with_lists v shown queue marked counted) s' → At c (with_lists v shown queue marked counted) s'
at_written c v shown queue marked counted s s' x at r free objects allocated lists =
    linked_at c (with_lists v shown queue marked counted) s'
    (loose_written c v shown queue marked counted s s' x (loose c v s at) r free objects allocated lists.shown_part lists.queue_part lists.marked_part)
    lists.shown_linked lists.queue_linked

-- where the two lists' links stayed
pub lists_kept : (c : Context) (v : View) (marked : List ℕ) (counted : ℕ → ℕ) (s s' : CountedSpace) (x : ℕ) → At c v s
    → Rewritten v (with_lists v v.shown v.queue marked counted) s s'.memory x → IsPart v.places marked
    → word s'.memory (x + 16) ≡ word s.memory (x + 16) → word s'.memory (x + 24) ≡ word s.memory (x + 24)
    → s'.shown ≡ s.shown → s'.queued ≡ s.queued → Lists v (with_lists v v.shown v.queue marked counted) s'
lists_kept c v marked counted s s' x at r part shown_same link_same_ shown queued =
    let h = at.holds in
    let after = with_lists v v.shown v.queue marked counted in
    record {
      shown_part = h.shown_part;
      queue_part = h.queue_part;
      marked_part = part;
      shown_linked = subst (λ (n : ℕ). Linked s'.memory 16 n v.shown) (sym shown)
          (linked_same s.memory s'.memory 16 s.shown v.shown (link_kept c v after s s'.memory x 16 at r (omega arith) v.shown h.shown_part.inside (λ _. shown_same)) h.shown_linked);
      queue_linked = subst (λ (n : ℕ). Linked s'.memory 24 n v.queue) (sym queued)
          (linked_same s.memory s'.memory 24 s.queued v.queue (link_kept c v after s s'.memory x 24 at r (omega arith) v.queue h.queue_part.inside (λ _. link_same_)) h.queue_linked);
    }
