-- An object's block is given back.
use Rattle.std.proofs.Common.{◌≡◌, ℕ, suc, ◌+◌, ◌-◌, ◌*◌, ◌/◌, ◌%◌, ◌<◌, ◌≤◌, ◌^◌, cond, not, List, [], ◌∷◌, length, map, refl, sym, ap, subst, ◌∙◌, inl, inr, arith}
use Rattle.std.specs.Prelude.{Contains}
use Rattle.std.proofs.lemmas.Bool.{cases_eq, eq-eqb, ne_eqb}
use Rattle.gc_memory.specs.Words.{word}
use Rattle.gc_memory.specs.Lists.{In, here, there, occ}
use Rattle.gc_memory.proofs.ListLemmas.{In-occ, occ-In, occ-same}
use Rattle.gc_free.specs.declared.run.Run.{Run}
use Rattle.gc_free.specs.Runs.{run, without, begins_at, IsSpread}
use Rattle.gc_free.specs.Space.{Space, IsSound, give, places_end}
use Rattle.gc_view.specs.Pages.{page}
use Rattle.gc_drc.specs.declared.space.CountedSpace.{CountedSpace}
use Rattle.gc_drc.specs.Layout.{counting_size_at, block_of}
use Rattle.gc_drc.specs.View.{View, HoldsBlocks, ShowsObject, IsPart, Linked, block_at, count_of, flags_of}
use Rattle.gc_drc.specs.SpaceLaws.{lies, blocks_apart}
use Rattle.gc_drc.specs.PlaceLaws.{spread-not_behind}
use Rattle.gc_drc.specs.CollectOps.{same, without_one, unqueued, freed}
use Rattle.gc_drc.specs.CollectMemory.{Context, Intact, At, CanRelease, CanFreeQueued, ReleasesBlock}
use Rattle.gc_drc.proofs.LinkLemmas.{linked_rest, without_first}
use Rattle.gc_drc.proofs.MarkLemmas.{part_without}
use Rattle.gc_drc.proofs.OccLemmas.{same-is, same-not, occ-without, occ-cases, sum_over-without}

-- the block of an object that is given back
abbrev pub block_in : List ℕ → ℕ → Run
block_in m x = run x (block_of (counting_size_at m x))

-- blocks of which none begins there
none_begins : (sizes : ℕ → ℕ) (x : ℕ) (ps : List ℕ) → occ x ps ≡ 0 → without (begins_at x) (map (block_at sizes) ps) ≡ map (block_at sizes) ps
none_begins sizes x [] none = refl
none_begins sizes x (p ∷ ps) none = elim (cases_eq p x) [
  | inl e ↦ absurd (let one : same x p ≡ 1 = same-is x p (sym e) in omega arith)
  | inr ne ↦
      ap (λ b. cond (not b) (block_at sizes p ∷ without (begins_at x) (map (block_at sizes) ps)) (without (begins_at x) (map (block_at sizes) ps))) (ne_eqb p x ne)
      ∙ ap (λ rs. block_at sizes p ∷ rs) (none_begins sizes x ps (omega arith))
]

pub blocks_without : (sizes : ℕ → ℕ) (x : ℕ) (ps : List ℕ) → occ x ps ≤ 1 → without (begins_at x) (map (block_at sizes) ps) ≡ map (block_at sizes) (without_one x ps)
blocks_without sizes x [] once = refl
blocks_without sizes x (p ∷ ps) once = elim (cases_eq p x) [
  | inl e ↦
      ap (λ b. cond (not b) (block_at sizes p ∷ without (begins_at x) (map (block_at sizes) ps)) (without (begins_at x) (map (block_at sizes) ps))) (eq-eqb p x e)
      ∙ none_begins sizes x ps (let one : same x p ≡ 1 = same-is x p (sym e) in omega arith)
      ∙ sym (ap (λ b. map (block_at sizes) (cond b ps (p ∷ without_one x ps))) (eq-eqb x p (sym e)))
  | inr ne ↦
      ap (λ b. cond (not b) (block_at sizes p ∷ without (begins_at x) (map (block_at sizes) ps)) (without (begins_at x) (map (block_at sizes) ps))) (ne_eqb p x ne)
      ∙ ap (λ rs. block_at sizes p ∷ rs) (blocks_without sizes x ps (omega arith))
      ∙ sym (ap (λ b. map (block_at sizes) (cond b ps (p ∷ without_one x ps))) (ne_eqb x p (λ e. ne (sym e))))
]

pub length_without : (x : ℕ) (xs : List ℕ) → 0 < occ x xs → length (without_one x xs) + 1 ≡ length xs
length_without x [] h = absurd (omega arith)
length_without x (y ∷ ys) h = elim (cases_eq x y) [
  | inl e ↦ let first : length (without_one x (y ∷ ys)) ≡ length ys = ap (λ b. length (cond b ys (y ∷ without_one x ys))) (eq-eqb x y e) in omega arith
  | inr ne ↦
      let first : length (without_one x (y ∷ ys)) ≡ length (y ∷ without_one x ys) = ap (λ b. length (cond b ys (y ∷ without_one x ys))) (ne_eqb x y ne) in
      let rest = length_without x ys (let other : same x y ≡ 0 = same-not x y ne in omega arith) in
      omega arith
]

-- each place of a view stands once
pub places_once : (v : View) (s : CountedSpace) → HoldsBlocks v s → (x : ℕ) → occ x v.places ≤ 1
places_once v s h x = once 16 v.places (blocks_apart v s h)
  where
    once : (low : ℕ) (ps : List ℕ) → IsSpread low (places_end s.free.space.capacity) (map (block_at v.sizes) ps) → occ x ps ≤ 1
    once low [] up = omega arith
    once low (p ∷ ps) up = elim (cases_eq x p) [
      | inl e ↦
          let none : occ x ps ≡ 0 = elim (occ-cases x ps) [
            | inl z ↦ z
            | inr some ↦ absurd (spread-not_behind v.sizes low (places_end s.free.space.capacity) p ps up (subst (λ (q : ℕ). In q ps) e (occ-In x ps some)))
          ] in
          let one : same x p ≡ 1 = same-is x p e in
          omega arith
      | inr ne ↦
          let other : same x p ≡ 0 = same-not x p ne in
          let rest = once (p + block_of (v.sizes p)) ps up.3 in
          omega arith
    ]

-- a part of the places without one that it hasn't
part_freed : (places list : List ℕ) (x : ℕ) → IsPart places list → 0 < occ x places → occ x list ≡ 0 → IsPart (without_one x places) list
part_freed places list x part held none = record {
  inside = λ p i. occ-In p (without_one x places) (
      let w = occ-without x p places held in
      let some = In-occ p list i in
      let held_p = In-occ p places (part.inside p i) in
      elim (cases_eq p x) [
        | inl e ↦ absurd (let at : occ p list ≡ occ x list = ap (λ n. occ n list) e in omega arith)
        | inr ne ↦ let other : same p x ≡ 0 = same-not p x ne in omega arith
      ]);
  once = part.once;
}

-- what is shown of an object with another queue that has it as often
shows_as : (v : View) (m : List ℕ) (p : ℕ) (queue : List ℕ) → occ p queue ≡ occ p v.queue → ShowsObject m p (v.sizes p) (count_of v p) (flags_of v p)
    → ShowsObject m p (v.sizes p) (count_of (record v { queue = queue }) p) (flags_of (record v { queue = queue }) p)
shows_as v m p queue e o =
    let count : count_of v p ≡ count_of (record v { queue = queue }) p = omega arith in
    let flags : flags_of v p ≡ flags_of (record v { queue = queue }) p = omega arith in
    let positive = o.positive in
    record { whole = o.whole; size_is = o.size_is; count_is = o.count_is ∙ count; positive = omega arith; flags_are = o.flags_are ∙ flags }

-- an object is freed that is on no list afterwards
pub at_released : (c : Context) (v : View) (s s' : CountedSpace) (x : ℕ) (queue : List ℕ) → At c v s → In x v.places → s'.memory ≡ s.memory
    → s'.free.space ≡ give (block_in s.memory x) s.free.space → IsSound s'.free.space → s'.objects + 1 ≡ s.objects → s'.allocated + block_of (counting_size_at s.memory x) ≡ s.allocated
    → s'.shown ≡ s.shown → occ x v.shown ≡ 0 → occ x v.marked ≡ 0 → occ x queue ≡ 0 → ((p : ℕ) → (p ≡ x → ⊥) → occ p queue ≡ occ p v.queue)
    → IsPart v.places queue → Linked s'.memory 24 s'.queued queue → At c (freed (record v { queue = queue }) x) s'
at_released c v s s' x queue at i memory space sound objects allocated shown not_shown not_marked not_queued same_queue part linked =
    let h = at.holds in
    let held = In-occ x v.places i in
    let size : counting_size_at s.memory x ≡ v.sizes x = (h.objects x i).size_is in
    let block : block_of (counting_size_at s.memory x) ≡ block_of (v.sizes x) = ap block_of size in
    let len = length_without x v.places held in
    let sum = sum_over-without (λ p. block_of (v.sizes p)) x v.places held in
    let count = h.count in
    let total = h.allocated in
    let bound = h.bound in
    let length_is : length s'.memory ≡ length s.memory = ap (λ (m : List ℕ). length m) memory in
    let inside_freed = λ (p : ℕ) (j : In p (without_one x v.places)).
    occ-In p v.places (let w = occ-without x p v.places held in let some = In-occ p (without_one x v.places) j in omega arith) in
    let differs = λ (p : ℕ) (j : In p (without_one x v.places)) (e : p ≡ x).
    (let w = occ-without x p v.places held in
    let some = In-occ p (without_one x v.places) j in
    let one : same p x ≡ 1 = same-is p x e in
    let once = places_once v s h p in
    absurd {A = ⊥} (omega arith)) in
    record {
      start = at.start;
      holds = record {
        pages = ap (λ n. n % page) length_is ∙ h.pages;
        bound = omega arith;
        capacity = ap (λ (z : Space). z.capacity) space ∙ h.capacity ∙ sym length_is;
        sound = sound;
        blocks = ap (λ (z : Space). z.held) space ∙ ap (λ rs. without (begins_at x) rs) h.blocks ∙ blocks_without v.sizes x v.places (places_once v s h x);
        objects = λ p j. subst (λ (m : List ℕ). ShowsObject m p (v.sizes p) (count_of (record v { queue = queue }) p) (flags_of (record v { queue = queue }) p)) (sym memory)
            (shows_as v s.memory p queue (same_queue p (differs p j)) (h.objects p (inside_freed p j)));
        shown_part = part_freed v.places v.shown x h.shown_part held not_shown;
        queue_part = part_freed v.places queue x part held not_queued;
        marked_part = part_freed v.places v.marked x h.marked_part held not_marked;
        shown_linked = subst (λ (n : ℕ). Linked s'.memory 16 n v.shown) (sym shown) (subst (λ (m : List ℕ). Linked m 16 s.shown v.shown) (sym memory) h.shown_linked);
        queue_linked = linked;
        count = omega arith;
        allocated = omega arith;
      };
      intact = subst (λ (m : List ℕ). Intact c m) (sym memory) at.intact;
      from = λ p j. at.from p (inside_freed p j);
    }

-- what is needed to give a block back
pub record Releasable (s : CountedSpace) (x : ℕ) : Type 0 where
  pub room : x + 28 ≤ length s.memory
  pub not_null : 0 < x
  pub whole : x + block_of (counting_size_at s.memory x) < 2 ^ 32
  pub rounds : counting_size_at s.memory x + 15 < 2 ^ 32
  pub held : Contains s.free.space.held (block_in s.memory x)
  pub some : 0 < s.objects
  pub enough : block_of (counting_size_at s.memory x) ≤ s.allocated

pub releasable : (s : CountedSpace) (x : ℕ) → CanRelease s x → Releasable s x
releasable s x can =
    let v = can.view in
    let h = can.at.holds in
    let l = lies v s x h can.held in
    let size : counting_size_at s.memory x ≡ v.sizes x = (h.objects x can.held).size_is in
    let block : block_of (counting_size_at s.memory x) ≡ block_of (v.sizes x) = ap block_of size in
    let sum = sum_over-without (λ p. block_of (v.sizes p)) x v.places (In-occ x v.places can.held) in
    let len = length_without x v.places (In-occ x v.places can.held) in
    let count = h.count in
    let total = h.allocated in
    let inside = l.block in
    let fits = l.fits in
    let not_null = l.not_null in
    let least = l.least in
    let whole = l.inside in
    record {
      room = omega arith;
      not_null = omega arith;
      whole = omega arith;
      rounds = omega arith;
      held = subst (λ rs. Contains rs (block_in s.memory x)) (sym h.blocks) (subst (λ (r : Run). Contains (map (block_at v.sizes) v.places) r) (ap (λ (n : ℕ). run x n) (sym block)) (block_held v.sizes x v.places can.held));
      some = omega arith;
      enough = omega arith;
    }
  where
    block_held : (sizes : ℕ → ℕ) (y : ℕ) (ps : List ℕ) → In y ps → Contains (map (block_at sizes) ps) (block_at sizes y)
    block_held sizes y [] i = elim i [ ]
    block_held sizes _ (y ∷ ps) here = (0, omega arith, refl)
    block_held sizes y (p ∷ ps) (there i) = let r = block_held sizes y ps i in (suc r.0, omega (arith, r.1), r.2)

-- what was taken off the free list
pub releases : (s s' : CountedSpace) (x size : ℕ) → CanRelease s x → size ≡ counting_size_at s.memory x → s'.memory ≡ s.memory
    → s'.free.space ≡ give (run x ((size + 15) / 16 * 16)) s.free.space → IsSound s'.free.space → s'.objects ≡ s.objects - 1
    → s'.allocated ≡ s.allocated - (size + 15) / 16 * 16 → s'.shown ≡ s.shown → s'.queued ≡ s.queued → ReleasesBlock s s' x
releases s s' x size can read memory space sound objects allocated shown queued =
    let r = releasable s x can in
    let block : (size + 15) / 16 * 16 ≡ block_of (counting_size_at s.memory x) = ap block_of read in
    let some = r.some in
    let enough = r.enough in
    record {
      memory = memory;
      space = space ∙ ap (λ (n : ℕ). give (run x n) s.free.space) block;
      sound = sound;
      objects = omega arith;
      allocated = omega arith;
      shown = shown;
      queued = queued;
    }

-- an object that is on no list is freed
pub freed_at : (c : Context) (v : View) (s s' : CountedSpace) (x : ℕ) → ReleasesBlock s s' x → At c v s → In x v.places → occ x v.shown ≡ 0 → occ x v.queue ≡ 0 → occ x v.marked ≡ 0
    → At c (freed v x) s'
freed_at c v s s' x r at i not_shown not_queued not_marked =
    let h = at.holds in
    at_released c v s s' x v.queue at i r.memory r.space r.sound r.objects r.allocated r.shown not_shown not_marked not_queued (λ p ne. refl) h.queue_part
    (subst (λ (n : ℕ). Linked s'.memory 24 n v.queue) (sym r.queued) (subst (λ (m : List ℕ). Linked m 24 s.queued v.queue) (sym r.memory) h.queue_linked))

-- the first of the queue is freed
pub freed_first : (c : Context) (v : View) (s s1 : CountedSpace) (x q : ℕ) (rest : List ℕ) → ReleasesBlock s s1 x → q ≡ word s1.memory (x + 24) → At c v s → v.queue ≡ x ∷ rest
    → count_of v x ≡ 1 → occ x v.marked ≡ 0 → At c (freed (unqueued v x) x) (record s1 { queued = q })
freed_first c v s s1 x q rest r read at is alone not_marked =
    let h = at.holds in
    let times : occ x v.queue ≡ occ x (x ∷ rest) = ap (λ (xs : List ℕ). occ x xs) is in
    let one = occ-same x rest in
    let queued : 0 < occ x v.queue = omega arith in
    let i = h.queue_part.inside x (occ-In x v.queue queued) in
    let w = occ-without x x v.queue queued in
    let itself : same x x ≡ 1 = same-is x x refl in
    let once = h.queue_part.once x in
    let alone_is : v.counted x + occ x v.shown + occ x v.queue ≡ 1 = alone in
    let without_is : without_one x v.queue ≡ rest = ap (without_one x) is ∙ without_first x rest in
    let linked : Linked s.memory 24 s.queued (x ∷ rest) = subst (λ (xs : List ℕ). Linked s.memory 24 s.queued xs) is h.queue_linked in
    let behind : Linked s.memory 24 (word s.memory (x + 24)) rest = (linked_rest s.memory 24 s.queued x rest linked).2 in
    let next : word s.memory (x + 24) ≡ q = ap (λ (m : List ℕ). word m (x + 24)) (sym r.memory) ∙ sym read in
    let now : Linked s1.memory 24 q (without_one x v.queue) =
    subst (λ (xs : List ℕ). Linked s1.memory 24 q xs) (sym without_is)
    (subst (λ (m : List ℕ). Linked m 24 q rest) (sym r.memory) (subst (λ (n : ℕ). Linked s.memory 24 n rest) next behind)) in
    at_released c v s (record s1 { queued = q }) x (without_one x v.queue) at i r.memory r.space r.sound r.objects r.allocated r.shown (omega arith) not_marked (omega arith)
    (λ p ne. let wp = occ-without x p v.queue queued in let other : same p x ≡ 0 = same-not p x ne in omega arith)
    (part_without v.places v.queue x h.queue_part queued) now

-- the first of a queue is held
pub can_release_queued : (s : CountedSpace) (x : ℕ) → CanFreeQueued s x → CanRelease s x
can_release_queued s x can = record {
  context = can.context;
  view = can.view;
  at = can.at;
  held = can.at.holds.queue_part.inside x (occ-In x can.view.queue can.queued);
}

pub room_released : (s s1 : CountedSpace) (x : ℕ) → CanFreeQueued s x → ReleasesBlock s s1 x → x + 28 ≤ length s1.memory
room_released s s1 x can r =
    let room = (releasable s x (can_release_queued s x can)).room in
    let same_length : length s1.memory ≡ length s.memory = ap (λ (m : List ℕ). length m) r.memory in
    omega arith

-- the block that is given back, by what was read
pub release_held : (s : CountedSpace) (x size i : ℕ) → CanRelease s x → size ≡ counting_size_at s.memory x → i ≡ x → Contains s.free.space.held (run i ((size + 15) / 16 * 16))
release_held s x size i can read e =
    let block : block_of (counting_size_at s.memory x) ≡ (size + 15) / 16 * 16 = sym (ap block_of read) in
    subst (λ (j : ℕ). Contains s.free.space.held (run j ((size + 15) / 16 * 16))) (sym e)
    (subst (λ (n : ℕ). Contains s.free.space.held (run x n)) block (releasable s x can).held)
