-- What giving an object back leaves of a space.
use Rattle.std.proofs.Common.{◌≡◌, ℕ, ◌+◌, ◌-◌, ◌<◌, ◌≤◌, ◌^◌, true, false, cond, List, [], ◌∷◌, length, map, None, refl, sym, ap, subst, ◌∙◌, inl, inr, arith, filter}
use Rattle.std.proofs.Math.Logic.{◌⊎◌}
use Rattle.std.specs.Prelude.{nat_eq, not, suc, Contains}
use Rattle.std.specs.Cmp.{unsigned_tied, nat_cmp_total}
use Rattle.std.specs.FinMap as finite
use Rattle.std.specs.FinSet as finset
use Rattle.std.proofs.lemmas.Bool.{cases_eq, ne_eqb, eq-eqb}
use Rattle.gc_types.specs.declared.kind.Layouts.TheVariants.{Counting}
use Rattle.gc_types.specs.declared.kind.VMGcKind.{VMGcKind}
use Rattle.gc_memory.specs.Lists.{In, here, there, occ, sum_over}
use Rattle.gc_memory.proofs.ListLemmas.{In-occ, occ-none}
use Rattle.gc_view.specs.Heaps.{Counts}
use Rattle.gc_free.specs.Runs.{run, IsSpread, without, begins_at}
use Rattle.gc_free.specs.Space.{Space, IsSound, places_end, give}
use Rattle.gc_heap.specs.Content.{block_size}
use Rattle.gc_heap.specs.Objects.{held_size}
use Rattle.gc_heap.specs.Heap.{CanGiveBack}
use Rattle.gc_drc.specs.declared.space.CountedSpace.{CountedSpace}
use Rattle.gc_drc.specs.Layout.{counting_size_at, block_of, counting_object_at}
use Rattle.gc_drc.specs.View.{View, block_at, HoldsBlocks, IsPart}
use Rattle.gc_drc.specs.Content.{at_places, places_of, counts_at, counting_seen_in, IsSoundSpace}
use Rattle.gc_drc.proofs.CountsSeen.{counts_of}
use Rattle.gc_drc.specs.PlaceLaws.{in_or_not, get_in, get_none, found_in, spread-not_behind, in_filter}
use Rattle.gc_drc.proofs.PlaceLemmas.{filter_in, contains_in}
use Rattle.gc_drc.specs.SpaceLaws.{lies, blocks_apart, places_are, held_size-in}
use Rattle.gc_drc.proofs.CountsSeen.{counts_are}
use Rattle.gc_drc.specs.Giving.{IsUnlisted, GivesBack}
use Rattle.gc_drc.proofs.SeenLemmas.{same_view}

-- the others than a place
abbrev pub without_place : ℕ → List ℕ → List ℕ
without_place x ps = filter (λ (y : ℕ). not (nat_eq y x)) ps

-- PLACES

true_false : true ≡ false → ⊥
true_false e = cc

pub without_none : (x : ℕ) (ps : List ℕ) → (In x ps → ⊥) → without_place x ps ≡ ps
without_none x [] none = refl
without_none x (p ∷ ps) none =
    ap (λ b. cond (not b) (p ∷ without_place x ps) (without_place x ps)) (ne_eqb p x (λ e. none (subst (λ k. In k (p ∷ ps)) e here)))
    ∙ ap (λ qs. p ∷ qs) (without_none x ps (λ i. none (there i)))

blocks_without : (sizes : ℕ → ℕ) (x : ℕ) (ps : List ℕ) → without (begins_at x) (map (block_at sizes) ps) ≡ map (block_at sizes) (without_place x ps)
blocks_without sizes x [] = refl
blocks_without sizes x (p ∷ ps) =
    let rest = blocks_without sizes x ps in
    elim (nat_eq p x) as (λ b. cond (not b) (block_at sizes p ∷ without (begins_at x) (map (block_at sizes) ps)) (without (begins_at x) (map (block_at sizes) ps)) ≡ map (block_at sizes) (cond (not b) (p ∷ without_place x ps) (without_place x ps))) [
      | true ↦ rest
      | false ↦ ap (λ qs. block_at sizes p ∷ qs) rest
    ]

-- How much the place took.
record Less (f : ℕ → ℕ) (x : ℕ) (ps : List ℕ) : Type 0 where
  pub one : length (without_place x ps) + 1 ≡ length ps
  pub sum : sum_over f (without_place x ps) + f x ≡ sum_over f ps

less : (f sizes : ℕ → ℕ) (x low high : ℕ) (ps : List ℕ) → IsSpread low high (map (block_at sizes) ps) → In x ps → Less f x ps
less f sizes x low high [] up i = elim i [ ]
less f sizes x low high (p ∷ ps) up i = elim (cases_eq p x) [
  | inl e ↦
      let rest : without_place x (p ∷ ps) ≡ ps = ap (λ b. cond (not b) (p ∷ without_place x ps) (without_place x ps)) (eq-eqb p x e)
      ∙ without_none x ps (subst (λ k. In k ps → ⊥) e (spread-not_behind sizes low high p ps up)) in
      let first = ap f e in
      record { one = ap (λ qs. length qs + 1) rest ∙ omega arith; sum = ap (λ qs. sum_over f qs + f x) rest ∙ omega arith }
  | inr ne ↦
      let rest : without_place x (p ∷ ps) ≡ p ∷ without_place x ps = ap (λ b. cond (not b) (p ∷ without_place x ps) (without_place x ps)) (ne_eqb p x ne) in
      let later = less f sizes x (p + block_of (sizes p)) high ps up.3 (behind i ne) in
      let one = later.one in
      let sum = later.sum in
      record { one = ap (λ qs. length qs + 1) rest ∙ omega arith; sum = ap (λ qs. sum_over f qs + f x) rest ∙ omega arith }
]
  where
    by_cases : (q : ℕ) → In q (p ∷ ps) → (q ≡ p) ⊎ In q ps
    by_cases _ here = inl refl
    by_cases q (there j) = inr j

    behind : In x (p ∷ ps) → (p ≡ x → ⊥) → In x ps
    behind j ne = elim (by_cases x j) [ inl e ↦ absurd (ne (sym e)) | inr k ↦ k ]

in_without : (x q : ℕ) (ps : List ℕ) → In q ps → (q ≡ x → ⊥) → In q (without_place x ps)
in_without x q ps i ne = filter_in (λ (y : ℕ). not (nat_eq y x)) q ps i (ap not (ne_eqb q x ne))

without_in : (x q : ℕ) (ps : List ℕ) → In q (without_place x ps) → In q ps × (q ≡ x → ⊥)
without_in x q ps i =
    let r = in_filter (λ (y : ℕ). not (nat_eq y x)) q ps i in
    (r.0, λ e. true_false (sym r.1 ∙ ap not (eq-eqb q x e)))

-- a map with one place less
at_places-without : {X : Type 0} (f : ℕ → X) (x : ℕ) (ps : List ℕ) → at_places f (without_place x ps) ≡ finite.remove (at_places f ps) x
at_places-without {X} f x ps = finite.same_map nat_cmp_total finite.nat_cmp-IsAntisymmetric _ _ each
  where
    removed : (q : ℕ) → finite.get (finite.remove (at_places f ps) x) q ≡ cond (nat_eq q x) None (finite.get (at_places f ps) q)
    removed q = finite.get-remove nat_cmp_total (at_places f ps) x q ∙ ap (λ b. cond b None (finite.get (at_places f ps) q)) (unsigned_tied q x)

    each : (q : ℕ) → finite.get (at_places f (without_place x ps)) q ≡ finite.get (finite.remove (at_places f ps) x) q
    each q = elim (cases_eq q x) [
      | inl e ↦ get_none f q (without_place x ps) (λ i. (without_in x q ps i).1 e) ∙ sym (removed q ∙ ap (λ b. cond b None (finite.get (at_places f ps) q)) (eq-eqb q x e))
      | inr ne ↦ elim (in_or_not q ps) [
        | inl j ↦ get_in f q (without_place x ps) (in_without x q ps j ne) ∙ sym (removed q ∙ ap (λ b. cond b None (finite.get (at_places f ps) q)) (ne_eqb q x ne) ∙ get_in f q ps j)
        | inr none ↦ get_none f q (without_place x ps) (λ i. none (without_in x q ps i).0) ∙ sym (removed q ∙ ap (λ b. cond b None (finite.get (at_places f ps) q)) (ne_eqb q x ne) ∙ get_none f q ps none)
      ]
    ]

-- SPACES

-- What lets the block of an object be given back.
pub record Block (s : CountedSpace) (x : ℕ) : Type 0 where
  pub room : x + 28 ≤ length s.memory
  pub not_null : 0 < x
  pub fits : block_of (counting_size_at s.memory x) < 2 ^ 32
  pub held : Contains s.free.space.held (run x (block_of (counting_size_at s.memory x)))
  pub some : 0 < s.objects
  pub enough : block_of (counting_size_at s.memory x) ≤ s.allocated

pub block_at_place : (s : CountedSpace) (x : ℕ) → IsUnlisted s x → Block s x
block_at_place s x can =
    let v = can.view in
    let h = can.holds in
    let l = lies v s x h can.place in
    let size = (h.objects x can.place).size_is in
    let block : block_of (counting_size_at s.memory x) ≡ block_of (v.sizes x) = ap block_of size in
    let gone = less (λ p. block_of (v.sizes p)) v.sizes x 16 (places_end s.free.space.capacity) v.places (blocks_apart v s h) can.place in
    let one = gone.one in
    let sum = gone.sum in
    let count = h.count in
    let allocated = h.allocated in
    let least = l.least in
    let inside = l.inside in
    let whole = l.block in
    let fits = l.fits in
    let from = l.not_null in
    record {
      room = omega arith;
      not_null = omega arith;
      fits = omega arith;
      held = subst (λ n. Contains s.free.space.held (run x n)) (sym block) (subst (λ bs. Contains bs (block_at v.sizes x)) (sym h.blocks) (block_held v.sizes x v.places can.place));
      some = omega arith;
      enough = omega arith;
    }
  where
    block_held : (sizes : ℕ → ℕ) (y : ℕ) (ps : List ℕ) → In y ps → Contains (map (block_at sizes) ps) (block_at sizes y)
    block_held sizes y [] i = elim i [ ]
    block_held sizes _ (y ∷ ps) here = (0, omega arith, refl)
    block_held sizes y (p ∷ ps) (there i) = let r = block_held sizes y ps i in (suc r.0, omega (arith, r.1), r.2)

part_less : (places list : List ℕ) (x : ℕ) → IsPart places list → occ x list ≡ 0 → IsPart (without_place x places) list
part_less places list x part none = record {
  inside = λ p i. in_without x p places (part.inside p i) (λ e. let some = In-occ x list (subst (λ k. In k list) e i) in omega arith);
  once = part.once;
}

pub gives : (s t : CountedSpace) (x : ℕ) → IsUnlisted s x → t ≡ record s { free = t.free; objects = s.objects - 1; allocated = s.allocated - block_of (counting_size_at s.memory x) }
    → t.free.space ≡ give (run x (block_of (counting_size_at s.memory x))) s.free.space → IsSound t.free.space → GivesBack s t x
gives s t x can is given sound =
    let v = can.view in
    let h = can.holds in
    let block = block_at_place s x can in
    let size = (h.objects x can.place).size_is in
    let sized : block_of (counting_size_at s.memory x) ≡ block_of (v.sizes x) = ap block_of size in
    let gone = less (λ p. block_of (v.sizes p)) v.sizes x 16 (places_end s.free.space.capacity) v.places (blocks_apart v s h) can.place in
    let one = gone.one in
    let sum = gone.sum in
    let count = h.count in
    let allocated = h.allocated in
    let u : CountedSpace = record s { free = t.free; objects = s.objects - 1; allocated = s.allocated - block_of (counting_size_at s.memory x) } in
    let w : View = record v { places = without_place x v.places } in
    let after : HoldsBlocks w u = record {
      pages = h.pages;
      bound = h.bound;
      capacity = ap (λ (f : Space). f.capacity) given ∙ h.capacity;
      sound = sound;
      blocks = ap (λ (f : Space). f.held) given ∙ ap (without (begins_at x)) h.blocks ∙ blocks_without v.sizes x v.places;
      objects = λ p i. h.objects p (without_in x p v.places i).0;
      shown_part = part_less v.places v.shown x h.shown_part can.not_shown;
      queue_part = part_less v.places v.queue x h.queue_part can.not_queued;
      marked_part = part_less v.places v.marked x h.marked_part (ap (occ x) can.unmarked);
      shown_linked = h.shown_linked;
      queue_linked = h.queue_linked;
      count = omega arith;
      allocated = omega arith;
    } in
    let content : at_places (counting_object_at s.memory) (places_of t.free.space.held) ≡ finite.remove (at_places (counting_object_at s.memory) (places_of s.free.space.held)) x =
    ap (at_places (counting_object_at s.memory)) (places_are w u after) ∙ at_places-without (counting_object_at s.memory) x v.places
    ∙ ap (λ ps. finite.remove (at_places (counting_object_at s.memory) ps) x) (sym (places_are v s h)) in
    let counts : counts_at s.memory (places_of t.free.space.held) ≡ record (counts_at s.memory (places_of s.free.space.held)) { counted = finite.remove (counts_at s.memory (places_of s.free.space.held)).counted x } =
    counts_are w u after
    ∙ ap (λ m. record (counts_of v) { counted = m }) (at_places-without v.counted x v.places)
    ∙ ap (λ (c : Counts). record c { counted = finite.remove c.counted x }) (sym (counts_are v s h)) in
    subst (λ y. GivesBack s y x) (sym is) (record {
      sound = record { view = w; holds = after; unmarked = can.unmarked };
      seen = λ scopes o e.
          let f = found_in (counting_object_at s.memory) x o (places_of s.free.space.held) e in
          let bytes : block_size Counting o ≡ block_of (counting_size_at s.memory x) = ap block_of (ap (held_size Counting) f.1 ∙ held_size-in v s x h can.place ∙ sym size) in
          same_view _ _ refl content refl (ap (λ n. s.allocated - n) (sym bytes)) refl refl counts;
    })

-- an object that may be given back is on no list
pub can_give : (s : CountedSpace) (scopes x : ℕ) {K : VMGcKind → Type 0} → IsSoundSpace s → CanGiveBack (counting_seen_in scopes s) x K → IsUnlisted s x
can_give s scopes x sound can =
    let v = sound.view in
    let h = sound.holds in
    let are = counts_are v s h in
    record {
      view = v;
      holds = h;
      unmarked = sound.unmarked;
      place = subst (In x) (places_are v s h) (found_in (counting_object_at s.memory) x can.object (places_of s.free.space.held) can.held).0;
      not_shown = occ-none x v.shown (λ i. true_false (sym (contains_in x v.shown i) ∙ ap (λ (c : Counts). finset.contains c.shown x) (sym are) ∙ can.not_shown));
      not_queued = occ-none x v.queue (λ i. true_false (sym (contains_in x v.queue i) ∙ ap (λ (c : Counts). finset.contains c.queued x) (sym are) ∙ can.not_queued));
    }
