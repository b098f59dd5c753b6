-- What an allocation makes of a space.
use Rattle.std.proofs.Common.{◌≡◌, ℕ, ◌+◌, ◌-◌, ◌*◌, ◌%◌, ◌<◌, ◌≤◌, cond, List, [], ◌∷◌, ◌++◌, length, map, Some, None, refl, sym, ap, subst, ◌∙◌, inl, inr, arith}
use Rattle.std.proofs.Math.Logic.{◌⊎◌}
use Rattle.std.specs.Prelude.{nat_eq, All, suc}
use Rattle.std.specs.FinMap as finite
use Rattle.std.proofs.lemmas.Bool.{cases_eq, cases_lt, ne_eqb, eq-eqb}
use borrow.Author.Tests.{lt-ltb}
use Rattle.gc_types.specs.declared.kind.Layouts.TheVariants.{Counting}
use Rattle.gc_memory.specs.Changes.{Wrote}
use Rattle.gc_memory.specs.Lists.{In, here, there, occ, sum_over}
use Rattle.gc_memory.proofs.ListLemmas.{occ-none, sum_over-same}
use Rattle.gc_memory.proofs.ChangeLemmas.{Wrote-apart}
use Rattle.gc_memory.proofs.WordLemmas.{word_in_same, word64_in_same}
use Rattle.gc_view.specs.Bytes.{SameBytes}
use Rattle.gc_view.proofs.ByteLemmas.{SameBytes-part}
use Rattle.gc_view.specs.Heaps.{HeapObject, Counts}
use Rattle.gc_free.specs.declared.run.Run.{Run}
use Rattle.gc_free.specs.Runs.{run, insert_run, IsSpread, gap, gaps}
use Rattle.gc_free.specs.Space.{places_end, AllAligned}
use Rattle.gc_types.specs.Layouts.{round_up}
use Rattle.gc_view.specs.Sizes.{alignment}
use Rattle.gc_heap.specs.Content.{block_size}
use Rattle.gc_heap.specs.Objects.{held_size}
use Rattle.gc_heap.specs.Heap.{AddsObject, HasRoom, IsFree, EndsAt, IsTooLarge}
use Rattle.gc_view.specs.Pages.{page}
use Rattle.gc_drc.specs.declared.space.CountedSpace.{CountedSpace}
use Rattle.gc_drc.specs.Layout.{count_at, flags_at, block_of, counting_object_at}
use Rattle.gc_drc.specs.View.{View, block_at, HoldsBlocks, ShowsObject, IsPart, Linked}
use Rattle.gc_drc.specs.Content.{at_places, places_of, counts_at, counting_seen_in, IsSoundSpace}
use Rattle.gc_drc.specs.PlaceLaws.{found_in, get_in, get_none, spread-lies, spread-apart, spread-total}
use Rattle.gc_drc.proofs.PlaceLemmas.{spread-length}
use Rattle.gc_drc.specs.SpaceLaws.{lies, aligned_at, blocks_apart, places_are, held_size-in}
use Rattle.gc_drc.proofs.CountsSeen.{counts_are}
use Rattle.gc_drc.specs.Placing.{placed_space, TakesBlock, KeepsBlocks, LacksFreeRun, CanPlaceAt}
use Rattle.gc_drc.proofs.NewObjects.{insert_place, with_place, PutsObject}
use Rattle.gc_drc.proofs.TendLemmas.{SameObject, object_in_same, linked_in_same}
use Rattle.gc_drc.proofs.SeenLemmas.{same_view}
use Rattle.gc_drc.proofs.FrontLemmas.{Begins, taken_begins}
use Rattle.gc_drc.proofs.PlacingLemmas.{In-insert, insert-new, insert-old, sum-insert, length-insert, blocks-insert, fresh_place, at_places-added}

own_size : (v : View) (p size : ℕ) → cond (nat_eq p p) size (v.sizes p) ≡ size
own_size v p size = ap (λ b. cond b size (v.sizes p)) (eq-eqb p p refl)

other_size : (v : View) (p size q : ℕ) → (q ≡ p → ⊥) → cond (nat_eq q p) size (v.sizes q) ≡ v.sizes q
other_size v p size q ne = ap (λ b. cond b size (v.sizes q)) (ne_eqb q p ne)

-- What is known of a place that was taken.
pub record NewPlace (v : View) (s u : CountedSpace) (p size : ℕ) : Type 0 where
  pub none : In p v.places → ⊥
  pub blocks : u.free.space.held ≡ map (block_at (λ y. cond (nat_eq y p) size (v.sizes y))) (insert_place p v.places)
  pub up : IsSpread 16 (places_end s.free.space.capacity) (map (block_at (λ y. cond (nat_eq y p) size (v.sizes y))) (insert_place p v.places))
  pub aligned : p % 16 ≡ 0
  pub not_null : 16 ≤ p
  pub inside : p + block_of size ≤ length s.memory
  pub apart : (q : ℕ) → In q v.places → (q + block_of (v.sizes q) ≤ p) ⊎ (p + block_of size ≤ q)

block_positive : (size : ℕ) → 0 < size → 0 < block_of size
block_positive size l = omega arith

pub new_place : (v : View) (s u : CountedSpace) (p size : ℕ) → HoldsBlocks v s → TakesBlock s u p size → 0 < size → NewPlace v s u p size
new_place v s u p size h taken least =
    let high : ℕ = places_end s.free.space.capacity in
    let held : u.free.space.held ≡ insert_run (run p (block_of size)) (map (block_at v.sizes) v.places) = taken.held ∙ ap (insert_run (run p (block_of size))) h.blocks in
    let spread : IsSpread 16 high (insert_run (run p (block_of size)) (map (block_at v.sizes) v.places)) =
    subst (λ c. IsSpread 16 (places_end c) (insert_run (run p (block_of size)) (map (block_at v.sizes) v.places))) taken.capacity (subst (IsSpread 16 (places_end u.free.space.capacity)) held taken.sound.blocks) in
    let none : In p v.places → ⊥ = fresh_place v.sizes p (block_of size) 16 high v.places (block_positive size least) spread in
    let blocks : u.free.space.held ≡ map (block_at (λ y. cond (nat_eq y p) size (v.sizes y))) (insert_place p v.places) = held ∙ sym (blocks-insert v.sizes p size v.places none) in
    let up : IsSpread 16 high (map (block_at (λ y. cond (nat_eq y p) size (v.sizes y))) (insert_place p v.places)) = subst (IsSpread 16 high) (sym (blocks-insert v.sizes p size v.places none)) spread in
    let l = spread-lies (λ y. cond (nat_eq y p) size (v.sizes y)) 16 high p (insert_place p v.places) up (insert-new p v.places) in
    let own = own_size v p size in
    let to = l.to in
    let capacity = h.capacity in
    record {
      none = none;
      blocks = blocks;
      up = up;
      aligned = aligned_at (λ y. cond (nat_eq y p) size (v.sizes y)) p (insert_place p v.places) (subst AllAligned blocks taken.sound.aligned) (insert-new p v.places);
      not_null = l.from;
      inside = subst (λ n. p + block_of n ≤ length s.memory) own (omega arith);
      apart = λ q i. sides up q i (cases_lt q p);
    }
  where
    sides : IsSpread 16 (places_end s.free.space.capacity) (map (block_at (λ y. cond (nat_eq y p) size (v.sizes y))) (insert_place p v.places))
        → (q : ℕ) → In q v.places → (q < p) ⊎ (p ≤ q) → (q + block_of (v.sizes q) ≤ p) ⊎ (p + block_of size ≤ q)
    sides up q i (inl before) = inl (subst (λ n. q + block_of n ≤ p) (other_size v p size q (λ e. omega arith))
        (spread-apart (λ y. cond (nat_eq y p) size (v.sizes y)) 16 (places_end s.free.space.capacity) q p (insert_place p v.places) up (insert-old p q v.places i) (insert-new p v.places) before))
    sides up q i (inr not) = elim (cases_lt p q) [
      | inl behind ↦ inr (subst (λ n. p + block_of n ≤ q) (own_size v p size)
          (spread-apart (λ y. cond (nat_eq y p) size (v.sizes y)) 16 (places_end s.free.space.capacity) p q (insert_place p v.places) up (insert-new p v.places) (insert-old p q v.places i) behind))
      | inr same ↦ inr (absurd (let e : q ≡ p = omega arith in fresh (subst (λ k. In k v.places) e i)))
    ]
      where
        fresh : In p v.places → ⊥
        fresh = fresh_place v.sizes p (block_of size) 16 (places_end s.free.space.capacity) v.places (block_positive size least)
            (subst (λ c. IsSpread 16 (places_end c) (insert_run (run p (block_of size)) (map (block_at v.sizes) v.places))) taken.capacity
            (subst (IsSpread 16 (places_end u.free.space.capacity)) (taken.held ∙ ap (insert_run (run p (block_of size))) h.blocks) taken.sound.blocks))

old_bytes : (v : View) (s u : CountedSpace) (m : List ℕ) (p size q : ℕ) → NewPlace v s u p size → Wrote s.memory m p size → In q v.places → SameBytes s.memory m q (q + v.sizes q)
old_bytes v s u m p size q new w i = Wrote-apart w q (q + v.sizes q) (sides (new.apart q i))
  where
    sides : (q + block_of (v.sizes q) ≤ p) ⊎ (p + block_of size ≤ q) → (q + v.sizes q ≤ p) ⊎ (p + size ≤ q)
    sides (inl e) = inl (omega arith)
    sides (inr e) = inr (omega arith)

old_object : (v : View) (s u : CountedSpace) (m : List ℕ) (p size q : ℕ) → HoldsBlocks v s → NewPlace v s u p size → Wrote s.memory m p size → In q v.places → SameObject s.memory m q
old_object v s u m p size q h new w i =
    let o = h.objects q i in
    let l = lies v s q h i in
    let least = l.least in
    let is = o.size_is in
    object_in_same s.memory m q o.whole (omega arith) (subst (λ n. SameBytes s.memory m q (q + n)) (sym o.size_is) (old_bytes v s u m p size q new w i))

old_links : (v : View) (s u : CountedSpace) (m : List ℕ) (p size offset head : ℕ) (list : List ℕ) → HoldsBlocks v s → NewPlace v s u p size → Wrote s.memory m p size → offset ≤ 24
    → IsPart v.places list → Linked s.memory offset head list → Linked m offset head list
old_links v s u m p size offset head list h new w small part linked = linked_in_same s.memory m offset head list linked (λ q i.
    let j = part.inside q i in
    let least = (lies v s q h j).least in
    word_in_same s.memory m (q + offset) (SameBytes-part (old_bytes v s u m p size q new w j) (q + offset) (q + offset + 4) (omega arith) (omega arith)))

wider : (places list : List ℕ) (p : ℕ) → IsPart places list → IsPart (insert_place p places) list
wider places list p part = record { inside = λ q i. insert-old p q places (part.inside q i); once = part.once }

-- the new object is one of the view's
pub placed_holds : (v : View) (s u : CountedSpace) (m : List ℕ) (p size : ℕ) (object : HeapObject) → HoldsBlocks v s → TakesBlock s u p size → 0 < size → PutsObject s.memory m p object size
    → HoldsBlocks (with_place v p size) (placed_space s u m size)
placed_holds v s u m p size object h taken least puts =
    let new = new_place v s u p size h taken least in
    let len : length m ≡ length s.memory = puts.around.same_length in
    let bound = h.bound in
    let capacity = h.capacity in
    let taken_capacity = taken.capacity in
    record {
      pages = ap (λ n. n % page) len ∙ h.pages;
      bound = omega arith;
      capacity = omega arith;
      sound = taken.sound;
      blocks = new.blocks;
      objects = λ q i. elim (cases_eq q p) [
        | inl e ↦ subst (λ k. ShowsObject m k (cond (nat_eq k p) size (v.sizes k)) (cond (nat_eq k p) 1 (v.counted k) + occ k v.shown + occ k v.queue) (occ k v.marked + 2 * occ k v.shown + 4 * occ k v.queue)) (sym e) (own new)
        | inr ne ↦ elim (In-insert p q v.places i) [ inl e ↦ absurd (ne e) | inr j ↦ old new q j ne ]
      ];
      shown_part = wider v.places v.shown p h.shown_part;
      queue_part = wider v.places v.queue p h.queue_part;
      marked_part = wider v.places v.marked p h.marked_part;
      shown_linked = old_links v s u m p size 16 s.shown v.shown h new puts.around (omega arith) h.shown_part h.shown_linked;
      queue_linked = old_links v s u m p size 24 s.queued v.queue h new puts.around (omega arith) h.queue_part h.queue_linked;
      count = ap (λ n. n + 1) h.count ∙ sym (length-insert p v.places);
      allocated = sum new;
    }
  where
    own : NewPlace v s u p size → ShowsObject m p (cond (nat_eq p p) size (v.sizes p)) (cond (nat_eq p p) 1 (v.counted p) + occ p v.shown + occ p v.queue) (occ p v.marked + 2 * occ p v.shown + 4 * occ p v.queue)
    own new =
        let a = occ-none p v.shown (λ i. new.none (h.shown_part.inside p i)) in
        let b = occ-none p v.queue (λ i. new.none (h.queue_part.inside p i)) in
        let c = occ-none p v.marked (λ i. new.none (h.marked_part.inside p i)) in
        let one : cond (nat_eq p p) 1 (v.counted p) ≡ 1 = ap (λ b. cond b 1 (v.counted p)) (eq-eqb p p refl) in
        let count = puts.count_is in
        let flags = puts.flags_are in
        record {
          whole = puts.whole;
          size_is = puts.size_is ∙ sym (own_size v p size);
          count_is = omega arith;
          positive = omega arith;
          flags_are = omega arith;
        }

    old : NewPlace v s u p size → (q : ℕ) → In q v.places → (q ≡ p → ⊥)
        → ShowsObject m q (cond (nat_eq q p) size (v.sizes q)) (cond (nat_eq q p) 1 (v.counted q) + occ q v.shown + occ q v.queue) (occ q v.marked + 2 * occ q v.shown + 4 * occ q v.queue)
    old new q i ne =
        let o = h.objects q i in
        let same = old_object v s u m p size q h new puts.around i in
        let bytes = old_bytes v s u m p size q new puts.around i in
        let least = (lies v s q h i).least in
        let one : cond (nat_eq q p) 1 (v.counted q) ≡ v.counted q = ap (λ b. cond b 1 (v.counted q)) (ne_eqb q p ne) in
        let count : count_at m q ≡ count_at s.memory q = word64_in_same s.memory m (q + 8) (SameBytes-part bytes (q + 8) (q + 8 + 8) (omega arith) (omega arith)) in
        let flags : flags_at m q ≡ flags_at s.memory q = ap (λ n. n % 8) (word_in_same s.memory m q (SameBytes-part bytes q (q + 4) (omega arith) (omega arith))) in
        let was = o.count_is in
        let flags_were = o.flags_are in
        let positive = o.positive in
        record {
          whole = same.whole;
          size_is = same.size ∙ o.size_is ∙ sym (other_size v p size q ne);
          count_is = omega arith;
          positive = omega arith;
          flags_are = omega arith;
        }

    sum : NewPlace v s u p size → s.allocated + block_of size ≡ sum_over (λ y. block_of (cond (nat_eq y p) size (v.sizes y))) (insert_place p v.places)
    sum new =
        let all = sum-insert (λ y. block_of (cond (nat_eq y p) size (v.sizes y))) p v.places in
        let rest = sum_over-same (λ y. block_of (v.sizes y)) (λ y. block_of (cond (nat_eq y p) size (v.sizes y))) v.places
        (λ q i. ap block_of (other_size v p size q (λ e. new.none (subst (λ k. In k v.places) e i)))) in
        let one = ap block_of (own_size v p size) in
        let were = h.allocated in omega arith

-- nothing lies at a place that was taken
free_at : (v : View) (s u : CountedSpace) (p size scopes : ℕ) → HoldsBlocks v s → NewPlace v s u p size → IsFree (counting_seen_in scopes s) p (round_up size alignment)
free_at v s u p size scopes h new =
    record {
      aligned = new.aligned;
      not_null = let from = new.not_null in omega arith;
      inside = new.inside;
      free = λ q o e.
          let f = found_in (counting_object_at s.memory) q o (places_of s.free.space.held) e in
          let i = subst (In q) (places_are v s h) f.0 in
          let size_is : block_size Counting o ≡ block_of (v.sizes q) = ap block_of (ap (held_size Counting) f.1 ∙ held_size-in v s q h i) in
          subst (λ n. (q + n ≤ p) ⊎ (p + block_of size ≤ q)) (sym size_is) (new.apart q i);
    }

-- it is 16, or an object ends there
lies_for : (v : View) (s : CountedSpace) (p scopes : ℕ) → HoldsBlocks v s → Begins v.sizes 16 v.places p → (p ≡ 16) ⊎ EndsAt (counting_seen_in scopes s) p
lies_for v s p scopes h (inl e) = inl e
lies_for v s p scopes h (inr b) = inr (record {
  before = b.0;
  object = counting_object_at s.memory b.0;
  held = get_in (counting_object_at s.memory) b.0 (places_of s.free.space.held) (subst (In b.0) (sym (places_are v s h)) b.1.0);
  ends = ap (λ n. b.0 + block_of n) (held_size-in v s b.0 h b.1.0) ∙ b.1.1;
})

-- What an allocation does to a space.
pub record Makes (s t : CountedSpace) (p size : ℕ) (object : HeapObject) : Type 0 where
  pub sound : IsSoundSpace t
  pub adds_object : (scopes : ℕ) → AddsObject Counting (counting_seen_in scopes s) (counting_seen_in scopes t) p object size

same_counts : (c d : Counts) → c.counted ≡ d.counted → c.shown ≡ d.shown → c.queued ≡ d.queued → c ≡ d
same_counts c d counted shown queued = λ i. record { counted = counted i; shown = shown i; queued = queued i }

pub makes : (s u t : CountedSpace) (m : List ℕ) (p size : ℕ) (object : HeapObject) → IsSoundSpace s → (IsTooLarge Counting size → ⊥) → TakesBlock s u p size → 0 < size → PutsObject s.memory m p object size
    → t ≡ placed_space s u m size → Makes s t p size object
makes s u t m p size object sound small taken least puts is =
    let v = sound.view in
    let h = sound.holds in
    let new = new_place v s u p size h taken least in
    let w = with_place v p size in
    let after = placed_holds v s u m p size object h taken least puts in
    let x = placed_space s u m size in
    let content : at_places (counting_object_at m) (places_of u.free.space.held) ≡ finite.insert (at_places (counting_object_at s.memory) (places_of s.free.space.held)) p object =
    ap (λ ps. at_places (counting_object_at m) ps) (places_are w x after)
    ∙ at_places-added (counting_object_at s.memory) (counting_object_at m) p object v.places puts.object_is (λ q i. (old_object v s u m p size q h new puts.around i).object)
    ∙ ap (λ ps. finite.insert (at_places (counting_object_at s.memory) ps) p object) (sym (places_are v s h)) in
    let counts : counts_at m (places_of u.free.space.held) ≡ record (counts_at s.memory (places_of s.free.space.held)) { counted = finite.insert (counts_at s.memory (places_of s.free.space.held)).counted p 1 } =
    counts_are w x after
    ∙ same_counts _ _ (at_places-added v.counted (λ y. cond (nat_eq y p) 1 (v.counted y)) p 1 v.places (ap (λ b. cond b 1 (v.counted p)) (eq-eqb p p refl))
    (λ q i. ap (λ b. cond b 1 (v.counted q)) (ne_eqb q p (λ e. new.none (subst (λ k. In k v.places) e i))))) refl refl
    ∙ ap (λ (c : Counts). record c { counted = finite.insert c.counted p 1 }) (sym (counts_are v s h)) in
    let fresh : finite.get (at_places (counting_object_at s.memory) (places_of s.free.space.held)) p ≡ None = get_none (counting_object_at s.memory) p (places_of s.free.space.held) (λ i. new.none (subst (In p) (places_are v s h) i)) in
    subst (λ y. Makes s y p size object) (sym is) (record {
      sound = record { view = w; holds = after; unmarked = sound.unmarked };
      adds_object = λ scopes. record {
        small = small;
        room = (p, free_at v s u p size scopes h new);
        fresh = record { aligned = new.aligned; not_null = let from = new.not_null in omega arith; free = fresh };
        lies = (free_at v s u p size scopes h new, lies_for v s p scopes h (taken_begins v.sizes v.places (block_of size) s.free.space p h.blocks h.sound taken.given));
        added = same_view _ _ refl content puts.around.same_length refl refl refl counts;
      };
    })

-- NO ROOM

abbrev AllShort : ℕ → List Run → Type 0
AllShort n [] = Unit {0}
AllShort n (r ∷ rs) = (r.length < n) × AllShort n rs

all_short : (n : ℕ) (rs : List Run) → All (λ r. r.length < n) rs → AllShort n rs
all_short n [] all = tt
all_short n (r ∷ rs) all = (all 0 r (omega arith), all_short n rs (λ k d below. all (suc k) d (omega arith)))

short_left : (n : ℕ) (xs ys : List Run) → AllShort n (xs ++ ys) → AllShort n xs
short_left n [] ys all = tt
short_left n (x ∷ xs) ys all = (all.0, short_left n xs ys all.1)

short_right : (n : ℕ) (xs ys : List Run) → AllShort n (xs ++ ys) → AllShort n ys
short_right n [] ys all = all
short_right n (x ∷ xs) ys all = short_right n xs ys all.1

gap_long : (n from to : ℕ) → 0 < n → from + n ≤ to → AllShort n (gap from to) → ⊥
gap_long n from to some fits all =
    let short = subst (λ b. AllShort n (cond b (run from (to - from) ∷ []) [])) (lt-ltb from to (omega arith)) all in
    let l : to - from < n = short.0 in omega arith

-- a range that no block covers lies in a gap
gap_at : (sizes : ℕ → ℕ) (place n from end : ℕ) (ps : List ℕ) → 0 < n → from ≤ place → place + n ≤ end
    → ((q : ℕ) → In q ps → (q + block_of (sizes q) ≤ place) ⊎ (place + n ≤ q)) → AllShort n (gaps from end (map (block_at sizes) ps)) → ⊥
gap_at sizes place n from end [] some low high free all = gap_long (end - from) from end (omega arith) (omega arith) (longer n (end - from) (gap from end) (omega arith) all)
  where
    longer : (n m : ℕ) (rs : List Run) → n ≤ m → AllShort n rs → AllShort m rs
    longer n m [] le all = tt
    longer n m (r ∷ rs) le all = (let l : r.length < n = all.0 in omega arith, longer n m rs le all.1)
gap_at sizes place n from end (p ∷ ps) some low high free all = elim (free p here) [
  | inl before ↦ gap_at sizes place n (p + block_of (sizes p)) end ps some before high (λ q i. free q (there i)) (short_right n (gap from p) (gaps (p + block_of (sizes p)) end (map (block_at sizes) ps)) all)
  | inr behind ↦ gap_long n from p some (omega arith) (short_left n (gap from p) (gaps (p + block_of (sizes p)) end (map (block_at sizes) ps)) all)
]

-- where no free run is long enough there is no room
pub no_room : (s : CountedSpace) (size scopes : ℕ) → IsSoundSpace s → 0 < size → LacksFreeRun s size → HasRoom Counting (counting_seen_in scopes s) size → ⊥
no_room s size scopes sound positive full room =
    let v = sound.view in
    let h = sound.holds in
    let f = room.1 in
    let aligned = f.aligned in
    let inside = f.inside in
    let not_null = f.not_null in
    let capacity = h.capacity in
    let bound = h.bound in
    gap_at v.sizes room.0 (block_of size) 16 (places_end s.free.space.capacity) v.places (block_positive size positive) (omega arith) (omega arith)
    (λ q i. subst (λ n. (q + n ≤ room.0) ⊎ (room.0 + block_of size ≤ q)) (ap block_of (held_size-in v s q h i))
    (f.free q (counting_object_at s.memory q) (held q (subst (In q) (sym (places_are v s h)) i))))
    (all_short (block_of size) _ (subst (λ bs. All (λ r. r.length < block_of size) (gaps 16 (places_end s.free.space.capacity) bs)) h.blocks full))
  where
    held : (q : ℕ) → In q (places_of s.free.space.held) → finite.get (at_places (counting_object_at s.memory) (places_of s.free.space.held)) q ≡ Some (counting_object_at s.memory q)
    held q i = get_in (counting_object_at s.memory) q (places_of s.free.space.held) i

-- an allocation that found no room changed nothing that is seen
pub kept_seen : (s u : CountedSpace) (scopes : ℕ) → KeepsBlocks s u → counting_seen_in scopes u ≡ counting_seen_in scopes s
kept_seen s u scopes kept =
    ap (counting_seen_in scopes) kept.rest
    ∙ ap (λ held. record (counting_seen_in scopes s) { content = at_places (counting_object_at s.memory) (places_of held); counts = counts_at s.memory (places_of held) }) kept.held

pub kept_sound : (s u : CountedSpace) → IsSoundSpace s → KeepsBlocks s u → IsSoundSpace u
kept_sound s u sound kept =
    let h = sound.holds in
    subst IsSoundSpace (sym kept.rest) (record {
      view = sound.view;
      holds = record {
        pages = h.pages;
        bound = h.bound;
        capacity = kept.capacity ∙ h.capacity;
        sound = kept.sound;
        blocks = kept.held ∙ h.blocks;
        objects = h.objects;
        shown_part = h.shown_part;
        queue_part = h.queue_part;
        marked_part = h.marked_part;
        shown_linked = h.shown_linked;
        queue_linked = h.queue_linked;
        count = h.count;
        allocated = h.allocated;
      };
      unmarked = sound.unmarked;
    })

-- what was taken can be written
pub can_place : (s u : CountedSpace) (p size : ℕ) → IsSoundSpace s → TakesBlock s u p size → 28 ≤ size → CanPlaceAt u p size
can_place s u p size sound taken least =
    let v = sound.view in
    let h = sound.holds in
    let new = new_place v s u p size h taken (omega arith) in
    let inside = new.inside in
    let from = new.not_null in
    let bound = h.bound in
    let count = h.count in
    let capacity = h.capacity in
    let up = blocks_apart v s h in
    let total = spread-total v.sizes 16 (places_end s.free.space.capacity) v.places up in
    let many = spread-length v.sizes 16 (places_end s.free.space.capacity) v.places up in
    let allocated = h.allocated in
    subst (λ x. CanPlaceAt x p size) (sym taken.rest) (record { not_null = omega arith; least = least; room = omega arith; count = omega arith; bytes = omega arith })
