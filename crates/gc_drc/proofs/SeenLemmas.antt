-- What is seen of a space after its words were raised, lowered or shown.
use Rattle.std.proofs.Common.{◌≡◌, ℕ, ◌+◌, ◌-◌, ◌%◌, ◌<◌, ◌≤◌, ◌^◌, Bool, true, false, cond, List, [], ◌∷◌, Some, None, refl, sym, ap, ap₂, subst, ◌∙◌, inl, inr, arith}
use Rattle.std.proofs.Math.Logic.{◌⊎◌}
use Rattle.std.specs.Prelude.{◌↔◌, nat_eq, not, ◌&&◌, ◌||◌, ◌==◌}
use Rattle.std.specs.Ordering.{nat_cmp, eq_by_cmp}
use Rattle.std.specs.Cmp.{unsigned_tied, nat_cmp_total}
use Rattle.std.specs.FinMap as finite
use Rattle.std.specs.FinSet as finset
use Rattle.std.proofs.lemmas.Bool.{cases_eq, cases_lt, ne_eqb, eq-eqb}
use Rattle.gc_memory.specs.Lists.{In, occ, sum_over}
use Rattle.gc_memory.proofs.ListLemmas.{occ-In, In-occ}
use Rattle.gc_view.specs.Heaps.{HeapView, Counts}
use Rattle.gc_heap.specs.Content.{IsHeld}
use Rattle.gc_heap.specs.Barriers.{IsNamed, is_alone, raise, lower, show, cloned, dropped, exposed, CanName, CanUnname}
use Rattle.gc_drc.specs.declared.space.CountedSpace.{CountedSpace}
use Rattle.gc_drc.specs.Layout.{block_of, counting_object_at}
use Rattle.gc_drc.specs.View.{View, count_of, HoldsBlocks}
use Rattle.gc_drc.specs.Content.{at_places, places_of, counts_at, counting_seen_in, IsSoundSpace}
use Rattle.gc_drc.proofs.CountsSeen.{counts_of}
use Rattle.gc_drc.specs.PlaceLaws.{in_or_not, get_in, get_none, found_in}
use Rattle.gc_drc.proofs.PlaceLemmas.{at_places-same, contains_in, contains_not}
use Rattle.gc_drc.specs.SpaceLaws.{lies, places_are}
use Rattle.gc_drc.proofs.CountsSeen.{counts_are}
use Rattle.gc_drc.specs.Operations as operation
use Rattle.gc_drc.specs.Operations.{Tends}
use Rattle.gc_drc.proofs.TendLemmas.{tended_object}

-- MAPS

pub get-insert-same : {X : Type 0} (m : finite.FinMap nat_cmp X) (k : ℕ) (x : X) → finite.get (finite.insert m k x) k ≡ Some x
get-insert-same m k x = finite.get-insert nat_cmp_total m k x k ∙ ap (λ b. cond b (Some x) (finite.get m k)) (unsigned_tied k k ∙ eq-eqb k k refl)

pub get-insert-other : {X : Type 0} (m : finite.FinMap nat_cmp X) (k q : ℕ) (x : X) → (q ≡ k → ⊥) → finite.get (finite.insert m k x) q ≡ finite.get m q
get-insert-other m k q x ne = finite.get-insert nat_cmp_total m k x q ∙ ap (λ b. cond b (Some x) (finite.get m q)) (unsigned_tied q k ∙ ne_eqb q k ne)

-- a function that changes at one place gives the map with a change there
pub at_places-put : {X : Type 0} (f g : ℕ → X) (x : ℕ) (w : X) (ps : List ℕ) → In x ps → g x ≡ w → ((p : ℕ) → In p ps → (p ≡ x → ⊥) → g p ≡ f p)
    → at_places g ps ≡ finite.insert (at_places f ps) x w
at_places-put {X} f g x w ps i is others = finite.same_map nat_cmp_total finite.nat_cmp-IsAntisymmetric _ _ each
  where
    each : (q : ℕ) → finite.get (at_places g ps) q ≡ finite.get (finite.insert (at_places f ps) x w) q
    each q = elim (cases_eq q x) [
      | inl e ↦ subst (λ k. finite.get (at_places g ps) k ≡ finite.get (finite.insert (at_places f ps) x w) k) (sym e)
          (get_in g x ps i ∙ ap (λ v. Some v) is ∙ sym (get-insert-same (at_places f ps) x w))
      | inr ne ↦ elim (in_or_not q ps) [
        | inl j ↦ get_in g q ps j ∙ ap (λ v. Some v) (others q j ne) ∙ sym (get-insert-other (at_places f ps) x q w ne ∙ get_in f q ps j)
        | inr none ↦ get_none g q ps none ∙ sym (get-insert-other (at_places f ps) x q w ne ∙ get_none f q ps none)
      ]
    ]

same_counts : (c d : Counts) → c.counted ≡ d.counted → c.shown ≡ d.shown → c.queued ≡ d.queued → c ≡ d
same_counts c d counted shown queued = λ i. record { counted = counted i; shown = shown i; queued = queued i }

pub same_view : (h k : HeapView) → h.attached ≡ k.attached → h.content ≡ k.content → h.capacity ≡ k.capacity → h.allocated ≡ k.allocated → h.needs_gc ≡ k.needs_gc
    → h.scopes ≡ k.scopes → h.counts ≡ k.counts → h ≡ k
same_view h k a c n b g s t = λ i. record { attached = a i; content = c i; capacity = n i; allocated = b i; needs_gc = g i; scopes = s i; counts = t i }

-- THE COUNTS OF A VIEW

raised_counts : (v : View) (x : ℕ) → In x v.places → counts_of (operation.counting_raised v x) ≡ raise (Some (v.counted x)) x (counts_of v)
raised_counts v x i = same_counts _ _
    (at_places-put v.counted (λ y. v.counted y + cond (nat_eq y x) 1 0) x (v.counted x + 1) v.places i
    (ap (λ b. v.counted x + cond b 1 0) (eq-eqb x x refl)) (λ p j ne. ap (λ b. v.counted p + cond b 1 0) (ne_eqb p x ne) ∙ omega arith))
    refl refl

lessened : (v : View) (x : ℕ) → In x v.places → at_places (λ y. v.counted y - cond (nat_eq y x) 1 0) v.places ≡ finite.insert (at_places v.counted v.places) x (v.counted x - 1)
lessened v x i = at_places-put v.counted (λ y. v.counted y - cond (nat_eq y x) 1 0) x (v.counted x - 1) v.places i
    (ap (λ b. v.counted x - cond b 1 0) (eq-eqb x x refl)) (λ p j ne. ap (λ b. v.counted p - cond b 1 0) (ne_eqb p x ne) ∙ omega arith)

none_is : (x : ℕ) (list : List ℕ) → occ x list ≡ 0 → finset.contains (finset.from_list {R = nat_cmp} list) x ≡ false
none_is x list e = contains_not x list (λ i. let some = In-occ x list i in omega arith)

some_is : (x : ℕ) (list : List ℕ) → 0 < occ x list → finset.contains (finset.from_list {R = nat_cmp} list) x ≡ true
some_is x list l = contains_in x list (occ-In x list l)

-- the count word is 1 exactly where the one name is all that it counts
last_name : (v : View) (x : ℕ) → 0 < v.counted x → nat_eq (count_of v x) 1 ≡ ((v.counted x == 1) && is_alone (counts_of v) x)
last_name v x named = elim (cases_eq (count_of v x) 1) [
  | inl one ↦ eq-eqb (count_of v x) 1 one ∙ sym (alone (omega arith) (omega arith) (omega arith))
  | inr ne ↦ ne_eqb (count_of v x) 1 ne ∙ sym (not_alone ne (cases_eq (v.counted x) 1) (cases_lt 0 (occ x v.shown)) (cases_lt 0 (occ x v.queue)))
]
  where
    alone : v.counted x ≡ 1 → occ x v.shown ≡ 0 → occ x v.queue ≡ 0 → ((v.counted x == 1) && is_alone (counts_of v) x) ≡ true
    alone one s q = ap (λ b. b && is_alone (counts_of v) x) (eq-eqb (v.counted x) 1 one)
        ∙ ap (λ b. not b && not (finset.contains (finset.from_list {R = nat_cmp} v.queue) x)) (none_is x v.shown s)
        ∙ ap (λ b. not b) (none_is x v.queue q)

    and_not : (a b : Bool) → (a && false) ≡ false
    and_not true b = refl
    and_not false b = refl

    not_alone : (count_of v x ≡ 1 → ⊥) → (v.counted x ≡ 1) ⊎ (v.counted x ≡ 1 → ⊥) → (0 < occ x v.shown) ⊎ (occ x v.shown ≤ 0) → (0 < occ x v.queue) ⊎ (occ x v.queue ≤ 0)
        → ((v.counted x == 1) && is_alone (counts_of v) x) ≡ false
    not_alone ne (inr many) s q = ap (λ b. b && is_alone (counts_of v) x) (ne_eqb (v.counted x) 1 many)
    not_alone ne (inl one) (inl s) q =
        ap (λ b. (v.counted x == 1) && (not b && not (finset.contains (finset.from_list {R = nat_cmp} v.queue) x))) (some_is x v.shown s) ∙ and_not (v.counted x == 1) true
    not_alone ne (inl one) (inr s) (inl q) =
        ap (λ b. (v.counted x == 1) && (not (finset.contains (finset.from_list {R = nat_cmp} v.shown) x) && not b)) (some_is x v.queue q)
        ∙ ap (λ b. (v.counted x == 1) && b) (and_not (not (finset.contains (finset.from_list {R = nat_cmp} v.shown) x)) true) ∙ and_not (v.counted x == 1) true
    not_alone ne (inl one) (inr s) (inr q) = absurd (ne (omega arith))

set_cond : (b : Bool) (x : ℕ) (list : List ℕ) → finset.from_list {R = nat_cmp} (cond b (x ∷ list) list) ≡ cond b (finset.insert (finset.from_list list) x) (finset.from_list list)
set_cond true x list = refl
set_cond false x list = refl

lowered_counts : (v : View) (x : ℕ) → In x v.places → 0 < v.counted x → counts_of (operation.counting_lowered v x) ≡ lower (Some (v.counted x)) x (counts_of v)
lowered_counts v x i named = same_counts _ _ (lessened v x i) refl
    (set_cond (nat_eq (count_of v x) 1) x v.queue
    ∙ ap (λ b. cond b (finset.insert (finset.from_list v.queue) x) (finset.from_list v.queue)) (last_name v x named))

insert_again : (x : ℕ) (list : List ℕ) → 0 < occ x list → finset.insert (finset.from_list {R = nat_cmp} list) x ≡ finset.from_list list
insert_again x list l = finset.same_set nat_cmp_total finset.nat_cmp-IsAntisymmetric _ _ (λ q. finset.contains-insert nat_cmp_total (finset.from_list list) x q ∙ each q)
  where
    each : (q : ℕ) → (eq_by_cmp nat_cmp q x || finset.contains (finset.from_list {R = nat_cmp} list) q) ≡ finset.contains (finset.from_list {R = nat_cmp} list) q
    each q = elim (cases_eq q x) [
      | inl e ↦ ap (λ b. b || finset.contains (finset.from_list {R = nat_cmp} list) q) (unsigned_tied q x ∙ eq-eqb q x e)
          ∙ sym (subst (λ k. finset.contains (finset.from_list {R = nat_cmp} list) k ≡ true) (sym e) (some_is x list l))
      | inr ne ↦ ap (λ b. b || finset.contains (finset.from_list {R = nat_cmp} list) q) (unsigned_tied q x ∙ ne_eqb q x ne)
    ]

exposed_counts : (v : View) (x : ℕ) → In x v.places → counts_of (operation.counting_exposed v x) ≡ show (Some (v.counted x)) x (counts_of v)
exposed_counts v x i = same_counts _ _ (lessened v x i) (elim (cases_eq (occ x v.shown) 0) [
  | inl none ↦ set_cond (nat_eq (occ x v.shown) 0) x v.shown ∙ ap (λ b. cond b (finset.insert (finset.from_list v.shown) x) (finset.from_list v.shown)) (eq-eqb (occ x v.shown) 0 none)
  | inr some ↦ set_cond (nat_eq (occ x v.shown) 0) x v.shown ∙ ap (λ b. cond b (finset.insert (finset.from_list v.shown) x) (finset.from_list v.shown)) (ne_eqb (occ x v.shown) 0 some)
      ∙ sym (insert_again x v.shown (positive some))
]) refl
  where
    positive : (occ x v.shown ≡ 0 → ⊥) → 0 < occ x v.shown
    positive some = elim (cases_lt 0 (occ x v.shown)) [ inl l ↦ l | inr few ↦ absurd (some (omega arith)) ]

-- WHAT IS SEEN

-- the count of a place of a sound space
pub seen_count : (v : View) (s : CountedSpace) (x : ℕ) → HoldsBlocks v s → In x v.places → finite.get (counts_at s.memory (places_of s.free.space.held)).counted x ≡ Some (v.counted x)
seen_count v s x h i = ap (λ (c : Counts). finite.get c.counted x) (counts_are v s h) ∙ get_in v.counted x v.places i

-- a held place is a place of the view
pub held_place : (v : View) (s : CountedSpace) (scopes x : ℕ) → HoldsBlocks v s → IsHeld (counting_seen_in scopes s) x → In x v.places
held_place v s scopes x h held = subst (In x) (places_are v s h) (found_in (counting_object_at s.memory) x held.0 (places_of s.free.space.held) held.1).0

-- the space shows another view of the same objects
pub record Recounts (v w : View) (s t : CountedSpace) (x : ℕ) : Type 0 where
  pub before : HoldsBlocks v s
  pub place : In x v.places
  pub after : HoldsBlocks w t
  pub tends : Tends s.memory t.memory x
  pub free : t.free ≡ s.free
  pub places : w.places ≡ v.places
  pub sizes : w.sizes ≡ v.sizes

pub recounted_view : (v w : View) (s t : CountedSpace) (x scopes : ℕ) → Recounts v w s t x → counting_seen_in scopes t ≡ record (counting_seen_in scopes s) { counts = counts_of w }
recounted_view v w s t x scopes r =
    let after = r.after in
    let before = r.before in
    same_view _ _ refl
    (ap (λ ps. at_places (counting_object_at t.memory) ps) (ap (λ f. places_of f.space.held) r.free ∙ places_are v s before)
    ∙ at_places-same (counting_object_at s.memory) (counting_object_at t.memory) v.places (λ p i. (tended_object v s t.memory p x before i r.place r.tends).object)
    ∙ ap (λ ps. at_places (counting_object_at s.memory) ps) (sym (places_are v s before)))
    r.tends.around.same_length
    (after.allocated ∙ ap₂ (λ (sizes : ℕ → ℕ) ps. sum_over (λ p. block_of (sizes p)) ps) r.sizes r.places ∙ sym before.allocated)
    refl refl (counts_are w t after)

pub seen_raised : (v : View) (s t : CountedSpace) (x scopes : ℕ) → Recounts v (operation.counting_raised v x) s t x → counting_seen_in scopes t ≡ cloned (counting_seen_in scopes s) x
seen_raised v s t x scopes r =
    recounted_view v (operation.counting_raised v x) s t x scopes r
    ∙ ap (λ c. record (counting_seen_in scopes s) { counts = c })
    (raised_counts v x r.place ∙ ap₂ (λ n c. raise n x c) (sym (seen_count v s x r.before r.place)) (sym (counts_are v s r.before)))

pub seen_lowered : (v : View) (s t : CountedSpace) (x scopes : ℕ) → 0 < v.counted x → Recounts v (operation.counting_lowered v x) s t x → counting_seen_in scopes t ≡ dropped (counting_seen_in scopes s) x
seen_lowered v s t x scopes named r =
    recounted_view v (operation.counting_lowered v x) s t x scopes r
    ∙ ap (λ c. record (counting_seen_in scopes s) { counts = c })
    (lowered_counts v x r.place named ∙ ap₂ (λ n c. lower n x c) (sym (seen_count v s x r.before r.place)) (sym (counts_are v s r.before)))

pub seen_exposed : (v : View) (s t : CountedSpace) (x scopes : ℕ) → Recounts v (operation.counting_exposed v x) s t x → counting_seen_in scopes t ≡ exposed (counting_seen_in scopes s) x
seen_exposed v s t x scopes r =
    recounted_view v (operation.counting_exposed v x) s t x scopes r
    ∙ ap (λ c. record (counting_seen_in scopes s) { counts = c })
    (exposed_counts v x r.place ∙ ap₂ (λ n c. show n x c) (sym (seen_count v s x r.before r.place)) (sym (counts_are v s r.before)))

-- a 31-bit number is no place
number_count : (v : View) (s : CountedSpace) (x : ℕ) → HoldsBlocks v s → x % 2 ≡ 1 → finite.get (counts_at s.memory (places_of s.free.space.held)).counted x ≡ None
number_count v s x h odd =
    ap (λ (c : Counts). finite.get c.counted x) (counts_are v s h)
    ∙ get_none v.counted x v.places (λ i. let even = (lies v s x h i).aligned in omega arith)

pub number_cloned : (s : CountedSpace) (x scopes : ℕ) → IsSoundSpace s → x % 2 ≡ 1 → counting_seen_in scopes s ≡ cloned (counting_seen_in scopes s) x
number_cloned s x scopes sound odd = ap (λ n. record (counting_seen_in scopes s) { counts = raise n x (counts_at s.memory (places_of s.free.space.held)) }) (sym (number_count sound.view s x sound.holds odd))

pub number_dropped : (s : CountedSpace) (x scopes : ℕ) → IsSoundSpace s → x % 2 ≡ 1 → counting_seen_in scopes s ≡ dropped (counting_seen_in scopes s) x
number_dropped s x scopes sound odd = ap (λ n. record (counting_seen_in scopes s) { counts = lower n x (counts_at s.memory (places_of s.free.space.held)) }) (sym (number_count sound.view s x sound.holds odd))

pub number_exposed : (s : CountedSpace) (x scopes : ℕ) → IsSoundSpace s → x % 2 ≡ 1 → counting_seen_in scopes s ≡ exposed (counting_seen_in scopes s) x
number_exposed s x scopes sound odd = ap (λ n. record (counting_seen_in scopes s) { counts = show n x (counts_at s.memory (places_of s.free.space.held)) }) (sym (number_count sound.view s x sound.holds odd))

-- A HEAP'S OWN VIEW

-- a sound space goes on being one, as nothing gets marked
pub sound_after : (v w : View) (s t : CountedSpace) (x : ℕ) → v.marked ≡ [] → w.marked ≡ v.marked → Recounts v w s t x → IsSoundSpace t
sound_after v w s t x unmarked same r = record { view = w; holds = r.after; unmarked = same ∙ unmarked }

-- what a word that may be named or given up says of its object
pub even_held : (s : CountedSpace) (scopes x : ℕ) → IsNamed (counting_seen_in scopes s) x → (x % 2 ≡ 1 → ⊥) → IsHeld (counting_seen_in scopes s) x
even_held s scopes x (inl odd) even = absurd (even odd)
even_held s scopes x (inr held) even = held

pub count_below : (v : View) (s : CountedSpace) (x : ℕ) → HoldsBlocks v s → In x v.places → v.counted x < 18446744073709551613 → count_of v x + 1 < 2 ^ 64
count_below v s x h i below =
    let a = h.shown_part.once x in
    let b = h.queue_part.once x in omega arith

-- a word may be named: its object can be raised
pub can_raise : (s : CountedSpace) (scopes x : ℕ) → IsSoundSpace s → CanName (counting_seen_in scopes s) x → (x % 2 ≡ 1 → ⊥) → operation.CanRaise s x
can_raise s scopes x sound can even =
    let v = sound.view in
    let h = sound.holds in
    let i = held_place v s scopes x h (even_held s scopes x can.named even) in
    record { view = v; holds = h; place = i; below = count_below v s x h i (can.below (v.counted x) (seen_count v s x h i)) }

-- a word may be given up: its object can be lowered
pub can_lower : (s : CountedSpace) (scopes x : ℕ) → IsSoundSpace s → CanUnname (counting_seen_in scopes s) x → (x % 2 ≡ 1 → ⊥) → operation.CanLower s x
can_lower s scopes x sound can even =
    let v = sound.view in
    let h = sound.holds in
    let i = held_place v s scopes x h (even_held s scopes x can.named even) in
    record { view = v; holds = h; place = i; named = can.counted (v.counted x) (seen_count v s x h i) }

-- a sound space, in which a word stands now as another view says
pub recounts : (v w : View) (s t : CountedSpace) (x : ℕ) → HoldsBlocks v s → In x v.places → HoldsBlocks w t → Tends s.memory t.memory x → t.free ≡ s.free → w.places ≡ v.places → w.sizes ≡ v.sizes → Recounts v w s t x
recounts v w s t x h i after tends free places sizes = record { before = h; place = i; after = after; tends = tends; free = free; places = places; sizes = sizes }

pub record Seen (old new : CountedSpace) (change : HeapView → HeapView) : Type 0 where
  pub sound : IsSoundSpace new
  pub seen : (scopes : ℕ) → counting_seen_in scopes new ≡ change (counting_seen_in scopes old)

pub names : (s t : CountedSpace) (scopes x : ℕ) → IsSoundSpace s → CanName (counting_seen_in scopes s) x → (x % 2 ≡ 1 → ⊥)
    → ((v : View) → HoldsBlocks v s → In x v.places → HoldsBlocks (operation.counting_raised v x) t) → Tends s.memory t.memory x → t.free ≡ s.free → Seen s t (λ h. cloned h x)
names s t scopes x sound can even holds tends free =
    let v = sound.view in
    let h = sound.holds in
    let i = held_place v s scopes x h (even_held s scopes x can.named even) in
    let r = recounts v (operation.counting_raised v x) s t x h i (holds v h i) tends free refl refl in
    record { sound = sound_after v (operation.counting_raised v x) s t x sound.unmarked refl r; seen = λ n. seen_raised v s t x n r }

pub unnames : (s t : CountedSpace) (scopes x : ℕ) → IsSoundSpace s → CanUnname (counting_seen_in scopes s) x → (x % 2 ≡ 1 → ⊥)
    → ((v : View) → HoldsBlocks v s → In x v.places → 0 < v.counted x → HoldsBlocks (operation.counting_lowered v x) t) → Tends s.memory t.memory x → t.free ≡ s.free → Seen s t (λ h. dropped h x)
unnames s t scopes x sound can even holds tends free =
    let v = sound.view in
    let h = sound.holds in
    let i = held_place v s scopes x h (even_held s scopes x can.named even) in
    let named = can.counted (v.counted x) (seen_count v s x h i) in
    let r = recounts v (operation.counting_lowered v x) s t x h i (holds v h i named) tends free refl refl in
    record { sound = sound_after v (operation.counting_lowered v x) s t x sound.unmarked refl r; seen = λ n. seen_lowered v s t x n named r }

pub shows : (s t : CountedSpace) (scopes x : ℕ) → IsSoundSpace s → CanUnname (counting_seen_in scopes s) x → (x % 2 ≡ 1 → ⊥)
    → ((v : View) → HoldsBlocks v s → In x v.places → 0 < v.counted x → HoldsBlocks (operation.counting_exposed v x) t) → Tends s.memory t.memory x → t.free ≡ s.free → Seen s t (λ h. exposed h x)
shows s t scopes x sound can even holds tends free =
    let v = sound.view in
    let h = sound.holds in
    let i = held_place v s scopes x h (even_held s scopes x can.named even) in
    let named = can.counted (v.counted x) (seen_count v s x h i) in
    let r = recounts v (operation.counting_exposed v x) s t x h i (holds v h i named) tends free refl refl in
    record { sound = sound_after v (operation.counting_exposed v x) s t x sound.unmarked refl r; seen = λ n. seen_exposed v s t x n r }

-- what a test for a 31-bit number answers
pub is_number : (b : Bool) (x : ℕ) → ((b ≡ true) ↔ (x % 2 ≡ 1)) → b ≡ true → x % 2 ≡ 1
is_number b x told e = told.0 e

pub is_place : (b : Bool) (x : ℕ) → ((b ≡ true) ↔ (x % 2 ≡ 1)) → b ≡ false → x % 2 ≡ 1 → ⊥
is_place b x told e odd = let t = told.1 odd in true_false (sym t ∙ e)
  where
    true_false : true ≡ false → ⊥
    true_false e = cc
