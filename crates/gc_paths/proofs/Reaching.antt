-- There is a walk to what the roots reach, and to nothing else; so all of it can be listed.
use Rattle.std.proofs.Common.{inl, inr, ◌≡◌, ℕ, ◌+◌, zero, suc, List, [], ◌∷◌, ◌++◌, map, Option, Some, None, Bool, true, false, nat_eq, filter, refl, sym, ap, ◌∙◌, subst, arith, Contains}
use Rattle.std.specs.Prelude.{sum_by}
use Rattle.std.specs.List.{slice_get, flat_map, IsDistinct}
use Rattle.std.proofs.lemmas.List.{map-append}
use Rattle.std.proofs.lemmas.List.Elements.{Contains-append_left, Contains-append_right, Contains-append_cases}
use Rattle.std.proofs.lemmas.Option.{none-some, same_Some}
use Rattle.gc_memory.proofs.ListLemmas.{only_item}
use Rattle.gc_types.specs.declared.kind.Layouts.{Layouts}
use Rattle.gc_owner.specs.declared.entry.GcClass.{GcClass}
use Rattle.gc_model.specs.Values.{Reference, at, Value, numeric, function, continuation, reference, Object}
use Rattle.gc_model.specs.Reach.{value_references, object_values, slot_references, owned_references, present, root_references, Reached, IsReached, AreAll, by_start, by_step}
use Rattle.gc_model.specs.Table.{Table, Slot, Owned, Scoped}
use Rattle.gc_model.specs.Words.{Placing}
use Rattle.gc_model.specs.Stores.{StoreView}
use Rattle.gc_model.specs.Holds.{Holds}
use Rattle.gc_model.proofs.Members.{map_among, among_map, get_contains}
use Rattle.gc_model.proofs.CollectedKept.{reached_placed}
use Rattle.gc_model.proofs.HeldNumber as held
use Rattle.gc_model.proofs.HeldSums.{passing, passes, distinct_passing, sum_part}
use Rattle.gc_model.proofs.HeldPaths.{is_reached, is_reached-true, true-is_reached}
use Rattle.gc_store.specs.RootWords.{with_numbers}
use Rattle.gc_paths.specs.Walks.{StartRoot, start_root, global_root, pending_roots, slot_root, frame_roots, owned_root, scoped_root, scoped_roots, start_roots, start_references, Walk, from_root, from_object, IsWalked}
use Rattle.gc_paths.specs.Answers.{LacksRoots, IsFull, present_count, held_count}
use Rattle.gc_paths.proofs.Growing.{lacks_more}

abbrev reference_of : StartRoot → Reference
reference_of r = r.reference

numbered_references : {A : Type 0} (have : ℕ → A → StartRoot) (f : A → Reference) → ((k : ℕ) (x : A) → (have k x).reference ≡ f x) → (from : ℕ) (xs : List A) → map reference_of (with_numbers have from xs) ≡ map f xs
numbered_references have f same from [] = refl
numbered_references have f same from (x ∷ xs) = λ i. same from x i ∷ numbered_references have f same (from + 1) xs i

frame_references : (from : ℕ) (frames : List (List Slot)) → map reference_of (frame_roots from frames) ≡ flat_map slot_references frames
frame_references from [] = refl
frame_references from (slots ∷ frames) =
    map-append reference_of (with_numbers (slot_root from) 0 slots) (frame_roots (from + 1) frames)
    ∙ (λ i. numbered_references (slot_root from) (λ (s : Slot). s.reference) (λ k x. refl) 0 slots i ++ frame_references (from + 1) frames i)

owned_are : (owned : List Owned) → map reference_of (map owned_root owned) ≡ owned_references owned
owned_are [] = refl
owned_are (x ∷ owned) = ap (λ rs. x.reference ∷ rs) (owned_are owned)

pending_are : (pending : Option Reference) → map reference_of (pending_roots pending) ≡ present pending
pending_are None = refl
pending_are (Some r) = refl

abbrev scoped_references : List Scoped → List Reference
scoped_references roots = map (λ (x : Scoped). x.reference) roots

abbrev asked_references : Bool → List Scoped → List Reference
asked_references false roots = []
asked_references true roots = scoped_references roots

scoped_are : (scoped : Bool) (roots : List Scoped) → map reference_of (scoped_roots scoped roots) ≡ asked_references scoped roots
scoped_are false roots = refl
scoped_are true roots = numbered_references scoped_root (λ (x : Scoped). x.reference) (λ k x. refl) 0 roots

-- what the roots name from which walks begin, kind by kind
start_are : {D : Type 0} (scoped : Bool) (t : Table D) → start_references scoped t ≡ slot_references t.globals ++ (present t.pending ++ (flat_map slot_references t.frames ++ (owned_references t.owned ++ asked_references scoped t.scoped)))
start_are scoped t =
    map-append reference_of (with_numbers global_root 0 t.globals) (pending_roots t.pending ++ (frame_roots 0 t.frames ++ (map owned_root t.owned ++ scoped_roots scoped t.scoped)))
    ∙ (λ i. numbered_references global_root (λ (s : Slot). s.reference) (λ k x. refl) 0 t.globals i
    ++ (map-append reference_of (pending_roots t.pending) (frame_roots 0 t.frames ++ (map owned_root t.owned ++ scoped_roots scoped t.scoped))
    ∙ (λ j. pending_are t.pending j
    ++ (map-append reference_of (frame_roots 0 t.frames) (map owned_root t.owned ++ scoped_roots scoped t.scoped)
    ∙ (λ k. frame_references 0 t.frames k ++ (map-append reference_of (map owned_root t.owned) (scoped_roots scoped t.scoped) ∙ (λ l. owned_are t.owned l ++ scoped_are scoped t.scoped l)) k)) j)) i)

asked_among : (scoped : Bool) (roots : List Scoped) (r : Reference) → Contains (asked_references scoped roots) r → Contains (scoped_references roots) r
asked_among false roots r c = absurd (let inside = c.1 in omega (arith, inside))
asked_among true roots r c = c

module _ (g p f o s : List Reference) (r : Reference) where
  -- by kinds in one order and in another
  other_order : Contains (g ++ (p ++ (f ++ (o ++ s)))) r → Contains (s ++ (f ++ (g ++ (o ++ p)))) r
  other_order c = elim (Contains-append_cases g (p ++ (f ++ (o ++ s))) r c) [
    | inl in_g ↦ Contains-append_right s (f ++ (g ++ (o ++ p))) r (Contains-append_right f (g ++ (o ++ p)) r (Contains-append_left g (o ++ p) r in_g))
    | inr rest ↦ elim (Contains-append_cases p (f ++ (o ++ s)) r rest) [
      | inl in_p ↦ Contains-append_right s (f ++ (g ++ (o ++ p))) r (Contains-append_right f (g ++ (o ++ p)) r (Contains-append_right g (o ++ p) r (Contains-append_right o p r in_p)))
      | inr more ↦ elim (Contains-append_cases f (o ++ s) r more) [
        | inl in_f ↦ Contains-append_right s (f ++ (g ++ (o ++ p))) r (Contains-append_left f (g ++ (o ++ p)) r in_f)
        | inr last ↦ elim (Contains-append_cases o s r last) [
          | inl in_o ↦ Contains-append_right s (f ++ (g ++ (o ++ p))) r (Contains-append_right f (g ++ (o ++ p)) r (Contains-append_right g (o ++ p) r (Contains-append_left o p r in_o)))
          | inr in_s ↦ Contains-append_left s (f ++ (g ++ (o ++ p))) r in_s
        ]
      ]
    ]
  ]

  this_order : Contains (s ++ (f ++ (g ++ (o ++ p)))) r → Contains (g ++ (p ++ (f ++ (o ++ s)))) r
  this_order c = elim (Contains-append_cases s (f ++ (g ++ (o ++ p))) r c) [
    | inl in_s ↦ Contains-append_right g (p ++ (f ++ (o ++ s))) r (Contains-append_right p (f ++ (o ++ s)) r (Contains-append_right f (o ++ s) r (Contains-append_right o s r in_s)))
    | inr rest ↦ elim (Contains-append_cases f (g ++ (o ++ p)) r rest) [
      | inl in_f ↦ Contains-append_right g (p ++ (f ++ (o ++ s))) r (Contains-append_right p (f ++ (o ++ s)) r (Contains-append_left f (o ++ s) r in_f))
      | inr more ↦ elim (Contains-append_cases g (o ++ p) r more) [
        | inl in_g ↦ Contains-append_left g (p ++ (f ++ (o ++ s))) r in_g
        | inr last ↦ elim (Contains-append_cases o p r last) [
          | inl in_o ↦ Contains-append_right g (p ++ (f ++ (o ++ s))) r (Contains-append_right p (f ++ (o ++ s)) r (Contains-append_right f (o ++ s) r (Contains-append_left o s r in_o)))
          | inr in_p ↦ Contains-append_right g (p ++ (f ++ (o ++ s))) r (Contains-append_left p (f ++ (o ++ s)) r in_p)
        ]
      ]
    ]
  ]

-- without the scoped roots there are fewer
fewer : (g p f o : List Reference) (scoped : Bool) (roots : List Scoped) (r : Reference) → Contains (g ++ (p ++ (f ++ (o ++ asked_references scoped roots)))) r → Contains (g ++ (p ++ (f ++ (o ++ scoped_references roots)))) r
fewer g p f o true roots r c = c
fewer g p f o false roots r c = elim (Contains-append_cases g (p ++ (f ++ (o ++ []))) r c) [
  | inl in_g ↦ Contains-append_left g (p ++ (f ++ (o ++ scoped_references roots))) r in_g
  | inr rest ↦ Contains-append_right g (p ++ (f ++ (o ++ scoped_references roots))) r (elim (Contains-append_cases p (f ++ (o ++ [])) r rest) [
    | inl in_p ↦ Contains-append_left p (f ++ (o ++ scoped_references roots)) r in_p
    | inr more ↦ Contains-append_right p (f ++ (o ++ scoped_references roots)) r (elim (Contains-append_cases f (o ++ []) r more) [
      | inl in_f ↦ Contains-append_left f (o ++ scoped_references roots) r in_f
      | inr last ↦ Contains-append_right f (o ++ scoped_references roots) r (elim (Contains-append_cases o [] r last) [
        | inl in_o ↦ Contains-append_left o (scoped_references roots) r in_o
        | inr none ↦ absurd (let inside = none.1 in omega (arith, inside))
      ])
    ])
  ])
]

module _ {D : Type 0} (t : Table D) (r : Reference) where
  start_among : (scoped : Bool) → Contains (start_references scoped t) r → Contains (root_references t) r
  start_among scoped c =
      other_order (slot_references t.globals) (present t.pending) (flat_map slot_references t.frames) (owned_references t.owned) (scoped_references t.scoped) r
      (fewer (slot_references t.globals) (present t.pending) (flat_map slot_references t.frames) (owned_references t.owned) scoped t.scoped r
      (subst (λ rs. Contains rs r) (start_are scoped t) c))

  among_start : Contains (root_references t) r → Contains (start_references true t) r
  among_start c =
      subst (λ rs. Contains rs r) (sym (start_are true t))
      (this_order (slot_references t.globals) (present t.pending) (flat_map slot_references t.frames) (owned_references t.owned) (scoped_references t.scoped) r c)

-- Values and the references among them

values_among : (vs : List Value) (i : ℕ) (class : GcClass) (r : Reference) → slice_get vs i ≡ Some (reference class r) → Contains (flat_map value_references vs) r
values_among [] i class r e = absurd (none-some _ e)
values_among (v ∷ vs) zero class r e =
    Contains-append_left (value_references v) (flat_map value_references vs) r
    (subst (λ (x : Value). Contains (value_references x) r) (sym (same_Some v (reference class r) e)) (get_contains (r ∷ []) 0 r refl))
values_among (v ∷ vs) (suc i) class r e = Contains-append_right (value_references v) (flat_map value_references vs) r (values_among vs i class r e)

-- where a reference stands among values
record StandsAt (vs : List Value) (r : Reference) : Type 0 where
  index : ℕ
  class : GcClass
  value : slice_get vs index ≡ Some (reference class r)

first_stands : (v : Value) (vs : List Value) (r : Reference) → Contains (value_references v) r → StandsAt (v ∷ vs) r
first_stands (numeric kind n) vs r c = absurd (let inside = c.1 in omega (arith, inside))
first_stands (function f) vs r c = absurd (let inside = c.1 in omega (arith, inside))
first_stands (continuation cont) vs r c = absurd (let inside = c.1 in omega (arith, inside))
first_stands (reference class q) vs r c = record { index = 0; class = class; value = ap (λ x. Some (reference class x)) (only_item q r c) }

among_values : (vs : List Value) (r : Reference) → Contains (flat_map value_references vs) r → StandsAt vs r
among_values [] r c = absurd (let inside = c.1 in omega (arith, inside))
among_values (v ∷ vs) r c = elim (Contains-append_cases (value_references v) (flat_map value_references vs) r c) [
  | inl first ↦ first_stands v vs r first
  | inr later ↦ let at_later = among_values vs r later in record { index = suc at_later.index; class = at_later.class; value = at_later.value }
]

module _ {D : Type 0} (scoped : Bool) (t : Table D) where
  pub walk_reached : {n p : ℕ} → Walk scoped t n p → Reached t.objects (start_references scoped t) p
  walk_reached (from_root {p = p} name c) = by_start (among_map reference_of (start_roots scoped t) (start_root name (at p)) c)
  walk_reached (from_object {q = q} {p = p} index walk names) =
      by_step (walk_reached walk) (record { object = names.object; there = names.there; among = values_among (object_values names.object) index names.class (at p) names.value })

  pub reached_walk : (p : ℕ) → Reached t.objects (start_references scoped t) p → IsWalked scoped t p
  reached_walk p (by_start c) =
      let image = map_among reference_of (start_roots scoped t) (at p) c in
      (0, from_root image.of.name (subst (Contains (start_roots scoped t)) (λ i. record { name = image.of.name; reference = image.is i }) image.among))
  reached_walk p (by_step {y = q} reached named) =
      let walk = reached_walk q reached in
      let stands = among_values (object_values named.object) (at p) named.among in
      (suc walk.0, from_object stands.index walk.1 (record { object = named.object; there = named.there; class = stands.class; value = stands.value }))

-- more roots reach more
reaches_more : {D : Type 0} (objects : List (Object D)) (few many : List Reference) → ((r : Reference) → Contains few r → Contains many r) → (p : ℕ) → Reached objects few p → Reached objects many p
reaches_more objects few many more p (by_start c) = by_start (more (at p) c)
reaches_more objects few many more p (by_step {y = q} reached named) = by_step (reaches_more objects few many more q reached) named

-- There is a walk to an object exactly where a collection of a copying heap would keep it.
pub walked_reached : {D : Type 0} (t : Table D) (p : ℕ) → IsWalked true t p → IsReached t p
walked_reached t p (n, walk) = reaches_more t.objects (start_references true t) (root_references t) (λ r c. start_among t r true c) p (walk_reached true t walk)

pub reached_walked : {D : Type 0} (t : Table D) (p : ℕ) → IsReached t p → IsWalked true t p
reached_walked t p reached = reached_walk true t p (reaches_more t.objects (root_references t) (start_references true t) (λ r c. among_start t r c) p reached)

module _ {D : Type 0} (layouts : Layouts) (s : StoreView D) (t : Table D) (place : Placing) (holds : Holds layouts s t place) (scoped : Bool) where
  -- the positions to which there are walks
  abbrev walked : List ℕ
  walked = filter (is_reached t.objects (start_references scoped t)) (held.positions layouts t place s.heap holds.objects)

  walked_are : AreAll (IsWalked scoped t) walked
  walked_are =
      let placed = held.are_placed layouts t place s.heap holds.objects in
      record {
        distinct = distinct_passing (is_reached t.objects (start_references scoped t)) (held.positions layouts t place s.heap holds.objects) placed.distinct;
        all = λ p. (
          λ c. reached_walk scoped t p (is_reached-true t.objects (start_references scoped t) p (passing (is_reached t.objects (start_references scoped t)) (held.positions layouts t place s.heap holds.objects) p c).1),
          λ walk.
              let reached = walk_reached scoped t walk.1 in
              passes (is_reached t.objects (start_references scoped t)) (held.positions layouts t place s.heap holds.objects) p
              ((placed.all p).1 (reached_placed layouts s t place holds p (reaches_more t.objects (start_references scoped t) (root_references t) (λ r c. start_among t r scoped c) p reached)))
              (true-is_reached t.objects (start_references scoped t) p reached),
        );
      }

  -- where some of them have more references than there is room for, there is no room for all
  pub is_full : (part : List ℕ) → IsDistinct nat_eq part → ((p : ℕ) → Contains part p → IsWalked scoped t p)
      → LacksRoots t (present_count (start_references scoped t) + sum_by (λ p. held_count (slice_get t.objects p)) part) → IsFull scoped t
  is_full part distinct are lacks =
      let fewer_sum = sum_part (λ p. held_count (slice_get t.objects p)) part walked distinct (λ p c. (walked_are.all p).1 (are p c)) in (
        present_count (start_references scoped t) + sum_by (λ p. held_count (slice_get t.objects p)) walked,
        (
          record { walked = walked; are = walked_are; count_is = refl },
          lacks_more t (present_count (start_references scoped t) + sum_by (λ p. held_count (slice_get t.objects p)) part) (present_count (start_references scoped t) + sum_by (λ p. held_count (slice_get t.objects p)) walked) (omega (arith, fewer_sum)) lacks,
        ),
      )

  -- where the roots alone have more
  pub roots_full : LacksRoots t (present_count (start_references scoped t)) → IsFull scoped t
  unfolding IsDistinct
  roots_full lacks = is_full [] tt (λ p c. absurd (let inside = c.1 in omega (arith, inside))) (subst (LacksRoots t) (omega arith) lacks)
