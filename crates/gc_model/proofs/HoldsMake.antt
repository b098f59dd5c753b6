-- A store that holds a table holds it with one more object, named by a new scoped root.
use Rattle.std.proofs.Common.{◌≡◌, ◌≢◌, ℕ, ◌+◌, ◌%◌, ◌<◌, ◌⊎◌, inl, inr, true, false, eqb, Some, None, length, sym, ap, ◌∙◌, refl, subst, arith}
use Rattle.std.specs.Ordering.{nat_cmp}
use Rattle.std.specs.FinMap.{FinMap, get, insert}
use Rattle.std.proofs.lemmas.Grind.{common_steps}
use Rattle.std.proofs.lemmas.Option.{none-some, slice_get_within}
use Rattle.std.proofs.lemmas.List.{length_push}
use Rattle.gc_types.specs.declared.kind.Layouts.{Layouts}
use Rattle.gc_types.specs.declared.kind.Layouts.TheVariants.{Null, Counting, Copying}
use Rattle.gc_types.specs.Layouts.{round_up}
use Rattle.gc_model.specs.Values.{at, Object, host}
use Rattle.gc_model.specs.Table.{Table, add_rooted, add_object}
use Rattle.gc_model.specs.Live.{roots_full}
use Rattle.gc_model.specs.Reach.{IsHost}
use Rattle.gc_view.specs.Sizes.{alignment}
use Rattle.gc_model.specs.Sizes.{object_size}
use Rattle.gc_view.specs.Heaps.{HeapView, HeapObject}
use Rattle.gc_model.specs.Stores.{StoreView}
pub use Rattle.gc_model.specs.Words.{placed_at}
use Rattle.gc_model.specs.Holds.{Placing, Names, naming, Holds, KindHolds, HostStands, HostsBy, Stands}
use Rattle.gc_model.proofs.Lists.{slice_get-push_old, slice_get-push_new}
use Rattle.gc_model.proofs.Types.{next_after-push}
use Rattle.gc_model.proofs.Typing.{IsTypedObject, typed-made}
use Rattle.gc_model.proofs.Placings.{IsWithin, AreWithin, placed_within, stands-more}
use Rattle.gc_model.proofs.RootsMoved.{scoped-more, frames-more, globals-more, owned-more}
use Rattle.gc_model.proofs.Thrown.{thrown-more}
use Rattle.gc_model.proofs.HoldsParts.{same_held-itself, places_changed}
use Rattle.gc_model.proofs.Hosts.{hosts-added, hosts-made}
use Rattle.gc_model.proofs.HoldsPush.{with_root, holds_push}
use Rattle.gc_model.proofs.PointParts.{HeldAt}

placed_at-new : (place : Placing) (n word : ℕ) → placed_at place n word n ≡ Some word
placed_at-new place n word = grind (arith, common_steps)

placed_at-old : (place : Placing) (n word position : ℕ) → position ≢ n → placed_at place n word position ≡ place position
placed_at-old place n word position ne = grind (arith, common_steps)

placed_at-cases : (place : Placing) (n word position w : ℕ) → placed_at place n word position ≡ Some w → ((position ≡ n) × (word ≡ w)) ⊎ ((position ≢ n) × (place position ≡ Some w))
placed_at-cases place n word position w e = grind (arith, common_steps)

-- What an allocation and its writes left: one more object, which stands for the new one.
pub record IsMadeObject {D : Type 0} (layouts : Layouts) (t : Table D) (names : Names) (o : Object D) (old new : HeapView) (word : ℕ) : Type 0 where
  pub object : HeapObject
  pub stands : Stands layouts t.types names o object
  pub typed : IsTypedObject t.types t.objects o
  pub free : get old.content word ≡ None
  pub is_even : word % 2 ≡ 0
  pub not_null : 0 < word
  pub here : get new.content word ≡ Some object
  pub others : (q : ℕ) → q ≢ word → get new.content q ≡ get old.content q
  pub attached : new.attached ≡ old.attached
  pub capacity : new.capacity ≡ old.capacity
  pub allocated : layouts ≡ Null → new.allocated + 1 ≡ round_up (old.allocated + 1) alignment + object_size Null t.types o

module _ {D : Type 0} (layouts : Layouts) (s : StoreView D) (t : Table D) (place : Placing) (o : Object D) (heap : HeapView) (word : ℕ) (holds : Holds layouts s t place) (made : IsMadeObject layouts t (naming place s.ids) o s.heap heap word) where
  abbrev place' : Placing
  place' = placed_at place (length t.objects) word

  -- a placed position is one of the table
  placed_below : (position w : ℕ) → place position ≡ Some w → position < length t.objects
  placed_below position w e = let held = holds.objects.placed position w e in slice_get_within t.objects position held.entry held.in_table

  within : IsWithin place place'
  within position w e =
      let below = placed_below position w e in
      let ne : position ≢ length t.objects = λ same. absurd (omega arith) in
      placed_at-old place (length t.objects) word position ne ∙ e

  names_within : AreWithin (naming place s.ids) (naming place' s.ids)
  names_within = placed_within place place' s.ids within

  -- an object that was held is held where it was
  held_old : (position w : ℕ) → place position ≡ Some w → HeldAt layouts (add_object o t) (naming place' s.ids) heap.content position w
  held_old position w e =
      let held = holds.objects.placed position w e in
      let ne : w ≢ word = λ same. none-some held.object (sym made.free ∙ ap (get s.heap.content) (sym same) ∙ held.in_heap) in
      record {
        object = held.object;
        entry = held.entry;
        in_heap = made.others w ne ∙ held.in_heap;
        in_table = slice_get-push_old t.objects o position held.entry held.in_table;
        stands = stands-more (naming place s.ids) (naming place' s.ids) names_within layouts t.types held.entry held.object held.stands;
      }

  held_new : HeldAt layouts (add_object o t) (naming place' s.ids) heap.content (length t.objects) word
  held_new = record {
    object = made.object;
    entry = o;
    in_heap = made.here;
    in_table = slice_get-push_new t.objects o;
    stands = stands-more (naming place s.ids) (naming place' s.ids) names_within layouts t.types o made.object made.stands;
  }

  held : (position w : ℕ) → place' position ≡ Some w → HeldAt layouts (add_object o t) (naming place' s.ids) heap.content position w
  held position w e =
      elim (placed_at-cases place (length t.objects) word position w e) [
        | inl new ↦ subst (λ (p : ℕ). HeldAt layouts (add_object o t) (naming place' s.ids) heap.content p w) (sym new.0) (subst (λ (q : ℕ). HeldAt layouts (add_object o t) (naming place' s.ids) heap.content (length t.objects) q) new.1 held_new)
        | inr old ↦ held_old position w old.1
      ]

  only : (w : ℕ) (object : HeapObject) → get heap.content w ≡ Some object → (position : ℕ) × (place' position ≡ Some w)
  only w object e =
      elim (eqb w word) as (λ b. eqb w word ≡ b → (position : ℕ) × (place' position ≡ Some w)) [
        | true ↦ λ same. let is : w ≡ word = grind (arith, common_steps, same) in (length t.objects, placed_at-new place (length t.objects) word ∙ ap Some (sym is))
        | false ↦ λ differs.
            let ne : w ≢ word = grind (arith, common_steps, differs) in
            let before : get s.heap.content w ≡ Some object = sym (made.others w ne) ∙ e in
            let p = holds.objects.only w object before in
            (p.0, within p.0 w p.1)
      ] refl

  -- places are even and not 0
  even : (w : ℕ) (object : HeapObject) → get heap.content w ≡ Some object → (w % 2 ≡ 0) × (0 < w)
  even w object e =
      elim (eqb w word) as (λ b. eqb w word ≡ b → (w % 2 ≡ 0) × (0 < w)) [
        | true ↦ λ same. let is : w ≡ word = grind (arith, common_steps, same) in (ap (λ k. k % 2) is ∙ made.is_even, subst (λ k. 0 < k) (sym is) made.not_null)
        | false ↦ λ differs.
            let ne : w ≢ word = grind (arith, common_steps, differs) in
            holds.objects.even w object (sym (made.others w ne) ∙ e)
      ] refl

  -- an old position is not at the new place
  apart : (position w : ℕ) → place position ≡ Some w → word ≡ w → ⊥
  apart position w e same =
      let held = holds.objects.placed position w e in
      none-some held.object (sym made.free ∙ ap (get s.heap.content) same ∙ held.in_heap)

  injective : (p q w : ℕ) → place' p ≡ Some w → place' q ≡ Some w → p ≡ q
  injective p q w e f =
      elim (placed_at-cases place (length t.objects) word p w e) [
        | inl new ↦ elim (placed_at-cases place (length t.objects) word q w f) [
          | inl new' ↦ new.0 ∙ sym new'.0
          | inr old' ↦ absurd (apart q w old'.1 new.1)
        ]
        | inr old ↦ elim (placed_at-cases place (length t.objects) word q w f) [
          | inl new' ↦ absurd (apart p w old.1 new'.1)
          | inr old' ↦ holds.objects.injective p q w old.1 old'.1
        ]
      ]

  made_by_kind : (k : Layouts) → layouts ≡ k → KindHolds k t place s.heap → KindHolds k (add_object o t) place' heap
  made_by_kind Null is kind = record {
    all_held = λ position below.
        elim (eqb position (length t.objects)) as (λ b. eqb position (length t.objects) ≡ b → (w : ℕ) × (place' position ≡ Some w)) [
          | true ↦ λ same. let e : position ≡ length t.objects = grind (arith, common_steps, same) in (word, ap place' e ∙ placed_at-new place (length t.objects) word)
          | false ↦ λ differs.
              let ne : position ≢ length t.objects = grind (arith, common_steps, differs) in
              let p = kind.all_held position (omega (arith, below, length_push t.objects o)) in
              (p.0, within position p.0 p.1)
        ] refl;
    allocated = made.allocated is ∙ ap (λ k. round_up k alignment + object_size Null t.types o) kind.allocated ∙ sym (next_after-push t.types 1 t.objects o);
  }
  made_by_kind Counting is kind = tt
  made_by_kind Copying is kind = tt

  -- a position of before is placed where it was
  back : (position w : ℕ) → position < length t.objects → place' position ≡ Some w → place position ≡ Some w
  back position w below e =
      elim (placed_at-cases place (length t.objects) word position w e) [
        | inl new ↦ absurd (omega (arith, below, new.0))
        | inr old ↦ old.1
      ]

  elsewhere : (position w : ℕ) → place position ≡ Some w → w ≢ word
  elsewhere position w e same = apart position w e (sym same)

  -- the host values, where the object is no host object
  abbrev KeepsHosts : FinMap nat_cmp D → Type 0
  KeepsHosts hosts = HostsBy (add_object o t).objects place' heap.content hosts

  hosts_kept : ¬ IsHost (Some o) → KeepsHosts s.hosts
  hosts_kept not_host = hosts-added t.objects o place place' word s.heap.content heap.content within back elsewhere made.others not_host s.hosts holds.hosts

  -- and where it is one, whose value was put under an id that no value had
  hosts_more : (d : D) → o ≡ host d → (id : ℕ) → HostStands id made.object → get s.hosts id ≡ None → KeepsHosts (insert s.hosts id d)
  hosts_more d is_host id stands fresh =
      hosts-made t.objects o place place' word s.heap.content heap.content within back elsewhere made.others d is_host id made.object stands made.here (placed_at-new place (length t.objects) word) s.hosts fresh holds.hosts

  -- the store holds the table with the object, which no root names yet
  holds_with : (hosts : FinMap nat_cmp D) → KeepsHosts hosts → t.made ≡ true → Holds layouts (record s { heap = heap; hosts = hosts }) (add_object o t) place'
  holds_with hosts kept is_made =
      places_changed holds
      (record {
        made = made.attached ∙ holds.memory.made;
        capacity = made.capacity ∙ holds.memory.capacity;
        no_pages = holds.memory.no_pages;
        no_objects = λ unmade. absurd (cc (sym is_made ∙ unmade));
      })
      (record { placed = held; only = only; injective = injective; even = even })
      (made_by_kind layouts refl holds.by_kind)
      (scoped-more place place' within t.pushes t.scoped s.scoped holds.scoped)
      (frames-more place place' within t.frames s.frames holds.frames)
      (globals-more place place' within t.globals s.globals holds.globals)
      (owned-more place place' within t.owns s.owns t.owned s.owned holds.owned)
      (thrown-more place place' within t.objects o t.pending s.pending holds.pending)
      kept
      (typed-made t.types t.objects holds.typed o made.typed)

  pub holds_add : ¬ IsHost (Some o) → t.made ≡ true → Holds layouts (record s { heap = heap }) (add_object o t) place'
  holds_add not_host is_made = holds_with s.hosts (hosts_kept not_host) is_made

  -- the store holds the table with the object, and a new root that names it
  pub holds_make : ¬ IsHost (Some o) → t.made ≡ true → roots_full t ≡ false → Holds layouts (with_root heap word s) (add_rooted o t) place'
  holds_make not_host is_made room =
      holds_push layouts (record s { heap = heap }) (add_object o t) place' (at (length t.objects)) heap word (holds_add not_host is_made) room
      (same_held-itself heap) (placed_at-new place (length t.objects) word) made.not_null

  pub holds_make_host : (d : D) → o ≡ host d → (id : ℕ) → HostStands id made.object → get s.hosts id ≡ None → t.made ≡ true → roots_full t ≡ false
      → Holds layouts (with_root heap word (record s { hosts = insert s.hosts id d })) (add_rooted o t) place'
  holds_make_host d is_host id stands fresh is_made room =
      holds_push layouts (record s { heap = heap; hosts = insert s.hosts id d }) (add_object o t) place' (at (length t.objects)) heap word (holds_with (insert s.hosts id d) (hosts_more d is_host id stands fresh) is_made) room
      (same_held-itself heap) (placed_at-new place (length t.objects) word) made.not_null
