-- The marks are cleared, in memory.
use Rattle.std.proofs.Common.{◌≡◌, ℕ, ◌+◌, ◌-◌, ◌*◌, ◌/◌, ◌<◌, ◌≤◌, List, [], ◌∷◌, refl, sym, ap, subst, ◌∙◌, inl, inr, arith}
use Rattle.std.proofs.lemmas.Bool.{cases_eq, cases_lt}
use Rattle.gc_memory.specs.Lists.{In, here, occ}
use Rattle.gc_memory.proofs.ListLemmas.{occ-In, occ-same}
use Rattle.gc_free.specs.Space.{places_end}
use Rattle.gc_drc.specs.declared.space.CountedSpace.{CountedSpace}
use Rattle.gc_drc.specs.Layout.{counting_size_at, block_of}
use Rattle.gc_drc.specs.View.{View}
use Rattle.gc_drc.specs.PlaceLaws.{spread-lies, spread-apart}
use Rattle.gc_drc.specs.SpaceLaws.{blocks_apart}
use Rattle.gc_drc.specs.CollectOps.{same, unmarked}
use Rattle.gc_drc.specs.CollectMemory.{Context, At, CanRelease, CanUnmark}
use Rattle.gc_drc.specs.CollectWalk.{IsBorder, IsNext, CanWalk, walk_end}
use Rattle.gc_drc.specs.CollectClear.{AllMarked, Unmarked}
use Rattle.gc_drc.proofs.WalkStates.{Clearing, Clears}
use Rattle.gc_drc.proofs.OccLemmas.{same-is, same-not, occ-cases, occ-without}
use Rattle.gc_drc.proofs.TraceLemmas.{done_unmarked}
use Rattle.gc_drc.proofs.WalkMemory.{end_is}

-- where the block of an object lies among the managed places
record Inside (v : View) (s : CountedSpace) (p : ℕ) : Type 0 where
  from : 16 ≤ p
  some : 0 < block_of (v.sizes p)
  to : p + block_of (v.sizes p) ≤ walk_end s

inside_at : (c : Context) (v : View) (s : CountedSpace) (p : ℕ) → At c v s → In p v.places → Inside v s p
inside_at c v s p at i =
    let l = spread-lies v.sizes 16 (places_end s.free.space.capacity) p v.places (blocks_apart v s at.holds) i in
    let to = l.to in
    let end = end_is v s at.holds in
    record { from = l.from; some = l.some; to = omega arith }

-- the walk with the view's own places
module _ (c : Context) (places : List ℕ) (s : CountedSpace) (end place : ℕ) (w : Clearing c places s end place) where
  held_of : {p : ℕ} → In p places → In p w.view.places
  held_of {p} i = subst (λ (ps : List ℕ). In p ps) (sym w.places_are) i

  of_held : {p : ℕ} → In p w.view.places → In p places
  of_held {p} i = subst (λ (ps : List ℕ). In p ps) w.places_are i

  at_one : place < end → In place places
  at_one h = elim w.is_at [ inl e ↦ absurd (omega arith) | inr i ↦ i ]

  -- the place behind its block
  border_is : (from : ℕ) → place < end → from ≡ place + block_of (counting_size_at s.memory place) → IsBorder w.view from
  border_is from h e =
      let held = held_of (at_one h) in
      inr (place, (held, e ∙ ap (λ (n : ℕ). place + block_of n) (w.at.holds.objects place held).size_is))

  -- an object is passed, and its mark is cleared
  passed : (s' : CountedSpace) (from next : ℕ) → place < end → from ≡ place + block_of (counting_size_at s.memory place) → IsNext w.view.places (walk_end s) from next
      → At c (unmarked w.view place) s' → Clearing c places s' end next
  passed s' from next h e n at' =
      let i = at_one h in
      let held = held_of i in
      let is_marked = w.left place i (omega arith) in
      let apart = blocks_apart w.view s w.at.holds in
      let here_is = inside_at c w.view s place w.at held in
      let some = here_is.some in
      let from_is : from ≡ place + block_of (w.view.sizes place) = e ∙ ap (λ (z : ℕ). place + block_of z) (w.at.holds.objects place held).size_is in
      let from_on = n.from_on in
      let same_end = w.end_is in
      record {
        view = unmarked w.view place;
        at = at';
        done = done_unmarked c.graph w.view place w.done is_marked;
        places_are = w.places_are;
        is_at = elim n.is [ inl is_end ↦ inl (is_end ∙ same_end) | inr j ↦ inr (of_held j) ];
        cleared = λ p j before.
            let held_p = held_of j in
            let without = occ-without place p w.view.marked is_marked in
            elim (cases_eq p place) [
              | inl is ↦
                  let one : same p place ≡ 1 = same-is p place is in
                  let once = w.at.holds.marked_part.once p in
                  omega arith
              | inr ne ↦ elim (cases_lt p place) [
                | inl low ↦ let none = w.cleared p j low in omega arith
                | inr high ↦ (
                    let behind = spread-apart w.view.sizes 16 (places_end s.free.space.capacity) place p w.view.places apart held held_p (omega arith) in
                    elim (n.skips p held_p) [ inl under ↦ absurd (omega arith) | inr over ↦ absurd (omega arith) ])
              ]
            ];
        left = λ p j after.
            let without = occ-without place p w.view.marked is_marked in
            let other : same p place ≡ 0 = same-not p place (λ (is : p ≡ place). absurd (omega arith)) in
            let marks = w.left p j (omega arith) in
            omega arith;
        end_is = ap (λ (z : ℕ). z / 16 * 16) (at'.intact.same_length ∙ sym w.at.intact.same_length) ∙ same_end;
      }

-- where the first object lies
pub clear_begins : (s : CountedSpace) (end place : ℕ) → end ≡ walk_end s → ((c : Context) (v : View) → At c v s → IsBorder v 16 → IsNext v.places (walk_end s) 16 place) → Clears s s end place
clear_begins s end place is next c places a =
    let n = next c a.view a.at (inl refl) in
    record {
      view = a.view;
      at = a.at;
      done = a.done;
      places_are = a.places_are;
      is_at = elim n.is [ inl e ↦ inl (e ∙ sym is) | inr i ↦ inr (subst (λ (ps : List ℕ). In place ps) a.places_are i) ];
      cleared = λ p i h.
          let held = subst (λ (ps : List ℕ). In p ps) (sym a.places_are) i in
          let l = inside_at c a.view s p a.at held in
          let from = l.from in
          elim (n.skips p held) [ inl low ↦ absurd (omega arith) | inr behind ↦ absurd (omega arith) ];
      left = λ p i h. a.marks p i;
      end_is = sym is;
    }

module _ (s s' : CountedSpace) (end place : ℕ) (clears : Clears s s' end place) where
  pub clear_release : place < end → (c : Context) × ((places : List ℕ) × AllMarked c places s) → CanRelease s' place
  clear_release h can =
      let w = clears can.0 can.1.0 can.1.1 in
      record { context = can.0; view = w.view; at = w.at; held = held_of can.0 can.1.0 s' end place w (at_one can.0 can.1.0 s' end place w h) }

  pub clear_can_walk : (from : ℕ) → place < end → 16 ≤ end → from ≡ place + block_of (counting_size_at s'.memory place) → (c : Context) × ((places : List ℕ) × AllMarked c places s) → CanWalk s' from
  clear_can_walk from h some e can =
      let w = clears can.0 can.1.0 can.1.1 in
      let end_w = w.end_is in
      record { context = can.0; view = w.view; at = w.at; border = border_is can.0 can.1.0 s' end place w from h e; some = omega arith }

  pub clear_can_unmark : place < end → (c : Context) × ((places : List ℕ) × AllMarked c places s) → CanUnmark s' place
  clear_can_unmark h can =
      let w = clears can.0 can.1.0 can.1.1 in
      record { context = can.0; view = w.view; at = w.at; is_marked = w.left place (at_one can.0 can.1.0 s' end place w h) (omega arith) }

  pub clear_on : (s2 : CountedSpace) (from next : ℕ) → place < end → from ≡ place + block_of (counting_size_at s'.memory place)
      → ((c : Context) (v : View) → At c v s' → IsBorder v from → IsNext v.places (walk_end s') from next)
      → ((c : Context) (v : View) → At c v s' → 0 < occ place v.marked → At c (unmarked v place) s2) → Clears s s2 end next
  clear_on s2 from next h e next_is unmarks c places a =
      let w = clears c places a in
      let n = next_is c w.view w.at (border_is c places s' end place w from h e) in
      passed c places s' end place w s2 from next h e n (unmarks c w.view w.at (w.left place (at_one c places s' end place w h) (omega arith)))

  -- each step of the walk goes on
  pub clear_less : (from next : ℕ) → place < end → from ≡ place + block_of (counting_size_at s'.memory place)
      → ((c : Context) (v : View) → At c v s' → IsBorder v from → IsNext v.places (walk_end s') from next)
      → (c : Context) × ((places : List ℕ) × AllMarked c places s) → end - next < end - place
  clear_less from next h e next_is can =
      let w = clears can.0 can.1.0 can.1.1 in
      let held = held_of can.0 can.1.0 s' end place w (at_one can.0 can.1.0 s' end place w h) in
      let n = next_is can.0 w.view w.at (border_is can.0 can.1.0 s' end place w from h e) in
      let l = inside_at can.0 w.view s' place w.at held in
      let some = l.some in
      let from_on = n.from_on in
      let from_is : from ≡ place + block_of (w.view.sizes place) = e ∙ ap (λ (z : ℕ). place + block_of z) (w.at.holds.objects place held).size_is in
      omega arith

  pub clear_ends : end ≤ place → (c : Context) (places : List ℕ) → AllMarked c places s → Unmarked c places s'
  clear_ends h c places a =
      let w = clears c places a in
      record {
        view = w.view;
        at = w.at;
        done = w.done;
        places_are = w.places_are;
        none_marked = no_more w.view.marked (λ x. elim (occ-cases x w.view.marked) [
          | inl none ↦ none
          | inr some ↦
              let held = w.at.holds.marked_part.inside x (occ-In x w.view.marked some) in
              let l = inside_at c w.view s' x w.at held in
              let to = l.to in
              let block = l.some in
              let end_w = w.end_is in
              w.cleared x (of_held c places s' end place w held) (omega arith)
        ]);
      }
    where
      no_more : (xs : List ℕ) → ((x : ℕ) → occ x xs ≡ 0) → xs ≡ []
      no_more [] none = refl
      no_more (x ∷ xs) none = absurd (let one = occ-same x xs in let zero_x = none x in omega arith)

-- a memory without managed places holds nothing
pub clear_nothing : (s : CountedSpace) (end : ℕ) → end ≡ walk_end s → end < 16 → (c : Context) (places : List ℕ) → AllMarked c places s → Unmarked c places s
clear_nothing s end is h c places a =
    record {
      view = a.view;
      at = a.at;
      done = a.done;
      places_are = a.places_are;
      none_marked = empty a.view.marked (λ x i.
          let l = inside_at c a.view s x a.at (a.at.holds.marked_part.inside x i) in
          let from = l.from in
          let to = l.to in
          let some = l.some in
          absurd (omega arith));
    }
  where
    empty : (xs : List ℕ) → ((x : ℕ) → In x xs → ⊥) → xs ≡ []
    empty [] none = refl
    empty (x ∷ xs) none = elim (none x here) [ ]

pub first_clear : (s : CountedSpace) (end : ℕ) → end ≡ walk_end s → 16 ≤ end → (c : Context) × ((places : List ℕ) × AllMarked c places s) → CanWalk s 16
first_clear s end is some can = record { context = can.0; view = can.1.1.view; at = can.1.1.at; border = inl refl; some = omega arith }
