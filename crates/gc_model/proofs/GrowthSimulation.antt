-- A growth of a heap is one of the table that its store holds.
use Rattle.std.proofs.Common.{◌≡◌, ℕ, ◌+◌, ◌*◌, ◌/◌, inl, inr, Bool, true, false, Option, refl, sym, ap, ◌∙◌, subst, arith}
use Rattle.gc_types.specs.declared.kind.Layouts.{Layouts}
use Rattle.gc_model.specs.Table.{Table}
use Rattle.gc_view.specs.Pages.{page}
use Rattle.gc_model.specs.Allocation.{Limits, asked, MayGrow, IsRefusedGrowth}
use Rattle.gc_view.specs.Heaps.{HeapView}
use Rattle.gc_model.specs.Stores.{StoreView}
use Rattle.gc_model.specs.Reach.{IsReached}
use Rattle.gc_model.proofs.HoldsHeap.{IsGrownHeap, holds_pages}
use Rattle.gc_heap.specs.Content.{IsHeap}
use Rattle.gc_heap.specs.Heap.{allocated_in_more}
use Rattle.gc_owner.specs.Growing.{OwnerState, state_of, GrowsReadied, AsksPages, unasked, refused, granted, pages_of, heap_after}
use Rattle.gc_model.specs.Policy.{PolicyState, GrowsTable, table_after}
use Rattle.gc_owner.specs.RootColumns.{roots_of}
use Rattle.gc_heap.specs.Collection.{has_host}
use Rattle.gc_model.specs.Shown.{shown}
use Rattle.gc_model.proofs.AccountLemmas.{account_kept}
use Rattle.gc_model.proofs.CollectedRoom.{OnlyKept}
use Rattle.gc_model.proofs.KeptPlaces.{StayAt}
use Rattle.gc_owner.proofs.Begins.{numbers_kept}
use Rattle.gc_model.proofs.Simulation.{Agrees, ready_follows}

-- what a limit said to a growth of a heap with so many pages
abbrev pub Answered : Bool → Option ℕ → ℕ → ℕ → Type 0
Answered true limit pages bytes = MayGrow limit pages bytes
Answered false limit pages bytes = IsRefusedGrowth limit pages bytes

pub answered : (pages bytes : ℕ) (limits limits' : Limits) (ok : Bool) → AsksPages pages bytes limits ok limits' → Answered ok limits.limit pages bytes
answered pages bytes limits limits' false (unasked above) = inl above
answered pages bytes limits limits' false (refused within above counted) = inr above
answered pages bytes limits limits' true (granted may) = may

-- what the table came to by a growth
pub record FollowsGrowth {D : Type 0} (layouts : Layouts) (s : StoreView D) (bytes : ℕ) (h e : OwnerState D) (p : PolicyState D) (ok : Bool) : Type 0 where
  pub after : PolicyState D
  pub grows : GrowsTable layouts bytes p ok after
  pub agrees : Agrees layouts s e after
  pub table : after.table ≡ table_after ok bytes p.table
  pub answer : Answered ok p.limits.limit p.table.pages bytes
  pub stay : StayAt layouts (IsReached p.table) p.account.places after.account.places
  pub only : ok ≡ false → OnlyKept layouts p → OnlyKept layouts after

-- as many pages as there are bytes for
whole_pages : (capacity pages : ℕ) → capacity ≡ page * pages → capacity / page ≡ pages
whole_pages capacity pages is = omega arith

more_pages : (capacity pages more : ℕ) → capacity ≡ page * pages → capacity + page * more ≡ page * (pages + more)
more_pages capacity pages more is = omega arith

module _ {D : Type 0} (layouts : Layouts) (s : StoreView D) (bytes : ℕ) (h : OwnerState D) (p : PolicyState D) (agrees : Agrees layouts s h p) where
  abbrev grown_state : Limits → Bool → OwnerState D
  grown_state limits ok = state_of (record h.owner { heap = heap_after layouts ok bytes h.owner.heap }) limits

  abbrev grown_table : Limits → Bool → PolicyState D
  grown_table limits ok = record p { table = table_after ok bytes p.table; limits = limits }

  pages_are : pages_of h.owner.heap ≡ p.table.pages
  pages_are = whole_pages h.owner.heap.capacity p.table.pages agrees.holds.holds.memory.capacity

  -- a heap that has grown, or has not, holds the table that has
  growth_agrees : (limits : Limits) (ok : Bool) → IsHeap layouts (heap_after layouts ok bytes h.owner.heap) → Agrees layouts s (grown_state limits ok) (grown_table limits ok)
  growth_agrees limits false heap = record { holds = agrees.holds; limits = refl; is_heap = heap; can = agrees.can; in_frames = agrees.in_frames; attached = agrees.attached }
  growth_agrees limits true heap =
      let new : HeapView = heap_after layouts true bytes h.owner.heap in
      let pages : ℕ = p.table.pages + asked p.table.pages bytes in
      let is_grown : IsGrownHeap layouts h.owner.heap new pages = record {
        attached = agrees.attached;
        content = refl;
        capacity = more_pages h.owner.heap.capacity (pages_of h.owner.heap) (asked (pages_of h.owner.heap) bytes) (agrees.holds.holds.memory.capacity ∙ ap (λ (n : ℕ). page * n) (sym pages_are)) ∙ ap (λ (n : ℕ). page * (n + asked n bytes)) pages_are;
        allocated = λ null. ap (λ (k : Layouts). allocated_in_more k h.owner.heap (page * asked (pages_of h.owner.heap) bytes)) null;
      } in
      record {
        holds = record {
          place = agrees.holds.place;
          holds = holds_pages layouts (shown s h.owner) p.table agrees.holds.place new pages is_grown agrees.holds.holds;
          account = account_kept (shown s h.owner) (shown s (grown_state limits true).owner) agrees.holds.place p.account refl refl refl agrees.holds.account;
        };
        limits = refl;
        is_heap = heap;
        can = numbers_kept layouts h.owner.types.declarations h.owner.heap h.owner.heap.attached new.capacity new.allocated (roots_of h.owner.roots) (has_host h.owner.hosts) agrees.can;
        in_frames = agrees.in_frames;
        attached = agrees.attached;
      }

  -- a growth that was refused leaves what the heap holds
  refused_only : (limits : Limits) (ok : Bool) → ok ≡ false → OnlyKept layouts p → OnlyKept layouts (grown_table limits ok)
  refused_only limits false _ only = only
  refused_only limits true is only = absurd (cc)

pub growth_follows : {D : Type 0} (layouts : Layouts) (s : StoreView D) (bytes : ℕ) (h : OwnerState D) (p : PolicyState D) (agrees : Agrees layouts s h p) (ok : Bool) (e : OwnerState D) → GrowsReadied layouts bytes h ok e → FollowsGrowth layouts s bytes h e p ok
growth_follows {D} layouts s bytes h p agrees ok e grew =
    let ready = ready_follows layouts s h p agrees grew.ready grew.readied in
    let asks : AsksPages ready.after.table.pages bytes ready.after.limits ok e.limits =
    subst (λ (n : ℕ). AsksPages n bytes ready.after.limits ok e.limits) (pages_are layouts s bytes grew.ready ready.after ready.agrees)
    (subst (λ (l : Limits). AsksPages (pages_of grew.ready.owner.heap) bytes l ok e.limits) (sym ready.agrees.limits) grew.asks) in
    record {
      after = grown_table layouts s bytes grew.ready ready.after ready.agrees e.limits ok;
      grows = record { ready = ready.after; readied = ready.readies; asks = asks; after = refl };
      agrees = subst (λ (x : OwnerState D). Agrees layouts s x (grown_table layouts s bytes grew.ready ready.after ready.agrees e.limits ok)) (sym grew.after)
          (growth_agrees layouts s bytes grew.ready ready.after ready.agrees e.limits ok (subst (λ (x : OwnerState D). IsHeap layouts x.owner.heap) grew.after grew.is_heap));
      table = ap (λ (t : Table D). table_after ok bytes t) ready.table;
      answer = subst (λ (n : ℕ). Answered ok p.limits.limit n bytes) (ap (λ (t : Table D). t.pages) ready.table)
          (subst (λ (l : Limits). Answered ok l.limit ready.after.table.pages bytes) ready.limits (answered ready.after.table.pages bytes ready.after.limits e.limits ok asks));
      stay = ready.stay;
      only = λ is before. refused_only layouts s bytes grew.ready ready.after ready.agrees e.limits ok is (ready.only before);
    }
