-- How an allocation and a growth begin: the heap's first pages, and a collection that is due.
use Rattle.std.proofs.Common.{◌≡◌, ℕ, ◌*◌, ◌<◌, ◌≤◌, inl, inr, Bool, true, false, cond, Option, Ok, refl, sym, ap, ◌∙◌, subst}
use Rattle.std.specs.Prelude.{IfSome}
use Rattle.gc_types.specs.declared.kind.Layouts.{Layouts}
use Rattle.gc_model.specs.Table.{Table, make_heap, with_pages}
use Rattle.gc_view.specs.Pages.{page, max_pages}
use Rattle.gc_model.specs.Allocation.{Limits, MayRefuse, MayMakeHeap, IsRefusedHeap, GetsPages, same, more}
use Rattle.gc_view.specs.Heaps.{HeapView}
use Rattle.gc_model.specs.Reach.{IsReached}
use Rattle.gc_model.specs.Words.{Placing}
use Rattle.gc_model.specs.Stores.{StoreView}
use Rattle.gc_model.proofs.HoldsHeap.{IsMadeHeap, holds_heap}
use Rattle.gc_heap.specs.Content.{IsHeap}
use Rattle.gc_heap.specs.Heap.{allocated_at_first}
use Rattle.gc_heap.specs.Collection.{has_host}
use Rattle.gc_owner.specs.RootColumns.{roots_of}
use Rattle.gc_owner.specs.Owners.{OwnerView, CanBegin}
use Rattle.gc_owner.specs.Growing.{OwnerState, state_of, AsksFirst, already, granted, refused, GetsFirst, MakesHeap, BeginsHeap, NotBegun}
use Rattle.gc_owner.proofs.Begins.{attached_kept}
use Rattle.gc_model.specs.Accounts.{Account, HoldsAccount, is_due}
use Rattle.gc_model.specs.Policy.{PolicyState, MakesTable, Dues}
use Rattle.gc_model.specs.Shown.{shown, DuesOwner}
use Rattle.gc_model.proofs.RootsShown.{SlotsInFrames}
use Rattle.gc_model.proofs.AccountLemmas.{account_kept}
use Rattle.gc_model.proofs.KeptPlaces.{StayAt, stay-same, stay-trans, stay-cut}
use Rattle.gc_model.proofs.MadeHeaps.{made_heap}
use Rattle.gc_model.proofs.RetrySimulation.{MayHaveGrown}
use Rattle.gc_model.proofs.Simulation.{Agrees, collection_follows}

-- a heap that is made stays as it is
made_again : {D : Type 0} (t : Table D) → t.made ≡ true → make_heap t ≡ t
made_again t is i = record t { made = sym is i; pages = cond (is i) t.pages t.first }

-- an owner in a state holds a table in one, whether its heap is made or not
pub record Shows {D : Type 0} (layouts : Layouts) (s : StoreView D) (h : OwnerState D) (p : PolicyState D) : Type 0 where
  pub holds : HoldsAccount layouts (shown s h.owner) p.table p.account
  pub limits : p.limits ≡ h.limits
  pub is_heap : IsHeap layouts h.owner.heap
  pub can : CanBegin layouts h.owner
  pub in_frames : SlotsInFrames h.owner.roots

-- what the table came to once its heap was made
pub record FollowsMaking {D : Type 0} (layouts : Layouts) (s : StoreView D) (e : OwnerState D) (p : PolicyState D) : Type 0 where
  pub after : PolicyState D
  pub makes : MakesTable p true after
  pub agrees : Agrees layouts s e after
  pub account : after.account ≡ p.account
  pub table : after.table ≡ make_heap p.table
  pub limits : after.limits ≡ p.limits
  pub may : MayMakeHeap p.limits.limit p.table

-- what it came to before an allocation was tried
pub record FollowsBeginning {D : Type 0} (layouts : Layouts) (s : StoreView D) (counter : Option ℕ) (e : OwnerState D) (p : PolicyState D) : Type 0 where
  pub made : PolicyState D
  pub makes : MakesTable p true made
  pub after : PolicyState D
  pub dues : Dues layouts counter made after
  pub agrees : Agrees layouts s e after
  pub stay : StayAt layouts (IsReached p.table) p.account.places after.account.places
  pub table : after.table ≡ make_heap p.table
  pub limits : after.limits ≡ p.limits
  pub may : MayMakeHeap p.limits.limit p.table

module _ {D : Type 0} (layouts : Layouts) (s : StoreView D) (h : OwnerState D) (p : PolicyState D) (shows : Shows layouts s h p) where
  -- the heap that stood, or was made
  abbrev made_state : HeapView → Limits → OwnerState D
  made_state made limits = state_of (record h.owner { heap = made }) limits

  abbrev made_table : Limits → PolicyState D
  made_table limits = record p { table = make_heap p.table; limits = limits }

  stood_agrees : (made : HeapView) (limits : Limits) → h.owner.heap.attached ≡ true → made ≡ h.owner.heap → Agrees layouts s (made_state made limits) (made_table limits)
  stood_agrees made limits attached same_heap =
      let is_made : p.table.made ≡ true = sym shows.holds.holds.memory.made ∙ attached in
      record {
        holds = subst (λ (x : HeapView). HoldsAccount layouts (shown s (record h.owner { heap = x })) (make_heap p.table) p.account) (sym same_heap)
            (subst (λ (t : Table D). HoldsAccount layouts (shown s h.owner) t p.account) (sym (made_again p.table is_made)) shows.holds);
        limits = refl;
        is_heap = subst (IsHeap layouts) (sym same_heap) shows.is_heap;
        can = subst (λ (x : HeapView). CanBegin layouts (record h.owner { heap = x })) (sym same_heap) shows.can;
        in_frames = shows.in_frames;
        attached = ap (λ (x : HeapView). x.attached) same_heap ∙ attached;
      }

  got_agrees : (made : HeapView) (limits : Limits) → GetsFirst layouts s.first h.owner.heap made h.limits.limit → Agrees layouts s (made_state made limits) (made_table limits)
  got_agrees made limits gets =
      let unmade : p.table.made ≡ false = sym shows.holds.holds.memory.made ∙ gets.detached in
      let first : s.first ≡ p.table.first = shows.holds.holds.settings.first in
      let is_made : IsMadeHeap layouts made p.table.first = record {
        attached = ap (λ (x : HeapView). x.attached) gets.empty;
        content = ap (λ (x : HeapView). x.content) gets.empty;
        capacity = ap (λ (x : HeapView). x.capacity) gets.empty ∙ ap (λ (n : ℕ). page * n) first;
        allocated = λ null. ap (λ (x : HeapView). x.allocated) gets.empty ∙ ap (λ (k : Layouts). allocated_at_first k (page * s.first)) null;
      } in
      let lower : made.needs_gc ≡ h.owner.heap.needs_gc = ap (λ (x : HeapView). x.needs_gc) gets.empty ∙ sym (ap (λ (x : HeapView). x.needs_gc) (shows.is_heap.detached gets.detached)) in
      record {
        holds = record {
          place = shows.holds.place;
          holds = holds_heap layouts (shown s h.owner) p.table shows.holds.place made unmade is_made shows.holds.holds;
          account = account_kept (shown s h.owner) (shown s (made_state made limits).owner) shows.holds.place p.account refl refl lower shows.holds.account;
        };
        limits = refl;
        is_heap = subst (IsHeap layouts) (sym gets.empty) (made_heap layouts s.first h.owner.heap.scopes (subst (λ (n : ℕ). n ≤ max_pages) (sym first) shows.holds.holds.settings.first_fits) shows.is_heap.scopes);
        can = attached_kept layouts h.owner.types.declarations h.owner.heap made (page * s.first) (roots_of h.owner.roots) (has_host h.owner.hosts) shows.is_heap gets.detached (inl gets.empty) shows.can;
        in_frames = shows.in_frames;
        attached = ap (λ (x : HeapView). x.attached) gets.empty;
      }

  made_follows : (made : HeapView) (limits : Limits) → MakesHeap layouts s.first h.owner.heap made h.limits limits (Ok tt) → FollowsMaking layouts s (made_state made limits) p
  made_follows made limits (inl (attached, same_heap), same_limits) =
      let is_made : p.table.made ≡ true = sym shows.holds.holds.memory.made ∙ attached in
      let is_same : limits ≡ p.limits = same_limits ∙ sym shows.limits in
      record {
        after = made_table limits;
        makes = record { asks = subst (λ (l : Limits). AsksFirst p.table.made p.table.first p.limits true l) (sym is_same) (already is_made); after = refl };
        agrees = stood_agrees made limits attached same_heap;
        account = refl;
        table = refl;
        limits = is_same;
        may = λ unmade. absurd (cc (sym is_made ∙ unmade));
      }
  made_follows made limits (inr gets, same_limits) =
      let unmade : p.table.made ≡ false = sym shows.holds.holds.memory.made ∙ gets.detached in
      let is_same : limits ≡ p.limits = same_limits ∙ sym shows.limits in
      let may : IfSome p.limits.limit (λ most. p.table.first ≤ most) =
      subst (λ (l : Limits). IfSome l.limit (λ most. p.table.first ≤ most)) (sym shows.limits) (subst (λ (n : ℕ). IfSome h.limits.limit (λ most. n ≤ most)) shows.holds.holds.settings.first gets.granted) in
      record {
        after = made_table limits;
        makes = record { asks = subst (λ (l : Limits). AsksFirst p.table.made p.table.first p.limits true l) (sym is_same) (granted unmade may); after = refl };
        agrees = got_agrees made limits gets;
        account = refl;
        table = refl;
        limits = is_same;
        may = λ _. may;
      }

  pub making_follows : (e : OwnerState D) → BeginsHeap layouts s.first h e → FollowsMaking layouts s e p
  making_follows e begins =
      subst (λ (x : OwnerView D). FollowsMaking layouts s (state_of x e.limits) p) (sym begins.rest) (made_follows e.owner.heap e.limits begins.makes)

  pub beginning_follows : (counter : Option ℕ) (due : Bool) → due ≡ is_due counter p.account.tries → (m e : OwnerState D) → BeginsHeap layouts s.first h m → DuesOwner layouts due m e → FollowsBeginning layouts s counter e p
  beginning_follows counter due due_is m e begins dues = after_making dues
    where
      made : FollowsMaking layouts s m p
      made = making_follows m begins

      tries : due ≡ is_due counter made.after.account.tries
      tries = due_is ∙ ap (is_due counter) (ap (λ (a : _). a.tries) (sym made.account))

      -- what the table reaches lies where it lay, once the heap was made and from then on
      stays : (places : Placing) → StayAt layouts (IsReached made.after.table) made.after.account.places places → StayAt layouts (IsReached p.table) p.account.places places
      stays places stay =
          subst (λ (a : Account). StayAt layouts (IsReached p.table) a.places places) made.account
          (subst (λ (t : Table D). StayAt layouts (IsReached t) made.after.account.places places) made.table stay)

      after_making : DuesOwner layouts due m e → FollowsBeginning layouts s counter e p
      after_making (inl (is, ran)) =
          let collected = collection_follows layouts s m made.after made.agrees e ran in
          record {
            made = made.after;
            makes = made.makes;
            after = collected.after;
            dues = inl (sym tries ∙ is, collected.collects);
            agrees = collected.agrees;
            stay = stays collected.after.account.places (stay-cut layouts made.after.table made.after.account.places collected.after.account.places collected.collects.places);
            table = collected.collects.table ∙ made.table;
            limits = collected.collects.limits ∙ made.limits;
            may = made.may;
          }
      after_making (inr (is, same_state)) = record {
        made = made.after;
        makes = made.makes;
        after = made.after;
        dues = inr (sym tries ∙ is, refl);
        agrees = subst (λ (x : OwnerState D). Agrees layouts s x made.after) (sym same_state) made.agrees;
        stay = stays made.after.account.places (stay-same layouts (IsReached made.after.table) made.after.account.places);
        table = made.table;
        limits = made.limits;
        may = made.may;
      }

  -- the first pages were refused the table as they were refused the heap
  pub refusal_follows : (e : OwnerState D) → NotBegun s.first h e → MakesTable p false (record p { limits = e.limits })
  refusal_follows e no_pages =
      let unmade : p.table.made ≡ false = sym shows.holds.holds.memory.made ∙ no_pages.refused.detached in
      record {
        asks = subst (λ (l : Limits). AsksFirst p.table.made p.table.first l false e.limits) (sym shows.limits)
            (subst (λ (n : ℕ). AsksFirst p.table.made n h.limits false e.limits) shows.holds.holds.settings.first (refused unmade no_pages.refused.wanted no_pages.refused.above no_pages.refused.counted));
        after = refl;
      }

  pub no_heap_follows : (e : OwnerState D) → NotBegun s.first h e → IsRefusedHeap p.limits.limit p.table
  no_heap_follows e no_pages =
      let first : s.first ≡ p.table.first = shows.holds.holds.settings.first in
      record {
        unmade = sym shows.holds.holds.memory.made ∙ no_pages.refused.detached;
        wanted = subst (λ (n : ℕ). 0 < n) first no_pages.refused.wanted;
        above = subst (λ (l : Limits). MayRefuse l.limit p.table.first) (sym shows.limits) (subst (λ (n : ℕ). MayRefuse h.limits.limit n) first no_pages.refused.above);
      }

-- what the table reaches lies where it lay, through what follows such a beginning
pub stays_on : {D : Type 0} (layouts : Layouts) (s : StoreView D) (counter : Option ℕ) (e : OwnerState D) (p : PolicyState D) (begun : FollowsBeginning layouts s counter e p) (places : Placing) → StayAt layouts (IsReached begun.after.table) begun.after.account.places places
    → StayAt layouts (IsReached p.table) p.account.places places
stays_on {D} layouts s counter e p begun places stay =
    stay-trans layouts (IsReached p.table) p.account.places begun.after.account.places places begun.stay (subst (λ (t : Table D). StayAt layouts (IsReached t) begun.after.account.places places) begun.table stay)

-- the pages that a heap got
pub record GotPages {D : Type 0} (limit : Option ℕ) (bytes : ℕ) (t t' : Table D) : Type 0 where
  pub pages : ℕ
  pub gets : GetsPages limit t bytes pages
  pub is : t' ≡ with_pages pages t

pub got_pages : {D : Type 0} (limit : Option ℕ) (bytes : ℕ) (t u t' : Table D) → MayMakeHeap limit t → u ≡ make_heap t → MayHaveGrown limit bytes u t' → GotPages limit bytes t t'
got_pages {D} limit bytes t u t' may is grown = from (subst (λ (x : Table D). MayHaveGrown limit bytes x t') is grown)
  where
    from : MayHaveGrown limit bytes (make_heap t) t' → GotPages limit bytes t t'
    from (inl is_same) = record { pages = _; gets = same may; is = is_same }
    from (inr (may_grow, is_more)) = record { pages = _; gets = more may may_grow; is = is_more }
