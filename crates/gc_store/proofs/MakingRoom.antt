-- A collection for want of room, and the growth after it.
use Rattle.std.proofs.Common.{◌≡◌, ℕ, ◌-◌, ◌<◌, ◌≤◌, inl, inr, Bool, true, false, Ok, Err, refl, sym, ◌∙◌, subst}
use Rattle.gc_types.specs.declared.kind.Layouts.{Layouts}
use Rattle.gc_model.specs.Table.{Table}
use Rattle.gc_model.specs.Allocation.{Limits}
use Rattle.gc_model.specs.Stores.{StoreView}
use Rattle.gc_heap.specs.Content.{IsHeap}
use Rattle.gc_model.specs.Accounts.{Account, HoldsAccount}
use Rattle.gc_store.specs.Expansion.{CollectsStore, CollectsFor, ExpandsStore, WantsPages, MayCollectTable, enough, grows, unused_bytes}
use Rattle.gc_store.specs.Places.{MayGetPages}
use Rattle.gc_model.specs.Policy.{PolicyState, policy_state}
use Rattle.gc_model.proofs.AccountLemmas.{allocated_is}
use Rattle.gc_store.proofs.Expanding.{grows_pages}

-- the bytes of the heap beside the allocated ones are those by the account
pub unused_is : {D : Type 0} (layouts : Layouts) (s : StoreView D) (t : Table D) (a : Account) (limits : Limits) → IsHeap layouts s.heap → HoldsAccount layouts s t a → s.heap.capacity - s.heap.allocated ≡ unused_bytes layouts (policy_state t a limits)
unused_is layouts s t a limits heap holds i = holds.holds.memory.capacity i - allocated_is layouts s t holds.place a.held holds.holds holds.account.held heap i

-- what the table came to by a collection, where its heap is made
pub record FollowsGc {D : Type 0} (layouts : Layouts) (p : PolicyState D) (new : StoreView D) : Type 0 where
  pub after : PolicyState D
  pub collects : MayCollectTable layouts p after
  pub holds : HoldsAccount layouts new after.table after.account
  pub table : after.table ≡ p.table
  pub limits : after.limits ≡ p.limits

pub gc_follows : {D : Type 0} (layouts : Layouts) (old new : StoreView D) (p : PolicyState D) → HoldsAccount layouts old p.table p.account → (old.heap.attached ≡ true → CollectsStore layouts p new) → (old.heap.attached ≡ false → new ≡ old)
    → FollowsGc layouts p new
gc_follows {D} layouts old new p holds ran same =
    elim (old.heap.attached) as (λ b. old.heap.attached ≡ b → FollowsGc layouts p new) [
      | true ↦ λ made.
          let collected = ran made in
          record {
            after = collected.after;
            collects = inl (sym holds.holds.memory.made ∙ made, collected.collects);
            holds = collected.holds;
            table = collected.collects.table;
            limits = collected.collects.limits;
          }
      | false ↦ λ unmade. record {
        after = p;
        collects = inr (sym holds.holds.memory.made ∙ unmade, refl);
        holds = subst (λ (s : StoreView D). HoldsAccount layouts s p.table p.account) (sym (same unmade)) holds;
        table = refl;
        limits = refl;
      }
    ] refl

module _ {D : Type 0} (E : Type 0) (layouts : Layouts) (need : ℕ) (p : PolicyState D) (mid : StoreView D) (gc : FollowsGc layouts p mid) where
  -- the heap has as many bytes as are needed
  pub has_room : need ≤ unused_bytes layouts gc.after → CollectsFor {E = E} layouts need p p.limits (Ok tt) mid
  has_room least = record { after = gc.after; room = enough gc.collects least; pages = inl gc.table; holds = gc.holds; limits = sym gc.limits }

  module _ (limits' : Limits) (new : StoreView D) (wants : unused_bytes layouts gc.after < need) where
    pages_after : (t : Table D) → MayGetPages gc.after.limits.limit need gc.after.table t → MayGetPages p.limits.limit need p.table t
    pages_after t may = subst (λ (u : Table D). MayGetPages p.limits.limit need u t) gc.table (subst (λ (l : Limits). MayGetPages l.limit need gc.after.table t) gc.limits may)

    -- or it grew, or was refused to
    pub grew_room : (granted : Bool) → ExpandsStore layouts need gc.after limits' granted new → CollectsFor {E = E} layouts need p limits' (Ok tt) new
    grew_room granted grew = record {
      after = grew.after;
      room = grows gc.collects wants grew.expands;
      pages = pages_after grew.after.table (grows_pages gc.after.limits.limit need gc.after.table grew.after.table granted grew.grows);
      holds = grew.holds;
      limits = grew.limits;
    }

    pub wants_room : (e : E) → WantsPages layouts need gc.after limits' new → CollectsFor layouts need p limits' (Err e) new
    wants_room e wanted = record {
      after = wanted.after;
      room = record { mid = gc.after; collects = gc.collects; wants = wants; expanded = wanted.expanded };
      pages = pages_after wanted.after.table wanted.pages;
      holds = wanted.holds;
      limits = wanted.limits;
    }
