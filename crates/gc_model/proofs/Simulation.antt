-- Steps of an owner are steps of the table that its store holds: a collection, and what makes ready to grow.
use Rattle.std.proofs.Common.{◌≡◌, ℕ, inl, inr, true, refl, sym, ◌∙◌, subst}
use Rattle.gc_types.specs.declared.kind.Layouts.{Layouts}
use Rattle.gc_model.specs.Table.{Table}
use Rattle.gc_model.specs.Reach.{IsReached, IsKept}
use Rattle.gc_model.specs.Stores.{StoreView}
use Rattle.gc_model.specs.Holds.{HoldsKept}
use Rattle.gc_heap.specs.Content.{IsHeap}
use Rattle.gc_heap.specs.Heap.{HasRoom}
use Rattle.gc_owner.specs.Owners.{CanBegin}
use Rattle.gc_owner.specs.Growing.{OwnerState, CollectsState, Readies}
use Rattle.gc_model.specs.Accounts.{HoldsAccount}
use Rattle.gc_model.specs.Policy.{PolicyState, CollectsTable, ReadiesTable, FitsNow, LacksNow}
use Rattle.gc_model.specs.Shown.{shown}
use Rattle.gc_model.proofs.RootsShown.{SlotsInFrames}
use Rattle.gc_model.proofs.AccountLemmas.{AfterCollection, collected_account, fits_now, lacks_now}
use Rattle.gc_model.proofs.CollectedRoom.{OnlyKept}
use Rattle.gc_model.proofs.KeptPlaces.{StayAt, stay-same, stay-cut}

-- An owner in a state holds a table in one: as its store does, where a collection may begin.
pub record Agrees {D : Type 0} (layouts : Layouts) (s : StoreView D) (h : OwnerState D) (p : PolicyState D) : Type 0 where
  pub holds : HoldsAccount layouts (shown s h.owner) p.table p.account
  pub limits : p.limits ≡ h.limits
  pub is_heap : IsHeap layouts h.owner.heap
  pub can : CanBegin layouts h.owner
  pub in_frames : SlotsInFrames h.owner.roots
  pub attached : h.owner.heap.attached ≡ true

-- what the table came to by a collection
pub record FollowsCollection {D : Type 0} (layouts : Layouts) (s : StoreView D) (e : OwnerState D) (p : PolicyState D) : Type 0 where
  pub after : PolicyState D
  pub collects : CollectsTable layouts p after
  pub agrees : Agrees layouts s e after
  pub kept : HoldsKept layouts (shown s e.owner) after.table

-- what it came to once the heap was ready to grow
pub record FollowsReady {D : Type 0} (layouts : Layouts) (s : StoreView D) (h e : OwnerState D) (p : PolicyState D) : Type 0 where
  pub after : PolicyState D
  pub readies : ReadiesTable layouts p after
  pub agrees : Agrees layouts s e after
  pub table : after.table ≡ p.table
  pub limits : after.limits ≡ p.limits
  pub stay : StayAt layouts (IsReached p.table) p.account.places after.account.places
  pub only : OnlyKept layouts p → OnlyKept layouts after

-- a collection leaves nothing but what it keeps
pub only_left : {D : Type 0} (layouts : Layouts) (p q : PolicyState D) → CollectsTable layouts p q → OnlyKept layouts q
only_left {D} layouts p q collects position held = subst (λ (t : Table D). IsKept layouts t position) (sym collects.table) ((collects.held.all position).0 held)

module _ {D : Type 0} (layouts : Layouts) (s : StoreView D) (h : OwnerState D) (p : PolicyState D) (agrees : Agrees layouts s h p) where
  pub collection_follows : (e : OwnerState D) → CollectsState layouts h e → FollowsCollection layouts s e p
  collection_follows e ran =
      let after : AfterCollection layouts s p.table p.account p.limits e.owner =
      collected_account layouts s p.table p.account p.limits h.owner e.owner agrees.holds agrees.in_frames agrees.attached ran.0 in
      record {
        after = after.after;
        collects = after.collects;
        agrees = record {
          holds = after.holds;
          limits = after.collects.limits ∙ agrees.limits ∙ sym ran.1;
          is_heap = ran.0.runs.is_heap;
          can = ran.0.runs.can;
          in_frames = after.in_frames;
          attached = ran.0.runs.collected.attached;
        };
        kept = after.kept;
      }

  pub ready_follows : (e : OwnerState D) → Readies layouts h e → FollowsReady layouts s h e p
  ready_follows e (inl (upper, ran)) =
      let then = collection_follows e ran in
      record {
        after = then.after;
        readies = inl (sym agrees.holds.account.upper ∙ upper, then.collects);
        agrees = then.agrees;
        table = then.collects.table;
        limits = then.collects.limits;
        stay = stay-cut layouts p.table p.account.places then.after.account.places then.collects.places;
        only = λ _. only_left layouts p then.after then.collects;
      }
  ready_follows e (inr (lower, same)) = record {
    after = p;
    readies = inr (sym agrees.holds.account.upper ∙ lower, refl);
    agrees = subst (λ (x : OwnerState D). Agrees layouts s x p) (sym same) agrees;
    table = refl;
    limits = refl;
    stay = stay-same layouts (IsReached p.table) p.account.places;
    only = λ only. only;
  }

  -- room of the heap is room of the table, and so is its lack
  pub room_follows : (size : ℕ) → HasRoom layouts h.owner.heap size → FitsNow layouts size p
  room_follows size room = fits_now layouts (shown s h.owner) p.table p.account p.limits size agrees.is_heap agrees.holds room

  pub lack_follows : (size : ℕ) → (HasRoom layouts h.owner.heap size → ⊥) → LacksNow layouts size p
  lack_follows size none = lacks_now layouts (shown s h.owner) p.table p.account p.limits size agrees.is_heap agrees.holds none
