-- The rule of retry, followed by a heap, is followed by the table that its store holds.
use Rattle.std.proofs.Common.{◌≡◌, ℕ, ◌+◌, ◌⊎◌, inl, inr, Bool, true, false, Option, refl, sym, ap, ◌∙◌, subst}
use Rattle.gc_types.specs.declared.kind.Layouts.{Layouts}
use Rattle.gc_model.specs.Table.{Table, with_pages}
use Rattle.gc_view.specs.Sizes.{need_of}
use Rattle.gc_model.specs.Allocation.{Limits, asked, MayGrow, IsRefusedGrowth, FitsIn, LacksFit}
use Rattle.gc_model.specs.Stores.{StoreView}
use Rattle.gc_model.specs.Reach.{IsReached}
use Rattle.gc_model.specs.Words.{Placing}
use Rattle.gc_heap.specs.Heap.{HasRoom}
use Rattle.gc_owner.specs.Growing.{OwnerState, owner_rules, collects_first}
use Rattle.gc_model.specs.Shown.{shown}
use Rattle.gc_model.specs.Policy.{PolicyState, CollectsTable, table_rules, table_after}
use Rattle.gc_owner.specs.Retry.{HasFoundRoom, Retry, at_once, after_collection, after_both, after_growth, after_refusal, Growing, Paused, at_first, in_collection, in_both, in_growth, in_refusal}
use Rattle.gc_model.proofs.CollectedRoom.{OnlyKept, fits_in, lacks_fit}
use Rattle.gc_model.proofs.KeptPlaces.{StayAt, stay-same, stay-trans, stay-cut}
use Rattle.gc_model.proofs.Simulation.{Agrees, only_left, collection_follows, ready_follows, room_follows, lack_follows}
use Rattle.gc_model.proofs.GrowthSimulation.{Answered, FollowsGrowth, growth_follows}

-- the table is as it was, or has the pages of a growth that a limit grants
abbrev pub MayHaveGrown : {D : Type 0} → Option ℕ → ℕ → Table D → Table D → Type 0
MayHaveGrown limit bytes t t' = (t' ≡ t) ⊎ (MayGrow limit t.pages bytes × (t' ≡ with_pages (t.pages + asked t.pages bytes) t))

-- an object of so many bytes was refused of the table, whose objects lie at these places, and whose heap was refused a growth
pub record IsRefusedRoom {D : Type 0} (layouts : Layouts) (limit : Option ℕ) (size : ℕ) (places : Placing) (t t' : Table D) : Type 0 where
  pub same : t' ≡ t
  pub refused : IsRefusedGrowth limit t.pages (need_of layouts size)
  pub lacks : LacksFit layouts places t' size

-- what the last try leaves of the table
abbrev pub Tried : {D : Type 0} → Layouts → Option ℕ → ℕ → Placing → Table D → Bool → Table D → Type 0
Tried layouts limit size places t true t' = MayHaveGrown limit (need_of layouts size) t t' × FitsIn layouts places t' size
Tried layouts limit size places t false t' = IsRefusedRoom layouts limit size places t t'

-- what the table came to by the rule
pub record FollowsRetry {D : Type 0} (layouts : Layouts) (s : StoreView D) (size : ℕ) (e : OwnerState D) (p : PolicyState D) (ok : Bool) : Type 0 where
  pub after : PolicyState D
  pub retried : Retry (table_rules layouts size) p ok after
  pub agrees : Agrees layouts s e after
  pub tried : Tried layouts p.limits.limit size after.account.places p.table ok after.table
  pub stay : StayAt layouts (IsReached p.table) p.account.places after.account.places

-- what it came to on its way
pub record FollowsPause {D : Type 0} (layouts : Layouts) (s : StoreView D) (size : ℕ) (e : OwnerState D) (p : PolicyState D) : Type 0 where
  pub after : PolicyState D
  pub paused : Paused (table_rules layouts size) p after
  pub agrees : Agrees layouts s e after
  pub grown : MayHaveGrown p.limits.limit (need_of layouts size) p.table after.table

-- what it came to in a growth
pub record FollowsGrowing {D : Type 0} (layouts : Layouts) (s : StoreView D) (size : ℕ) (e : OwnerState D) (p : PolicyState D) : Type 0 where
  pub after : PolicyState D
  pub growing : Growing (table_rules layouts size) p after
  pub agrees : Agrees layouts s e after
  pub grown : MayHaveGrown p.limits.limit (need_of layouts size) p.table after.table

-- a growth may have changed the pages
may_have_grown : {D : Type 0} (limit : Option ℕ) (bytes : ℕ) (t t' : Table D) (ok : Bool) → Answered ok limit t.pages bytes → t' ≡ table_after ok bytes t → MayHaveGrown limit bytes t t'
may_have_grown limit bytes t t' true may is = inr (may, is)
may_have_grown limit bytes t t' false refused is = inl is

module _ {D : Type 0} (layouts : Layouts) (s : StoreView D) (size : ℕ) where
  -- the last try of the heap is that of the table
  ends_follow : (e : OwnerState D) (q : PolicyState D) (ok : Bool) → Agrees layouts s e q → HasFoundRoom (owner_rules layouts size) ok e → HasFoundRoom (table_rules layouts size) ok q
  ends_follow e q true agrees room = room_follows layouts s e q agrees size room
  ends_follow e q false agrees none = lack_follows layouts s e q agrees size none

  fits_after : (e : OwnerState D) (q : PolicyState D) → Agrees layouts s e q → HasRoom layouts e.owner.heap size → FitsIn layouts q.account.places q.table size
  fits_after e q agrees room = fits_in layouts (shown s e.owner) q size agrees.holds room

  -- the table without a growth, where the heap was collected
  tried_same : (limit : Option ℕ) (t : Table D) (e : OwnerState D) (q : PolicyState D) (ok : Bool) → q.table ≡ t → IsRefusedGrowth limit t.pages (need_of layouts size) → Agrees layouts s e q → OnlyKept layouts q
      → HasFoundRoom (owner_rules layouts size) ok e → Tried layouts limit size q.account.places t ok q.table
  tried_same limit t e q true same refused agrees only room = (inl same, fits_after e q agrees room)
  tried_same limit t e q false same refused agrees only none = record { same = same; refused = refused; lacks = lacks_fit layouts (shown s e.owner) q size agrees.holds only none }

  tried_after : (h e : OwnerState D) (p : PolicyState D) (granted ok : Bool) (grew : FollowsGrowth layouts s (need_of layouts size) h e p granted) → OnlyKept layouts p → (granted ≡ true → ok ≡ true)
      → HasFoundRoom (owner_rules layouts size) ok e → Tried layouts p.limits.limit size grew.after.account.places p.table ok grew.after.table
  tried_after h e p true true grew only goes room = (inr (grew.answer, grew.table), fits_after e grew.after grew.agrees room)
  tried_after h e p true false grew only goes room = absurd (cc (goes refl))
  tried_after h e p false ok grew only goes end = tried_same p.limits.limit p.table e grew.after ok grew.table grew.answer grew.agrees (grew.only refl only) end

  -- what holds of a table with the same pages and limits holds of this one
  tried_from : (p q : PolicyState D) (places : Placing) (t : Table D) (ok : Bool) → q.table ≡ p.table → q.limits ≡ p.limits → Tried layouts q.limits.limit size places q.table ok t → Tried layouts p.limits.limit size places p.table ok t
  tried_from p q places t ok table limits tried = subst (λ (u : Table D). Tried layouts p.limits.limit size places u ok t) table (subst (λ (l : Limits). Tried layouts l.limit size places q.table ok t) limits tried)

  -- and so does where the objects lie that it reaches
  stay_from : (p q : PolicyState D) (places : Placing) → q.table ≡ p.table → StayAt layouts (IsReached p.table) p.account.places q.account.places → StayAt layouts (IsReached q.table) q.account.places places → StayAt layouts (IsReached p.table) p.account.places places
  stay_from p q places table before after =
      stay-trans layouts (IsReached p.table) p.account.places q.account.places places before (subst (λ (u : Table D). StayAt layouts (IsReached u) q.account.places places) table after)

  stay_left : (p q : PolicyState D) → CollectsTable layouts p q → StayAt layouts (IsReached p.table) p.account.places q.account.places
  stay_left p q collects = stay-cut layouts p.table p.account.places q.account.places collects.places

  grown_from : (p q : PolicyState D) (t : Table D) → q.table ≡ p.table → q.limits ≡ p.limits → MayHaveGrown q.limits.limit (need_of layouts size) q.table t → MayHaveGrown p.limits.limit (need_of layouts size) p.table t
  grown_from p q t table limits grown = subst (λ (u : Table D). MayHaveGrown p.limits.limit (need_of layouts size) u t) table (subst (λ (l : Limits). MayHaveGrown l.limit (need_of layouts size) q.table t) limits grown)

  growing_follows : (h e : OwnerState D) (p : PolicyState D) → Agrees layouts s h p → Growing (owner_rules layouts size) h e → FollowsGrowing layouts s size e p
  growing_follows h e p agrees (inl readied) =
      let ready = ready_follows layouts s h p agrees e readied in
      record { after = ready.after; growing = inl ready.readies; agrees = ready.agrees; grown = inl ready.table }
  growing_follows h e p agrees (inr (granted, grew)) =
      let grown = growth_follows layouts s (need_of layouts size) h p agrees granted e grew in
      record {
        after = grown.after;
        growing = inr (granted, grown.grows);
        agrees = grown.agrees;
        grown = may_have_grown p.limits.limit (need_of layouts size) p.table grown.after.table granted grown.answer grown.table;
      }

  module _ (h : OwnerState D) (p : PolicyState D) (agrees : Agrees layouts s h p) where
    first_is : (b : Bool) → collects_first (need_of layouts size) h.owner.heap.capacity h.owner.last ≡ b → (table_rules layouts size).collects_first p ≡ b
    first_is b is = ap (λ (n : ℕ). collects_first (need_of layouts size) n p.account.last) (sym agrees.holds.holds.memory.capacity) ∙ ap (λ (n : ℕ). collects_first (need_of layouts size) h.owner.heap.capacity n) (sym agrees.holds.account.last) ∙ is

    lacks : (HasRoom layouts h.owner.heap size → ⊥) → (table_rules layouts size).Lacks p
    lacks room = lack_follows layouts s h p agrees size room

    pub retry_follows : (ok : Bool) (e : OwnerState D) → Retry (owner_rules layouts size) h ok e → FollowsRetry layouts s size e p ok
    retry_follows _ _ (at_once room) = record { after = p; retried = at_once (room_follows layouts s h p agrees size room); agrees = agrees; tried = (inl refl, fits_after h p agrees room); stay = stay-same layouts (IsReached p.table) p.account.places }
    retry_follows _ _ (after_collection {m = m} full first ran room) =
        let collected = collection_follows layouts s h p agrees m ran in
        record {
          after = collected.after;
          retried = after_collection (lacks full) (first_is true first) collected.collects (room_follows layouts s m collected.after collected.agrees size room);
          agrees = collected.agrees;
          tried = (inl collected.collects.table, fits_after m collected.after collected.agrees room);
          stay = stay_left p collected.after collected.collects;
        }
    retry_follows ok e (after_both {m = m} {granted = granted} full first ran still grew goes end) =
        let collected = collection_follows layouts s h p agrees m ran in
        let grown = growth_follows layouts s (need_of layouts size) m collected.after collected.agrees granted e grew in
        record {
          after = grown.after;
          retried = after_both (lacks full) (first_is true first) collected.collects (lack_follows layouts s m collected.after collected.agrees size still) grown.grows goes (ends_follow e grown.after ok grown.agrees end);
          agrees = grown.agrees;
          tried = tried_from p collected.after grown.after.account.places grown.after.table ok collected.collects.table collected.collects.limits
              (tried_after m e collected.after granted ok grown (only_left layouts p collected.after collected.collects) goes end);
          stay = stay_from p collected.after grown.after.account.places collected.collects.table (stay_left p collected.after collected.collects) grown.stay;
        }
    retry_follows _ e (after_growth full first grew room) =
        let grown = growth_follows layouts s (need_of layouts size) h p agrees true e grew in
        record {
          after = grown.after;
          retried = after_growth (lacks full) (first_is false first) grown.grows (room_follows layouts s e grown.after grown.agrees size room);
          agrees = grown.agrees;
          tried = (inr (grown.answer, grown.table), fits_after e grown.after grown.agrees room);
          stay = grown.stay;
        }
    retry_follows ok e (after_refusal {m = m} full first grew ran end) =
        let grown = growth_follows layouts s (need_of layouts size) h p agrees false m grew in
        let collected = collection_follows layouts s m grown.after grown.agrees e ran in
        record {
          after = collected.after;
          retried = after_refusal (lacks full) (first_is false first) grown.grows collected.collects (ends_follow e collected.after ok collected.agrees end);
          agrees = collected.agrees;
          tried = tried_same p.limits.limit p.table e collected.after ok (collected.collects.table ∙ grown.table) grown.answer collected.agrees (only_left layouts grown.after collected.after collected.collects) end;
          stay = stay_from p grown.after collected.after.account.places grown.table grown.stay (stay_left grown.after collected.after collected.collects);
        }

    pub pause_follows : (e : OwnerState D) → Paused (owner_rules layouts size) h e → FollowsPause layouts s size e p
    pause_follows _ at_first = record { after = p; paused = at_first; agrees = agrees; grown = inl refl }
    pause_follows e (in_collection full first ran) =
        let collected = collection_follows layouts s h p agrees e ran in
        record { after = collected.after; paused = in_collection (lacks full) (first_is true first) collected.collects; agrees = collected.agrees; grown = inl collected.collects.table }
    pause_follows e (in_both {m = m} full first ran still growing) =
        let collected = collection_follows layouts s h p agrees m ran in
        let grown = growing_follows m e collected.after collected.agrees growing in
        record {
          after = grown.after;
          paused = in_both (lacks full) (first_is true first) collected.collects (lack_follows layouts s m collected.after collected.agrees size still) grown.growing;
          agrees = grown.agrees;
          grown = grown_from p collected.after grown.after.table collected.collects.table collected.collects.limits grown.grown;
        }
    pause_follows e (in_growth full first growing) =
        let grown = growing_follows h e p agrees growing in
        record { after = grown.after; paused = in_growth (lacks full) (first_is false first) grown.growing; agrees = grown.agrees; grown = grown.grown }
    pause_follows e (in_refusal {m = m} full first grew ran) =
        let grown = growth_follows layouts s (need_of layouts size) h p agrees false m grew in
        let collected = collection_follows layouts s m grown.after grown.agrees e ran in
        record {
          after = collected.after;
          paused = in_refusal (lacks full) (first_is false first) grown.grows collected.collects;
          agrees = collected.agrees;
          grown = inl (collected.collects.table ∙ grown.table);
        }
