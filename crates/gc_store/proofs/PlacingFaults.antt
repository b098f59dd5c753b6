-- An object that was not placed is refused as the table says.
use Rattle.std.proofs.Common.{inl, inr, ◌≡◌, ℕ, ◌+◌, ◌-◌, ◌^◌, min, Bool, false, Err, sym, ap, ◌∙◌, refl, subst, arith, length}
use Rattle.gc_types.specs.declared.kind.Layouts.{Layouts}
use Rattle.gc_model.specs.Values.{Object}
use Rattle.gc_model.specs.Table.{Table, make_heap, made_pages}
use Rattle.gc_model.specs.Live.{roots_full}
use Rattle.gc_view.specs.Sizes.{need_of}
use Rattle.gc_model.specs.Allocation as allocation
use Rattle.gc_model.specs.Allocation.{Limits, too_large, LacksFit, IsRefusedGrowth}
use Rattle.gc_model.specs.Stores.{StoreView}
use Rattle.gc_view.specs.Slots.{shape_size}
use Rattle.gc_heap.specs.Heap.{HasRoom}
use Rattle.gc_owner.specs.Owners.{OwnerView}
use Rattle.gc_owner.specs.Growing.{OwnerState, state_of, owner_rules, NotBegun}
use Rattle.gc_owner.specs.Makes.{LacksSpace}
use Rattle.gc_owner.specs.Retry.{Rules, Retry, at_once, after_collection, after_both, after_growth, after_refusal, HasFoundRoom}
use Rattle.gc_values.specs.declared.request.Contents.{Contents}
use Rattle.gc_values.specs.declared.request.Place.{Place}
use Rattle.gc_values.specs.declared.faults.PlaceFault.{PlaceFault}
use Rattle.gc_values.specs.declared.faults.PlaceFault.TheVariants as fault
use Rattle.gc_model.specs.Accounts.{Account, HoldsAccount, counted, is_due}
use Rattle.gc_model.specs.Policy as policy
use Rattle.gc_model.specs.Policy.{PolicyState, policy_state, count_try, Prepares, Prepared}
use Rattle.gc_model.specs.Shown.{shown}
use Rattle.gc_values.specs.Making.{BeginsMaking, MakesRooted}
use Rattle.gc_store.specs.Places.{HasIds, Places, LacksPlace, MayGetPages, size_in_table}
use Rattle.gc_store.specs.Stores.{is_full}
use Rattle.gc_model.proofs.CountedTries.{counted_store, counted_holds}
use Rattle.gc_model.proofs.KeptPlaces.{lacks-stay}
use Rattle.gc_model.proofs.MakingSimulation.{Shows, FollowsBeginning, refusal_follows, no_heap_follows, got_pages, stays_on}
use Rattle.gc_model.proofs.RetrySimulation.{MayHaveGrown, retry_follows, pause_follows}
use Rattle.gc_view.specs.Heaps.{HeapObject}
use Rattle.gc_values.proofs.Keeping.{counts_of, Keeps, keeps-trans, keeps-making, keeps-retried, keeps-paused, same_count}
use Rattle.gc_store.proofs.NewObjects.{IsNew}
use Rattle.gc_store.proofs.Placing.{IsStart, KeepsRest, too_large_is, shows, begun}
use Rattle.gc_store.proofs.Pushing.{full_is}
use Rattle.gc_store.proofs.Requested.{Asks, AsksFor}

-- where the rule of retry ends without room, there is none
ends_lacking : {S : Type 0} (rules : Rules S) (s e : S) (ok : Bool) → Retry rules s ok e → ok ≡ false → rules.Lacks e
ends_lacking rules s e ok (at_once fits) none = absurd (cc none)
ends_lacking rules s e ok (after_collection lacks first collects fits) none = absurd (cc none)
ends_lacking rules s e ok (after_both lacks first collects lacks_still grows may ends) none = subst (λ (b : Bool). HasFoundRoom rules b e) none ends
ends_lacking rules s e ok (after_growth lacks first grows fits) none = absurd (cc none)
ends_lacking rules s e ok (after_refusal lacks first grows collects ends) none = subst (λ (b : Bool). HasFoundRoom rules b e) none ends

-- what a refusal leaves: the answer, and a table that the store holds
pub record FollowsFault {D : Type 0} (layouts : Layouts) (s : StoreView D) (o : Object D) (p : PolicyState D) (e : OwnerState D) (f : PlaceFault) : Type 0 where
  pub places : Places layouts s.alloc_counter o p e.limits (Err f) (shown (counted_store s) e.owner)
  pub table : Table D
  pub account : Account
  pub holds : HoldsAccount layouts (shown (counted_store s) e.owner) table account

module _ {D : Type 0} (layouts : Layouts) (s : StoreView D) (v : OwnerView D) (request : Place) (given : Contents) (new : IsNew D layouts v.types.declarations request) (limits : Limits) (t : Table D) (a : Account) (is : IsStart layouts s v t a) (asked : Asks layouts (shown s v) t request given new)
    (o : Object D) (for : AsksFor layouts (shown s v) t request given new.shape new.count o) (small : too_large layouts (shape_size layouts new.shape new.count) ≡ false) (room : is_full (shown s v) ≡ false) (has_ids : HasIds o t) where
  abbrev p : PolicyState D
  p = policy_state t a limits

  abbrev h : OwnerState D
  h = state_of v limits

  abbrev size : ℕ
  size = shape_size layouts new.shape new.count

  abbrev need : ℕ
  need = need_of layouts size

  started : Shows layouts (counted_store s) h (count_try p)
  started = shows layouts s v request given new limits t a is asked

  sizes : size ≡ size_in_table layouts o t
  sizes = sym (for.of_size layouts)

  is_small : too_large layouts (size_in_table layouts o t) ≡ false
  is_small = ap (too_large layouts) (for.of_size layouts) ∙ small

  full : roots_full t ≡ false
  full = sym (full_is layouts (shown s v) t is.holds.place is.holds.holds) ∙ room

  module _ (due : Bool) (due_is : due ≡ is_due s.alloc_counter (min (s.tries + 1) (2 ^ 64 - 1))) (e : OwnerState D) where
    begun_at : (b : OwnerState D) → BeginsMaking layouts s.first due h b → FollowsBeginning layouts (counted_store s) s.alloc_counter b (count_try p)
    begun_at b begins = begun layouts s v request given new limits t a is asked due due_is b begins

    -- the owner as it was, or with pages refused, holds what it held
    same_holds : e.owner ≡ v → HoldsAccount layouts (shown (counted_store s) e.owner) t (counted a)
    same_holds same = subst (λ (x : OwnerView D). HoldsAccount layouts (shown (counted_store s) x) t (counted a)) (sym same) (counted_holds layouts (shown s v) t a is.holds)

    -- no room, and no more pages
    no_room_follows : (b : OwnerState D) (asked : ℕ) → BeginsMaking layouts s.first due h b → LacksSpace layouts size b e asked → LacksPlace layouts s.alloc_counter o p e.limits asked (shown (counted_store s) e.owner)
    no_room_follows b asked begins lacks =
        let beginning = begun_at b begins in
        let retried = retry_follows layouts (counted_store s) size b beginning.after beginning.agrees false e lacks.retried in
        let table_is : retried.after.table ≡ make_heap t = retried.tried.same ∙ beginning.table in
        let refused : IsRefusedGrowth limits.limit (made_pages t) need =
        subst (λ (u : Table D). IsRefusedGrowth limits.limit u.pages need) beginning.table (subst (λ (l : Limits). IsRefusedGrowth l.limit beginning.after.table.pages need) beginning.limits retried.tried.refused) in
        let none : LacksFit layouts a.places (make_heap t) size =
        lacks-stay layouts (make_heap t) a.places retried.after.account.places size
        (stays_on layouts (counted_store s) s.alloc_counter b (count_try p) beginning retried.after.account.places retried.stay)
        (subst (λ (u : Table D). LacksFit layouts retried.after.account.places u size) table_is retried.tried.lacks) in
        record {
          small = is_small;
          not_full = full;
          asked = lacks.asked ∙ ap (need_of layouts) sizes;
          after = retried.after;
          prepares = subst (λ (k : ℕ). Prepares layouts s.alloc_counter k p false retried.after) sizes (policy.tried beginning.makes beginning.dues retried.retried);
          lacks = allocation.no_room beginning.may (subst (λ (k : ℕ). IsRefusedGrowth limits.limit (made_pages t) (need_of layouts k)) sizes refused) (subst (LacksFit layouts a.places (make_heap t)) sizes none) table_is;
          no_room = λ made. subst (λ (k : ℕ). HasRoom layouts e.owner.heap k → ⊥) sizes (ends_lacking (owner_rules layouts size) b e false lacks.retried refl);
          holds = retried.agrees.holds;
          limits = sym retried.agrees.limits;
          has_ids = has_ids;
        }

    no_pages_follows : (asked : ℕ) → NotBegun s.first h e → asked ≡ need → LacksPlace layouts s.alloc_counter o p e.limits asked (shown (counted_store s) e.owner)
    no_pages_follows asked no_pages asked_is = record {
      small = is_small;
      not_full = full;
      asked = asked_is ∙ ap (need_of layouts) sizes;
      after = record (count_try p) { limits = e.limits };
      prepares = policy.no_heap (refusal_follows layouts (counted_store s) h (count_try p) started e no_pages);
      lacks = allocation.no_heap (no_heap_follows layouts (counted_store s) h (count_try p) started e no_pages) refl;
      no_room = (let unmade = (no_heap_follows layouts (counted_store s) h (count_try p) started e no_pages).unmade in λ made. absurd (cc (unmade, made)));
      holds = same_holds no_pages.same;
      limits = refl;
      has_ids = has_ids;
    }

    pub fault_follows : (f : PlaceFault) → MakesRooted layouts new.blank size s.first due h e (Err f) → FollowsFault layouts s o p e f
    fault_follows fault.FuncTableFull makes = absurd makes
    fault_follows fault.ContTableFull makes = absurd makes
    fault_follows fault.TooLarge makes = absurd (cc (sym small ∙ too_large_is layouts size makes))
    fault_follows fault.RootsFull makes = absurd makes
    fault_follows (fault.HeapOutOfMemory f) (inl (no_pages, asked)) = let places = no_pages_follows f.bytes_needed no_pages asked in record { places = places; table = _; account = _; holds = places.holds }
    fault_follows (fault.HeapOutOfMemory f) (inr (b, (begins, lacks))) = let places = no_room_follows b f.bytes_needed begins lacks in record { places = places; table = _; account = _; holds = places.holds }
    fault_follows fault.Memory (inl same) =
        let holds = same_holds (ap (λ (x : OwnerState D). x.owner) same) in
        record {
          places = record {
            after = count_try p;
            prepared = policy.not_made;
            begun = inr (is_small, full);
            pages = inl refl;
            holds = holds;
            limits = ap (λ (x : OwnerState D). x.limits) same;
          };
          table = t;
          account = counted a;
          holds = holds;
        }
    fault_follows fault.Memory (inr (b, (begins, pause))) =
        let beginning = begun_at b begins in
        let paused = pause_follows layouts (counted_store s) size b beginning.after beginning.agrees e pause in
        let got = got_pages limits.limit need t beginning.after.table paused.after.table beginning.may beginning.table
        (subst (λ (l : Limits). MayHaveGrown l.limit need beginning.after.table paused.after.table) beginning.limits paused.grown) in
        record {
          places = record {
            after = paused.after;
            prepared = subst (λ (k : ℕ). Prepared layouts s.alloc_counter k p paused.after) sizes (policy.paused beginning.makes beginning.dues paused.paused);
            begun = inr (is_small, full);
            pages = subst (λ (k : ℕ). MayGetPages limits.limit (need_of layouts k) t paused.after.table) sizes (inr (got.pages, (got.gets, got.is)));
            holds = paused.agrees.holds;
            limits = sym paused.agrees.limits;
          };
          table = paused.after.table;
          account = paused.after.account;
          holds = paused.agrees.holds;
        }

-- what a refusal leaves of the rest of the owner
pub fault_keeps : {D : Type 0} (layouts : Layouts) (o : HeapObject) (size first : ℕ) (due : Bool) (s e : OwnerState D) (f : PlaceFault) → too_large layouts size ≡ false → MakesRooted layouts o size first due s e (Err f) → KeepsRest s.owner e.owner
fault_keeps layouts o size first due s e fault.FuncTableFull small makes = absurd makes
fault_keeps layouts o size first due s e fault.ContTableFull small makes = absurd makes
fault_keeps layouts o size first due s e fault.TooLarge small makes = absurd (cc (sym small ∙ too_large_is layouts size makes))
fault_keeps layouts o size first due s e fault.RootsFull small makes = absurd makes
fault_keeps {D} layouts o size first due s e (fault.HeapOutOfMemory f) small (inl (no_pages, asked)) = record { spare = (let same = ap (λ (v : OwnerView D). v.roots.spare + length v.roots.scoped) no_pages.same in omega (arith, same)); idle = ap (λ (v : OwnerView D). v.idle) no_pages.same; types = ap (λ (v : OwnerView D). v.types) no_pages.same; counts = ap counts_of no_pages.same }
fault_keeps {D} layouts o size first due s e (fault.HeapOutOfMemory f) small (inr (b, (begins, lacks))) =
    let keeps : Keeps s.owner e.owner = keeps-trans s.owner b.owner e.owner (keeps-making layouts first due s b begins) (keeps-retried layouts size b false e lacks.retried) in
    record { spare = (let kept = keeps.spare in let count = same_count s.owner e.owner keeps in omega (arith, kept, count)); idle = keeps.idle; types = keeps.types; counts = keeps.counts }
fault_keeps {D} layouts o size first due s e fault.Memory small (inl same) = record { spare = (let is = ap (λ (x : OwnerState D). x.owner.roots.spare + length x.owner.roots.scoped) same in omega (arith, is)); idle = ap (λ (x : OwnerState D). x.owner.idle) same; types = ap (λ (x : OwnerState D). x.owner.types) same; counts = ap (λ (x : OwnerState D). counts_of x.owner) same }
fault_keeps {D} layouts o size first due s e fault.Memory small (inr (b, (begins, pause))) =
    let keeps : Keeps s.owner e.owner = keeps-trans s.owner b.owner e.owner (keeps-making layouts first due s b begins) (keeps-paused layouts size b e pause) in
    record { spare = (let kept = keeps.spare in let count = same_count s.owner e.owner keeps in omega (arith, kept, count)); idle = keeps.idle; types = keeps.types; counts = keeps.counts }
