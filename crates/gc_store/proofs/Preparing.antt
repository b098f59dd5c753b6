-- What comes before a new object of whatever kind: the first pages, a collection that is due, and the rule of retry; and how it is refused.
use Rattle.std.proofs.Common.{◌≡◌, ℕ, ◌+◌, ◌-◌, ◌^◌, inl, inr, min, Bool, true, false, length, refl, sym, ap, ◌∙◌, subst}
use Rattle.gc_types.specs.declared.kind.Layouts.{Layouts}
use Rattle.gc_view.specs.Sizes.{need_of}
use Rattle.gc_model.specs.Values.{Object}
use Rattle.gc_model.specs.Table.{Table, make, make_heap, made_pages, with_pages}
use Rattle.gc_model.specs.Live.{roots_full}
use Rattle.gc_model.specs.Allocation as allocation
use Rattle.gc_model.specs.Allocation.{Limits, too_large, FitsIn, LacksFit, GetsPages, IsRefusedGrowth}
use Rattle.gc_model.specs.Stores.{StoreView}
use Rattle.gc_heap.specs.Content.{IsHeap}
use Rattle.gc_heap.specs.Heap.{HasRoom, IsPlaceFor}
use Rattle.gc_owner.specs.RootColumns.{with_room}
use Rattle.gc_owner.specs.Owners.{OwnerView, CanBegin}
use Rattle.gc_owner.specs.Growing.{OwnerState, state_of, owner_rules, NotBegun}
use Rattle.gc_owner.specs.Makes.{LacksSpace}
use Rattle.gc_owner.specs.Retry.{Rules, Retry, Paused, HasFoundRoom, at_once, after_collection, after_both, after_growth, after_refusal}
use Rattle.gc_model.specs.Accounts.{Account, HoldsAccount, counted, is_due, with_held}
use Rattle.gc_model.specs.Policy as policy
use Rattle.gc_model.specs.Policy.{PolicyState, policy_state, IsPlaceIn, count_try, Prepares, Prepared}
use Rattle.gc_model.specs.Shown.{shown}
use Rattle.gc_model.proofs.CountedTries.{counted_store, counted_holds}
use Rattle.gc_model.proofs.HeapGaps.{place_in}
use Rattle.gc_model.proofs.KeptPlaces.{fits-stay, lacks-stay}
use Rattle.gc_model.proofs.MakingSimulation.{Shows, FollowsBeginning, beginning_follows, refusal_follows, no_heap_follows, got_pages, stays_on}
use Rattle.gc_model.proofs.RetrySimulation.{MayHaveGrown, retry_follows, pause_follows}
use Rattle.gc_model.proofs.RootsShown.{SlotsInFrames}
use Rattle.gc_values.specs.declared.root.GcRootIndex.{GcRootIndex}
use Rattle.gc_values.specs.declared.root.RootSlot.TheVariants as slot
use Rattle.gc_values.specs.Making.{BeginsMaking}
use Rattle.gc_store.specs.Places.{PlacesObject, HasIds, LacksPlace, WantsPlace, MayGetPages, size_in_table}
use Rattle.gc_store.proofs.SpareLemmas.{holds_roomy}

-- an owner that is ready, whose store holds a table
pub record IsReadyStore {D : Type 0} (layouts : Layouts) (s : StoreView D) (v : OwnerView D) (t : Table D) (a : Account) : Type 0 where
  pub heap : IsHeap layouts v.heap
  pub can : CanBegin layouts v
  pub in_frames : SlotsInFrames v.roots
  pub holds : HoldsAccount layouts (shown s v) t a

-- room for more roots changes nothing of that
pub reserved_store : {D : Type 0} (layouts : Layouts) (s : StoreView D) (v w : OwnerView D) (t : Table D) (a : Account) → IsReadyStore layouts s v t a → w ≡ record v { roots = with_room w.roots v.roots } → IsReadyStore layouts s w t a
reserved_store {D} layouts s v w t a is same =
    subst (λ (x : OwnerView D). IsReadyStore layouts s x t a) (sym same)
    (record { heap = is.heap; can = is.can; in_frames = is.in_frames; holds = holds_roomy layouts (shown s v) w.roots.spare t a is.holds })

-- where the rule of retry ends without room, there is none
ends_lacking : {S : Type 0} (rules : Rules S) (s e : S) (ok : Bool) → Retry rules s ok e → ok ≡ false → rules.Lacks e
ends_lacking rules s e ok (at_once fits) none = absurd (cc none)
ends_lacking rules s e ok (after_collection lacks first collects fits) none = absurd (cc none)
ends_lacking rules s e ok (after_both lacks first collects lacks_still grows may ends) none = subst (λ (b : Bool). HasFoundRoom rules b e) none ends
ends_lacking rules s e ok (after_growth lacks first grows fits) none = absurd (cc none)
ends_lacking rules s e ok (after_refusal lacks first grows collects ends) none = subst (λ (b : Bool). HasFoundRoom rules b e) none ends

-- an object of so many bytes is to be made, which isn't too large, and whose root may be pushed
module _ {D : Type 0} (layouts : Layouts) (s : StoreView D) (v : OwnerView D) (limits : Limits) (t : Table D) (a : Account) (is : IsReadyStore layouts s v t a) (due : Bool) (due_is : due ≡ is_due s.alloc_counter (min (s.tries + 1) (2 ^ 64 - 1)))
    (o : Object D) (size : ℕ) (sized : size ≡ size_in_table layouts o t) (small : too_large layouts size ≡ false) (full : roots_full t ≡ false) (has_ids : HasIds o t) where
  abbrev p : PolicyState D
  p = policy_state t a limits

  abbrev start : OwnerState D
  start = state_of v limits

  abbrev counted_view : StoreView D
  counted_view = counted_store s

  abbrev need : ℕ
  need = need_of layouts size

  started : Shows layouts counted_view start (count_try p)
  started = record {
    holds = counted_holds layouts (shown s v) t a is.holds;
    limits = refl;
    is_heap = is.heap;
    can = is.can;
    in_frames = is.in_frames;
  }

  begun : (b : OwnerState D) → BeginsMaking layouts s.first due start b → FollowsBeginning layouts counted_view s.alloc_counter b (count_try p)
  begun b begins =
      beginning_follows layouts counted_view start (count_try p) started s.alloc_counter due (due_is ∙ ap (λ (n : ℕ). is_due s.alloc_counter (min (n + 1) (2 ^ 64 - 1))) is.holds.account.tries) begins.made b begins.begins begins.dues

  is_small : too_large layouts (size_in_table layouts o t) ≡ false
  is_small = ap (too_large layouts) (sym sized) ∙ small

  -- the owner as it was holds what it held
  same_holds : (e : OwnerState D) → e.owner ≡ v → HoldsAccount layouts (shown counted_view e.owner) t (counted a)
  same_holds e same = subst (λ (x : OwnerView D). HoldsAccount layouts (shown counted_view x) t (counted a)) (sym same) (counted_holds layouts (shown s v) t a is.holds)

  -- no room, and no more pages
  pub lacks_room : (b e : OwnerState D) (asked : ℕ) → BeginsMaking layouts s.first due start b → LacksSpace layouts size b e asked → LacksPlace layouts s.alloc_counter o p e.limits asked (shown counted_view e.owner)
  lacks_room b e asked begins lacks =
      let beginning = begun b begins in
      let retried = retry_follows layouts counted_view size b beginning.after beginning.agrees false e lacks.retried in
      let table_is : retried.after.table ≡ make_heap t = retried.tried.same ∙ beginning.table in
      let refused : IsRefusedGrowth limits.limit (made_pages t) need =
      subst (λ (u : Table D). IsRefusedGrowth limits.limit u.pages need) beginning.table (subst (λ (l : Limits). IsRefusedGrowth l.limit beginning.after.table.pages need) beginning.limits retried.tried.refused) in
      let none : LacksFit layouts a.places (make_heap t) size =
      lacks-stay layouts (make_heap t) a.places retried.after.account.places size
      (stays_on layouts counted_view s.alloc_counter b (count_try p) beginning retried.after.account.places retried.stay)
      (subst (λ (u : Table D). LacksFit layouts retried.after.account.places u size) table_is retried.tried.lacks) in
      record {
        small = is_small;
        not_full = full;
        asked = lacks.asked ∙ ap (need_of layouts) sized;
        after = retried.after;
        prepares = subst (λ (k : ℕ). Prepares layouts s.alloc_counter k p false retried.after) sized (policy.tried beginning.makes beginning.dues retried.retried);
        lacks = allocation.no_room beginning.may (subst (λ (k : ℕ). IsRefusedGrowth limits.limit (made_pages t) (need_of layouts k)) sized refused) (subst (LacksFit layouts a.places (make_heap t)) sized none) table_is;
        no_room = λ made. subst (λ (k : ℕ). HasRoom layouts e.owner.heap k → ⊥) sized (ends_lacking (owner_rules layouts size) b e false lacks.retried refl);
        holds = retried.agrees.holds;
        limits = sym retried.agrees.limits;
        has_ids = has_ids;
      }

  -- no first pages
  pub lacks_pages : (e : OwnerState D) (asked : ℕ) → NotBegun s.first start e → asked ≡ need → LacksPlace layouts s.alloc_counter o p e.limits asked (shown counted_view e.owner)
  lacks_pages e asked no_pages asked_is =
      let no_heap = no_heap_follows layouts counted_view start (count_try p) started e no_pages in
      record {
        small = is_small;
        not_full = full;
        asked = asked_is ∙ ap (need_of layouts) sized;
        after = record (count_try p) { limits = e.limits };
        prepares = policy.no_heap (refusal_follows layouts counted_view start (count_try p) started e no_pages);
        lacks = allocation.no_heap no_heap refl;
        no_room = (let unmade = no_heap.unmade in λ made. absurd (cc (unmade, made)));
        holds = same_holds e no_pages.same;
        limits = refl;
        has_ids = has_ids;
      }

  -- memory was wanting before the heap was made
  pub wants_heap : (e : OwnerState D) → e ≡ start → WantsPlace layouts s.alloc_counter o p e.limits (shown counted_view e.owner)
  wants_heap e same = record {
    after = count_try p;
    prepared = policy.not_made;
    begun = inr (is_small, full);
    pages = inl refl;
    holds = same_holds e (ap (λ (x : OwnerState D). x.owner) same);
    limits = ap (λ (x : OwnerState D). x.limits) same;
  }

  -- or after it
  pub wants_room : (b e : OwnerState D) → BeginsMaking layouts s.first due start b → Paused (owner_rules layouts size) b e → WantsPlace layouts s.alloc_counter o p e.limits (shown counted_view e.owner)
  wants_room b e begins pause =
      let beginning = begun b begins in
      let paused = pause_follows layouts counted_view size b beginning.after beginning.agrees e pause in
      let got = got_pages limits.limit need t beginning.after.table paused.after.table beginning.may beginning.table
      (subst (λ (l : Limits). MayHaveGrown l.limit need beginning.after.table paused.after.table) beginning.limits paused.grown) in
      record {
        after = paused.after;
        prepared = subst (λ (k : ℕ). Prepared layouts s.alloc_counter k p paused.after) sized (policy.paused beginning.makes beginning.dues paused.paused);
        begun = inr (is_small, full);
        pages = subst (λ (k : ℕ). MayGetPages limits.limit (need_of layouts k) t paused.after.table) sized (inr (got.pages, (got.gets, got.is)));
        holds = paused.agrees.holds;
        limits = sym paused.agrees.limits;
      }

  -- There is room: the object may be added at an owner that holds the table with its pages, and then it is placed.
  pub room_found : (b mid e : OwnerState D) (index word : ℕ) → BeginsMaking layouts s.first due start b → Retry (owner_rules layouts size) b true mid → IsPlaceFor layouts mid.owner.heap word size → e.limits ≡ mid.limits
      → ((pages : ℕ) (account : Account) → HoldsAccount layouts (shown counted_view mid.owner) (with_pages pages t) account → HoldsAccount layouts (shown counted_view e.owner) (make o (with_pages pages t)) (with_held layouts (length t.objects) word account))
      → e.owner.roots.generation ≡ mid.owner.roots.generation → index ≡ length mid.owner.roots.scoped → (handle : GcRootIndex)
      → handle ≡ record { store_id = record { engine = s.engine; number = s.number }; generation = e.owner.roots.generation; slot = slot.Scoped index }
      → PlacesObject layouts s.alloc_counter o p e.limits handle (shown counted_view e.owner)
  room_found b mid e index word begins retries lies same_limits added same_generation index_is handle handle_is =
      let beginning = begun b begins in
      let retried = retry_follows layouts counted_view size b beginning.after beginning.agrees true mid retries in
      let got = got_pages limits.limit need t beginning.after.table retried.after.table beginning.may beginning.table
      (subst (λ (l : Limits). MayHaveGrown l.limit need beginning.after.table retried.after.table) beginning.limits retried.tried.0) in
      let after : HoldsAccount layouts (shown counted_view mid.owner) (with_pages got.pages t) retried.after.account =
      subst (λ (u : Table D). HoldsAccount layouts (shown counted_view mid.owner) u retried.after.account) got.is retried.agrees.holds in
      let generation_is : e.owner.roots.generation ≡ t.drops = same_generation ∙ after.holds.scopes.generation in
      let end_is : index ≡ length t.scoped = index_is ∙ after.holds.scoped.same_count in
      record {
        small = is_small;
        not_full = full;
        after = retried.after;
        prepares = subst (λ (k : ℕ). Prepares layouts s.alloc_counter k p true retried.after) sized (policy.tried beginning.makes beginning.dues retried.retried);
        allocates = record {
          pages = got.pages;
          gets = subst (λ (k : ℕ). GetsPages limits.limit t (need_of layouts k) got.pages) sized got.gets;
          fits = fits-stay layouts (with_pages got.pages t) a.places retried.after.account.places (size_in_table layouts o t)
              (stays_on layouts counted_view s.alloc_counter b (count_try p) beginning retried.after.account.places retried.stay)
              (subst (FitsIn layouts retried.after.account.places (with_pages got.pages t)) sized (subst (λ (u : Table D). FitsIn layouts retried.after.account.places u size) got.is retried.tried.1));
          made = ap (make o) got.is;
        };
        word = word;
        lies = subst (IsPlaceIn layouts retried.after word) sized (place_in layouts (shown counted_view mid.owner) retried.after word size retried.agrees.holds lies);
        holds = subst (λ (u : Table D). HoldsAccount layouts (shown counted_view e.owner) (make o u) (with_held layouts (length t.objects) word retried.after.account)) (sym got.is)
            (added got.pages retried.after.account after);
        limits = same_limits ∙ sym retried.agrees.limits;
        handle_is = handle_is ∙ (λ i. record {
          store_id = record { engine = s.engine; number = s.number };
          generation = generation_is i;
          slot = slot.Scoped (end_is i);
        });
        has_ids = has_ids;
      }
