-- Collections in increments: what begins one, what an increment leaves, and what the last one does.
use Rattle.std.proofs.Common.{◌≡◌, ℕ, ◌+◌, Bool, true, List, length, map, Option, Some, None, refl, sym, ap, ◌∙◌, subst}
use Rattle.std.specs.FinMap.{FinMap}
use Rattle.std.specs.Ordering.{nat_cmp}
use Rattle.std.proofs.lemmas.Option.{same_Some}
use Rattle.gc_types.specs.declared.kind.Layouts.{Layouts}
use Rattle.gc_types.specs.Declarations.{TypeTable}
use Rattle.gc_roots.specs.Roots.{Root}
use Rattle.gc_view.specs.Heaps.{HeapView}
use Rattle.gc_heap.specs.Content.{IsHeap}
use Rattle.gc_heap.specs.Collection.{Stage, Start, CanCollect, Collected, has_host, IsPartOf, moved_root}
use Rattle.gc_heap.specs.declared.collection.GcProgress.{GcProgress}
use Rattle.gc_heap.specs.declared.collection.GcProgress.TheVariants as progress
use Rattle.gc_heap.proofs.AddedLemmas.{start}
use Rattle.gc_owner.specs.RootColumns.{RootsView, roots_of, moved_roots, with_list, without_list}
use Rattle.gc_owner.specs.Going.{IsListed, StepsRoots, HasMovedList, Settles}
use Rattle.gc_owner.specs.Owners.{OwnerView, OwnerValue, IsReady, InOrder, CollectionGoes, IsGoing, IsOwnerUnderWay, IncrementsCounted, CollectsRoots, owner_value, start_of}
use Rattle.gc_owner.specs.Tracing.{AreTraced, IsCollectable}
use Rattle.gc_owner.proofs.Begins.{memory_same, memory_heap}
use Rattle.gc_owner.proofs.CollectedRoots.{collects_roots}
use Rattle.gc_owner.proofs.OwnerLemmas.{heap_kind, ready_at, idle_at}

-- three things are what they were
three_same : {A B C : Type 0} (P : A → B → C → Type 0) (a a' : A) (b b' : B) (c c' : C) → a' ≡ a → b' ≡ b → c' ≡ c → P a b c → P a' b' c'
three_same P a a' b b' c c' of_a of_b of_c known =
    subst (λ z. P a' b' z) (sym of_c) (subst (λ z. P a' z c) (sym of_b) (subst (λ z. P z b c) (sym of_a) known))

-- the state that an increment leaves, by what it answers
pub settled_none : {S : Type 0} (state : S) (allocated : ℕ) (old new : RootsView) (last last' : ℕ) (kept : Option S) (p : GcProgress) → Settles state allocated old new last last' kept p → p ≡ progress.Complete → kept ≡ None
settled_none state allocated old new last last' kept p set is = (subst (Settles state allocated old new last last' kept) is set).0

pub settled_some : {S : Type 0} (state : S) (allocated : ℕ) (old new : RootsView) (last last' : ℕ) (kept : Option S) (p : GcProgress) → Settles state allocated old new last last' kept p → p ≡ progress.Continue → kept ≡ Some state
settled_some state allocated old new last last' kept p set is = (subst (Settles state allocated old new last last' kept) is set).0

-- a collection that began there is complete
completed : (layouts : Layouts) (s : Start) (r r' : RootsView) (new : HeapView) (listed : List Root) (hosts' : ℕ → Bool) → IsHeap layouts s.heap → CanCollect layouts s → AreTraced layouts s.types s.heap → s.roots ≡ roots_of r → Collected layouts s new listed hosts'
    → IsHeap layouts new → ((to : ℕ → ℕ) → listed ≡ map (moved_root to) (roots_of r) → r' ≡ moved_roots to r) → CollectsRoots layouts s.types s.heap new r r' s.hosts hosts'
completed layouts s r r' new listed hosts' heap can traced from done after moves =
    let same : s ≡ record s { roots = roots_of r } = λ i. record s { roots = from i } in
    let done' : Collected layouts (record s { roots = roots_of r }) new listed hosts' = subst (λ (z : Start). Collected layouts z new listed hosts') same done in
    let can' : CanCollect layouts (record s { roots = roots_of r }) = subst (CanCollect layouts) same can in
    collects_roots layouts s.types s.heap new r r' listed s.hosts hosts' heap can.attached after
    (record { traced = traced; collects = subst (λ h. CanCollect layouts (start h (roots_of r) s.types s.hosts)) (sym (memory_same s.heap can.attached)) can' })
    done' (moves done'.to done'.roots_moved)

module _ {H S D : Type 0} (layouts : Layouts) (seen : H → HeapView) (sound : H → Type 0) (under_way : Start → ℕ → Bool → Stage H S → Type 0) where
  -- A collection begins
  module _ (heap : H) (types : TypeTable) (hosts : FinMap nat_cmp D) (roots : RootsView) (last : ℕ) (was : Option S) (now : OwnerValue H S D) (order : InOrder (heap_kind layouts seen sound under_way) (owner_value (seen heap) types hosts roots last heap was) was)
      (is : owner_value (seen heap) types hosts roots last heap was ≡ now) (idle : now.seen.idle ≡ true) (attached : now.seen.heap.attached ≡ true) (is_heap : (h : H) → sound h → IsHeap layouts (seen h)) where
    ready : IsReady layouts (sound heap) (owner_value (seen heap) types hosts roots last heap was).seen
    ready = ready_at layouts seen sound under_way heap types hosts roots last was now order is idle

    abbrev begins : Start
    begins = start_of (owner_value (seen heap) types hosts roots last heap was).seen

    pub attached_at : (seen heap).attached ≡ true
    attached_at = ap (λ (v : OwnerValue H S D). v.seen.heap.attached) is ∙ attached

    pub begun_goes : (roots' : RootsView) (state : S) → roots' ≡ with_list (roots_of roots) roots → ((s : Start) → sound heap → seen heap ≡ s.heap → CanCollect layouts s → under_way s 0 true (record { heap = heap; state = state; roots = s.roots; types = s.types; hosts = s.hosts }))
        → CollectionGoes (heap_kind layouts seen sound under_way) begins 0 true (owner_value (seen heap) types hosts roots' last heap (Some state)) state
    begun_goes roots' state listed starts = record {
      listed = roots_of roots;
      listed_is = ap (λ (r : RootsView). r.listed) listed;
      given = ap (λ (r : RootsView). r.given) listed;
      goes = starts begins ready.sound (sym (memory_same (seen heap) attached_at)) ready.can.collects;
      heap = memory_heap layouts (seen heap) (is_heap heap ready.sound);
      can = ready.can.collects;
      traced = ready.can.traced;
      types = refl;
      from = sym (ap roots_of listed);
      busy = refl;
      placed = ap (λ (r : RootsView). r.has_places) listed ∙ ready.placed attached_at;
    }

    pub begun_way : (roots' : RootsView) (state : S) → roots' ≡ with_list (roots_of roots) roots → roots.given ≡ 0 → ((s : Start) → sound heap → seen heap ≡ s.heap → CanCollect layouts s → under_way s 0 true (record { heap = heap; state = state; roots = s.roots; types = s.types; hosts = s.hosts }))
        → IsGoing (heap_kind layouts seen sound under_way) (start_of now.seen) 0 true now (owner_value (seen heap) types hosts roots' last heap (Some state))
    begun_way roots' state listed none starts =
        subst (λ (b : OwnerValue H S D). IsGoing (heap_kind layouts seen sound under_way) (start_of b.seen) 0 true b (owner_value (seen heap) types hosts roots' last heap (Some state))) is (record {
          state = state;
          state_is = refl;
          goes = begun_goes roots' state listed starts;
          start = refl;
          values = λ id value found. found;
          rest =
              (λ i. record (owner_value (seen heap) types hosts roots last heap was).seen {
                idle = idle_at layouts seen sound under_way heap types hosts roots last was now is idle i;
                roots = record roots { listed = ready.unlisted i; given = none i };
              })
              ∙ ap (λ (r : RootsView). record (owner_value (seen heap) types hosts roots last heap (Some was)).seen { idle = true; roots = without_list r }) (sym listed);
        })

  -- An increment is done; d is whether it and all before it were counted
  module _ (heap : H) (types : TypeTable) (hosts : FinMap nat_cmp D) (roots : RootsView) (last : ℕ) (was : Option S) (state : S) (of_state : was ≡ Some state)
      (heap' : H) (hosts' : FinMap nat_cmp D) (roots' : RootsView) (state' : S) (d : Bool) where
    abbrev before : OwnerValue H S D
    before = owner_value (seen heap) types hosts roots last heap was

    abbrev pub going : InOrder (heap_kind layouts seen sound under_way) before was → InOrder (heap_kind layouts seen sound under_way) before (Some state)
    going order = subst (InOrder (heap_kind layouts seen sound under_way) before) of_state order

    pub is_listed : InOrder (heap_kind layouts seen sound under_way) before was → IsListed under_way roots heap state types.declarations hosts
    is_listed order =
        let at = going order in
        let goes = at.1.1.1 in
        (goes.listed, (goes.listed_is, (at.0, (at.1.0, (at.1.1.0, goes.goes)))))

    -- the collection goes on
    pub goes_on : (s : Start) (n : ℕ) (c : Bool) → CollectionGoes (heap_kind layouts seen sound under_way) s n c before state → StepsRoots layouts under_way sound s n d roots roots' heap' (seen heap') state' types.declarations hosts' progress.Continue
        → CollectionGoes (heap_kind layouts seen sound under_way) s (n + 1) d (owner_value (seen heap') types hosts' roots' last heap' (Some state')) state'
    goes_on s n c goes step = record {
      listed = step.listed;
      listed_is = ap (λ (r : RootsView). r.listed) step.roots;
      given = ap (λ (r : RootsView). r.given) step.roots ∙ goes.given;
      goes = step.steps.1;
      heap = goes.heap;
      can = goes.can;
      traced = goes.traced;
      types = goes.types;
      from = goes.from ∙ sym (ap roots_of step.roots);
      busy = refl;
      placed = ap (λ (r : RootsView). r.has_places) step.roots ∙ goes.placed;
    }

    -- a collection that began somewhere, as far as it has come
    pub way_goes : (s : Start) (n : ℕ) (c : Bool) (begun now : OwnerValue H S D) → before ≡ now → IsOwnerUnderWay (heap_kind layouts seen sound under_way) s n c begun now → CollectionGoes (heap_kind layouts seen sound under_way) s n c before state
    way_goes s n c begun now is way =
        let at = (subst (IsOwnerUnderWay (heap_kind layouts seen sound under_way) s n c begun) (sym is) way).going in
        subst (CollectionGoes (heap_kind layouts seen sound under_way) s n c before) (same_Some at.state state (sym at.state_is ∙ of_state)) at.goes

    pub way_on : (s : Start) (n : ℕ) (c : Bool) (begun now : OwnerValue H S D) → before ≡ now → IsOwnerUnderWay (heap_kind layouts seen sound under_way) s n c begun now → StepsRoots layouts under_way sound s n d roots roots' heap' (seen heap') state' types.declarations hosts' progress.Continue → IsPartOf hosts' hosts
        → IncrementsCounted (heap_kind layouts seen sound under_way) s (n + 1) d begun (owner_value (seen heap') types hosts' roots' last heap' (Some state')) progress.Continue
    way_on s n c begun now is way step values =
        let whole : IsOwnerUnderWay (heap_kind layouts seen sound under_way) s n c begun before = subst (IsOwnerUnderWay (heap_kind layouts seen sound under_way) s n c begun) (sym is) way in
        let at = whole.going in
        let from : OwnerView D = whole.trimmed.seen in (
          step.steps.0,
          record {
            trimmed = whole.trimmed;
            trims = whole.trims;
            going = record {
              state = state';
              state_is = refl;
              goes = goes_on s n c (way_goes s n c begun now is way) step;
              start = at.start;
              values = λ id value found. at.values id value (values id value found);
              rest = at.rest ∙ ap (λ (r : RootsView). record before.seen { heap = from.heap; hosts = from.hosts; idle = true; roots = without_list r }) (sym step.roots);
            };
          },
        )

    -- the collection is complete, and the roots take their words from the list
    pub has_moved : (s : Start) (n : ℕ) (c : Bool) → CollectionGoes (heap_kind layouts seen sound under_way) s n c before state → StepsRoots layouts under_way sound s n d roots roots' heap' (seen heap') state' types.declarations hosts' progress.Complete → HasMovedList roots'
    has_moved s n c goes step =
        let done = step.steps.1.1 in
        let from : s.roots ≡ roots_of roots' = goes.from ∙ sym (ap roots_of step.roots) in (
          done.to,
          (
            ap (λ (r : RootsView). r.listed) step.roots ∙ ap (λ (rs : List Root). Some rs) (done.roots_moved ∙ ap (map (moved_root done.to)) from),
            ap (λ (r : RootsView). r.given) step.roots ∙ goes.given ∙ ap (λ (rs : List Root). length rs) from,
          ),
        )

    module _ (roots'' : RootsView) (last' : ℕ) (takes : (to : ℕ → ℕ) → roots'.listed ≡ Some (map (moved_root to) (roots_of roots')) → roots'' ≡ moved_roots to (without_list roots')) (is_heap : (h : H) → sound h → IsHeap layouts (seen h)) where
      took : (s : Start) (n : ℕ) (r : RootsView) → StepsRoots layouts under_way sound s n d roots roots' heap' (seen heap') state' types.declarations hosts' progress.Complete → r ≡ without_list roots
          → (listed : List Root) → roots'.listed ≡ Some listed → (to : ℕ → ℕ) → listed ≡ map (moved_root to) (roots_of r) → roots'' ≡ moved_roots to r
      took s n r step of_roots listed listed_is to moved_list =
          let same : roots_of r ≡ roots_of roots' = ap roots_of of_roots ∙ sym (ap roots_of step.roots) in
          takes to (listed_is ∙ ap (λ (rs : List Root). Some rs) (moved_list ∙ ap (map (moved_root to)) same))
          ∙ ap (moved_roots to) (ap without_list step.roots ∙ sym of_roots)

      pub ends_ready : (s : Start) (n : ℕ) (c : Bool) → CollectionGoes (heap_kind layouts seen sound under_way) s n c before state → StepsRoots layouts under_way sound s n d roots roots' heap' (seen heap') state' types.declarations hosts' progress.Complete
          → InOrder (heap_kind layouts seen sound under_way) (owner_value (seen heap') types hosts' roots'' last' heap' None) None
      ends_ready s n c goes step =
          let col = completed layouts s (without_list roots) roots'' (seen heap') step.listed (has_host hosts') goes.heap goes.can goes.traced goes.from step.steps.1.1 (is_heap heap' step.steps.1.0)
          (took s n (without_list roots) step refl step.listed (ap (λ (r : RootsView). r.listed) step.roots)) in
          record {
            sound = step.steps.1.0;
            can = subst (λ ts. IsCollectable layouts ts (seen heap') (roots_of roots'') (has_host hosts')) goes.types col.can;
            unlisted = ap (λ (r : RootsView). r.listed) col.moves;
            unused = λ none. let made : (seen heap').attached ≡ true = col.collected.attached in absurd (cc);
            placed = λ on. ap (λ (r : RootsView). r.has_places) col.moves ∙ goes.placed;
          }

      pub way_ends : (s : Start) (n : ℕ) (c : Bool) (begun now : OwnerValue H S D) → before ≡ now → IsOwnerUnderWay (heap_kind layouts seen sound under_way) s n c begun now → StepsRoots layouts under_way sound s n d roots roots' heap' (seen heap') state' types.declarations hosts' progress.Complete
          → IsPartOf hosts' hosts → last' ≡ (seen heap').allocated → IncrementsCounted (heap_kind layouts seen sound under_way) s (n + 1) d begun (owner_value (seen heap') types hosts' roots'' last' heap' None) progress.Complete
      way_ends s n c begun now is way step values last_is =
          let whole : IsOwnerUnderWay (heap_kind layouts seen sound under_way) s n c begun before = subst (IsOwnerUnderWay (heap_kind layouts seen sound under_way) s n c begun) (sym is) way in
          let at = whole.going in
          let from : OwnerView D = whole.trimmed.seen in
          let goes : CollectionGoes (heap_kind layouts seen sound under_way) (start_of from) n c before state = subst (λ (z : Start). CollectionGoes (heap_kind layouts seen sound under_way) z n c before state) at.start (way_goes s n c begun now is way) in
          let step' : StepsRoots layouts under_way sound (start_of from) n d roots roots' heap' (seen heap') state' types.declarations hosts' progress.Complete =
          subst (λ (z : Start). StepsRoots layouts under_way sound z n d roots roots' heap' (seen heap') state' types.declarations hosts' progress.Complete) at.start step in
          let of_roots : from.roots ≡ without_list roots = ap (λ (v : OwnerView D). v.roots) at.rest in
          let of_types : from.types ≡ types = ap (λ (v : OwnerView D). v.types) at.rest in
          let after : IsHeap layouts (seen heap') = is_heap heap' step'.steps.1.0 in
          let ended : Option S = None in
          let col = completed layouts (start_of from) from.roots roots'' (seen heap') step'.listed (has_host hosts') goes.heap goes.can goes.traced refl step'.steps.1.1 after
          (took (start_of from) n from.roots step' of_roots step'.listed (ap (λ (r : RootsView). r.listed) step'.roots)) in (
            step.steps.0,
            record {
              trimmed = from;
              trims = whole.trims;
              runs = record {
                collected = col.collected;
                roots = col.moves;
                values = λ id value found. at.values id value (values id value found);
                is_heap = after;
                can = subst (λ (ts : TypeTable). IsCollectable layouts ts.declarations (seen heap') (roots_of roots'') (has_host hosts')) of_types col.can;
                rest =
                    ap (λ n. record (owner_value (seen heap') types hosts' roots'' last' heap' ended).seen { last = n }) last_is
                    ∙ ap (λ (v : OwnerView D). record v { heap = seen heap'; hosts = hosts'; roots = roots''; last = (seen heap').allocated }) (sym at.rest);
              };
            },
          )

    -- what settling needs and leaves, whatever the increment answers
    pub can_settle : (p : GcProgress) (s : Start) (n : ℕ) (c : Bool) → CollectionGoes (heap_kind layouts seen sound under_way) s n c before state → StepsRoots layouts under_way sound s n d roots roots' heap' (seen heap') state' types.declarations hosts' p → p ≡ progress.Complete
        → sound heap' × HasMovedList roots'
    can_settle p s n c goes step is =
        let last_step : StepsRoots layouts under_way sound s n d roots roots' heap' (seen heap') state' types.declarations hosts' progress.Complete =
        subst (λ (q : GcProgress). StepsRoots layouts under_way sound s n d roots roots' heap' (seen heap') state' types.declarations hosts' q) is step in
        (last_step.steps.1.0, has_moved s n c goes last_step)

    pub settled_order : (p : GcProgress) (roots'' : RootsView) (last' : ℕ) (kept : Option S) → Settles state' (seen heap').allocated roots' roots'' last last' kept p → ((h : H) → sound h → IsHeap layouts (seen h))
        → (s : Start) (n : ℕ) (c : Bool) → CollectionGoes (heap_kind layouts seen sound under_way) s n c before state → StepsRoots layouts under_way sound s n d roots roots' heap' (seen heap') state' types.declarations hosts' p
        → InOrder (heap_kind layouts seen sound under_way) (owner_value (seen heap') types hosts' roots'' last' heap' kept) kept
    settled_order progress.Continue roots'' last' kept set is_heap s n c goes step =
        three_same (λ (r : RootsView) (l : ℕ) (o : Option S). InOrder (heap_kind layouts seen sound under_way) (owner_value (seen heap') types hosts' r l heap' o) o)
        roots' roots'' last last' (Some state') kept set.1 set.2 set.0 (s, (n + 1, (d, goes_on s n c goes step)))
    settled_order progress.Complete roots'' last' kept set is_heap s n c goes step =
        subst (λ (o : Option S). InOrder (heap_kind layouts seen sound under_way) (owner_value (seen heap') types hosts' roots'' last' heap' o) o) (sym set.0)
        (ends_ready roots'' last' set.2 is_heap s n c goes step)

    pub settled_way : (p : GcProgress) (roots'' : RootsView) (last' : ℕ) (kept : Option S) → Settles state' (seen heap').allocated roots' roots'' last last' kept p → ((h : H) → sound h → IsHeap layouts (seen h))
        → (s : Start) (n : ℕ) (c : Bool) (begun now : OwnerValue H S D) → before ≡ now → IsOwnerUnderWay (heap_kind layouts seen sound under_way) s n c begun now → StepsRoots layouts under_way sound s n d roots roots' heap' (seen heap') state' types.declarations hosts' p
        → IsPartOf hosts' hosts → IncrementsCounted (heap_kind layouts seen sound under_way) s (n + 1) d begun (owner_value (seen heap') types hosts' roots'' last' heap' kept) p
    settled_way progress.Continue roots'' last' kept set is_heap s n c begun now is way step values =
        three_same (λ (r : RootsView) (l : ℕ) (o : Option S). IncrementsCounted (heap_kind layouts seen sound under_way) s (n + 1) d begun (owner_value (seen heap') types hosts' r l heap' o) progress.Continue)
        roots' roots'' last last' (Some state') kept set.1 set.2 set.0 (way_on s n c begun now is way step values)
    settled_way progress.Complete roots'' last' kept set is_heap s n c begun now is way step values =
        subst (λ (o : Option S). IncrementsCounted (heap_kind layouts seen sound under_way) s (n + 1) d begun (owner_value (seen heap') types hosts' roots'' last' heap' o) progress.Complete) (sym set.0)
        (way_ends roots'' last' set.2 is_heap s n c begun now is way step values set.1)
