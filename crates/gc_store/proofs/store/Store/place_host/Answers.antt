use Rattle.std.proofs.Common.{inl, ◌≡◌, ℕ, ◌+◌, ◌-◌, ◌<◌, ◌^◌, min, false, Option, Result, Ok, Err, refl, sym, ap, ◌∙◌, subst, arith, length}
use Rattle.std.specs.FinMap.{len}
use Rattle.std.specs.Option.{option_map}
use Rattle.std.specs.Int.NonZero.{non_zero_u32_get}
use Rattle.gc_types.specs.Declarations.{TypeTable}
use Rattle.gc_tables.specs.SideTables.{max_entries}
use Rattle.gc_model.specs.Live.{roots_full}
use Rattle.gc_model.specs.Table.{Table}
use Rattle.gc_model.specs.Stores.{StoreView}
use Rattle.gc_owner.specs.Owners.{OwnerView}
use Rattle.gc_owner.specs.Growing.{OwnerState, state_of}
use Rattle.gc_model.specs.Accounts.{Account, HoldsAccount, is_due}
use Rattle.gc_model.specs.Policy as policy
use Rattle.gc_model.specs.Policy.{policy_state}
use Rattle.gc_model.specs.Shown.{shown}
use Rattle.gc_model.proofs.HeldHosts.{few_hosts}
use Rattle.gc_store.specs.Stores.{store_view, is_full, scoped_places, tables_of}
use Rattle.gc_store.specs.declared.hosts.PlaceHostFault.{PlaceHostFault}
use Rattle.gc_values.specs.declared.root.GcRootIndex.{GcRootIndex}
use Rattle.gc_values.specs.declared.root.RootSlot.TheVariants as slot
use Rattle.gc_store.specs.HostPlaces.{PlacesHost}
use Rattle.gc_store.specs.HostSteps.{MakesRootedHost}
use Rattle.gc_store.proofs.HostPlacing.{host_follows, host_fault_follows, host_leaves, host_keeps}
use Rattle.gc_values.proofs.Keeping.{counts_of}
use Rattle.gc_store.proofs.Preparing.{IsReadyStore, reserved_store}
use Rattle.gc_store.proofs.Pushing.{full_is}
use Rattle.gc_store.proofs.store.Store.place_host.Given as given
use Rattle.gc_store.proofs.store.Store.place_host.Goals.{After-is_ready, After-is_err, Joined-make_host, in-Ok, in-Err}
use Rattle.gc_store.proofs.store.Store.place_host.Goals as goal
use Rattle.gc_store.proofs.SpareLemmas.{reserves_more}

-- the store before the call, and its owner with room for one more root
abbrev view : (g : given.Over) (c : After-is_ready g) → StoreView g.row.D.Denot
view g c = store_view c.self.inside.id c.self.inside.config (tables_of c.self.inside.interned c.self.inside.asked) c.self.inside.owner.seen c.self.inside.tries

ready : (g : given.Over) (c : After-is_ready g) (t : Table g.row.D.Denot) (a : Account) → HoldsAccount g.H.GcHeap.KIND (view g c) t a → IsReadyStore g.H.GcHeap.KIND (view g c) c.self.inside.owner.seen t a
ready g c t a holds = record { heap = c.is_ready.ensures.heap; can = c.is_ready.ensures.can; in_frames = c.is_ready.ensures.frames; holds = holds }

-- each table that the store held, by its parts
held : (g : given.Over) (c : After-is_ready g) (t : Table g.row.D.Denot) (a : Account) → HoldsAccount g.H.GcHeap.KIND c.args.self.now t a → HoldsAccount g.H.GcHeap.KIND (view g c) t a
held g c t a holds = subst (λ (s : StoreView g.row.D.Denot). HoldsAccount g.H.GcHeap.KIND s t a) (sym c.self.view_is) holds

abbrev now : (g : given.Over) (c : After-is_err g) → OwnerView g.row.D.Denot
now g c = c.reserve.new.self.seen

reserved : (g : given.Over) (c : After-is_err g) (t : Table g.row.D.Denot) (a : Account) → HoldsAccount g.H.GcHeap.KIND (view g (goal.at.After-is_err g c).After-is_ready) t a → IsReadyStore g.H.GcHeap.KIND (view g (goal.at.After-is_err g c).After-is_ready) (now g c) t a
reserved g c t a holds =
    let at = (goal.at.After-is_err g c).After-is_ready in
    reserved_store g.H.GcHeap.KIND (view g at) c.self.inside.owner.seen (now g c) t a (ready g at t a holds) c.reserve.ensures.rest

pub returns-then-is_err-clause-places : goal.returns-then-is_err-clause-places
returns-then-is_err-clause-places g c t a holds =
    let at = (goal.at.returns-then-is_err-clause-places g c).After-is_err in
    let first = (goal.at.returns-then-is_err-clause-places g c).After-is_ready in
    record {
      after = policy_state t a (g.L.ResourceLimiter.limits c.args.limiter.now);
      prepared = policy.not_begun;
      begun = inl refl;
      pages = inl refl;
      holds = (reserved g at t a (held g first t a holds)).holds;
      limits = refl;
    }

pub make_host-requires-clause-hosts : goal.make_host-requires-clause-hosts
make_host-requires-clause-hosts g c =
    let first = (goal.at.make_host-requires-clause-hosts g c).After-is_ready in
    subst (λ (v : OwnerView g.row.D.Denot). len v.hosts < max_entries) (sym c.reserve.ensures.rest)
    (few_hosts g.H.GcHeap.KIND (view g first) c.self.invariant.table c.self.invariant.holds.place c.self.invariant.holds.holds c.is_ready.ensures.heap)

-- a root may be pushed
full : (g : given.Over) (c : Joined-make_host g) (t : Table g.row.D.Denot) (a : Account) → IsReadyStore g.H.GcHeap.KIND (view g (goal.at.Joined-make_host g c).After-is_ready) (now g (goal.at.Joined-make_host g c).After-is_err) t a → roots_full t ≡ false
full g c t a is =
    let s = view g (goal.at.Joined-make_host g c).After-is_ready in
    sym (full_is g.H.GcHeap.KIND (shown s c.reserve.new.self.seen) t is.holds.place is.holds.holds)
    ∙ ap (λ (v : OwnerView g.row.D.Denot). is_full (shown s v)) c.reserve.ensures.rest ∙ ap is_full c.self.view_is ∙ sym c.roots_full.ensures ∙ c.if-roots_full.false

-- what was made or refused, where the owner stood in one state and came to another
abbrev start : (g : given.Over) (c : Joined-make_host g) → OwnerState g.row.D.Denot
start g c = state_of c.reserve.new.self.seen (g.L.ResourceLimiter.limits c.args.limiter.now)

abbrev made_state : (g : given.Over) (c : Joined-make_host g) → OwnerState g.row.D.Denot
made_state g c = state_of c.make_host.new.owner.seen (g.L.ResourceLimiter.limits c.make_host.new.limiter)

made : (g : given.Over) (c : Joined-make_host g) (r : Result ℕ (PlaceHostFault g.row.D.Denot)) → c.make_host.result ≡ r
    → MakesRootedHost g.H.GcHeap.KIND c.args.value c.self.inside.config.first_pages c.count_allocation-is_due.result (start g c) (made_state g c) r
made g c r is = subst (λ (x : Result ℕ (PlaceHostFault g.row.D.Denot)). MakesRootedHost g.H.GcHeap.KIND c.args.value c.self.inside.config.first_pages c.count_allocation-is_due.result (start g c) (made_state g c) x) is c.make_host.ensures

due_is : (g : given.Over) (c : Joined-make_host g) → c.count_allocation-is_due.result ≡ is_due (option_map non_zero_u32_get c.self.inside.config.alloc_counter) (min (c.self.inside.tries + 1) (2 ^ 64 - 1))
due_is g c = c.count_allocation-is_due.ensures.due ∙ ap (is_due (option_map non_zero_u32_get c.self.inside.config.alloc_counter)) c.count_allocation-is_due.ensures.counted

pub invariant_of-self-2 : goal.invariant_of-self-2
invariant_of-self-2 g c =
    let err = (goal.at.Joined-make_host g c).After-is_err in
    let first = (goal.at.Joined-make_host g c).After-is_ready in
    let t = c.self.invariant.table in
    let a = c.self.invariant.account in
    let is = reserved g err t a c.self.invariant.holds in
    let keeps = host_keeps g.H.GcHeap.KIND c.args.value c.self.inside.config.first_pages c.count_allocation-is_due.result (start g c) (made_state g c) c.make_host.result c.make_host.ensures in
    let types : c.make_host.new.owner.seen.types ≡ c.self.inside.owner.seen.types = keeps.types ∙ ap (λ (v : OwnerView g.row.D.Denot). v.types) c.reserve.ensures.rest in
    let after = host_leaves g.H.GcHeap.KIND (view g first) c.reserve.new.self.seen c.args.value (g.L.ResourceLimiter.limits c.args.limiter.now) t a is c.count_allocation-is_due.result (due_is g c) (full g c t a is) (made_state g c)
    c.make_host.result c.make_host.ensures in
    record {
      idle = keeps.idle ∙ ap (λ (v : OwnerView g.row.D.Denot). v.idle) c.reserve.ensures.rest ∙ c.self.invariant.idle;
      engine = ap (λ (x : TypeTable). x.engine) types ∙ c.self.invariant.engine;
      number = ap (λ (x : TypeTable). x.number) types ∙ c.self.invariant.number;
      frames = c.self.invariant.frames ∙ sym (keeps.counts ∙ ap counts_of c.reserve.ensures.rest);
      table = after.0;
      account = after.1.0;
      holds = subst (λ (n : ℕ). HoldsAccount g.H.GcHeap.KIND (store_view c.self.inside.id c.self.inside.config (tables_of c.self.inside.interned c.self.inside.asked) c.make_host.new.owner.seen n) after.0 after.1.0) (sym c.count_allocation-is_due.ensures.counted) after.1.1;
    }

-- the store afterwards
abbrev later : (g : given.Over) (c : Joined-make_host g) → ℕ → StoreView g.row.D.Denot
later g c tries = store_view c.self.inside.id c.self.inside.config (tables_of c.self.inside.interned c.self.inside.asked) c.make_host.new.owner.seen tries

-- what the store answers, by the parts that it had
answers : (g : given.Over) (c : Joined-make_host g) (t : Table g.row.D.Denot) (a : Account) (r : Result GcRootIndex (PlaceHostFault g.row.D.Denot))
    → PlacesHost g.H.GcHeap.KIND (option_map non_zero_u32_get c.self.inside.config.alloc_counter) c.args.value (policy_state t a (g.L.ResourceLimiter.limits c.args.limiter.now)) (g.L.ResourceLimiter.limits c.make_host.new.limiter) r (later g c (min (c.self.inside.tries + 1) (2 ^ 64 - 1)))
    → c.match-make_host.result ≡ r
    → PlacesHost g.H.GcHeap.KIND c.args.self.now.alloc_counter c.args.value (policy_state t a (g.L.ResourceLimiter.limits c.args.limiter.now)) (g.L.ResourceLimiter.limits c.make_host.new.limiter) c.match-make_host.result (later g c c.count_allocation-is_due.new.tries)
answers g c t a r places is =
    subst (λ (x : Result GcRootIndex (PlaceHostFault g.row.D.Denot)). PlacesHost g.H.GcHeap.KIND c.args.self.now.alloc_counter c.args.value (policy_state t a (g.L.ResourceLimiter.limits c.args.limiter.now)) (g.L.ResourceLimiter.limits c.make_host.new.limiter) x (later g c c.count_allocation-is_due.new.tries)) (sym is)
    (subst (λ (n : Option ℕ). PlacesHost g.H.GcHeap.KIND n c.args.value (policy_state t a (g.L.ResourceLimiter.limits c.args.limiter.now)) (g.L.ResourceLimiter.limits c.make_host.new.limiter) r (later g c c.count_allocation-is_due.new.tries)) (ap (λ (s : StoreView g.row.D.Denot). s.alloc_counter) c.self.view_is)
    (subst (λ (n : ℕ). PlacesHost g.H.GcHeap.KIND (option_map non_zero_u32_get c.self.inside.config.alloc_counter) c.args.value (policy_state t a (g.L.ResourceLimiter.limits c.args.limiter.now)) (g.L.ResourceLimiter.limits c.make_host.new.limiter) r (later g c n))
    (sym c.count_allocation-is_due.ensures.counted) places))

pub returns-clause-places : goal.returns-clause-places
returns-clause-places g c t a holds =
    let err = (goal.at.Joined-make_host g c).After-is_err in
    let first = (goal.at.Joined-make_host g c).After-is_ready in
    let is = reserved g err t a (held g first t a holds) in
    elim c.match-make_host.branch [
      | in-Ok w ↦
          let makes = made g c (Ok w.in-Ok.index) w.in-Ok.is in
          let after = host_follows g.H.GcHeap.KIND (view g first) c.reserve.new.self.seen c.args.value (g.L.ResourceLimiter.limits c.args.limiter.now) t a is c.count_allocation-is_due.result (due_is g c) (full g c t a is) (made_state g c)
          makes.0 w.in-Ok.index makes.1.0 makes.1.1 w.scoped_handle.result
          (w.scoped_handle.ensures ∙ ap (λ (n : ℕ). record { store_id = c.self.inside.id; generation = n; slot = slot.Scoped w.in-Ok.index }) w.generation.ensures) in
          answers g c t a (Ok w.scoped_handle.result) after.places w.result-is
      | in-Err w ↦
          let after = host_fault_follows g.H.GcHeap.KIND (view g first) c.reserve.new.self.seen c.args.value (g.L.ResourceLimiter.limits c.args.limiter.now) t a is c.count_allocation-is_due.result (due_is g c) (full g c t a is) (made_state g c)
          w.in-Err.fault (made g c (Err w.in-Err.fault) w.in-Err.is) in
          answers g c t a (Err w.in-Err.fault) after.places w.result-is
    ]

-- No fewer places for scoped roots are left.
pub returns-clause-spare : goal.returns-clause-spare
returns-clause-spare g c =
    let at = (goal.at.returns-clause-spare g c).Joined-make_host in
    let more = reserves_more 1 c.self.inside.owner.seen.roots.spare c.reserve.new.self.seen.roots.spare c.reserve.result c.reserve.ensures.spare in
    let less = (host_keeps g.H.GcHeap.KIND c.args.value c.self.inside.config.first_pages c.count_allocation-is_due.result (start g at) (made_state g at) c.make_host.result c.make_host.ensures).spare in
    let count = ap (λ (v : OwnerView g.row.D.Denot). length v.roots.scoped) c.reserve.ensures.rest in
    let was = ap (λ (s : StoreView g.row.D.Denot). scoped_places s) c.self.view_is in
    omega (arith, more, less, count, was)
