use Rattle.std.proofs.Common.{◌≡◌, Result, Err, sym, ap, ◌∙◌, refl, subst, arith}
use Rattle.gc_model.specs.Table.{Table}
use Rattle.gc_model.specs.Stores.{StoreView}
use Rattle.gc_model.specs.Allocation as allocation
use Rattle.gc_owner.specs.declared.pages.PagesFault.{PagesFault}
use Rattle.gc_owner.specs.Growing.{OwnerState, state_of}
use Rattle.gc_model.specs.Accounts.{Account, HoldsAccount}
use Rattle.gc_model.specs.Policy as policy
use Rattle.gc_model.specs.Policy.{policy_state}
use Rattle.gc_store.specs.declared.grow.GrowFault.{GrowFault}
use Rattle.gc_store.specs.Expansion.{GrowsStore}
use Rattle.gc_store.specs.Stores.{store_view, tables_of}
use Rattle.gc_store.proofs.Expanding.{FollowsExpansion, expansion_follows, answer_of}
use Rattle.gc_store.proofs.store.Store.gc_heap_grow.Given.{Over}
use Rattle.gc_store.proofs.store.Store.gc_heap_grow.Goals as goal
use Rattle.gc_store.proofs.store.Store.gc_heap_grow.Goals.{After-expand, in-Ok, in-Err-Refused, in-Err-Memory}

-- the store before the growth, and its owner before and after it
abbrev view : (g : Over) → After-expand g → StoreView g.row.D.Denot
view g c = store_view c.self.inside.id c.self.inside.config (tables_of c.self.inside.interned c.self.inside.asked) c.self.inside.owner.seen c.self.inside.tries

abbrev start : (g : Over) → After-expand g → OwnerState g.row.D.Denot
start g c = state_of c.self.inside.owner.seen (g.L.ResourceLimiter.limits c.args.limiter.now)

abbrev end : (g : Over) → After-expand g → OwnerState g.row.D.Denot
end g c = state_of c.expand.new.self.seen (g.L.ResourceLimiter.limits c.expand.new.limiter)

abbrev now : (g : Over) → After-expand g → StoreView g.row.D.Denot
now g c = store_view c.self.inside.id c.self.inside.config (tables_of c.self.inside.interned c.self.inside.asked) c.expand.new.self.seen c.self.inside.tries

expanded : (g : Over) (c : After-expand g) (t : Table g.row.D.Denot) (a : Account) → HoldsAccount g.H.GcHeap.KIND (view g c) t a
    → FollowsExpansion g.H.GcHeap.KIND (view g c) c.args.bytes (end g c) (policy_state t a (g.L.ResourceLimiter.limits c.args.limiter.now)) c.expand.result c.self.inside.slot_counts.items
expanded g c t a holds =
    expansion_follows g.H.GcHeap.KIND (view g c) (start g c) (policy_state t a (g.L.ResourceLimiter.limits c.args.limiter.now))
    (record { holds = holds; limits = refl; is_heap = c.is_ready.ensures.heap; can = c.is_ready.ensures.can; in_frames = c.is_ready.ensures.frames }) c.self.inside.slot_counts.items c.self.invariant c.args.bytes
    (omega (arith, c.if-bytes-eq0.false)) (end g c) c.expand.result c.expand.ensures

pub returns-then-bytes-eq0-clause-grows : goal.returns-then-bytes-eq0-clause-grows
returns-then-bytes-eq0-clause-grows g c t a holds = record {
  after = policy_state t a (g.L.ResourceLimiter.limits c.args.limiter.now);
  expands = policy.nothing c.if-bytes-eq0.true;
  grows = allocation.nothing c.if-bytes-eq0.true;
  holds = holds;
  limits = refl;
}

pub invariant_of-self : goal.invariant_of-self
invariant_of-self g c =
    let at = (goal.at.invariant_of-self g c).After-expand in
    (expanded g at c.self.invariant.table c.self.invariant.account c.self.invariant.holds).sound

pub returns-clause-grows : goal.returns-clause-grows
returns-clause-grows g c t a holds =
    let at = (goal.at.returns-clause-grows g c).After-expand in
    let answer : c.match-expand.result ≡ answer_of c.expand.result =
    elim c.match-expand.branch [
      | in-Ok w ↦ w.result-is ∙ ap answer_of (sym w.in-Ok.is)
      | in-Err-Refused w ↦ w.result-is ∙ ap answer_of (sym (w.in-Err-Refused.is ∙ ap (λ (f : PagesFault). Err f) w.in-Err-Refused.field-0-is))
      | in-Err-Memory w ↦ w.result-is ∙ ap answer_of (sym (w.in-Err-Memory.is ∙ ap (λ (f : PagesFault). Err f) w.in-Err-Memory.field-0-is))
    ] in
    subst (λ (r : Result (Unit {0}) GrowFault). GrowsStore g.H.GcHeap.KIND c.args.bytes (policy_state t a (g.L.ResourceLimiter.limits c.args.limiter.now)) (g.L.ResourceLimiter.limits c.expand.new.limiter) r (now g at)) (sym answer)
    (expanded g at t a (subst (λ (s : StoreView g.row.D.Denot). HoldsAccount g.H.GcHeap.KIND s t a) (sym c.self.view_is) holds)).grows
