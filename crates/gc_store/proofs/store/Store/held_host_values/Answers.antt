use Rattle.std.proofs.Common.{◌≡◌, ℕ, ap, sym, ◌∙◌, subst}
use Rattle.std.specs.List.{slice_get}
use Rattle.std.specs.Ordering.{nat_cmp}
use Rattle.std.specs.FinMap.{FinMap, len}
use Rattle.gc_model.specs.Reach.{HasNumber, IsKept, IsHost}
use Rattle.gc_model.specs.Stores.{StoreView}
use Rattle.gc_model.specs.Collects.{IsPlacedHost}
use Rattle.gc_model.proofs.HeldHosts.{held_hosts, kept_hosts}
use Rattle.gc_store.proofs.store.Store.held_host_values.Goals as goal

pub returns-clause-placed : goal.returns-clause-placed
returns-clause-placed g c = λ t place holds.
    let count : c.len.result ≡ len c.args.self.now.hosts =
    c.len.ensures.value ∙ ap (λ (m : FinMap nat_cmp g.row.D.Denot). len m) c.hosts.ensures ∙ ap (λ (s : StoreView g.row.D.Denot). len s.hosts) c.self.view_is in
    subst (HasNumber (IsPlacedHost t.objects place)) (sym count) (held_hosts g.H.GcHeap.KIND c.args.self.now t place holds)

pub returns-clause-kept : goal.returns-clause-kept
returns-clause-kept g c = λ t kept.
    let count : c.len.result ≡ len c.args.self.now.hosts =
    c.len.ensures.value ∙ ap (λ (m : FinMap nat_cmp g.row.D.Denot). len m) c.hosts.ensures ∙ ap (λ (s : StoreView g.row.D.Denot). len s.hosts) c.self.view_is in
    subst (HasNumber (λ (p : ℕ). IsKept g.H.GcHeap.KIND t p × IsHost (slice_get t.objects p))) (sym count) (kept_hosts g.H.GcHeap.KIND c.args.self.now t kept)
