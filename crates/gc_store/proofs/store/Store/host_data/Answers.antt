use Rattle.std.proofs.Common.{ℕ, Option, Result, Ok, sym, ap, ◌∙◌, subst}
use Rattle.std.specs.FinMap.{get}
use Rattle.gc_model.specs.Stores.{StoreView}
use Rattle.gc_values.specs.declared.root.RootFault.{RootFault}
use Rattle.gc_store.specs.HostSteps.{HasHostId, FindsHostId}
use Rattle.gc_store.proofs.HostReads.{host_under}
use Rattle.gc_store.proofs.store.Store.host_data.Goals as goal

pub returns-in-Ok-Some-clause-live : goal.returns-in-Ok-Some-clause-live
returns-in-Ok-Some-clause-live g c t r holds named =
    let has : HasHostId c.args.self.now t holds.0 r c.in-Ok-Some.id =
    subst (λ (x : Result (Option ℕ) RootFault). FindsHostId c.args.self.now t holds.0 r x) (c.in-Ok-Some.is ∙ ap (λ (o : Option ℕ). Ok o) c.in-Ok-Some.field-0-is) (c.host_id.ensures.live t holds.0 r holds.1 named) in
    let under = host_under g.H.GcHeap.KIND c.args.self.now t holds.0 holds.1 r c.in-Ok-Some.id has in
    c.host.ensures ∙ ap (λ (s : StoreView g.row.D.Denot). get s.hosts c.in-Ok-Some.id) c.self.view_is ∙ under.held ∙ sym under.is

pub returns-in-Ok-None-clause-live : goal.returns-in-Ok-None-clause-live
returns-in-Ok-None-clause-live g c t r holds named =
    let found = subst (λ (x : Result (Option ℕ) RootFault). FindsHostId c.args.self.now t holds.0 r x) (c.in-Ok-None.is ∙ ap (λ (o : Option ℕ). Ok o) c.in-Ok-None.field-0-is) (c.host_id.ensures.live t holds.0 r holds.1 named) in
    sym found

pub returns-in-Err-clause-live : goal.returns-in-Err-clause-live
returns-in-Err-clause-live g c t r holds named =
    subst (λ (x : Result (Option ℕ) RootFault). FindsHostId c.args.self.now t holds.0 r x) c.in-Err.is (c.host_id.ensures.live t holds.0 r holds.1 named)
