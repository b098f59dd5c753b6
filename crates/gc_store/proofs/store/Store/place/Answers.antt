use Rattle.std.proofs.Common.{inl, refl}
use Rattle.gc_model.specs.Policy as policy
use Rattle.gc_model.specs.Policy.{policy_state}
use Rattle.gc_store.proofs.store.Store.place.Goals as goal

pub returns-in-Err-clause-places : goal.returns-in-Err-clause-places
returns-in-Err-clause-places g c t a o holds is_asked = record {
  after = policy_state t a (g.L.ResourceLimiter.limits c.args.limiter.now);
  prepared = policy.not_begun;
  begun = inl refl;
  pages = inl refl;
  holds = holds;
  limits = refl;
}
