use Rattle.std.proofs.Common.{subst, sym}
use Rattle.gc_store.proofs.Sound.{sound_start, starts_configured}
use Rattle.gc_store.specs.Stores.{HoldsStart}
use Rattle.gc_store.proofs.store.Store.configure.Goals as goal

pub invariant_of-self : goal.invariant_of-self
invariant_of-self g c =
    sound_start _ _ _ _ _ c.self.invariant.idle c.self.invariant.engine c.self.invariant.number c.self.invariant.frames (starts_configured _ _ c.args.config _ (subst (HoldsStart _ _) (sym c.self.view_is) c.requires))

pub returns-clause-start : goal.returns-clause-start
returns-clause-start g c = starts_configured _ _ c.args.config _ (subst (HoldsStart _ _) (sym c.self.view_is) c.requires)
