use Rattle.std.proofs.Common.{subst}
use Rattle.gc_script.specs.Values.{TellsHandle}
use Rattle.gc_script.proofs.FitLemmas.{told_fits}
use Rattle.gc_script.proofs.fits.reference_fits.Goals as goal

pub returns-in-Some : goal.returns-in-Some
returns-in-Some g c t v handle holds stands tells =
    told_fits c.args.store.now t c.args.ty.now c.args.class c.args.store.now.types handle c.in-Some.object v c.object_fits.result holds.1.types stands
    (subst (TellsHandle c.args.store.now t handle) c.in-Some.is tells) c.object_fits.ensures
