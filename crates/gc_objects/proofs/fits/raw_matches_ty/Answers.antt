use Rattle.gc_objects.proofs.ValueLemmas.{fits_given}
use Rattle.gc_objects.proofs.fits.raw_matches_ty.Goals as goal

pub returns-in-Ok : goal.returns-in-Ok
returns-in-Ok g c t holds = fits_given c.args.store.now t c.args.value.now c.args.ty.now c.value_fits.result (c.in-Ok.ensures t holds) (λ x. c.value_fits.ensures t x holds)
