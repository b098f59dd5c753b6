use Rattle.std.proofs.Common.{refl}
use Rattle.gc_owner.specs.declared.entry.GcClass.TheVariants.{Any}
use Rattle.gc_model.specs.Values.{at, reference}
use Rattle.gcsh_reports.proofs.paths.value_of.Goals as goal

pub returns : goal.returns
returns g c t p holds named = c.shown_root.ensures t Any (reference Any (at p)) holds (record { root = at p; is = refl; named = named })
