use Rattle.std.proofs.Common.{◌*◌, arith}
use Rattle.gc_view.specs.Sizes.{need_of}
use Rattle.gc_view.specs.Pages.{page}
use Rattle.gc_owner.specs.Growing.{pages_of, asked}
use Rattle.gc_owner.proofs.GrowthLemmas.{grown_fits, asked_holds}
use Rattle.gc_rooted.proofs.laws.granted_growth_fits.Goals as goal

pub returns : goal.returns
returns g layouts h size heap = grown_fits layouts h size (page * asked (pages_of h) (need_of layouts size)) heap (omega arith) (asked_holds (pages_of h) (need_of layouts size))
