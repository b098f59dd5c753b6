use Rattle.gc_lists.proofs.laws.versions_stay.Goals as goal
use Rattle.gc_lists.proofs.Standing.{version_stays}

pub returns : goal.returns
returns g c = λ s new t u more version ty xs same keeps owned stands. version_stays s new t u more version ty xs same keeps owned stands
