use Rattle.gc_lists.proofs.laws.versions_are_apart.Goals as goal
use Rattle.gc_lists.proofs.Sparing.{new_apart, others_left}

pub returns-clause-apart : goal.returns-clause-apart
returns-clause-apart g c = λ layouts s new t a version made r holds same names is. new_apart layouts s t a holds new same version made r names is

pub returns-clause-others : goal.returns-clause-others
returns-clause-others g c = λ layouts s new t a gone version r holds same releases apart names. others_left layouts s t a holds new same gone version r releases apart names
