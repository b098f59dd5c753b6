use Rattle.gc_lists.proofs.Pages.{still_within, within_then}
use Rattle.gc_lists.proofs.laws.limits_are_kept.Goals as goal

pub returns-clause-composes : goal.returns-clause-composes
returns-clause-composes g c = λ limit t u v first before then. within_then limit t u v first before then

pub returns-clause-within : goal.returns-clause-within
returns-clause-within g c = λ limit t u keeps may. still_within limit t u keeps may
