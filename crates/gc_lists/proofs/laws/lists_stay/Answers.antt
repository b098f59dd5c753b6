use Rattle.gc_lists.proofs.laws.lists_stay.Goals as goal
use Rattle.gc_lists.proofs.Kept.{list_kept, list_of_kept}

pub returns-clause-lists : goal.returns-clause-lists
returns-clause-lists g c = λ t u r xs keeps is. list_kept t u keeps xs r is

pub returns-clause-of_type : goal.returns-clause-of_type
returns-clause-of_type g c = λ t u r ty xs keeps is. list_of_kept t u keeps ty xs r is
