use Rattle.gc_free.proofs.LawsOfCalls.{order_of_giving_back_is_nothing}
use Rattle.gc_free.proofs.laws.order_of_giving_back_is_nothing.Goals as goal

pub returns : goal.returns
returns c = order_of_giving_back_is_nothing
