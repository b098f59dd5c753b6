use Rattle.gc_model.specs.Table.{write}
use Rattle.gc_lists.proofs.Kept.{list_kept}
use Rattle.gc_maps.proofs.Staying.{map_stays}
use Rattle.gc_laws.proofs.StepKeeps.{mutable_write}
use Rattle.gc_laws.proofs.list_laws.writes_keep_lists.Goals as goal

pub returns-clause-constants : goal.returns-clause-constants
returns-clause-constants c = λ t position index v is. mutable_write t position index v is

pub returns-clause-lists : goal.returns-clause-lists
returns-clause-lists c = λ t position index v r xs mutable is. list_kept t (write position index v t) (mutable_write t position index v mutable) xs r is

pub returns-clause-maps : goal.returns-clause-maps
returns-clause-maps c = λ t position index v r ty m mutable is. map_stays t (write position index v t) (mutable_write t position index v mutable) r ty m is
