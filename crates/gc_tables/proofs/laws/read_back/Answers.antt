use Rattle.gc_tables.proofs.LawsOfTables.{stands, cont_stands}
use Rattle.gc_tables.proofs.laws.read_back.Goals as goal

pub returns-clause-func : goal.returns-clause-func
returns-clause-func c = stands

pub returns-clause-cont : goal.returns-clause-cont
returns-clause-cont c = cont_stands
