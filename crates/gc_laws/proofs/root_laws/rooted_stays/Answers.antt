use Rattle.gc_laws.proofs.RootedLaws.{rooted_held}
use Rattle.gc_laws.proofs.WrittenLaws.{made_is, written_is, unwritten_is}
use Rattle.gc_laws.proofs.root_laws.rooted_stays.Goals as goal

pub returns-clause-held : goal.returns-clause-held
returns-clause-held g = rooted_held

pub returns-clause-made : goal.returns-clause-made
returns-clause-made g = made_is

pub returns-clause-written : goal.returns-clause-written
returns-clause-written g = written_is

pub returns-clause-unwritten : goal.returns-clause-unwritten
returns-clause-unwritten g = unwritten_is
