use Rattle.gc_laws.proofs.RowLemmas.{is_session, one_output}
use Rattle.gc_laws.proofs.laws.one_struct_session.Goals as goal

pub returns-clause-replies : goal.returns-clause-replies
returns-clause-replies c = is_session

pub returns-clause-alone : goal.returns-clause-alone
returns-clause-alone c output t session = one_output output t session
