use Rattle.gc_laws.proofs.RunLaws.{kinds_alike, any_alike, same_replies}
use Rattle.gc_laws.proofs.SessionLaws.{alike_output}
use Rattle.gc_laws.proofs.laws.heaps_reply_alike.Goals as goal

pub returns-clause-copying_and_counting : goal.returns-clause-copying_and_counting
returns-clause-copying_and_counting g = kinds_alike

pub returns-clause-any : goal.returns-clause-any
returns-clause-any g = any_alike

pub returns-clause-equal : goal.returns-clause-equal
returns-clause-equal g = same_replies

pub returns-clause-output : goal.returns-clause-output
returns-clause-output g = alike_output
