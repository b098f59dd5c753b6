use Rattle.std.proofs.Common.{ap, ◌∙◌}
use Rattle.gc_owner.specs.Owners.{start_of}
use Rattle.gc_owner.proofs.owner.HeapOwner.begin.Goals as goal

pub begin_all-requires-clause-idle : goal.begin_all-requires-clause-idle
begin_all-requires-clause-idle g c = ap (λ v. v.idle) c.trim.ensures.changes.rest ∙ c.requires.idle

pub begin_all-requires-clause-attached : goal.begin_all-requires-clause-attached
begin_all-requires-clause-attached g c = c.trim.ensures.changes.held.attached ∙ c.requires.attached

pub returns : goal.returns
returns g c = (start_of c.trim.new.self.seen, record { trimmed = c.trim.new.self; trims = c.trim.ensures; going = c.begin_all.ensures.going })
