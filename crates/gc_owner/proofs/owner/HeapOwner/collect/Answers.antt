use Rattle.std.proofs.Common.{ap, ◌∙◌}
use Rattle.gc_owner.proofs.owner.HeapOwner.collect.Goals as goal

pub collect_all-requires-clause-idle : goal.collect_all-requires-clause-idle
collect_all-requires-clause-idle g c = ap (λ v. v.idle) c.trim.ensures.changes.rest ∙ c.requires.idle

pub collect_all-requires-clause-attached : goal.collect_all-requires-clause-attached
collect_all-requires-clause-attached g c = c.trim.ensures.changes.held.attached ∙ c.requires.attached

pub returns : goal.returns
returns g c = record { trimmed = c.trim.new.self.seen; trims = c.trim.ensures; runs = c.collect_all.ensures }
