use Rattle.std.proofs.Common.{ap, ◌∙◌}
use Rattle.gc_owner.proofs.owner.HeapOwner.is_made.Goals as goal

pub returns : goal.returns
returns g c = c.is_attached.ensures ∙ ap (λ v. v.seen.heap.attached) c.self.view_is
