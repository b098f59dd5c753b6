use Rattle.std.proofs.Common.{◌∙◌, ap, sym, subst}
use Rattle.gc_free.specs.Space.{IsSound}
use Rattle.gc_free.proofs.WaitingRuns.{capacity_of, sound_of}
use Rattle.gc_free.proofs.batched.BatchedFreeList.current_capacity.Goals as goal

pub returns-clause-capacity : goal.returns-clause-capacity
returns-clause-capacity c =
    c.current_capacity.ensures.capacity ∙ sym (capacity_of c.self.inside.waiting.items c.self.inside.list.space) ∙ ap (λ v. v.space.capacity) c.self.view_is

pub returns-clause-sound : goal.returns-clause-sound
returns-clause-sound c =
    subst (λ v. IsSound v.space) c.self.view_is (sound_of c.self.inside.waiting.items c.self.inside.list.space c.self.invariant.sound c.self.invariant.waits)
