use Rattle.std.proofs.Common.{◌∙◌, ap, sym, subst}
use Rattle.gc_free.specs.Listed.{run_length_at}
use Rattle.gc_free.specs.Space.{IsSound}
use Rattle.gc_free.proofs.WaitingRuns.{sound_of}
use Rattle.gc_free.proofs.EndedBefore.{run_behind}
use Rattle.gc_free.proofs.batched.BatchedFreeList.run_at.Goals as goal

pub returns-then-self-place-clause-length : goal.returns-then-self-place-clause-length
returns-then-self-place-clause-length c =
    c.run_at.ensures.length
    ∙ sym (run_behind c.args.place c.self.inside.highest c.self.inside.waiting.items c.self.inside.list.space c.self.invariant.waits c.self.invariant.ends c.if-self-place.true)
    ∙ ap (λ v. run_length_at c.args.place v.space) c.self.view_is

pub returns-then-self-place-clause-sound : goal.returns-then-self-place-clause-sound
returns-then-self-place-clause-sound c =
    subst (λ v. IsSound v.space) c.self.view_is (sound_of c.self.inside.waiting.items c.self.inside.list.space c.self.invariant.sound c.self.invariant.waits)
