use Rattle.std.proofs.Common.{refl}
use Rattle.gc_image.proofs.ElementLemmas.{all_true}
use Rattle.gc_image.proofs.reach.are_all.Goals as goal

pub returns : goal.returns
returns c = (λ e. all_true c.args.marked.now c.loop-is_marked.is_marked-index c.loop-is_marked-test.false c.loop-is_marked.invariant, λ all. refl)
