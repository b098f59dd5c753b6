use Rattle.std.proofs.Common.{ℕ, ◌≡◌, ◌+◌, ◌*◌, ◌/◌, ap, arith}
use Rattle.gc_drc.specs.Layout.{block_of}
use Rattle.gc_drc.proofs.ReleaseLemmas.{releasable}
use Rattle.gc_drc.proofs.space.CountedSpace.block_end.Goals as goal

pub size-requires : goal.size-requires
size-requires c = (releasable c.args.self.now c.args.place c.requires).room

pub overflow_add-result : goal.overflow_add-result
overflow_add-result c = omega (arith, c.size.ensures, (releasable c.args.self.now c.args.place c.requires).rounds)

pub overflow_add-result-2 : goal.overflow_add-result-2
overflow_add-result-2 c =
    let block : (c.size.result + 15) / 16 * 16 ≡ block_of _ = ap block_of c.size.ensures in
    omega (arith, block, (releasable c.args.self.now c.args.place c.requires).whole)

pub returns : goal.returns
returns c = ap (λ (n : ℕ). c.args.place + block_of n) c.size.ensures
