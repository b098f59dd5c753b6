use Rattle.std.proofs.Common.{ℕ, ◌≡◌, ◌+◌, ◌*◌, ◌/◌, ap, ◌∙◌, refl, arith}
use Rattle.std.specs.Int.NonZero.{non_zero_u32_get}
use Rattle.gc_free.specs.Runs.{run}
use Rattle.gc_free.specs.Space.{give}
use Rattle.gc_drc.specs.Layout.{block_of}
use Rattle.gc_drc.proofs.ReleaseLemmas.{releasable, releases, release_held}
use Rattle.gc_drc.proofs.space.CountedSpace.release.Goals as goal

pub dealloc_fast-requires : goal.dealloc_fast-requires
dealloc_fast-requires c =
    let e : non_zero_u32_get c.in-Some.index ≡ c.args.place = c.in-Some.ensures in
    release_held c.args.self.now c.args.place c.size-size.result (non_zero_u32_get c.in-Some.index) c.requires c.size-size.ensures e

pub overflow_sub-self-2 : goal.overflow_sub-self-2
overflow_sub-self-2 c =
    let block : (c.size-size.result + 15) / 16 * 16 ≡ block_of _ = ap block_of c.size-size.ensures in
    omega (arith, block, (releasable c.args.self.now c.args.place c.requires).enough)

pub returns : goal.returns
returns c =
    let e : non_zero_u32_get c.in-Some.index ≡ c.args.place = c.in-Some.ensures in
    releases c.args.self.now _ c.args.place c.size-size.result c.requires c.size-size.ensures refl
    (c.dealloc_fast.ensures.given ∙ ap (λ (j : ℕ). give (run j ((c.size-size.result + 15) / 16 * 16)) c.args.self.now.free.space) e)
    c.dealloc_fast.ensures.sound refl refl refl refl
