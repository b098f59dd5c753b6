use Rattle.gc_drc.proofs.SweepMemory.{sweeps_start, sweeps_can, sweeps_step, sweeps_end, sweep_room}
use Rattle.gc_drc.proofs.space.CountedSpace.sweep_shown.Goals as goal

pub loop-place-init : goal.loop-place-init
loop-place-init c = sweeps_start c.args.self.now

pub next_shown-next-requires : goal.next_shown-next-requires
next_shown-next-requires c =
    sweep_room c.loop-place.self c.loop-place.before c.loop-place.place
    (sweeps_can c.args.self.now c.loop-place.self c.loop-place.before c.loop-place.place c.loop-place.invariant c.requires.0 c.requires.1 c.loop-place-test.true)

pub sweep_one-before-requires : goal.sweep_one-before-requires
sweep_one-before-requires c =
    sweeps_can c.args.self.now c.loop-place.self c.loop-place.before c.loop-place.place c.loop-place.invariant c.requires.0 c.requires.1 c.loop-place-test.true

pub loop-place-preserved : goal.loop-place-preserved
loop-place-preserved c =
    sweeps_step c.args.self.now c.loop-place.self c.sweep_one-before.new.self c.loop-place.before c.loop-place.place c.next_shown-next.result c.sweep_one-before.result c.loop-place.invariant c.loop-place-test.true
    c.next_shown-next.ensures c.sweep_one-before.ensures.swept

pub returns : goal.returns
returns c = sweeps_end c.args.self.now c.loop-place.self c.loop-place.before c.loop-place.place c.loop-place.invariant c.loop-place-test.false
