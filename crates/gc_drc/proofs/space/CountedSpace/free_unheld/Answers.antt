use Rattle.gc_drc.proofs.SweptMemory.{swept_drain, swept_can_drain, frees_unheld}
use Rattle.gc_drc.proofs.space.CountedSpace.free_unheld.Goals as goal

pub sweep_shown-requires : goal.sweep_shown-requires
sweep_shown-requires g c = (c.requires.0, c.requires.1.1)

pub drain-requires : goal.drain-requires
drain-requires g c = swept_can_drain _ c.args.types.now.declarations c.args.self.now c.sweep_shown.new.self c.args.hosts.now.entries c.requires.0 c.requires.1.0 c.requires.1.1 c.sweep_shown.ensures

pub returns-clause-frees : goal.returns-clause-frees
returns-clause-frees g c o typed m =
    let r = c.sweep_shown.ensures o m in
    frees_unheld _ o c.drain.new.self c.args.hosts.now.entries c.drain.new.hosts.entries
    (c.drain.ensures.drained o c.args.hosts.now.entries typed (swept_drain _ o c.sweep_shown.new.self c.args.hosts.now.entries r.0 r.1)) c.drain.ensures.empty
