use Rattle.gc_heap.specs.Collection.{has_host}
use Rattle.gc_drc.proofs.PhaseLemmas.{at_frames, frames_step, at_unheld, unheld_step, unheld_part, at_unreached, unreached_step, unreached_part, never_done}
use Rattle.gc_drc.proofs.space.CountedSpace.collect_some.Goals as goal

pub mark_frames-requires : goal.mark_frames-requires
mark_frames-requires g c =
    let r = c.requires in
    (r.0, at_frames r.0 r.1.0 c.args.phase.now c.args.roots.now.roots c.args.types.now.declarations r.1.1.0 c.args.self.now (has_host c.args.hosts.now.entries) c.in-MarkFrames.is r.1.1.1)

pub free_unheld-requires : goal.free_unheld-requires
free_unheld-requires g c =
    let r = c.requires in
    (r.0, (r.1.1.0.types_are, at_unheld r.0 r.1.0 c.args.phase.now c.args.roots.now.roots c.args.types.now.declarations r.1.1.0 c.args.self.now (has_host c.args.hosts.now.entries) c.in-FreeUnheld.is r.1.1.1))

pub free_unreached-requires : goal.free_unreached-requires
free_unreached-requires g c =
    let r = c.requires in
    let w = at_unreached r.0 r.1.0 c.args.phase.now c.args.roots.now.roots c.args.types.now.declarations r.1.1.0 c.args.self.now (has_host c.args.hosts.now.entries) c.in-FreeUnreached.is r.1.1.1 in
    (r.0, (w.0, (r.1.1.0, w.1)))

pub returns-in-MarkFrames-clause-steps : goal.returns-in-MarkFrames-clause-steps
returns-in-MarkFrames-clause-steps g c o before is stands =
    frames_step o before c.args.phase.now c.args.roots.now.roots c.args.types.now.declarations is c.args.self.now c.mark_frames.new.self (has_host c.args.hosts.now.entries) c.in-MarkFrames.is stands c.mark_frames.ensures

pub returns-in-FreeUnheld-clause-steps : goal.returns-in-FreeUnheld-clause-steps
returns-in-FreeUnheld-clause-steps g c o before is stands =
    unheld_step o before c.args.phase.now c.args.roots.now.roots c.args.types.now.declarations is _ c.args.self.now c.free_unheld.new.self c.args.hosts.now.entries c.free_unheld.new.hosts.entries
    c.in-FreeUnheld.is stands c.free_unheld.ensures.frees

pub returns-in-FreeUnheld-clause-values : goal.returns-in-FreeUnheld-clause-values
returns-in-FreeUnheld-clause-values g c =
    let r = c.requires in
    unheld_part r.0 r.1.0 c.args.phase.now c.args.roots.now.roots c.args.types.now.declarations r.1.1.0 _ c.args.self.now c.free_unheld.new.self c.args.hosts.now.entries c.free_unheld.new.hosts.entries
    c.in-FreeUnheld.is r.1.1.1 c.free_unheld.ensures.frees

pub returns-in-FreeUnreached-clause-steps : goal.returns-in-FreeUnreached-clause-steps
returns-in-FreeUnreached-clause-steps g c o before is stands =
    unreached_step o before c.args.phase.now c.args.roots.now.roots c.args.types.now.declarations is _ c.args.self.now c.free_unreached.new.self c.args.hosts.now.entries c.free_unreached.new.hosts.entries
    c.in-FreeUnreached.is stands c.free_unreached.ensures.frees

pub returns-in-FreeUnreached-clause-values : goal.returns-in-FreeUnreached-clause-values
returns-in-FreeUnreached-clause-values g c =
    let r = c.requires in
    unreached_part r.0 r.1.0 c.args.phase.now c.args.roots.now.roots c.args.types.now.declarations r.1.1.0 _ c.args.self.now c.free_unreached.new.self c.args.hosts.now.entries c.free_unreached.new.hosts.entries
    c.in-FreeUnreached.is r.1.1.1 c.free_unreached.ensures.frees

pub returns-in-Done-clause-steps : goal.returns-in-Done-clause-steps
returns-in-Done-clause-steps g c o before is stands = absurd (never_done o before c.args.phase.now c.args.self.now (has_host c.args.hosts.now.entries) c.in-Done.is stands)
