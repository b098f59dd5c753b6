use Rattle.gc_copying.proofs.PhaseLemmas.{goes_on_after_roots, goes_on_scanning, at_sweep, complete_after_sweep}
use Rattle.gc_copying.proofs.space.Space.collect_some.Goals as goal

pub returns-in-Worklist-clause-stepped : goal.returns-in-Worklist-clause-stepped
returns-in-Worklist-clause-stepped g c p counted under counts =
    goes_on_scanning _ p c.args.self.now c.scan_phase.new.self c.args.phase.now c.scan_phase.result c.args.roots.now.roots c.args.types.now.declarations c.args.hosts.now.entries
    c.in-Worklist.scan c.in-Worklist.externals counted c.args.steps.now c.scan_phase.new.steps under c.in-Worklist.is c.scan_phase.ensures.scanned counts

pub returns-in-Sweep-clause-stepped : goal.returns-in-Sweep-clause-stepped
returns-in-Sweep-clause-stepped g c p counted under counts =
    complete_after_sweep _ p c.args.self.now c.sweep.new.self c.args.phase.now c.args.roots.now.roots c.args.types.now.declarations c.args.hosts.now.entries c.sweep.new.hosts.entries
    c.in-Sweep.externals counted c.args.steps.now under c.in-Sweep.is c.sweep.ensures.swept c.sweep.ensures.counts counts

pub returns-in-Sweep-clause-values : goal.returns-in-Sweep-clause-values
returns-in-Sweep-clause-values g c =
    let p = c.requires.0 in
    let at = at_sweep _ p c.args.self.now c.args.phase.now c.args.roots.now.roots c.args.types.now.declarations c.args.hosts.now.entries c.in-Sweep.externals c.requires.1 c.in-Sweep.is in
    (c.sweep.ensures.swept p.start at.sweep.work.mid at.externals_are).part

pub returns-in-Roots-clause-stepped : goal.returns-in-Roots-clause-stepped
returns-in-Roots-clause-stepped g c p counted under counts =
    goes_on_after_roots _ p c.args.self.now c.begin_copying-scan.new.self c.args.phase.now c.args.roots.now.roots c.begin_copying-scan.new.roots.roots c.args.types.now.declarations
    c.args.hosts.now.entries c.begin_copying-scan.result counted c.args.steps.now c.begin_copying-scan.new.steps under c.in-Roots.is c.begin_copying-scan.ensures.begun counts
