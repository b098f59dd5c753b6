use Rattle.std.proofs.Common.{ap, ◌∙◌, sym, refl, min}
use Rattle.gc_script.specs.Slots.{RunnerView}
use Rattle.gc_script.proofs.StandLemmas.{holds_table}
use Rattle.gc_script.proofs.ScopeLemmas.{left}
use Rattle.gc_script.proofs.runner.Runner.leave.Goals as goal

pub returns-clause-goes : goal.returns-clause-goes
returns-clause-goes g c s holds =
    left g.H.GcHeap.KIND c.args.store.now _ c.args.self.now _ s c.pop.new.self.items c.in-Some.mark c.min-scope.result c.exit_gc_lifo_scope.ensures.same holds
    (sym (ap (λ (r : RunnerView). r.rest.marks) c.self.view_is) ∙ c.in-Some.ensures.items)
    (ap (λ (r : RunnerView). r.registers) c.self.view_is)
    (ap (λ (r : RunnerView). r.rest.owned) c.self.view_is)
    refl
    (c.min-scope.ensures ∙ ap (min c.in-Some.mark) (c.enter_gc_lifo_scope.ensures.table s.table (holds_table holds.table)))
    (c.exit_gc_lifo_scope.ensures.leaves s.table s.account holds.table)
