use Rattle.std.proofs.Common.{◌≡◌, ◌-◌, ◌^◌, ℕ, true, refl, min, subst}
use Rattle.gc_heap.specs.Collection.{Start, Collected, IsIncrements, has_host, stage}
use Rattle.gc_heap.specs.Run.{start_at}
use Rattle.gc_heap.proofs.AgainLemmas.{can_collect_again}
use Rattle.test_mutator.specs.Mutators.{MutatorView, mutator_start}
use Rattle.test_mutator.proofs.mutator.Mutator.collect.Goals as goal
use Rattle.test_mutator.proofs.mutator.Mutator.collect.Goals.{After-begin-state}

abbrev at_start : (g : _) → After-begin-state g → Start
at_start g c = start_at (g.H.GcHeap.seen c.self.inside.heap) c.self.inside.roots.roots c.self.inside.types.declarations c.self.inside.hosts.entries

under_way : (g : _) (c : After-begin-state g) → g.H.GcHeap.under_way (at_start g c) 0 true (stage c.self.inside.heap c.begin-state.result c.self.inside.roots.roots c.self.inside.types.declarations c.self.inside.hosts.entries)
under_way g c = g.met.H.GcHeap.starts (at_start g c) c.self.inside.heap c.begin-state.result c.self.invariant.sound c.begin-state.ensures.begun refl c.self.invariant.can

pub count_increments-requires : goal.count_increments-requires
count_increments-requires g c =
    let at = (goal.at.count_increments-requires g c).After-begin-state in
    (at_start g at, (true, under_way g at))

pub invariant_of-self : goal.invariant_of-self
invariant_of-self g c =
    let at = (goal.at.invariant_of-self g c).After-begin-state in
    record {
      sound = c.count_increments.ensures.sound;
      can = can_collect_again g.H.GcHeap.KIND (at_start g at) (g.H.GcHeap.seen c.count_increments.new.heap) c.count_increments.new.roots.roots (has_host c.count_increments.new.trace.host_data_table.now.entries)
          (g.met.H.GcHeap.is_heap c.self.inside.heap c.self.invariant.sound) c.self.invariant.can (c.count_increments.ensures.collected (at_start g at) true (under_way g at));
    }

pub returns-clause-collected : goal.returns-clause-collected
returns-clause-collected g c =
    let at = (goal.at.returns-clause-collected g c).After-begin-state in
    subst (λ (m : MutatorView). Collected g.H.GcHeap.KIND (mutator_start m) (g.H.GcHeap.seen c.count_increments.new.heap) c.count_increments.new.roots.roots (has_host c.count_increments.new.trace.host_data_table.now.entries)) c.self.view_is
    (c.count_increments.ensures.collected (at_start g at) true (under_way g at))

pub returns-clause-increments : goal.returns-clause-increments
returns-clause-increments g c =
    let at = (goal.at.returns-clause-increments g c).After-begin-state in
    subst (λ (m : MutatorView). (n : ℕ) × (IsIncrements g.H.GcHeap.KIND (mutator_start m) n × (c.count_increments.result ≡ min n (2 ^ 64 - 1)))) c.self.view_is
    (c.count_increments.ensures.increments (at_start g at) true (under_way g at))
