use Rattle.std.proofs.Common.{◌-◌, take, refl, ap, ◌∙◌, arith}
use Rattle.std.proofs.lemmas.List.{nil_from_length, append-nil}
use Rattle.gc_model.proofs.AccountLemmas.{some_account}
use Rattle.gc_lists.proofs.Limiting.{counts_same, counts_twice}
use Rattle.gc_maps.proofs.Growing.{same_then}
use Rattle.gc_maps.proofs.Climbing.{climb_start, climb_done, sibling_in, can, climb_refused, climb_next}
use Rattle.gc_maps.proofs.NodeReads.{part_reads, same_here}
use Rattle.gc_maps.proofs.ways.rebuild.Goals as goal

pub loop-turn-init : goal.loop-turn-init
loop-turn-init g c = record {
  climbs = λ t a whole entries holds balanced low rises. climb_start g.H.GcHeap.KIND (g.L.ResourceLimiter.limits c.args.limiter.now).limit c.args.kit.now c.args.store.now t a holds whole entries balanced low c.args.path.now.items c.args.part rises;
  limit = refl;
  counts = counts_same (g.L.ResourceLimiter.limits c.args.limiter.now);
  same = record { engine = refl; number = refl; counter = refl };
}

pub returns-in-None-clause-builds : goal.returns-in-None-clause-builds
returns-in-None-clause-builds g c t a whole entries holds balanced low rises =
    climb_done g.H.GcHeap.KIND (g.L.ResourceLimiter.limits c.args.limiter.now).limit c.args.kit.now c.args.store.now t a holds whole entries balanced low c.loop-turn._turn c.loop-turn.path.items c.loop-turn.store c.loop-turn.part (g.L.ResourceLimiter.limits c.args.limiter.now) (g.L.ResourceLimiter.limits c.loop-turn.limiter) c.loop-turn.invariant.limit (omega arith)
    (c.in-None.ensures.items ∙ append-nil c.pop.new.self.items ∙ c.in-None.ensures.rest ∙ ap (λ n. take (n - 1) c.loop-turn.path.items) c.in-None.ensures.cases.0) (c.loop-turn.invariant.climbs t a whole entries holds balanced low rises)

pub part_of-other-requires : goal.part_of-other-requires
part_of-other-requires g c =
    let q = c.requires in
    let some = some_account g.H.GcHeap.KIND c.args.store.now q.table q.holds in
    sibling_in g.H.GcHeap.KIND (g.L.ResourceLimiter.limits c.args.limiter.now).limit c.args.kit.now c.args.store.now q.table some.0 some.1 q.whole q.entries q.balanced q.low c.loop-turn._turn (omega arith) c.pop.new.self.items c.loop-turn.path.items c.in-Some.frame
    c.in-Some.ensures.items c.loop-turn.store c.loop-turn.invariant.same c.loop-turn.part (c.loop-turn.invariant.climbs q.table some.0 q.whole q.entries some.1 q.balanced q.low q.rises)

pub join-requires : goal.join-requires
join-requires g c =
    let q = c.requires in
    let some = some_account g.H.GcHeap.KIND c.args.store.now q.table q.holds in
    can g.H.GcHeap.KIND (g.L.ResourceLimiter.limits c.args.limiter.now).limit c.args.kit.now c.args.store.now q.table some.0 some.1 q.whole q.entries q.balanced q.low c.loop-turn._turn (omega arith) c.pop.new.self.items c.loop-turn.path.items c.in-Some.frame
    c.in-Some.ensures.items c.loop-turn.store c.loop-turn.invariant.same c.loop-turn.part (c.loop-turn.invariant.climbs q.table some.0 q.whole q.entries some.1 q.balanced q.low q.rises)
    c.loop-turn.store (same_here c.loop-turn.store) c.part_of-other.result (part_reads g.H.GcHeap.KIND c.loop-turn.store c.in-Some.frame.other c.part_of-other.result c.part_of-other.ensures)
    c.opened_at.result c.opened_at.ensures.left c.opened_at.ensures.key c.opened_at.ensures.value c.opened_at.ensures.right q.of_nodes

pub returns-in-Err-clause-builds : goal.returns-in-Err-clause-builds
returns-in-Err-clause-builds g c t a whole entries holds balanced low rises =
    climb_refused g.H.GcHeap.KIND (g.L.ResourceLimiter.limits c.args.limiter.now).limit c.args.kit.now c.args.store.now t a holds whole entries balanced low c.loop-turn._turn (omega arith) c.pop.new.self.items c.loop-turn.path.items c.in-Some.frame
    c.in-Some.ensures.items c.loop-turn.store c.loop-turn.invariant.same c.loop-turn.part (c.loop-turn.invariant.climbs t a whole entries holds balanced low rises)
    c.loop-turn.store (same_here c.loop-turn.store) c.part_of-other.result (part_reads g.H.GcHeap.KIND c.loop-turn.store c.in-Some.frame.other c.part_of-other.result c.part_of-other.ensures)
    c.opened_at.result c.opened_at.ensures.left c.opened_at.ensures.key c.opened_at.ensures.value c.opened_at.ensures.right
    c.join.new.store (g.L.ResourceLimiter.limits c.args.limiter.now) (g.L.ResourceLimiter.limits c.loop-turn.limiter) (g.L.ResourceLimiter.limits c.join.new.limiter) c.loop-turn.invariant.counts (c.join.ensures.limit ∙ c.loop-turn.invariant.limit) c.in-Err.fault c.in-Err.ensures.joins

pub loop-turn-preserved : goal.loop-turn-preserved
loop-turn-preserved g c = record {
  climbs = λ t a whole entries holds balanced low rises.
      climb_next g.H.GcHeap.KIND (g.L.ResourceLimiter.limits c.args.limiter.now).limit c.args.kit.now c.args.store.now t a holds whole entries balanced low c.loop-turn._turn (omega arith) c.pop.new.self.items c.loop-turn.path.items c.in-Some.frame
      c.in-Some.ensures.items c.loop-turn.store c.loop-turn.invariant.same c.loop-turn.part (c.loop-turn.invariant.climbs t a whole entries holds balanced low rises)
      c.loop-turn.store (same_here c.loop-turn.store) c.part_of-other.result (part_reads g.H.GcHeap.KIND c.loop-turn.store c.in-Some.frame.other c.part_of-other.result c.part_of-other.ensures)
      c.opened_at.result c.opened_at.ensures.left c.opened_at.ensures.key c.opened_at.ensures.value c.opened_at.ensures.right
      c.join.new.store (g.L.ResourceLimiter.limits c.args.limiter.now) (g.L.ResourceLimiter.limits c.loop-turn.limiter) (g.L.ResourceLimiter.limits c.join.new.limiter) c.loop-turn.invariant.counts (c.join.ensures.limit ∙ c.loop-turn.invariant.limit) c.join.ensures.same c.in-Ok.joined c.in-Ok.ensures.joins;
  limit = c.join.ensures.limit ∙ c.loop-turn.invariant.limit;
  counts = counts_twice (g.L.ResourceLimiter.limits c.args.limiter.now) (g.L.ResourceLimiter.limits c.loop-turn.limiter) (g.L.ResourceLimiter.limits c.join.new.limiter) c.loop-turn.invariant.counts c.join.ensures.counts;
  same = same_then c.args.store.now c.loop-turn.store c.join.new.store c.loop-turn.invariant.same c.join.ensures.same;
}

pub returns-clause-builds : goal.returns-clause-builds
returns-clause-builds g c t a whole entries holds balanced low rises =
    let climbs = c.loop-turn.invariant.climbs t a whole entries holds balanced low rises in
    let few = climbs.few in
    climb_done g.H.GcHeap.KIND (g.L.ResourceLimiter.limits c.args.limiter.now).limit c.args.kit.now c.args.store.now t a holds whole entries balanced low c.loop-turn._turn c.loop-turn.path.items c.loop-turn.store c.loop-turn.part (g.L.ResourceLimiter.limits c.args.limiter.now) (g.L.ResourceLimiter.limits c.loop-turn.limiter) c.loop-turn.invariant.limit (omega arith)
    (nil_from_length c.loop-turn.path.items (omega (arith, few))) climbs

pub returns-in-Err-clause-limit : goal.returns-in-Err-clause-limit
returns-in-Err-clause-limit g c = c.join.ensures.limit ∙ c.loop-turn.invariant.limit

pub returns-in-None-clause-limit : goal.returns-in-None-clause-limit
returns-in-None-clause-limit g c = c.loop-turn.invariant.limit

pub returns-clause-limit : goal.returns-clause-limit
returns-clause-limit g c = c.loop-turn.invariant.limit

pub returns-in-Err-clause-counts : goal.returns-in-Err-clause-counts
returns-in-Err-clause-counts g c = counts_twice (g.L.ResourceLimiter.limits c.args.limiter.now) (g.L.ResourceLimiter.limits c.loop-turn.limiter) (g.L.ResourceLimiter.limits c.join.new.limiter) c.loop-turn.invariant.counts c.join.ensures.counts

pub returns-in-None-clause-counts : goal.returns-in-None-clause-counts
returns-in-None-clause-counts g c = c.loop-turn.invariant.counts

pub returns-clause-counts : goal.returns-clause-counts
returns-clause-counts g c = c.loop-turn.invariant.counts
