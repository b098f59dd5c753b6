use Rattle.std.proofs.Common.{ℕ, ◌*◌, ◌/◌, sym, ap, subst, arith}
use Rattle.gc_drc.specs.CollectWalk.{CanSweepGarbage}
use Rattle.gc_drc.proofs.WalkMemory.{first_walk, walk_begins, walk_release, walk_can, walk_can_sweep, walk_on, walk_ends, walk_nothing, walk_less}
use Rattle.gc_drc.proofs.WalkStates.{Walks}
use Rattle.gc_drc.proofs.space.CountedSpace.free_unmarked.Goals as goal

pub returns-then-end-lt16-clause-freed : goal.returns-then-end-lt16-clause-freed
returns-then-end-lt16-clause-freed g c =
    walk_nothing _ c.args.types.now.declarations c.args.self.now c.args.hosts.now.entries (c.capacity.result / 16 * 16) (ap (λ (n : ℕ). n / 16 * 16) c.capacity.ensures) c.if-end-lt16.true

pub next_place-place-requires : goal.next_place-place-requires
next_place-place-requires g c =
    first_walk _ _ c.args.self.now _ (c.capacity.result / 16 * 16) (ap (λ (n : ℕ). n / 16 * 16) c.capacity.ensures) c.if-end-lt16.false c.requires

pub loop-place-init : goal.loop-place-init
loop-place-init g c =
    let types = c.args.types.now.declarations in
    let begins = walk_begins _ types c.args.self.now c.args.hosts.now.entries (c.capacity.result / 16 * 16) c.next_place-place.result (ap (λ (n : ℕ). n / 16 * 16) c.capacity.ensures) c.next_place-place.ensures.next in (
      subst (λ s. Walks types c.args.self.now c.args.hosts.now.entries s c.args.hosts.now.entries (c.capacity.result / 16 * 16) c.next_place-place.result) (sym c.next_place-place.ensures.same) begins,
      omega arith,
    )

pub block_end-behind-requires : goal.block_end-behind-requires
block_end-behind-requires g c =
    walk_release _ _ c.args.self.now c.loop-place.self _ _ _ c.loop-place.place c.loop-place.invariant.0 c.loop-place-test.true c.requires

pub next_place-next-requires : goal.next_place-next-requires
next_place-next-requires g c =
    walk_can _ _ c.args.self.now c.loop-place.self _ _ _ c.loop-place.place c.block_end-behind.result c.loop-place.invariant.0 c.loop-place-test.true c.if-end-lt16.false c.block_end-behind.ensures c.requires

pub free_if_unmarked-requires : goal.free_if_unmarked-requires
free_if_unmarked-requires g c =
    subst (λ s. CanSweepGarbage _ c.args.types.now.declarations s c.loop-place.hosts.entries c.loop-place.place) (sym c.next_place-next.ensures.same)
    (walk_can_sweep _ _ c.args.self.now c.loop-place.self _ _ _ c.loop-place.place c.loop-place.invariant.0 c.loop-place-test.true c.requires)

pub loop-place-preserved : goal.loop-place-preserved
loop-place-preserved g c =
    let invariant = c.loop-place.invariant.1 in
    let more = c.free_if_unmarked.ensures.spare in (
      walk_on _ c.args.types.now.declarations c.args.self.now c.loop-place.self c.free_if_unmarked.new.self c.args.hosts.now.entries c.loop-place.hosts.entries c.free_if_unmarked.new.hosts.entries
          (c.capacity.result / 16 * 16) c.loop-place.place c.block_end-behind.result c.next_place-next.result c.loop-place.invariant.0 c.loop-place-test.true c.block_end-behind.ensures c.next_place-next.ensures.next (rw c.next_place-next.ensures.same at c.free_if_unmarked.ensures.swept),
      omega arith,
    )

pub loop-place-smaller : goal.loop-place-smaller
loop-place-smaller g c =
    walk_less _ c.args.types.now.declarations c.args.self.now c.loop-place.self _ _ _ c.loop-place.place c.block_end-behind.result c.next_place-next.result c.loop-place.invariant.0 c.loop-place-test.true
    c.block_end-behind.ensures c.next_place-next.ensures.next c.requires

pub returns-clause-freed : goal.returns-clause-freed
returns-clause-freed g c =
    walk_ends _ c.args.types.now.declarations c.args.self.now c.loop-place.self _ _ (c.capacity.result / 16 * 16) c.loop-place.place c.loop-place.invariant.0 c.loop-place-test.false
