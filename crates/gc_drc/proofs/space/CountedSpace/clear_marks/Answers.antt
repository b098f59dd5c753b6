use Rattle.std.proofs.Common.{ℕ, ◌*◌, ◌/◌, sym, ap, subst}
use Rattle.gc_drc.specs.CollectMemory.{CanUnmark}
use Rattle.gc_drc.proofs.ClearMemory.{first_clear, clear_begins, clear_release, clear_can_walk, clear_can_unmark, clear_on, clear_less, clear_ends, clear_nothing}
use Rattle.gc_drc.proofs.WalkStates.{Clears}
use Rattle.gc_drc.proofs.space.CountedSpace.clear_marks.Goals as goal

pub returns-then-end-lt16 : goal.returns-then-end-lt16
returns-then-end-lt16 c = clear_nothing c.args.self.now (c.capacity.result / 16 * 16) (ap (λ (n : ℕ). n / 16 * 16) c.capacity.ensures) c.if-end-lt16.true

pub next_place-place-requires : goal.next_place-place-requires
next_place-place-requires c = first_clear c.args.self.now (c.capacity.result / 16 * 16) (ap (λ (n : ℕ). n / 16 * 16) c.capacity.ensures) c.if-end-lt16.false c.requires

pub loop-place-init : goal.loop-place-init
loop-place-init c =
    subst (λ s. Clears c.args.self.now s (c.capacity.result / 16 * 16) c.next_place-place.result) (sym c.next_place-place.ensures.same)
    (clear_begins c.args.self.now (c.capacity.result / 16 * 16) c.next_place-place.result (ap (λ (n : ℕ). n / 16 * 16) c.capacity.ensures) c.next_place-place.ensures.next)

pub block_end-behind-requires : goal.block_end-behind-requires
block_end-behind-requires c = clear_release c.args.self.now c.loop-place.self _ c.loop-place.place c.loop-place.invariant c.loop-place-test.true c.requires

pub next_place-next-requires : goal.next_place-next-requires
next_place-next-requires c =
    clear_can_walk c.args.self.now c.loop-place.self _ c.loop-place.place c.loop-place.invariant c.block_end-behind.result c.loop-place-test.true c.if-end-lt16.false c.block_end-behind.ensures c.requires

pub clear_mark-requires : goal.clear_mark-requires
clear_mark-requires c =
    subst (λ s. CanUnmark s c.loop-place.place) (sym c.next_place-next.ensures.same)
    (clear_can_unmark c.args.self.now c.loop-place.self _ c.loop-place.place c.loop-place.invariant c.loop-place-test.true c.requires)

pub loop-place-preserved : goal.loop-place-preserved
loop-place-preserved c =
    clear_on c.args.self.now c.loop-place.self (c.capacity.result / 16 * 16) c.loop-place.place c.loop-place.invariant c.clear_mark.new.self c.block_end-behind.result c.next_place-next.result
    c.loop-place-test.true c.block_end-behind.ensures c.next_place-next.ensures.next (rw c.next_place-next.ensures.same at c.clear_mark.ensures)

pub loop-place-smaller : goal.loop-place-smaller
loop-place-smaller c =
    clear_less c.args.self.now c.loop-place.self _ c.loop-place.place c.loop-place.invariant c.block_end-behind.result c.next_place-next.result c.loop-place-test.true
    c.block_end-behind.ensures c.next_place-next.ensures.next c.requires

pub returns : goal.returns
returns c = clear_ends c.args.self.now c.loop-place.self (c.capacity.result / 16 * 16) c.loop-place.place c.loop-place.invariant c.loop-place-test.false
