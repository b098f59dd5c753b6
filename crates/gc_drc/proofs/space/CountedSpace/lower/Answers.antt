use Rattle.std.proofs.Common.{◌+◌, ◌-◌, sym, ap, subst, ◌∙◌, arith}
use Rattle.gc_memory.specs.Words.{put_u64}
use Rattle.gc_drc.specs.declared.space.CountedSpace.{CountedSpace}
use Rattle.gc_drc.specs.View.{HoldsBlocks}
use Rattle.gc_drc.specs.Operations.{Tends, counting_lowered}
use Rattle.gc_drc.proofs.BarrierLemmas.{lower_holds, enqueue_holds, not_queued, room_at}
use Rattle.gc_drc.proofs.space.CountedSpace.lower.Goals as goal

pub count-count-requires : goal.count-count-requires
count-count-requires c = room_at c.requires.view c.args.self.now c.args.place c.requires.holds c.requires.place

pub enqueue-requires-clause-room : goal.enqueue-requires-clause-room
enqueue-requires-clause-room c = room_at c.requires.view c.args.self.now c.args.place c.requires.holds c.requires.place

pub enqueue-requires-clause-apart : goal.enqueue-requires-clause-apart
enqueue-requires-clause-apart c =
    not_queued c.requires.view c.args.self.now c.args.place c.requires.holds c.requires.place c.requires.named (sym c.count-count.ensures ∙ c.if-count-eq1.true)

pub set_count-requires : goal.set_count-requires
set_count-requires c = room_at c.requires.view c.args.self.now c.args.place c.requires.holds c.requires.place

pub returns-then-count-eq1-clause-holds : goal.returns-then-count-eq1-clause-holds
returns-then-count-eq1-clause-holds c = λ v h i named.
    subst (HoldsBlocks (counting_lowered v c.args.place)) (sym c.enqueue.ensures.rest)
    (enqueue_holds v c.args.self.now c.enqueue.new.self.memory c.args.place h i named (sym c.count-count.ensures ∙ c.if-count-eq1.true) c.enqueue.ensures.sets)

pub returns-else-count-eq1-clause-holds : goal.returns-else-count-eq1-clause-holds
returns-else-count-eq1-clause-holds c = λ v h i named.
    subst (HoldsBlocks (counting_lowered v c.args.place)) (sym (c.set_count.ensures ∙ ap (λ n. record c.args.self.now { memory = put_u64 c.args.self.now.memory (c.args.place + 8) (n - 1) }) c.count-count.ensures))
    (lower_holds v c.args.self.now c.args.place h i named (λ e. c.if-count-eq1.false (c.count-count.ensures ∙ e)) (let is = c.count-count.ensures in omega arith)).0

pub returns-else-count-eq1-clause-tends : goal.returns-else-count-eq1-clause-tends
returns-else-count-eq1-clause-tends c =
    subst (λ m. Tends c.args.self.now.memory m c.args.place) (sym (ap (λ (s : CountedSpace). s.memory) c.set_count.ensures ∙ ap (λ n. put_u64 c.args.self.now.memory (c.args.place + 8) (n - 1)) c.count-count.ensures))
    (lower_holds c.requires.view c.args.self.now c.args.place c.requires.holds c.requires.place c.requires.named (λ e. c.if-count-eq1.false (c.count-count.ensures ∙ e)) (let is = c.count-count.ensures in omega arith)).1
