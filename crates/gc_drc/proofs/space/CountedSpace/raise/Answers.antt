use Rattle.std.proofs.Common.{◌≡◌, ◌+◌, sym, ap, subst, ◌∙◌, arith}
use Rattle.gc_memory.specs.Words.{put_u64}
use Rattle.gc_drc.specs.declared.space.CountedSpace.{CountedSpace}
use Rattle.gc_drc.specs.View.{HoldsBlocks, count_of}
use Rattle.gc_drc.specs.Operations.{Tends, counting_raised}
use Rattle.gc_drc.proofs.BarrierLemmas.{raise_holds, room_at}
use Rattle.gc_drc.proofs.space.CountedSpace.raise.Goals as goal

pub count-count-requires : goal.count-count-requires
count-count-requires c = room_at c.requires.view c.args.self.now c.args.place c.requires.holds c.requires.place

pub set_count-requires : goal.set_count-requires
set_count-requires c = room_at c.requires.view c.args.self.now c.args.place c.requires.holds c.requires.place

pub overflow_add-count : goal.overflow_add-count
overflow_add-count c =
    let was = (c.requires.holds.objects c.args.place c.requires.place).count_is in
    let is = c.count-count.ensures in
    let below = c.requires.below in omega arith

pub returns-clause-holds : goal.returns-clause-holds
returns-clause-holds c = λ v h i.
    let same : count_of v c.args.place ≡ count_of c.requires.view c.args.place =
    sym (h.objects c.args.place i).count_is ∙ (c.requires.holds.objects c.args.place c.requires.place).count_is in
    let below = c.requires.below in
    subst (HoldsBlocks (counting_raised v c.args.place)) (sym (c.set_count.ensures ∙ ap (λ n. record c.args.self.now { memory = put_u64 c.args.self.now.memory (c.args.place + 8) (n + 1) }) c.count-count.ensures))
    (raise_holds v c.args.self.now c.args.place h i (omega arith)).0

pub returns-clause-tends : goal.returns-clause-tends
returns-clause-tends c =
    subst (λ m. Tends c.args.self.now.memory m c.args.place) (sym (ap (λ (s : CountedSpace). s.memory) c.set_count.ensures ∙ ap (λ n. put_u64 c.args.self.now.memory (c.args.place + 8) (n + 1)) c.count-count.ensures))
    (raise_holds c.requires.view c.args.self.now c.args.place c.requires.holds c.requires.place c.requires.below).1
