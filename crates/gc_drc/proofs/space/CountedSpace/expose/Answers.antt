use Rattle.std.proofs.Common.{◌+◌, ◌-◌, sym, ap, subst, ◌∙◌, arith}
use Rattle.gc_memory.specs.Words.{word, put_u64}
use Rattle.gc_drc.specs.declared.space.CountedSpace.{CountedSpace}
use Rattle.gc_drc.specs.View.{HoldsBlocks}
use Rattle.gc_drc.specs.Operations.{Tends, counting_exposed}
use Rattle.gc_drc.proofs.BarrierLemmas.{show_holds, show_again_holds, shown_flag, not_shown_flag, room_at, on_list, off_list}
use Rattle.gc_drc.proofs.space.CountedSpace.expose.Goals as goal

pub is_shown-requires : goal.is_shown-requires
is_shown-requires c = room_at c.requires.view c.args.self.now c.args.place c.requires.holds c.requires.place

pub count-count-requires : goal.count-count-requires
count-count-requires c = room_at c.requires.view c.args.self.now c.args.place c.requires.holds c.requires.place

pub set_count-requires : goal.set_count-requires
set_count-requires c = room_at c.requires.view c.args.self.now c.args.place c.requires.holds c.requires.place

pub push_shown-requires-clause-room : goal.push_shown-requires-clause-room
push_shown-requires-clause-room c = room_at c.requires.view c.args.self.now c.args.place c.requires.holds c.requires.place

pub push_shown-requires-clause-apart : goal.push_shown-requires-clause-apart
push_shown-requires-clause-apart c =
    not_shown_flag (word c.args.self.now.memory c.args.place)
    (shown_flag c.requires.view c.args.self.now c.args.place c.requires.holds c.requires.place
    ∙ off_list c.requires.view c.args.self.now c.args.place c.requires.holds c.requires.place (sym c.is_shown.ensures ∙ c.if-is_shown.false))

pub returns-then-is_shown-clause-holds : goal.returns-then-is_shown-clause-holds
returns-then-is_shown-clause-holds c = λ v h i named.
    subst (HoldsBlocks (counting_exposed v c.args.place)) (sym (c.set_count.ensures ∙ ap (λ n. record c.args.self.now { memory = put_u64 c.args.self.now.memory (c.args.place + 8) (n - 1) }) c.count-count.ensures))
    (show_again_holds v c.args.self.now c.args.place h i named (on_list v c.args.self.now c.args.place h i (sym c.is_shown.ensures ∙ c.if-is_shown.true)) (let is = c.count-count.ensures in omega arith)).0

pub returns-then-is_shown-clause-tends : goal.returns-then-is_shown-clause-tends
returns-then-is_shown-clause-tends c =
    let v = c.requires.view in
    let h = c.requires.holds in
    let i = c.requires.place in
    subst (λ m. Tends c.args.self.now.memory m c.args.place) (sym (ap (λ (s : CountedSpace). s.memory) c.set_count.ensures ∙ ap (λ n. put_u64 c.args.self.now.memory (c.args.place + 8) (n - 1)) c.count-count.ensures))
    (show_again_holds v c.args.self.now c.args.place h i c.requires.named (on_list v c.args.self.now c.args.place h i (sym c.is_shown.ensures ∙ c.if-is_shown.true)) (let is = c.count-count.ensures in omega arith)).1

pub returns-else-is_shown-clause-holds : goal.returns-else-is_shown-clause-holds
returns-else-is_shown-clause-holds c = λ v h i named.
    subst (HoldsBlocks (counting_exposed v c.args.place)) (sym c.push_shown.ensures.rest)
    (show_holds v c.args.self.now c.push_shown.new.self.memory c.args.place h i named (off_list v c.args.self.now c.args.place h i (sym c.is_shown.ensures ∙ c.if-is_shown.false)) c.push_shown.ensures.sets)
