use Rattle.gc_drc.proofs.SweepMemory.{sweep_room, sweep_can_unmark, swept_kept, sweep_can_hide, hidden_can_lower, swept_off, less_kept, less_off}
use Rattle.gc_drc.proofs.space.CountedSpace.sweep_one.Goals as goal

pub is_marked-requires : goal.is_marked-requires
is_marked-requires c = sweep_room c.args.self.now c.args.before c.args.place c.requires

pub clear_mark-requires : goal.clear_mark-requires
clear_mark-requires c = sweep_can_unmark c.args.self.now c.args.before c.args.place c.is_marked.result c.requires c.is_marked.ensures c.if-is_marked.true

pub returns-then-is_marked-clause-swept : goal.returns-then-is_marked-clause-swept
returns-then-is_marked-clause-swept c o kept left w _ =
    swept_kept o c.args.self.now c.clear_mark.new.self c.args.place kept left c.is_marked.result w c.is_marked.ensures c.if-is_marked.true c.clear_mark.ensures

pub returns-then-is_marked-clause-less : goal.returns-then-is_marked-clause-less
returns-then-is_marked-clause-less c =
    less_kept c.args.self.now c.clear_mark.new.self c.args.before c.args.place c.is_marked.result c.requires c.is_marked.ensures c.if-is_marked.true c.clear_mark.ensures

pub hide-requires : goal.hide-requires
hide-requires c = sweep_can_hide c.args.self.now c.args.before c.args.place c.requires

pub take_name-requires : goal.take_name-requires
take_name-requires c =
    hidden_can_lower c.args.self.now c.hide.new.self c.args.before c.args.place c.is_marked.result c.requires c.is_marked.ensures c.if-is_marked.false c.hide.ensures

pub returns-clause-swept : goal.returns-clause-swept
returns-clause-swept c o kept left w before =
    swept_off o c.args.self.now c.hide.new.self c.take_name.new.self c.args.before c.args.place kept left c.is_marked.result w before c.is_marked.ensures c.if-is_marked.false c.hide.ensures c.take_name.ensures

pub returns-clause-less : goal.returns-clause-less
returns-clause-less c =
    less_off c.args.self.now c.hide.new.self c.take_name.new.self c.args.before c.args.place c.is_marked.result c.requires c.is_marked.ensures c.if-is_marked.false c.hide.ensures c.take_name.ensures
