use Rattle.std.proofs.Common.{List, Result, sym, subst}
use Rattle.gc_types.specs.Declarations.{Declaration}
use Rattle.gc_image.proofs.TurnLemmas.{InTurn, turn_end, turn_more, turn_start}
use Rattle.gc_load_image.specs.declared.fault.LoadFault.{LoadFault}
use Rattle.gc_load_image.specs.Stages.{DeclaresAll}
use Rattle.gc_load_image.proofs.PushedRoots.{same_itself, same_twice}
use Rattle.gc_load_image.proofs.TypeLemmas.{err_is, keeps_own, keeps_twice, stops_in_turn}
use Rattle.gc_load_image.proofs.declare.declare_types.Goals as goal

pub loop-command-init : goal.loop-command-init
loop-command-init g c = record {
  turn = subst (λ (ts : List Declaration). InTurn c.args.commands.now ts 0) (sym c.requires.none) (turn_start c.args.commands.now);
  keeps = keeps_own g.H.GcHeap.KIND c.args.store.now;
  same = same_itself c.args.store.now;
}

pub loop-command-preserved : goal.loop-command-preserved
loop-command-preserved g c = record {
  turn = turn_more c.args.commands.now c.loop-command.store.types c.loop-command.command-index c.command-item.result c.loop-command-test.true c.command-item.is
      c.declare.new.store.types c.in_ok-declare.ensures.declares c.loop-command.invariant.turn;
  keeps = keeps_twice g.H.GcHeap.KIND c.args.store.now c.loop-command.store c.declare.new.store c.loop-command.invariant.keeps c.declare.ensures.keeps;
  same = same_twice c.args.store.now c.loop-command.store c.declare.new.store c.loop-command.invariant.same c.declare.ensures.same;
}

pub returns-clause-declares : goal.returns-clause-declares
returns-clause-declares g c = turn_end c.args.commands.now c.loop-command.store.types c.loop-command.command-index c.loop-command-test.false c.loop-command.invariant.turn

pub returns-clause-keeps : goal.returns-clause-keeps
returns-clause-keeps g c = c.loop-command.invariant.keeps

pub returns-in_err-declare-clause-declares : goal.returns-in_err-declare-clause-declares
returns-in_err-declare-clause-declares g c =
    subst (λ (r : Result (Unit {0}) LoadFault). DeclaresAll c.args.commands.now c.declare.new.store.types r) (sym (err_is c.from_residual.result c.in_err-declare.field-0.0 c.from_residual.ensures.1))
    (stops_in_turn c.args.commands.now c.loop-command.store.types c.declare.new.store.types c.loop-command.command-index c.command-item.result c.loop-command-test.true c.command-item.is c.loop-command.invariant.turn
    c.in_err-declare.field-0.0 c.in_err-declare.ensures.declares)

pub returns-in_err-declare-clause-keeps : goal.returns-in_err-declare-clause-keeps
returns-in_err-declare-clause-keeps g c = keeps_twice g.H.GcHeap.KIND c.args.store.now c.loop-command.store c.declare.new.store c.loop-command.invariant.keeps c.declare.ensures.keeps

pub returns-in_err-declare-clause-same : goal.returns-in_err-declare-clause-same
returns-in_err-declare-clause-same g c = same_twice c.args.store.now c.loop-command.store c.declare.new.store c.loop-command.invariant.same c.declare.ensures.same
