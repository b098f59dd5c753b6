use Rattle.std.proofs.Common.{map, arith}
use Rattle.gc_image.specs.declared.image.GlobalLine.{GlobalLine}
use Rattle.gc_image.specs.Well.{as_value}
use Rattle.gc_load_image.proofs.GlobalLemmas.{all_set, none_set}
use Rattle.gc_load_image.proofs.PushedRoots.{named_same, same_itself, same_twice}
use Rattle.gc_load_image.proofs.ValuesLoop.{all_stay}
use Rattle.gc_load_image.proofs.globals.set_globals.Goals as goal

pub loop-i-init : goal.loop-i-init
loop-i-init g c = record {
  sets = λ t a holds stand unset. none_set g.H.GcHeap.KIND c.args.globals.now c.args.store.now t a holds unset;
  same = same_itself c.args.store.now;
}

pub loop-i-preserved : goal.loop-i-preserved
loop-i-preserved g c = record {
  sets = λ t a holds stand unset.
      c.set_global.ensures.sets t a
      (all_stay c.args.store.now c.loop-i.store t t (named_same c.args.store.now c.loop-i.store c.loop-i.invariant.same t) c.args.held.now (map (λ (x : GlobalLine). as_value x.value) c.args.globals.now) stand)
      (c.loop-i.invariant.sets t a holds stand unset);
  same = same_twice c.args.store.now c.loop-i.store c.set_global.new.store c.loop-i.invariant.same c.set_global.ensures.same;
}

pub returns-clause-sets : goal.returns-clause-sets
returns-clause-sets g c t a holds stand unset =
    all_set g.H.GcHeap.KIND c.args.globals.now c.loop-i.i c.loop-i.store t a (let past = c.loop-i-test.false in let within = c.loop-i.auto.i-end in omega (arith, past, within)) (c.loop-i.invariant.sets t a holds stand unset)
