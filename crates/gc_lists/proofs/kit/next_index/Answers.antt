use Rattle.std.proofs.Common.{sym, ◌∙◌, arith}
use Rattle.gc_lists.proofs.kit.next_index.Goals as goal
use Rattle.gc_lists.proofs.Indexes.{few_types, declared_below, undeclared_above}

pub loop-low-init : goal.loop-low-init
loop-low-init c = record { from = omega arith; to = few_types _ c.are_declared.ensures }

pub loop-low-preserved-in-Some : goal.loop-low-preserved-in-Some
loop-low-preserved-in-Some c = record {
  from = (let below = declared_below c.args.types.now.declarations c.new.result c.in-Some.field-0 (sym c.kind_of.ensures ∙ c.in-Some.is) in omega (arith, below, c.new.ensures));
  to = c.loop-low.invariant.to;
}

pub loop-low-preserved : goal.loop-low-preserved
loop-low-preserved c = record {
  from = c.loop-low.invariant.from;
  to = (let above = undeclared_above c.args.types.now.declarations c.new.result (sym c.kind_of.ensures ∙ c.in-None.is) in omega (arith, above, c.new.ensures));
}
