use Rattle.std.proofs.Common.{List, sym, subst}
use Rattle.gc_types.specs.Declarations.{Declaration}
use Rattle.gc_image.specs.Well.{AreWellObjects}
use Rattle.gc_load_image.proofs.LateLemmas.{goes_none, goes_on, writing_end}
use Rattle.gc_load_image.proofs.PushedRoots.{same_itself, same_twice}
use Rattle.gc_load_image.proofs.late.write_late.Goals as goal

pub loop-number-init : goal.loop-number-init
loop-number-init g c = record { writing = c.requires.writing; goes = goes_none c.args.store.now; same = same_itself c.args.store.now }

pub loop-number-preserved : goal.loop-number-preserved
loop-number-preserved g c = record { writing = c.write_values.ensures.writing; goes = goes_on c.args.store.now c.loop-number.store c.write_values.new.store c.loop-number.invariant.goes c.write_values.ensures.goes; same = same_twice c.args.store.now c.loop-number.store c.write_values.new.store c.loop-number.invariant.same c.write_values.ensures.same }

pub write_values-requires-clause-well : goal.write_values-requires-clause-well
write_values-requires-clause-well g c = subst (λ (ts : List Declaration). AreWellObjects ts c.args.objects.now) (sym c.loop-number.invariant.goes.types) c.requires.well

pub returns-clause-complete : goal.returns-clause-complete
returns-clause-complete g c = writing_end g.H.GcHeap.KIND c.args.objects.now c.args.handles.now c.loop-number.number 0 c.loop-number.store c.loop-number-test.false c.loop-number.invariant.writing
