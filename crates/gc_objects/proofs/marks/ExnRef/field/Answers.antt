use Rattle.std.proofs.Common.{subst}
use Rattle.gc_values.specs.declared.root.GcRootIndex.{GcRootIndex}
use Rattle.gc_objects.specs.Reads.{ReadsAt}
use Rattle.gc_objects.proofs.Pushing.{held_table}
use Rattle.gc_objects.proofs.marks.ExnRef.field.Goals as goal

pub returns-clause-reads : goal.returns-clause-reads
returns-clause-reads g c t a holds =
    subst (λ (h : GcRootIndex). ReadsAt g.H.GcHeap.KIND c.args.store.now t a h c.args.index c.read_found.result c.read_found.new.store) c.root_index-root.ensures
    (c.read_found.ensures.reads t a c.args.index holds (c.param_at-found.ensures.answers t (held_table g.H.GcHeap.KIND c.args.store.now t a holds)))

pub returns-clause-reserved : goal.returns-clause-reserved
returns-clause-reserved g c = c.read_found.ensures.reserved c.requires.table c.args.index c.requires.holds (c.param_at-found.ensures.answers c.requires.table c.requires.holds)
