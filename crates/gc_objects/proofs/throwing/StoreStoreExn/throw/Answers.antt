use Rattle.std.proofs.Common.{Result, sym, refl, subst}
use Rattle.gc_values.specs.declared.root.GcRootIndex.{GcRootIndex}
use Rattle.gc_store.specs.Roots.{is_of_store}
use Rattle.gc_objects.specs.declared.throwing.ThrowFault.{ThrowFault}
use Rattle.gc_objects.specs.Answered.{Answers}
use Rattle.gc_objects.specs.Exns.{IsNamedExn}
use Rattle.gc_objects.specs.Thrown.{Throws}
use Rattle.gc_objects.proofs.Pushing.{held_table}
use Rattle.gc_objects.proofs.ThrowLemmas.{is_exception, throws_set, throws_none}
use Rattle.gc_objects.proofs.throwing.StoreStoreExn.throw.Goals as goal

pub set_pending-requires : goal.set_pending-requires
set_pending-requires g c t r holds names = is_exception t r c.in-Ok.field-0 (c.in-Ok.ensures.everywhere t r holds names)

pub returns-in-Ok-clause-throws : goal.returns-in-Ok-clause-throws
returns-in-Ok-clause-throws g c t a holds =
    subst (λ (h : GcRootIndex). Throws g.H.GcHeap.KIND c.args.self.now t a h c.thrown.result c.set_pending.new.self) c.root_index-root.ensures
    (subst (λ (r : Result g.row.X.Denot ThrowFault). Throws g.H.GcHeap.KIND c.args.self.now t a c.root_index-root.result r c.set_pending.new.self) (sym c.thrown.ensures)
    (throws_set g.row.X.Denot g.H.GcHeap.KIND c.args.self.now c.set_pending.new.self t a c.root_index-root.result c.set_pending.result (c.set_pending.ensures.sets t a holds) c.set_pending.ensures.err))

pub returns-in-Err-clause-throws : goal.returns-in-Err-clause-throws
returns-in-Err-clause-throws g c t a holds =
    subst (λ (h : GcRootIndex). Throws g.H.GcHeap.KIND c.args.self.now t a h c.thrown-in-Err.result c.args.self.now) c.root_index-root.ensures
    (subst (λ (r : Result g.row.X.Denot ThrowFault). Throws g.H.GcHeap.KIND c.args.self.now t a c.root_index-root.result r c.args.self.now) (sym c.thrown-in-Err.ensures)
    (throws_none g.row.X.Denot g.H.GcHeap.KIND c.args.self.now c.args.self.now t a c.root_index-root.result c.in-Err.fault
    (subst (Answers c.args.self.now t (is_of_store c.args.self.now c.root_index-root.result) c.root_index-root.result (IsNamedExn t)) c.in-Err.is (c.exn_at.ensures.answers t (held_table g.H.GcHeap.KIND c.args.self.now t a holds))) refl))
