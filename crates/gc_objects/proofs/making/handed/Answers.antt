use Rattle.std.proofs.Common.{subst}
use Rattle.std.specs.Prelude.{IfOk}
use Rattle.gc_store.specs.Kinds.{IsScopedOfKind}
use Rattle.gc_objects.proofs.Pushed.{handle_kind}
use Rattle.gc_objects.proofs.making.handed.Goals as goal

pub returns-in-Ok-clause-kind : goal.returns-in-Ok-clause-kind
returns-in-Ok-clause-kind g c =
    handle_kind g.H.GcHeap.KIND c.args.store.now g.T.GcRef.KIND c.in-Ok.root c.from_gc_root_index.result.index c.from_gc_root_index.ensures
    (subst (λ q. IfOk q (IsScopedOfKind g.row.D.Denot g.H.GcHeap.KIND c.args.store.now g.T.GcRef.KIND)) c.in-Ok.is c.requires)
