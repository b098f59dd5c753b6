use Rattle.gc_lists.proofs.roots.keep.Goals as goal
use Rattle.gc_lists.proofs.Keeping.{root_kept, root_refused}

pub returns-in-Ok-clause-keeps : goal.returns-in-Ok-clause-keeps
returns-in-Ok-clause-keeps g c = λ t a r holds named.
    root_kept g.H.GcHeap.KIND c.args.store.now t a c.args.handle c.in-Ok.root c.own_root-owned.new.self c.exit_gc_lifo_scope.new.self c.args.scope r named c.own_root-owned.result c.in-Ok.is holds
    (c.own_root-owned.ensures.owns t a holds) c.exit_gc_lifo_scope.ensures.same (λ u. c.exit_gc_lifo_scope.ensures.leaves u a)

pub returns-in-Err-clause-keeps : goal.returns-in-Err-clause-keeps
returns-in-Err-clause-keeps g c = λ t a r holds named.
    root_refused g.H.GcHeap.KIND c.args.store.now t a c.args.handle c.in-Err.fault c.own_root-owned.new.self c.exit_gc_lifo_scope.new.self c.args.scope r named c.own_root-owned.result c.in-Err.is
    (c.own_root-owned.ensures.owns t a holds) (λ u. c.exit_gc_lifo_scope.ensures.leaves u a) c.refused.result c.refused.ensures
