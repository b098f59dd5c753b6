use Rattle.std.proofs.Common.{ℕ, Result, Ok, Err, subst}
use Rattle.gc_model.specs.Table.{leave}
use Rattle.gc_model.specs.Accounts.{HoldsAccount}
use Rattle.gc_lists.specs.Answers.{KeepsRoot}
use Rattle.gc_lists.specs.declared.fault.ListFault.{ListFault}
use Rattle.gc_maps.specs.declared.part.Part.{Part}
use Rattle.gc_maps.specs.Ends.{EndsMakingNodes}
use Rattle.gc_maps.specs.Paths.{IsBuilt}
use Rattle.std.specs.FinMap as finite
use Rattle.gc_maps.proofs.Inserting.{map_refused, map_empty, is_root, map_kept, keep_refused}
use Rattle.gc_maps.proofs.map.keep_built.Goals as goal

pub returns-in-Ok-keep-clause-keeps : goal.returns-in-Ok-keep-clause-keeps
returns-in-Ok-keep-clause-keeps g c counter kit nodes most t limits limits' m few low scope_is ends =
    let built = subst (λ (r : Result Part ListFault). EndsMakingNodes g.H.GcHeap.KIND counter kit nodes most t limits limits' (λ s u part. IsBuilt s u kit.node part (finite.entries m)) r c.args.store.now) c.in-Ok.is ends in
    let root = is_root g.H.GcHeap.KIND counter kit nodes most few low t limits limits' m c.args.store.now c.keep.new.store c.in-Ok.part c.in-Some.root c.in-Some.is built in
    map_kept g.H.GcHeap.KIND counter kit nodes most few low t limits limits' m c.args.store.now c.keep.new.store c.in-Ok.part c.in-Some.root c.in-Some.is built c.in-Ok-keep.kept
    (subst (λ (n : ℕ). KeepsRoot g.H.GcHeap.KIND built.after built.account root.reference (leave n) (Ok c.in-Ok-keep.kept) c.keep.new.store) scope_is
    (c.in-Ok-keep.ensures.keeps built.after built.account root.reference built.holds root.names))

pub returns-in-Err-keep-clause-keeps : goal.returns-in-Err-keep-clause-keeps
returns-in-Err-keep-clause-keeps g c counter kit nodes most t limits limits' m few low scope_is ends =
    let built = subst (λ (r : Result Part ListFault). EndsMakingNodes g.H.GcHeap.KIND counter kit nodes most t limits limits' (λ s u part. IsBuilt s u kit.node part (finite.entries m)) r c.args.store.now) c.in-Ok.is ends in
    let root = is_root g.H.GcHeap.KIND counter kit nodes most few low t limits limits' m c.args.store.now c.keep.new.store c.in-Ok.part c.in-Some.root c.in-Some.is built in
    keep_refused g.H.GcHeap.KIND counter kit nodes most few low t limits limits' m c.args.store.now c.keep.new.store c.in-Ok.part c.in-Some.root c.in-Some.is built c.in-Err-keep.fault
    (subst (λ (n : ℕ). KeepsRoot g.H.GcHeap.KIND built.after built.account root.reference (leave n) (Err c.in-Err-keep.fault) c.keep.new.store) scope_is
    (c.in-Err-keep.ensures.keeps built.after built.account root.reference built.holds root.names))

pub returns-in-None-clause-keeps : goal.returns-in-None-clause-keeps
returns-in-None-clause-keeps g c counter kit nodes most t limits limits' m few low scope_is ends =
    map_empty g.H.GcHeap.KIND counter kit nodes most few low t limits limits' m c.args.store.now c.exit_gc_lifo_scope.new.self
    (λ u b held. subst (λ (n : ℕ). HoldsAccount g.H.GcHeap.KIND c.exit_gc_lifo_scope.new.self (leave n u) b) scope_is (c.exit_gc_lifo_scope.ensures.leaves u b held))
    c.in-Ok.part c.in-None.is
    (subst (λ (r : Result Part ListFault). EndsMakingNodes g.H.GcHeap.KIND counter kit nodes most t limits limits' (λ s u part. IsBuilt s u kit.node part (finite.entries m)) r c.args.store.now) c.in-Ok.is ends)
    c.empty.result c.empty.ensures

pub returns-in-Err-clause-keeps : goal.returns-in-Err-clause-keeps
returns-in-Err-clause-keeps g c counter kit nodes most t limits limits' m few low scope_is ends =
    map_refused g.H.GcHeap.KIND counter kit nodes most few low t limits limits' m c.args.store.now c.exit_gc_lifo_scope-in-Err.new.self
    (λ u b held. subst (λ (n : ℕ). HoldsAccount g.H.GcHeap.KIND c.exit_gc_lifo_scope-in-Err.new.self (leave n u) b) scope_is (c.exit_gc_lifo_scope-in-Err.ensures.leaves u b held))
    c.in-Err.fault
    (subst (λ (r : Result Part ListFault). EndsMakingNodes g.H.GcHeap.KIND counter kit nodes most t limits limits' (λ s u part. IsBuilt s u kit.node part (finite.entries m)) r c.args.store.now) c.in-Err.is ends)
