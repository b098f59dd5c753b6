use Rattle.std.proofs.Common.{ℤ, Option, arith, subst, w64, to_z, of_z}
use Rattle.std.specs.Ordering.{int_cmp}
use Rattle.std.specs.FinMap.Entries.{put}
use Rattle.std.proofs.lemmas.Int.{to_z-of_z}
use Rattle.gc_model.specs.Table.{Table}
use Rattle.gc_model.specs.Accounts.{Account, HoldsAccount}
use Rattle.gc_model.proofs.AccountLemmas.{some_account}
use Rattle.gc_lists.specs.Frames.{Leaves}
use Rattle.gc_maps.specs.declared.part.Node.{Node}
use Rattle.gc_maps.specs.Ends.{Pushes}
use Rattle.gc_maps.specs.Parts.{RootIs}
use Rattle.gc_maps.specs.Paths.{Descended, IsBuilt}
use Rattle.gc_maps.specs.Searching.{IsSearch}
use Rattle.gc_maps.specs.Trees.{Tree, pairs}
use Rattle.gc_maps.proofs.Lookups.{root_low}
use Rattle.gc_maps.proofs.Putting.{read_refused, found_in, entry_refused, rises_in, put_ends}
use Rattle.gc_maps.proofs.ways.put.Given as given
use Rattle.gc_maps.proofs.ways.put.Goals as goal
use Rattle.gc_maps.proofs.ways.put.Goals.{In-Ok}

pub returns-in-Err-clause-puts : goal.returns-in-Err-clause-puts
returns-in-Err-clause-puts g c t a tree holds is search =
    read_refused {A = Option Node} g.H.GcHeap.KIND c.args.store.now.alloc_counter c.args.kit.now 277 184 829 t (g.L.ResourceLimiter.limits c.args.limiter.now) (g.L.ResourceLimiter.limits c.args.limiter.now)
    (λ s u found. Descended s u c.args.kit.now.node tree (to_z w64 (of_z w64 c.args.key)) c.descend.new.path.items found)
    (λ s u part. IsBuilt s u c.args.kit.now.node part (put int_cmp c.args.key c.args.value (pairs tree)))
    c.in-Err.fault c.descend.new.store (omega arith) (c.in-Err.ensures.descends t a c.args.kit.now.node tree holds is search)

-- the way that was gone down
down : (g : given.Over) (c : In-Ok g) (t : Table g.row.D.Denot) (a : Account) (tree : Tree) → HoldsAccount g.H.GcHeap.KIND c.args.store.now t a → RootIs c.args.store.now t c.args.kit.now.node c.args.root tree → IsSearch tree
    → Leaves g.H.GcHeap.KIND (λ u. Pushes 184 t u × Descended c.descend.new.store u c.args.kit.now.node tree c.args.key c.descend.new.path.items c.in-Ok.found) c.descend.new.store
down g c t a tree holds is search =
    subst (λ (z : ℤ). Leaves g.H.GcHeap.KIND (λ u. Pushes 184 t u × Descended c.descend.new.store u c.args.kit.now.node tree z c.descend.new.path.items c.in-Ok.found) c.descend.new.store)
    (to_z-of_z w64 c.args.key c.ranges.key) (c.in-Ok.ensures.descends t a c.args.kit.now.node tree holds is search)

pub make_entry-requires : goal.make_entry-requires
make_entry-requires g c =
    let q = c.requires in
    let some = some_account g.H.GcHeap.KIND c.args.store.now q.table q.holds in
    let before = (goal.at.make_entry-requires g c).In-Ok in
    found_in g.H.GcHeap.KIND c.args.kit.now c.args.store.now c.descend.new.store c.descend.ensures.same q.tree c.args.key c.args.value c.ranges.key c.ranges.value c.descend.new.path.items c.in-Ok.found
    q.table some.0 some.1 q.search (root_low c.args.store.now q.table c.args.kit.now.node c.args.root q.tree q.is q.search) (down g before q.table some.0 q.tree some.1 q.is q.search) q.of_nodes

pub returns-in-Err-make_entry-clause-puts : goal.returns-in-Err-make_entry-clause-puts
returns-in-Err-make_entry-clause-puts g c t a tree holds is search =
    let before = (goal.at.returns-in-Err-make_entry-clause-puts g c).In-Ok in
    entry_refused g.H.GcHeap.KIND c.args.kit.now c.args.store.now c.descend.new.store c.descend.ensures.same tree c.args.key c.args.value c.ranges.key c.ranges.value c.descend.new.path.items c.in-Ok.found
    t a holds search (root_low c.args.store.now t c.args.kit.now.node c.args.root tree is search) (down g before t a tree holds is search)
    c.make_entry.new.store (g.L.ResourceLimiter.limits c.args.limiter.now) (g.L.ResourceLimiter.limits c.make_entry.new.limiter) c.in-Err-make_entry.fault c.in-Err-make_entry.ensures.makes
    (λ s u part. IsBuilt s u c.args.kit.now.node part (put int_cmp c.args.key c.args.value (pairs tree)))

pub rebuild-requires : goal.rebuild-requires
rebuild-requires g c =
    let q = c.requires in
    let some = some_account g.H.GcHeap.KIND c.args.store.now q.table q.holds in
    let before = (goal.at.rebuild-requires g c).In-Ok in
    rises_in g.H.GcHeap.KIND c.args.kit.now c.args.store.now c.descend.new.store c.descend.ensures.same q.tree c.args.key c.args.value c.ranges.key c.ranges.value c.descend.new.path.items c.in-Ok.found
    q.table some.0 some.1 q.search (root_low c.args.store.now q.table c.args.kit.now.node c.args.root q.tree q.is q.search) (down g before q.table some.0 q.tree some.1 q.is q.search)
    c.make_entry.new.store (g.L.ResourceLimiter.limits c.args.limiter.now) (g.L.ResourceLimiter.limits c.make_entry.new.limiter) c.make_entry.ensures.same c.in-Ok-make_entry.part c.in-Ok-make_entry.ensures.makes q.of_nodes

pub returns-clause-puts : goal.returns-clause-puts
returns-clause-puts g c t a tree holds is search =
    let before = (goal.at.returns-clause-puts g c).In-Ok in
    put_ends g.H.GcHeap.KIND c.args.kit.now c.args.store.now c.descend.new.store c.descend.ensures.same tree c.args.key c.args.value c.ranges.key c.ranges.value c.descend.new.path.items c.in-Ok.found
    t a holds search (root_low c.args.store.now t c.args.kit.now.node c.args.root tree is search) (down g before t a tree holds is search)
    c.make_entry.new.store (g.L.ResourceLimiter.limits c.args.limiter.now) (g.L.ResourceLimiter.limits c.make_entry.new.limiter) c.make_entry.ensures.same c.in-Ok-make_entry.part c.in-Ok-make_entry.ensures.makes
    c.make_entry.ensures.counts c.rebuild.new.store (g.L.ResourceLimiter.limits c.rebuild.new.limiter) c.rebuild.ensures.limit c.rebuild.result c.rebuild.ensures.builds
