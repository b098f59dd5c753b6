use Rattle.std.proofs.Common.{◌≡◌, ℤ, Option, Some, None, Ok, Err, arith, subst, w64, to_z, of_z}
use Rattle.std.proofs.lemmas.Int.{to_z-of_z}
use Rattle.gc_model.specs.Table.{Table}
use Rattle.gc_model.specs.Accounts.{Account, HoldsAccount}
use Rattle.gc_model.proofs.AccountLemmas.{some_account}
use Rattle.gc_lists.specs.Frames.{Leaves}
use Rattle.gc_maps.specs.declared.part.Node.{Node}
use Rattle.gc_maps.specs.Ends.{Pushes}
use Rattle.gc_maps.specs.Gaps.{others}
use Rattle.gc_maps.specs.Parts.{RootIs}
use Rattle.gc_maps.specs.Paths.{Descended, IsBuilt}
use Rattle.gc_maps.specs.Searching.{IsSearch}
use Rattle.gc_maps.specs.Trees.{Tree, pairs}
use Rattle.gc_maps.proofs.Lookups.{root_low}
use Rattle.gc_maps.proofs.Putting.{read_refused}
use Rattle.gc_maps.proofs.TakingOut.{closes_passed, gap_in, gap_passed, gap_refused, rises_in, root_in, stays, taken_out}
use Rattle.gc_maps.proofs.NodeReads.{part_reads}
use Rattle.gc_maps.proofs.removing.take_out.Given as given
use Rattle.gc_maps.proofs.removing.take_out.Goals as goal
use Rattle.gc_maps.proofs.removing.take_out.Goals.{In-Ok}

pub returns-in-Err-clause-takes_out : goal.returns-in-Err-clause-takes_out
returns-in-Err-clause-takes_out g c t a tree holds is ordered =
    read_refused {A = Option Node} g.H.GcHeap.KIND c.args.store.now.alloc_counter c.args.kit.now 276 184 1012 t (g.L.ResourceLimiter.limits c.args.limiter.now) (g.L.ResourceLimiter.limits c.args.limiter.now)
    (λ s u found. Descended s u c.args.kit.now.node tree (to_z w64 (of_z w64 c.args.key)) c.descend.new.path.items found)
    (λ s u part. IsBuilt s u c.args.kit.now.node part (others c.args.key (pairs tree)))
    c.in-Err.fault c.descend.new.store (omega arith) (c.in-Err.ensures.descends t a c.args.kit.now.node tree holds is ordered)

-- the way that was gone down
down : (g : given.Over) (c : In-Ok g) (t : Table g.row.D.Denot) (a : Account) (tree : Tree) → HoldsAccount g.H.GcHeap.KIND c.args.store.now t a → RootIs c.args.store.now t c.args.kit.now.node c.args.root tree → IsSearch tree
    → Leaves g.H.GcHeap.KIND (λ u. Pushes 184 t u × Descended c.descend.new.store u c.args.kit.now.node tree c.args.key c.descend.new.path.items c.in-Ok.found) c.descend.new.store
down g c t a tree holds is search =
    subst (λ (z : ℤ). Leaves g.H.GcHeap.KIND (λ u. Pushes 184 t u × Descended c.descend.new.store u c.args.kit.now.node tree z c.descend.new.path.items c.in-Ok.found) c.descend.new.store)
    (to_z-of_z w64 c.args.key c.ranges.key) (c.in-Ok.ensures.descends t a c.args.kit.now.node tree holds is search)

-- what the way came to
at : (g : given.Over) (c : In-Ok g) (found : Option Node) → c.in-Ok.found ≡ found → (t : Table g.row.D.Denot) (a : Account) (tree : Tree) → HoldsAccount g.H.GcHeap.KIND c.args.store.now t a
    → RootIs c.args.store.now t c.args.kit.now.node c.args.root tree → IsSearch tree
    → Leaves g.H.GcHeap.KIND (λ u. Pushes 184 t u × Descended c.descend.new.store u c.args.kit.now.node tree c.args.key c.descend.new.path.items found) c.descend.new.store
at g c found found_is t a tree holds is search =
    subst (λ (o : Option Node). Leaves g.H.GcHeap.KIND (λ u. Pushes 184 t u × Descended c.descend.new.store u c.args.kit.now.node tree c.args.key c.descend.new.path.items o) c.descend.new.store) found_is
    (down g c t a tree holds is search)

pub part_of-requires : goal.part_of-requires
part_of-requires g c =
    let q = c.requires in
    let some = some_account g.H.GcHeap.KIND c.args.store.now q.table q.holds in
    let before = (goal.at.part_of-requires g c).In-Ok in
    root_in g.H.GcHeap.KIND c.args.kit.now c.args.store.now c.descend.new.store c.descend.ensures.same q.tree c.args.key c.descend.new.path.items
    q.table some.0 some.1 q.search (root_low c.args.store.now q.table c.args.kit.now.node c.args.root q.tree q.is q.search) c.args.root q.is (at g before None c.in-None.is q.table some.0 q.tree some.1 q.is q.search)

pub returns-in-None-clause-takes_out : goal.returns-in-None-clause-takes_out
returns-in-None-clause-takes_out g c t a tree holds is ordered =
    let before = (goal.at.returns-in-None-clause-takes_out g c).In-Ok in
    stays g.H.GcHeap.KIND c.args.kit.now c.args.store.now c.descend.new.store c.descend.ensures.same tree c.args.key c.descend.new.path.items
    t a holds ordered (root_low c.args.store.now t c.args.kit.now.node c.args.root tree is ordered) c.args.root is (at g before None c.in-None.is t a tree holds is ordered)
    c.descend.new.store c.part_of.result (g.L.ResourceLimiter.limits c.args.limiter.now) (g.L.ResourceLimiter.limits c.args.limiter.now) (part_reads g.H.GcHeap.KIND c.descend.new.store c.args.root c.part_of.result c.part_of.ensures)

pub close_gap-requires : goal.close_gap-requires
close_gap-requires g c =
    let q = c.requires in
    let some = some_account g.H.GcHeap.KIND c.args.store.now q.table q.holds in
    let before = (goal.at.close_gap-requires g c).In-Ok in
    gap_passed g.H.GcHeap.KIND c.descend.new.store c.args.key c.ranges.key c.descend.new.path.items c.in-Some.node
    (gap_in g.H.GcHeap.KIND c.args.kit.now c.args.store.now c.descend.new.store c.descend.ensures.same q.tree c.args.key c.descend.new.path.items
    q.table some.0 some.1 q.search (root_low c.args.store.now q.table c.args.kit.now.node c.args.root q.tree q.is q.search) c.in-Some.node (at g before (Some c.in-Some.node) c.in-Some.is q.table some.0 q.tree some.1 q.is q.search))

pub returns-in-Err-close_gap-clause-takes_out : goal.returns-in-Err-close_gap-clause-takes_out
returns-in-Err-close_gap-clause-takes_out g c t a tree holds is ordered =
    let before = (goal.at.returns-in-Err-close_gap-clause-takes_out g c).In-Ok in
    gap_refused g.H.GcHeap.KIND c.args.kit.now c.args.store.now c.descend.new.store c.descend.ensures.same tree c.args.key c.descend.new.path.items
    t a holds ordered (root_low c.args.store.now t c.args.kit.now.node c.args.root tree is ordered) c.in-Some.node (at g before (Some c.in-Some.node) c.in-Some.is t a tree holds is ordered)
    c.close_gap.new.store c.close_gap.new.path.items (g.L.ResourceLimiter.limits c.args.limiter.now) (g.L.ResourceLimiter.limits c.args.limiter.now) c.in-Err-close_gap.fault
    (closes_passed g.H.GcHeap.KIND c.descend.new.store c.descend.new.path.items c.in-Some.node c.close_gap.new.path.items c.close_gap.new.store c.args.key c.ranges.key (Err c.in-Err-close_gap.fault) c.in-Err-close_gap.ensures.closes)

pub rebuild-requires : goal.rebuild-requires
rebuild-requires g c =
    let q = c.requires in
    let some = some_account g.H.GcHeap.KIND c.args.store.now q.table q.holds in
    let before = (goal.at.rebuild-requires g c).In-Ok in
    rises_in g.H.GcHeap.KIND c.args.kit.now c.args.store.now c.descend.new.store c.descend.ensures.same q.tree c.args.key c.descend.new.path.items
    q.table some.0 some.1 q.search (root_low c.args.store.now q.table c.args.kit.now.node c.args.root q.tree q.is q.search) c.in-Some.node (at g before (Some c.in-Some.node) c.in-Some.is q.table some.0 q.tree some.1 q.is q.search)
    c.close_gap.new.store c.close_gap.new.path.items c.close_gap.ensures.same c.in-Ok-close_gap.part
    (closes_passed g.H.GcHeap.KIND c.descend.new.store c.descend.new.path.items c.in-Some.node c.close_gap.new.path.items c.close_gap.new.store c.args.key c.ranges.key (Ok c.in-Ok-close_gap.part) c.in-Ok-close_gap.ensures.closes)
    q.of_nodes

pub returns-clause-takes_out : goal.returns-clause-takes_out
returns-clause-takes_out g c t a tree holds is ordered =
    let before = (goal.at.returns-clause-takes_out g c).In-Ok in
    taken_out g.H.GcHeap.KIND c.args.kit.now c.args.store.now c.descend.new.store c.descend.ensures.same tree c.args.key c.descend.new.path.items
    t a holds ordered (root_low c.args.store.now t c.args.kit.now.node c.args.root tree is ordered) c.in-Some.node (at g before (Some c.in-Some.node) c.in-Some.is t a tree holds is ordered)
    c.close_gap.new.store c.close_gap.new.path.items c.close_gap.ensures.same c.in-Ok-close_gap.part
    (closes_passed g.H.GcHeap.KIND c.descend.new.store c.descend.new.path.items c.in-Some.node c.close_gap.new.path.items c.close_gap.new.store c.args.key c.ranges.key (Ok c.in-Ok-close_gap.part) c.in-Ok-close_gap.ensures.closes)
    c.rebuild.new.store (g.L.ResourceLimiter.limits c.args.limiter.now) (g.L.ResourceLimiter.limits c.rebuild.new.limiter) c.rebuild.result c.rebuild.ensures.builds
