use Rattle.std.proofs.Common.{◌≡◌, ◌+◌, ◌-◌, ℕ, subst, arith}
use Rattle.gc_model.proofs.AccountLemmas.{some_account}
use Rattle.gc_maps.specs.Copies.{RootWithin}
use Rattle.gc_maps.proofs.Growing.{same_then}
use Rattle.gc_maps.proofs.Naming.{held_table}
use Rattle.gc_maps.proofs.Visiting.{nothing_copied, node_in, too_high, part_copied, node_refused, left_in, left_refused, right_in, no_room, right_copied}
use Rattle.gc_maps.proofs.copying.+parts.Goals as goal

pub copy_part-returns-in-None-clause-copies : goal.copy_part-returns-in-None-clause-copies
copy_part-returns-in-None-clause-copies g t c = nothing_copied g.H.GcHeap.KIND c.args.store.now c.args.root c.args.depth c.args.entries.now.items c.in-None.is

pub copy_part-unreachable-requires : goal.copy_part-unreachable-requires
copy_part-unreachable-requires g t c =
    let none : c.args.depth ≡ 0 = omega arith in
    absurd (too_high g.H.GcHeap.KIND c.args.store.now c.args.root c.in-Some.node c.in-Some.is (subst (λ (n : ℕ). RootWithin g.row.D.Denot g.H.GcHeap.KIND c.args.store.now c.args.root n) none c.requires))

pub copy_part-copy_node-copied-requires : goal.copy_part-copy_node-copied-requires
copy_part-copy_node-copied-requires g t c κs within =
    let more : c.args.depth ≡ (c.args.depth - 1) + 1 = omega arith in
    (omega arith, (within.0, (within.1.0, (within.1.1, node_in g.H.GcHeap.KIND c.args.store.now c.args.root c.in-Some.node c.in-Some.is ((c.args.depth - 1) + 1) (subst (λ (n : ℕ). RootWithin g.row.D.Denot g.H.GcHeap.KIND c.args.store.now c.args.root n) more c.requires)))))

pub copy_part-returns-clause-copies : goal.copy_part-returns-clause-copies
copy_part-returns-clause-copies g t c =
    part_copied g.H.GcHeap.KIND c.args.store.now c.args.root c.in-Some.node c.in-Some.is c.copy_node-copied.new.store c.exit_gc_lifo_scope.new.self c.enter_gc_lifo_scope-scope.result
    (λ u b holds. c.enter_gc_lifo_scope-scope.ensures.table u (held_table g.H.GcHeap.KIND c.args.store.now u b holds)) (λ u b held. c.exit_gc_lifo_scope.ensures.leaves u b held)
    c.args.depth (c.args.depth - 1) (omega arith) c.args.entries.now.items c.copy_node-copied.new.entries.items c.copy_node-copied.result c.copy_node-copied.ensures.copies

pub copy_node-read_node-requires : goal.copy_node-read_node-requires
copy_node-read_node-requires g t c = c.requires.here

pub copy_node-returns-in-Err-clause-copies : goal.copy_node-returns-in-Err-clause-copies
copy_node-returns-in-Err-clause-copies g t c =
    node_refused g.H.GcHeap.KIND c.args.store.now c.args.node c.args.depth c.args.entries.now.items c.args.entries.now.items c.read_node.new.store c.in-Err.fault c.in-Err.ensures.reads

pub copy_node-copy_part-requires : goal.copy_node-copy_part-requires
copy_node-copy_part-requires g t c κs within =
    let q = c.requires.here in
    let some = some_account g.H.GcHeap.KIND c.args.store.now q.table q.holds in (
      omega arith,
      (
        within.0,
        (
          within.1.0,
          (
            within.1.1,
            left_in g.H.GcHeap.KIND c.args.store.now c.read_node.new.store c.read_node.new.store c.read_node.new.store c.args.node c.in-Ok.read c.in-Ok.ensures.reads c.args.depth
                q.table some.0 q.ty q.left q.key q.value q.right some.1 q.is c.requires.low,
          ),
        ),
      ),
    )

pub copy_node-returns-in-Err-copy_part-clause-copies : goal.copy_node-returns-in-Err-copy_part-clause-copies
copy_node-returns-in-Err-copy_part-clause-copies g t c u a ty x k v y holds is low =
    left_refused g.H.GcHeap.KIND c.args.store.now c.read_node.new.store c.copy_part.new.store c.copy_part.new.store c.args.node c.in-Ok.read c.in-Ok.ensures.reads c.args.depth
    u a ty x k v y holds is c.args.entries.now.items c.copy_part.new.entries.items c.copy_part.new.entries.items c.in-Err-copy_part.fault c.in-Err-copy_part.ensures.copies low

pub copy_node-copy_part-requires-in-Ok-push : goal.copy_node-copy_part-requires-in-Ok-push
copy_node-copy_part-requires-in-Ok-push g t c κs within =
    let q = c.requires.here in
    let some = some_account g.H.GcHeap.KIND c.args.store.now q.table q.holds in (
      omega arith,
      (
        within.0,
        (
          within.1.0,
          (
            within.1.1,
            right_in g.H.GcHeap.KIND c.args.store.now c.read_node.new.store c.copy_part.new.store c.copy_part.new.store c.args.node c.in-Ok.read c.in-Ok.ensures.reads c.args.depth
                q.table some.0 q.ty q.left q.key q.value q.right some.1 q.is c.copy_part.ensures.same c.args.entries.now.items c.copy_part.new.entries.items c.in-Ok-copy_part.ensures.copies c.requires.low,
          ),
        ),
      ),
    )

pub copy_node-returns-in-Err-push-clause-copies : goal.copy_node-returns-in-Err-push-clause-copies
copy_node-returns-in-Err-push-clause-copies g t c u a ty x k v y holds is low =
    no_room g.H.GcHeap.KIND c.args.store.now c.read_node.new.store c.copy_part.new.store c.copy_part.new.store c.args.node c.in-Ok.read c.in-Ok.ensures.reads c.args.depth
    u a ty x k v y holds is c.copy_part.ensures.same c.args.entries.now.items c.copy_part.new.entries.items c.in-Ok-copy_part.ensures.copies low c.push.new.self.items

pub copy_node-returns-in-Ok-push-clause-copies : goal.copy_node-returns-in-Ok-push-clause-copies
copy_node-returns-in-Ok-push-clause-copies g t c u a ty x k v y holds is low =
    right_copied g.H.GcHeap.KIND c.args.store.now c.read_node.new.store c.copy_part.new.store c.copy_part-in-Ok-push.new.store c.args.node c.in-Ok.read c.in-Ok.ensures.reads c.args.depth
    u a ty x k v y holds is c.copy_part.ensures.same c.args.entries.now.items c.copy_part.new.entries.items c.in-Ok-copy_part.ensures.copies low
    c.push.new.self.items c.copy_part-in-Ok-push.new.entries.items c.in-Ok-push.ensures.items c.copy_part-in-Ok-push.result c.copy_part-in-Ok-push.ensures.copies

pub copy_part-returns-clause-same : goal.copy_part-returns-clause-same
copy_part-returns-clause-same g t c = same_then c.args.store.now c.copy_node-copied.new.store c.exit_gc_lifo_scope.new.self c.copy_node-copied.ensures.same c.exit_gc_lifo_scope.ensures.same

pub copy_node-returns-in-Err-push-clause-same : goal.copy_node-returns-in-Err-push-clause-same
copy_node-returns-in-Err-push-clause-same g t c = same_then c.args.store.now c.read_node.new.store c.copy_part.new.store c.read_node.ensures.same c.copy_part.ensures.same

pub copy_node-returns-in-Err-copy_part-clause-same : goal.copy_node-returns-in-Err-copy_part-clause-same
copy_node-returns-in-Err-copy_part-clause-same g t c = same_then c.args.store.now c.read_node.new.store c.copy_part.new.store c.read_node.ensures.same c.copy_part.ensures.same

pub copy_node-returns-in-Ok-push-clause-same : goal.copy_node-returns-in-Ok-push-clause-same
copy_node-returns-in-Ok-push-clause-same g t c =
    same_then c.args.store.now c.copy_part.new.store c.copy_part-in-Ok-push.new.store
    (same_then c.args.store.now c.read_node.new.store c.copy_part.new.store c.read_node.ensures.same c.copy_part.ensures.same) c.copy_part-in-Ok-push.ensures.same
