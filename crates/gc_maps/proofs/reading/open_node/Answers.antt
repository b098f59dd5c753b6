use Rattle.gc_model.proofs.AccountLemmas.{some_account}
use Rattle.gc_maps.specs.Parts.{NodeIs, OpenedIs}
use Rattle.gc_maps.proofs.Opening.{refused_same, left_in, right_in, opened}
use Rattle.gc_maps.proofs.NodeReads.{part_reads, same_here}
use Rattle.gc_maps.proofs.reading.open_node.Goals as goal

pub read_node-requires : goal.read_node-requires
read_node-requires g c = c.requires.here

pub part_of-left-requires : goal.part_of-left-requires
part_of-left-requires g c =
    let q = c.requires.here in
    let some = some_account g.H.GcHeap.KIND c.args.store.now q.table q.holds in
    left_in g.H.GcHeap.KIND q.table q.ty q.left q.key q.value q.right c.requires.low c.in-Ok.read c.read_node.new.store (c.in-Ok.ensures.reads q.table some.0 q.ty q.left q.key q.value q.right some.1 q.is)

pub part_of-right-requires : goal.part_of-right-requires
part_of-right-requires g c =
    let q = c.requires.here in
    let some = some_account g.H.GcHeap.KIND c.args.store.now q.table q.holds in
    right_in g.H.GcHeap.KIND q.table q.ty q.left q.key q.value q.right c.requires.low c.in-Ok.read c.read_node.new.store (c.in-Ok.ensures.reads q.table some.0 q.ty q.left q.key q.value q.right some.1 q.is)
    c.read_node.new.store (same_here c.read_node.new.store) c.part_of-left.result (part_reads g.H.GcHeap.KIND c.read_node.new.store c.in-Ok.read.left c.part_of-left.result c.part_of-left.ensures)

pub returns-in-Ok-clause-opens : goal.returns-in-Ok-clause-opens
returns-in-Ok-clause-opens g c t a ty x k v y holds is low =
    opened g.H.GcHeap.KIND t ty x k v y low c.in-Ok.read c.read_node.new.store (c.in-Ok.ensures.reads t a ty x k v y holds is)
    c.read_node.new.store (same_here c.read_node.new.store) c.part_of-left.result (part_reads g.H.GcHeap.KIND c.read_node.new.store c.in-Ok.read.left c.part_of-left.result c.part_of-left.ensures)
    c.read_node.new.store (same_here c.read_node.new.store) c.part_of-right.result (part_reads g.H.GcHeap.KIND c.read_node.new.store c.in-Ok.read.right c.part_of-right.result c.part_of-right.ensures)

pub returns-in-Err-clause-opens : goal.returns-in-Err-clause-opens
returns-in-Err-clause-opens g c t a ty x k v y holds is low =
    refused_same g.H.GcHeap.KIND 2 t (λ s u read. NodeIs s u ty read x k v y) (λ s u o. OpenedIs s u ty o x k v y) c.in-Err.fault c.read_node.new.store (c.in-Err.ensures.reads t a ty x k v y holds is)
