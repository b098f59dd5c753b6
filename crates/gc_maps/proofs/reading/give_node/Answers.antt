use Rattle.gc_maps.specs.Parts.{NodeIs}
use Rattle.gc_maps.proofs.NodeReads.{left_refused, right_here, right_refused, both_given}
use Rattle.gc_maps.proofs.reading.give_node.Goals as goal

pub give_link-requires : goal.give_link-requires
give_link-requires g c =
    let q = c.requires in
    record { table = q.table; place = q.place; holds = q.holds; value = _; stands = q.is.left.stands }

pub returns-in-Err-clause-reads : goal.returns-in-Err-clause-reads
returns-in-Err-clause-reads g c t place ty x k v y holds is =
    left_refused g.H.GcHeap.KIND t place ty c.args.found x k v y c.args.store.now c.give_link.new.store c.give_link.ensures.same holds is c.in-Err.fault c.in-Err.ensures.reads (λ s u read. NodeIs s u ty read x k v y)

pub give_link-requires-2 : goal.give_link-requires-2
give_link-requires-2 g c =
    let q = c.requires in
    right_here g.H.GcHeap.KIND q.table q.place q.ty c.args.found q.left q.key q.value q.right c.args.store.now c.give_link.new.store c.give_link.ensures.same q.holds q.is c.in-Ok.left c.in-Ok.ensures.reads

pub returns-in-Ok-give_link-clause-reads : goal.returns-in-Ok-give_link-clause-reads
returns-in-Ok-give_link-clause-reads g c t place ty x k v y holds is =
    both_given g.H.GcHeap.KIND t place ty c.args.found x k v y c.args.store.now c.give_link.new.store c.give_link.ensures.same holds is c.in-Ok.left c.in-Ok.ensures.reads
    c.give_link-2.new.store c.give_link-2.ensures.same c.in-Ok-give_link.right c.in-Ok-give_link.ensures.reads

pub returns-in-Err-give_link-clause-reads : goal.returns-in-Err-give_link-clause-reads
returns-in-Err-give_link-clause-reads g c t place ty x k v y holds is =
    right_refused g.H.GcHeap.KIND t place ty c.args.found x k v y c.args.store.now c.give_link.new.store c.give_link.ensures.same holds is c.in-Ok.left c.in-Ok.ensures.reads
    c.give_link-2.new.store c.give_link-2.ensures.same c.in-Err-give_link.fault c.in-Err-give_link.ensures.reads (λ s u read. NodeIs s u ty read x k v y)
