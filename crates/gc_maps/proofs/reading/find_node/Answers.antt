use Rattle.std.proofs.Common.{refl}
use Rattle.gc_maps.proofs.NodeReads.{can_in, node_found}
use Rattle.gc_maps.proofs.reading.find_node.Goals as goal

pub found_in-key-requires : goal.found_in-key-requires
found_in-key-requires g c = can_in g.H.GcHeap.KIND c.args.store.now c.args.word c.requires 0 _ refl

pub found_in-value-requires : goal.found_in-value-requires
found_in-value-requires g c = can_in g.H.GcHeap.KIND c.args.store.now c.args.word c.requires 1 _ refl

pub found_in-left-requires : goal.found_in-left-requires
found_in-left-requires g c = can_in g.H.GcHeap.KIND c.args.store.now c.args.word c.requires 3 _ refl

pub found_in-right-requires : goal.found_in-right-requires
found_in-right-requires g c = can_in g.H.GcHeap.KIND c.args.store.now c.args.word c.requires 4 _ refl

pub returns : goal.returns
returns g c =
    node_found g.H.GcHeap.KIND c.args.store.now c.args.word c.found_in-key.result c.found_in-value.result c.found_in-left.result c.found_in-right.result c.number_found.result c.number_found-2.result
    c.word_found.result c.word_found-2.result c.number_found.ensures c.number_found-2.ensures c.word_found.ensures c.word_found-2.ensures c.found_in-key.ensures c.found_in-value.ensures c.found_in-left.ensures c.found_in-right.ensures
