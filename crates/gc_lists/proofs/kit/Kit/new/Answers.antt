use Rattle.std.proofs.Common.{◌≡◌, ◌≤◌, length, ap, ◌∙◌, arith}
use Rattle.gc_lists.proofs.kit.Kit.new.Goals as goal
use Rattle.gc_lists.proofs.Declaring.{kit_refused}

pub returns-in-Err-clause-makes : goal.returns-in-Err-clause-makes
returns-in-Err-clause-makes g c = λ t a holds.
    let types : length c.types.result.now.declarations ≡ length t.types = ap (λ table. length table.declarations) c.types.ensures ∙ ap length holds.holds.types in
    let few : c.next_index-next.result ≤ 4294967293 = omega (arith, c.if-next.false) in
    kit_refused g.H.GcHeap.KIND t a c.declare_struct.new.self c.declare_struct-2.new.self c.next_index-next.result c.new-cell.result c.new-node.result c.cell_fields.result c.node_fields.result
    c.in_ok-declare_struct.field-0 c.declare_struct.result c.declare_struct-2.result c.in-Err.fault (c.next_index-next.ensures ∙ types) few c.new-cell.ensures c.new-node.ensures c.cell_fields.ensures
    c.node_fields.ensures c.in_ok-declare_struct.was c.in-Err.is (c.declare_struct.ensures.step t a holds) (λ u there. c.declare_struct-2.ensures.step u a there)
