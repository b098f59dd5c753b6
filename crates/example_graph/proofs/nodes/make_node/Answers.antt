use Rattle.std.proofs.Common.{◌≡◌, Some, w64, to_z, of_z}
use Rattle.std.specs.List.{slice_get}
use Rattle.std.proofs.lemmas.Int.{to_z-of_z}
use Rattle.gc_objects.specs.declared.val.Val.TheVariants as val
use Rattle.gc_objects.specs.Makes.{StructCauses, AsksStruct}
use Rattle.example_graph.proofs.EntriesKept.{keeps_then, unchanged_kept}
use Rattle.example_graph.proofs.Making.{made_node, made_kept}
use Rattle.example_graph.proofs.nodes.make_node.Goals as goal

pub returns-in-Ok-clause-made : goal.returns-in-Ok-clause-made
returns-in-Ok-clause-made g c =
    let held = c.stores_hold_tables.ensures in
    let old = c.node_allocator.new.store in
    let given = c.node_values-values.ensures in
    let back : to_z w64 (of_z w64 c.args.key) ≡ c.args.key = to_z-of_z w64 c.args.key c.ranges.key in
    let first : slice_get c.node_values-values.result 0 ≡ Some (val.I64 c.args.key) = cc in
    made_node g.H.GcHeap.KIND old c.new.new.store held.0 held.1.0 c.args.limiter.now c.new.new.limiter old.alloc_counter c.in_ok-allocator.allocator
    c.args.key c.node_values-values.result first c.ranges.key c.in-Ok.made.index (c.in-Ok.ensures.makes held.0 held.1.0 held.1.1)

pub returns-in-Ok-clause-keeps : goal.returns-in-Ok-clause-keeps
returns-in-Ok-clause-keeps g c =
    let old = c.node_allocator.new.store in
    let ty = c.in_ok-allocator.allocator in
    let values = c.node_values-values.result in
    keeps_then g.H.GcHeap.KIND c.args.store.now old c.new.new.store (unchanged_kept g.H.GcHeap.KIND c.args.store.now old c.node_allocator.ensures.same)
    (made_kept g.H.GcHeap.KIND old c.new.new.store c.new.ensures.same old.alloc_counter c.args.limiter.now c.new.new.limiter
    (λ t. StructCauses old t ty values) (λ t. AsksStruct old t ty values) c.new.result c.new.ensures.makes)

pub returns-in-Err-clause-keeps : goal.returns-in-Err-clause-keeps
returns-in-Err-clause-keeps g c =
    let old = c.node_allocator.new.store in
    let ty = c.in_ok-allocator.allocator in
    let values = c.node_values-values.result in
    keeps_then g.H.GcHeap.KIND c.args.store.now old c.new.new.store (unchanged_kept g.H.GcHeap.KIND c.args.store.now old c.node_allocator.ensures.same)
    (made_kept g.H.GcHeap.KIND old c.new.new.store c.new.ensures.same old.alloc_counter c.args.limiter.now c.new.new.limiter
    (λ t. StructCauses old t ty values) (λ t. AsksStruct old t ty values) c.new.result c.new.ensures.makes)
