use Rattle.std.proofs.Common.{◌≡◌, ℕ, List, Err, subst, sym, to_z, of_z, w32, w64}
use Rattle.gc_types.specs.Declarations.{struct_fields_at}
use Rattle.gc_model.specs.Stored.{stored_in}
use Rattle.gc_model.specs.Stores.{StoreView}
use Rattle.gc_model.specs.Table.{Table}
use Rattle.gc_model.specs.Values.{Object, Value, struct}
use Rattle.gc_store.specs.Requests.{CanPlaceFields, struct_fields_of}
use Rattle.gc_store.specs.Values.{AllStand}
use Rattle.gc_values.specs.declared.root.RawValue.{RawValue}
use Rattle.gc_values.specs.declared.faults.PlaceFault.{PlaceFault}
use Rattle.gc_values.specs.declared.faults.PlaceFault.TheVariants as place_fault
use Rattle.gc_maps.proofs.NodeMaking.{Placed, node_values, can_place, part_low, asked, the_object, is_of_kit, place_made, place_full, place_wants, place_lacks, refused_place}
use Rattle.gc_model.proofs.AccountLemmas.{some_account}
use Rattle.gc_model.specs.Accounts.{Account, HoldsAccount}
use Rattle.gc_model.specs.Policy.{policy_state}
use Rattle.gc_maps.specs.Parts.{PartIs}
use Rattle.gc_maps.specs.Trees.{Tree}
use Rattle.gc_lists.proofs.Limiting.{Tells, places_tell}
use Rattle.gc_maps.proofs.making.make_node.Given as given
use Rattle.gc_maps.proofs.making.make_node.Goals as goal
use Rattle.gc_maps.proofs.making.make_node.Goals.{After-place}

-- the object is asked for of a type
abbrev IsAsked : (D : Type 0) → StoreView D → Table D → List RawValue → Object D → ℕ → Type 0
IsAsked D s t raws o ty = (vs : List Value) × (AllStand s t raws vs × (o ≡ struct ty (stored_in (struct_fields_of t.types ty) vs)))

pub place-requires : goal.place-requires
place-requires g c =
    let q = c.requires in
    subst (λ (n : ℕ). CanPlaceFields g.row.D.Denot g.H.GcHeap.KIND c.args.store.now (struct_fields_at c.args.store.now.types n) (node_values (to_z w64 (of_z w64 c.args.key)) (to_z w64 (of_z w64 c.args.value)) (to_z w32 (of_z w32 c.height_over-height.result)) c.args.left.root c.args.right.root)) (sym c.node.ensures)
    (can_place g.H.GcHeap.KIND c.args.store.now c.args.kit.now.node q.of_nodes q.table q.holds (to_z w64 (of_z w64 c.args.key)) (to_z w64 (of_z w64 c.args.value)) (to_z w32 (of_z w32 c.height_over-height.result)) c.args.left c.args.right q.in_left q.in_right)

pub returns-in-Ok-clause-makes : goal.returns-in-Ok-clause-makes
returns-in-Ok-clause-makes g c t a x y holds in_left in_right =
    let object = the_object g.H.GcHeap.KIND c.args.store.now.alloc_counter c.args.kit.now c.args.store.now t a holds (g.L.ResourceLimiter.limits c.args.limiter.now) (g.L.ResourceLimiter.limits c.place.new.limiter) c.place.new.self c.place.ensures.same c.requires.of_nodes c.args.key c.args.value c.ranges.key c.ranges.value c.args.left c.args.right x y in_left in_right (part_low c.args.store.now c.requires.table c.args.kit.now.node c.args.left c.requires.in_left) (part_low c.args.store.now c.requires.table c.args.kit.now.node c.args.right c.requires.in_right) c.height_over-height.result c.height_over-height.ensures in
    let is : IsAsked g.row.D.Denot c.args.store.now t (node_values (to_z w64 (of_z w64 c.args.key)) (to_z w64 (of_z w64 c.args.value)) (to_z w32 (of_z w32 c.height_over-height.result)) c.args.left.root c.args.right.root) object c.node.result = subst (IsAsked g.row.D.Denot c.args.store.now t (node_values (to_z w64 (of_z w64 c.args.key)) (to_z w64 (of_z w64 c.args.value)) (to_z w32 (of_z w32 c.height_over-height.result)) c.args.left.root c.args.right.root) object) (sym c.node.ensures) (asked g.H.GcHeap.KIND c.args.store.now.alloc_counter c.args.kit.now c.args.store.now t a holds (g.L.ResourceLimiter.limits c.args.limiter.now) (g.L.ResourceLimiter.limits c.place.new.limiter) c.place.new.self c.place.ensures.same c.requires.of_nodes c.args.key c.args.value c.ranges.key c.ranges.value c.args.left c.args.right x y in_left in_right (part_low c.args.store.now c.requires.table c.args.kit.now.node c.args.left c.requires.in_left) (part_low c.args.store.now c.requires.table c.args.kit.now.node c.args.right c.requires.in_right) c.height_over-height.result c.height_over-height.ensures) in
    let placed = c.in-Ok.ensures.places t a object holds is in
    place_made g.H.GcHeap.KIND c.args.store.now.alloc_counter c.args.kit.now c.args.store.now t a holds (g.L.ResourceLimiter.limits c.args.limiter.now) (g.L.ResourceLimiter.limits c.place.new.limiter) c.place.new.self c.place.ensures.same c.requires.of_nodes c.args.key c.args.value c.ranges.key c.ranges.value c.args.left c.args.right x y in_left in_right (part_low c.args.store.now c.requires.table c.args.kit.now.node c.args.left c.requires.in_left) (part_low c.args.store.now c.requires.table c.args.kit.now.node c.args.right c.requires.in_right) c.height_over-height.result c.height_over-height.ensures c.in-Ok.root placed

pub returns-in-Err-FuncTableFull-clause-makes : goal.returns-in-Err-FuncTableFull-clause-makes
returns-in-Err-FuncTableFull-clause-makes g c t a x y holds in_left in_right =
    let object = the_object g.H.GcHeap.KIND c.args.store.now.alloc_counter c.args.kit.now c.args.store.now t a holds (g.L.ResourceLimiter.limits c.args.limiter.now) (g.L.ResourceLimiter.limits c.place.new.limiter) c.place.new.self c.place.ensures.same c.requires.of_nodes c.args.key c.args.value c.ranges.key c.ranges.value c.args.left c.args.right x y in_left in_right (part_low c.args.store.now c.requires.table c.args.kit.now.node c.args.left c.requires.in_left) (part_low c.args.store.now c.requires.table c.args.kit.now.node c.args.right c.requires.in_right) c.height_over-height.result c.height_over-height.ensures in
    let is : IsAsked g.row.D.Denot c.args.store.now t (node_values (to_z w64 (of_z w64 c.args.key)) (to_z w64 (of_z w64 c.args.value)) (to_z w32 (of_z w32 c.height_over-height.result)) c.args.left.root c.args.right.root) object c.node.result = subst (IsAsked g.row.D.Denot c.args.store.now t (node_values (to_z w64 (of_z w64 c.args.key)) (to_z w64 (of_z w64 c.args.value)) (to_z w32 (of_z w32 c.height_over-height.result)) c.args.left.root c.args.right.root) object) (sym c.node.ensures) (asked g.H.GcHeap.KIND c.args.store.now.alloc_counter c.args.kit.now c.args.store.now t a holds (g.L.ResourceLimiter.limits c.args.limiter.now) (g.L.ResourceLimiter.limits c.place.new.limiter) c.place.new.self c.place.ensures.same c.requires.of_nodes c.args.key c.args.value c.ranges.key c.ranges.value c.args.left c.args.right x y in_left in_right (part_low c.args.store.now c.requires.table c.args.kit.now.node c.args.left c.requires.in_left) (part_low c.args.store.now c.requires.table c.args.kit.now.node c.args.right c.requires.in_right) c.height_over-height.result c.height_over-height.ensures) in
    let placed : Placed g.H.GcHeap.KIND c.args.store.now.alloc_counter c.args.kit.now c.args.store.now t a holds (g.L.ResourceLimiter.limits c.args.limiter.now) (g.L.ResourceLimiter.limits c.place.new.limiter) c.place.new.self c.place.ensures.same (the_object g.H.GcHeap.KIND c.args.store.now.alloc_counter c.args.kit.now c.args.store.now t a holds (g.L.ResourceLimiter.limits c.args.limiter.now) (g.L.ResourceLimiter.limits c.place.new.limiter) c.place.new.self c.place.ensures.same c.requires.of_nodes c.args.key c.args.value c.ranges.key c.ranges.value c.args.left c.args.right x y in_left in_right (part_low c.args.store.now c.requires.table c.args.kit.now.node c.args.left c.requires.in_left) (part_low c.args.store.now c.requires.table c.args.kit.now.node c.args.right c.requires.in_right) c.height_over-height.result c.height_over-height.ensures) (is_of_kit g.H.GcHeap.KIND c.args.store.now.alloc_counter c.args.kit.now c.args.store.now t a holds (g.L.ResourceLimiter.limits c.args.limiter.now) (g.L.ResourceLimiter.limits c.place.new.limiter) c.place.new.self c.place.ensures.same c.requires.of_nodes c.args.key c.args.value c.ranges.key c.ranges.value c.args.left c.args.right x y in_left in_right (part_low c.args.store.now c.requires.table c.args.kit.now.node c.args.left c.requires.in_left) (part_low c.args.store.now c.requires.table c.args.kit.now.node c.args.right c.requires.in_right) c.height_over-height.result c.height_over-height.ensures) (Err place_fault.FuncTableFull) = subst (λ (f : PlaceFault). Placed g.H.GcHeap.KIND c.args.store.now.alloc_counter c.args.kit.now c.args.store.now t a holds (g.L.ResourceLimiter.limits c.args.limiter.now) (g.L.ResourceLimiter.limits c.place.new.limiter) c.place.new.self c.place.ensures.same (the_object g.H.GcHeap.KIND c.args.store.now.alloc_counter c.args.kit.now c.args.store.now t a holds (g.L.ResourceLimiter.limits c.args.limiter.now) (g.L.ResourceLimiter.limits c.place.new.limiter) c.place.new.self c.place.ensures.same c.requires.of_nodes c.args.key c.args.value c.ranges.key c.ranges.value c.args.left c.args.right x y in_left in_right (part_low c.args.store.now c.requires.table c.args.kit.now.node c.args.left c.requires.in_left) (part_low c.args.store.now c.requires.table c.args.kit.now.node c.args.right c.requires.in_right) c.height_over-height.result c.height_over-height.ensures) (is_of_kit g.H.GcHeap.KIND c.args.store.now.alloc_counter c.args.kit.now c.args.store.now t a holds (g.L.ResourceLimiter.limits c.args.limiter.now) (g.L.ResourceLimiter.limits c.place.new.limiter) c.place.new.self c.place.ensures.same c.requires.of_nodes c.args.key c.args.value c.ranges.key c.ranges.value c.args.left c.args.right x y in_left in_right (part_low c.args.store.now c.requires.table c.args.kit.now.node c.args.left c.requires.in_left) (part_low c.args.store.now c.requires.table c.args.kit.now.node c.args.right c.requires.in_right) c.height_over-height.result c.height_over-height.ensures) (Err f)) c.in-Err-FuncTableFull.field-0-is (c.in-Err-FuncTableFull.ensures.places t a object holds is) in
    refused_place g.H.GcHeap.KIND c.args.store.now.alloc_counter c.args.kit.now c.args.store.now t a holds (g.L.ResourceLimiter.limits c.args.limiter.now) (g.L.ResourceLimiter.limits c.place.new.limiter) c.place.new.self c.place.ensures.same (the_object g.H.GcHeap.KIND c.args.store.now.alloc_counter c.args.kit.now c.args.store.now t a holds (g.L.ResourceLimiter.limits c.args.limiter.now) (g.L.ResourceLimiter.limits c.place.new.limiter) c.place.new.self c.place.ensures.same c.requires.of_nodes c.args.key c.args.value c.ranges.key c.ranges.value c.args.left c.args.right x y in_left in_right (part_low c.args.store.now c.requires.table c.args.kit.now.node c.args.left c.requires.in_left) (part_low c.args.store.now c.requires.table c.args.kit.now.node c.args.right c.requires.in_right) c.height_over-height.result c.height_over-height.ensures) (is_of_kit g.H.GcHeap.KIND c.args.store.now.alloc_counter c.args.kit.now c.args.store.now t a holds (g.L.ResourceLimiter.limits c.args.limiter.now) (g.L.ResourceLimiter.limits c.place.new.limiter) c.place.new.self c.place.ensures.same c.requires.of_nodes c.args.key c.args.value c.ranges.key c.ranges.value c.args.left c.args.right x y in_left in_right (part_low c.args.store.now c.requires.table c.args.kit.now.node c.args.left c.requires.in_left) (part_low c.args.store.now c.requires.table c.args.kit.now.node c.args.right c.requires.in_right) c.height_over-height.result c.height_over-height.ensures) placed.1

pub returns-in-Err-ContTableFull-clause-makes : goal.returns-in-Err-ContTableFull-clause-makes
returns-in-Err-ContTableFull-clause-makes g c t a x y holds in_left in_right =
    let object = the_object g.H.GcHeap.KIND c.args.store.now.alloc_counter c.args.kit.now c.args.store.now t a holds (g.L.ResourceLimiter.limits c.args.limiter.now) (g.L.ResourceLimiter.limits c.place.new.limiter) c.place.new.self c.place.ensures.same c.requires.of_nodes c.args.key c.args.value c.ranges.key c.ranges.value c.args.left c.args.right x y in_left in_right (part_low c.args.store.now c.requires.table c.args.kit.now.node c.args.left c.requires.in_left) (part_low c.args.store.now c.requires.table c.args.kit.now.node c.args.right c.requires.in_right) c.height_over-height.result c.height_over-height.ensures in
    let is : IsAsked g.row.D.Denot c.args.store.now t (node_values (to_z w64 (of_z w64 c.args.key)) (to_z w64 (of_z w64 c.args.value)) (to_z w32 (of_z w32 c.height_over-height.result)) c.args.left.root c.args.right.root) object c.node.result = subst (IsAsked g.row.D.Denot c.args.store.now t (node_values (to_z w64 (of_z w64 c.args.key)) (to_z w64 (of_z w64 c.args.value)) (to_z w32 (of_z w32 c.height_over-height.result)) c.args.left.root c.args.right.root) object) (sym c.node.ensures) (asked g.H.GcHeap.KIND c.args.store.now.alloc_counter c.args.kit.now c.args.store.now t a holds (g.L.ResourceLimiter.limits c.args.limiter.now) (g.L.ResourceLimiter.limits c.place.new.limiter) c.place.new.self c.place.ensures.same c.requires.of_nodes c.args.key c.args.value c.ranges.key c.ranges.value c.args.left c.args.right x y in_left in_right (part_low c.args.store.now c.requires.table c.args.kit.now.node c.args.left c.requires.in_left) (part_low c.args.store.now c.requires.table c.args.kit.now.node c.args.right c.requires.in_right) c.height_over-height.result c.height_over-height.ensures) in
    let placed : Placed g.H.GcHeap.KIND c.args.store.now.alloc_counter c.args.kit.now c.args.store.now t a holds (g.L.ResourceLimiter.limits c.args.limiter.now) (g.L.ResourceLimiter.limits c.place.new.limiter) c.place.new.self c.place.ensures.same (the_object g.H.GcHeap.KIND c.args.store.now.alloc_counter c.args.kit.now c.args.store.now t a holds (g.L.ResourceLimiter.limits c.args.limiter.now) (g.L.ResourceLimiter.limits c.place.new.limiter) c.place.new.self c.place.ensures.same c.requires.of_nodes c.args.key c.args.value c.ranges.key c.ranges.value c.args.left c.args.right x y in_left in_right (part_low c.args.store.now c.requires.table c.args.kit.now.node c.args.left c.requires.in_left) (part_low c.args.store.now c.requires.table c.args.kit.now.node c.args.right c.requires.in_right) c.height_over-height.result c.height_over-height.ensures) (is_of_kit g.H.GcHeap.KIND c.args.store.now.alloc_counter c.args.kit.now c.args.store.now t a holds (g.L.ResourceLimiter.limits c.args.limiter.now) (g.L.ResourceLimiter.limits c.place.new.limiter) c.place.new.self c.place.ensures.same c.requires.of_nodes c.args.key c.args.value c.ranges.key c.ranges.value c.args.left c.args.right x y in_left in_right (part_low c.args.store.now c.requires.table c.args.kit.now.node c.args.left c.requires.in_left) (part_low c.args.store.now c.requires.table c.args.kit.now.node c.args.right c.requires.in_right) c.height_over-height.result c.height_over-height.ensures) (Err place_fault.ContTableFull) = subst (λ (f : PlaceFault). Placed g.H.GcHeap.KIND c.args.store.now.alloc_counter c.args.kit.now c.args.store.now t a holds (g.L.ResourceLimiter.limits c.args.limiter.now) (g.L.ResourceLimiter.limits c.place.new.limiter) c.place.new.self c.place.ensures.same (the_object g.H.GcHeap.KIND c.args.store.now.alloc_counter c.args.kit.now c.args.store.now t a holds (g.L.ResourceLimiter.limits c.args.limiter.now) (g.L.ResourceLimiter.limits c.place.new.limiter) c.place.new.self c.place.ensures.same c.requires.of_nodes c.args.key c.args.value c.ranges.key c.ranges.value c.args.left c.args.right x y in_left in_right (part_low c.args.store.now c.requires.table c.args.kit.now.node c.args.left c.requires.in_left) (part_low c.args.store.now c.requires.table c.args.kit.now.node c.args.right c.requires.in_right) c.height_over-height.result c.height_over-height.ensures) (is_of_kit g.H.GcHeap.KIND c.args.store.now.alloc_counter c.args.kit.now c.args.store.now t a holds (g.L.ResourceLimiter.limits c.args.limiter.now) (g.L.ResourceLimiter.limits c.place.new.limiter) c.place.new.self c.place.ensures.same c.requires.of_nodes c.args.key c.args.value c.ranges.key c.ranges.value c.args.left c.args.right x y in_left in_right (part_low c.args.store.now c.requires.table c.args.kit.now.node c.args.left c.requires.in_left) (part_low c.args.store.now c.requires.table c.args.kit.now.node c.args.right c.requires.in_right) c.height_over-height.result c.height_over-height.ensures) (Err f)) c.in-Err-ContTableFull.field-0-is (c.in-Err-ContTableFull.ensures.places t a object holds is) in
    refused_place g.H.GcHeap.KIND c.args.store.now.alloc_counter c.args.kit.now c.args.store.now t a holds (g.L.ResourceLimiter.limits c.args.limiter.now) (g.L.ResourceLimiter.limits c.place.new.limiter) c.place.new.self c.place.ensures.same (the_object g.H.GcHeap.KIND c.args.store.now.alloc_counter c.args.kit.now c.args.store.now t a holds (g.L.ResourceLimiter.limits c.args.limiter.now) (g.L.ResourceLimiter.limits c.place.new.limiter) c.place.new.self c.place.ensures.same c.requires.of_nodes c.args.key c.args.value c.ranges.key c.ranges.value c.args.left c.args.right x y in_left in_right (part_low c.args.store.now c.requires.table c.args.kit.now.node c.args.left c.requires.in_left) (part_low c.args.store.now c.requires.table c.args.kit.now.node c.args.right c.requires.in_right) c.height_over-height.result c.height_over-height.ensures) (is_of_kit g.H.GcHeap.KIND c.args.store.now.alloc_counter c.args.kit.now c.args.store.now t a holds (g.L.ResourceLimiter.limits c.args.limiter.now) (g.L.ResourceLimiter.limits c.place.new.limiter) c.place.new.self c.place.ensures.same c.requires.of_nodes c.args.key c.args.value c.ranges.key c.ranges.value c.args.left c.args.right x y in_left in_right (part_low c.args.store.now c.requires.table c.args.kit.now.node c.args.left c.requires.in_left) (part_low c.args.store.now c.requires.table c.args.kit.now.node c.args.right c.requires.in_right) c.height_over-height.result c.height_over-height.ensures) placed.1

pub returns-in-Err-TooLarge-clause-makes : goal.returns-in-Err-TooLarge-clause-makes
returns-in-Err-TooLarge-clause-makes g c t a x y holds in_left in_right =
    let object = the_object g.H.GcHeap.KIND c.args.store.now.alloc_counter c.args.kit.now c.args.store.now t a holds (g.L.ResourceLimiter.limits c.args.limiter.now) (g.L.ResourceLimiter.limits c.place.new.limiter) c.place.new.self c.place.ensures.same c.requires.of_nodes c.args.key c.args.value c.ranges.key c.ranges.value c.args.left c.args.right x y in_left in_right (part_low c.args.store.now c.requires.table c.args.kit.now.node c.args.left c.requires.in_left) (part_low c.args.store.now c.requires.table c.args.kit.now.node c.args.right c.requires.in_right) c.height_over-height.result c.height_over-height.ensures in
    let is : IsAsked g.row.D.Denot c.args.store.now t (node_values (to_z w64 (of_z w64 c.args.key)) (to_z w64 (of_z w64 c.args.value)) (to_z w32 (of_z w32 c.height_over-height.result)) c.args.left.root c.args.right.root) object c.node.result = subst (IsAsked g.row.D.Denot c.args.store.now t (node_values (to_z w64 (of_z w64 c.args.key)) (to_z w64 (of_z w64 c.args.value)) (to_z w32 (of_z w32 c.height_over-height.result)) c.args.left.root c.args.right.root) object) (sym c.node.ensures) (asked g.H.GcHeap.KIND c.args.store.now.alloc_counter c.args.kit.now c.args.store.now t a holds (g.L.ResourceLimiter.limits c.args.limiter.now) (g.L.ResourceLimiter.limits c.place.new.limiter) c.place.new.self c.place.ensures.same c.requires.of_nodes c.args.key c.args.value c.ranges.key c.ranges.value c.args.left c.args.right x y in_left in_right (part_low c.args.store.now c.requires.table c.args.kit.now.node c.args.left c.requires.in_left) (part_low c.args.store.now c.requires.table c.args.kit.now.node c.args.right c.requires.in_right) c.height_over-height.result c.height_over-height.ensures) in
    let placed : Placed g.H.GcHeap.KIND c.args.store.now.alloc_counter c.args.kit.now c.args.store.now t a holds (g.L.ResourceLimiter.limits c.args.limiter.now) (g.L.ResourceLimiter.limits c.place.new.limiter) c.place.new.self c.place.ensures.same (the_object g.H.GcHeap.KIND c.args.store.now.alloc_counter c.args.kit.now c.args.store.now t a holds (g.L.ResourceLimiter.limits c.args.limiter.now) (g.L.ResourceLimiter.limits c.place.new.limiter) c.place.new.self c.place.ensures.same c.requires.of_nodes c.args.key c.args.value c.ranges.key c.ranges.value c.args.left c.args.right x y in_left in_right (part_low c.args.store.now c.requires.table c.args.kit.now.node c.args.left c.requires.in_left) (part_low c.args.store.now c.requires.table c.args.kit.now.node c.args.right c.requires.in_right) c.height_over-height.result c.height_over-height.ensures) (is_of_kit g.H.GcHeap.KIND c.args.store.now.alloc_counter c.args.kit.now c.args.store.now t a holds (g.L.ResourceLimiter.limits c.args.limiter.now) (g.L.ResourceLimiter.limits c.place.new.limiter) c.place.new.self c.place.ensures.same c.requires.of_nodes c.args.key c.args.value c.ranges.key c.ranges.value c.args.left c.args.right x y in_left in_right (part_low c.args.store.now c.requires.table c.args.kit.now.node c.args.left c.requires.in_left) (part_low c.args.store.now c.requires.table c.args.kit.now.node c.args.right c.requires.in_right) c.height_over-height.result c.height_over-height.ensures) (Err place_fault.TooLarge) = subst (λ (f : PlaceFault). Placed g.H.GcHeap.KIND c.args.store.now.alloc_counter c.args.kit.now c.args.store.now t a holds (g.L.ResourceLimiter.limits c.args.limiter.now) (g.L.ResourceLimiter.limits c.place.new.limiter) c.place.new.self c.place.ensures.same (the_object g.H.GcHeap.KIND c.args.store.now.alloc_counter c.args.kit.now c.args.store.now t a holds (g.L.ResourceLimiter.limits c.args.limiter.now) (g.L.ResourceLimiter.limits c.place.new.limiter) c.place.new.self c.place.ensures.same c.requires.of_nodes c.args.key c.args.value c.ranges.key c.ranges.value c.args.left c.args.right x y in_left in_right (part_low c.args.store.now c.requires.table c.args.kit.now.node c.args.left c.requires.in_left) (part_low c.args.store.now c.requires.table c.args.kit.now.node c.args.right c.requires.in_right) c.height_over-height.result c.height_over-height.ensures) (is_of_kit g.H.GcHeap.KIND c.args.store.now.alloc_counter c.args.kit.now c.args.store.now t a holds (g.L.ResourceLimiter.limits c.args.limiter.now) (g.L.ResourceLimiter.limits c.place.new.limiter) c.place.new.self c.place.ensures.same c.requires.of_nodes c.args.key c.args.value c.ranges.key c.ranges.value c.args.left c.args.right x y in_left in_right (part_low c.args.store.now c.requires.table c.args.kit.now.node c.args.left c.requires.in_left) (part_low c.args.store.now c.requires.table c.args.kit.now.node c.args.right c.requires.in_right) c.height_over-height.result c.height_over-height.ensures) (Err f)) c.in-Err-TooLarge.field-0-is (c.in-Err-TooLarge.ensures.places t a object holds is) in
    refused_place g.H.GcHeap.KIND c.args.store.now.alloc_counter c.args.kit.now c.args.store.now t a holds (g.L.ResourceLimiter.limits c.args.limiter.now) (g.L.ResourceLimiter.limits c.place.new.limiter) c.place.new.self c.place.ensures.same (the_object g.H.GcHeap.KIND c.args.store.now.alloc_counter c.args.kit.now c.args.store.now t a holds (g.L.ResourceLimiter.limits c.args.limiter.now) (g.L.ResourceLimiter.limits c.place.new.limiter) c.place.new.self c.place.ensures.same c.requires.of_nodes c.args.key c.args.value c.ranges.key c.ranges.value c.args.left c.args.right x y in_left in_right (part_low c.args.store.now c.requires.table c.args.kit.now.node c.args.left c.requires.in_left) (part_low c.args.store.now c.requires.table c.args.kit.now.node c.args.right c.requires.in_right) c.height_over-height.result c.height_over-height.ensures) (is_of_kit g.H.GcHeap.KIND c.args.store.now.alloc_counter c.args.kit.now c.args.store.now t a holds (g.L.ResourceLimiter.limits c.args.limiter.now) (g.L.ResourceLimiter.limits c.place.new.limiter) c.place.new.self c.place.ensures.same c.requires.of_nodes c.args.key c.args.value c.ranges.key c.ranges.value c.args.left c.args.right x y in_left in_right (part_low c.args.store.now c.requires.table c.args.kit.now.node c.args.left c.requires.in_left) (part_low c.args.store.now c.requires.table c.args.kit.now.node c.args.right c.requires.in_right) c.height_over-height.result c.height_over-height.ensures) placed.1

pub returns-in-Err-RootsFull-clause-makes : goal.returns-in-Err-RootsFull-clause-makes
returns-in-Err-RootsFull-clause-makes g c t a x y holds in_left in_right =
    let object = the_object g.H.GcHeap.KIND c.args.store.now.alloc_counter c.args.kit.now c.args.store.now t a holds (g.L.ResourceLimiter.limits c.args.limiter.now) (g.L.ResourceLimiter.limits c.place.new.limiter) c.place.new.self c.place.ensures.same c.requires.of_nodes c.args.key c.args.value c.ranges.key c.ranges.value c.args.left c.args.right x y in_left in_right (part_low c.args.store.now c.requires.table c.args.kit.now.node c.args.left c.requires.in_left) (part_low c.args.store.now c.requires.table c.args.kit.now.node c.args.right c.requires.in_right) c.height_over-height.result c.height_over-height.ensures in
    let is : IsAsked g.row.D.Denot c.args.store.now t (node_values (to_z w64 (of_z w64 c.args.key)) (to_z w64 (of_z w64 c.args.value)) (to_z w32 (of_z w32 c.height_over-height.result)) c.args.left.root c.args.right.root) object c.node.result = subst (IsAsked g.row.D.Denot c.args.store.now t (node_values (to_z w64 (of_z w64 c.args.key)) (to_z w64 (of_z w64 c.args.value)) (to_z w32 (of_z w32 c.height_over-height.result)) c.args.left.root c.args.right.root) object) (sym c.node.ensures) (asked g.H.GcHeap.KIND c.args.store.now.alloc_counter c.args.kit.now c.args.store.now t a holds (g.L.ResourceLimiter.limits c.args.limiter.now) (g.L.ResourceLimiter.limits c.place.new.limiter) c.place.new.self c.place.ensures.same c.requires.of_nodes c.args.key c.args.value c.ranges.key c.ranges.value c.args.left c.args.right x y in_left in_right (part_low c.args.store.now c.requires.table c.args.kit.now.node c.args.left c.requires.in_left) (part_low c.args.store.now c.requires.table c.args.kit.now.node c.args.right c.requires.in_right) c.height_over-height.result c.height_over-height.ensures) in
    let placed : Placed g.H.GcHeap.KIND c.args.store.now.alloc_counter c.args.kit.now c.args.store.now t a holds (g.L.ResourceLimiter.limits c.args.limiter.now) (g.L.ResourceLimiter.limits c.place.new.limiter) c.place.new.self c.place.ensures.same (the_object g.H.GcHeap.KIND c.args.store.now.alloc_counter c.args.kit.now c.args.store.now t a holds (g.L.ResourceLimiter.limits c.args.limiter.now) (g.L.ResourceLimiter.limits c.place.new.limiter) c.place.new.self c.place.ensures.same c.requires.of_nodes c.args.key c.args.value c.ranges.key c.ranges.value c.args.left c.args.right x y in_left in_right (part_low c.args.store.now c.requires.table c.args.kit.now.node c.args.left c.requires.in_left) (part_low c.args.store.now c.requires.table c.args.kit.now.node c.args.right c.requires.in_right) c.height_over-height.result c.height_over-height.ensures) (is_of_kit g.H.GcHeap.KIND c.args.store.now.alloc_counter c.args.kit.now c.args.store.now t a holds (g.L.ResourceLimiter.limits c.args.limiter.now) (g.L.ResourceLimiter.limits c.place.new.limiter) c.place.new.self c.place.ensures.same c.requires.of_nodes c.args.key c.args.value c.ranges.key c.ranges.value c.args.left c.args.right x y in_left in_right (part_low c.args.store.now c.requires.table c.args.kit.now.node c.args.left c.requires.in_left) (part_low c.args.store.now c.requires.table c.args.kit.now.node c.args.right c.requires.in_right) c.height_over-height.result c.height_over-height.ensures) (Err place_fault.RootsFull) = subst (λ (f : PlaceFault). Placed g.H.GcHeap.KIND c.args.store.now.alloc_counter c.args.kit.now c.args.store.now t a holds (g.L.ResourceLimiter.limits c.args.limiter.now) (g.L.ResourceLimiter.limits c.place.new.limiter) c.place.new.self c.place.ensures.same (the_object g.H.GcHeap.KIND c.args.store.now.alloc_counter c.args.kit.now c.args.store.now t a holds (g.L.ResourceLimiter.limits c.args.limiter.now) (g.L.ResourceLimiter.limits c.place.new.limiter) c.place.new.self c.place.ensures.same c.requires.of_nodes c.args.key c.args.value c.ranges.key c.ranges.value c.args.left c.args.right x y in_left in_right (part_low c.args.store.now c.requires.table c.args.kit.now.node c.args.left c.requires.in_left) (part_low c.args.store.now c.requires.table c.args.kit.now.node c.args.right c.requires.in_right) c.height_over-height.result c.height_over-height.ensures) (is_of_kit g.H.GcHeap.KIND c.args.store.now.alloc_counter c.args.kit.now c.args.store.now t a holds (g.L.ResourceLimiter.limits c.args.limiter.now) (g.L.ResourceLimiter.limits c.place.new.limiter) c.place.new.self c.place.ensures.same c.requires.of_nodes c.args.key c.args.value c.ranges.key c.ranges.value c.args.left c.args.right x y in_left in_right (part_low c.args.store.now c.requires.table c.args.kit.now.node c.args.left c.requires.in_left) (part_low c.args.store.now c.requires.table c.args.kit.now.node c.args.right c.requires.in_right) c.height_over-height.result c.height_over-height.ensures) (Err f)) c.in-Err-RootsFull.field-0-is (c.in-Err-RootsFull.ensures.places t a object holds is) in
    place_full g.H.GcHeap.KIND c.args.store.now.alloc_counter c.args.kit.now c.args.store.now t a holds (g.L.ResourceLimiter.limits c.args.limiter.now) (g.L.ResourceLimiter.limits c.place.new.limiter) c.place.new.self c.place.ensures.same (the_object g.H.GcHeap.KIND c.args.store.now.alloc_counter c.args.kit.now c.args.store.now t a holds (g.L.ResourceLimiter.limits c.args.limiter.now) (g.L.ResourceLimiter.limits c.place.new.limiter) c.place.new.self c.place.ensures.same c.requires.of_nodes c.args.key c.args.value c.ranges.key c.ranges.value c.args.left c.args.right x y in_left in_right (part_low c.args.store.now c.requires.table c.args.kit.now.node c.args.left c.requires.in_left) (part_low c.args.store.now c.requires.table c.args.kit.now.node c.args.right c.requires.in_right) c.height_over-height.result c.height_over-height.ensures) (is_of_kit g.H.GcHeap.KIND c.args.store.now.alloc_counter c.args.kit.now c.args.store.now t a holds (g.L.ResourceLimiter.limits c.args.limiter.now) (g.L.ResourceLimiter.limits c.place.new.limiter) c.place.new.self c.place.ensures.same c.requires.of_nodes c.args.key c.args.value c.ranges.key c.ranges.value c.args.left c.args.right x y in_left in_right (part_low c.args.store.now c.requires.table c.args.kit.now.node c.args.left c.requires.in_left) (part_low c.args.store.now c.requires.table c.args.kit.now.node c.args.right c.requires.in_right) c.height_over-height.result c.height_over-height.ensures) placed

pub returns-in-Err-HeapOutOfMemory-clause-makes : goal.returns-in-Err-HeapOutOfMemory-clause-makes
returns-in-Err-HeapOutOfMemory-clause-makes g c t a x y holds in_left in_right =
    let object = the_object g.H.GcHeap.KIND c.args.store.now.alloc_counter c.args.kit.now c.args.store.now t a holds (g.L.ResourceLimiter.limits c.args.limiter.now) (g.L.ResourceLimiter.limits c.place.new.limiter) c.place.new.self c.place.ensures.same c.requires.of_nodes c.args.key c.args.value c.ranges.key c.ranges.value c.args.left c.args.right x y in_left in_right (part_low c.args.store.now c.requires.table c.args.kit.now.node c.args.left c.requires.in_left) (part_low c.args.store.now c.requires.table c.args.kit.now.node c.args.right c.requires.in_right) c.height_over-height.result c.height_over-height.ensures in
    let is : IsAsked g.row.D.Denot c.args.store.now t (node_values (to_z w64 (of_z w64 c.args.key)) (to_z w64 (of_z w64 c.args.value)) (to_z w32 (of_z w32 c.height_over-height.result)) c.args.left.root c.args.right.root) object c.node.result = subst (IsAsked g.row.D.Denot c.args.store.now t (node_values (to_z w64 (of_z w64 c.args.key)) (to_z w64 (of_z w64 c.args.value)) (to_z w32 (of_z w32 c.height_over-height.result)) c.args.left.root c.args.right.root) object) (sym c.node.ensures) (asked g.H.GcHeap.KIND c.args.store.now.alloc_counter c.args.kit.now c.args.store.now t a holds (g.L.ResourceLimiter.limits c.args.limiter.now) (g.L.ResourceLimiter.limits c.place.new.limiter) c.place.new.self c.place.ensures.same c.requires.of_nodes c.args.key c.args.value c.ranges.key c.ranges.value c.args.left c.args.right x y in_left in_right (part_low c.args.store.now c.requires.table c.args.kit.now.node c.args.left c.requires.in_left) (part_low c.args.store.now c.requires.table c.args.kit.now.node c.args.right c.requires.in_right) c.height_over-height.result c.height_over-height.ensures) in
    let placed : Placed g.H.GcHeap.KIND c.args.store.now.alloc_counter c.args.kit.now c.args.store.now t a holds (g.L.ResourceLimiter.limits c.args.limiter.now) (g.L.ResourceLimiter.limits c.place.new.limiter) c.place.new.self c.place.ensures.same (the_object g.H.GcHeap.KIND c.args.store.now.alloc_counter c.args.kit.now c.args.store.now t a holds (g.L.ResourceLimiter.limits c.args.limiter.now) (g.L.ResourceLimiter.limits c.place.new.limiter) c.place.new.self c.place.ensures.same c.requires.of_nodes c.args.key c.args.value c.ranges.key c.ranges.value c.args.left c.args.right x y in_left in_right (part_low c.args.store.now c.requires.table c.args.kit.now.node c.args.left c.requires.in_left) (part_low c.args.store.now c.requires.table c.args.kit.now.node c.args.right c.requires.in_right) c.height_over-height.result c.height_over-height.ensures) (is_of_kit g.H.GcHeap.KIND c.args.store.now.alloc_counter c.args.kit.now c.args.store.now t a holds (g.L.ResourceLimiter.limits c.args.limiter.now) (g.L.ResourceLimiter.limits c.place.new.limiter) c.place.new.self c.place.ensures.same c.requires.of_nodes c.args.key c.args.value c.ranges.key c.ranges.value c.args.left c.args.right x y in_left in_right (part_low c.args.store.now c.requires.table c.args.kit.now.node c.args.left c.requires.in_left) (part_low c.args.store.now c.requires.table c.args.kit.now.node c.args.right c.requires.in_right) c.height_over-height.result c.height_over-height.ensures) (Err (place_fault.HeapOutOfMemory c.in-Err-HeapOutOfMemory.full)) = subst (λ (f : PlaceFault). Placed g.H.GcHeap.KIND c.args.store.now.alloc_counter c.args.kit.now c.args.store.now t a holds (g.L.ResourceLimiter.limits c.args.limiter.now) (g.L.ResourceLimiter.limits c.place.new.limiter) c.place.new.self c.place.ensures.same (the_object g.H.GcHeap.KIND c.args.store.now.alloc_counter c.args.kit.now c.args.store.now t a holds (g.L.ResourceLimiter.limits c.args.limiter.now) (g.L.ResourceLimiter.limits c.place.new.limiter) c.place.new.self c.place.ensures.same c.requires.of_nodes c.args.key c.args.value c.ranges.key c.ranges.value c.args.left c.args.right x y in_left in_right (part_low c.args.store.now c.requires.table c.args.kit.now.node c.args.left c.requires.in_left) (part_low c.args.store.now c.requires.table c.args.kit.now.node c.args.right c.requires.in_right) c.height_over-height.result c.height_over-height.ensures) (is_of_kit g.H.GcHeap.KIND c.args.store.now.alloc_counter c.args.kit.now c.args.store.now t a holds (g.L.ResourceLimiter.limits c.args.limiter.now) (g.L.ResourceLimiter.limits c.place.new.limiter) c.place.new.self c.place.ensures.same c.requires.of_nodes c.args.key c.args.value c.ranges.key c.ranges.value c.args.left c.args.right x y in_left in_right (part_low c.args.store.now c.requires.table c.args.kit.now.node c.args.left c.requires.in_left) (part_low c.args.store.now c.requires.table c.args.kit.now.node c.args.right c.requires.in_right) c.height_over-height.result c.height_over-height.ensures) (Err f)) c.in-Err-HeapOutOfMemory.field-0-is (c.in-Err-HeapOutOfMemory.ensures.places t a object holds is) in
    place_lacks g.H.GcHeap.KIND c.args.store.now.alloc_counter c.args.kit.now c.args.store.now t a holds (g.L.ResourceLimiter.limits c.args.limiter.now) (g.L.ResourceLimiter.limits c.place.new.limiter) c.place.new.self c.place.ensures.same (the_object g.H.GcHeap.KIND c.args.store.now.alloc_counter c.args.kit.now c.args.store.now t a holds (g.L.ResourceLimiter.limits c.args.limiter.now) (g.L.ResourceLimiter.limits c.place.new.limiter) c.place.new.self c.place.ensures.same c.requires.of_nodes c.args.key c.args.value c.ranges.key c.ranges.value c.args.left c.args.right x y in_left in_right (part_low c.args.store.now c.requires.table c.args.kit.now.node c.args.left c.requires.in_left) (part_low c.args.store.now c.requires.table c.args.kit.now.node c.args.right c.requires.in_right) c.height_over-height.result c.height_over-height.ensures) (is_of_kit g.H.GcHeap.KIND c.args.store.now.alloc_counter c.args.kit.now c.args.store.now t a holds (g.L.ResourceLimiter.limits c.args.limiter.now) (g.L.ResourceLimiter.limits c.place.new.limiter) c.place.new.self c.place.ensures.same c.requires.of_nodes c.args.key c.args.value c.ranges.key c.ranges.value c.args.left c.args.right x y in_left in_right (part_low c.args.store.now c.requires.table c.args.kit.now.node c.args.left c.requires.in_left) (part_low c.args.store.now c.requires.table c.args.kit.now.node c.args.right c.requires.in_right) c.height_over-height.result c.height_over-height.ensures) c.in-Err-HeapOutOfMemory.full placed

pub returns-in-Err-Memory-clause-makes : goal.returns-in-Err-Memory-clause-makes
returns-in-Err-Memory-clause-makes g c t a x y holds in_left in_right =
    let object = the_object g.H.GcHeap.KIND c.args.store.now.alloc_counter c.args.kit.now c.args.store.now t a holds (g.L.ResourceLimiter.limits c.args.limiter.now) (g.L.ResourceLimiter.limits c.place.new.limiter) c.place.new.self c.place.ensures.same c.requires.of_nodes c.args.key c.args.value c.ranges.key c.ranges.value c.args.left c.args.right x y in_left in_right (part_low c.args.store.now c.requires.table c.args.kit.now.node c.args.left c.requires.in_left) (part_low c.args.store.now c.requires.table c.args.kit.now.node c.args.right c.requires.in_right) c.height_over-height.result c.height_over-height.ensures in
    let is : IsAsked g.row.D.Denot c.args.store.now t (node_values (to_z w64 (of_z w64 c.args.key)) (to_z w64 (of_z w64 c.args.value)) (to_z w32 (of_z w32 c.height_over-height.result)) c.args.left.root c.args.right.root) object c.node.result = subst (IsAsked g.row.D.Denot c.args.store.now t (node_values (to_z w64 (of_z w64 c.args.key)) (to_z w64 (of_z w64 c.args.value)) (to_z w32 (of_z w32 c.height_over-height.result)) c.args.left.root c.args.right.root) object) (sym c.node.ensures) (asked g.H.GcHeap.KIND c.args.store.now.alloc_counter c.args.kit.now c.args.store.now t a holds (g.L.ResourceLimiter.limits c.args.limiter.now) (g.L.ResourceLimiter.limits c.place.new.limiter) c.place.new.self c.place.ensures.same c.requires.of_nodes c.args.key c.args.value c.ranges.key c.ranges.value c.args.left c.args.right x y in_left in_right (part_low c.args.store.now c.requires.table c.args.kit.now.node c.args.left c.requires.in_left) (part_low c.args.store.now c.requires.table c.args.kit.now.node c.args.right c.requires.in_right) c.height_over-height.result c.height_over-height.ensures) in
    let placed : Placed g.H.GcHeap.KIND c.args.store.now.alloc_counter c.args.kit.now c.args.store.now t a holds (g.L.ResourceLimiter.limits c.args.limiter.now) (g.L.ResourceLimiter.limits c.place.new.limiter) c.place.new.self c.place.ensures.same (the_object g.H.GcHeap.KIND c.args.store.now.alloc_counter c.args.kit.now c.args.store.now t a holds (g.L.ResourceLimiter.limits c.args.limiter.now) (g.L.ResourceLimiter.limits c.place.new.limiter) c.place.new.self c.place.ensures.same c.requires.of_nodes c.args.key c.args.value c.ranges.key c.ranges.value c.args.left c.args.right x y in_left in_right (part_low c.args.store.now c.requires.table c.args.kit.now.node c.args.left c.requires.in_left) (part_low c.args.store.now c.requires.table c.args.kit.now.node c.args.right c.requires.in_right) c.height_over-height.result c.height_over-height.ensures) (is_of_kit g.H.GcHeap.KIND c.args.store.now.alloc_counter c.args.kit.now c.args.store.now t a holds (g.L.ResourceLimiter.limits c.args.limiter.now) (g.L.ResourceLimiter.limits c.place.new.limiter) c.place.new.self c.place.ensures.same c.requires.of_nodes c.args.key c.args.value c.ranges.key c.ranges.value c.args.left c.args.right x y in_left in_right (part_low c.args.store.now c.requires.table c.args.kit.now.node c.args.left c.requires.in_left) (part_low c.args.store.now c.requires.table c.args.kit.now.node c.args.right c.requires.in_right) c.height_over-height.result c.height_over-height.ensures) (Err place_fault.Memory) = subst (λ (f : PlaceFault). Placed g.H.GcHeap.KIND c.args.store.now.alloc_counter c.args.kit.now c.args.store.now t a holds (g.L.ResourceLimiter.limits c.args.limiter.now) (g.L.ResourceLimiter.limits c.place.new.limiter) c.place.new.self c.place.ensures.same (the_object g.H.GcHeap.KIND c.args.store.now.alloc_counter c.args.kit.now c.args.store.now t a holds (g.L.ResourceLimiter.limits c.args.limiter.now) (g.L.ResourceLimiter.limits c.place.new.limiter) c.place.new.self c.place.ensures.same c.requires.of_nodes c.args.key c.args.value c.ranges.key c.ranges.value c.args.left c.args.right x y in_left in_right (part_low c.args.store.now c.requires.table c.args.kit.now.node c.args.left c.requires.in_left) (part_low c.args.store.now c.requires.table c.args.kit.now.node c.args.right c.requires.in_right) c.height_over-height.result c.height_over-height.ensures) (is_of_kit g.H.GcHeap.KIND c.args.store.now.alloc_counter c.args.kit.now c.args.store.now t a holds (g.L.ResourceLimiter.limits c.args.limiter.now) (g.L.ResourceLimiter.limits c.place.new.limiter) c.place.new.self c.place.ensures.same c.requires.of_nodes c.args.key c.args.value c.ranges.key c.ranges.value c.args.left c.args.right x y in_left in_right (part_low c.args.store.now c.requires.table c.args.kit.now.node c.args.left c.requires.in_left) (part_low c.args.store.now c.requires.table c.args.kit.now.node c.args.right c.requires.in_right) c.height_over-height.result c.height_over-height.ensures) (Err f)) c.in-Err-Memory.field-0-is (c.in-Err-Memory.ensures.places t a object holds is) in
    place_wants g.H.GcHeap.KIND c.args.store.now.alloc_counter c.args.kit.now c.args.store.now t a holds (g.L.ResourceLimiter.limits c.args.limiter.now) (g.L.ResourceLimiter.limits c.place.new.limiter) c.place.new.self c.place.ensures.same (the_object g.H.GcHeap.KIND c.args.store.now.alloc_counter c.args.kit.now c.args.store.now t a holds (g.L.ResourceLimiter.limits c.args.limiter.now) (g.L.ResourceLimiter.limits c.place.new.limiter) c.place.new.self c.place.ensures.same c.requires.of_nodes c.args.key c.args.value c.ranges.key c.ranges.value c.args.left c.args.right x y in_left in_right (part_low c.args.store.now c.requires.table c.args.kit.now.node c.args.left c.requires.in_left) (part_low c.args.store.now c.requires.table c.args.kit.now.node c.args.right c.requires.in_right) c.height_over-height.result c.height_over-height.ensures) (is_of_kit g.H.GcHeap.KIND c.args.store.now.alloc_counter c.args.kit.now c.args.store.now t a holds (g.L.ResourceLimiter.limits c.args.limiter.now) (g.L.ResourceLimiter.limits c.place.new.limiter) c.place.new.self c.place.ensures.same c.requires.of_nodes c.args.key c.args.value c.ranges.key c.ranges.value c.args.left c.args.right x y in_left in_right (part_low c.args.store.now c.requires.table c.args.kit.now.node c.args.left c.requires.in_left) (part_low c.args.store.now c.requires.table c.args.kit.now.node c.args.right c.requires.in_right) c.height_over-height.result c.height_over-height.ensures) placed

-- the limiter tells the same limit and has lost no refusal, whatever was answered
tells_kept : (g : given.Over) (c : After-place g) (t : Table g.row.D.Denot) (a : Account) (x y : Tree) → HoldsAccount g.H.GcHeap.KIND c.args.store.now t a → PartIs c.args.store.now t c.args.kit.now.node c.args.left x → PartIs c.args.store.now t c.args.kit.now.node c.args.right y
    → Tells (g.L.ResourceLimiter.limits c.args.limiter.now) (g.L.ResourceLimiter.limits c.place.new.limiter)
tells_kept g c t a x y holds in_left in_right =
    let object = the_object g.H.GcHeap.KIND c.args.store.now.alloc_counter c.args.kit.now c.args.store.now t a holds (g.L.ResourceLimiter.limits c.args.limiter.now) (g.L.ResourceLimiter.limits c.place.new.limiter) c.place.new.self c.place.ensures.same c.requires.of_nodes c.args.key c.args.value c.ranges.key c.ranges.value c.args.left c.args.right x y in_left in_right (part_low c.args.store.now c.requires.table c.args.kit.now.node c.args.left c.requires.in_left) (part_low c.args.store.now c.requires.table c.args.kit.now.node c.args.right c.requires.in_right) c.height_over-height.result c.height_over-height.ensures in
    let is : IsAsked g.row.D.Denot c.args.store.now t (node_values (to_z w64 (of_z w64 c.args.key)) (to_z w64 (of_z w64 c.args.value)) (to_z w32 (of_z w32 c.height_over-height.result)) c.args.left.root c.args.right.root) object c.node.result = subst (IsAsked g.row.D.Denot c.args.store.now t (node_values (to_z w64 (of_z w64 c.args.key)) (to_z w64 (of_z w64 c.args.value)) (to_z w32 (of_z w32 c.height_over-height.result)) c.args.left.root c.args.right.root) object) (sym c.node.ensures) (asked g.H.GcHeap.KIND c.args.store.now.alloc_counter c.args.kit.now c.args.store.now t a holds (g.L.ResourceLimiter.limits c.args.limiter.now) (g.L.ResourceLimiter.limits c.place.new.limiter) c.place.new.self c.place.ensures.same c.requires.of_nodes c.args.key c.args.value c.ranges.key c.ranges.value c.args.left c.args.right x y in_left in_right (part_low c.args.store.now c.requires.table c.args.kit.now.node c.args.left c.requires.in_left) (part_low c.args.store.now c.requires.table c.args.kit.now.node c.args.right c.requires.in_right) c.height_over-height.result c.height_over-height.ensures) in
    places_tell g.H.GcHeap.KIND c.args.store.now.alloc_counter object (policy_state t a (g.L.ResourceLimiter.limits c.args.limiter.now)) (g.L.ResourceLimiter.limits c.place.new.limiter) c.place.result c.place.new.self (c.place.ensures.places t a object holds is)

tells_at : (g : given.Over) (c : After-place g) → Tells (g.L.ResourceLimiter.limits c.args.limiter.now) (g.L.ResourceLimiter.limits c.place.new.limiter)
tells_at g c =
    let some = some_account g.H.GcHeap.KIND c.args.store.now c.requires.table c.requires.holds in
    tells_kept g c c.requires.table some.0 c.requires.in_left.tree c.requires.in_right.tree some.1 c.requires.in_left.is c.requires.in_right.is

pub returns-in-Ok-clause-limit : goal.returns-in-Ok-clause-limit
returns-in-Ok-clause-limit g c = (tells_at g (goal.at.returns-in-Ok-clause-limit g c).After-place).limit

pub returns-in-Err-FuncTableFull-clause-limit : goal.returns-in-Err-FuncTableFull-clause-limit
returns-in-Err-FuncTableFull-clause-limit g c = (tells_at g (goal.at.returns-in-Err-FuncTableFull-clause-limit g c).After-place).limit

pub returns-in-Err-ContTableFull-clause-limit : goal.returns-in-Err-ContTableFull-clause-limit
returns-in-Err-ContTableFull-clause-limit g c = (tells_at g (goal.at.returns-in-Err-ContTableFull-clause-limit g c).After-place).limit

pub returns-in-Err-TooLarge-clause-limit : goal.returns-in-Err-TooLarge-clause-limit
returns-in-Err-TooLarge-clause-limit g c = (tells_at g (goal.at.returns-in-Err-TooLarge-clause-limit g c).After-place).limit

pub returns-in-Err-RootsFull-clause-limit : goal.returns-in-Err-RootsFull-clause-limit
returns-in-Err-RootsFull-clause-limit g c = (tells_at g (goal.at.returns-in-Err-RootsFull-clause-limit g c).After-place).limit

pub returns-in-Err-HeapOutOfMemory-clause-limit : goal.returns-in-Err-HeapOutOfMemory-clause-limit
returns-in-Err-HeapOutOfMemory-clause-limit g c = (tells_at g (goal.at.returns-in-Err-HeapOutOfMemory-clause-limit g c).After-place).limit

pub returns-in-Err-Memory-clause-limit : goal.returns-in-Err-Memory-clause-limit
returns-in-Err-Memory-clause-limit g c = (tells_at g (goal.at.returns-in-Err-Memory-clause-limit g c).After-place).limit

pub returns-in-Ok-clause-counts : goal.returns-in-Ok-clause-counts
returns-in-Ok-clause-counts g c = (tells_at g (goal.at.returns-in-Ok-clause-counts g c).After-place).counts

pub returns-in-Err-FuncTableFull-clause-counts : goal.returns-in-Err-FuncTableFull-clause-counts
returns-in-Err-FuncTableFull-clause-counts g c = (tells_at g (goal.at.returns-in-Err-FuncTableFull-clause-counts g c).After-place).counts

pub returns-in-Err-ContTableFull-clause-counts : goal.returns-in-Err-ContTableFull-clause-counts
returns-in-Err-ContTableFull-clause-counts g c = (tells_at g (goal.at.returns-in-Err-ContTableFull-clause-counts g c).After-place).counts

pub returns-in-Err-TooLarge-clause-counts : goal.returns-in-Err-TooLarge-clause-counts
returns-in-Err-TooLarge-clause-counts g c = (tells_at g (goal.at.returns-in-Err-TooLarge-clause-counts g c).After-place).counts

pub returns-in-Err-RootsFull-clause-counts : goal.returns-in-Err-RootsFull-clause-counts
returns-in-Err-RootsFull-clause-counts g c = (tells_at g (goal.at.returns-in-Err-RootsFull-clause-counts g c).After-place).counts

pub returns-in-Err-HeapOutOfMemory-clause-counts : goal.returns-in-Err-HeapOutOfMemory-clause-counts
returns-in-Err-HeapOutOfMemory-clause-counts g c = (tells_at g (goal.at.returns-in-Err-HeapOutOfMemory-clause-counts g c).After-place).counts

pub returns-in-Err-Memory-clause-counts : goal.returns-in-Err-Memory-clause-counts
returns-in-Err-Memory-clause-counts g c = (tells_at g (goal.at.returns-in-Err-Memory-clause-counts g c).After-place).counts
