use Rattle.std.proofs.Common.{◌≡◌, Some, arith}
use Rattle.std.specs.List.{slice_get}
use Rattle.gc_values.specs.Interning.{ids_of}
use Rattle.gc_values.specs.HeldSlots.{FindsSlot}
use Rattle.gc_values.specs.declared.root.RawValue.{RawValue}
use Rattle.gc_values.proofs.AskedKinds.{has_fields}
use Rattle.gc_values.proofs.ValueSteps.{IsNext, value_within, begun, ended, next_small, next_has, next_found, next_goes, next_written}
use Rattle.gc_values.proofs.fill.write_each_field.Given.{Over}
use Rattle.gc_values.proofs.fill.write_each_field.Goals.{After-is_ready, After-at-slot}
use Rattle.gc_values.proofs.fill.write_each_field.Goals as goal

pub loop-index-init : goal.loop-index-init
loop-index-init g c = begun g.H.GcHeap.KIND (ids_of c.args.interned.now) (g.V.ValueSource.given c.args.values.now) c.args.owner.now.seen c.args.gc_ref.now c.args.ty.now.index c.requires.idle

-- the value of the index
value : (g : Over) (c : After-is_ready g) → (r : RawValue) × (slice_get (g.V.ValueSource.given c.args.values.now) c.loop-index.index ≡ Some r)
value g c = value_within (g.V.ValueSource.given c.args.values.now) c.loop-index.index (omega (arith, c.loop-index-test.true, c.loop-index.auto.index-end, c.count-index-end.ensures))

next : (g : Over) (c : After-is_ready g) → IsNext g.H.GcHeap.KIND (ids_of c.args.interned.now) (g.V.ValueSource.given c.args.values.now) c.args.owner.now.seen c.loop-index.owner.seen c.args.gc_ref.now c.args.ty.now.index c.loop-index.index (value g c).0
next g c = record {
  begins = c.requires.can;
  before = c.loop-index.invariant;
  value_is = (value g c).1;
  heap = c.is_ready.ensures.heap;
  can = c.is_ready.ensures.can;
}

-- the type has fields
pub field_slots-slots-requires : goal.field_slots-slots-requires
field_slots-slots-requires g c = has_fields c.requires.can c.args.ty.now.shape.now c.requires.listed c.requires.no_array

pub overflow_cast-index : goal.overflow_cast-index
overflow_cast-index g c = let small = next_small (next g (goal.at.overflow_cast-index g c).After-is_ready) in omega (arith, small)

pub at-slot-requires : goal.at-slot-requires
at-slot-requires g c = (c.KIND.result, (c.args.ty.now.shape.now, (c.field_slots-slots.ensures, next_has (next g (goal.at.at-slot-requires g c).After-is_ready) c.KIND.result c.KIND.ensures c.args.ty.now.shape.now c.requires.listed)))

-- the slot of the index
finds : (g : Over) (c : After-at-slot g) → FindsSlot g.H.GcHeap.KIND c.loop-index.owner.seen.types.declarations c.args.ty.now.index c.loop-index.index c.at-slot.result
finds g c = next_found (next g (goal.at.After-at-slot g c).After-is_ready) c.KIND.result c.KIND.ensures c.args.ty.now.shape.now c.requires.listed c.at-slot.result (c.at-slot.ensures c.KIND.result c.args.ty.now.shape.now c.field_slots-slots.ensures)

pub write_at-requires-clause-can : goal.write_at-requires-clause-can
write_at-requires-clause-can g c =
    let at = goal.at.write_at-requires-clause-can g c in
    let one = value g at.After-is_ready in
    (one.0, (one.1, next_goes (next g at.After-is_ready) c.at-slot.result (finds g at.After-at-slot)))

pub loop-index-preserved : goal.loop-index-preserved
loop-index-preserved g c =
    let at = goal.at.loop-index-preserved g c in
    let one = value g at.After-is_ready in
    next_written (next g at.After-is_ready) c.at-slot.result (finds g at.After-at-slot) c.write_at.new.owner.seen (c.write_at.ensures one.0 one.1)

pub returns : goal.returns
returns g c = ended c.loop-index.invariant (omega (arith, c.loop-index-test.false, c.loop-index.auto.index-end, c.count-index-end.ensures))
