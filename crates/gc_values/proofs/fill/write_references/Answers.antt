use Rattle.std.proofs.Common.{◌≡◌, ℕ, ◌+◌, ◌*◌, ◌<◌, ◌^◌, replicate, refl, sym, ap, ◌∙◌, subst, arith}
use Rattle.std.specs.Int.{bytes_low_first}
use Rattle.gc_types.specs.Layouts.{storage_width}
use Rattle.gc_owner.specs.Owners.{OwnerView}
use Rattle.gc_view.specs.Slots.{StorageSlot}
use Rattle.gc_values.specs.declared.stored.Stored.TheVariants as kept
use Rattle.gc_values.specs.HeldSlots.{storage_slot, CanWriteSlot, WritesAt}
use Rattle.gc_values.specs.Filling.{AreElements, slot_bytes}
use Rattle.gc_values.proofs.SameValue.{FilledTo, element, filled-none, filled-zeros, filled-all, small_offset, next_goes, next_filled}
use Rattle.gc_values.proofs.SlotWrites.{word_width}
use Rattle.gc_values.proofs.fill.write_references.Given.{Over}
use Rattle.gc_values.proofs.fill.write_references.Goals.{After-is_ready}
use Rattle.gc_values.proofs.fill.write_references.Goals as goal

pub returns-then-word-eq0 : goal.returns-then-word-eq0
returns-then-word-eq0 g c = λ e.
    filled-zeros g.H.GcHeap.KIND c.args.owner.now.seen c.args.gc_ref.now (storage_slot c.args.first.now) c.args.count (kept.Ref c.args.word) e (zero_word c.args.first.now.storage c.args.word (word_width c.args.owner.now.seen.heap c.args.first.now.storage c.args.word e.of_form) c.if-word-eq0.true)
  where
    zero_word : (ty : _) (word : ℕ) → storage_width ty ≡ 4 → word ≡ 0 → slot_bytes ty word ≡ replicate (storage_width ty) 0
    zero_word ty word wide null = ap (slot_bytes ty) null ∙ subst (λ (w : ℕ). bytes_low_first 0 w 0 ≡ replicate w 0) (sym wide) refl

pub loop-index-init : goal.loop-index-init
loop-index-init g c = record {
  idle = c.requires.idle;
  filled = filled-none g.H.GcHeap.KIND c.args.owner.now.seen c.args.gc_ref.now (storage_slot c.args.first.now) c.args.count (kept.Ref c.args.word);
}

-- the elements before the index are written, as what the function requires says
filled : (g : Over) (c : After-is_ready g) → FilledTo g.H.GcHeap.KIND c.args.owner.now.seen c.loop-index.owner.seen c.args.gc_ref.now (storage_slot c.args.first.now) c.args.count (kept.Ref c.args.word) c.requires.can c.loop-index.index
filled g c = c.loop-index.invariant.filled c.requires.can

-- so the offset is small
small : (g : Over) (c : After-is_ready g) → c.args.first.now.offset + c.loop-index.index * storage_width c.args.first.now.storage < 2 ^ 32
small g c =
    small_offset g.H.GcHeap.KIND c.args.owner.now.seen c.args.gc_ref.now (storage_slot c.args.first.now) c.args.count (kept.Ref c.args.word) c.requires.can c.loop-index.owner.seen c.loop-index.index (filled g c) c.is_ready.ensures.heap c.is_ready.ensures.can
    c.loop-index.index (omega (arith, c.loop-index-test.true, c.loop-index.auto.index-end))

pub overflow_mul-slot : goal.overflow_mul-slot
overflow_mul-slot g c =
    let at = (goal.at.overflow_mul-slot g c).After-is_ready in
    let wide = ap (λ (w : ℕ). c.loop-index.index * w) c.width-width.ensures.value in
    omega (arith, small g at, wide)

pub overflow_add-slot : goal.overflow_add-slot
overflow_add-slot g c =
    let at = (goal.at.overflow_add-slot g c).After-is_ready in
    let wide = ap (λ (w : ℕ). c.loop-index.index * w) c.width-width.ensures.value in
    omega (arith, small g at, wide)

-- the slot is the next one
slot_is : (g : Over) (c : After-is_ready g) → storage_slot (record { storage = c.args.first.now.storage; offset = c.args.first.now.offset + c.loop-index.index * c.width-width.result })
    ≡ element g.H.GcHeap.KIND c.args.owner.now.seen c.args.gc_ref.now (storage_slot c.args.first.now) c.args.count (kept.Ref c.args.word) c.requires.can c.loop-index.index
slot_is g c = ap (λ (w : ℕ). record { storage = c.args.first.now.storage; offset = c.args.first.now.offset + c.loop-index.index * w }) c.width-width.ensures.value

pub write_slot-requires-clause-can : goal.write_slot-requires-clause-can
write_slot-requires-clause-can g c =
    let at = (goal.at.write_slot-requires-clause-can g c).After-is_ready in
    subst (λ (s : StorageSlot). CanWriteSlot g.H.GcHeap.KIND c.loop-index.owner.seen c.args.gc_ref.now s (kept.Ref c.args.word)) (sym (slot_is g at))
    (next_goes g.H.GcHeap.KIND c.args.owner.now.seen c.args.gc_ref.now (storage_slot c.args.first.now) c.args.count (kept.Ref c.args.word) c.requires.can c.loop-index.owner.seen c.loop-index.index (filled g at) c.is_ready.ensures.heap c.is_ready.ensures.can
    c.loop-index-test.true)

pub loop-index-preserved : goal.loop-index-preserved
loop-index-preserved g c = record {
  idle = ap (λ (v : OwnerView g.row.D.Denot). v.idle) (more c.requires.can).rewrites.rest ∙ c.requires.idle;
  filled = more;
}
  where
    more : (e : AreElements g.H.GcHeap.KIND c.args.owner.now.seen c.args.gc_ref.now (storage_slot c.args.first.now) c.args.count (kept.Ref c.args.word))
        → FilledTo g.H.GcHeap.KIND c.args.owner.now.seen c.write_slot.new.owner.seen c.args.gc_ref.now (storage_slot c.args.first.now) c.args.count (kept.Ref c.args.word) e (c.loop-index.index + 1)
    more e =
        let at = (goal.at.loop-index-preserved g c).After-is_ready in
        next_filled g.H.GcHeap.KIND c.args.owner.now.seen c.args.gc_ref.now (storage_slot c.args.first.now) c.args.count (kept.Ref c.args.word) e c.loop-index.owner.seen c.loop-index.index (c.loop-index.invariant.filled e) c.is_ready.ensures.heap c.is_ready.ensures.can
        c.write_slot.new.owner.seen c.loop-index-test.true
        (subst (λ (s : StorageSlot). WritesAt g.H.GcHeap.KIND c.loop-index.owner.seen c.write_slot.new.owner.seen c.args.gc_ref.now s.offset (slot_bytes s.storage c.args.word)) (slot_is g at) c.write_slot.ensures)

pub returns : goal.returns
returns g c = λ e.
    let all : c.loop-index.index ≡ c.args.count = omega (arith, c.loop-index-test.false, c.loop-index.auto.index-end) in
    filled-all g.H.GcHeap.KIND c.args.owner.now.seen c.args.gc_ref.now (storage_slot c.args.first.now) c.args.count (kept.Ref c.args.word) e c.loop-index.owner.seen
    (subst (FilledTo g.H.GcHeap.KIND c.args.owner.now.seen c.loop-index.owner.seen c.args.gc_ref.now (storage_slot c.args.first.now) c.args.count (kept.Ref c.args.word) e) all (c.loop-index.invariant.filled e))
