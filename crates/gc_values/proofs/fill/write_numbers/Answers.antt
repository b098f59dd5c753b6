use Rattle.std.proofs.Common.{◌≡◌, ℕ, ◌+◌, ◌*◌, ◌/◌, ◌<◌, ◌≤◌, ◌^◌, List, length, take, replicate, sym, ap, ◌∙◌, subst, arith}
use Rattle.std.proofs.Math.Nat.{div-mul-le_self, mul-le-mul_right}
use Rattle.std.proofs.lemmas.List.{length-take-le}
use Rattle.std.proofs.lemmas.Slice.Eq.{bytes_eq-Decides}
use Rattle.gc_types.specs.Layouts.{storage_width}
use Rattle.gc_owner.specs.Owners.{OwnerView}
use Rattle.gc_owner.specs.Writes.{IsNumberPlace, WritesBytes}
use Rattle.gc_values.specs.declared.stored.Stored.TheVariants as kept
use Rattle.gc_values.specs.HeldSlots.{storage_slot, WritesAt}
use Rattle.gc_values.specs.Filling.{AreElements, AreFilled, slot_bytes}
use Rattle.gc_values.proofs.SameValue.{FilledTo, filled-none, filled-zeros, filled-all, small_offset, numbers_go, more_filled, number_chunk, part_filled, take-zeros, low_bytes}
use Rattle.gc_values.proofs.SlotWrites.{number_slot, bytes_written}
use Rattle.gc_values.proofs.fill.write_numbers.Given.{Over}
use Rattle.gc_values.proofs.fill.write_numbers.Goals.{After-repeat-chunk, After-min-more}
use Rattle.gc_values.proofs.fill.write_numbers.Goals as goal

pub returns-then-eq : goal.returns-then-eq
returns-then-eq g c = λ e.
    filled-zeros g.H.GcHeap.KIND c.args.owner.now.seen c.args.gc_ref.now (storage_slot c.args.first.now) c.args.count (kept.Number c.args.number) e
    (sym (low_bytes c.args.first.now.storage c.args.number c.width-width.result c.to_le_bytes-bytes.result c.width-width.ensures.value c.width-width.ensures.small c.to_le_bytes-bytes.ensures)
    ∙ (bytes_eq-Decides (take c.width-width.result c.to_le_bytes-bytes.result) (take c.width-width.result (replicate 16 0))).0 (sym c.if-eq.ensures)
    ∙ take-zeros c.width-width.result 16 c.width-width.ensures.small ∙ ap (λ (n : ℕ). replicate n 0) c.width-width.ensures.value)

pub loop-done-init : goal.loop-done-init
loop-done-init g c = record {
  idle = c.requires.idle;
  within = omega arith;
  filled = filled-none g.H.GcHeap.KIND c.args.owner.now.seen c.args.gc_ref.now (storage_slot c.args.first.now) c.args.count (kept.Number c.args.number);
}

-- the elements before are written, as what the function requires says
filled : (g : Over) (c : After-min-more g) → FilledTo g.H.GcHeap.KIND c.args.owner.now.seen c.loop-done.owner.seen c.args.gc_ref.now (storage_slot c.args.first.now) c.args.count (kept.Number c.args.number) c.requires.can c.loop-done.done
filled g c = c.loop-done.invariant.filled c.requires.can

-- so the offset is small
small : (g : Over) (c : After-min-more g) → c.args.first.now.offset + c.loop-done.done * storage_width c.args.first.now.storage < 2 ^ 32
small g c =
    small_offset g.H.GcHeap.KIND c.args.owner.now.seen c.args.gc_ref.now (storage_slot c.args.first.now) c.args.count (kept.Number c.args.number) c.requires.can c.loop-done.owner.seen c.loop-done.done (filled g c)
    c.is_ready-in-loop-done.ensures.heap c.is_ready-in-loop-done.ensures.can c.loop-done.done c.loop-done.invariant.within

-- how wide some elements are
wide : (g : Over) (c : After-min-more g) (n : ℕ) → n * c.width-width.result ≡ n * storage_width c.args.first.now.storage
wide g c n = ap (λ (w : ℕ). n * w) c.width-width.ensures.value

pub overflow_mul-done : goal.overflow_mul-done
overflow_mul-done g c =
    let at = (goal.at.overflow_mul-done g c).After-min-more in
    omega (arith, small g at, wide g at c.loop-done.done)

pub overflow_add-first : goal.overflow_add-first
overflow_add-first g c =
    let at = (goal.at.overflow_add-first g c).After-min-more in
    omega (arith, small g at, wide g at c.loop-done.done)

-- how many more are written
few : (g : Over) (c : After-min-more g) → (c.loop-done.done + c.min-more.result ≤ c.args.count) × (c.min-more.result ≤ 256 / c.width-width.result)
few g c = (omega (arith, c.min-more.ensures, c.loop-done-test.true), omega (arith, c.min-more.ensures))

-- the bytes that are written
part_is : (g : Over) (c : After-min-more g) → take (c.min-more.result * c.width-width.result) c.repeat-chunk.result ≡ take (c.min-more.result * storage_width c.args.first.now.storage) c.repeat-chunk.result
part_is g c = ap (λ (n : ℕ). take n c.repeat-chunk.result) (wide g c c.min-more.result)

part_long : (g : Over) (c : After-min-more g) → length (take (c.min-more.result * c.width-width.result) c.repeat-chunk.result) ≡ c.min-more.result * storage_width c.args.first.now.storage
part_long g c =
    let all : 256 / c.width-width.result * c.width-width.result ≤ 256 = div-mul-le_self 256 c.width-width.result in
    let some : c.min-more.result * c.width-width.result ≤ 256 / c.width-width.result * c.width-width.result = mul-le-mul_right c.width-width.result (few g c).1 in
    length-take-le (c.min-more.result * c.width-width.result) c.repeat-chunk.result (omega (arith, all, some, c.repeat-chunk.ensures.size)) ∙ wide g c c.min-more.result

pub write_number-requires-clause-inside : goal.write_number-requires-clause-inside
write_number-requires-clause-inside g c =
    let at = (goal.at.write_number-requires-clause-inside g c).After-min-more in
    let can = c.requires.can in
    let goes = numbers_go g.H.GcHeap.KIND c.args.owner.now.seen c.args.gc_ref.now (storage_slot c.args.first.now) c.args.count (kept.Number c.args.number) can c.loop-done.owner.seen c.loop-done.done (filled g at)
    c.is_ready-in-loop-done.ensures.heap c.is_ready-in-loop-done.ensures.can c.min-more.result (few g at).0 (number_slot c.args.owner.now.seen.heap c.args.first.now.storage c.args.number can.of_form) in
    subst (λ (n : ℕ). IsNumberPlace g.H.GcHeap.KIND c.loop-done.owner.seen c.args.gc_ref.now (c.args.first.now.offset + n) (length (take (c.min-more.result * c.width-width.result) c.repeat-chunk.result))) (sym (wide g at c.loop-done.done))
    (subst (λ (n : ℕ). IsNumberPlace g.H.GcHeap.KIND c.loop-done.owner.seen c.args.gc_ref.now (c.args.first.now.offset + c.loop-done.done * storage_width c.args.first.now.storage) n) (sym (part_long g at)) goes)

-- the chunk has the bytes of the number over and over
chunk : (g : Over) (c : After-repeat-chunk g) → AreFilled 0 (storage_width c.args.first.now.storage) (slot_bytes c.args.first.now.storage c.args.number) (256 / c.width-width.result) c.repeat-chunk.result
chunk g c =
    number_chunk c.args.first.now.storage c.args.number c.width-width.result c.repeat-chunk.result c.to_le_bytes-bytes.result c.width-width.ensures.value c.width-width.ensures.positive c.width-width.ensures.small c.to_le_bytes-bytes.ensures
    c.repeat-chunk.ensures.size c.repeat-chunk.ensures.same

pub loop-done-preserved : goal.loop-done-preserved
loop-done-preserved g c = record {
  idle = ap (λ (v : OwnerView g.row.D.Denot). v.idle) (more c.requires.can).rewrites.rest ∙ c.requires.idle;
  within = (few g (goal.at.loop-done-preserved g c).After-min-more).0;
  filled = more;
}
  where
    more : (e : AreElements g.H.GcHeap.KIND c.args.owner.now.seen c.args.gc_ref.now (storage_slot c.args.first.now) c.args.count (kept.Number c.args.number))
        → FilledTo g.H.GcHeap.KIND c.args.owner.now.seen c.write_number.new.self.seen c.args.gc_ref.now (storage_slot c.args.first.now) c.args.count (kept.Number c.args.number) e (c.loop-done.done + c.min-more.result)
    more e =
        let at = (goal.at.loop-done-preserved g c).After-min-more in
        let first = (goal.at.loop-done-preserved g c).After-repeat-chunk in
        let w : ℕ = storage_width c.args.first.now.storage in
        let part : List ℕ = take (c.min-more.result * w) c.repeat-chunk.result in
        let did : WritesAt g.H.GcHeap.KIND c.loop-done.owner.seen c.write_number.new.self.seen c.args.gc_ref.now (c.args.first.now.offset + c.loop-done.done * w) part =
        bytes_written g.H.GcHeap.KIND c.loop-done.owner.seen c.write_number.new.self.seen c.args.gc_ref.now (c.args.first.now.offset + c.loop-done.done * w) _ part (part_is g at)
        (subst (λ (n : ℕ). WritesBytes g.H.GcHeap.KIND c.loop-done.owner.seen c.write_number.new.self.seen c.args.gc_ref.now (c.args.first.now.offset + n) (take (c.min-more.result * c.width-width.result) c.repeat-chunk.result)) (wide g at c.loop-done.done) c.write_number.ensures) in
        more_filled g.H.GcHeap.KIND c.args.owner.now.seen c.args.gc_ref.now (storage_slot c.args.first.now) c.args.count (kept.Number c.args.number) e c.loop-done.owner.seen c.loop-done.done (c.loop-done.invariant.filled e)
        c.is_ready-in-loop-done.ensures.heap c.is_ready-in-loop-done.ensures.can c.min-more.result (few g at).0 c.write_number.new.self.seen part did (ap length (sym (part_is g at)) ∙ part_long g at)
        (part_filled w (slot_bytes c.args.first.now.storage c.args.number) c.repeat-chunk.result (256 / c.width-width.result) c.min-more.result (chunk g first) (few g at).1)

pub returns : goal.returns
returns g c = λ e.
    let all : c.loop-done.done ≡ c.args.count = omega (arith, c.loop-done-test.false, c.loop-done.invariant.within) in
    filled-all g.H.GcHeap.KIND c.args.owner.now.seen c.args.gc_ref.now (storage_slot c.args.first.now) c.args.count (kept.Number c.args.number) e c.loop-done.owner.seen
    (subst (FilledTo g.H.GcHeap.KIND c.args.owner.now.seen c.loop-done.owner.seen c.args.gc_ref.now (storage_slot c.args.first.now) c.args.count (kept.Number c.args.number) e) all (c.loop-done.invariant.filled e))
