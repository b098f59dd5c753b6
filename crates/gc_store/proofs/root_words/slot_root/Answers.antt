use Rattle.std.proofs.Common.{◌≡◌, ◌<◌, ℕ, List, Some, length, slice_get, slice_index_or, sym, ap, ◌∙◌, arith}
use Rattle.std.specs.Option.{option_map}
use Rattle.std.proofs.lemmas.Option.{slice_get-map, slice_get-get_or}
use Rattle.gc_owner.specs.declared.entry.SlotEntry.{SlotEntry}
use Rattle.gc_owner.specs.RootColumns.{empty_slot}
use Rattle.gc_values.specs.SlotCounts.{slot_counts}
use Rattle.gc_store.proofs.RootNumbers.{skipped, slot_found}
use Rattle.gc_store.proofs.root_words.slot_root.Goals as goal

pub returns-then-slot-count : goal.returns-then-slot-count
returns-then-slot-count c = λ frames counts words.
    let within : c.loop-frame.frame < length c.args.counts.now = omega (arith, c.loop-frame-test.true, c.loop-frame.auto.frame-end) in
    let count : slice_get (slot_counts frames) c.loop-frame.frame ≡ Some (slice_index_or c.args.counts.now c.loop-frame.frame 0) =
    ap (λ (ns : List ℕ). slice_get ns c.loop-frame.frame) (sym counts) ∙ slice_get-get_or c.args.counts.now c.loop-frame.frame 0 within in
    slot_found frames c.args.slots.now c.args.place c.loop-frame.frame c.loop-frame.slot _ _ words
    (slice_get-map (λ (e : SlotEntry). e.word) c.args.slots.now c.args.place ∙ ap (option_map (λ (e : SlotEntry). e.word)) (slice_get-get_or c.args.slots.now c.args.place empty_slot c.requires.within))
    (c.loop-frame.invariant frames counts) count c.if-slot-count.true

pub loop-frame-preserved : goal.loop-frame-preserved
loop-frame-preserved c = λ frames counts.
    let within : c.loop-frame.frame < length c.args.counts.now = omega (arith, c.loop-frame-test.true, c.loop-frame.auto.frame-end) in
    let count : slice_get (slot_counts frames) c.loop-frame.frame ≡ Some (slice_index_or c.args.counts.now c.loop-frame.frame 0) =
    ap (λ (ns : List ℕ). slice_get ns c.loop-frame.frame) (sym counts) ∙ slice_get-get_or c.args.counts.now c.loop-frame.frame 0 within in
    c.loop-frame.invariant frames counts ∙ skipped c.loop-frame.frame frames c.loop-frame.frame c.loop-frame.slot _ count c.if-slot-count.false
