use Rattle.std.proofs.Common.{◌≡◌, ◌+◌, ◌++◌, ◌∷◌, [], ℕ, length, take, Vec, Global, sym, subst, arith, rules}
use Rattle.gc_model.specs.Reach.{object_values}
use Rattle.gc_model.proofs.ObjectStands.{value_below}
use Rattle.gc_paths.specs.Answers.{LacksRoots}
use Rattle.gc_paths.specs.Progress.{present_in_value, values_count}
use Rattle.gc_paths.proofs.Growing.{same_itself, same_twice, err_is}
use Rattle.gc_image.specs.declared.image.ImageValue.{ImageValue}
use Rattle.gc_save_image.specs.Parts.{found_handles}
use Rattle.gc_save_image.specs.Progress.{AnswersImagePart, ImageGoesOn, SaysFirst, SaysValue}
use Rattle.gc_save_image.proofs.FirstValues.{reading_kept, values_begin, values_more, values_end, values_refused}
use Rattle.gc_save_image.proofs.reading.take_values.Goals as goal

pub loop-index-init : goal.loop-index-init
loop-index-init g c = record {
  goes = λ b told start o progress reading counted. values_begin g.H.GcHeap.KIND b told start (object_values o) c.args.store.now (found_handles c.args.found.now) c.new-words.result.items c.new-words.ensures.items progress;
  same = same_itself c.args.store.now;
}

pub take_value-requires : goal.take_value-requires
take_value-requires g c =
    let can = c.requires.can in
    let counted = c.requires.count_is in
    let goes = c.loop-index.invariant.goes can.basis can.told can.count can.object can.progress can.reading counted in
    let v = value_below (object_values can.object) c.loop-index.index (omega (arith, counted, c.loop-index-test.true)) in
    record {
      can = record {
        basis = can.basis;
        told = goes.told;
        count = can.count + values_count (take c.loop-index.index (object_values can.object));
        progress = goes.progress;
        object = can.object;
        reading = reading_kept can.basis can.told goes.told c.args.number can.object goes.kept can.reading;
      };
      value = v.0;
      value_at = v.1;
    }

pub returns-in_err-word-clause-takes : goal.returns-in_err-word-clause-takes
returns-in_err-word-clause-takes g c b told start o progress reading counted =
    let goes = c.loop-index.invariant.goes b told start o progress reading counted in
    let v = value_below (object_values o) c.loop-index.index (omega (arith, counted, c.loop-index-test.true)) in
    let now : ℕ = start + values_count (take c.loop-index.index (object_values o)) in
    subst (λ r. AnswersImagePart g.H.GcHeap.KIND b (λ (words : Vec ImageValue Global). ImageGoesOn g.H.GcHeap.KIND b told (start + values_count (object_values o)) c.take_value.new.store (found_handles c.take_value.new.found) (λ then. SaysFirst then (length (object_values o)) (object_values o) words.items)) (LacksRoots b.table (start + values_count (object_values o))) r c.take_value.new.store)
    (sym (err_is c.from_residual.result c.in_err-word.field-0.0 c.from_residual.ensures.1))
    (values_refused g.H.GcHeap.KIND b told start (object_values o) c.loop-index.index v.0 v.1 c.in_err-word.field-0.0
    (λ (x : ImageValue). ImageGoesOn g.H.GcHeap.KIND b goes.told (now + present_in_value v.0) c.take_value.new.store (found_handles c.take_value.new.found) (λ then. SaysValue then v.0 x))
    (λ (words : Vec ImageValue Global). ImageGoesOn g.H.GcHeap.KIND b told (start + values_count (object_values o)) c.take_value.new.store (found_handles c.take_value.new.found) (λ then. SaysFirst then (length (object_values o)) (object_values o) words.items))
    c.take_value.new.store
    (c.in_err-word.ensures.takes b goes.told now o v.0 goes.progress (reading_kept b told goes.told c.args.number o goes.kept reading) v.1))

pub returns-in_err-word-clause-same : goal.returns-in_err-word-clause-same
returns-in_err-word-clause-same g c = same_twice c.args.store.now c.loop-index.store c.take_value.new.store c.loop-index.invariant.same c.take_value.ensures.same

pub returns-then-is_err-clause-takes : goal.returns-then-is_err-clause-takes
returns-then-is_err-clause-takes g c b told start o progress reading counted =
    let goes = c.loop-index.invariant.goes b told start o progress reading counted in
    let v = value_below (object_values o) c.loop-index.index (omega (arith, counted, c.loop-index-test.true)) in
    let now : ℕ = start + values_count (take c.loop-index.index (object_values o)) in
    let next = c.in_ok-word.ensures.takes b goes.told now o v.0 goes.progress (reading_kept b told goes.told c.args.number o goes.kept reading) v.1 in
    (now + present_in_value v.0, next.progress.holds)

pub returns-then-is_err-clause-same : goal.returns-then-is_err-clause-same
returns-then-is_err-clause-same g c = same_twice c.args.store.now c.loop-index.store c.take_value.new.store c.loop-index.invariant.same c.take_value.ensures.same

pub loop-index-preserved : goal.loop-index-preserved
loop-index-preserved g c = record {
  goes = λ b told start o progress reading counted.
      let goes = c.loop-index.invariant.goes b told start o progress reading counted in
      let v = value_below (object_values o) c.loop-index.index (omega (arith, counted, c.loop-index-test.true)) in
      let items : c.extend_from_slice.new.self.items ≡ c.loop-index.words.items ++ c.in_ok-word.word ∷ [] = search rules in
      values_more g.H.GcHeap.KIND b told start (object_values o) c.loop-index.index v.0 v.1 c.loop-index.store (found_handles c.loop-index.found) c.loop-index.words.items goes c.take_value.new.store (found_handles c.take_value.new.found) c.in_ok-word.word
      c.extend_from_slice.new.self.items items
      (c.in_ok-word.ensures.takes b goes.told (start + values_count (take c.loop-index.index (object_values o))) o v.0 goes.progress (reading_kept b told goes.told c.args.number o goes.kept reading) v.1);
  same = same_twice c.args.store.now c.loop-index.store c.take_value.new.store c.loop-index.invariant.same c.take_value.ensures.same;
}

pub returns-clause-takes : goal.returns-clause-takes
returns-clause-takes g c b told start o progress reading counted =
    let past = c.loop-index-test.false in
    let below = c.loop-index.auto.index-end in
    values_end g.H.GcHeap.KIND b told start (object_values o) c.loop-index.index (omega (arith, counted, past, below)) c.loop-index.store (found_handles c.loop-index.found) c.loop-index.words.items
    (c.loop-index.invariant.goes b told start o progress reading counted)

pub returns-clause-same : goal.returns-clause-same
returns-clause-same g c = c.loop-index.invariant.same
