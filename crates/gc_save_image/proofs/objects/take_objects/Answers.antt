use Rattle.std.proofs.Common.{◌≡◌, ◌+◌, ◌++◌, ◌∷◌, [], sym, subst, arith, rules, Vec, Global}
use Rattle.gc_model.specs.Reach.{object_values}
use Rattle.gc_paths.specs.Progress.{values_count}
use Rattle.gc_paths.proofs.Growing.{same_itself, same_twice, err_is}
use Rattle.gc_image.specs.declared.image.ObjectLine.{ObjectLine}
use Rattle.gc_save_image.specs.Parts.{found_handles}
use Rattle.gc_save_image.specs.Progress.{AnswersImagePart, HasAllLines, ImageGoesOn, ImagePassesRoom, SaysObject}
use Rattle.gc_save_image.proofs.Rounds.{object_there, number_told, round_begin, round_reading, round_step, round_refused, round_end}
use Rattle.gc_save_image.proofs.objects.take_objects.Goals as goal

pub loop-number-init : goal.loop-number-init
loop-number-init g c = record {
  goes = λ b told start progress. round_begin g.H.GcHeap.KIND b told start c.args.store.now (found_handles c.args.found.now) c.new-lines.result.items c.new-lines.ensures.items progress;
  same = same_itself c.args.store.now;
}

pub returns-then-number-len-clause-takes : goal.returns-then-number-len-clause-takes
returns-then-number-len-clause-takes g c b told start progress =
    let round = c.loop-number.invariant.goes b told start progress in
    let as_many = round.progress.lists.same_count in
    let counts = c.loop-number.found.handles.ok.0 in
    round_end g.H.GcHeap.KIND b told start c.loop-number.number c.loop-number.store (found_handles c.loop-number.found) c.loop-number.lines.items round (omega (arith, as_many, counts, c.len.ensures, c.if-number-len.true))

pub returns-then-number-len-clause-same : goal.returns-then-number-len-clause-same
returns-then-number-len-clause-same g c = c.loop-number.invariant.same

pub take_object-requires : goal.take_object-requires
take_object-requires g c =
    let begun = c.requires in
    let round = c.loop-number.invariant.goes begun.basis begun.told begun.count begun.progress in
    let as_many = round.progress.lists.same_count in
    let counts = c.loop-number.found.handles.ok.0 in
    let p = number_told round.told c.loop-number.number (omega (arith, as_many, counts, c.len.ensures, c.if-number-len.false)) in
    let o = object_there g.H.GcHeap.KIND begun.basis round.told round.total c.loop-number.store (found_handles c.loop-number.found) round.progress c.loop-number.number p.0 p.1 in
    record {
      basis = begun.basis;
      told = round.told;
      count = round.total;
      progress = round.progress;
      object = o.0;
      reading = round_reading g.H.GcHeap.KIND begun.basis begun.told begun.count c.loop-number.number c.loop-number.store (found_handles c.loop-number.found) c.loop-number.lines.items round p.0 p.1 o.0 o.1;
    }

pub returns-in_err-line-clause-takes : goal.returns-in_err-line-clause-takes
returns-in_err-line-clause-takes g c b told start progress =
    let round = c.loop-number.invariant.goes b told start progress in
    let as_many = round.progress.lists.same_count in
    let counts = c.loop-number.found.handles.ok.0 in
    let p = number_told round.told c.loop-number.number (omega (arith, as_many, counts, c.len.ensures, c.if-number-len.false)) in
    let o = object_there g.H.GcHeap.KIND b round.told round.total c.loop-number.store (found_handles c.loop-number.found) round.progress c.loop-number.number p.0 p.1 in
    subst (λ r. AnswersImagePart g.H.GcHeap.KIND b (λ (lines : Vec ObjectLine Global). HasAllLines g.H.GcHeap.KIND b told start c.take_object.new.store (found_handles c.take_object.new.found) lines.items) (ImagePassesRoom b start) r c.take_object.new.store)
    (sym (err_is c.from_residual.result c.in_err-line.field-0.0 c.from_residual.ensures.1))
    (round_refused g.H.GcHeap.KIND b told start c.loop-number.number c.loop-number.store (found_handles c.loop-number.found) c.loop-number.lines.items round p.0 p.1 o.0 o.1 c.in_err-line.field-0.0
    (λ (l : ObjectLine). ImageGoesOn g.H.GcHeap.KIND b round.told (round.total + values_count (object_values o.0)) c.take_object.new.store (found_handles c.take_object.new.found) (λ then. SaysObject b.table.types then o.0 l))
    (λ (lines : Vec ObjectLine Global). HasAllLines g.H.GcHeap.KIND b told start c.take_object.new.store (found_handles c.take_object.new.found) lines.items)
    c.take_object.new.store
    (c.in_err-line.ensures.takes b round.told round.total o.0 round.progress
    (round_reading g.H.GcHeap.KIND b told start c.loop-number.number c.loop-number.store (found_handles c.loop-number.found) c.loop-number.lines.items round p.0 p.1 o.0 o.1)))

pub returns-in_err-line-clause-same : goal.returns-in_err-line-clause-same
returns-in_err-line-clause-same g c = same_twice c.args.store.now c.loop-number.store c.take_object.new.store c.loop-number.invariant.same c.take_object.ensures.same

pub returns-then-is_err-clause-takes : goal.returns-then-is_err-clause-takes
returns-then-is_err-clause-takes g c b told start progress =
    let round = c.loop-number.invariant.goes b told start progress in
    let as_many = round.progress.lists.same_count in
    let counts = c.loop-number.found.handles.ok.0 in
    let p = number_told round.told c.loop-number.number (omega (arith, as_many, counts, c.len.ensures, c.if-number-len.false)) in
    let o = object_there g.H.GcHeap.KIND b round.told round.total c.loop-number.store (found_handles c.loop-number.found) round.progress c.loop-number.number p.0 p.1 in
    let next = c.in_ok-line.ensures.takes b round.told round.total o.0 round.progress
    (round_reading g.H.GcHeap.KIND b told start c.loop-number.number c.loop-number.store (found_handles c.loop-number.found) c.loop-number.lines.items round p.0 p.1 o.0 o.1) in
    (round.total + values_count (object_values o.0), next.progress.holds)

pub returns-then-is_err-clause-same : goal.returns-then-is_err-clause-same
returns-then-is_err-clause-same g c = same_twice c.args.store.now c.loop-number.store c.take_object.new.store c.loop-number.invariant.same c.take_object.ensures.same

pub loop-number-preserved : goal.loop-number-preserved
loop-number-preserved g c = record {
  goes = λ b told start progress.
      let round = c.loop-number.invariant.goes b told start progress in
      let as_many = round.progress.lists.same_count in
      let counts = c.loop-number.found.handles.ok.0 in
      let p = number_told round.told c.loop-number.number (omega (arith, as_many, counts, c.len.ensures, c.if-number-len.false)) in
      let o = object_there g.H.GcHeap.KIND b round.told round.total c.loop-number.store (found_handles c.loop-number.found) round.progress c.loop-number.number p.0 p.1 in
      let items : c.push.new.self.items ≡ c.loop-number.lines.items ++ c.in_ok-line.line ∷ [] = search rules in
      round_step g.H.GcHeap.KIND b told start c.loop-number.number c.loop-number.store (found_handles c.loop-number.found) c.loop-number.lines.items round p.0 p.1 o.0 o.1 c.take_object.new.store (found_handles c.take_object.new.found) c.in_ok-line.line c.push.new.self.items items
      (c.in_ok-line.ensures.takes b round.told round.total o.0 round.progress
      (round_reading g.H.GcHeap.KIND b told start c.loop-number.number c.loop-number.store (found_handles c.loop-number.found) c.loop-number.lines.items round p.0 p.1 o.0 o.1));
  same = same_twice c.args.store.now c.loop-number.store c.take_object.new.store c.loop-number.invariant.same c.take_object.ensures.same;
}

pub returns-clause-takes : goal.returns-clause-takes
returns-clause-takes g c b told start progress =
    let round = c.loop-number.invariant.goes b told start progress in
    (round.total, round.progress.holds)

pub returns-clause-same : goal.returns-clause-same
returns-clause-same g c = c.loop-number.invariant.same
