use Rattle.std.proofs.Common.{◌≡◌, ◌++◌, [], length, refl, sym, ap, subst, arith}
use Rattle.std.proofs.lemmas.Bool.{eqb-true}
use Rattle.std.proofs.lemmas.List.{take_rest}
use Rattle.gc_script.proofs.StandLemmas.{same_twice}
use Rattle.gc_script.proofs.ResultLemmas.{on_any_err}
use Rattle.gc_script.specs.Cutting.{EndsLine, Feeds, LineGoesOn, has_feed}
use Rattle.gcsh_top.proofs.RunLemmas.{broke_from, ran_from}
use Rattle.gcsh_top.proofs.PieceLemmas.{line_kept, no_bytes, piece_broken, piece_end, piece_longer, piece_more, piece_start, piece_unfed, whole_broken, whole_more}
use Rattle.gcsh_top.proofs.run.run_lines.Goals as goal

pub loop-rest-init : goal.loop-rest-init
loop-rest-init g c = record {
  along = λ bytes s unfinished holds. piece_start _ _ _ s bytes c.args.piece.now _ _ _ _ unfinished holds;
  unwritten = λ _. refl;
  plain = λ _ none. none;
  faults = omega arith;
  same = record { engine = refl; number = refl; counter = refl };
}

pub returns-in_err-run_line-clause-stopped : goal.returns-in_err-run_line-clause-stopped
returns-in_err-run_line-clause-stopped g c =
    on_any_err c.from_residual.result
    (λ bytes s unfinished holds.
    let so_far = c.loop-rest.invariant.along bytes s unfinished holds in
    whole_broken _ _ _ _ s (bytes ++ c.args.piece.now) c.loop-rest.rest.now _ _ _ _ _ _ so_far c.in-Some.line.now _ _ _ c.in-Some.ensures.start c.in-Some.ensures.begins
    (broke_from _ _ c.loop-rest.invariant.same.counter (c.in_err-run_line.ensures.broke_off so_far.ran.after so_far.ran.holds)))

pub loop-rest-preserved-in-Some : goal.loop-rest-preserved-in-Some
loop-rest-preserved-in-Some g c = rw take_rest (record {
  along = λ bytes s unfinished holds.
      let so_far = c.loop-rest.invariant.along bytes s unfinished holds in
      whole_more _ _ _ _ s (bytes ++ c.args.piece.now) c.loop-rest.rest.now _ _ _ _ _ _ so_far _ c.in-Some.line.now _ _ _ c.in-Some.ensures.start c.in-Some.ensures.begins
      (ran_from _ _ c.loop-rest.invariant.same.counter (c.in_ok-run_line.ensures.ran so_far.ran.after so_far.ran.holds));
  unwritten = λ is. cc;
  plain = λ is. cc;
  faults = omega (arith, c.loop-rest.invariant.faults, c.run_line.ensures.faults);
  same = same_twice _ _ _ c.loop-rest.invariant.same c.run_line.ensures.same;
})

pub returns-in_err-taken-clause-stopped : goal.returns-in_err-taken-clause-stopped
returns-in_err-taken-clause-stopped g c =
    on_any_err c.from_residual-in_err-taken.result (λ bytes s unfinished holds. piece_unfed _ _ _ _ s (bytes ++ c.args.piece.now) c.loop-rest.rest.now _ _ _ _ _ _ (c.loop-rest.invariant.along bytes s unfinished holds))

pub returns-in_err-run_kept-clause-stopped : goal.returns-in_err-run_kept-clause-stopped
returns-in_err-run_kept-clause-stopped g c =
    on_any_err c.from_residual-in_err-run_kept.result
    (λ bytes s unfinished holds.
    let so_far = c.loop-rest.invariant.along bytes s unfinished holds in
    let fed : EndsLine c.loop-rest.cutter c.feed.new.self c.loop-rest.rest.now c.in_ok-taken.taken = subst (λ e. Feeds c.loop-rest.cutter c.feed.new.self c.loop-rest.rest.now c.in_ok-taken.taken e) c.if-is_ended.true c.in_ok-taken.ensures.fed in
    piece_broken _ _ _ _ s (bytes ++ c.args.piece.now) c.loop-rest.rest.now _ _ _ _ _ _ so_far c.feed.new.self c.in_ok-taken.taken _ _ _ fed
    (broke_from _ _ c.loop-rest.invariant.same.counter
    (c.in_err-run_kept.ensures.broke_off (so_far.tail ++ fed.bytes) so_far.ran.after (line_kept _ _ _ _ s (bytes ++ c.args.piece.now) c.loop-rest.rest.now _ _ _ _ _ _ so_far c.feed.new.self c.in_ok-taken.taken fed) so_far.ran.holds)))

pub loop-rest-preserved-then-is_ended : goal.loop-rest-preserved-then-is_ended
loop-rest-preserved-then-is_ended g c = rw take_rest (record {
  along = λ bytes s unfinished holds.
      let so_far = c.loop-rest.invariant.along bytes s unfinished holds in
      let fed : EndsLine c.loop-rest.cutter c.feed.new.self c.loop-rest.rest.now c.in_ok-taken.taken = subst (λ e. Feeds c.loop-rest.cutter c.feed.new.self c.loop-rest.rest.now c.in_ok-taken.taken e) c.if-is_ended.true c.in_ok-taken.ensures.fed in
      piece_more _ _ _ _ s (bytes ++ c.args.piece.now) c.loop-rest.rest.now _ _ _ _ _ _ so_far _ c.feed.new.self _ c.in_ok-taken.taken _ _ _ c.clear.ensures fed
      (ran_from _ _ c.loop-rest.invariant.same.counter
      (c.in_ok-run_kept.ensures.ran (so_far.tail ++ fed.bytes) so_far.ran.after (line_kept _ _ _ _ s (bytes ++ c.args.piece.now) c.loop-rest.rest.now _ _ _ _ _ _ so_far c.feed.new.self c.in_ok-taken.taken fed) so_far.ran.holds));
  unwritten = λ is. cc;
  plain = λ is. cc;
  faults = omega (arith, c.loop-rest.invariant.faults, c.run_kept.ensures.faults);
  same = same_twice _ _ _ c.loop-rest.invariant.same c.run_kept.ensures.same;
})

pub loop-rest-preserved : goal.loop-rest-preserved
loop-rest-preserved g c = rw take_rest (record {
  along = λ bytes s unfinished holds.
      let fed : LineGoesOn c.loop-rest.cutter c.feed.new.self c.loop-rest.rest.now c.in_ok-taken.taken = subst (λ e. Feeds c.loop-rest.cutter c.feed.new.self c.loop-rest.rest.now c.in_ok-taken.taken e) c.if-is_ended.false c.in_ok-taken.ensures.fed in
      piece_longer _ _ _ _ s (bytes ++ c.args.piece.now) c.loop-rest.rest.now _ _ _ _ _ _ (c.loop-rest.invariant.along bytes s unfinished holds) c.feed.new.self c.in_ok-taken.taken fed;
  unwritten = c.loop-rest.invariant.unwritten;
  plain = λ is _.
      let fed : LineGoesOn c.loop-rest.cutter c.feed.new.self c.loop-rest.rest.now c.in_ok-taken.taken = subst (λ e. Feeds c.loop-rest.cutter c.feed.new.self c.loop-rest.rest.now c.in_ok-taken.taken e) c.if-is_ended.false c.in_ok-taken.ensures.fed in
      c.loop-rest.invariant.plain is fed.plain;
  faults = c.loop-rest.invariant.faults;
  same = c.loop-rest.invariant.same;
})

pub returns-clause-ran : goal.returns-clause-ran
returns-clause-ran g c bytes s unfinished holds =
    let none : c.loop-rest.rest.now ≡ [] = no_bytes c.loop-rest.rest.now (eqb-true (length c.loop-rest.rest.now) 0 (sym c.loop-rest-test.ensures)) in
    piece_end _ _ _ _ s (bytes ++ c.args.piece.now) c.loop-rest.rest.now _ _ _ _ _ _ (c.loop-rest.invariant.along bytes s unfinished holds) none

pub returns-clause-unwritten : goal.returns-clause-unwritten
returns-clause-unwritten g c is =
    let none : c.loop-rest.rest.now ≡ [] = no_bytes c.loop-rest.rest.now (eqb-true (length c.loop-rest.rest.now) 0 (sym c.loop-rest-test.ensures)) in
    (c.loop-rest.invariant.plain is (ap has_feed none), c.loop-rest.invariant.unwritten is)
