use Rattle.std.proofs.Common.{◌≡◌, Err, length, ap, ◌∙◌, arith}
use Rattle.gcsh_top.specs.declared.read.ReadFault.TheVariants.{Source, TooLong}
use Rattle.gcsh_top.proofs.EndLemmas.{told}
use Rattle.gcsh_top.proofs.InputLemmas.{rose_since}
use Rattle.gcsh_top.proofs.ReadingLemmas.{given_front, reading_done, reading_ended, reading_failed, reading_more, reading_start, reading_stopped, reading_stops, reading_too_long, stops_with, took, unread_at}
use Rattle.gcsh_top.proofs.top.run_form.Goals as goal

pub read_piece-requires-clause-room : goal.read_piece-requires-clause-room
read_piece-requires-clause-room g c = let long : length c.deref_mut.result.now ≡ 65536 = c.deref_mut.ensures.len ∙ c.loop-count.invariant.piece in omega (arith, long)

pub read_piece-requires-clause-short : goal.read_piece-requires-clause-short
read_piece-requires-clause-short g c = c.loop-count.invariant.reading.short

pub loop-count-init : goal.loop-count-init
loop-count-init g c = record {
  piece = c.in-Ok.ensures.len;
  reading = reading_start _ c.args.form (g.S.Source.tells c.args.source.now) (g.K.Sink.tells c.args.sink.now) c.new-cutter.result c.new-limiter.result c.args.store.now c.new-runner.result c.requires c.new-runner.ensures c.new-cutter.ensures c.new-limiter.ensures;
}

pub loop-count-preserved : goal.loop-count-preserved
loop-count-preserved g c =
    let n = c.in-Ok-read_piece.count in
    let gave = given_front (told (g.S.Source.tells c.loop-count.source) (g.S.Source.tells c.read_piece.new.source)) c.loop-count.given n _ c.read_piece.new.piece _ c.deref.result.now c.deref.ensures.value (c.read_piece.auto.piece ∙ c.deref_mut.ensures.len) c.in-Ok-read_piece.ensures.read in
    record {
      piece = c.loop-count.invariant.piece;
      reading = reading_more _ c.args.form _ _ _ _ c.loop-count.given c.loop-count.cutter c.loop-count.limiter _ _ _ c.requires.no_counter c.loop-count.invariant.reading _ n _ gave
          _ _ _ c.run_piece.ensures.same c.run_piece.new.cutter c.run_piece.new.limiter c.in_default-run_piece.ensures.ran c.in_default-run_piece.ensures.flushed c.read_piece.ensures.faults c.run_piece.ensures.faults;
    }

pub returns-in_default-clause-ran : goal.returns-in_default-clause-ran
returns-in_default-clause-ran g c =
    reading_stops _ c.args.form _ _ _ _ 0 _ _ _ _ _ c.requires.no_counter
    (reading_start _ c.args.form (g.S.Source.tells c.args.source.now) (g.K.Sink.tells c.args.sink.now) c.new-cutter.result c.new-limiter.result c.args.store.now c.new-runner.result c.requires c.new-runner.ensures c.new-cutter.ensures c.new-limiter.ensures)

pub returns-in-Err-Source-clause-ran : goal.returns-in-Err-Source-clause-ran
returns-in-Err-Source-clause-ran g c =
    let read = unread_at Source (told (g.S.Source.tells c.loop-count.source) (g.S.Source.tells c.read_piece.new.source)) c.loop-count.given c.in-Err-Source.field-0 c.in-Err-Source.field-0-is c.in-Err-Source.ensures.read in
    reading_failed _ c.args.form _ _ _ _ c.loop-count.given c.loop-count.cutter c.loop-count.limiter _ _ _ c.requires.no_counter c.loop-count.invariant.reading _ read.0 read.1

pub returns-in-Err-TooLong-clause-ran : goal.returns-in-Err-TooLong-clause-ran
returns-in-Err-TooLong-clause-ran g c =
    let read = unread_at TooLong (told (g.S.Source.tells c.loop-count.source) (g.S.Source.tells c.read_piece.new.source)) c.loop-count.given c.in-Err-TooLong.field-0 c.in-Err-TooLong.field-0-is c.in-Err-TooLong.ensures.read in
    reading_too_long _ c.args.form _ _ _ _ c.loop-count.given c.loop-count.cutter c.loop-count.limiter _ _ _ c.requires.no_counter c.loop-count.invariant.reading _ read.0 read.1 read.2

pub returns-in-Err-clause-ran : goal.returns-in-Err-clause-ran
returns-in-Err-clause-ran g c =
    let n = c.in-Ok-read_piece.count in
    let gave = given_front (told (g.S.Source.tells c.loop-count.source) (g.S.Source.tells c.read_piece.new.source)) c.loop-count.given n _ c.read_piece.new.piece _ c.deref.result.now c.deref.ensures.value (c.read_piece.auto.piece ∙ c.deref_mut.ensures.len) c.in-Ok-read_piece.ensures.read in
    stops_with _ c.args.form (told (g.S.Source.tells c.args.source.now) (g.S.Source.tells c.read_piece.new.source)) (took (g.K.Sink.tells c.args.sink.now) (g.K.Sink.tells c.run_piece.new.sink)) c.run_piece.new.store c.in-Err.fault c.status.result c.status.ensures
    (reading_stopped _ c.args.form _ _ _ _ c.loop-count.given c.loop-count.cutter c.loop-count.limiter _ _ _ c.requires.no_counter c.loop-count.invariant.reading _ n _ gave _ _ _ c.run_piece.ensures.same c.in-Err.ensures.stopped)
    (λ is. rose_since _ _ _ c.loop-count.invariant.reading.write_faults (c.in-Err.ensures.failed (ap (λ f. Err f) is)))

pub returns-in-Ok-run_last-clause-ran : goal.returns-in-Ok-run_last-clause-ran
returns-in-Ok-run_last-clause-ran g c =
    reading_done _ c.args.form _ _ _ _ c.loop-count.given c.loop-count.cutter c.loop-count.limiter _ _ _ c.requires.no_counter c.loop-count.invariant.reading _ c.in-Ok-read_piece.count _ c.in-Ok-read_piece.ensures.read
    _ _ _ c.run_last.ensures.same c.if-count-eq0.true c.run_last.new.limiter c.in-Ok-run_last.ensures.ran c.in-Ok-run_last.ensures.flushed

pub returns-clause-ran : goal.returns-clause-ran
returns-clause-ran g c =
    stops_with _ c.args.form (told (g.S.Source.tells c.args.source.now) (g.S.Source.tells c.read_piece.new.source)) (took (g.K.Sink.tells c.args.sink.now) (g.K.Sink.tells c.run_last.new.sink)) c.run_last.new.store c.in-Err-run_last.fault c.status-in-Err-run_last.result c.status-in-Err-run_last.ensures
    (reading_ended _ c.args.form _ _ _ _ c.loop-count.given c.loop-count.cutter c.loop-count.limiter _ _ _ c.requires.no_counter c.loop-count.invariant.reading _ c.in-Ok-read_piece.count _ c.in-Ok-read_piece.ensures.read
    _ _ _ c.run_last.ensures.same c.if-count-eq0.true c.in-Err-run_last.ensures.stopped)
    (λ is. rose_since _ _ _ c.loop-count.invariant.reading.write_faults (c.in-Err-run_last.ensures.failed (ap (λ f. Err f) is)))
