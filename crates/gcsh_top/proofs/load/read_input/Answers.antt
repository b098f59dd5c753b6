use Rattle.std.proofs.Common.{◌≡◌, ◌++◌, Bool, true, not, if◌then◌else◌, length, take, List, ℕ, sym, ap, subst, ◌∙◌, arith}
use Rattle.gcsh_top.proofs.EndLemmas.{told}
use Rattle.gcsh_top.proofs.ReadingLemmas.{given_front}
use Rattle.gcsh_top.proofs.WholeLemmas.{ReadSoFar, so_far_failed, so_far_long, so_far_memory, so_far_more, so_far_none, so_far_whole}
use Rattle.gcsh_top.proofs.load.read_input.Given.{Over}
use Rattle.gcsh_top.proofs.load.read_input.Goals.{After-extend_from_slice}
use Rattle.gcsh_top.proofs.load.read_input.Goals as goal

pub read_piece-requires-clause-room : goal.read_piece-requires-clause-room
read_piece-requires-clause-room g c = let long : length c.deref_mut.result.now ≡ 65536 = c.deref_mut.ensures.len ∙ c.loop-count.invariant.piece in omega (arith, long)

pub read_piece-requires-clause-short : goal.read_piece-requires-clause-short
read_piece-requires-clause-short g c = let short = c.loop-count.invariant.so_far.short in let long = c.len.ensures in omega (arith, short, long, c.loop-count.input.ok.0)

pub loop-count-init : goal.loop-count-init
loop-count-init g c = record {
  piece = c.in-Ok.ensures.len;
  so_far = subst (λ (bytes : List ℕ). ReadSoFar (told (g.S.Source.tells c.args.source.now) (g.S.Source.tells c.args.source.now)) bytes) (sym c.new-input.ensures.items) (so_far_none (g.S.Source.tells c.args.source.now));
}

pub returns-in-Err-Source : goal.returns-in-Err-Source
returns-in-Err-Source g c =
    so_far_failed (g.S.Source.tells c.args.source.now) (g.S.Source.tells c.loop-count.source) (g.S.Source.tells c.read_piece.new.source) c.loop-count.input.items c.len.result (let long = c.len.ensures in omega (arith, long, c.loop-count.input.ok.0)) c.loop-count.invariant.so_far
    c.in-Err-Source.field-0 c.in-Err-Source.field-0-is c.in-Err-Source.ensures.read

pub returns-in-Err-TooLong : goal.returns-in-Err-TooLong
returns-in-Err-TooLong g c =
    so_far_long (g.S.Source.tells c.args.source.now) (g.S.Source.tells c.loop-count.source) (g.S.Source.tells c.read_piece.new.source) c.loop-count.input.items c.len.result (let long = c.len.ensures in omega (arith, long, c.loop-count.input.ok.0)) c.loop-count.invariant.so_far
    c.in-Err-TooLong.field-0 c.in-Err-TooLong.field-0-is c.in-Err-TooLong.ensures.read

pub returns-then-count-eq0 : goal.returns-then-count-eq0
returns-then-count-eq0 g c =
    so_far_whole (g.S.Source.tells c.args.source.now) (g.S.Source.tells c.loop-count.source) (g.S.Source.tells c.read_piece.new.source) c.loop-count.input.items c.len.result (let long = c.len.ensures in omega (arith, long, c.loop-count.input.ok.0)) c.loop-count.invariant.so_far
    c.in-Ok-read_piece.count _ c.in-Ok-read_piece.ensures.read c.if-count-eq0.true

-- the bytes that were given are the front of the buffer
more : (g : Over) (c : After-extend_from_slice g) → ReadSoFar (told (g.S.Source.tells c.args.source.now) (g.S.Source.tells c.read_piece.new.source)) (c.loop-count.input.items ++ take c.in-Ok-read_piece.count c.deref.result.now)
more g c =
    let gave =
    given_front (told (g.S.Source.tells c.loop-count.source) (g.S.Source.tells c.read_piece.new.source)) c.len.result c.in-Ok-read_piece.count _ c.read_piece.new.piece _ c.deref.result.now c.deref.ensures.value
    (c.read_piece.auto.piece ∙ c.deref_mut.ensures.len) c.in-Ok-read_piece.ensures.read in
    so_far_more (g.S.Source.tells c.args.source.now) (g.S.Source.tells c.loop-count.source) (g.S.Source.tells c.read_piece.new.source) c.loop-count.input.items c.len.result (let long = c.len.ensures in omega (arith, long, c.loop-count.input.ok.0)) c.loop-count.invariant.so_far
    c.in-Ok-read_piece.count _ gave c.read_piece.ensures.faults

-- bytes were put behind others, where there was memory
put_behind : (done : Bool) (old next new : List ℕ) → new ≡ (if done then old ++ next else old) → done ≡ true → new ≡ old ++ next
put_behind done old next new is fine = is ∙ ap (λ (b : Bool). if b then old ++ next else old) fine

pub returns-then-is_err : goal.returns-then-is_err
returns-then-is_err g c = so_far_memory _ _ (more g (goal.at.returns-then-is_err g c).After-extend_from_slice)

pub loop-count-preserved : goal.loop-count-preserved
loop-count-preserved g c = record {
  piece = c.loop-count.invariant.piece;
  so_far = subst (λ (bytes : List ℕ). ReadSoFar (told (g.S.Source.tells c.args.source.now) (g.S.Source.tells c.read_piece.new.source)) bytes)
      (sym (put_behind _ c.loop-count.input.items (take c.in-Ok-read_piece.count c.deref.result.now) c.extend_from_slice.new.self.items c.extend_from_slice.ensures.items (c.is_err.ensures.negation ∙ ap not c.if-is_err.false)))
      (more g (goal.at.loop-count-preserved g c).After-extend_from_slice);
}
