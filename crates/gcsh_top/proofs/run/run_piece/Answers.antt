use Rattle.std.proofs.Common.{◌++◌}
use Rattle.gc_script.proofs.ResultLemmas.{on_any_err, on_ok}
use Rattle.gcsh_top.proofs.PieceLemmas.{piece_flushed, piece_unflushed}
use Rattle.gcsh_top.proofs.run.run_piece.Goals as goal

pub returns-in-Ok-true-clause-ran : goal.returns-in-Ok-true-clause-ran
returns-in-Ok-true-clause-ran g c =
    on_ok c.flush.result (λ flushed bytes s unfinished holds. piece_flushed _ _ _ _ s (bytes ++ c.args.piece.now) _ _ _ _ _ _ _ (c.in-Ok-true.ensures.ran bytes s unfinished holds) c.flush.ensures.bytes) c.flush.ensures.flushed

pub returns-in-Ok-true-clause-stopped : goal.returns-in-Ok-true-clause-stopped
returns-in-Ok-true-clause-stopped g c =
    on_any_err c.flush.result (λ bytes s unfinished holds. piece_unflushed _ _ _ _ s (bytes ++ c.args.piece.now) _ _ _ _ _ _ _ (c.in-Ok-true.ensures.ran bytes s unfinished holds) c.flush.ensures.bytes)
