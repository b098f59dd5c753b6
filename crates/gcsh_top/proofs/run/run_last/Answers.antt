use Rattle.std.proofs.Common.{[], inl, inr, sym, ◌∙◌}
use Rattle.gc_script.proofs.ResultLemmas.{on_any_err, on_ok}
use Rattle.gcsh_top.proofs.RunLemmas.{ran_kept, ran_none, ran_one, stopped_first}
use Rattle.gcsh_top.proofs.PieceLemmas.{last_line_of, no_last_line}
use Rattle.gcsh_top.proofs.run.run_last.Goals as goal

pub returns-then-held-eq0-clause-ran : goal.returns-then-held-eq0-clause-ran
returns-then-held-eq0-clause-ran g c =
    on_ok c.flush.result
    (λ flushed bytes s unfinished holds. ran_kept _ _ _ _ s bytes _ _ _ _ _ _ (ran_none _ _ _ s bytes _ _ _ (no_last_line c.args.cutter.now bytes unfinished (sym c.held.ensures.kept ∙ c.if-held-eq0.true)) holds) c.flush.ensures.bytes)
    c.flush.ensures.flushed

pub returns-then-held-eq0-clause-stopped : goal.returns-then-held-eq0-clause-stopped
returns-then-held-eq0-clause-stopped g c =
    on_any_err c.flush.result
    (λ bytes s unfinished holds. inr (_, ran_kept _ _ _ _ s bytes _ _ _ _ _ _ (ran_none _ _ _ s bytes _ _ _ (no_last_line c.args.cutter.now bytes unfinished (sym c.held.ensures.kept ∙ c.if-held-eq0.true)) holds) c.flush.ensures.bytes))

pub returns-in_err-run_kept-clause-stopped : goal.returns-in_err-run_kept-clause-stopped
returns-in_err-run_kept-clause-stopped g c =
    on_any_err c.from_residual.result
    (λ bytes s unfinished holds. inl (stopped_first _ _ _ s bytes bytes [] _ _ _ _ (last_line_of c.args.cutter.now bytes unfinished (λ none. c.if-held-eq0.false (c.held.ensures.kept ∙ none))) (c.in_err-run_kept.ensures.broke_off bytes s unfinished.kept_is holds)))

pub returns-clause-ran : goal.returns-clause-ran
returns-clause-ran g c =
    on_ok c.flush-2.result
    (λ flushed bytes s unfinished holds. ran_kept _ _ _ _ s bytes _ _ _ _ _ _ (ran_one _ _ _ _ s bytes bytes _ _ _ _ _ (last_line_of c.args.cutter.now bytes unfinished (λ none. c.if-held-eq0.false (c.held.ensures.kept ∙ none))) (c.in_ok-run_kept.ensures.ran bytes s unfinished.kept_is holds)) c.flush-2.ensures.bytes)
    c.flush-2.ensures.flushed

pub returns-clause-stopped : goal.returns-clause-stopped
returns-clause-stopped g c =
    on_any_err c.flush-2.result
    (λ bytes s unfinished holds. inr (_, ran_kept _ _ _ _ s bytes _ _ _ _ _ _ (ran_one _ _ _ _ s bytes bytes _ _ _ _ _ (last_line_of c.args.cutter.now bytes unfinished (λ none. c.if-held-eq0.false (c.held.ensures.kept ∙ none))) (c.in_ok-run_kept.ensures.ran bytes s unfinished.kept_is holds)) c.flush-2.ensures.bytes))
