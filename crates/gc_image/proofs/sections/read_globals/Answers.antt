use Rattle.std.proofs.Common.{length, sym, ◌∙◌}
use Rattle.std.proofs.lemmas.Bool.{eqb-false, eqb-true, false≢true}
use Rattle.gc_image.proofs.SectionLemmas.{globals_none, none_at_empty, none_at_end, none_at_line}
use Rattle.gc_image.proofs.sections.read_globals.Goals as goal

pub returns-then-is_empty : goal.returns-then-is_empty
returns-then-is_empty c = λ x fit e.
    globals_none c.loop-line.globals.items c.loop-line.lines
    (λ ys ys_fit same. none_at_empty c.in-Some.line.now c.next.new.self (eqb-true (length c.in-Some.line.now) 0 (sym c.if-is_empty.ensures)) (λ end. false≢true (c.if-is_end.ensures.1 end)) ys ys_fit (sym c.in-Some.ensures ∙ same))
    x fit (sym c.loop-line.invariant.read ∙ e)

pub returns-in_default-global_of : goal.returns-in_default-global_of
returns-in_default-global_of c = λ x fit e.
    globals_none c.loop-line.globals.items c.loop-line.lines
    (λ ys ys_fit same. none_at_line c.in-Some.line.now c.next.new.self (eqb-false (length c.in-Some.line.now) 0 (sym c.if-is_empty.ensures)) c.in_default-global_of.ensures ys ys_fit (sym c.in-Some.ensures ∙ same))
    x fit (sym c.loop-line.invariant.read ∙ e)

pub returns : goal.returns
returns c = λ x fit e.
    globals_none c.loop-line.globals.items c.loop-line.lines (λ ys ys_fit same. none_at_end ys ys_fit (sym c.in_default.ensures.0 ∙ same)) x fit (sym c.loop-line.invariant.read ∙ e)
