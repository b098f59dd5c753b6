use Rattle.std.proofs.Common.{None, Some, ◌++◌, ◌∙◌, ap, codes}
use Rattle.std.proofs.lemmas.Bool.Decides.{Decides-eqb}
use Rattle.std.proofs.lemmas.Slice.Eq.{strip_suffix_is}
use Rattle.gc_commands.proofs.TypeLemmas.{no_marked, no_unmarked}
use Rattle.gc_commands.proofs.types.reference_of.Goals as goal

pub returns-in_err-heap_of-in-Some : goal.returns-in_err-heap_of-in-Some
returns-in_err-heap_of-in-Some c =
    let marked = strip_suffix_is Decides-eqb c.args.word.now (codes "!") (Some c.in-Some.name) c.in-Some.ensures.cases in
    rw c.from_residual.ensures (no_marked c.args.word.now c.in-Some.name.now marked c.in_err-heap_of-in-Some.ensures)

pub returns-in_err-heap_of-in-None : goal.returns-in_err-heap_of-in-None
returns-in_err-heap_of-in-None c =
    rw c.from_residual-in_err-heap_of-in-None.ensures
    (no_unmarked c.args.word.now (strip_suffix_is Decides-eqb c.args.word.now (codes "!") None c.in-None.ensures.cases) c.in_err-heap_of-in-None.ensures)

pub returns-in_ok-heap_of-in-Some : goal.returns-in_ok-heap_of-in-Some
returns-in_ok-heap_of-in-Some c =
    let marked = strip_suffix_is Decides-eqb c.args.word.now (codes "!") (Some c.in-Some.name) c.in-Some.ensures.cases in
    (c.in_ok-heap_of-in-Some.ensures.0, marked ∙ ap (λ name. name ++ codes "!") c.in_ok-heap_of-in-Some.ensures.1)
