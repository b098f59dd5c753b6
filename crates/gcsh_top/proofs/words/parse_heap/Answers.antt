use Rattle.std.proofs.Common.{refl}
use Rattle.gcsh_top.specs.Words.{task_words}
use Rattle.gcsh_top.proofs.FormLemmas.{no_first}
use Rattle.gcsh_top.proofs.words.parse_heap.Goals as goal

pub returns-in_err-first : goal.returns-in_err-first
returns-in_err-first c =
    rw c.from_residual-in_err-first.ensures
    (no_first _ c.args.collector.now c.args.first.now c.args.most.now (task_words c.args.task) c.in_ok-most.most refl c.in_ok-most.ensures.0 c.in_ok-most.ensures.1 c.in_err-first.ensures)
