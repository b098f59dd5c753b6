use Rattle.std.proofs.Common.{◌≡◌, ◌+◌, ◌*◌, ◌≤◌, ◌++◌, List}
use Rattle.gc_commands.specs.declared.command.Command.{Command}
use Rattle.gc_commands.specs.declared.reply.Reply.{Reply}
use Rattle.gc_store.specs.Stores.{IsSameStore}
use Rattle.gcsh_top.specs.declared.words.Form.{Form}
use Rattle.gcsh_top.specs.Churn.{rounds_up_to}
use Rattle.gcsh_reports.specs.Seeds.{seed_of}
use Rattle.gcsh_top.specs.ChurnRuns.{HasRun}
use Rattle.gcsh_top.proofs.churn_run.Churner.run_rounds.Given as goal

abbrev pub invariant-loop-done : goal.invariant-loop-done
invariant-loop-done g l = record {
  ran : (form : Form) (commands : List Command) (replies : List Reply) → HasRun g.H.GcHeap.KIND form commands replies l.fn.store l.fn.self → (all : List Reply) × HasRun g.H.GcHeap.KIND form (commands ++ rounds_up_to l.rounds l.done) all l.store l.self;
  seeds : l.seed ≡ seed_of l.rounds l.done;
  few : l.self.refused ≤ 5 * l.done + 2;
  same : IsSameStore l.fn.store l.store;
}
