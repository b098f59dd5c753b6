use Rattle.std.proofs.Common.{◌≡◌, length}
use Rattle.std.specs.Prelude.{vec_capacity}
use Rattle.gc_free.proofs.WaitingRuns.{Settles}
use Rattle.gc_free.proofs.batched.settle.Given as goal

abbrev pub invariant-loop-run : goal.invariant-loop-run
invariant-loop-run l = record {
  settles : Settles l.initial.waiting.items l.initial.list.space l.waiting.items l.list.space;
  memory : l.list.memory ≡ l.initial.list.memory;
  room : vec_capacity l.waiting ≡ vec_capacity l.initial.waiting;
}

abbrev pub decreases-loop-run : goal.decreases-loop-run
decreases-loop-run l = length l.waiting.items
