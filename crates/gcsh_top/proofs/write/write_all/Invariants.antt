use Rattle.std.proofs.Common.{◌≤◌, length}
use Rattle.gcsh_top.proofs.EndLemmas.{Progress}
use Rattle.gcsh_top.proofs.write.write_all.Given as goal

abbrev pub invariant-loop-rest : goal.invariant-loop-rest
invariant-loop-rest g l = record {
  taken : Progress (g.K.Sink.tells l.fn.sink).held (g.K.Sink.tells l.sink).held l.bytes l.rest;
  faults : (g.K.Sink.tells l.fn.sink).faults ≤ (g.K.Sink.tells l.sink).faults;
}

abbrev pub decreases-loop-rest : goal.decreases-loop-rest
decreases-loop-rest g l = length l.rest
