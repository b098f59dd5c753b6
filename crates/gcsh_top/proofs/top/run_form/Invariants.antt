use Rattle.std.proofs.Common.{◌≡◌, ◌-◌, vec_len}
use Rattle.gcsh_top.proofs.EndLemmas.{told}
use Rattle.gcsh_top.proofs.ReadingLemmas.{Reading, took}
use Rattle.gcsh_top.proofs.top.run_form.Given as goal

abbrev pub invariant-loop-count : goal.invariant-loop-count
invariant-loop-count g l = record {
  piece : vec_len l.piece ≡ 65536;
  reading : Reading g.H.GcHeap.KIND l.fn.form (told (g.S.Source.tells l.fn.source) (g.S.Source.tells l.source)) (took (g.K.Sink.tells l.fn.sink) (g.K.Sink.tells l.sink)) l.given l.cutter l.limiter l.fn.store l.store l.runner;
}

abbrev pub decreases-loop-count : goal.decreases-loop-count
decreases-loop-count g l = 16777216 - l.given
