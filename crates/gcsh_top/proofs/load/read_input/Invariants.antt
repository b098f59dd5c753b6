use Rattle.std.proofs.Common.{◌≡◌, ◌-◌, vec_len}
use Rattle.gcsh_top.proofs.EndLemmas.{told}
use Rattle.gcsh_top.proofs.WholeLemmas.{ReadSoFar}
use Rattle.gcsh_top.proofs.load.read_input.Given as goal

abbrev pub invariant-loop-count : goal.invariant-loop-count
invariant-loop-count g l = record {
  piece : vec_len l.piece ≡ 65536;
  so_far : ReadSoFar (told (g.S.Source.tells l.fn.source) (g.S.Source.tells l.source)) l.input.items;
}

abbrev pub decreases-loop-count : goal.decreases-loop-count
decreases-loop-count g l = 16777216 - vec_len l.input
