use Rattle.std.proofs.Common.{◌≡◌, ℕ, ◌*◌, ◌<◌, ◌%◌, length, slice_index_or}
use Rattle.gc_values.proofs.fill.repeat.Given as goal

abbrev pub invariant-loop-index : goal.invariant-loop-index
invariant-loop-index l = record {
  long : length l.chunk ≡ 256;
  same : (k : ℕ) → k < 16 * l.index → slice_index_or l.chunk k 0 ≡ slice_index_or l.block (k % 16) 0;
}
