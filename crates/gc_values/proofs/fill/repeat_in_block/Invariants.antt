use Rattle.std.proofs.Common.{◌≡◌, ℕ, ◌<◌, ◌%◌, length, slice_index_or}
use Rattle.gc_values.proofs.fill.repeat_in_block.Given as goal

abbrev pub invariant-loop-at : goal.invariant-loop-at
invariant-loop-at l = record {
  long : length l.block ≡ 16;
  same : (k : ℕ) → k < l.at → slice_index_or l.block k 0 ≡ slice_index_or l.bytes (k % l.width) 0;
}
