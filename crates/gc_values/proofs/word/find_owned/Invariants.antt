use Rattle.std.proofs.Common.{ℕ, ◌-◌, ◌<◌, ◌≤◌, length, get_or}
use Rattle.gc_owner.specs.declared.entry.OwnedEntry.{OwnedEntry}
use Rattle.gc_values.proofs.word.find_owned.Given as goal

abbrev pub invariant-halving : goal.invariant-halving
invariant-halving l = record {
  ordered : l.low ≤ l.high;
  within : l.high ≤ length l.entries;
  below : (k : ℕ) (d : OwnedEntry) → k < l.low → (get_or l.entries k d).number < l.number;
  above : (k : ℕ) (d : OwnedEntry) → l.high ≤ k → k < length l.entries → l.number < (get_or l.entries k d).number;
}

abbrev pub decreases-halving : goal.decreases-halving
decreases-halving l = l.high - l.low
