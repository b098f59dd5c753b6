use Rattle.std.proofs.Common.{ℕ, ◌<◌, length, get_or}
use Rattle.gc_types.specs.declared.value.ValType.{ValType}
use Rattle.gc_types.specs.Subtyping.{MatchesVal}
use Rattle.gc_types.proofs.checks.values_match.Given as goal

abbrev pub invariant-loop-value : goal.invariant-loop-value
invariant-loop-value l =
    (k : ℕ) (d e : ValType) → k < length l.yielded → MatchesVal l.ancestry (get_or l.values k d) (get_or l.others k e)
