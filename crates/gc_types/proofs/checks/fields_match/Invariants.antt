use Rattle.std.proofs.Common.{ℕ, ◌<◌, length, get_or}
use Rattle.gc_types.specs.declared.value.FieldType.{FieldType}
use Rattle.gc_types.specs.Subtyping.{MatchesField}
use Rattle.gc_types.proofs.checks.fields_match.Given as goal

abbrev pub invariant-loop-field : goal.invariant-loop-field
invariant-loop-field l =
    (k : ℕ) (d e : FieldType) → k < length l.yielded → MatchesField l.ancestry (get_or l.fields k d) (get_or l.others k e)
