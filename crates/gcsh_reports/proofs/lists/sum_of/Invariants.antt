use Rattle.std.proofs.Common.{◌≡◌, ◌≤◌, ◌*◌, ◌^◌, ℤ, sum_by, take}
use Rattle.std.specs.Prelude.{unsigned_abs}
use Rattle.gcsh_reports.proofs.lists.sum_of.Given as goal

abbrev pub invariant-loop-entry : goal.invariant-loop-entry
invariant-loop-entry l = (l.sum ≡ sum_by (λ (entry : ℤ × ℤ). unsigned_abs entry.1) (take l.entry-index l.entries)) × (l.sum ≤ l.entry-index * 2 ^ 64)
