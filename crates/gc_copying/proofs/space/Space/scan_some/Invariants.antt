use Rattle.std.proofs.Common.{◌≡◌, ℕ, ◌+◌, ◌≤◌}
use Rattle.gc_copying.specs.CopyStart.{From}
use Rattle.gc_copying.specs.CopySteps.{SameSides, WorkAt, WorksOn}
use Rattle.gc_copying.proofs.space.Space.scan_some.Given as goal

abbrev pub invariant-loop-done : goal.invariant-loop-done
invariant-loop-done g l = record {
  along : (s : From) (n fields : ℕ) → s.types ≡ l.types.declarations → WorkAt s l.fn.self l.first n fields
      → WorksOn s l.fn.self l.self l.scan l._done n fields l.fn.steps l.steps;
  behind : l.first + l._done ≤ l.scan;
  sides : SameSides l.fn.self l.self;
  rises : l.fn.steps ≤ l.steps;
}
