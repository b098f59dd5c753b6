use Rattle.std.proofs.Common.{◌≡◌, ℕ, take, string_bytes}
use Rattle.gc_paths.specs.Left.{FoundAll}
use Rattle.gc_paths.specs.Progress.{Basis}
use Rattle.gcsh_reports.specs.PathLines.{lines_from}
use Rattle.gcsh_reports.proofs.paths.text_of.Given as goal

abbrev pub invariant-loop-number : goal.invariant-loop-number
invariant-loop-number g l =
    (b : Basis ℕ) (all : FoundAll g.H.GcHeap.KIND b l.store l.found) → string_bytes l.text ≡ lines_from b.table.objects 0 (take l.number all.told)
