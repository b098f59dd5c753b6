use Rattle.std.proofs.Common.{arith, ◌≤◌, ◌<◌, ◌-◌, ◌^◌, get_or, length}
use Rattle.gc_free.specs.declared.run.Run.{Run}
use Rattle.gc_free.specs.Runs.{end_of}
use Rattle.gc_free.proofs.ByLength.{In-place}
use Rattle.gc_free.proofs.Shortest.{In-get_or}
use Rattle.gc_free.proofs.joining.run_before.Goals as goal

pub end-requires : goal.end-requires
end-requires c =
    let runs = c.args.runs.now in
    let none : Run = record { place = 0; length = 0 } in
    let within : c.args.at ≤ length runs = c.requires.within in
    let l : c.args.at - 1 < length runs = omega arith in
    let p = In-place 0 (2 ^ 32 - 1) (get_or runs (c.args.at - 1) none) runs c.requires.spread (In-get_or runs (c.args.at - 1) none l) in
    let last : end_of (get_or runs (c.args.at - 1) none) ≤ 2 ^ 32 - 1 = p.1 in
    omega arith
