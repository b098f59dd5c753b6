use Rattle.std.proofs.Common.{◌≡◌, ◌-◌, length}
use Rattle.std.specs.Vec.{vec_ptr}
use Rattle.std.specs.Prelude.{vec_capacity}
use Rattle.gc_free.specs.Orders.{length_key}
use Rattle.gc_free.proofs.JoinedAt.{Shifts}
use Rattle.gc_free.proofs.joining.grow_in_order.Given as goal

abbrev pub invariant-loop-key : goal.invariant-loop-key
invariant-loop-key g l = record {
  shifts : Shifts length_key (length_key l.fn.run) (length_key l.whole) l.initial.runs.items l.runs.items l.at;
  capacity : vec_capacity l.runs ≡ vec_capacity l.initial.runs;
  in_place : vec_ptr l.runs ≡ vec_ptr l.initial.runs;
}

abbrev pub decreases-loop-key : goal.decreases-loop-key
decreases-loop-key g l = length l.runs.items - l.at
