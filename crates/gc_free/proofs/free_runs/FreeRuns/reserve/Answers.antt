use Rattle.std.proofs.Common.{arith, ◌≡◌, ◌≤◌, ◌+◌, length, vec_capacity, vec_len}
use Rattle.gc_free.proofs.TwoOrdersKept.{same_length}
use Rattle.gc_free.proofs.free_runs.FreeRuns.reserve.Goals as goal

pub returns-clause-ok : goal.returns-clause-ok
returns-clause-ok c =
    let same : length c.self.inside.by_length.items ≡ length c.self.inside.by_place.items = same_length c.self.inside.by_place.items c.self.inside.by_length.items c.self.invariant in
    let first : vec_len c.reserve.new.self + c.saturating_sub-missing.result ≤ vec_capacity c.reserve.new.self = c.in_ok-reserve.ensures.ok in
    let second : vec_len c.reserve-2.new.self + c.saturating_sub-missing.result ≤ vec_capacity c.reserve-2.new.self = c.in_ok-reserve-2.ensures.ok in
    omega arith
