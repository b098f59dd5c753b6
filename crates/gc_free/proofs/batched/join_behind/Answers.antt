use Rattle.std.proofs.Common.{arith, ◌<◌, ◌+◌, ◌^◌, length}
use Rattle.gc_free.proofs.WaitingRuns.{joins_behind}
use Rattle.gc_free.proofs.batched.join_behind.Goals as goal

pub join_held-requires-clause-second : goal.join_held-requires-clause-second
join_held-requires-clause-second c =
    let xs = c.args.waiting.now.items in
    let l : c.args.at < length xs = omega arith in
    let j = joins_behind c.args.block c.remove-behind.result c.index.result.now xs c.args.at c.args.list.now.space c.requires.can_wait l c.remove-behind.ensures.value c.index.ensures
    (c.is_followed_by.ensures.0 c.if-not-is_followed_by.false) in
    j.second

pub overflow_add-result : goal.overflow_add-result
overflow_add-result c =
    let xs = c.args.waiting.now.items in
    let l : c.args.at < length xs = omega arith in
    let j = joins_behind c.args.block c.remove-behind.result c.index.result.now xs c.args.at c.args.list.now.space c.requires.can_wait l c.remove-behind.ensures.value c.index.ensures
    (c.is_followed_by.ensures.0 c.if-not-is_followed_by.false) in
    let small : c.args.block.length + c.remove-behind.result.length < 2 ^ 32 = j.fits in omega arith

pub returns-clause-joined : goal.returns-clause-joined
returns-clause-joined c =
    let xs = c.args.waiting.now.items in
    let l : c.args.at < length xs = omega arith in
    let j = joins_behind c.args.block c.remove-behind.result c.index.result.now xs c.args.at c.args.list.now.space c.requires.can_wait l c.remove-behind.ensures.value c.index.ensures
    (c.is_followed_by.ensures.0 c.if-not-is_followed_by.false) in
    rw (c.join_held.ensures.joined, c.remove-behind.ensures.items) j.joined
