use Rattle.std.proofs.Common.{arith, ◌<◌, ◌+◌, ◌^◌, ◌-◌, length}
use Rattle.gc_free.proofs.WaitingRuns.{joins_before}
use Rattle.gc_free.proofs.batched.join_before.Goals as goal

pub join_held-requires-clause-first : goal.join_held-requires-clause-first
join_held-requires-clause-first c =
    let xs = c.args.waiting.now.items in
    let l : c.args.at - 1 < length xs = omega arith in
    let j = joins_before c.index-before.result.now c.args.block xs (c.args.at - 1) c.args.list.now.space c.requires.can_wait l c.index-before.ensures
    (c.is_followed_by.ensures.0 c.if-not-is_followed_by.false) in
    j.first

pub overflow_add-before : goal.overflow_add-before
overflow_add-before c =
    let xs = c.args.waiting.now.items in
    let l : c.args.at - 1 < length xs = omega arith in
    let j = joins_before c.index-before.result.now c.args.block xs (c.args.at - 1) c.args.list.now.space c.requires.can_wait l c.index-before.ensures
    (c.is_followed_by.ensures.0 c.if-not-is_followed_by.false) in
    let small : c.index-before.result.now.length + c.args.block.length < 2 ^ 32 = j.fits in omega arith

pub returns-clause-joined : goal.returns-clause-joined
returns-clause-joined c =
    let xs = c.args.waiting.now.items in
    let l : c.args.at - 1 < length xs = omega arith in
    let j = joins_before c.index-before.result.now c.args.block xs (c.args.at - 1) c.args.list.now.space c.requires.can_wait l c.index-before.ensures
    (c.is_followed_by.ensures.0 c.if-not-is_followed_by.false) in
    λ _. rw c.join_held.ensures.joined j.joined
