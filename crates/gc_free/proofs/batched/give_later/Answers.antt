use Rattle.std.proofs.Common.{◌∷◌, subst}
use Rattle.gc_free.specs.Waiting.{StandsFor}
use Rattle.gc_free.proofs.WaitingRuns.{then}
use Rattle.gc_free.proofs.batched.give_later.Goals as goal

pub returns-then-join_before-clause-given : goal.returns-then-join_before-clause-given
returns-then-join_before-clause-given c =
    then _ _ _ _ _ _ c.join_behind-block.ensures.joined (c.join_before.ensures.joined c.if-join_before.true)

pub returns-clause-given : goal.returns-clause-given
returns-clause-given c =
    let same = c.join_before.ensures.same c.if-join_before.false in
    let none = c.join_before.ensures.none c.if-join_before.false in
    then _ _ _ _ _ _ c.join_behind-block.ensures.joined
    (subst (λ t. StandsFor (c.join_behind-block.result ∷ c.join_behind-block.new.waiting.items) t c.put.new.waiting.items c.put.new.list.space) same
    (subst (λ l. StandsFor (c.join_behind-block.result ∷ l) c.join_before.new.list.space c.put.new.waiting.items c.put.new.list.space) none c.put.ensures.put))
