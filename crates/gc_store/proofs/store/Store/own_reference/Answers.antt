use Rattle.std.proofs.Common.{subst, arith}
use Rattle.gc_model.specs.Holds.{IsWord}
use Rattle.gc_model.proofs.AccountLemmas.{own_account}
use Rattle.gc_store.proofs.ReadValues.{null_word}
use Rattle.gc_store.proofs.store.Store.own_reference.Goals as goal

pub own_word-requires-clause-word : goal.own_word-requires-clause-word
own_word-requires-clause-word g c =
    let is = c.requires (omega (arith, c.if-word-eq0.false)) in
    let own = own_account g.H.GcHeap.KIND c.args.self.now is.table is.place is.holds in
    let after = c.trim_owned.ensures.holds is.table is.place own.0 (is.holds, own.1) in
    record { table = is.table; place = is.place; holds = after.0; root = is.root; is_word = is.is_word; not_null = is.not_null }

pub returns-then-word-eq0-clause-owns : goal.returns-then-word-eq0-clause-owns
returns-then-word-eq0-clause-owns g c t place a r there is =
    (null_word g.H.GcHeap.KIND c.args.self.now t place there.0 r (subst (IsWord place r) c.if-word-eq0.true is), record { place = place; holds = there.0; account = there.1 })

pub returns-in-Ok-clause-owns : goal.returns-in-Ok-clause-owns
returns-in-Ok-clause-owns g c t place a r there is =
    c.in-Ok.ensures.owns t place a r (c.trim_owned.ensures.holds t place a there) is

pub returns-in-Err-clause-owns : goal.returns-in-Err-clause-owns
returns-in-Err-clause-owns g c t place a r there is =
    c.in-Err.ensures.owns t place a r (c.trim_owned.ensures.holds t place a there) is
