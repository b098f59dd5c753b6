use Rattle.std.proofs.Common.{subst}
use Rattle.gc_values.specs.Words.{FindsOwned}
use Rattle.gc_store.proofs.OwningHandles.{unheld_none, none_none}
use Rattle.gc_store.proofs.owned.held_index.Goals as goal

pub returns-then-entries-index-eq0 : goal.returns-then-entries-index-eq0
returns-then-entries-index-eq0 c =
    unheld_none c.args.entries.now c.args.number c.in-Some.index c.requires.rising (subst (FindsOwned c.args.entries.now c.args.number) c.in-Some.is c.find_owned.ensures) c.if-entries-index-eq0.true

pub returns-in-None : goal.returns-in-None
returns-in-None c = none_none c.args.entries.now c.args.number (subst (FindsOwned c.args.entries.now c.args.number) c.in-None.is c.find_owned.ensures)
