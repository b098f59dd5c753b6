use Rattle.std.proofs.Common.{refl}
use Rattle.gc_tables.proofs.InternLemmas.{interns-known, interns-new}
use Rattle.gc_tables.proofs.interner.Interner.intern.Goals as goal

pub returns-clause-ok : goal.returns-clause-ok
returns-clause-ok g c =
    interns-new c.args.self.now c.reserve.new.self _ c.args.value c.add.result
    c.reserve.ensures.entries (c.in_default.ensures.none.0 refl) c.add.ensures.fresh c.add.ensures.added

pub returns-in-Some-clause-ok : goal.returns-in-Some-clause-ok
returns-in-Some-clause-ok g c = interns-known _ c.args.value c.in-Some.id c.in-Some.ensures.some
