use Rattle.gc_owner.specs.declared.entry.GcClass.TheVariants.{Any}
use Rattle.gc_store.proofs.ReadValues.{pushes_word}
use Rattle.gc_store.proofs.store.Store.push_word.Goals as goal

pub returns-clause-pushes : goal.returns-clause-pushes
returns-clause-pushes g c t place a r there is =
    pushes_word g.H.GcHeap.KIND t place a Any r c.push_reference.result c.push_reference.new.self (c.push_reference.ensures.reads t place a Any r there.0 there.1 is) (c.push_reference.ensures.there t place a Any r there is)
