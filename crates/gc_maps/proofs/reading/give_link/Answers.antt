use Rattle.std.proofs.Common.{Option, sym, Ok, Err, subst}
use Rattle.gc_owner.specs.declared.entry.GcClass.TheVariants.{Any}
use Rattle.gc_model.specs.Values.{reference}
use Rattle.gc_model.proofs.AccountLemmas.{own_account}
use Rattle.gc_values.specs.declared.root.GcRootIndex.{GcRootIndex}
use Rattle.gc_lists.specs.declared.fault.ListFault.{ListFault}
use Rattle.gc_maps.specs.Ends.{EndsReading}
use Rattle.gc_maps.specs.FoundNodes.{GivesLink}
use Rattle.gc_maps.proofs.Values.{link_given, link_refused}
use Rattle.gc_maps.proofs.reading.give_link.Goals as goal

pub returns-in-Ok-clause-reads : goal.returns-in-Ok-clause-reads
returns-in-Ok-clause-reads g c t place r holds stands =
    let s = c.args.store.now in
    let new = c.give_found.new.self in
    let own = own_account g.H.GcHeap.KIND s t place holds in
    subst (λ (link : Option GcRootIndex). EndsReading g.H.GcHeap.KIND 1 t (GivesLink g.H.GcHeap.KIND place r) (Ok link) new) (sym c.handle.ensures)
    (link_given g.H.GcHeap.KIND s t place own.0 (record { place = place; holds = holds; account = own.1 }) new r c.in-Ok.value
    (c.in-Ok.ensures.reads t place own.0 (reference Any r) holds own.1 stands) (c.in-Ok.ensures.there t place own.0 (reference Any r) (holds, own.1) stands))

pub returns-in-Err-clause-reads : goal.returns-in-Err-clause-reads
returns-in-Err-clause-reads g c t place r holds stands =
    let s = c.args.store.now in
    let new = c.give_found.new.self in
    let own = own_account g.H.GcHeap.KIND s t place holds in
    subst (λ (f : ListFault). EndsReading {A = Option GcRootIndex} g.H.GcHeap.KIND 1 t (GivesLink g.H.GcHeap.KIND place r) (Err f) new) (sym c.refused.ensures)
    (link_refused g.H.GcHeap.KIND s t place own.0 (record { place = place; holds = holds; account = own.1 }) new r c.in-Err.fault
    (c.in-Err.ensures.reads t place own.0 (reference Any r) holds own.1 stands))
