use Rattle.std.proofs.Common.{Option, subst, refl, sym}
use Rattle.gc_model.specs.Holds.{IsWord}
use Rattle.gc_model.specs.Values.{Reference}
use Rattle.gc_values.specs.declared.root.GcRootIndex.{GcRootIndex}
use Rattle.gc_maps.specs.Parts.{NamesLink}
use Rattle.gc_maps.proofs.reading.word_of.Goals as goal

pub unreachable-requires : goal.unreachable-requires
unreachable-requires g c =
    let q = c.requires in
    c.in-Err.ensures.live q.table q.holds.0 q.is.reference q.holds.1 (subst (λ (r : Option GcRootIndex). NamesLink c.args.store.now q.table r q.is.reference) c.in-Some.is q.is.names)

pub returns-in-Ok : goal.returns-in-Ok
returns-in-Ok g c t place ty tree holds is = record {
  root = is.reference;
  is_word = c.in-Ok.ensures.live t place is.reference holds (subst (λ (r : Option GcRootIndex). NamesLink c.args.store.now t r is.reference) c.in-Some.is is.names);
  is = is.is;
}

pub returns-in-None : goal.returns-in-None
returns-in-None g c t place ty tree holds is = record {
  root = is.reference;
  is_word = subst (λ (r : Reference). IsWord place r 0) (sym (subst (λ (r : Option GcRootIndex). NamesLink c.args.store.now t r is.reference) c.in-None.is is.names)) refl;
  is = is.is;
}
