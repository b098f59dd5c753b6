use Rattle.std.proofs.Common.{sym, ap, ◌∙◌, subst}
use Rattle.gc_values.specs.declared.root.GcRootIndex.{GcRootIndex}
use Rattle.gc_store.specs.Roots.{is_of_store, NamesReference, NamesNothing}
use Rattle.gc_rooted.proofs.rooted.RootedGcRef.ref_hash.Goals as goal

pub returns-clause-live : goal.returns-clause-live
returns-clause-live g c t place r holds names =
    c.hash_named.ensures.live t place r holds (subst (λ (h : GcRootIndex). NamesReference c.args.store.now t h r) (sym c.root_index.ensures) names)

pub returns-clause-gone : goal.returns-clause-gone
returns-clause-gone g c own t holds nothing =
    c.hash_named.ensures.gone (ap (is_of_store c.args.store.now) c.root_index.ensures ∙ own) t holds
    (subst (λ (h : GcRootIndex). NamesNothing c.args.store.now t h) (sym c.root_index.ensures) nothing)
