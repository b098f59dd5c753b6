use Rattle.std.proofs.Common.{sym, ap, ◌∙◌, subst}
use Rattle.gc_types.specs.declared.kind.VMGcKind.TheVariants as kinds
use Rattle.gc_values.specs.declared.root.GcRootIndex.{GcRootIndex}
use Rattle.gc_store.specs.Roots.{is_of_store, NamesReference, NamesNothing}
use Rattle.gc_objects.proofs.WordLemmas.{told_here}
use Rattle.gc_objects.proofs.marks.ExternRef.to_raw.Goals as goal

pub returns-clause-wrong_store : goal.returns-clause-wrong_store
returns-clause-wrong_store g c other = c.show_word.ensures.wrong_store (ap (is_of_store c.args.store.now) c.root_index.ensures ∙ other)

pub returns-clause-live : goal.returns-clause-live
returns-clause-live g c t place r holds names =
    c.show_word.ensures.live t place r holds (subst (λ (h : GcRootIndex). NamesReference c.args.store.now t h r) (sym c.root_index.ensures) names)

pub returns-clause-gone : goal.returns-clause-gone
returns-clause-gone g c own t holds nothing =
    c.show_word.ensures.gone (ap (is_of_store c.args.store.now) c.root_index.ensures ∙ own) t holds (subst (λ (h : GcRootIndex). NamesNothing c.args.store.now t h) (sym c.root_index.ensures) nothing)

pub returns-clause-kind : goal.returns-clause-kind
returns-clause-kind g c =
    told_here g.row.D.Denot g.H.GcHeap.KIND c.args.store.now c.show_word.new.self c.show_word.ensures.rest kinds.ExternRef c.root_index.result _ c.root_index.ensures c.requires
    c.show_word.result c.show_word.ensures.wrong_store c.show_word.ensures.live c.show_word.ensures.gone
