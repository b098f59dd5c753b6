use Rattle.std.proofs.Common.{Some, Ok, ap, sym, ◌∙◌, subst}
use Rattle.std.specs.Prelude.{Option}
use Rattle.gc_types.specs.declared.kind.VMGcKind.TheVariants as kinds
use Rattle.gc_values.specs.declared.root.GcRootIndex.{GcRootIndex}
use Rattle.gc_store.specs.RawWords.{PushesWord}
use Rattle.gc_objects.proofs.Pushed.{handle_kind}
use Rattle.gc_objects.proofs.WordLemmas.{taken_kind, word_positive}
use Rattle.gc_objects.proofs.marks.ExternRef.from_raw.Goals as goal

pub push_word-requires : goal.push_word-requires
push_word-requires g c = λ positive.
    let is = c.requires positive in
    record { table = is.table; place = is.place; holds = is.holds; root = is.root; is_word = is.is_word; not_null = positive }

pub returns-in-Ok-Some-clause-takes : goal.returns-in-Ok-Some-clause-takes
returns-in-Ok-Some-clause-takes g c t place a r there is =
    subst (λ (x : Option GcRootIndex). PushesWord g.H.GcHeap.KIND t place a r (Ok x) c.push_word.new.self)
    (c.in-Ok-Some.field-0-is ∙ ap Some (sym c.from_gc_root_index.ensures)) (c.in-Ok-Some.ensures.pushes t place a r there is)

pub from_gc_root_index-requires : goal.from_gc_root_index-requires
from_gc_root_index-requires g c =
    taken_kind g.row.D.Denot g.H.GcHeap.KIND c.args.store.now c.push_word.new.self kinds.ExternRef c.args.raw c.in-Ok-Some.root (c.requires (word_positive c.args.raw c.in-Ok-Some.field-0 _ c.in-Ok-Some.field-0-is c.in-Ok-Some.ensures.null))
    (λ t place a r there is. subst (λ (x : Option GcRootIndex). PushesWord g.H.GcHeap.KIND t place a r (Ok x) c.push_word.new.self) c.in-Ok-Some.field-0-is (c.in-Ok-Some.ensures.pushes t place a r there is))

pub returns-in-Ok-Some-clause-kind : goal.returns-in-Ok-Some-clause-kind
returns-in-Ok-Some-clause-kind g c =
    handle_kind g.H.GcHeap.KIND c.push_word.new.self kinds.ExternRef c.in-Ok-Some.root c.from_gc_root_index.result.index c.from_gc_root_index.ensures
    (taken_kind g.row.D.Denot g.H.GcHeap.KIND c.args.store.now c.push_word.new.self kinds.ExternRef c.args.raw c.in-Ok-Some.root (c.requires (word_positive c.args.raw c.in-Ok-Some.field-0 _ c.in-Ok-Some.field-0-is c.in-Ok-Some.ensures.null))
    (λ t place a r there is. subst (λ (x : Option GcRootIndex). PushesWord g.H.GcHeap.KIND t place a r (Ok x) c.push_word.new.self) c.in-Ok-Some.field-0-is (c.in-Ok-Some.ensures.pushes t place a r there is)))

pub returns-in-Ok-None-clause-takes : goal.returns-in-Ok-None-clause-takes
returns-in-Ok-None-clause-takes g c t place a r there is =
    subst (λ (x : Option GcRootIndex). PushesWord g.H.GcHeap.KIND t place a r (Ok x) c.push_word.new.self) c.in-Ok-None.field-0-is (c.in-Ok-None.ensures.pushes t place a r there is)

pub returns-in-Err-clause-takes : goal.returns-in-Err-clause-takes
returns-in-Err-clause-takes g c t place a r there is = c.in-Err.ensures.pushes t place a r there is
