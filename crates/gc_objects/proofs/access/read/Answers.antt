use Rattle.std.proofs.Common.{Ok, sym, subst}
use Rattle.gc_values.specs.declared.root.RawValue.{RawValue}
use Rattle.gc_store.specs.Values.{ReadsValue}
use Rattle.gc_objects.proofs.Reading.{is_given, value_kind}
use Rattle.gc_objects.proofs.access.read.Goals as goal

pub val_of-requires : goal.val_of-requires
val_of-requires g c = is_given g.H.GcHeap.KIND c.args.store.now c.read_value.new.self c.args.index c.args.root c.requires c.in-Ok.value c.in-Ok.ensures.reads

pub returns-in-Ok-clause-reads : goal.returns-in-Ok-clause-reads
returns-in-Ok-clause-reads g c t a x holds has =
    subst (λ (r : RawValue). ReadsValue g.H.GcHeap.KIND t a x (Ok r) c.read_value.new.self) (sym c.val_of.ensures) (c.in-Ok.ensures.reads t a x holds has)

pub returns-in-Ok-clause-kind : goal.returns-in-Ok-clause-kind
returns-in-Ok-clause-kind g c =
    value_kind g.H.GcHeap.KIND c.args.store.now c.read_value.new.self c.args.index c.args.root c.requires c.in-Ok.value c.in-Ok.ensures.reads c.val_of.result c.val_of.ensures
