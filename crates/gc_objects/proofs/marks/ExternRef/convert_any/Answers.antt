use Rattle.gc_types.specs.declared.kind.VMGcKind.TheVariants as kinds
use Rattle.gc_objects.specs.declared.marks.ExternRef.{ExternRef}
use Rattle.gc_objects.proofs.ExternLemmas.{copied_ok, copied_err, copied_kind}
use Rattle.gc_objects.proofs.Pushed.{handle_kind}
use Rattle.gc_objects.proofs.marks.ExternRef.convert_any.Goals as goal

pub returns-in-Ok-clause-converts : goal.returns-in-Ok-clause-converts
returns-in-Ok-clause-converts g c t a holds =
    copied_ok g.H.GcHeap.KIND c.args.store.now c.push_copy.new.self c.root_index.result c.push_copy.result c.push_copy.ensures.wrong_store c.push_copy.ensures.live c.push_copy.ensures.gone t a holds ExternRef c.args.any.index c.root_index.ensures c.in-Ok.root c.from_gc_root_index.result c.in-Ok.is c.from_gc_root_index.ensures

pub from_gc_root_index-requires : goal.from_gc_root_index-requires
from_gc_root_index-requires g c =
    copied_kind g.H.GcHeap.KIND c.args.store.now c.push_copy.new.self c.root_index.result c.push_copy.result c.push_copy.ensures.wrong_store c.push_copy.ensures.live c.push_copy.ensures.gone c.args.any.index c.root_index.ensures c.requires c.in-Ok.root c.in-Ok.is

pub returns-in-Ok-clause-kind : goal.returns-in-Ok-clause-kind
returns-in-Ok-clause-kind g c =
    handle_kind g.H.GcHeap.KIND c.push_copy.new.self kinds.ExternRef c.in-Ok.root c.from_gc_root_index.result.index c.from_gc_root_index.ensures
    (copied_kind g.H.GcHeap.KIND c.args.store.now c.push_copy.new.self c.root_index.result c.push_copy.result c.push_copy.ensures.wrong_store c.push_copy.ensures.live c.push_copy.ensures.gone c.args.any.index c.root_index.ensures c.requires c.in-Ok.root c.in-Ok.is)

pub returns-in-Err-clause-converts : goal.returns-in-Err-clause-converts
returns-in-Err-clause-converts g c t a holds =
    copied_err g.H.GcHeap.KIND c.args.store.now c.push_copy.new.self c.root_index.result c.push_copy.result c.push_copy.ensures.wrong_store c.push_copy.ensures.live c.push_copy.ensures.gone t a holds ExternRef c.args.any.index c.root_index.ensures c.in-Err.fault c.in-Err.is
