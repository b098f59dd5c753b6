use Rattle.std.proofs.Common.{◌∙◌, sym}
use Rattle.gc_maps.proofs.Visiting.{map_root_in, map_copied, map_refused}
use Rattle.gc_maps.proofs.map.HeapMap.copy_out.Goals as goal

pub copy_part-requires : goal.copy_part-requires
copy_part-requires g c = map_root_in g.H.GcHeap.KIND c.args.store.now c.args.self.now.root c.requires.stands (sym c.is_version_of.ensures ∙ c.if-not-is_version_of.false)

pub returns-in-Ok-clause-copies : goal.returns-in-Ok-clause-copies
returns-in-Ok-clause-copies g c own t a m holds stands =
    map_copied g.H.GcHeap.KIND c.args.store.now c.args.self.now.root c.new-entries.result.items c.copy_part.new.entries.items c.new-entries.ensures.items c.copy_part.new.store t a stands.0 m holds stands.1
    c.in-Ok.ensures.copies

pub returns-in-Err-clause-copies : goal.returns-in-Err-clause-copies
returns-in-Err-clause-copies g c own t a m holds stands =
    map_refused g.H.GcHeap.KIND c.args.store.now c.args.self.now.root c.new-entries.result.items c.copy_part.new.entries.items c.new-entries.ensures.items c.copy_part.new.store t a stands.0 m holds stands.1
    c.in-Err.fault c.in-Err.ensures.copies
