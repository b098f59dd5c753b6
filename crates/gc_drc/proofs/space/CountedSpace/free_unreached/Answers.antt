use Rattle.gc_drc.proofs.UnreachedMemory.{third_marks, third_scans, third_frees, third_fresh, third_clears, third_ends}
use Rattle.gc_drc.proofs.space.CountedSpace.free_unreached.Goals as goal

pub mark_roots-requires : goal.mark_roots-requires
mark_roots-requires g c = third_marks c.args.types.now.declarations c.args.self.now c.args.roots.now.roots c.requires

pub scan_all-requires : goal.scan_all-requires
scan_all-requires g c =
    third_scans c.args.types.now.declarations c.args.self.now c.mark_roots.new.self c.mark_roots.new.reached.head c.mark_roots.new.reached.fresh c.args.roots.now.roots c.mark_roots.ensures c.requires

pub free_rest-requires-clause-can : goal.free_rest-requires-clause-can
free_rest-requires-clause-can g c =
    third_frees _ c.args.types.now.declarations c.args.self.now c.mark_roots.new.self c.scan_all.new.self c.mark_roots.new.reached.head c.mark_roots.new.reached.fresh c.scan_all.new.reached.head c.scan_all.new.reached.fresh c.args.roots.now.roots c.args.hosts.now.entries
    c.mark_roots.ensures c.scan_all.ensures.scanned c.scan_all.ensures.none c.requires

pub free_rest-requires-clause-fresh : goal.free_rest-requires-clause-fresh
free_rest-requires-clause-fresh g c =
    third_fresh c.args.types.now.declarations c.args.self.now c.mark_roots.new.self c.scan_all.new.self c.mark_roots.new.reached.head c.mark_roots.new.reached.fresh c.scan_all.new.reached.head
    c.scan_all.new.reached.fresh c.args.roots.now.roots c.mark_roots.ensures c.scan_all.ensures.scanned c.requires

pub clear_marks-requires : goal.clear_marks-requires
clear_marks-requires g c =
    third_clears _ c.args.types.now.declarations c.args.self.now c.mark_roots.new.self c.scan_all.new.self c.free_rest.new.self c.mark_roots.new.reached.head c.mark_roots.new.reached.fresh c.scan_all.new.reached.head c.scan_all.new.reached.fresh c.args.roots.now.roots
    c.args.hosts.now.entries c.free_rest.new.hosts.entries c.mark_roots.ensures c.scan_all.ensures.scanned c.scan_all.ensures.none c.free_rest.ensures.freed c.requires

pub returns-clause-frees : goal.returns-clause-frees
returns-clause-frees g c =
    third_ends _ c.args.types.now.declarations c.args.self.now c.mark_roots.new.self c.scan_all.new.self c.free_rest.new.self c.mark_roots.new.reached.head c.mark_roots.new.reached.fresh c.scan_all.new.reached.head c.scan_all.new.reached.fresh c.args.roots.now.roots
    c.args.hosts.now.entries c.free_rest.new.hosts.entries c.mark_roots.ensures c.scan_all.ensures.scanned c.scan_all.ensures.none c.free_rest.ensures.freed c.clear_marks.new.self c.clear_marks.ensures
