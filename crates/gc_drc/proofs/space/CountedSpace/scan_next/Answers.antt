use Rattle.gc_drc.proofs.TraceMemory.{scan_room, scan_can, scans, scan_less}
use Rattle.gc_drc.proofs.space.CountedSpace.scan_next.Goals as goal

pub link-reached-requires : goal.link-reached-requires
link-reached-requires c = scan_room _ c.args.self.now c.args.reached.now.head c.args.reached.now.fresh c.requires.can c.requires.some

pub visit_references-requires : goal.visit_references-requires
visit_references-requires c = scan_can c.args.types.now.declarations c.args.self.now c.args.reached.now.head c.args.reached.now.fresh c.link-reached.result c.requires.can c.requires.some c.link-reached.ensures

pub returns-clause-scanned : goal.returns-clause-scanned
returns-clause-scanned c o unscanned typed t =
    scans o unscanned c.args.types.now.declarations c.args.self.now c.visit_references.new.self c.args.reached.now.head c.args.reached.now.fresh c.link-reached.result c.visit_references.new.visitor.head c.visit_references.new.visitor.fresh c.requires.some c.link-reached.ensures
    c.visit_references.ensures typed t

pub returns-clause-less : goal.returns-clause-less
returns-clause-less c =
    scan_less c.args.types.now.declarations c.args.self.now c.visit_references.new.self c.args.reached.now.head c.args.reached.now.fresh c.link-reached.result c.visit_references.new.visitor.head c.visit_references.new.visitor.fresh c.requires.some c.link-reached.ensures
    c.visit_references.ensures c.requires.can
