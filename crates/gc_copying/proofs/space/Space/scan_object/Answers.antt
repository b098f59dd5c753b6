use Rattle.std.proofs.Common.{arith}
use Rattle.gc_copying.proofs.MoreBytes.{size_read}
use Rattle.gc_copying.proofs.WorkLemmas.{can_scan, size_inside, next_copy_by}
use Rattle.gc_copying.proofs.space.Space.scan_object.Goals as goal

pub read_u32-size-requires : goal.read_u32-size-requires
read_u32-size-requires g c =
    omega (arith, (size_inside c.requires.work.start c.args.self.now c.args.copy c.requires.work.n c.requires.work.fields c.requires.work.work c.requires.less).0)

pub scan_references-requires : goal.scan_references-requires
scan_references-requires g c = can_scan c.args.types.now.declarations c.args.self.now c.args.copy c.requires.work c.requires.less

pub overflow_add-result : goal.overflow_add-result
overflow_add-result g c =
    let inside = size_inside c.requires.work.start c.args.self.now c.args.copy c.requires.work.n c.requires.work.fields c.requires.work.work c.requires.less in
    omega (arith, size_read c.args.self.now.memory c.args.copy c.read_u32-size.result c.read_u32-size.ensures, inside.1, inside.3)

pub returns-clause-scanned : goal.returns-clause-scanned
returns-clause-scanned g c s n fields types work =
    next_copy_by c.args.types.now.declarations s c.args.self.now c.scan_references.new.self c.args.copy n fields c.read_u32-size.result types work c.requires.less
    c.read_u32-size.ensures (c.scan_references.ensures.scanned s) c.scan_references.ensures.sides

pub returns-clause-behind : goal.returns-clause-behind
returns-clause-behind g c =
    let inside = size_inside c.requires.work.start c.args.self.now c.args.copy c.requires.work.n c.requires.work.fields c.requires.work.work c.requires.less in
    omega (arith, size_read c.args.self.now.memory c.args.copy c.read_u32-size.result c.read_u32-size.ensures, inside.2)
