use Rattle.std.proofs.Common.{◌+◌, refl, arith}
use Rattle.gc_copying.proofs.ScanLemmas.{field_inside, known_field, scans_field}
use Rattle.gc_copying.proofs.space.Space.scan_field.Goals as goal

pub overflow_add-at : goal.overflow_add-at
overflow_add-at g c =
    let inside = field_inside c.requires.start c.requires.place c.args.copy c.requires.from c.args.offset c.requires.left c.args.self.now c.requires.scanning in
    omega (arith, inside.0, inside.1, inside.2)

pub read_u32-reference-requires : goal.read_u32-reference-requires
read_u32-reference-requires g c =
    (field_inside c.requires.start c.requires.place c.args.copy c.requires.from c.args.offset c.requires.left c.args.self.now c.requires.scanning).3

pub forward-moved-requires : goal.forward-moved-requires
forward-moved-requires g c = record {
  start = c.requires.start;
  frontier = c.args.copy + c.requires.from;
  mid = c.requires.scanning.mid;
  known = known_field c.requires.start c.requires.place c.args.copy c.requires.from c.args.offset c.requires.left c.args.self.now c.read_u32-reference.result
      c.requires.scanning c.read_u32-reference.ensures;
}

pub write_u32-requires : goal.write_u32-requires
write_u32-requires g c =
    let known = known_field c.requires.start c.requires.place c.args.copy c.requires.from c.args.offset c.requires.left c.args.self.now c.read_u32-reference.result
    c.requires.scanning c.read_u32-reference.ensures in
    let after = c.forward-moved.ensures.moved c.requires.start (c.args.copy + c.requires.from) c.requires.scanning.mid known in
    let inside = field_inside c.requires.start c.requires.place c.args.copy c.requires.from c.args.offset c.requires.left c.args.self.now c.requires.scanning in
    omega (arith, inside.3, after.mid.same_length, c.requires.scanning.mid.same_length)

pub returns-clause-scanned : goal.returns-clause-scanned
returns-clause-scanned g c s p u left scan =
    scans_field s p c.args.copy u c.args.offset left c.args.self.now c.forward-moved.new.self _ c.read_u32-reference.result c.forward-moved.result
    c.forward-moved.ensures.moved c.read_u32-reference.ensures (omega (arith, c.forward-moved.type_inv)) c.write_u32.ensures.bytes refl refl refl scan
