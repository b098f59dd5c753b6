use Rattle.gc_image.proofs.SectionLemmas.{behind_objects, no_count, no_objects}
use Rattle.gc_image.proofs.parse.read_image.Goals as goal

pub returns-in_default : goal.returns-in_default
returns-in_default c = λ x fits is.
    no_count c.args.lines.now c.read_head.new.lines x fits is c.if-not-read_head.ensures c.in_ok-types.types.items c.read_types.new.lines c.in_ok-types.ensures c.in_default.ensures

pub returns-in_default-2 : goal.returns-in_default-2
returns-in_default-2 c = λ x fits is.
    no_objects c.args.lines.now c.read_head.new.lines x fits is c.if-not-read_head.ensures c.in_ok-types.types.items c.read_types.new.lines c.read_count.new.lines c.in-Some.count c.in_ok-types.ensures c.in-Some.ensures.0
    c.in-Some.ensures.1 c.read_objects.new.lines (rw c.in_default-2.is at c.in_ok-objects.ensures)

pub returns-in_default-3 : goal.returns-in_default-3
returns-in_default-3 c = λ x fits is.
    let none = rw c.in_default-3.is at c.in_ok-globals.ensures in
    none x.globals fits.globals
    (behind_objects c.args.lines.now c.read_head.new.lines x fits is c.if-not-read_head.ensures c.in_ok-types.types.items c.read_types.new.lines c.read_count.new.lines c.in-Some.count c.in_ok-types.ensures c.in-Some.ensures.0
    c.in-Some.ensures.1 c.in-Some-2.objects.items c.read_objects.new.lines (rw c.in-Some-2.is at c.in_ok-objects.ensures)).1
