use Rattle.gc_image.proofs.SectionLemmas.{head_told}
use Rattle.gc_image.proofs.sections.read_head.Goals as goal

pub returns-in-Some : goal.returns-in-Some
returns-in-Some c = head_told c.is_head.result c.args.lines.now c.next.new.self c.in-Some.line.now c.in-Some.ensures c.is_head.ensures
