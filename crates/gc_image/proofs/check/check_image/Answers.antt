use Rattle.gc_image.proofs.WellLemmas.{no_text_well, ok_text_well}
use Rattle.gc_image.proofs.check.check_image.Goals as goal

pub returns-in-Some : goal.returns-in-Some
returns-in-Some c =
    let read = rw c.in-Some.is at c.in_ok-image.ensures in
    ok_text_well c.args.bytes.now c.in-Some.image c.is_image_well.result read.0 read.1 c.is_image_well.ensures

pub returns-in-None : goal.returns-in-None
returns-in-None c = no_text_well c.args.bytes.now (rw c.in-None.is at c.in_ok-image.ensures)
