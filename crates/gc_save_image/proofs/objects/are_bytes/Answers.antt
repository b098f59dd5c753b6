use Rattle.gc_save_image.proofs.Lines.{all_small}
use Rattle.gc_save_image.proofs.objects.are_bytes.Goals as goal

pub returns : goal.returns
returns c = all_small c.args.bytes.now c.type_inv.bytes
