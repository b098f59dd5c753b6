use Rattle.std.proofs.Common.{sym, subst}
use Rattle.gc_drc.specs.Placing.{CanPlaceAt}
use Rattle.gc_drc.proofs.MakeLemmas.{can_place}
use Rattle.gc_drc.proofs.space.CountedSpace.allocate_zeroed.Goals as goal

pub write_object-requires : goal.write_object-requires
write_object-requires c =
    let found = rw c.in-Ok-Ok.field-0-is at c.in-Ok-Ok.ensures in
    subst (CanPlaceAt c.take_block.new.self c.in-Ok-Ok.block.place) (sym found.1.0)
    (can_place c.args.self.now c.take_block.new.self c.in-Ok-Ok.block.place c.args.size c.requires.sound found.1.1 c.requires.least)
