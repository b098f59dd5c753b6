use Rattle.gc_drc.proofs.ReleaseLemmas.{can_release_queued, room_released, freed_first}
use Rattle.gc_drc.proofs.space.CountedSpace.free_queued.Goals as goal

pub release-requires : goal.release-requires
release-requires c = can_release_queued c.args.self.now c.args.place c.requires

pub link-self-requires : goal.link-self-requires
link-self-requires c = room_released c.args.self.now c.release.new.self c.args.place c.requires c.release.ensures

pub returns : goal.returns
returns c o v rest at is alone fresh =
    freed_first o v c.args.self.now c.release.new.self c.args.place c.link-self.result rest c.release.ensures c.link-self.ensures at is alone fresh
