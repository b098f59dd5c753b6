use Rattle.gc_free.specs.Space.{Space}
use Rattle.gc_free.proofs.JoinedBlocks.{join_kept}
use Rattle.gc_free.proofs.free_list.FreeList.join_held.Goals as goal

pub invariant_of-self : goal.invariant_of-self
invariant_of-self c =
    let s : Space = record { capacity = c.self.inside.capacity; held = c.self.inside.held.blocks; current = c.self.inside.current } in
    rw c.after-self-inside.ensures (join_kept c.args.first c.args.second s c.self.inside.others.runs c.self.inside.others.room c.self.inside.blocks c.self.invariant
    (rw (← c.self.view_is) at c.requires.first) (rw (← c.self.view_is) at c.requires.second) c.requires.touch (rw (← c.self.view_is) at c.requires.idle))

pub returns-clause-sound : goal.returns-clause-sound
returns-clause-sound c =
    let s : Space = record { capacity = c.self.inside.capacity; held = c.self.inside.held.blocks; current = c.self.inside.current } in
    rw c.after-self-inside.ensures (join_kept c.args.first c.args.second s c.self.inside.others.runs c.self.inside.others.room c.self.inside.blocks c.self.invariant
    (rw (← c.self.view_is) at c.requires.first) (rw (← c.self.view_is) at c.requires.second) c.requires.touch (rw (← c.self.view_is) at c.requires.idle)).sound
