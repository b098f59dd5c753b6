use Rattle.std.proofs.Common.{arith, refl}
use Rattle.gc_free.specs.Space.{Space}
use Rattle.gc_free.proofs.Keeping.{give_kept}
use Rattle.gc_free.proofs.free_list.FreeList.give_back.Goals as goal

pub set_free-self-inside-requires-clause-fits : goal.set_free-self-inside-requires-clause-fits
set_free-self-inside-requires-clause-fits g c =
    (give_kept c.args.block (record { capacity = c.self.inside.capacity; held = c.self.inside.held.blocks; current = c.self.inside.current }) c.self.inside.others.runs c.self.inside.others.room c.self.inside.blocks c.self.invariant (rw (← c.self.view_is) at c.requires.held)).fits

pub set_free-self-inside-requires-clause-current_fits : goal.set_free-self-inside-requires-clause-current_fits
set_free-self-inside-requires-clause-current_fits g c =
    (give_kept c.args.block (record { capacity = c.self.inside.capacity; held = c.self.inside.held.blocks; current = c.self.inside.current }) c.self.inside.others.runs c.self.inside.others.room c.self.inside.blocks c.self.invariant (rw (← c.self.view_is) at c.requires.held)).current_fits

pub set_free-self-inside-requires-clause-after_fits : goal.set_free-self-inside-requires-clause-after_fits
set_free-self-inside-requires-clause-after_fits g c =
    (give_kept c.args.block (record { capacity = c.self.inside.capacity; held = c.self.inside.held.blocks; current = c.self.inside.current }) c.self.inside.others.runs c.self.inside.others.room c.self.inside.blocks c.self.invariant (rw (← c.self.view_is) at c.requires.held)).after_fits

pub set_free-self-inside-requires-clause-spread : goal.set_free-self-inside-requires-clause-spread
set_free-self-inside-requires-clause-spread g c =
    (give_kept c.args.block (record { capacity = c.self.inside.capacity; held = c.self.inside.held.blocks; current = c.self.inside.current }) c.self.inside.others.runs c.self.inside.others.room c.self.inside.blocks c.self.invariant (rw (← c.self.view_is) at c.requires.held)).spread

pub set_free-self-inside-requires-clause-room : goal.set_free-self-inside-requires-clause-room
set_free-self-inside-requires-clause-room g c =
    (give_kept c.args.block (record { capacity = c.self.inside.capacity; held = c.self.inside.held.blocks; current = c.self.inside.current }) c.self.inside.others.runs c.self.inside.others.room c.self.inside.blocks c.self.invariant (rw (← c.self.view_is) at c.requires.held)).has_room

pub invariant_of-self : goal.invariant_of-self
invariant_of-self g c =
    let s : Space = record { capacity = c.self.inside.capacity; held = c.self.inside.held.blocks; current = c.self.inside.current } in
    let k = give_kept c.args.block s c.self.inside.others.runs c.self.inside.others.room c.self.inside.blocks c.self.invariant (rw (← c.self.view_is) at c.requires.held) in
    rw (c.after-self-inside.ensures, c.set_free-self-inside.ensures.current, c.set_free-self-inside.ensures.others, k.current_is) (k.kept c.set_free-self-inside.new.others.room c.set_free-self-inside.ensures.room)

pub returns-clause-given : goal.returns-clause-given
returns-clause-given g c =
    let s : Space = record { capacity = c.self.inside.capacity; held = c.self.inside.held.blocks; current = c.self.inside.current } in
    let k = give_kept c.args.block s c.self.inside.others.runs c.self.inside.others.room c.self.inside.blocks c.self.invariant (rw (← c.self.view_is) at c.requires.held) in
    rw (← c.self.view_is, c.after-self-inside.ensures, c.set_free-self-inside.ensures.current, k.current_is) refl

pub returns-clause-sound : goal.returns-clause-sound
returns-clause-sound g c =
    let s : Space = record { capacity = c.self.inside.capacity; held = c.self.inside.held.blocks; current = c.self.inside.current } in
    let k = give_kept c.args.block s c.self.inside.others.runs c.self.inside.others.room c.self.inside.blocks c.self.invariant (rw (← c.self.view_is) at c.requires.held) in
    rw (c.after-self-inside.ensures, c.set_free-self-inside.ensures.current, k.current_is) (k.kept c.self.inside.others.room (omega arith)).sound
