use Rattle.gc_drc.proofs.WalkMemory.{garbage_room, garbage_kind, garbage_external, garbage_release, garbage_can_visit, garbage_freed}
use Rattle.gc_drc.proofs.space.CountedSpace.free_garbage.Goals as goal

pub free_host_of-requires-clause-room : goal.free_host_of-requires-clause-room
free_host_of-requires-clause-room g c = garbage_room _ _ c.args.self.now _ c.args.place c.requires

pub free_host_of-requires-clause-kind : goal.free_host_of-requires-clause-kind
free_host_of-requires-clause-kind g c = garbage_kind _ _ c.args.self.now _ c.args.place c.requires

pub free_host_of-requires-clause-external : goal.free_host_of-requires-clause-external
free_host_of-requires-clause-external g c = garbage_external _ _ c.args.self.now _ c.args.place c.requires

pub free_unlisted-requires : goal.free_unlisted-requires
free_unlisted-requires g c = garbage_release _ _ c.args.self.now _ c.args.place c.requires

pub visit_references-requires : goal.visit_references-requires
visit_references-requires g c =
    garbage_can_visit _ c.args.types.now.declarations c.args.hosts.now.entries c.free_host_of.new.hosts.entries c.args.self.now c.free_unlisted.new.self c.args.place c.requires
    c.free_host_of.ensures.frees c.free_unlisted.ensures.memory c.free_unlisted.ensures.freed

pub returns-clause-freed : goal.returns-clause-freed
returns-clause-freed g c o before places typed i q =
    garbage_freed _ o c.args.types.now.declarations before c.args.hosts.now.entries c.free_host_of.new.hosts.entries places c.args.self.now c.free_unlisted.new.self c.visit_references.new.self c.args.place
    c.requires.fresh c.free_host_of.ensures.frees c.free_unlisted.ensures.memory c.free_unlisted.ensures.freed c.visit_references.ensures typed i q
