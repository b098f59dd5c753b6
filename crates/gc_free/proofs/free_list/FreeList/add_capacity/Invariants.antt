use Rattle.gc_free.proofs.free_list.FreeList.add_capacity.Given as goal

abbrev pub ghosts-grow : goal.ghosts-grow
ghosts-grow a = record { name = a.blank.name; parts = a.blank.parts }
