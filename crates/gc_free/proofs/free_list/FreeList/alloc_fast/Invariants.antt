use Rattle.gc_free.proofs.free_list.FreeList.alloc_fast.Given as goal

abbrev pub ghosts-alloc : goal.ghosts-alloc
ghosts-alloc a = record { name = a.blank.name; parts = a.blank.parts }
