use Rattle.gc_free.proofs.free_list.FreeList.run_at.Given as goal

abbrev pub ghosts-length_at : goal.ghosts-length_at
ghosts-length_at a = record { name = a.blank.name; parts = a.blank.parts }
