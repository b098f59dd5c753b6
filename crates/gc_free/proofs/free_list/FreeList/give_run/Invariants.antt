use Rattle.gc_free.proofs.free_list.FreeList.give_run.Given as goal

abbrev pub ghosts-give_back : goal.ghosts-give_back
ghosts-give_back a = record { name = a.blank.name; parts = a.blank.parts }
