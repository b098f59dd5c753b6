use Rattle.test_objects.proofs.collections.run_counted.Given as goal

abbrev pub ghosts-count_store : goal.ghosts-count_store
ghosts-count_store g a = record { name = a.blank.name; parts = a.blank.parts }
