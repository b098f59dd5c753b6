use Rattle.test_lists.proofs.maps.find.Given as goal

abbrev pub ghosts-find_by : goal.ghosts-find_by
ghosts-find_by g a = record { name = a.blank.name; parts = a.blank.parts }
