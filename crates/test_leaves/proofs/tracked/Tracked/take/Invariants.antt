use Rattle.test_leaves.proofs.tracked.Tracked.take.Given as goal

abbrev pub ghosts-place : goal.ghosts-place
ghosts-place a = record { name = a.blank.name; parts = a.blank.parts }
