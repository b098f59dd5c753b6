use Rattle.test_client.proofs.collections.collect_dropped.Given as goal

abbrev pub ghosts-finish_after_one : goal.ghosts-finish_after_one
ghosts-finish_after_one g a = record { name = a.blank.name; parts = a.blank.parts }
