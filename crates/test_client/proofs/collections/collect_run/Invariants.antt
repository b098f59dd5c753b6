use Rattle.test_client.proofs.collections.collect_run.Given as goal

abbrev pub ghosts-run_whole : goal.ghosts-run_whole
ghosts-run_whole g a = record { name = a.blank.name; parts = a.blank.parts }
