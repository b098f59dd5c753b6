use Rattle.test_client.proofs.collections.run_collections.Given as goal

abbrev pub ghosts-collect_begun : goal.ghosts-collect_begun
ghosts-collect_begun g a = record { name = a.blank.name; parts = a.blank.parts }
