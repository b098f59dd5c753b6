use Rattle.gc_copying.proofs.heap.CopyingHeapGcHeap.step.Given as goal

abbrev pub ghosts-collect_alone : goal.ghosts-collect_alone
ghosts-collect_alone g a = record { name = a.blank.name; parts = a.blank.parts }
