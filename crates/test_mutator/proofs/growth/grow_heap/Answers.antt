use Rattle.std.proofs.Common.{◌*◌, ◌++◌, inl, inr, replicate, refl, sym, ap, ◌∙◌, ℕ}
use Rattle.std.proofs.lemmas.List.{append-nil}
use Rattle.test_mutator.proofs.growth.grow_heap.Goals as goal

pub replace_memory-requires : goal.replace_memory-requires
replace_memory-requires g c = record {
  taken = (g.H.GcHeap.seen c.args.heap.now, (c.take_memory-memory.result, (c.take_memory-memory.ensures.taken, c.in-Ok.ensures.grown ∙ ap (λ n. c.take_memory-memory.result ++ replicate {A = ℕ} (65536 * n) 0) (sym c.from.ensures), inr c.requires.open)));
}

pub replace_memory-requires-in-Err : goal.replace_memory-requires-in-Err
replace_memory-requires-in-Err g c = record {
  taken = (g.H.GcHeap.seen c.args.heap.now, (c.take_memory-memory.result, (c.take_memory-memory.ensures.taken, c.in-Err.ensures.kept ∙ sym (append-nil c.take_memory-memory.result), inl refl)));
}
