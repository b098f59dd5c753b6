use Rattle.std.proofs.Common.{inl, inr, refl, sym, ◌∙◌}
use Rattle.std.proofs.lemmas.List.{append-nil}
use Rattle.gc_owner.proofs.GrowthLemmas.{new_bytes}
use Rattle.gc_owner.proofs.pages.extend.Goals as goal

pub replace_memory-requires : goal.replace_memory-requires
replace_memory-requires g c = record {
  taken = (
    g.H.GcHeap.seen c.args.heap.now,
    (
      c.take_memory-memory.result,
      (
        c.take_memory-memory.ensures.taken,
        new_bytes c.take_memory-memory.result c.grow.new.self c.args.added c.from.result c.from.ensures c.in-Ok.ensures.grown,
        inr c.requires.ready,
      ),
    ),
  );
}

pub replace_memory-requires-in-Err : goal.replace_memory-requires-in-Err
replace_memory-requires-in-Err g c = record {
  taken = (
    g.H.GcHeap.seen c.args.heap.now,
    (
      c.take_memory-memory.result,
      (c.take_memory-memory.ensures.taken, c.in-Err.ensures.kept ∙ sym (append-nil c.take_memory-memory.result), inl refl),
    ),
  );
}
