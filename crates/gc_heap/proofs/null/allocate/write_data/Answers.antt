use Rattle.std.proofs.Common.{◌+◌, ◌-◌, replicate, ap, ◌∙◌}
use Rattle.gc_view.specs.Bytes.{put_bytes}
use Rattle.gc_heap.proofs.NullMemoryLemmas.{told_data}
use Rattle.gc_heap.proofs.null.allocate.write_data.Goals as goal

pub returns-in-Some-clause-data_is : goal.returns-in-Some-clause-data_is
returns-in-Some-clause-data_is c =
    let after = c.fill_zero-in-Some.ensures.bytes ∙ ap (λ b. put_bytes b (c.args.place + 8 + 4) (replicate (c.args.size - 12) 0)) c.write_u32.ensures.bytes in
    told_data c.args.memory.now c.fill_zero-in-Some.new.self c.args.place c.args.size c.in-Some.word c.args.word c.in-Some.is c.requires.word c.requires.room after
