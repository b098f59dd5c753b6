use Rattle.std.proofs.Common.{◌+◌, ◌-◌, List, ℕ, replicate, ap, ◌∙◌}
use Rattle.gc_view.specs.Bytes.{put_bytes}
use Rattle.gc_memory.proofs.ZeroLemmas.{ends_zeroed}
use Rattle.gc_memory.proofs.memory.HeapMemory.zero_ends.Goals as goal

pub returns-clause-bytes : goal.returns-clause-bytes
returns-clause-bytes g c =
    c.zero_bytes-2.ensures.bytes ∙ ap (λ (m : List ℕ). put_bytes m (c.args.at + c.args.count - g.row.N) (replicate g.row.N 0)) c.zero_bytes.ensures.bytes
    ∙ ends_zeroed c.args.self.now c.args.at g.row.N c.args.count c.requires.least c.requires.most c.requires.room
