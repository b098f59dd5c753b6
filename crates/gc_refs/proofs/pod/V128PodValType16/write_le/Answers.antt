use Rattle.std.proofs.Common.{◌∙◌, ap}
use Rattle.std.specs.Int.{w128, from_le_bytes}
use Rattle.gc_refs.proofs.LittleEndianLemmas.{from_le_bytes-to_le_bytes_16}
use Rattle.gc_refs.proofs.pod.V128PodValType16.write_le.Goals as goal

pub returns-clause-reads_back : goal.returns-clause-reads_back
returns-clause-reads_back c =
    ap (from_le_bytes w128) c.to_le_bytes.ensures ∙ from_le_bytes-to_le_bytes_16 c.as_u128.result c.as_u128.type_inv ∙ c.as_u128.ensures
