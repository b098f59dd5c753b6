use Rattle.std.proofs.lemmas.Nat.{from_le_bytes-to_le_bytes_4, from_le_bytes-to_le_bytes_8}
use Rattle.gc_refs.proofs.LittleEndianLemmas.{from_le_bytes-to_le_bytes_16}
use Rattle.gc_refs.proofs.RoundTrips.{signed_back_32, signed_back_64}
use Rattle.gc_refs.proofs.laws.raw_values_are_read_back.Goals as goal

pub returns-clause-i32 : goal.returns-clause-i32
returns-clause-i32 c = signed_back_32

pub returns-clause-i64 : goal.returns-clause-i64
returns-clause-i64 c = signed_back_64

pub returns-clause-u32 : goal.returns-clause-u32
returns-clause-u32 c = from_le_bytes-to_le_bytes_4

pub returns-clause-u64 : goal.returns-clause-u64
returns-clause-u64 c = from_le_bytes-to_le_bytes_8

pub returns-clause-v128 : goal.returns-clause-v128
returns-clause-v128 c = from_le_bytes-to_le_bytes_16
