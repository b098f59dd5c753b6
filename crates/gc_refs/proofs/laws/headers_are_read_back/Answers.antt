use Rattle.gc_refs.proofs.RoundTrips.{header_back}
use Rattle.gc_refs.proofs.laws.headers_are_read_back.Goals as goal

pub returns : goal.returns
returns c = header_back
