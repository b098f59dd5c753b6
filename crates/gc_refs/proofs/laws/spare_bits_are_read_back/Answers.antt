use Rattle.gc_refs.proofs.RoundTrips.{spare_back, kind_stays}
use Rattle.gc_refs.proofs.laws.spare_bits_are_read_back.Goals as goal

pub returns-clause-spare : goal.returns-clause-spare
returns-clause-spare c = spare_back

pub returns-clause-kind : goal.returns-clause-kind
returns-clause-kind c = kind_stays
