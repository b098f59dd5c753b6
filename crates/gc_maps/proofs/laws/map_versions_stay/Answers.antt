use Rattle.gc_lists.proofs.Standing.{named_still}
use Rattle.gc_maps.proofs.Staying.{map_stays}
use Rattle.gc_maps.proofs.laws.map_versions_stay.Goals as goal

pub returns : goal.returns
returns g c = λ s new t u more version ty m same keeps owned stands. record {
  reference = stands.reference;
  names = named_still s new t u more same owned version stands.reference stands.names;
  is = map_stays t u keeps stands.reference ty m stands.is;
}
