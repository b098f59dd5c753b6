use Rattle.gc_maps.proofs.Staying.{map_stays}
use Rattle.gc_maps.proofs.laws.maps_stay.Goals as goal

pub returns : goal.returns
returns g c = λ t u r ty m keeps is. map_stays t u keeps r ty m is
