use Rattle.gc_maps.proofs.Reaching.{map_nodes}
use Rattle.gc_maps.proofs.laws.maps_reach_their_nodes.Goals as goal

pub returns : goal.returns
returns g c = λ t r ty m is. map_nodes t.types t.objects ty m r is
