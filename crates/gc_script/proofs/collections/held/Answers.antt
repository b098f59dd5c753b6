use Rattle.std.proofs.Common.{refl}
use Rattle.gc_script.proofs.collections.held.Goals as goal

pub returns : goal.returns
returns g c = λ s kept. record {
  objects = c.held_objects.result;
  hosts = c.held_host_values.result;
  shows = refl;
  kept = record { objects_are = c.held_objects.ensures.kept s.table kept; hosts_are = c.held_host_values.ensures.kept s.table kept };
}
