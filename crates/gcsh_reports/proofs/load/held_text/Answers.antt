use Rattle.std.proofs.Common.{List, ℕ, ◌++◌, ap, ◌∙◌}
use Rattle.gcsh_reports.specs.Loading.{held_line}
use Rattle.gcsh_reports.proofs.load.held_text.Goals as goal

pub returns : goal.returns
returns g c = λ t kept. record {
  objects = c.held_objects-objects.result;
  hosts = c.held_host_values-hosts.result;
  keeps = record { objects_are = c.held_objects-objects.ensures.kept t kept; hosts_are = c.held_host_values-hosts.ensures.kept t kept };
  text_is = c.in_ok-write.ensures.bytes ∙ ap (λ (front : List ℕ). front ++ held_line c.held_objects-objects.result c.held_host_values-hosts.result) c.new-text.ensures.bytes;
}
