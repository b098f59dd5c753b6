use Rattle.gc_paths.proofs.Reaching.{walked_reached, reached_walked}
use Rattle.gc_paths.proofs.laws.reports_tell_what_is_kept.Goals as goal

pub returns : goal.returns
returns g c t place told p report = (λ c. walked_reached t p ((report.objects.all p).0 c), λ kept. (report.objects.all p).1 (reached_walked t p kept))
