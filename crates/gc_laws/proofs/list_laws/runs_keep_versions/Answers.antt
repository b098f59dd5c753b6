use Rattle.std.proofs.Common.{refl}
use Rattle.gc_lists.specs.Lists.{IsListOf}
use Rattle.gc_lists.proofs.Kept.{list_of_kept}
use Rattle.gc_maps.specs.Maps.{IsMap}
use Rattle.gc_maps.proofs.Staying.{map_stays}
use Rattle.gc_laws.proofs.OwnedKept.{named_same, version_kept}
use Rattle.gc_laws.proofs.StepKeeps.{run_keeps}
use Rattle.gc_laws.proofs.list_laws.runs_keep_versions.Goals as goal

pub returns-clause-roots : goal.returns-clause-roots
returns-clause-roots c = λ layouts limit store s u commands answers number r r' holds run before after. named_same layouts store s.table holds limit s u commands answers refl run number r r' before after

pub returns-clause-lists : goal.returns-clause-lists
returns-clause-lists c = λ layouts limit store new s u commands answers version ty xs r holds run stands names.
    version_kept layouts store s.table holds limit s u commands answers refl run new version r (IsListOf s.table.types s.table.objects ty xs) (IsListOf u.table.types u.table.objects ty xs)
    (λ q is. list_of_kept s.table u.table (run_keeps layouts limit s u commands answers run) ty xs q is) stands names

pub returns-clause-maps : goal.returns-clause-maps
returns-clause-maps c = λ layouts limit store new s u commands answers version ty m r holds run stands names.
    version_kept layouts store s.table holds limit s u commands answers refl run new version r (IsMap s.table.types s.table.objects ty m) (IsMap u.table.types u.table.objects ty m)
    (λ q is. map_stays s.table u.table (run_keeps layouts limit s u commands answers run) q ty m is) stands names
