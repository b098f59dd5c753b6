use Rattle.gc_lists.proofs.Kept.{list_kept}
use Rattle.gc_maps.proofs.Staying.{map_stays}
use Rattle.gc_laws.proofs.StepKeeps.{run_keeps}
use Rattle.gc_laws.proofs.list_laws.runs_keep_lists.Goals as goal

pub returns-clause-constants : goal.returns-clause-constants
returns-clause-constants c = λ layouts limit s u commands answers run. run_keeps layouts limit s u commands answers run

pub returns-clause-lists : goal.returns-clause-lists
returns-clause-lists c = λ layouts limit s u commands answers r xs run is. list_kept s.table u.table (run_keeps layouts limit s u commands answers run) xs r is

pub returns-clause-maps : goal.returns-clause-maps
returns-clause-maps c = λ layouts limit s u commands answers r ty m run is. map_stays s.table u.table (run_keeps layouts limit s u commands answers run) r ty m is
