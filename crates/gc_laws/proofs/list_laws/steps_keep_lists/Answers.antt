use Rattle.gc_lists.proofs.Kept.{list_kept}
use Rattle.gc_maps.proofs.Staying.{map_stays}
use Rattle.gc_laws.proofs.StepKeeps.{step_keeps}
use Rattle.gc_laws.proofs.list_laws.steps_keep_lists.Goals as goal

pub returns-clause-constants : goal.returns-clause-constants
returns-clause-constants c = λ layouts limit s u command answer step. step_keeps layouts limit s u command answer step

pub returns-clause-lists : goal.returns-clause-lists
returns-clause-lists c = λ layouts limit s u command answer r xs step is. list_kept s.table u.table (step_keeps layouts limit s u command answer step) xs r is

pub returns-clause-maps : goal.returns-clause-maps
returns-clause-maps c = λ layouts limit s u command answer r ty m step is. map_stays s.table u.table (step_keeps layouts limit s u command answer step) r ty m is
