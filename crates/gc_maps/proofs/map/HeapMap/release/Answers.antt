use Rattle.gc_maps.specs.declared.map.HeapMap.{HeapMap}
use Rattle.gc_lists.proofs.Releasing.{same_root}
use Rattle.gc_maps.proofs.map.HeapMap.release.Goals as goal

pub returns-clause-releases : goal.returns-clause-releases
returns-clause-releases g c = λ t a holds. same_root (λ (version : HeapMap). version.root) c.args.self _ _ c.give_up.result (c.give_up.ensures.releases t a holds)
