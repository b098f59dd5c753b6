use Rattle.std.proofs.Common.{Err, ap}
use Rattle.gc_heap.proofs.HostLemmas.{frees_removed, frees_none, only_fault}
use Rattle.gc_heap.proofs.hosts.free_host.Goals.{in-Ok, in-Err-BadHostDataId}
use Rattle.gc_heap.proofs.hosts.free_host.Goals as goal

pub returns-after-dealloc-clause-frees : goal.returns-after-dealloc-clause-frees
returns-after-dealloc-clause-frees g c = elim c.match-dealloc.branch [
  | in-Ok w ↦ frees_removed _ c.args.hosts.now.entries c.dealloc.new.self.entries c.in-Some.id c.args.raw c.in-Some.ensures.some w.in-Ok.ensures.removed
  | in-Err-BadHostDataId w ↦ frees_none _ c.args.hosts.now.entries c.dealloc.new.self.entries c.in-Some.id c.args.raw c.in-Some.ensures.some
      (ap (λ t. t.entries) w.in-Err-BadHostDataId.ensures.err) (w.in-Err-BadHostDataId.ensures.bad.0 (ap Err (only_fault w.in-Err-BadHostDataId.field-0)))
]
