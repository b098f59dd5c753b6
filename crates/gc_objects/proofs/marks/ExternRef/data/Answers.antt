use Rattle.gc_objects.specs.Hosts.{TellsHostValue}
use Rattle.gc_objects.proofs.ExternLemmas.{asked_here}
use Rattle.gc_objects.proofs.marks.ExternRef.data.Goals as goal

pub returns : goal.returns
returns g c t holds =
    asked_here g.H.GcHeap.KIND c.args.store.now c.root_index.result (g.R.RootedGcRef.index c.args.this.now) c.root_index.ensures TellsHostValue c.host_data.result c.host_data.ensures.wrong_store c.host_data.ensures.live c.host_data.ensures.gone t holds
