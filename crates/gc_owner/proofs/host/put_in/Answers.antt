use Rattle.gc_owner.proofs.HostLemmas.{not_put}
use Rattle.gc_owner.proofs.host.put_in.Goals as goal

pub returns-in-Err : goal.returns-in-Err
returns-in-Err g c = not_put c.args.value c.args.hosts.now.entries c.alloc.new.self.entries c.in-Err.fault c.in-Err.ensures.full c.in-Err.ensures.returned c.in-Err.ensures.err
