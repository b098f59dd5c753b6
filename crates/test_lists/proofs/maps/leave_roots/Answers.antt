use Rattle.test_lists.proofs.maps.leave_roots.Goals as goal
use Rattle.test_lists.proofs.Stays.{still_pushed}

pub loop-root-preserved : goal.loop-root-preserved
loop-root-preserved g c = still_pushed g.H.GcHeap.KIND c.loop-root.store c.push_i31.new.self c.args.kit.now c.args.map.now.root c.loop-root.invariant c.push_i31.ensures.same _ c.push_i31.result c.push_i31.ensures.pushes
