use Rattle.test_lists.proofs.lists.rest.Goals as goal
use Rattle.test_lists.proofs.Stays.{list_in, tail_stands}

pub tail-requires : goal.tail-requires
tail-requires g c = record { stands = list_in g.H.GcHeap.KIND c.args.store.now c.args.kit.now c.args.list.now.root c.requires }

pub returns : goal.returns
returns g c = tail_stands g.H.GcHeap.KIND c.args.store.now c.tail.new.store c.args.kit.now c.args.list.now.root c.requires c.tail.result c.tail.ensures.wrong_store c.tail.ensures.tails
