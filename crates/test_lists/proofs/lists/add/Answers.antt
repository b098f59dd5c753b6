use Rattle.test_lists.proofs.lists.add.Goals as goal
use Rattle.test_lists.proofs.Stays.{cons_stands, kit_in, list_of_in}

pub cons-requires-clause-stands : goal.cons-requires-clause-stands
cons-requires-clause-stands g c = λ kit_own. list_of_in g.H.GcHeap.KIND c.args.store.now c.args.kit.now c.args.list.now.root c.requires

pub cons-requires-clause-kit : goal.cons-requires-clause-kit
cons-requires-clause-kit g c = kit_in g.H.GcHeap.KIND c.args.store.now c.args.kit.now _ c.requires.1

pub returns : goal.returns
returns g c = cons_stands g.H.GcHeap.KIND c.args.store.now c.cons.new.store c.args.kit.now c.args.list.now.root c.requires _ _ _ c.cons.result c.cons.ensures.wrong_store c.cons.ensures.conses
