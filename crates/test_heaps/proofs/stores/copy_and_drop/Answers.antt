use Rattle.std.proofs.Common.{arith, refl}
use Rattle.test_heaps.proofs.NameLemmas.{after_clone, after_drop, can_unname_as}
use Rattle.test_heaps.proofs.stores.copy_and_drop.Goals as goal

pub drop-requires : goal.drop-requires
drop-requires g c =
    let place = g.R.RefBarriers.word c.args.r.now in
    let twice = after_clone c.args.store.now c.clone-copy.new.store place 1 place c.requires refl c.clone-copy.ensures.store in
    record { named = can_unname_as c.clone-copy.new.store.heap place (g.R.RefBarriers.word c.clone-copy.result) 2 twice c.clone-copy.ensures.value (omega arith) }

pub returns : goal.returns
returns g c =
    let place = g.R.RefBarriers.word c.args.r.now in
    let twice = after_clone c.args.store.now c.clone-copy.new.store place 1 place c.requires refl c.clone-copy.ensures.store in
    after_drop c.clone-copy.new.store c.drop.new.store place 2 (g.R.RefBarriers.word c.clone-copy.result) twice c.clone-copy.ensures.value c.drop.ensures.store
