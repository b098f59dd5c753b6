use Rattle.gc_copying.proofs.BackingLemmas.{attached, hands_out}
use Rattle.gc_copying.proofs.heap.CopyingHeapGcHeap.take_memory.Goals as goal

pub take-requires : goal.take-requires
take-requires c = attached c.args.self.now.scopes c.args.self.now.backing c.requires.attached

pub returns-clause-taken : goal.returns-clause-taken
returns-clause-taken c =
    let h = c.args.self.now in
    record { out = (hands_out h.scopes h.backing c.take.new.self c.take.result c.requires.sound.backed c.take.ensures).out; scopes = c.requires.sound.scopes }

pub returns-clause-size : goal.returns-clause-size
returns-clause-size c =
    let h = c.args.self.now in
    (hands_out h.scopes h.backing c.take.new.self c.take.result c.requires.sound.backed c.take.ensures).size

pub returns-clause-none : goal.returns-clause-none
returns-clause-none c =
    let h = c.args.self.now in
    (hands_out h.scopes h.backing c.take.new.self c.take.result c.requires.sound.backed c.take.ensures).none
