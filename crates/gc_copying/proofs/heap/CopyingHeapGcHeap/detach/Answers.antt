use Rattle.std.proofs.Common.{sym, ap, subst, arith}
use Rattle.gc_copying.specs.States.{IsCopyingBacked, copying_seen_of}
use Rattle.gc_copying.proofs.BackingLemmas.{attached, given_size}
use Rattle.gc_copying.proofs.heap.CopyingHeapGcHeap.detach.Goals as goal

pub detach-requires : goal.detach-requires
detach-requires c = attached c.args.self.now.scopes c.args.self.now.backing c.requires.attached

pub returns-clause-sound : goal.returns-clause-sound
returns-clause-sound c = record { backed = subst IsCopyingBacked (sym c.detach.ensures.detached) tt; scopes = omega arith }

pub returns-clause-seen : goal.returns-clause-seen
returns-clause-seen c = ap (copying_seen_of 0) c.detach.ensures.detached

pub returns-clause-size : goal.returns-clause-size
returns-clause-size c = given_size c.args.self.now.scopes c.args.self.now.backing c.detach.result c.detach.ensures.given
