use Rattle.std.proofs.Common.{subst}
use Rattle.gc_copying.specs.States.{IsCopyingOut}
use Rattle.gc_copying.proofs.BackingLemmas.{low_of, puts_back}
use Rattle.gc_copying.proofs.heap.CopyingHeapGcHeap.replace_memory.Goals as goal

pub returns-clause-sound : goal.returns-clause-sound
returns-clause-sound c =
    let h = c.args.self.now in
    let view = c.requires.taken.0 in
    let bytes = c.requires.taken.1.0 in
    let t = c.requires.taken.1.1 in
    let out = subst (λ b. IsCopyingOut h.scopes b view bytes) c.in-Taken.is t.0.out in
    let w = c.with_memory.ensures in
    record {
      backed = (puts_back c.in-Taken.marks c.with_memory.result c.args.memory h.scopes c.args.delta_bytes_grown view bytes out t.1
          (low_of c.in-Taken.marks h.scopes c.args.delta_bytes_grown view bytes out t.2) w.space w.bound w.pages).sound;
      scopes = t.0.scopes;
    }

pub returns-clause-seen : goal.returns-clause-seen
returns-clause-seen c = λ view bytes taken grown_by.
    let h = c.args.self.now in
    let m = c.in-Taken.marks in
    let first = c.requires.taken.0 in
    let first_bytes = c.requires.taken.1.0 in
    let t = c.requires.taken.1.1 in
    let low = low_of m h.scopes c.args.delta_bytes_grown first first_bytes (subst (λ b. IsCopyingOut h.scopes b first first_bytes) c.in-Taken.is t.0.out) t.2 in
    let out = subst (λ b. IsCopyingOut h.scopes b view bytes) c.in-Taken.is taken.out in
    let w = c.with_memory.ensures in
    (puts_back m c.with_memory.result c.args.memory h.scopes c.args.delta_bytes_grown view bytes out grown_by low w.space w.bound w.pages).seen
