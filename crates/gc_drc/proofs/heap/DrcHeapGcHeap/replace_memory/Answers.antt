use Rattle.std.proofs.Common.{◌∙◌, sym, subst}
use Rattle.gc_drc.specs.States.{IsCountingOut}
use Rattle.gc_drc.proofs.BackingLemmas.{puts_back}
use Rattle.gc_drc.proofs.heap.DrcHeapGcHeap.replace_memory.Goals as goal
use Rattle.gc_drc.proofs.BackingLemmas.{is_taken}

pub unreachable-requires : goal.unreachable-requires
unreachable-requires c =
    let h = c.args.self.now in
    let t = c.requires.taken.1.1 in
    is_taken h.scopes h.backing c.requires.taken.0 c.requires.taken.1.0 t.0.out (λ m e. c.in_default.not-Taken m (c.replace.ensures.value ∙ e))

pub returns-clause-sound : goal.returns-clause-sound
returns-clause-sound c =
    let h = c.args.self.now in
    let view = c.requires.taken.0 in
    let bytes = c.requires.taken.1.0 in
    let t = c.requires.taken.1.1 in
    let is = sym c.replace.ensures.value ∙ c.in-Taken.is in
    let out = subst (λ b. IsCountingOut h.scopes b view bytes) is t.0.out in
    let w = c.with_memory.ensures in
    record {
      backed = (puts_back c.in-Taken.marks c.with_memory.result c.args.memory h.scopes c.args.delta_bytes_grown view bytes out t.1 w.space w.grown w.sound w.pages w.bound).0;
      scopes = t.0.scopes;
    }

pub returns-clause-seen : goal.returns-clause-seen
returns-clause-seen c = λ view bytes taken grown_by.
    let h = c.args.self.now in
    let is = sym c.replace.ensures.value ∙ c.in-Taken.is in
    let out = subst (λ b. IsCountingOut h.scopes b view bytes) is taken.out in
    let w = c.with_memory.ensures in
    (puts_back c.in-Taken.marks c.with_memory.result c.args.memory h.scopes c.args.delta_bytes_grown view bytes out grown_by w.space w.grown w.sound w.pages w.bound).1
