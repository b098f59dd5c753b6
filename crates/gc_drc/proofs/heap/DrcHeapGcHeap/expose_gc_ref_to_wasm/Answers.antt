use Rattle.std.proofs.Common.{◌≡◌, sym, subst}
use Rattle.gc_heap.specs.Barriers.{CanUnname, exposed}
use Rattle.gc_drc.specs.Content.{counting_seen_in}
use Rattle.gc_drc.specs.States.{counting_seen_of}
use Rattle.gc_drc.proofs.BackingLemmas.{unchanged_exposed}
use Rattle.gc_drc.proofs.heap.DrcHeapGcHeap.expose_gc_ref_to_wasm.Goals as goal

pub show-requires-clause-named : goal.show-requires-clause-named
show-requires-clause-named c = (c.args.self.now.scopes, subst (λ b. CanUnname (counting_seen_of c.args.self.now.scopes b) c.args.gc_ref) c.in-Attached.is c.requires.named)

pub returns-in-Attached-clause-seen : goal.returns-in-Attached-clause-seen
returns-in-Attached-clause-seen c =
    let h = c.args.self.now in
    subst (λ b. counting_seen_in h.scopes c.show.new.self ≡ exposed (counting_seen_of h.scopes b) c.args.gc_ref) (sym c.in-Attached.is) (c.show.ensures.seen h.scopes)

pub returns-in_default-clause-seen : goal.returns-in_default-clause-seen
returns-in_default-clause-seen c = unchanged_exposed c.args.self.now.scopes c.args.self.now.backing c.args.gc_ref c.in_default.not-Attached
