use Rattle.std.proofs.Common.{◌≡◌, sym, subst}
use Rattle.gc_heap.specs.Barriers.{CanUnname, dropped}
use Rattle.gc_drc.specs.Content.{counting_seen_in}
use Rattle.gc_drc.specs.States.{counting_seen_of}
use Rattle.gc_drc.proofs.BackingLemmas.{unchanged_dropped}
use Rattle.gc_drc.proofs.heap.DrcHeap.unname.Goals as goal

pub unname-requires-clause-named : goal.unname-requires-clause-named
unname-requires-clause-named c = (c.args.self.now.scopes, subst (λ b. CanUnname (counting_seen_of c.args.self.now.scopes b) c.args.gc_ref.now) c.in-Attached.is c.requires.named)

pub returns-in-Attached-clause-seen : goal.returns-in-Attached-clause-seen
returns-in-Attached-clause-seen c =
    let h = c.args.self.now in
    subst (λ b. counting_seen_in h.scopes c.unname.new.self ≡ dropped (counting_seen_of h.scopes b) c.args.gc_ref.now) (sym c.in-Attached.is) (c.unname.ensures.seen h.scopes)

pub returns-in_default-clause-seen : goal.returns-in_default-clause-seen
returns-in_default-clause-seen c = unchanged_dropped c.args.self.now.scopes c.args.self.now.backing c.args.gc_ref.now c.in_default.not-Attached
