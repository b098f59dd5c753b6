use Rattle.std.proofs.Common.{◌≡◌, sym, subst}
use Rattle.gc_heap.specs.Barriers.{CanName, cloned}
use Rattle.gc_drc.specs.Content.{counting_seen_in}
use Rattle.gc_drc.specs.States.{counting_seen_of}
use Rattle.gc_drc.proofs.BackingLemmas.{unchanged_cloned}
use Rattle.gc_drc.proofs.heap.DrcHeap.name.Goals as goal

pub name-requires-clause-named : goal.name-requires-clause-named
name-requires-clause-named c = (c.args.self.now.scopes, subst (λ b. CanName (counting_seen_of c.args.self.now.scopes b) c.args.gc_ref.now) c.in-Attached.is c.requires.named)

pub returns-in-Attached-clause-seen : goal.returns-in-Attached-clause-seen
returns-in-Attached-clause-seen c =
    let h = c.args.self.now in
    subst (λ b. counting_seen_in h.scopes c.name.new.self ≡ cloned (counting_seen_of h.scopes b) c.args.gc_ref.now) (sym c.in-Attached.is) (c.name.ensures.seen h.scopes)

pub returns-in_default-clause-seen : goal.returns-in_default-clause-seen
returns-in_default-clause-seen c = unchanged_cloned c.args.self.now.scopes c.args.self.now.backing c.args.gc_ref.now c.in_default.not-Attached
