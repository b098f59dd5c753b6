use Rattle.std.proofs.Common.{ℕ, ◌<◌, sym, subst}
use Rattle.gc_model.specs.Stores.{StoreView}
use Rattle.gc_model.specs.Accounts.{HoldsAccount}
use Rattle.gc_store.proofs.FrameLemmas.{frame_was_popped, sound_frame_popped}
use Rattle.gc_store.specs.Stores.{tables_of}
use Rattle.gc_store.proofs.store.Store.pop_frame.Goals as goal

pub invariant_of-self-2 : goal.invariant_of-self-2
invariant_of-self-2 g c =
    let did = c.pop_frame.ensures.closed c.if-not-pop_frame.false in
    sound_frame_popped g.H.GcHeap.KIND c.self.inside.id c.self.inside.config (tables_of c.self.inside.interned c.self.inside.asked) c.self.inside.tries c.self.inside.owner.seen c.pop_frame.new.self.seen c.is_ready.ensures.frames did.0 did.1
    c.self.inside.slot_counts.items c.pop.new.self.items c.pop.result c.pop.ensures.items (λ positive. c.pop.ensures.variant.1 (subst (λ (n : ℕ). 0 < n) (sym c.self.inside.slot_counts.ok.0) positive)) c.self.invariant

pub returns-clause-pops : goal.returns-clause-pops
returns-clause-pops g c = λ t a holds.
    let did = c.pop_frame.ensures.closed c.if-not-pop_frame.false in
    frame_was_popped g.H.GcHeap.KIND c.self.inside.id c.self.inside.config (tables_of c.self.inside.interned c.self.inside.asked) c.self.inside.tries c.self.inside.owner.seen c.pop_frame.new.self.seen c.is_ready.ensures.frames did.0 did.1
    t a (subst (λ (s : StoreView g.row.D.Denot). HoldsAccount g.H.GcHeap.KIND s t a) (sym c.self.view_is) holds)
