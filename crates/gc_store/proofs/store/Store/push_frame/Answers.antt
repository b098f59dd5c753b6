use Rattle.std.proofs.Common.{ℕ, List, ◌∷◌, [], ◌++◌, sym, ap, ◌∙◌, subst}
use Rattle.gc_model.specs.Stores.{StoreView}
use Rattle.gc_model.specs.Accounts.{HoldsAccount}
use Rattle.gc_store.proofs.FrameLemmas.{frame_was_pushed, sound_frame_pushed}
use Rattle.gc_store.specs.Stores.{tables_of}
use Rattle.gc_store.proofs.store.Store.push_frame.Goals as goal

pub invariant_of-self-2 : goal.invariant_of-self-2
invariant_of-self-2 g c =
    sound_frame_pushed g.H.GcHeap.KIND c.self.inside.id c.self.inside.config (tables_of c.self.inside.interned c.self.inside.asked) c.self.inside.tries c.self.inside.owner.seen c.push_frame.new.self.seen c.is_ready.ensures.frames c.args.slots c.in_ok-push_frame.ensures.ok
    c.self.inside.slot_counts.items c.push_reserved.new.self.items (c.push_reserved.ensures.items ∙ ap (λ (ns : List ℕ). ns ++ c.args.slots ∷ []) c.reserve.ensures.items) c.self.invariant

pub returns-clause-pushes : goal.returns-clause-pushes
returns-clause-pushes g c = λ t a holds.
    frame_was_pushed g.H.GcHeap.KIND c.self.inside.id c.self.inside.config (tables_of c.self.inside.interned c.self.inside.asked) c.self.inside.tries c.self.inside.owner.seen c.push_frame.new.self.seen c.is_ready.ensures.frames c.args.slots c.in_ok-push_frame.ensures.ok
    t a (subst (λ (s : StoreView g.row.D.Denot). HoldsAccount g.H.GcHeap.KIND s t a) (sym c.self.view_is) holds)
