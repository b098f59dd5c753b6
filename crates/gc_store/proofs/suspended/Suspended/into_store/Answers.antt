use Rattle.std.proofs.Common.{◌+◌, sym, subst}
use Rattle.gc_owner.specs.Owners.{Kind, heap_kind}
use Rattle.gc_store.specs.Suspensions.{SuspendedView}
use Rattle.gc_store.specs.Collectings.{IsOpen, IsClosed}
use Rattle.gc_store.proofs.Suspending.{ends_sound, gives_untouched, gives_ended, gives_closed}
use Rattle.gc_store.proofs.suspended.Suspended.into_store.Given.{Over}
use Rattle.gc_store.specs.Stores.{tables_of}
use Rattle.gc_store.proofs.suspended.Suspended.into_store.Goals as goal

abbrev kind : (g : Over) → Kind g.row.H.Denot g.row.H-State.Denot
kind g = heap_kind g.H.GcHeap.KIND g.H.GcHeap.seen g.H.GcHeap.sound g.H.GcHeap.under_way

abbrev Suspension : Over → Type 0
Suspension g = SuspendedView g.row.H.Denot g.row.H-State.Denot g.row.D.Denot

pub invariant_of-result : goal.invariant_of-result
invariant_of-result g c =
    ends_sound (kind g) c.self.inside.id c.self.inside.config (tables_of c.self.inside.interned c.self.inside.asked) c.self.inside.tries c.self.inside.slot_counts.items c.self.inside.owner c.finish.new.self c.self.inside.begun
    c.self.invariant c.finish.ensures.same c.finish.ensures.ended

pub returns : goal.returns
returns g c = record {
  untouched = λ old counted is_open.
      gives_untouched (kind g) c.self.inside.id c.self.inside.config (tables_of c.self.inside.interned c.self.inside.asked) c.self.inside.tries c.self.inside.slot_counts.items old c.self.inside.owner c.finish.new.self c.self.inside.begun counted
      c.self.invariant c.finish.ensures.same (subst (λ (x : Suspension g). IsOpen (kind g) old 0 counted x) (sym c.self.view_is) is_open);
  ended = λ old done counted is_open.
      gives_ended (kind g) c.self.inside.id c.self.inside.config (tables_of c.self.inside.interned c.self.inside.asked) c.self.inside.tries old done c.self.inside.owner c.finish.new.self c.self.inside.begun counted
      c.finish.ensures.idle c.finish.ensures.ended (subst (λ (x : Suspension g). IsOpen (kind g) old (done + 1) counted x) (sym c.self.view_is) is_open);
  over = λ old closed.
      gives_closed (kind g) c.self.inside.id c.self.inside.config (tables_of c.self.inside.interned c.self.inside.asked) c.self.inside.tries old c.self.inside.owner c.finish.new.self c.self.inside.begun
      c.finish.ensures.same (subst (λ (x : Suspension g). IsClosed (kind g) old x) (sym c.self.view_is) closed);
}
