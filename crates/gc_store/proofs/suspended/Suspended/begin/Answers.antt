use Rattle.std.proofs.Common.{◌≡◌, Bool, true, false, sym, ap, ◌∙◌, subst}
use Rattle.gc_owner.specs.Owners.{Kind, heap_kind}
use Rattle.gc_model.specs.Stores.{StoreView}
use Rattle.gc_store.specs.Suspensions.{SuspendedView, IsSuspended}
use Rattle.gc_store.specs.Collectings.{IsAsked}
use Rattle.gc_store.proofs.Suspending.{with_owner, waits_idle, begins_made, begins_unmade, asked_attached, runs}
use Rattle.gc_store.proofs.suspended.Suspended.begin.Given.{Over}
use Rattle.gc_store.proofs.suspended.Suspended.begin.Goals as goal
use Rattle.gc_store.specs.Stores.{tables_of}
use Rattle.gc_store.proofs.suspended.Suspended.begin.Goals.{After-is_made}

abbrev kind : (g : Over) → Kind g.row.H.Denot g.row.H-State.Denot
kind g = heap_kind g.H.GcHeap.KIND g.H.GcHeap.seen g.H.GcHeap.sound g.H.GcHeap.under_way

abbrev Suspension : Over → Type 0
Suspension g = SuspendedView g.row.H.Denot g.row.H-State.Denot g.row.D.Denot

pub is_made-requires : goal.is_made-requires
is_made-requires g c = record {
  idle =
      waits_idle (kind g) c.self.inside.id c.self.inside.config (tables_of c.self.inside.interned c.self.inside.asked) c.self.inside.tries c.self.inside.slot_counts.items
      (with_owner (kind g) c.self.inside.id c.self.inside.config (tables_of c.self.inside.interned c.self.inside.asked) c.self.inside.tries c.self.inside.owner c.self.inside.begun) c.self.invariant c.if-self.false;
}

-- it waits
waiting : (g : Over) (c : After-is_made g) → IsSuspended (kind g) c.self.inside.slot_counts.items (with_owner (kind g) c.self.inside.id c.self.inside.config (tables_of c.self.inside.interned c.self.inside.asked) c.self.inside.tries c.self.inside.owner false)
waiting g c = subst (λ (b : Bool). IsSuspended (kind g) c.self.inside.slot_counts.items (with_owner (kind g) c.self.inside.id c.self.inside.config (tables_of c.self.inside.interned c.self.inside.asked) c.self.inside.tries c.self.inside.owner b)) c.if-self.false c.self.invariant

-- what was asked for
asking : (g : Over) (c : After-is_made g) (old : StoreView g.row.D.Denot) → IsAsked (kind g) old c.args.self.now → IsAsked (kind g) old (with_owner (kind g) c.self.inside.id c.self.inside.config (tables_of c.self.inside.interned c.self.inside.asked) c.self.inside.tries c.self.inside.owner false)
asking g c old asked = subst (λ (b : Bool). IsAsked (kind g) old (with_owner (kind g) c.self.inside.id c.self.inside.config (tables_of c.self.inside.interned c.self.inside.asked) c.self.inside.tries c.self.inside.owner b)) c.if-self.false
    (subst (λ (x : Suspension g). IsAsked (kind g) old x) (sym c.self.view_is) asked)

-- the heap is made where that of the store was
made_alike : (g : Over) (c : After-is_made g) (old : StoreView g.row.D.Denot) → IsAsked (kind g) old c.args.self.now → c.self.inside.owner.seen.heap.attached ≡ old.heap.attached
made_alike g c old asked = asked_attached (kind g) c.self.inside.id c.self.inside.config (tables_of c.self.inside.interned c.self.inside.asked) c.self.inside.tries old c.self.inside.owner false (asking g c old asked)

pub invariant_of-self : goal.invariant_of-self
invariant_of-self g c =
    begins_made (kind g) c.self.inside.id c.self.inside.config (tables_of c.self.inside.interned c.self.inside.asked) c.self.inside.tries c.self.inside.slot_counts.items c.self.inside.owner c.begin_all.new.self
    (waiting g ((goal.at.invariant_of-self g c).After-is_made)) (sym c.is_made.ensures ∙ c.if-is_made.true) c.begin_all.ensures.going

pub invariant_of-self-else-is_made : goal.invariant_of-self-else-is_made
invariant_of-self-else-is_made g c =
    begins_unmade (kind g) c.self.inside.id c.self.inside.config (tables_of c.self.inside.interned c.self.inside.asked) c.self.inside.tries c.self.inside.slot_counts.items c.self.inside.owner (waiting g ((goal.at.invariant_of-self-else-is_made g c).After-is_made))

pub returns-then-is_made-clause-begins : goal.returns-then-is_made-clause-begins
returns-then-is_made-clause-begins g c = λ old asked made.
    runs (kind g) c.self.inside.id c.self.inside.config (tables_of c.self.inside.interned c.self.inside.asked) c.self.inside.tries old c.self.inside.owner c.begin_all.new.self
    (asking g ((goal.at.returns-then-is_made-clause-begins g c).After-is_made) old asked) made c.begin_all.ensures.going

pub returns-then-is_made-clause-unmade : goal.returns-then-is_made-clause-unmade
returns-then-is_made-clause-unmade g c = λ old asked unmade.
    let is = made_alike g ((goal.at.returns-then-is_made-clause-unmade g c).After-is_made) old asked in
    absurd (cc (is, unmade, c.is_made.ensures, c.if-is_made.true))

pub returns-else-is_made-clause-begins : goal.returns-else-is_made-clause-begins
returns-else-is_made-clause-begins g c = λ old asked made.
    let is = made_alike g ((goal.at.returns-else-is_made-clause-begins g c).After-is_made) old asked in
    absurd (cc (is, made, c.is_made.ensures, c.if-is_made.false))

pub returns-else-is_made-clause-unmade : goal.returns-else-is_made-clause-unmade
returns-else-is_made-clause-unmade g c = λ old asked unmade. ap (λ (x : Suspension g). record x { begun = true }) c.self.view_is

pub returns-else-is_made-clause-ticks : goal.returns-else-is_made-clause-ticks
returns-else-is_made-clause-ticks g c = λ old asked made.
    let is = made_alike g ((goal.at.returns-else-is_made-clause-ticks g c).After-is_made) old asked in
    absurd (cc (is, made, c.is_made.ensures, c.if-is_made.false))
