use Rattle.std.proofs.Common.{◌<◌, false, Option, sym, ap, ◌∙◌, is_none, subst}
use Rattle.gc_owner.specs.Going.{left_of}
use Rattle.gc_owner.specs.Owners.{OwnerValue}
use Rattle.gc_owner.proofs.IncrementLemmas.{going, is_listed, way_goes, can_settle, settled_order, settled_way, settled_none, settled_some}
use Rattle.gc_owner.proofs.owner.HeapOwner.increment.Goals as goal

pub step_in-progress-requires : goal.step_in-progress-requires
step_in-progress-requires g c = is_listed g.H.GcHeap.KIND g.H.GcHeap.seen g.H.GcHeap.sound g.H.GcHeap.under_way c.self.inside.heap c.self.inside.types c.self.inside.hosts.entries c.self.inside.roots c.self.inside.last c.self.inside.state c.in-Some.state (sym c.take.ensures.value ∙ c.in-Some.is) c.self.inside.heap c.self.inside.hosts.entries c.self.inside.roots c.in-Some.state false c.self.invariant

pub settle-requires : goal.settle-requires
settle-requires g c =
    let at = going g.H.GcHeap.KIND g.H.GcHeap.seen g.H.GcHeap.sound g.H.GcHeap.under_way c.self.inside.heap c.self.inside.types c.self.inside.hosts.entries c.self.inside.roots c.self.inside.last c.self.inside.state c.in-Some.state (sym c.take.ensures.value ∙ c.in-Some.is) c.step_in-progress.new.heap c.step_in-progress.new.hosts.entries c.step_in-progress.new.roots c.step_in-progress.new.state false c.self.invariant in
    can_settle g.H.GcHeap.KIND g.H.GcHeap.seen g.H.GcHeap.sound g.H.GcHeap.under_way c.self.inside.heap c.self.inside.types c.self.inside.hosts.entries c.self.inside.roots c.self.inside.last c.self.inside.state c.in-Some.state (sym c.take.ensures.value ∙ c.in-Some.is) c.step_in-progress.new.heap c.step_in-progress.new.hosts.entries c.step_in-progress.new.roots c.step_in-progress.new.state false c.step_in-progress.result at.0 at.1.0 at.1.1.0 at.1.1.1 (c.step_in-progress.ensures.step at.0 at.1.0 at.1.1.0 at.1.1.1.listed at.1.1.1.listed_is at.1.1.1.goes)

pub invariant_of-self : goal.invariant_of-self
invariant_of-self g c =
    let at = going g.H.GcHeap.KIND g.H.GcHeap.seen g.H.GcHeap.sound g.H.GcHeap.under_way c.self.inside.heap c.self.inside.types c.self.inside.hosts.entries c.self.inside.roots c.self.inside.last c.self.inside.state c.in-Some.state (sym c.take.ensures.value ∙ c.in-Some.is) c.step_in-progress.new.heap c.step_in-progress.new.hosts.entries c.step_in-progress.new.roots c.step_in-progress.new.state false c.self.invariant in
    settled_order g.H.GcHeap.KIND g.H.GcHeap.seen g.H.GcHeap.sound g.H.GcHeap.under_way c.self.inside.heap c.self.inside.types c.self.inside.hosts.entries c.self.inside.roots c.self.inside.last c.self.inside.state c.in-Some.state (sym c.take.ensures.value ∙ c.in-Some.is) c.step_in-progress.new.heap c.step_in-progress.new.hosts.entries c.step_in-progress.new.roots c.step_in-progress.new.state false c.step_in-progress.result c.settle.new.roots c.settle.new.last c.settle.result c.settle.ensures g.met.H.GcHeap.is_heap at.0 at.1.0 at.1.1.0 at.1.1.1 (c.step_in-progress.ensures.step at.0 at.1.0 at.1.1.0 at.1.1.1.listed at.1.1.1.listed_is at.1.1.1.goes)

pub returns-in-Some-clause-goes : goal.returns-in-Some-clause-goes
returns-in-Some-clause-goes g c = λ s n d begun way.
    let w = way_goes g.H.GcHeap.KIND g.H.GcHeap.seen g.H.GcHeap.sound g.H.GcHeap.under_way c.self.inside.heap c.self.inside.types c.self.inside.hosts.entries c.self.inside.roots c.self.inside.last c.self.inside.state c.in-Some.state (sym c.take.ensures.value ∙ c.in-Some.is) c.step_in-progress.new.heap c.step_in-progress.new.hosts.entries c.step_in-progress.new.roots c.step_in-progress.new.state false s n d begun c.args.self.now c.self.view_is way in
    settled_way g.H.GcHeap.KIND g.H.GcHeap.seen g.H.GcHeap.sound g.H.GcHeap.under_way c.self.inside.heap c.self.inside.types c.self.inside.hosts.entries c.self.inside.roots c.self.inside.last c.self.inside.state c.in-Some.state (sym c.take.ensures.value ∙ c.in-Some.is) c.step_in-progress.new.heap c.step_in-progress.new.hosts.entries c.step_in-progress.new.roots c.step_in-progress.new.state false c.step_in-progress.result c.settle.new.roots c.settle.new.last c.settle.result c.settle.ensures g.met.H.GcHeap.is_heap s n d begun c.args.self.now c.self.view_is way (c.step_in-progress.ensures.step s n d w.listed w.listed_is w.goes) c.step_in-progress.ensures.values

pub returns-in-Some-clause-complete : goal.returns-in-Some-clause-complete
returns-in-Some-clause-complete g c = λ is. ap is_none (settled_none c.step_in-progress.new.state (g.H.GcHeap.seen c.step_in-progress.new.heap).allocated c.step_in-progress.new.roots c.settle.new.roots c.self.inside.last c.settle.new.last c.settle.result c.step_in-progress.result c.settle.ensures is)

pub returns-in-Some-clause-less : goal.returns-in-Some-clause-less
returns-in-Some-clause-less g c = λ is.
    subst (λ (v : OwnerValue g.row.H.Denot g.row.H-State.Denot g.row.D.Denot). left_of g.H.GcHeap.left c.step_in-progress.new.heap c.settle.result < left_of g.H.GcHeap.left v.heap v.state) c.self.view_is
    (subst (λ (o : Option g.row.H-State.Denot). left_of g.H.GcHeap.left c.step_in-progress.new.heap o < left_of g.H.GcHeap.left c.self.inside.heap c.self.inside.state)
    (sym (settled_some c.step_in-progress.new.state (g.H.GcHeap.seen c.step_in-progress.new.heap).allocated c.step_in-progress.new.roots c.settle.new.roots c.self.inside.last c.settle.new.last c.settle.result c.step_in-progress.result c.settle.ensures is))
    (subst (λ (o : Option g.row.H-State.Denot). g.H.GcHeap.left c.step_in-progress.new.heap c.step_in-progress.new.state < left_of g.H.GcHeap.left c.self.inside.heap o)
    (sym (sym c.take.ensures.value ∙ c.in-Some.is)) (c.step_in-progress.ensures.less is)))
