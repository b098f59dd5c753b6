use Rattle.std.proofs.Common.{◌≡◌, ◌<◌, ap, sym, ◌∙◌, subst, Some, Err}
use Rattle.gc_owner.specs.declared.entry.SlotEntry.{SlotEntry}
use Rattle.gc_model.specs.Table.{Table, Slot}
use Rattle.gc_model.specs.Globals.{global_at}
use Rattle.gc_model.specs.RootPoints.{SlotBy}
use Rattle.gc_model.specs.Stores.{StoreView}
use Rattle.gc_model.specs.Holds.{Holds, Placing}
use Rattle.gc_store.specs.declared.globals.SlotFault.{SlotFault}
use Rattle.gc_store.specs.Roots.{IsRootWord}
use Rattle.gc_store.specs.Slots.{ReadsSlot}
use Rattle.gc_store.proofs.SlotLemmas.{entry_of, global_stands, global_word, reads_slot, reads_no_root}
use Rattle.gc_store.proofs.store.Store.global_get.Given as given
use Rattle.gc_store.proofs.store.Store.global_get.Goals as goal
use Rattle.gc_store.proofs.store.Store.global_get.Goals.{After-global-class}

entry_is : (g : given.Over) (c : After-global-class g) → entry_of c.args.self.now.globals c.args.global ≡ c.global-class.result
entry_is g c = ap (λ (s : StoreView g.row.D.Denot). entry_of s.globals c.args.global) (sym c.self.view_is) ∙ sym c.global-class.ensures

-- the entry stands for the slot of a table that the store holds
stands : (g : given.Over) (c : After-global-class g) (t : Table g.row.D.Denot) (place : Placing) (slot : Slot) → Holds g.H.GcHeap.KIND c.args.self.now t place → global_at t c.args.global ≡ Some slot → SlotBy place c.global-class.result slot
stands g c t place slot holds there =
    subst (λ (e : SlotEntry). SlotBy place e slot) (entry_is g c) (global_stands g.H.GcHeap.KIND c.args.self.now t place holds c.args.global slot there)

pub push_reference-requires : goal.push_reference-requires
push_reference-requires g c = λ positive.
    let at = (goal.at.push_reference-requires g c).After-global-class in
    let holds = subst (λ (s : StoreView g.row.D.Denot). Holds g.H.GcHeap.KIND s c.self.invariant.table c.self.invariant.holds.place) c.self.view_is c.self.invariant.holds.holds in
    subst (λ (e : SlotEntry). IsRootWord g.row.D.Denot g.H.GcHeap.KIND c.args.self.now e.word) (entry_is g at)
    (global_word g.H.GcHeap.KIND c.args.self.now c.self.invariant.table c.self.invariant.holds.place holds c.args.global c.if-global-ge-GLOBAL_COUNT.false
    (subst (λ (e : SlotEntry). 0 < e.word) (sym (entry_is g at)) (positive)))

pub returns-in-Ok-clause-reads : goal.returns-in-Ok-clause-reads
returns-in-Ok-clause-reads g c = λ t a slot holds there.
    let at = (goal.at.returns-in-Ok-clause-reads g c).After-global-class in
    reads_slot g.H.GcHeap.KIND t a c.global-class.result slot c.args.self.now c.push_reference.new.self holds (stands g at t holds.place slot holds.holds there) c.in-Ok.found c.in-Ok.ensures.reads

pub returns-in-Err-clause-reads : goal.returns-in-Err-clause-reads
returns-in-Err-clause-reads g c = λ t a slot holds there.
    let at = (goal.at.returns-in-Err-clause-reads g c).After-global-class in
    subst (λ (f : SlotFault). ReadsSlot g.H.GcHeap.KIND t a slot (Err f) c.push_reference.new.self) (sym c.from.ensures)
    (reads_no_root g.H.GcHeap.KIND t a c.global-class.result slot c.args.self.now c.push_reference.new.self holds (stands g at t holds.place slot holds.holds there) c.in-Err.fault c.in-Err.ensures.reads)
