use Rattle.std.proofs.Common.{◌≡◌, ◌<◌, ap, sym, refl, ◌∙◌, subst, Some, Err}
use Rattle.gc_owner.specs.declared.entry.SlotEntry.{SlotEntry}
use Rattle.gc_model.specs.Table.{Table, Slot}
use Rattle.gc_model.specs.Frames.{newest, slot_at}
use Rattle.gc_model.specs.RootPoints.{SlotBy}
use Rattle.gc_model.specs.Stores.{StoreView}
use Rattle.gc_model.specs.Holds.{Holds, Placing}
use Rattle.gc_store.specs.declared.globals.SlotFault.{SlotFault}
use Rattle.gc_store.specs.Roots.{IsRootWord}
use Rattle.gc_store.specs.Slots.{ReadsSlot}
use Rattle.gc_store.specs.Stores.{store_view, tables_of}
use Rattle.gc_store.proofs.SlotLemmas.{entry_of, reads_slot, reads_no_root}
use Rattle.gc_store.proofs.FrameLemmas.{found_within, never_there, slot_there, slot_is, frame_slot_stands, frame_slot_word}
use Rattle.gc_store.proofs.store.Store.slot_get.Given as given
use Rattle.gc_store.proofs.store.Store.slot_get.Goals as goal
use Rattle.gc_store.proofs.store.Store.slot_get.Goals.{After-slot-class}

pub returns-then-not-has_slot-clause-reads : goal.returns-then-not-has_slot-clause-reads
returns-then-not-has_slot-clause-reads g c = λ t a there holds e.
    never_there g.H.GcHeap.KIND c.args.self.now t holds.place holds.holds c.args.slot there c.has_slot.result e c.has_slot.ensures c.if-not-has_slot.true

pub slot-class-requires : goal.slot-class-requires
slot-class-requires g c =
    slot_there c.self.inside.owner.seen c.is_ready.ensures.frames c.args.slot
    (found_within (store_view c.self.inside.id c.self.inside.config (tables_of c.self.inside.interned c.self.inside.asked) c.self.inside.owner.seen c.self.inside.tries) c.args.self.now c.args.slot c.has_slot.result c.self.view_is c.has_slot.ensures c.if-not-has_slot.false)

entry_is : (g : given.Over) (c : After-slot-class g) → entry_of (newest c.args.self.now.frames) c.args.slot ≡ c.slot-class.result
entry_is g c =
    let within = found_within (store_view c.self.inside.id c.self.inside.config (tables_of c.self.inside.interned c.self.inside.asked) c.self.inside.owner.seen c.self.inside.tries) c.args.self.now c.args.slot c.has_slot.result c.self.view_is c.has_slot.ensures c.if-not-has_slot.false in
    ap (λ (s : StoreView g.row.D.Denot). entry_of (newest s.frames) c.args.slot) (sym c.self.view_is)
    ∙ sym (slot_is c.self.inside.owner.seen c.is_ready.ensures.frames c.args.slot within)
    ∙ sym c.slot-class.ensures

-- the entry stands for the slot of a table that the store holds
stands : (g : given.Over) (c : After-slot-class g) (t : Table g.row.D.Denot) (place : Placing) (there : Slot) → Holds g.H.GcHeap.KIND c.args.self.now t place → slot_at t c.args.slot ≡ Some there → SlotBy place c.slot-class.result there
stands g c t place there holds e =
    subst (λ (x : SlotEntry). SlotBy place x there) (entry_is g c) (frame_slot_stands g.H.GcHeap.KIND c.args.self.now t place holds c.args.slot there e)

pub push_reference-requires : goal.push_reference-requires
push_reference-requires g c = λ positive.
    let at = (goal.at.push_reference-requires g c).After-slot-class in
    let holds = subst (λ (s : StoreView g.row.D.Denot). Holds g.H.GcHeap.KIND s c.self.invariant.table c.self.invariant.holds.place) c.self.view_is c.self.invariant.holds.holds in
    subst (λ (e : SlotEntry). IsRootWord g.row.D.Denot g.H.GcHeap.KIND c.args.self.now e.word) (entry_is g at)
    (frame_slot_word g.H.GcHeap.KIND c.args.self.now c.self.invariant.table c.self.invariant.holds.place holds c.args.slot
    (found_within c.args.self.now c.args.self.now c.args.slot c.has_slot.result refl c.has_slot.ensures c.if-not-has_slot.false)
    (subst (λ (e : SlotEntry). 0 < e.word) (sym (entry_is g at)) (positive)))

pub returns-in-Ok-clause-reads : goal.returns-in-Ok-clause-reads
returns-in-Ok-clause-reads g c = λ t a there holds e.
    let at = (goal.at.returns-in-Ok-clause-reads g c).After-slot-class in
    reads_slot g.H.GcHeap.KIND t a c.slot-class.result there c.args.self.now c.push_reference.new.self holds (stands g at t holds.place there holds.holds e) c.in-Ok.found c.in-Ok.ensures.reads

pub returns-in-Err-clause-reads : goal.returns-in-Err-clause-reads
returns-in-Err-clause-reads g c = λ t a there holds e.
    let at = (goal.at.returns-in-Err-clause-reads g c).After-slot-class in
    subst (λ (f : SlotFault). ReadsSlot g.H.GcHeap.KIND t a there (Err f) c.push_reference.new.self) (sym c.from.ensures)
    (reads_no_root g.H.GcHeap.KIND t a c.slot-class.result there c.args.self.now c.push_reference.new.self holds (stands g at t holds.place there holds.holds e) c.in-Err.fault c.in-Err.ensures.reads)
