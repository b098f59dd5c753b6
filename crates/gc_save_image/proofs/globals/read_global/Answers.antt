use Rattle.std.proofs.Common.{ℕ, Err, sym, subst}
use Rattle.gc_types.specs.declared.kind.Layouts.{Layouts}
use Rattle.gc_model.specs.Stores.{StoreView}
use Rattle.gc_model.specs.Table.{Slot, Table}
use Rattle.gc_model.specs.Accounts.{Account}
use Rattle.gc_store.specs.declared.globals.SlotFault.{SlotFault}
use Rattle.gc_store.specs.declared.globals.SlotFault.TheVariants as slot_fault
use Rattle.gc_store.specs.Slots.{ReadsSlot}
use Rattle.gc_save_image.specs.declared.collect_fault.CollectFault.{CollectFault}
use Rattle.gc_save_image.specs.GlobalSteps.{ReadsGlobal, slot_refused}
use Rattle.gc_save_image.proofs.globals.read_global.Goals as goal

global_refused : (layouts : Layouts) (t : Table ℕ) (a : Account) (slot : Slot) (why : SlotFault) (new : StoreView ℕ) → ReadsSlot layouts t a slot (Err why) new → ReadsGlobal layouts t a slot (Err (slot_refused why)) new
global_refused layouts t a slot slot_fault.NoSlot new never = absurd never
global_refused layouts t a slot slot_fault.WrongStore new never = absurd never
global_refused layouts t a slot slot_fault.Unrooted new never = absurd never
global_refused layouts t a slot slot_fault.RootsFull new full = full
global_refused layouts t a slot slot_fault.Memory new memory = memory.1

pub returns-in-Err-clause-reads : goal.returns-in-Err-clause-reads
returns-in-Err-clause-reads g c t a slot held e =
    subst (λ (why : CollectFault). ReadsGlobal g.H.GcHeap.KIND t a slot (Err why) c.global_get.new.self) (sym c.slot_refused.ensures)
    (global_refused g.H.GcHeap.KIND t a slot c.in-Err.fault c.global_get.new.self (c.in-Err.ensures.reads t a slot held e))
