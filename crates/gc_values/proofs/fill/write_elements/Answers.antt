use Rattle.std.proofs.Common.{sym, subst}
use Rattle.gc_values.specs.declared.stored.Stored.{Stored}
use Rattle.gc_values.specs.HeldSlots.{storage_slot}
use Rattle.gc_values.specs.Filling.{FillsAll}
use Rattle.gc_values.proofs.fill.write_elements.Goals as goal

pub returns-in-Number : goal.returns-in-Number
returns-in-Number g c =
    subst (λ (x : Stored). FillsAll g.H.GcHeap.KIND c.args.owner.now.seen c.write_numbers.new.owner.seen c.args.gc_ref.now (storage_slot c.args.first.now) c.args.count x) (sym c.in-Number.is) c.write_numbers.ensures

pub returns-in-Ref : goal.returns-in-Ref
returns-in-Ref g c =
    subst (λ (x : Stored). FillsAll g.H.GcHeap.KIND c.args.owner.now.seen c.write_references.new.owner.seen c.args.gc_ref.now (storage_slot c.args.first.now) c.args.count x) (sym c.in-Ref.is) c.write_references.ensures
