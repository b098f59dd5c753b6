use Rattle.std.proofs.Common.{Ok, Err, subst}
use Rattle.gc_values.specs.declared.root.RawValue.{RawValue}
use Rattle.gc_values.specs.declared.faults.WriteFault.TheVariants as fault
use Rattle.gc_store.specs.Values.{WritesValue}
use Rattle.gc_objects.proofs.WrittenValues.{ids_alone}
use Rattle.gc_objects.proofs.access.write.Goals as goal

pub returns-in-Ok-clause-writes : goal.returns-in-Ok-clause-writes
returns-in-Ok-clause-writes g c t a holds =
    subst (λ (r : RawValue). WritesValue g.H.GcHeap.KIND c.args.store.now c.write_value.new.self t a c.args.root c.args.index r (Ok tt)) c.raw_of.ensures (c.in-Ok.ensures.writes t a holds)

pub returns-in-Err-FuncTableFull-clause-writes : goal.returns-in-Err-FuncTableFull-clause-writes
returns-in-Err-FuncTableFull-clause-writes g c t a holds =
    subst (λ (r : RawValue). WritesValue g.H.GcHeap.KIND c.args.store.now c.write_value.new.self t a c.args.root c.args.index r (Err fault.FuncTableFull)) c.raw_of.ensures
    ((rw c.in-Err-FuncTableFull.field-0-is at c.in-Err-FuncTableFull.ensures).writes t a holds)

pub returns-in-Err-ContTableFull-clause-writes : goal.returns-in-Err-ContTableFull-clause-writes
returns-in-Err-ContTableFull-clause-writes g c t a holds =
    subst (λ (r : RawValue). WritesValue g.H.GcHeap.KIND c.args.store.now c.write_value.new.self t a c.args.root c.args.index r (Err fault.ContTableFull)) c.raw_of.ensures
    ((rw c.in-Err-ContTableFull.field-0-is at c.in-Err-ContTableFull.ensures).writes t a holds)

pub returns-in-Err-Memory-clause-writes : goal.returns-in-Err-Memory-clause-writes
returns-in-Err-Memory-clause-writes g c t a holds = ids_alone c.args.value.now c.raw_of.result c.in-Err-Memory.field-0 c.raw_of.ensures c.in-Err-Memory.ensures.ok
