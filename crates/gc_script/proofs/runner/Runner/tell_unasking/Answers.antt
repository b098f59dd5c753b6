use Rattle.std.proofs.Common.{refl}
use Rattle.gc_commands.specs.declared.command.Command.TheVariants as command
use Rattle.gc_script.specs.Given.{is_array, has_fields}
use Rattle.gc_script.specs.Shapes.{shape}
use Rattle.gc_script.specs.Steps.{tests, reading_tests}
use Rattle.gc_script.proofs.ResultLemmas.{on_err, on_any_err}
use Rattle.gc_script.proofs.WantLemmas.{may_as, may_by}
use Rattle.gc_script.proofs.GoesLemmas.{goes_as}
use Rattle.gc_script.proofs.TestLemmas.{goes_by}
use Rattle.gc_script.proofs.runner.Runner.tell_unasking.Goals as goal

pub returns-in-Field-clause-goes : goal.returns-in-Field-clause-goes
returns-in-Field-clause-goes g c s holds =
    let known = command.Field c.in-Field.r c.in-Field.i c.in-Field.into in
    goes_as g.H.GcHeap.KIND s c.args.command.now known c.read_value.result c.read_value.new.store c.read_value.new.self c.in-Field.is
    (goes_by g.H.GcHeap.KIND s (shape known) (reading_tests has_fields s c.in-Field.r c.in-Field.i) (tests g.H.GcHeap.KIND s known) c.read_value.result c.read_value.new.store c.read_value.new.self refl
    (c.read_value.ensures.goes s holds))

pub returns-in-Elem-clause-goes : goal.returns-in-Elem-clause-goes
returns-in-Elem-clause-goes g c s holds =
    let known = command.Elem c.in-Elem.r c.in-Elem.i c.in-Elem.into in
    goes_as g.H.GcHeap.KIND s c.args.command.now known c.read_value-in-Elem.result c.read_value-in-Elem.new.store c.read_value-in-Elem.new.self c.in-Elem.is
    (goes_by g.H.GcHeap.KIND s (shape known) (reading_tests is_array s c.in-Elem.r c.in-Elem.i) (tests g.H.GcHeap.KIND s known) c.read_value-in-Elem.result c.read_value-in-Elem.new.store c.read_value-in-Elem.new.self refl
    (c.read_value-in-Elem.ensures.goes s holds))

pub returns-in-Struct-clause-cause : goal.returns-in-Struct-clause-cause
returns-in-Struct-clause-cause g c =
    on_any_err c.declare_struct.result (λ s holds. may_as g.H.GcHeap.KIND s c.args.command.now _ c.in-Struct.is (record { takes = refl; unrefused = tt }))

pub returns-in-Array-clause-cause : goal.returns-in-Array-clause-cause
returns-in-Array-clause-cause g c =
    on_any_err c.declare_array.result (λ s holds. may_as g.H.GcHeap.KIND s c.args.command.now _ c.in-Array.is (record { takes = refl; unrefused = tt }))

pub returns-in-Exn-clause-cause : goal.returns-in-Exn-clause-cause
returns-in-Exn-clause-cause g c =
    on_any_err c.declare_exn.result (λ s holds. may_as g.H.GcHeap.KIND s c.args.command.now _ c.in-Exn.is (record { takes = refl; unrefused = tt }))

pub returns-in-ReadBytes-clause-cause : goal.returns-in-ReadBytes-clause-cause
returns-in-ReadBytes-clause-cause g c = may_by _ _ _ c.read_bytes.result _ _ c.in-ReadBytes.is c.read_bytes.ensures.cause

pub returns-in-Load-clause-cause : goal.returns-in-Load-clause-cause
returns-in-Load-clause-cause g c = may_by _ _ _ c.load_slot.result _ _ c.in-Load.is c.load_slot.ensures.cause

pub returns-in-GetGlobal-clause-cause : goal.returns-in-GetGlobal-clause-cause
returns-in-GetGlobal-clause-cause g c = may_by _ _ _ c.get_global.result _ _ c.in-GetGlobal.is c.get_global.ensures.cause

pub returns-in-Take-clause-cause : goal.returns-in-Take-clause-cause
returns-in-Take-clause-cause g c = may_by _ _ _ c.take.result _ _ c.in-Take.is c.take.ensures.cause

pub returns-in-Field-clause-cause : goal.returns-in-Field-clause-cause
returns-in-Field-clause-cause g c =
    on_err c.read_value.result (λ may s holds. may_as g.H.GcHeap.KIND s c.args.command.now _ c.in-Field.is (record { takes = (may s holds).0; unrefused = (may s holds).1 })) c.read_value.ensures.cause

pub returns-in-Elem-clause-cause : goal.returns-in-Elem-clause-cause
returns-in-Elem-clause-cause g c =
    on_err c.read_value-in-Elem.result (λ may s holds. may_as g.H.GcHeap.KIND s c.args.command.now _ c.in-Elem.is (record { takes = (may s holds).0; unrefused = (may s holds).1 })) c.read_value-in-Elem.ensures.cause
