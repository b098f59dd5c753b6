use Rattle.std.proofs.Common.{◌∙◌, refl}
use Rattle.gc_commands.specs.declared.command.Command.TheVariants as command
use Rattle.gc_commands.specs.declared.reply.Refusal.TheVariants as refusal
use Rattle.gc_script.specs.declared.objects.Wanted.TheVariants as wanted
use Rattle.gc_script.specs.Steps.{tests}
use Rattle.gc_script.specs.Named.{type_at}
use Rattle.gc_script.proofs.StandLemmas.{holds_table}
use Rattle.gc_script.proofs.TestLemmas.{refuses}
use Rattle.gc_script.proofs.WriteLemmas.{can_write, wrote, field_refused, field_past, field_by}
use Rattle.gc_script.proofs.runner.Runner.write_field.Goals as goal

pub returns-in-Err-clause-goes : goal.returns-in-Err-clause-goes
returns-in-Err-clause-goes g c s holds =
    refuses g.H.GcHeap.KIND c.args.store.now c.args.self.now s (command.SetField c.args.r c.args.i c.args.operand.now) c.in-Err.why holds
    (field_refused g.H.GcHeap.KIND s c.args.r c.args.i c.args.operand.now c.in-Err.why (c.in-Err.ensures.finds s holds))

pub returns-then-i-written-clause-goes : goal.returns-then-i-written-clause-goes
returns-then-i-written-clause-goes g c s holds =
    let found = c.in-Ok.ensures.finds s holds in
    refuses g.H.GcHeap.KIND c.args.store.now c.args.self.now s (command.SetField c.args.r c.args.i c.args.operand.now) refusal.OutOfBounds holds
    (field_past g.H.GcHeap.KIND c.args.store.now s c.args.r c.args.i c.args.operand.now found.passes c.in-Ok.written.object found.found c.if-i-written.true)

pub returns-in-Err-check_write-clause-goes : goal.returns-in-Err-check_write-clause-goes
returns-in-Err-check_write-clause-goes g c s holds =
    let found = c.in-Ok.ensures.finds s holds in
    refuses g.H.GcHeap.KIND c.args.store.now c.args.self.now s (command.SetField c.args.r c.args.i c.args.operand.now) c.in-Err-check_write.why holds
    (field_by g.H.GcHeap.KIND c.args.store.now s c.args.r c.args.i c.args.operand.now found.passes c.in-Ok.written.object found.found c.if-i-written.false
    ∙ c.in-Err-check_write.ensures.checks s c.args.operand.now (holds_table holds.table) found.stands)

pub write-requires-clause-can : goal.write-requires-clause-can
write-requires-clause-can g c =
    can_write g.H.GcHeap.KIND c.args.store.now wanted.Struct c.in-Ok.written.object c.args.i c.in-Ok.written.value c.in-Ok.ensures.named c.if-i-written.false
    (type_at c.args.store.now.types c.in-Ok.written.object.types c.args.i) refl c.in-Ok-check_write.ensures.stores c.in-Ok-check_write.ensures.mutable

pub returns-in-Ok-check_write-clause-goes : goal.returns-in-Ok-check_write-clause-goes
returns-in-Ok-check_write-clause-goes g c s holds =
    let found = c.in-Ok.ensures.finds s holds in
    let checked = c.in-Ok-check_write.ensures.checks s c.args.operand.now (holds_table holds.table) found.stands in
    wrote g.H.GcHeap.KIND c.args.store.now c.write.new.store c.args.self.now s holds wanted.Struct c.args.r c.args.i c.args.operand.now c.in-Ok.written.object found.found c.if-i-written.false
    c.write.ensures.same c.in-Ok.written.value checked.1 (type_at c.args.store.now.types c.in-Ok.written.object.types c.args.i) refl c.in-Ok-check_write.ensures.stores
    (c.write.ensures.writes s.table s.account holds.table) (tests g.H.GcHeap.KIND s (command.SetField c.args.r c.args.i c.args.operand.now))
    (field_by g.H.GcHeap.KIND c.args.store.now s c.args.r c.args.i c.args.operand.now found.passes c.in-Ok.written.object found.found c.if-i-written.false ∙ checked.0)
