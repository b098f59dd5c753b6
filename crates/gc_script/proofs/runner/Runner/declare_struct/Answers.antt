use Rattle.std.proofs.Common.{ap, ◌∙◌, refl}
use Rattle.gc_types.specs.Declarations.{struct_type}
use Rattle.gc_types.specs.declared.types.Types.{Types}
use Rattle.gc_commands.specs.declared.command.Command.TheVariants as Command
use Rattle.gc_commands.specs.TypeWords.{declared_struct}
use Rattle.gc_script.specs.Steps.{tests}
use Rattle.gc_script.proofs.DeclareLemmas.{type_declared, type_refused, spelled_struct}
use Rattle.gc_script.proofs.runner.Runner.declare_struct.Goals as goal

-- src/declare.rt:37:5
pub returns-in-Ok-clause-goes : goal.returns-in-Ok-clause-goes
returns-in-Ok-clause-goes g c = λ s holds.
    type_declared g.H.GcHeap.KIND c.args.store.now c.declare_struct.new.self c.args.self.now s (declared_struct c.args.is_final c.args.supertype c.args.words.now)
    (tests g.H.GcHeap.KIND s (Command.Struct c.args.is_final c.args.supertype c.args.words.now)) refl c.declare_struct.ensures.same holds (struct_type c.as_slice.result.now c.index_of.result c.args.is_final) c.in-Ok.ty c.as_u32.result
    (spelled_struct s.table.types c.types.result.now.declarations c.args.is_final c.args.supertype c.index_of.result c.args.words.now c.as_slice.result.now c.in-Ok-Some.fields.items (ap (λ (x : Types). x.declarations) c.types.ensures ∙ holds.table.holds.types) c.index_of.ensures c.as_slice.ensures.value (rw c.in-Ok-Some.field-0-is at c.in-Ok-Some.ensures.some))
    (c.as_u32.ensures ∙ c.index.ensures) (c.in-Ok.ensures.step s.table s.account holds.table)

-- src/declare.rt:37:5
pub returns-in-Err-BadType-clause-goes : goal.returns-in-Err-BadType-clause-goes
returns-in-Err-BadType-clause-goes g c = λ s holds.
    type_refused g.H.GcHeap.KIND c.args.store.now c.declare_struct.new.self c.args.self.now s (declared_struct c.args.is_final c.args.supertype c.args.words.now)
    (tests g.H.GcHeap.KIND s (Command.Struct c.args.is_final c.args.supertype c.args.words.now)) refl c.declare_struct.ensures.same holds (struct_type c.as_slice.result.now c.index_of.result c.args.is_final)
    (spelled_struct s.table.types c.types.result.now.declarations c.args.is_final c.args.supertype c.index_of.result c.args.words.now c.as_slice.result.now c.in-Ok-Some.fields.items (ap (λ (x : Types). x.declarations) c.types.ensures ∙ holds.table.holds.types) c.index_of.ensures c.as_slice.ensures.value (rw c.in-Ok-Some.field-0-is at c.in-Ok-Some.ensures.some))
    (rw c.in-Err-BadType.field-0-is at c.in-Err-BadType.ensures.step s.table s.account holds.table)
