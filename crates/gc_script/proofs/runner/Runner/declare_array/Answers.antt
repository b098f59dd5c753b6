use Rattle.std.proofs.Common.{ap, ◌∙◌, refl}
use Rattle.gc_types.specs.Declarations.{array_type}
use Rattle.gc_types.specs.declared.types.Types.{Types}
use Rattle.gc_commands.specs.declared.command.Command.TheVariants as Command
use Rattle.gc_commands.specs.TypeWords.{declared_array}
use Rattle.gc_script.specs.Steps.{tests}
use Rattle.gc_script.proofs.DeclareLemmas.{type_declared, type_refused, spelled_array}
use Rattle.gc_script.proofs.runner.Runner.declare_array.Goals as goal

-- src/declare.rt:51:5
pub returns-in-Ok-clause-goes : goal.returns-in-Ok-clause-goes
returns-in-Ok-clause-goes g c = λ s holds.
    type_declared g.H.GcHeap.KIND c.args.store.now c.declare_array.new.self c.args.self.now s (declared_array c.args.is_final c.args.supertype c.args.word.now)
    (tests g.H.GcHeap.KIND s (Command.Array c.args.is_final c.args.supertype c.args.word.now)) refl c.declare_array.ensures.same holds (array_type c.in-Some.element c.index_of.result c.args.is_final) c.in-Ok.ty c.as_u32.result
    (spelled_array s.table.types c.types.result.now.declarations c.args.is_final c.args.supertype c.index_of.result c.args.word.now c.field_of.result c.in-Some.element (ap (λ (x : Types). x.declarations) c.types.ensures ∙ holds.table.holds.types) c.index_of.ensures c.field_of.ensures c.in-Some.is)
    (c.as_u32.ensures ∙ c.index.ensures) (c.in-Ok.ensures.step s.table s.account holds.table)

-- src/declare.rt:51:5
pub returns-in-Err-BadType-clause-goes : goal.returns-in-Err-BadType-clause-goes
returns-in-Err-BadType-clause-goes g c = λ s holds.
    type_refused g.H.GcHeap.KIND c.args.store.now c.declare_array.new.self c.args.self.now s (declared_array c.args.is_final c.args.supertype c.args.word.now)
    (tests g.H.GcHeap.KIND s (Command.Array c.args.is_final c.args.supertype c.args.word.now)) refl c.declare_array.ensures.same holds (array_type c.in-Some.element c.index_of.result c.args.is_final)
    (spelled_array s.table.types c.types.result.now.declarations c.args.is_final c.args.supertype c.index_of.result c.args.word.now c.field_of.result c.in-Some.element (ap (λ (x : Types). x.declarations) c.types.ensures ∙ holds.table.holds.types) c.index_of.ensures c.field_of.ensures c.in-Some.is)
    (rw c.in-Err-BadType.field-0-is at c.in-Err-BadType.ensures.step s.table s.account holds.table)
