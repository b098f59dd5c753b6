use Rattle.std.proofs.Common.{◌≡◌, Some, sym, ap, ◌∙◌}
use Rattle.std.specs.Prelude.{option_map}
use Rattle.gc_types.specs.declared.value.FieldType.{FieldType}
use Rattle.gc_types.specs.Declarations.{array_type}
use Rattle.gc_commands.specs.declared.command.Command.TheVariants as command
use Rattle.gc_types.specs.declared.kind.TypeKind.TheVariants as kinds
use Rattle.gc_commands.specs.TypeWords.{field_of, kinds_with}
use Rattle.gc_image.specs.Declaring.{declared_by}
use Rattle.gc_load_image.proofs.TypeLemmas.{declared_none, declared_one}
use Rattle.gc_load_image.proofs.declare.declare_array.Given.{Over}
use Rattle.gc_load_image.proofs.declare.declare_array.Goals.{After-declare_array}
use Rattle.gc_load_image.proofs.declare.declare_array.Goals as goal

spelled : (g : Over) (c : After-declare_array g) → declared_by c.args.store.now.types (command.Array c.args.is_final c.args.supertype c.args.word.now) ≡ Some (array_type c.in-Some.element c.index_of.result c.args.is_final)
spelled g c =
    sym (λ i. option_map (λ (f : FieldType). array_type f c.args.supertype c.args.is_final) (field_of (kinds_with (c.types.ensures i).declarations kinds.Array) c.args.word.now))
    ∙ ap (option_map (λ (f : FieldType). array_type f c.args.supertype c.args.is_final)) (sym c.field_of.ensures ∙ c.in-Some.is)
    ∙ (λ i. Some (array_type c.in-Some.element (sym c.index_of.ensures i) c.args.is_final))

pub returns-in-Ok-clause-declares : goal.returns-in-Ok-clause-declares
returns-in-Ok-clause-declares g c =
    let at = (goal.at.returns-in-Ok-clause-declares g c).After-declare_array in
    declared_one g.H.GcHeap.KIND c.args.store.now c.declare_array.new.self (command.Array c.args.is_final c.args.supertype c.args.word.now) (array_type c.in-Some.element c.index_of.result c.args.is_final)
    c.stores_hold_tables.ensures (spelled g at) c.in-Ok.field-0 c.in-Ok.ensures.step

pub returns-in-Err-clause-declares : goal.returns-in-Err-clause-declares
returns-in-Err-clause-declares g c =
    let at = (goal.at.returns-in-Err-clause-declares g c).After-declare_array in
    declared_none g.H.GcHeap.KIND c.args.store.now c.declare_array.new.self (command.Array c.args.is_final c.args.supertype c.args.word.now) (array_type c.in-Some.element c.index_of.result c.args.is_final)
    c.stores_hold_tables.ensures (spelled g at) c.in-Err.fault c.told_of_type.result c.told_of_type.ensures c.in-Err.ensures.step
