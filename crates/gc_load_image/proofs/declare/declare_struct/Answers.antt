use Rattle.std.proofs.Common.{◌≡◌, List, Some, sym, ap, ◌∙◌}
use Rattle.std.specs.Prelude.{option_map}
use Rattle.gc_types.specs.declared.kind.TypeKind.TheVariants as kinds
use Rattle.gc_types.specs.declared.value.FieldType.{FieldType}
use Rattle.gc_types.specs.Declarations.{struct_type}
use Rattle.gc_commands.specs.declared.command.Command.TheVariants as command
use Rattle.gc_commands.specs.TypeWords.{fields_of, kinds_with}
use Rattle.gc_image.specs.Declaring.{declared_by}
use Rattle.gc_load_image.proofs.TypeLemmas.{declared_none, declared_one}
use Rattle.gc_load_image.proofs.declare.declare_struct.Given.{Over}
use Rattle.gc_load_image.proofs.declare.declare_struct.Goals.{After-declare_struct}
use Rattle.gc_load_image.proofs.declare.declare_struct.Goals as goal

spelled : (g : Over) (c : After-declare_struct g) → declared_by c.args.store.now.types (command.Struct c.args.is_final c.args.supertype c.args.words.now) ≡ Some (struct_type c.as_slice.result.now c.index_of.result c.args.is_final)
spelled g c =
    let some = rw c.in-Some.is at c.in_ok-fields.ensures.some in
    sym (λ i. option_map (λ (fs : List FieldType). struct_type fs c.args.supertype c.args.is_final) (fields_of (kinds_with (c.types.ensures i).declarations kinds.Struct) c.args.words.now))
    ∙ ap (option_map (λ (fs : List FieldType). struct_type fs c.args.supertype c.args.is_final)) some
    ∙ (λ i. Some (struct_type (sym c.as_slice.ensures.value i) (sym c.index_of.ensures i) c.args.is_final))

pub returns-in-Ok-clause-declares : goal.returns-in-Ok-clause-declares
returns-in-Ok-clause-declares g c =
    let at = (goal.at.returns-in-Ok-clause-declares g c).After-declare_struct in
    declared_one g.H.GcHeap.KIND c.args.store.now c.declare_struct.new.self (command.Struct c.args.is_final c.args.supertype c.args.words.now) (struct_type c.as_slice.result.now c.index_of.result c.args.is_final)
    c.stores_hold_tables.ensures (spelled g at) c.in-Ok.field-0 c.in-Ok.ensures.step

pub returns-clause-declares : goal.returns-clause-declares
returns-clause-declares g c =
    let at = (goal.at.returns-clause-declares g c).After-declare_struct in
    declared_none g.H.GcHeap.KIND c.args.store.now c.declare_struct.new.self (command.Struct c.args.is_final c.args.supertype c.args.words.now) (struct_type c.as_slice.result.now c.index_of.result c.args.is_final)
    c.stores_hold_tables.ensures (spelled g at) c.in-Err.fault c.told_of_type.result c.told_of_type.ensures c.in-Err.ensures.step
