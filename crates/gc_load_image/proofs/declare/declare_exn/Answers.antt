use Rattle.std.proofs.Common.{◌≡◌, List, Some, sym, ap, ◌∙◌}
use Rattle.std.specs.Prelude.{option_map}
use Rattle.gc_types.specs.declared.kind.TypeKind.TheVariants as kinds
use Rattle.gc_types.specs.declared.value.ValType.{ValType}
use Rattle.gc_types.specs.Declarations.{exn_type}
use Rattle.gc_commands.specs.declared.command.Command.TheVariants as command
use Rattle.gc_commands.specs.TypeWords.{values_of, kinds_with}
use Rattle.gc_image.specs.Declaring.{declared_by}
use Rattle.gc_load_image.proofs.TypeLemmas.{declared_none, declared_one}
use Rattle.gc_load_image.proofs.declare.declare_exn.Given.{Over}
use Rattle.gc_load_image.proofs.declare.declare_exn.Goals.{After-declare_exn}
use Rattle.gc_load_image.proofs.declare.declare_exn.Goals as goal

spelled : (g : Over) (c : After-declare_exn g) → declared_by c.args.store.now.types (command.Exn c.args.words.now) ≡ Some (exn_type c.as_slice.result.now)
spelled g c =
    let some = rw c.in-Some.is at c.in_ok-params.ensures.some in
    sym (λ i. option_map (λ (ps : List ValType). exn_type ps) (values_of (kinds_with (c.types.ensures i).declarations kinds.Exn) c.args.words.now))
    ∙ ap (option_map (λ (ps : List ValType). exn_type ps)) some
    ∙ (λ i. Some (exn_type (sym c.as_slice.ensures.value i)))

pub returns-in-Ok-clause-declares : goal.returns-in-Ok-clause-declares
returns-in-Ok-clause-declares g c =
    let at = (goal.at.returns-in-Ok-clause-declares g c).After-declare_exn in
    declared_one g.H.GcHeap.KIND c.args.store.now c.declare_exn.new.self (command.Exn c.args.words.now) (exn_type c.as_slice.result.now)
    c.stores_hold_tables.ensures (spelled g at) c.in-Ok.field-0 c.in-Ok.ensures.step

pub returns-clause-declares : goal.returns-clause-declares
returns-clause-declares g c =
    let at = (goal.at.returns-clause-declares g c).After-declare_exn in
    declared_none g.H.GcHeap.KIND c.args.store.now c.declare_exn.new.self (command.Exn c.args.words.now) (exn_type c.as_slice.result.now)
    c.stores_hold_tables.ensures (spelled g at) c.in-Err.fault c.told_of_type.result c.told_of_type.ensures c.in-Err.ensures.step
