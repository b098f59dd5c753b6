use Rattle.std.proofs.Common.{sym, ◌∙◌, arith}
use Rattle.gc_types.proofs.FewFields.{few_indexes}
use Rattle.gc_objects.proofs.places.field_of.Goals as goal

pub overflow_cast-result : goal.overflow_cast-result
overflow_cast-result g c =
    let few = few_indexes _ c.args.ty c.args.index c.in_ok-field.field c.are_declared.ensures (sym c.field.ensures ∙ c.in_ok-field.was) in
    record { fits = omega (arith, few) }
