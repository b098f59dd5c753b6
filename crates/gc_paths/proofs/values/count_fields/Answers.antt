use Rattle.std.proofs.Common.{sym, ◌∙◌, arith}
use Rattle.gc_types.proofs.FewFields.{few_counted}
use Rattle.gc_paths.proofs.values.count_fields.Goals as goal

pub overflow_cast-result : goal.overflow_cast-result
overflow_cast-result g c =
    let few = few_counted _ c.args.ty c.in-Some.count c.are_declared.ensures (sym c.fields_len.ensures ∙ c.in-Some.is) in
    record { fits = omega (arith, few) }
