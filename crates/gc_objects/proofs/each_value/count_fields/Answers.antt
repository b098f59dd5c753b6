use Rattle.gc_objects.proofs.ValueCounts.{len_fits}
use Rattle.gc_objects.proofs.each_value.count_fields.Goals as goal

pub overflow_cast-result : goal.overflow_cast-result
overflow_cast-result g c =
    len_fits c.types-types.result.now.declarations c.are_declared.ensures c.args.ty c.unwrap-len.result c.fields_len.result c.fields_len.ensures c.unwrap-len.ensures
