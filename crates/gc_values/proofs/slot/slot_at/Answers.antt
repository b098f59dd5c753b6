use Rattle.std.proofs.Common.{sym, ap, ◌∙◌}
use Rattle.std.specs.Option.{option_copied}
use Rattle.gc_values.proofs.ShapeSlots.{fields_found}
use Rattle.gc_values.proofs.slot.slot_at.Goals as goal

pub field_slots-requires : goal.field_slots-requires
field_slots-requires c =
    let f = fields_found c.args.layouts c.args.shape.now c.args.index (sym c.elem_type.ensures ∙ ap option_copied c.in-None.is) c.requires.count c.requires.slot c.requires.slot_is in
    (f.fields, f.fields_are)
