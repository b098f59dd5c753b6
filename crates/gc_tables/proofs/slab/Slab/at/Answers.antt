use Rattle.std.proofs.Common.{map, get_or, None, ap, ◌∙◌}
use Rattle.std.specs.FinMap as finite
use Rattle.gc_tables.specs.Slots.{value_of}
use Rattle.gc_tables.proofs.LinkLemmas.{read-entry_map}
use Rattle.gc_tables.proofs.slab.Slab.at.Goals as goal

pub returns : goal.returns
returns g c =
    c.occupant.ensures
    ∙ ap (λ xs. get_or (map value_of xs) c.args.raw None) c.deref.ensures.value
    ∙ read-entry_map _ c.args.raw
    ∙ ap (λ t. finite.get t.entries c.args.raw) c.self.view_is
