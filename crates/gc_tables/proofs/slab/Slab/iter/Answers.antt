use Rattle.std.proofs.Common.{◌≡◌, map, sym, ap, ◌∙◌}
use Rattle.std.specs.FinMap as finite
use Rattle.gc_tables.specs.Slots.{value_of, numbered}
use Rattle.gc_tables.proofs.SlotLemmas.{entries-map_of}
use Rattle.gc_tables.proofs.slab.Slab.iter.Goals as goal

pub returns : goal.returns
returns g c =
    c.new.ensures
    ∙ ap (λ xs. numbered 0 (map value_of xs)) c.as_slice.ensures.value
    ∙ sym (entries-map_of (map value_of c.self.inside.entries.items))
    ∙ ap (λ t. finite.entries t.entries) c.self.view_is
