-- A store that has no heap to collect.
use Rattle.std.proofs.Common.{◌≡◌, false, List, [], sym, ap, ◌∙◌}
use Rattle.std.specs.List.{slice_get}
use Rattle.std.proofs.lemmas.Option.{none-some}
use Rattle.gc_types.specs.declared.kind.Layouts.{Layouts}
use Rattle.gc_model.specs.Table.{Table}
use Rattle.gc_model.specs.Stores.{StoreView}
use Rattle.gc_model.specs.Values.{Object}
use Rattle.gc_model.specs.Holds.{HoldsTable, HoldsKept}

-- a store whose heap has no memory holds no object
pub unmade_kept : {D : Type 0} (layouts : Layouts) (s : StoreView D) (t : Table D) → s.heap.attached ≡ false → HoldsTable layouts s t → HoldsKept layouts s t
unmade_kept {D} layouts s t detached holds = (
  holds.0,
  (
    holds.1,
    λ p word e.
        let held = holds.1.objects.placed p word e in
        let none : t.objects ≡ [] = holds.1.memory.no_objects (sym holds.1.memory.made ∙ detached) in
        absurd (none-some held.entry (ap (λ (os : List (Object D)). slice_get os p) (sym none) ∙ held.in_table)),
  ),
)
