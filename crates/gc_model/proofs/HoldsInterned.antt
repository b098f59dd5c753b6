-- A store that holds a table holds it with more function values and continuations interned.
use Rattle.std.proofs.Common.{List}
use Rattle.gc_types.specs.declared.kind.Layouts.{Layouts}
use Rattle.gc_model.specs.Values.{Value}
use Rattle.gc_model.specs.SideValues.{InternedIds, InternedBy, side_values, with_side_values}
use Rattle.gc_model.specs.Table.{Table, intern}
use Rattle.gc_model.specs.Stores.{StoreView}
use Rattle.gc_model.specs.Holds.{Placing, naming, Holds}
use Rattle.gc_model.proofs.Placings.{AreWithin, KeepsAllIds, stands-more}
use Rattle.gc_model.proofs.HoldsParts.{interned_changed}

-- the store with other ids of what is interned
abbrev pub with_ids : {D : Type 0} → InternedIds → StoreView D → StoreView D
with_ids ids s = record s { ids = ids }

pub more_ids : (place : Placing) (old new : InternedIds) → KeepsAllIds old new → AreWithin (naming place old) (naming place new)
more_ids place old new keeps = record { places = λ position word is. is; ids = keeps }

pub holds_interned : {D : Type 0} (layouts : Layouts) (s : StoreView D) (t : Table D) (place : Placing) (values : List Value) (ids : InternedIds) → Holds layouts s t place → KeepsAllIds s.ids ids → InternedBy (with_side_values (side_values values) t.interned) ids
    → Holds layouts (with_ids ids s) (intern values t) place
holds_interned layouts s t place values ids holds keeps by =
    interned_changed holds
    (record {
      placed = λ position word e. let held = holds.objects.placed position word e in record {
        object = held.object;
        entry = held.entry;
        in_heap = held.in_heap;
        in_table = held.in_table;
        stands = stands-more (naming place s.ids) (naming place ids) (more_ids place s.ids ids keeps) layouts t.types held.entry held.object held.stands;
      };
      only = holds.objects.only;
      injective = holds.objects.injective;
      even = holds.objects.even;
    })
    by
