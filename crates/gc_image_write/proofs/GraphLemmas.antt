-- The graph that lines are.
use Rattle.std.proofs.Common.{ℕ, ◌<◌, List, length, Option, subst, sym}
use Rattle.std.specs.List.{range_with_len}
use Rattle.gc_types.specs.Declarations.{Declaration}
use Rattle.gc_view.specs.Reach.{Reachable, by_start, by_step}
use Rattle.gc_image.specs.declared.image.GlobalLine.{GlobalLine}
use Rattle.gc_image.specs.declared.image.ObjectLine.{ObjectLine}
use Rattle.gc_image.specs.Well.{GlobalsReachAll, GlobalHolds, NamesByNumber, line_values, number_named}
use Rattle.gc_image_write.specs.Graphs.{graph_of, named_in, value_count, values_in}
use Rattle.gc_image_write.specs.Order.{AreClosed, early_named}
use Rattle.gc_image_write.specs.Renaming.{AreAllReached, IsWithin}
use Rattle.gc_image_write.specs.Visiting.{IsVisited}
use Rattle.gc_image_write.proofs.OrderLemmas.{early_below}
use Rattle.gc_image_write.proofs.PickLemmas.{from_filter, into_filter}
use Rattle.gc_image_write.proofs.WordLemmas.{element}

-- what they name are objects of them
pub lines_within : (types : List Declaration) (objects : List ObjectLine) (globals : List GlobalLine) → AreClosed objects → ((number : ℕ) → GlobalHolds globals number → number < length objects)
    → IsWithin (graph_of types objects globals) (length objects)
lines_within types objects globals closed held = record {
  early = λ x y low stands.
      let at_index = from_filter (early_named types objects x) (range_with_len 0 (value_count objects x)) y stands in early_below types objects closed x at_index.1 y at_index.2.1;
  named = λ x y low stands.
      let line = element objects x low in
      let at_index = from_filter number_named (line_values line.0) y (subst (λ (l : Option ObjectLine). IsVisited (named_in (values_in l)) y) line.1 stands) in
      closed x at_index.0 y line.0 at_index.1 line.1 at_index.2.0 at_index.2.1;
  globals = λ y stands.
      let at_index = from_filter (λ (g : GlobalLine). number_named g.value) globals y stands in held y (at_index.0, at_index.1, at_index.2);
}

-- the globals reach each object
pub lines_reached : (types : List Declaration) (objects : List ObjectLine) (globals : List GlobalLine) → GlobalsReachAll objects globals → AreAllReached (graph_of types objects globals) (length objects)
lines_reached types objects globals reached x low = carried (reached x low)
  where
    carried : {y : ℕ} → Reachable (GlobalHolds globals) (NamesByNumber objects) y → Reachable (IsVisited (graph_of types objects globals).globals) (λ z. IsVisited ((graph_of types objects globals).named z)) y
    carried {y} (by_start held) = by_start (into_filter (λ (g : GlobalLine). number_named g.value) globals held.0 held.1 y held.2.0 held.2.1)
    carried {y} (by_step {y = z} reached names) =
        by_step (carried reached)
        (subst (λ (l : Option ObjectLine). IsVisited (named_in (values_in l)) y) (sym names.3.0) (into_filter number_named (line_values names.0) names.1 names.2 y names.3.1.0 names.3.1.1))
