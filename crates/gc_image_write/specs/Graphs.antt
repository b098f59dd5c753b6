-- The graph that the objects of an image are.
use Rattle.std.specs.Prelude.{ℕ, List, [], Option, None, Some, length, slice_get}
use Rattle.std.specs.List.{filter_map, range_with_len}
use Rattle.gc_types.specs.Declarations.{Declaration}
use Rattle.gc_image.specs.declared.image.GlobalLine.{GlobalLine}
use Rattle.gc_image.specs.declared.image.ImageValue.{ImageValue}
use Rattle.gc_image.specs.declared.image.ObjectLine.{ObjectLine}
use Rattle.gc_image.specs.Well.{line_values, number_named}
use Rattle.gc_image_write.specs.Order.{early_named}
use Rattle.gc_image_write.specs.Visiting.{Graph}

-- the values of an object
abbrev pub values_in : Option ObjectLine → List ImageValue
values_in None = []
values_in (Some line) = line_values line

abbrev pub value_count : List ObjectLine → ℕ → ℕ
value_count objects x = length (values_in (slice_get objects x))

-- what objects name that so many indexes each may name, in their order
abbrev pub early_list : (ℕ → ℕ → Option ℕ) → (ℕ → ℕ) → ℕ → List ℕ
early_list early counts x = filter_map (early x) (range_with_len 0 (counts x))

-- which objects one must have from the start
abbrev pub early_values : List Declaration → List ObjectLine → ℕ → List ℕ
early_values types objects = early_list (early_named types objects) (value_count objects)

-- which objects values name
abbrev pub named_in : List ImageValue → List ℕ
named_in values = filter_map number_named values

abbrev pub named_values : List ObjectLine → ℕ → List ℕ
named_values objects x = named_in (values_in (slice_get objects x))

-- which objects globals hold
abbrev pub held_by : List GlobalLine → List ℕ
held_by globals = filter_map (λ (global : GlobalLine). number_named global.value) globals

abbrev pub graph_of : List Declaration → List ObjectLine → List GlobalLine → Graph
graph_of types objects globals = record { early = early_values types objects; named = named_values objects; globals = held_by globals }
