-- Objects that were put into the order of the rule, under their places as numbers, stand in turn.
use Rattle.std.proofs.Common.{◌≡◌, ℕ, ◌<◌, suc, zero, Bool, true, false, List, [], ◌∷◌, length, map, Option, Some, refl, sym, ap, ap₂, subst, ◌∙◌, arith}
use Rattle.std.specs.List.{cons_option, filter_map, range_with_len, slice_get}
use Rattle.std.specs.Option.{option_map}
use Rattle.std.proofs.lemmas.List.{length-map}
use Rattle.std.proofs.lemmas.Option.{same_Some, slice_get_within}
use Rattle.gc_types.specs.declared.value.FieldType.{FieldType}
use Rattle.gc_types.specs.Declarations.{Declaration}
use Rattle.gc_view.specs.Reach.{Reachable, by_start, by_step}
use Rattle.gc_model.specs.Stored.{value_type}
use Rattle.gc_image.specs.declared.image.GlobalLine.{GlobalLine}
use Rattle.gc_image.specs.declared.image.ImageValue.{ImageValue}
use Rattle.gc_image.specs.declared.image.ObjectLine.{ObjectLine}
use Rattle.gc_image.specs.Parts.{ImageParts}
use Rattle.gc_image.specs.Well.{GlobalsReachAll, GlobalHolds, IsWellImage, as_object, line_values, number_named}
use Rattle.gc_image_write.specs.Graphs.{graph_of, held_by, named_in, values_in}
use Rattle.gc_image_write.specs.InTurn.{IsInTurn}
use Rattle.gc_image_write.specs.Order.{AreClosed, IsOrder, early_in, early_named, early_of, is_early_in}
use Rattle.gc_image_write.specs.Renaming.{AreAllReached, IsWithin, Renames}
use Rattle.gc_image_write.specs.Visiting.{Graph, IsNumbering, IsVisited}
use Rattle.gc_image_write.proofs.FewLemmas.{order_long}
use Rattle.gc_image_write.proofs.GraphLemmas.{lines_reached, lines_within}
use Rattle.gc_image_write.proofs.PickLemmas.{filter_renamed, map_cons}
use Rattle.gc_image_write.proofs.ReachLemmas.{numbering_in_turn}
use Rattle.gc_image_write.proofs.RenameLemmas.{renamed_element}
use Rattle.gc_image_write.proofs.WordLemmas.{element}

-- what is reached under other numbers is reached
module _ (graph other : Graph) (count : ℕ) (name : ℕ → ℕ) (renames : Renames graph other count name) (within : IsWithin graph count) where
  reached_at : {z : ℕ} → Reachable (IsVisited other.globals) (λ y. IsVisited (other.named y)) z
      → (x : ℕ) × ((x < count) × ((name x ≡ z) × Reachable (IsVisited graph.globals) (λ y. IsVisited (graph.named y)) x))
  reached_at {z} (by_start start) =
      let old = renamed_element name graph.globals start.0 z (ap (λ xs. slice_get xs start.0) (sym renames.globals) ∙ start.1) in
      (old.0, (within.globals old.0 (start.0, old.1.0), (old.1.1, by_start (start.0, old.1.0))))
  reached_at {z} (by_step {y = y} reached named) =
      let from = reached_at reached in
      let here = subst (λ w. IsVisited (other.named w) z) (sym from.1.1.0) named in
      let old = renamed_element name (graph.named from.0) here.0 z (ap (λ xs. slice_get xs here.0) (sym (renames.named from.0 from.1.0)) ∙ here.1) in
      (old.0, (within.named from.0 old.0 from.1.0 (here.0, old.1.0), (old.1.1, by_step from.1.1.1 (here.0, old.1.0))))

  pub reached_before : AreAllReached other count → ((x : ℕ) → x < count → name x < count) → AreAllReached graph count
  reached_before all low x below =
      let old = reached_at (all (name x) (low x below)) in
      subst (Reachable (IsVisited graph.globals) (λ y. IsVisited (graph.named y))) (renames.apart old.0 x old.1.0 below old.1.1.0) old.1.1.1

-- values where each number is another
module _ (number : ℕ → ℕ) (renumber : ImageValue → ImageValue) (names : (v : ImageValue) → number_named (renumber v) ≡ option_map number (number_named v)) where
  renumbered_named : (vs : List ImageValue) → named_in (map renumber vs) ≡ map number (named_in vs)
  renumbered_named [] = refl
  renumbered_named (v ∷ vs) = ap₂ cons_option (names v) (renumbered_named vs) ∙ sym (map_cons number (number_named v) (named_in vs))

  renumbered_early : (is : Bool) (vs : List ImageValue) (k : ℕ) → option_map number (early_of is (slice_get vs k)) ≡ early_of is (slice_get (map renumber vs) k)
  renumbered_early true [] k = refl
  renumbered_early false [] k = refl
  renumbered_early true (v ∷ vs) zero = sym (names v)
  renumbered_early false (v ∷ vs) zero = refl
  renumbered_early is (v ∷ vs) (suc k) = renumbered_early is vs k

  -- a line whose values are these, of the same types
  pub record IsRenumbered (types : List Declaration) (line new : ObjectLine) : Type 0 where
    pub values : line_values new ≡ map renumber (line_values line)
    pub typed : (k : ℕ) → value_type types (as_object new) k ≡ value_type types (as_object line) k

  line_early : (types : List Declaration) (line new : ObjectLine) → IsRenumbered types line new
      → filter_map (early_in types (Some new)) (range_with_len 0 (length (line_values new))) ≡ map number (filter_map (early_in types (Some line)) (range_with_len 0 (length (line_values line))))
  line_early types line new is =
      let long : length (line_values new) ≡ length (line_values line) = ap length is.values ∙ length-map (line_values line) renumber in
      ap (λ n. filter_map (early_in types (Some new)) (range_with_len 0 n)) long
      ∙ sym (filter_renamed number (early_in types (Some line)) (early_in types (Some new)) (λ k.
      renumbered_early (is_early_in (value_type types (as_object line) k)) (line_values line) k
      ∙ ap₂ (λ (f : Option FieldType) (vs : List ImageValue). early_of (is_early_in f) (slice_get vs k)) (sym (is.typed k)) (sym is.values)) (range_with_len 0 (length (line_values line))))

  renumbered_held : (globals : List GlobalLine) (other : GlobalLine → GlobalLine) → ((g : GlobalLine) → (other g).value ≡ renumber g.value) → held_by (map other globals) ≡ map number (held_by globals)
  renumbered_held [] other same = refl
  renumbered_held (g ∷ globals) other same =
      ap₂ cons_option (ap number_named (same g) ∙ names g.value) (renumbered_held globals other same) ∙ sym (map_cons number (number_named g.value) (held_by globals))

  module _ (types : List Declaration) (objects : List ObjectLine) (globals : List GlobalLine) (closed : AreClosed objects) (held : (n : ℕ) → GlobalHolds globals n → n < length objects) (order : List ℕ)
      (is_order : IsOrder (early_named types objects) (length objects) order) (places : (n x : ℕ) → slice_get order n ≡ Some x → number x ≡ n) (new : List ObjectLine)
      (lines : (n x : ℕ) (line : ObjectLine) → slice_get order n ≡ Some x → slice_get objects x ≡ Some line → (next : ObjectLine) × ((slice_get new n ≡ Some next) × IsRenumbered types line next))
      (other : GlobalLine → GlobalLine) (same : (g : GlobalLine) → (other g).value ≡ renumber g.value) where
    place : (x : ℕ) → x < length objects → slice_get order (number x) ≡ Some x
    place x low = let stands = is_order.all x low in ap (slice_get order) (places stands.0 x stands.1) ∙ stands.1

    place_low : (x : ℕ) → x < length objects → number x < length objects
    place_low x low = let long = order_long (early_named types objects) (length objects) order is_order in omega (arith, long, slice_get_within order (number x) x (place x low))

    renames : Renames (graph_of types objects globals) (graph_of types new (map other globals)) (length objects) number
    renames = record {
      apart = λ x y low also alike. same_Some x y (sym (place x low) ∙ ap (slice_get order) alike ∙ place y also);
      onto = λ n low.
          let long = order_long (early_named types objects) (length objects) order is_order in
          let x = element order n (omega (arith, low, long)) in
          (x.0, (is_order.only n x.0 x.1, places n x.0 x.1));
      early = λ x low.
          let line = element objects x low in
          let next = lines (number x) x line.0 (place x low) line.1 in
          ap (λ (l : Option ObjectLine). filter_map (early_in types l) (range_with_len 0 (length (values_in l)))) next.1.0 ∙ line_early types line.0 next.0 next.1.1
          ∙ ap (λ (l : Option ObjectLine). map number (filter_map (early_in types l) (range_with_len 0 (length (values_in l))))) (sym line.1);
      named = λ x low.
          let line = element objects x low in
          let next = lines (number x) x line.0 (place x low) line.1 in
          ap (λ (l : Option ObjectLine). named_in (values_in l)) next.1.0 ∙ ap named_in next.1.1.values ∙ renumbered_named (line_values line.0)
          ∙ ap (λ (l : Option ObjectLine). map number (named_in (values_in l))) (sym line.1);
      globals = renumbered_held globals other same;
    }

    -- an image of these lines stands in turn
    pub in_turn : (image : ImageParts) (well : IsWellImage image) → types ≡ well.types → image.objects ≡ new → image.globals ≡ map other globals → length new ≡ length order
        → IsNumbering (graph_of types objects globals) (length objects) order → IsInTurn image well
    in_turn image well types_are objects_are globals_are long numbering =
        let counted : length new ≡ length objects = long ∙ order_long (early_named types objects) (length objects) order is_order in
        let within = lines_within types objects globals closed held in
        let reached_new : GlobalsReachAll new (map other globals) = subst (GlobalsReachAll new) globals_are (subst (λ ls. GlobalsReachAll ls image.globals) objects_are well.reached) in
        let reached : AreAllReached (graph_of types new (map other globals)) (length objects) =
        subst (AreAllReached (graph_of types new (map other globals))) counted (lines_reached types new (map other globals) reached_new) in
        let all = reached_before (graph_of types objects globals) (graph_of types new (map other globals)) (length objects) number renames within reached place_low in
        let turn : IsNumbering (graph_of types new (map other globals)) (length objects) (range_with_len 0 (length objects)) =
        numbering_in_turn (graph_of types objects globals) (graph_of types new (map other globals)) (length objects) number renames within all (early_named types objects) order is_order places numbering in
        let here : IsNumbering (graph_of types new (map other globals)) (length new) (range_with_len 0 (length new)) =
        subst (λ n. IsNumbering (graph_of types new (map other globals)) n (range_with_len 0 n)) (sym counted) turn in
        subst (λ ts. IsNumbering (graph_of ts image.objects image.globals) (length image.objects) (range_with_len 0 (length image.objects))) types_are
        (subst (λ gs. IsNumbering (graph_of types image.objects gs) (length image.objects) (range_with_len 0 (length image.objects))) (sym globals_are)
        (subst (λ ls. IsNumbering (graph_of types ls (map other globals)) (length ls) (range_with_len 0 (length ls))) (sym objects_are) here))
