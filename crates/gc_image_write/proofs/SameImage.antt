-- Two images of one table whose objects stand in the order that the rule gives are the same.
use Rattle.std.proofs.Common.{◌≡◌, ℕ, ◌≤◌, ◌<◌, List, [], length, map, Some, sym, ap, subst, ◌∙◌, arith}
use Rattle.std.specs.List.{range_with_len, slice_get}
use Rattle.std.proofs.lemmas.Option.{same_Some, slice_get_within}
use Rattle.std.proofs.lemmas.Simd.{map-map}
use Rattle.gc_model.specs.Table.{Table}
use Rattle.gc_model.specs.Values.{Object}
use Rattle.gc_image.specs.Declaring.{DeclareInTurn}
use Rattle.gc_image.specs.Images.{Images, ImagesText, placed_object}
use Rattle.gc_image.specs.Parts.{ImageParts}
use Rattle.gc_image.specs.Text.{FitsImage, image_text}
use Rattle.gc_image.specs.Well.{IsWellImage, as_object}
use Rattle.gc_image.proofs.TextLemmas.{one_text}
use Rattle.gc_image.proofs.TurnLemmas.{one_turn}
use Rattle.gc_image.proofs.AlikeLemmas.{number_of}
use Rattle.gc_image_write.specs.Graphs.{graph_of}
use Rattle.gc_image_write.specs.InTurn.{ImagesInTurn, IsInTurn}
use Rattle.gc_image_write.specs.Renaming.{Renames}
use Rattle.gc_image_write.specs.Visiting.{IsNumbering, IsVisited}
use Rattle.gc_image_write.proofs.CommandBack.{commands_one}
use Rattle.gc_image_write.proofs.FewLemmas.{few_apart}
use Rattle.gc_image_write.proofs.GlobalBack.{lines_back}
use Rattle.gc_image_write.proofs.ImageBack.{all_reached, back, back_position, early_there, globals_are, globals_there, graph, line_is, named_there, object_there, position_back, reached_position, there, within}
use Rattle.gc_image_write.proofs.LineBack.{object_back}
use Rattle.gc_image_write.proofs.PickLemmas.{map_back, same_list}
use Rattle.gc_image_write.proofs.ReachLemmas.{numbering_renamed}
use Rattle.gc_image_write.proofs.RenameLemmas.{renamed_at}
use Rattle.gc_image_write.proofs.TakeLemmas.{range_at}
use Rattle.gc_image_write.proofs.WordLemmas.{element}

-- the number in one image of an object of another
module _ (t : Table ℕ) (one two : ImageParts) (i : Images t one) (j : Images t two) (f : FitsImage one) (g : FitsImage two) where
  abbrev name : ℕ → ℕ
  name x = back t two j g (i.position x)

  name_low : (x : ℕ) → x < length one.objects → name x < length two.objects
  name_low x low = (position_back t two j g (i.position x) (reached_position t one i f x low)).0

  position_name : (x : ℕ) → x < length one.objects → j.position (name x) ≡ i.position x
  position_name x low = (position_back t two j g (i.position x) (reached_position t one i f x low)).1

  name_apart : (x y : ℕ) → x < length one.objects → y < length one.objects → name x ≡ name y → x ≡ y
  name_apart x y low also same =
      let alike : i.position x ≡ i.position y = sym (position_name x low) ∙ ap j.position same ∙ position_name y also in
      sym (back_position t one i f x low) ∙ ap (back t one i f) alike ∙ back_position t one i f y also

  no_fewer : length one.objects ≤ length two.objects
  no_fewer = few_apart (length two.objects) (length one.objects) name name_low name_apart

  name_onto : (y : ℕ) → y < length two.objects → (x : ℕ) × ((x < length one.objects) × (name x ≡ y))
  name_onto y low =
      let at_one = position_back t one i f (j.position y) (reached_position t two j g y low) in
      (back t one i f (j.position y), (at_one.0, ap (back t two j g) at_one.1 ∙ back_position t two j g y low))

  -- lists of numbers that name the same positions
  carried : (xs ys : List ℕ) → ((y : ℕ) → IsVisited ys y → y < length two.objects) → map i.position xs ≡ map j.position ys → ys ≡ map name xs
  carried xs ys low same =
      sym (map_back j.position (back t two j g) ys (λ y stands. back_position t two j g y (low y stands))) ∙ ap (map (back t two j g)) (sym same) ∙ map-map (back t two j g) i.position xs

  object_at : (x : ℕ) → x < length one.objects → (o : Object ℕ) × ((slice_get t.objects (i.position x) ≡ Some o) × (slice_get t.objects (j.position (name x)) ≡ Some o))
  object_at x low =
      let line = element one.objects x low in
      let is = object_there t one i f x line.0 line.1 in
      (placed_object i.position (as_object line.0), (is, ap (slice_get t.objects) (position_name x low) ∙ is))

  renames : length two.objects ≡ length one.objects → Renames (graph t one i f) (graph t two j g) (length one.objects) name
  renames counts = record {
    apart = name_apart;
    onto = λ y low. name_onto y (omega (arith, low, counts));
    early = λ x low.
        let o = object_at x low in
        carried ((graph t one i f).early x) ((graph t two j g).early (name x)) (λ y stands. (within t two j g).early (name x) y (name_low x low) stands)
        (early_there t one i f x o.0 low o.1.0 ∙ sym (early_there t two j g (name x) o.0 (name_low x low) o.1.1));
    named = λ x low.
        let o = object_at x low in
        carried ((graph t one i f).named x) ((graph t two j g).named (name x)) (λ y stands. (within t two j g).named (name x) y (name_low x low) stands)
        (named_there t one i f x o.0 low o.1.0 ∙ sym (named_there t two j g (name x) o.0 (name_low x low) o.1.1));
    globals =
        carried (graph t one i f).globals (graph t two j g).globals (λ y stands. (within t two j g).globals y stands) (globals_there t one i f ∙ sym (globals_there t two j g));
  }

-- both stand in the order
module _ (t : Table ℕ) (one two : ImageParts) (i : Images t one) (j : Images t two) (f : FitsImage one) (g : FitsImage two) (mine : IsInTurn one i.well) (theirs : IsInTurn two j.well) where
  counts : length two.objects ≡ length one.objects
  counts = omega (arith, no_fewer t one two i j f g, no_fewer t two one j i g f)

  abbrev to : ℕ → ℕ
  to = name t one two i j f g

  range_named : range_with_len 0 (length one.objects) ≡ map to (range_with_len 0 (length one.objects))
  range_named =
      numbering_renamed (graph t one i f) (graph t two j g) (length one.objects) to (renames t one two i j f g counts) (within t one i f) (all_reached t one i f)
      (range_with_len 0 (length one.objects)) (range_with_len 0 (length one.objects)) mine (subst (λ n. IsNumbering (graph t two j g) n (range_with_len 0 n)) counts theirs)

  to_same : (x : ℕ) → x < length one.objects → to x ≡ x
  to_same x low =
      let range = range_with_len 0 (length one.objects) in
      let here = range_at (length one.objects) x low in
      same_Some (to x) x (sym (renamed_at to range x x here) ∙ ap (λ xs. slice_get xs x) (sym range_named) ∙ here)

  same_position : (x : ℕ) → x < length one.objects → j.position x ≡ i.position x
  same_position x low = ap j.position (sym (to_same x low)) ∙ position_name t one two i j f g x low

  same_positions : i.positions ≡ j.positions
  same_positions =
      let one_long = i.numbered in let two_long = j.numbered in
      same_list i.positions j.positions (omega (arith, one_long, two_long, counts)) (λ n p at_n.
      let low : n < length one.objects = omega (arith, one_long, slice_get_within i.positions n p at_n) in
      there t two j g n (omega (arith, low, counts)) ∙ ap Some (same_position n low ∙ i.position_is n p at_n))

  same_back : back t one i f ≡ back t two j g
  same_back = ap (λ (ps : List ℕ). λ (p : ℕ). number_of ps p) same_positions

  same_objects : one.objects ≡ two.objects
  same_objects =
      same_list one.objects two.objects (sym counts) (λ n line at_line.
      let low : n < length one.objects = slice_get_within one.objects n line at_line in
      let other = element two.objects n (omega (arith, low, counts)) in
      let o = placed_object i.position (as_object line) in
      let at_one = object_there t one i f n line at_line in
      let first = line_is t one i f n line o at_line at_one in
      let second = line_is t two j g n other.0 o other.1 (ap (slice_get t.objects) (same_position n low) ∙ at_one) in
      other.1 ∙ ap Some (sym second ∙ ap (λ b. object_back b t.types o) (sym same_back) ∙ first))

  same_globals : one.globals ≡ two.globals
  same_globals = globals_are t one i f ∙ ap (λ b. lines_back b 0 t.globals) same_back ∙ sym (globals_are t two j g)

  same_types : one.types ≡ two.types
  same_types =
      commands_one [] one.types two.types t.types (subst (DeclareInTurn [] one.types) (sym i.types) i.well.declared) (subst (DeclareInTurn [] two.types) (sym j.types) j.well.declared) f.types g.types

  pub same_image : one ≡ two
  same_image = λ k. record { types = same_types k; objects = same_objects k; globals = same_globals k }

-- whether an image's objects stand in that order hangs on the image alone
in_turn_again : (x y : ImageParts) → x ≡ y → (w : IsWellImage x) → IsInTurn x w → (v : IsWellImage y) → IsInTurn y v
in_turn_again x y same w in_turn =
    subst (λ z. (v : IsWellImage z) → IsInTurn z v) same
    (λ v. subst (λ types. IsNumbering (graph_of types x.objects x.globals) (length x.objects) (range_with_len 0 (length x.objects))) (one_turn [] x.types w.types v.types w.declared v.declared) in_turn)

-- what is written of a table that was read from such a text is that text
pub text_again : (t t' : Table ℕ) (bytes again : List ℕ) → ImagesInTurn t bytes → ImagesText t' bytes → ImagesInTurn t' again → again ≡ bytes
text_again t t' bytes again first read second =
    let same = one_text first.text.image read.image first.text.fits read.fits (sym first.text.spelled ∙ read.spelled) in
    let in_turn = in_turn_again first.text.image read.image same first.text.images.well first.in_turn read.images.well in
    let images = same_image t' read.image second.text.image read.images second.text.images read.fits second.text.fits in_turn second.in_turn in
    second.text.spelled ∙ ap image_text (sym images) ∙ sym read.spelled
