-- What was written of a collection is an image of its table.
use Rattle.std.proofs.Common.{◌≡◌, ◌<◌, ◌+◌, ◌^◌, ℕ, true, List, length, map, option_map, Option, None, Some, refl, sym, ap, ◌∙◌, subst, arith, unwrap_or}
use Rattle.std.specs.List.{slice_get}
use Rattle.std.proofs.lemmas.List.{length-map}
use Rattle.std.proofs.lemmas.Option.{none-some, same_Some, slice_get_within}
use Rattle.gc_types.specs.declared.value.FieldType.{FieldType}
use Rattle.gc_types.specs.Declarations.{Declaration}
use Rattle.gc_owner.specs.declared.entry.GcClass.{GcClass}
use Rattle.gc_owner.specs.declared.entry.GcClass.TheVariants as class
use Rattle.gc_model.specs.Holds.{TypedBy}
use Rattle.gc_model.specs.Reach.{object_values}
use Rattle.gc_model.specs.Stored.{stored, value_type}
use Rattle.gc_model.specs.Table.{Slot, Table}
use Rattle.gc_model.specs.Values.{Object, Reference, at, null, reference}
use Rattle.gc_model.specs.Values as model
use Rattle.gc_model.proofs.Members.{get_contains}
use Rattle.gc_commands.specs.declared.command.Command.{Command}
use Rattle.gc_image.specs.declared.image.GlobalLine.{GlobalLine}
use Rattle.gc_image.specs.declared.image.ImageReference.{ImageReference}
use Rattle.gc_image.specs.declared.image.ImageReference.TheVariants as image_reference
use Rattle.gc_image.specs.declared.image.ImageValue.{ImageValue}
use Rattle.gc_image.specs.declared.image.ImageValue.TheVariants as value
use Rattle.gc_image.specs.declared.image.ObjectLine.{ObjectLine}
use Rattle.gc_image.specs.declared.image.ObjectLine.TheVariants as object
use Rattle.gc_image.specs.Images.{AreGlobals, Images, ImagesText, SaysSlot, placed_object, placed_value}
use Rattle.gc_image.specs.Parts.{ImageParts}
use Rattle.gc_image.specs.Text.{FitsImage, FitsObject}
use Rattle.gc_image.specs.Well.{GlobalsReachAll, AreRising, AreWellGlobals, AreWellObjects, HasShape, HoldsReference, GlobalHolds, IsWellGlobal, IsWellValue, as_object, as_value, line_values, number_named}
use Rattle.gc_image.proofs.AlikeLemmas.{element_at}
use Rattle.gc_save_image.specs.Collection.{IsCollection}
use Rattle.gc_save_image.specs.declared.collect.Collected.{Collected}
use Rattle.gc_image_write.specs.Graphs.{graph_of}
use Rattle.gc_image_write.specs.InTurn.{IsInTurn}
use Rattle.gc_image_write.specs.Order.{AreClosed, NamesBelow, IsOrder, early_in, early_named, early_of, is_early_in}
use Rattle.gc_image_write.specs.TypeWords.{AreTypeCommands}
use Rattle.gc_image_write.specs.Visiting.{IsNumbering}
use Rattle.gc_image_write.proofs.RenumberLemmas.{in_turn}
use Rattle.gc_save_image.specs.Keeping.{AreKept, IsKeptIn}
use Rattle.gc_save_image.specs.Renumbering.{AreNumbersOf, IsWritten, image_by, line_at, new_number_in, renumbered_global, renumbered_line, renumbered_value, reordered}
use Rattle.gc_save_image.proofs.Elements.{all_each, map_at, mapped}
use Rattle.gc_save_image.proofs.FitsPlaced.{fits_placed}
use Rattle.gc_save_image.proofs.Numbering.{LineAt, all, goes, line_of, number_is, object_is, position, position_is, positions}
use Rattle.gc_save_image.proofs.Reached.{reached_from}
use Rattle.gc_save_image.proofs.Renumbered.{global_fits, kept_again, line_fits, named_again, reference_again, shape_again, type_again, values_are}

-- the value at an index of an object that a line is, under any positions
pub value_there : (position : ℕ → ℕ) (line : ObjectLine) (index : ℕ) (v : ImageValue) → slice_get (line_values line) index ≡ Some v
    → slice_get (object_values (placed_object position (as_object line))) index ≡ Some (placed_value position (as_value v))
value_there position (object.Struct ty values) index v e = map_at (placed_value position) (map as_value values) index (as_value v) (map_at as_value values index v e)
value_there position (object.Array ty values) index v e = map_at (placed_value position) (map as_value values) index (as_value v) (map_at as_value values index v e)
value_there position (object.Bytes ty bytes) index v e = absurd (none-some v e)
value_there position (object.Host n) index v e = absurd (none-some v e)
value_there position (object.Exn ty tag values) index v e = map_at (placed_value position) (map as_value values) index (as_value v) (map_at as_value values index v e)

pub placed_type : (types : List Declaration) (position : ℕ → ℕ) (line : ObjectLine) (index : ℕ) → value_type types (placed_object position (as_object line)) index ≡ value_type types (as_object line) index
placed_type types position (object.Struct ty values) index = refl
placed_type types position (object.Array ty values) index = refl
placed_type types position (object.Bytes ty bytes) index = refl
placed_type types position (object.Host n) index = refl
placed_type types position (object.Exn ty tag values) index = refl

-- what a number of an image was before
old_number : (number : ℕ → ℕ) (o : Option ℕ) (n : ℕ) → option_map number o ≡ Some n → (old : ℕ) × ((o ≡ Some old) × (number old ≡ n))
old_number number None n e = absurd (none-some n e)
old_number number (Some old) n e = (old, (refl, same_Some (number old) n e))

null_apart : (own class : GcClass) (n : ℕ) → reference own null ≡ reference class (at n) → ⊥
null_apart own class n e = cc e

small_apart : (own class : GcClass) (k n : ℕ) → reference own (model.small k) ≡ reference class (at n) → ⊥
small_apart own class k n e = cc e

-- a value that is a reference to an object names its number
names_at : (v : ImageValue) (class : GcClass) (r : Reference) (n : ℕ) → as_value v ≡ reference class r → r ≡ at n → number_named v ≡ Some n
names_at (value.I32 k) class r n e is = absurd (cc e)
names_at (value.I64 k) class r n e is = absurd (cc e)
names_at (value.F32 k) class r n e is = absurd (cc e)
names_at (value.F64 k) class r n e is = absurd (cc e)
names_at (value.V128 k) class r n e is = absurd (cc e)
names_at (value.Ref own image_reference.Null) class r n e is = absurd (null_apart own class n (e ∙ ap (reference class) is))
names_at (value.Ref own (image_reference.Small k)) class r n e is = absurd (small_apart own class k n (e ∙ ap (reference class) is))
names_at (value.Ref own (image_reference.Object k)) class r n e is = ap Some (same own class k n (e ∙ ap (reference class) is))
  where
    same : (own class : GcClass) (k n : ℕ) → reference own (at k) ≡ reference class (at n) → k ≡ n
    same own class k n e = cc e

-- what a global's line names is an object
pub holds_below : (count : ℕ) (v : ImageValue) → HoldsReference count v → NamesBelow count v
holds_below count (value.Ref k image_reference.Null) holds n named = absurd (none-some n named)
holds_below count (value.Ref k (image_reference.Small m)) holds n named = absurd (none-some n named)
holds_below count (value.Ref class.Any (image_reference.Object m)) holds n named = subst (λ k. k < count) (same_Some m n named) holds
holds_below count (value.Ref class.Extern (image_reference.Object m)) holds n named = subst (λ k. k < count) (same_Some m n named) holds
holds_below count (value.Ref class.Exn (image_reference.Object m)) holds n named = subst (λ k. k < count) (same_Some m n named) holds
holds_below count (value.I32 m) holds n named = absurd holds
holds_below count (value.I64 m) holds n named = absurd holds
holds_below count (value.F32 m) holds n named = absurd holds
holds_below count (value.F64 m) holds n named = absurd holds
holds_below count (value.V128 m) holds n named = absurd holds

-- a collection, and what was written of it
module _ (t : Table ℕ) (collected : Collected) (c : IsCollection t collected) (typed : TypedBy t.types t.objects) (kept : AreKept t.types collected.objects.items) (order numbers : List ℕ)
    (ordered : IsOrder (early_named t.types collected.objects.items) (length collected.objects.items) order) (are : AreNumbersOf order numbers) where
  abbrev early : ℕ → ℕ → Option ℕ
  early = early_named t.types collected.objects.items

  abbrev number : ℕ → ℕ
  number = new_number_in numbers

  abbrev lines : List ObjectLine
  lines = reordered number collected.objects.items order

  abbrev globals : List GlobalLine
  globals = map (renumbered_global number) collected.globals.items

  abbrev place : ℕ → ℕ
  place = position t collected c early order numbers ordered are

  abbrev places : List ℕ
  places = positions t collected c early order numbers ordered are

  abbrev IsLine : ℕ → ObjectLine → Type 0
  IsLine n new = LineAt t collected c early order numbers ordered are n new

  line_count : length lines ≡ length order
  line_count = length-map order _

  numbered : length places ≡ length lines
  numbered = length-map order c.position ∙ sym line_count

  -- an old number that is one of an object has a new one
  new_number : (old : ℕ) → old < length collected.objects.items → number old < length order
  new_number old below =
      let n = ordered.all old below in
      subst (λ k. k < length order) (sym (number_is t collected c early order numbers ordered are n.0 old n.1)) (slice_get_within order n.0 old n.1)

  closed : AreClosed lines
  closed from index named new v at_new at_v names =
      let line = line_of t collected c early order numbers ordered are from new at_new in
      let at_old = mapped (renumbered_value number) (line_values line.line) index v (ap (λ vs. slice_get vs index) (sym (values_are number line.line) ∙ ap line_values line.is) ∙ at_v) in
      let old = old_number number (number_named at_old.of) named (sym (named_again number at_old.of) ∙ ap number_named at_old.is ∙ names) in
      let below = new_number old.0 (line.named index at_old.of at_old.there old.0 old.1.0) in
      subst (λ k. k < length lines) old.1.1 (let same = line_count in omega (arith, below, same))

  -- an image's objects stand at the positions of their numbers
  there : (n : ℕ) → n < length lines → slice_get t.objects (place n) ≡ option_map (placed_object place) (slice_get (map as_object lines) n)
  there n below =
      let new = element_at lines n below in
      let p = element_at places n (let same = numbered in omega (arith, below, same)) in
      ap (slice_get t.objects) (position_is t collected c early order numbers ordered are n p.0 p.1)
      ∙ object_is t collected c early order numbers ordered are n p.0 new.0 p.1 new.1
      ∙ ap (option_map (placed_object place)) (sym (map_at as_object lines n new.0 new.1))

  well_value : (n : ℕ) (new : ObjectLine) (index : ℕ) (v : ImageValue) → slice_get lines n ≡ Some new → slice_get (line_values new) index ≡ Some v → IsWellValue t.types (map as_object lines) n new index v
  well_value n new index v at_new at_v =
      let line = line_of t collected c early order numbers ordered are n new at_new in
      let at_old = mapped (renumbered_value number) (line_values line.line) index v (ap (λ vs. slice_get vs index) (sym (values_are number line.line) ∙ ap line_values line.is) ∙ at_v) in
      let p = element_at places n (let within = slice_get_within lines n new at_new in let same = numbered in omega (arith, within, same)) in
      let there_new = object_is t collected c early order numbers ordered are n p.0 new p.1 at_new in
      let is = typed p.0 index (placed_object place (as_object new)) (placed_value place (as_value v)) there_new (value_there place new index v at_v) in
      let field_new : value_type t.types (as_object new) index ≡ Some is.field = sym (placed_type t.types place new index) ∙ is.field_is in
      let field_old : value_type t.types (as_object line.line) index ≡ Some is.field =
      sym (type_again number t.types line.line index) ∙ ap (λ (l : ObjectLine). value_type t.types (as_object l) index) line.is ∙ field_new in
      let kept_old = subst (λ (o : Option FieldType). IsKeptIn o at_old.of) field_old (kept line.old line.line line.there index at_old.of at_old.there) in
      record {
        field = is.field;
        field_is = field_new;
        is_fit =
            fits_placed t.types place t.objects (map as_object lines) is.field.element_type (as_value v)
            (λ class r e m names. there m (closed n index m new v at_new at_v (names_at v class r m e names))) is.is_fit;
        is_stored = subst (λ (w : ImageValue). stored is.field.element_type (as_value w) ≡ as_value w) at_old.is (kept_again number is.field.element_type at_old.of kept_old);
        early = λ must named names.
            let old = old_number number (number_named at_old.of) named (sym (named_again number at_old.of) ∙ ap number_named at_old.is ∙ names) in
            let needs : early line.old index ≡ Some old.0 =
            ap (λ (o : Option ObjectLine). early_in t.types o index) line.there
            ∙ ap (λ b. early_of b (slice_get (line_values line.line) index)) (ap is_early_in field_old ∙ must)
            ∙ ap (early_of true) at_old.there ∙ old.1.0 in
            let before = ordered.behind n line.old old.0 line.at_old (index, needs) in
            subst (λ k. k < n) (sym (number_is t collected c early order numbers ordered are before.0 old.0 before.1.1) ∙ old.1.1) before.1.0;
      }

  objects_well : AreWellObjects t.types lines
  objects_well n new at_new =
      let line = line_of t collected c early order numbers ordered are n new at_new in
      record {
        shape = subst (HasShape t.types) line.is (shape_again number t.types line.line line.says.shape);
        values = λ index v at_v. well_value n new index v at_new at_v;
      }

  -- Globals

  new_below : (old : ℕ) → old < length c.positions → number old < length lines
  new_below old below =
      let small = new_number old (let same = c.numbered in omega (arith, below, same)) in
      let same = line_count in omega (arith, small, same)

  holds_again : (v : ImageValue) → HoldsReference (length c.positions) v → HoldsReference (length lines) (renumbered_value number v)
  holds_again (value.Ref class.Any image_reference.Null) holds = holds
  holds_again (value.Ref class.Extern image_reference.Null) holds = tt
  holds_again (value.Ref class.Exn image_reference.Null) holds = tt
  holds_again (value.Ref class.Any (image_reference.Small n)) holds = tt
  holds_again (value.Ref class.Extern (image_reference.Small n)) holds = tt
  holds_again (value.Ref class.Exn (image_reference.Small n)) holds = tt
  holds_again (value.Ref class.Any (image_reference.Object old)) holds = new_below old holds
  holds_again (value.Ref class.Extern (image_reference.Object old)) holds = new_below old holds
  holds_again (value.Ref class.Exn (image_reference.Object old)) holds = new_below old holds
  holds_again (value.I32 n) holds = absurd holds
  holds_again (value.I64 n) holds = absurd holds
  holds_again (value.F32 n) holds = absurd holds
  holds_again (value.F64 n) holds = absurd holds
  holds_again (value.V128 n) holds = absurd holds

  global_named : (i : ℕ) (line : GlobalLine) → slice_get collected.globals.items i ≡ Some line → NamesBelow (length collected.objects.items) line.value
  global_named i line e = λ n named. (let small = holds_below (length c.positions) line.value (c.well i line e).1 n named in let same = c.numbered in omega (arith, small, same))

  globals_well : AreWellGlobals (length lines) globals
  globals_well i line e =
      let old = mapped (renumbered_global number) collected.globals.items i line e in
      let well = c.well i old.of old.there in
      subst (IsWellGlobal (length lines)) old.is (well.0, holds_again old.of.value well.1)

  rising : AreRising globals
  rising i one next at_one at_next =
      let a = mapped (renumbered_global number) collected.globals.items i one at_one in
      let b = mapped (renumbered_global number) collected.globals.items (i + 1) next at_next in
      subst (λ k. k < next.index) (ap (λ (g : GlobalLine). g.index) a.is)
      (subst (λ k. a.of.index < k) (ap (λ (g : GlobalLine). g.index) b.is) (c.rising i a.of b.of a.there b.there))

  says_again : (v : ImageValue) (slot : Slot) → NamesBelow (length collected.objects.items) v → SaysSlot c.position v slot → SaysSlot place (renumbered_value number v) slot
  says_again (value.Ref k r) slot below says =
      says
      ∙ ap (λ (x : Reference). record { class = k; reference = x })
      (sym (reference_again number c.position place (length collected.objects.items) (goes t collected c early order numbers ordered are) r (λ old is. below old (ap (λ (x : ImageReference). number_named (value.Ref k x)) is))))
  says_again (value.I32 n) slot below says = says
  says_again (value.I64 n) slot below says = says
  says_again (value.F32 n) slot below says = says
  says_again (value.F64 n) slot below says = says
  says_again (value.V128 n) slot below says = says

  said : AreGlobals place globals t.globals
  said = record {
    said = λ i line e.
        let old = mapped (renumbered_global number) collected.globals.items i line e in
        let was = c.globals.said i old.of old.there in
        subst (λ (g : GlobalLine). (slot : Slot) × ((slice_get t.globals g.index ≡ Some slot) × SaysSlot place g.value slot)) old.is
        (was.0, (was.1.0, says_again old.of.value was.0 (global_named i old.of old.there) was.1.1));
    unsaid = λ k slot e none. c.globals.unsaid k slot e (λ i line at_line. none i (renumbered_global number line) (map_at (renumbered_global number) collected.globals.items i line at_line));
  }

  held : (n : ℕ) → GlobalHolds globals n → n < length lines
  held n is = holds_below (length lines) is.1.value (globals_well is.0 is.1 is.2.0).1 n is.2.1

  reached : GlobalsReachAll lines globals
  reached n below =
      let p = element_at places n (let same = numbered in omega (arith, below, same)) in
      let are_all = all t collected c early order numbers ordered are in
      reached_from t lines globals places place numbered are_all (position_is t collected c early order numbers ordered are) (object_is t collected c early order numbers ordered are) said closed held n p.0 p.1
      ((are_all.all p.0).0 (get_contains places n p.0 p.1))

  -- what was collected names objects alone
  closed_before : AreClosed collected.objects.items
  closed_before from index named line v at_line at_v names =
      let within = slice_get_within collected.objects.items from line at_line in
      let p = element_at c.positions from (let same = c.numbered in omega (arith, within, same)) in
      let low = (c.objects from p.0 line p.1 at_line).named index named v at_v names in
      let same = c.numbered in omega (arith, low, same)

  held_before : (n : ℕ) → GlobalHolds collected.globals.items n → n < length collected.objects.items
  held_before n is = global_named is.0 is.1 is.2.0 n is.2.1

  -- The image of what was collected

  module _ (commands : List Command) (are_commands : AreTypeCommands t.types commands) (few : length order < 2 ^ 64) where
    abbrev image : ImageParts
    image = image_by commands collected.objects.items collected.globals.items order numbers

    pub is_image : Images t image
    is_image = record {
      well = record { types = t.types; declared = are_commands.declare; objects = objects_well; globals = globals_well; rising = rising; reached = reached };
      types = refl;
      positions = places;
      numbered = numbered;
      all = all t collected c early order numbers ordered are;
      position = place;
      position_is = position_is t collected c early order numbers ordered are;
      objects = object_is t collected c early order numbers ordered are;
      globals = said;
    }

    small : (old : ℕ) → old < length collected.objects.items → number old < 2 ^ 64
    small old below = let low = new_number old below in omega (arith, low, few)

    pub image_fits : FitsImage image
    image_fits = record {
      types = are_commands.fit;
      few = (let same = line_count in omega (arith, same, few));
      objects = all_each FitsObject lines (λ n new at_new.
          let line = line_of t collected c early order numbers ordered are n new at_new in
          subst FitsObject line.is (line_fits number (length collected.objects.items) small line.line line.named line.says.fits));
      globals = global_fits number (length collected.objects.items) small collected.globals.items global_named c.fit;
    }

    -- its objects stand in the order that the rule gives
    pub image_in_turn : IsNumbering (graph_of t.types collected.objects.items collected.globals.items) (length collected.objects.items) order → IsInTurn image is_image.well
    image_in_turn numbering =
        in_turn number (renumbered_value number) (named_again number) t.types collected.objects.items collected.globals.items closed_before held_before order ordered
        (number_is t collected c early order numbers ordered are) lines
        (λ n x line at_order at_line. (
          renumbered_line number line,
          (
            map_at (λ old. renumbered_line number (line_at collected.objects.items old)) order n x at_order ∙ ap (λ (o : Option ObjectLine). Some (renumbered_line number (unwrap_or o (object.Host 0)))) at_line,
            record { values = values_are number line; typed = type_again number t.types line },
          ),
        ))
        (renumbered_global number) (λ g. refl) image is_image.well is_image.types refl refl line_count numbering

-- what was written of a collection is the text of an image
pub images_text : (t : Table ℕ) (collected : Collected) → IsCollection t collected → TypedBy t.types t.objects → (commands : List Command) → AreTypeCommands t.types commands → (bytes : List ℕ)
    → IsWritten t.types commands collected.objects.items collected.globals.items bytes → ImagesText t bytes
images_text t collected c typed commands are_commands bytes written = record {
  image = image_by commands collected.objects.items collected.globals.items written.order written.numbers;
  fits = image_fits t collected c typed written.kept written.order written.numbers written.ordered written.are commands are_commands written.few;
  spelled = written.spelled;
  images = is_image t collected c typed written.kept written.order written.numbers written.ordered written.are commands are_commands written.few;
}

pub text_in_turn : (t : Table ℕ) (collected : Collected) (c : IsCollection t collected) (typed : TypedBy t.types t.objects) (commands : List Command) (are_commands : AreTypeCommands t.types commands) (bytes : List ℕ)
    (written : IsWritten t.types commands collected.objects.items collected.globals.items bytes) → IsInTurn (images_text t collected c typed commands are_commands bytes written).image (images_text t collected c typed commands are_commands bytes written).images.well
unfolding images_text
text_in_turn t collected c typed commands are_commands bytes written =
    image_in_turn t collected c typed written.kept written.order written.numbers written.ordered written.are commands are_commands written.few written.numbering
