-- Objects that need each other, by their lines and in the table.
use Rattle.std.proofs.Common.{◌≡◌, ◌<◌, ◌+◌, ℕ, zero, suc, Bool, true, false, List, map, Option, None, Some, refl, sym, ap, ◌∙◌, subst, arith, if◌then◌else◌}
use Rattle.std.specs.List.{slice_get}
use Rattle.std.proofs.lemmas.List.{length-map}
use Rattle.std.proofs.lemmas.Option.{none-some, same_Some, slice_get_within}
use Rattle.gc_types.specs.declared.value.FieldType.{FieldType}
use Rattle.gc_types.specs.Declarations.{Declaration}
use Rattle.gc_owner.specs.declared.entry.GcClass.{GcClass}
use Rattle.gc_model.specs.Reach.{object_values}
use Rattle.gc_model.specs.Stored.{value_type}
use Rattle.gc_model.specs.Table.{Table}
use Rattle.gc_model.specs.Values.{Object, at, reference}
use Rattle.gc_model.proofs.Members.{contains_get, get_contains}
use Rattle.gc_image.specs.declared.image.ImageReference.TheVariants as image_reference
use Rattle.gc_image.specs.declared.image.ImageValue.{ImageValue}
use Rattle.gc_image.specs.declared.image.ImageValue.TheVariants as value
use Rattle.gc_image.specs.declared.image.ObjectLine.{ObjectLine}
use Rattle.gc_image.specs.Images.{Images, IsGlobal, placed_object, placed_value}
use Rattle.gc_image.specs.Parts.{ImageParts}
use Rattle.gc_image.specs.Well.{as_object, as_value, is_early, line_values, number_named}
use Rattle.gc_image.proofs.AlikeLemmas.{element_at}
use Rattle.gc_save_image.specs.Collection.{IsCollection}
use Rattle.gc_save_image.specs.declared.collect.Collected.{Collected}
use Rattle.gc_image_write.specs.Order.{AreTangled, Needs, early_in, early_named, early_of, is_early_in}
use Rattle.gc_save_image.specs.Saves.{IsTangled, NeedsEarly}
use Rattle.gc_save_image.proofs.Elements.{map_at, mapped}
use Rattle.gc_save_image.proofs.Imaging.{placed_type, value_there}
use Rattle.gc_save_image.proofs.Reached.{reference_said, value_names}

-- A line names a number early.
record NamesEarly (types : List Declaration) (line : ObjectLine) (index y : ℕ) : Type 0 where
  v : ImageValue
  at_v : slice_get (line_values line) index ≡ Some v
  named : number_named v ≡ Some y
  field : FieldType
  field_is : value_type types (as_object line) index ≡ Some field
  is : is_early field ≡ true

names_early : (types : List Declaration) (line : ObjectLine) (index y : ℕ) (field : Option FieldType) (v : Option ImageValue) → value_type types (as_object line) index ≡ field → slice_get (line_values line) index ≡ v
    → early_of (is_early_in field) v ≡ Some y → NamesEarly types line index y
names_early types line index y field None at_field at_v e = absurd (none-some y e)
names_early types line index y None (Some v) at_field at_v e = absurd (none-some y e)
names_early types line index y (Some field) (Some v) at_field at_v e = by (is_early field) refl e
  where
    by : (b : Bool) → is_early field ≡ b → (if b then number_named v else None) ≡ Some y → NamesEarly types line index y
    by false is e = absurd (none-some y e)
    by true is e = record { v = v; at_v = at_v; named = e; field = field; field_is = at_field; is = is }

-- an object's line that names a number early
line_early : (types : List Declaration) (objects : List ObjectLine) (x index y : ℕ) (o : Option ObjectLine) → slice_get objects x ≡ o → early_in types o index ≡ Some y
    → (line : ObjectLine) × ((slice_get objects x ≡ Some line) × NamesEarly types line index y)
line_early types objects x index y None at_x e = absurd (none-some y e)
line_early types objects x index y (Some line) at_x e = (line, (at_x, names_early types line index y (value_type types (as_object line) index) (slice_get (line_values line) index) refl refl e))

-- the reference that a value which names a number is
reference_of : (v : ImageValue) (y : ℕ) (position : ℕ → ℕ) → number_named v ≡ Some y → (class : GcClass) × (placed_value position (as_value v) ≡ reference class (at (position y)))
reference_of (value.Ref class image_reference.Null) y position e = absurd (none-some y e)
reference_of (value.Ref class (image_reference.Small n)) y position e = absurd (none-some y e)
reference_of (value.Ref class (image_reference.Object n)) y position e = (class, ap (λ k. reference class (at (position k))) (same_Some n y e))
reference_of (value.I32 n) y position e = absurd (none-some y e)
reference_of (value.I64 n) y position e = absurd (none-some y e)
reference_of (value.F32 n) y position e = absurd (none-some y e)
reference_of (value.F64 n) y position e = absurd (none-some y e)
reference_of (value.V128 n) y position e = absurd (none-some y e)

-- where lines need each other, so do the objects
module _ (t : Table ℕ) (collected : Collected) (c : IsCollection t collected) where
  needs_early : (x y : ℕ) → Needs (early_named t.types collected.objects.items) x y → NeedsEarly t (c.position x) (c.position y)
  needs_early x y needs =
      let line = line_early t.types collected.objects.items x needs.0 y (slice_get collected.objects.items x) refl needs.1 in
      let within = slice_get_within collected.objects.items x line.0 line.1.0 in
      let p = element_at c.positions x (let same = c.numbered in omega (arith, within, same)) in
      let says = c.objects x p.0 line.0 p.1 line.1.0 in
      let names = line.1.1 in
      let refers = reference_of names.v y c.position names.named in
      record {
        object = placed_object c.position (as_object line.0);
        there = ap (slice_get t.objects) (c.position_is x p.0 p.1) ∙ says.is;
        index = needs.0;
        class = refers.0;
        named = value_there c.position line.0 needs.0 names.v names.at_v ∙ ap Some refers.1;
        field = names.field;
        field_is = placed_type t.types c.position line.0 needs.0 ∙ names.field_is;
        early = names.is;
      }

  pub tangled : AreTangled (early_named t.types collected.objects.items) → IsTangled t
  tangled are = record {
    positions = map c.position are.tangle;
    some = (let same = length-map are.tangle c.position in let some = are.some in omega (arith, same, some));
    reached = λ k p e.
        let x = mapped c.position are.tangle k p e in
        let next = are.each k x.of x.there in
        let needs = next.2.1 in
        let line = line_early t.types collected.objects.items x.of needs.0 next.1 (slice_get collected.objects.items x.of) refl needs.1 in
        let within = slice_get_within collected.objects.items x.of line.0 line.1.0 in
        let q = element_at c.positions x.of (let same = c.numbered in omega (arith, within, same)) in
        subst (IsGlobal t) (sym (c.position_is x.of q.0 q.1) ∙ x.is) ((c.all.all q.0).0 (get_contains c.positions x.of q.0 q.1));
    each = λ k p e.
        let x = mapped c.position are.tangle k p e in
        let next = are.each k x.of x.there in
        let needs = needs_early x.of next.1 next.2.1 in
        (next.0, c.position next.1, (map_at c.position are.tangle next.0 next.1 next.2.0, subst (λ q. NeedsEarly t q (c.position next.1)) x.is needs));
  }

-- A table of which there is an image has no objects that need each other: of such the one with the least number would name a lesser one.
module _ (t : Table ℕ) (image : ImageParts) (i : Images t image) (tangle : IsTangled t) where
  -- an object that is needed from the start has a lower number
  below_early : (n p q : ℕ) → slice_get i.positions n ≡ Some p → NeedsEarly t p q → (m : ℕ) × ((m < n) × (slice_get i.positions m ≡ Some q))
  below_early n p q at_n needs =
      let within = slice_get_within i.positions n p at_n in
      let line = element_at image.objects n (let same = i.numbered in omega (arith, within, same)) in
      let same : needs.object ≡ placed_object i.position (as_object line.0) =
      same_Some needs.object (placed_object i.position (as_object line.0)) (sym needs.there ∙ i.objects n p line.0 at_n line.1) in
      let said = reference_said i.position line.0 needs.index needs.class q (subst (λ (o : Object ℕ). slice_get (object_values o) needs.index ≡ Some (reference needs.class (at q))) same needs.named) in
      let names = value_names i.position said.said needs.class q said.is in
      let well = (i.well.objects n line.0 line.1).values needs.index said.said said.there in
      let field : Some well.field ≡ Some needs.field =
      sym well.field_is ∙ ap (λ (ts : List Declaration). value_type ts (as_object line.0) needs.index) (sym i.types) ∙ sym (placed_type t.types i.position line.0 needs.index)
      ∙ ap (λ (o : Object ℕ). value_type t.types o needs.index) (sym same) ∙ needs.field_is in
      let lower = well.early (ap is_early (same_Some well.field needs.field field) ∙ needs.early) names.number names.named in
      let r = element_at i.positions names.number (omega (arith, lower, within)) in
      (names.number, (lower, r.1 ∙ ap Some (sym (i.position_is names.number r.0 r.1) ∙ names.is)))

  none_below : (fuel n k p : ℕ) → n < fuel → slice_get i.positions n ≡ Some p → slice_get tangle.positions k ≡ Some p → ⊥
  none_below zero n k p under at_n at_k = omega (arith, under)
  none_below (suc fuel) n k p under at_n at_k =
      let next = tangle.each k p at_k in
      let lower = below_early n p next.1 at_n next.2.1 in
      none_below fuel lower.0 next.0 next.1 (let less = lower.1.0 in omega (arith, under, less)) lower.1.1 next.2.0

  pub untangled : ⊥
  untangled =
      let first = element_at tangle.positions 0 tangle.some in
      let n = contains_get i.positions first.0 ((i.all.all first.0).1 (tangle.reached 0 first.0 first.1)) in
      none_below (n.0 + 1) n.0 0 first.0 (omega arith) n.1 first.1
