-- The globals of an image reach each object whose position those of its table reach.
use Rattle.std.proofs.Common.{inl, inr, ◌≡◌, ◌<◌, ℕ, List, length, map, Some, Contains, refl, sym, ap, ◌∙◌, subst, arith}
use Rattle.std.specs.List.{slice_get}
use Rattle.std.proofs.lemmas.Option.{none-some, same_Some, slice_get_within}
use Rattle.gc_owner.specs.declared.entry.GcClass.{GcClass}
use Rattle.gc_model.specs.Reach.{AreAll, NamesPosition, Reachable, by_start, by_step, object_values, slot_references}
use Rattle.gc_model.specs.Stored.{byte_value}
use Rattle.gc_model.specs.Table.{Slot, Table}
use Rattle.gc_model.specs.Values.{Object, Reference, Value, null, at, reference}
use Rattle.gc_model.proofs.Members.{contains_get, map_among}
use Rattle.gc_image.specs.declared.image.GlobalLine.{GlobalLine}
use Rattle.gc_image.specs.declared.image.ImageReference.{ImageReference}
use Rattle.gc_image.specs.declared.image.ImageReference.TheVariants as image_reference
use Rattle.gc_image.specs.declared.image.ImageValue.{ImageValue}
use Rattle.gc_image.specs.declared.image.ImageValue.TheVariants as value
use Rattle.gc_image.specs.declared.image.ObjectLine.{ObjectLine}
use Rattle.gc_image.specs.declared.image.ObjectLine.TheVariants as object
use Rattle.gc_image.specs.Images.{AreGlobals, IsGlobal, SaysSlot, placed_object, placed_reference, placed_value}
use Rattle.gc_image.specs.Well.{GlobalHolds, NamesByNumber, as_object, as_reference, as_value, line_values, number_named}
use Rattle.gc_image.proofs.AlikeLemmas.{element_at, once}
use Rattle.gc_save_image.proofs.Closing.{among_values, find_line}
use Rattle.gc_image_write.specs.Order.{AreClosed}
use Rattle.gc_save_image.proofs.Elements.{mapped}

-- A value names the object of a number, which has that position.
pub record NamesNumber (position : ℕ → ℕ) (v : ImageValue) (p : ℕ) : Type 0 where
  pub number : ℕ
  pub named : number_named v ≡ Some number
  pub is : position number ≡ p

module _ (position : ℕ → ℕ) where
  same_position : (p q : ℕ) → at p ≡ at q → p ≡ q
  same_position p q e = cc e

  reference_names : (class : GcClass) (r : ImageReference) (p : ℕ) → placed_reference position (as_reference r) ≡ at p → NamesNumber position (value.Ref class r) p
  reference_names class image_reference.Null p e = absurd (cc e)
  reference_names class (image_reference.Small n) p e = absurd (cc e)
  reference_names class (image_reference.Object n) p e = record { number = n; named = refl; is = same_position (position n) p e }

  same_reference : (class class' : GcClass) (r r' : Reference) → reference class r ≡ reference class' r' → r ≡ r'
  same_reference class class' r r' e = cc e

  pub value_names : (v : ImageValue) (class : GcClass) (p : ℕ) → placed_value position (as_value v) ≡ reference class (at p) → NamesNumber position v p
  value_names (value.I32 n) class p e = absurd (cc e)
  value_names (value.I64 n) class p e = absurd (cc e)
  value_names (value.F32 n) class p e = absurd (cc e)
  value_names (value.F64 n) class p e = absurd (cc e)
  value_names (value.V128 n) class p e = absurd (cc e)
  value_names (value.Ref own r) class p e = reference_names own r p (same_reference own class (placed_reference position (as_reference r)) (at p) e)

  slot_names : (v : ImageValue) (slot : Slot) (p : ℕ) → SaysSlot position v slot → slot.reference ≡ at p → NamesNumber position v p
  slot_names (value.I32 n) slot p says e = absurd says
  slot_names (value.I64 n) slot p says e = absurd says
  slot_names (value.F32 n) slot p says e = absurd says
  slot_names (value.F64 n) slot p says e = absurd says
  slot_names (value.V128 n) slot p says e = absurd says
  slot_names (value.Ref class r) slot p says e = reference_names class r p (sym (ap (λ (s : Slot). s.reference) says) ∙ e)

  -- A value of a line says one of its object.
  pub record SaysAt (line : ObjectLine) (index : ℕ) (v : Value) : Type 0 where
    pub said : ImageValue
    pub there : slice_get (line_values line) index ≡ Some said
    pub is : placed_value position (as_value said) ≡ v

  values_say : (line : ObjectLine) (values : List ImageValue) → line_values line ≡ values → (index : ℕ) (v : Value) → slice_get (map (placed_value position) (map as_value values)) index ≡ Some v → SaysAt line index v
  values_say line values same index v e =
      let placed = mapped (placed_value position) (map as_value values) index v e in
      let said = mapped as_value values index placed.of placed.there in
      record { said = said.of; there = ap (λ vs. slice_get vs index) same ∙ said.there; is = ap (placed_value position) said.is ∙ placed.is }

  bytes_name_none : (bytes : List ℕ) (index : ℕ) (class : GcClass) (p : ℕ) → slice_get (map (placed_value position) (map byte_value bytes)) index ≡ Some (reference class (at p)) → ⊥
  bytes_name_none bytes index class p e =
      let placed = mapped (placed_value position) (map byte_value bytes) index (reference class (at p)) e in
      let said = mapped byte_value bytes index placed.of placed.there in
      differ said.of (ap (placed_value position) said.is ∙ placed.is)
    where
      differ : (b : ℕ) → placed_value position (byte_value b) ≡ reference class (at p) → ⊥
      differ b e = cc

  -- a reference of an object to another is said by a value of its line
  pub reference_said : (line : ObjectLine) (index : ℕ) (class : GcClass) (p : ℕ) → slice_get (object_values (placed_object position (as_object line))) index ≡ Some (reference class (at p))
      → SaysAt line index (reference class (at p))
  reference_said (object.Struct ty values) index class p e = values_say (object.Struct ty values) values refl index (reference class (at p)) e
  reference_said (object.Array ty values) index class p e = values_say (object.Array ty values) values refl index (reference class (at p)) e
  reference_said (object.Bytes ty bytes) index class p e = absurd (bytes_name_none bytes index class p e)
  reference_said (object.Host n) index class p e = absurd (none-some (reference class (at p)) e)
  reference_said (object.Exn ty tag values) index class p e = values_say (object.Exn ty tag values) values refl index (reference class (at p)) e

-- each object of an image stands at one position, and each position that the globals reach has one
module _ (t : Table ℕ) (lines : List ObjectLine) (globals : List GlobalLine) (positions : List ℕ) (position : ℕ → ℕ) (numbered : length positions ≡ length lines) (all : AreAll (IsGlobal t) positions) (position_is : (n p : ℕ) → slice_get positions n ≡ Some p → position n ≡ p) where
  -- one number has a position
  pub one_number : (n m p : ℕ) → slice_get positions n ≡ Some p → m < length lines → position m ≡ p → m ≡ n
  one_number n m p at_n below is =
      let q = element_at positions m (let same = numbered in omega (arith, below, same)) in
      let same : q.0 ≡ p = sym (position_is m q.0 q.1) ∙ is in
      once positions m n p all.distinct (q.1 ∙ ap Some same) at_n

  module _ (objects : (n p : ℕ) (line : ObjectLine) → slice_get positions n ≡ Some p → slice_get lines n ≡ Some line → slice_get t.objects p ≡ Some (placed_object position (as_object line)))
      (said : AreGlobals position globals t.globals) (closed : AreClosed lines) (held : (number : ℕ) → GlobalHolds globals number → number < length lines) where
    by_global : (n p : ℕ) → slice_get positions n ≡ Some p → Contains (slot_references t.globals) (at p) → Reachable (GlobalHolds globals) (NamesByNumber lines) n
    by_global n p at_n c =
        let slot = map_among (λ (s : Slot). s.reference) t.globals (at p) c in
        let k = contains_get t.globals slot.of slot.among in
        elim (find_line globals k.0) [
          | inl found ↦
              let says = said.said found.index found.line found.there in
              let same : says.0 ≡ slot.of = same_Some says.0 slot.of (sym says.1.0 ∙ ap (slice_get t.globals) found.is ∙ k.1) in
              let names = slot_names position found.line.value slot.of p (subst (SaysSlot position found.line.value) same says.1.1) slot.is in
              let is_held : GlobalHolds globals names.number = (found.index, found.line, (found.there, names.named)) in
              subst (Reachable (GlobalHolds globals) (NamesByNumber lines)) (one_number n names.number p at_n (held names.number is_held) names.is) (by_start is_held)
          | inr none ↦ absurd (no_object p (sym (ap (λ (s : Slot). s.reference) (said.unsaid k.0 slot.of k.1 none)) ∙ slot.is))
        ]
      where
        no_object : (p : ℕ) → null ≡ at p → ⊥
        no_object p e = cc

    by_object : (m n q p : ℕ) → slice_get positions m ≡ Some q → slice_get positions n ≡ Some p → NamesPosition t.objects q p → NamesByNumber lines m n
    by_object m n q p at_m at_n names =
        let line = element_at lines m (let within = slice_get_within positions m q at_m in let same = numbered in omega (arith, within, same)) in
        let same : names.object ≡ placed_object position (as_object line.0) = same_Some names.object (placed_object position (as_object line.0)) (sym names.there ∙ objects m q line.0 at_m line.1) in
        let stands = among_values (object_values names.object) (at p) names.among in
        let says = reference_said position line.0 stands.index stands.class p (subst (λ (o : Object ℕ). slice_get (object_values o) stands.index ≡ Some (reference stands.class (at p))) same stands.value) in
        let named = value_names position says.said stands.class p says.is in
        let number = one_number n named.number p at_n (closed m stands.index named.number line.0 says.said line.1 says.there named.named) named.is in
        (line.0, stands.index, says.said, (line.1, (says.there, subst (λ k. number_named says.said ≡ Some k) number named.named)))

    pub reached_from : (n p : ℕ) → slice_get positions n ≡ Some p → IsGlobal t p → Reachable (GlobalHolds globals) (NamesByNumber lines) n
    reached_from n p at_n (by_start c) = by_global n p at_n c
    reached_from n p at_n (by_step {y = q} reached names) =
        let m = contains_get positions q ((all.all q).1 reached) in
        by_step (reached_from m.0 q m.1 reached) (by_object m.0 n q p m.1 at_n names)
