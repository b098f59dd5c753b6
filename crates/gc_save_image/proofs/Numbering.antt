-- The positions of collected objects by their new numbers.
use Rattle.std.proofs.Common.{◌≡◌, ◌<◌, ℕ, List, length, map, Option, Some, unwrap_or, sym, ap, ◌∙◌, subst, arith}
use Rattle.std.specs.List.{slice_get}
use Rattle.std.proofs.lemmas.Option.{slice_get_within}
use Rattle.gc_model.specs.Reach.{AreAll}
use Rattle.gc_model.specs.Table.{Table}
use Rattle.gc_model.proofs.Members.{contains_get, get_contains}
use Rattle.gc_image.specs.Images.{IsGlobal, placed_object}
use Rattle.gc_image.specs.declared.image.ObjectLine.{ObjectLine}
use Rattle.gc_image.specs.declared.image.ObjectLine.TheVariants as object
use Rattle.gc_image.specs.Well.{as_object}
use Rattle.gc_image.proofs.AlikeLemmas.{element_at, once}
use Rattle.gc_save_image.specs.Collection.{IsCollection, IsLineOf}
use Rattle.gc_save_image.specs.declared.collect.Collected.{Collected}
use Rattle.gc_image_write.specs.Order.{IsOrder}
use Rattle.gc_image_write.proofs.LineBelow.{IsLineBelow}
use Rattle.gc_save_image.specs.Renumbering.{AreNumbersOf, line_at, new_number_in, renumbered_line, reordered}
use Rattle.gc_save_image.proofs.Elements.{distinct_when, map_at, mapped}
use Rattle.gc_save_image.proofs.Renumbered.{object_again}

-- the number that stands at a place of a list; 0 behind its end
abbrev pub at_place : List ℕ → ℕ → ℕ
at_place order n = unwrap_or (slice_get order n) 0

module _ (t : Table ℕ) (collected : Collected) (c : IsCollection t collected) (early : ℕ → ℕ → Option ℕ) (order numbers : List ℕ) (ordered : IsOrder early (length collected.objects.items) order) (are : AreNumbersOf order numbers) where
  abbrev count : ℕ
  count = length collected.objects.items

  abbrev pub positions : List ℕ
  positions = map c.position order

  abbrev pub position : ℕ → ℕ
  position n = c.position (at_place order n)

  pub number_is : (n old : ℕ) → slice_get order n ≡ Some old → new_number_in numbers old ≡ n
  number_is n old e = ap (λ o. unwrap_or o 0) (are n old e)

  -- a new number has the position of the old one
  pub goes : (old : ℕ) → old < count → position (new_number_in numbers old) ≡ c.position old
  goes old below =
      let n = ordered.all old below in
      ap position (number_is n.0 old n.1) ∙ ap (λ o. c.position (unwrap_or o 0)) n.1

  -- The position of an old number.
  pub record PositionOf (old : ℕ) : Type 0 where
    pub p : ℕ
    pub there : slice_get c.positions old ≡ Some p
    pub is : c.position old ≡ p

  pub position_of : (old : ℕ) → old < count → PositionOf old
  position_of old below =
      let p = element_at c.positions old (let same = c.numbered in omega (arith, below, same)) in
      record { p = p.0; there = p.1; is = c.position_is old p.0 p.1 }

  apart : (a b : ℕ) → a < count → b < count → c.position a ≡ c.position b → a ≡ b
  apart a b below below' e =
      let p = position_of a below in
      let q = position_of b below' in
      let same : q.p ≡ p.p = sym q.is ∙ sym e ∙ p.is in
      once c.positions a b p.p c.all.distinct p.there (q.there ∙ ap Some same)

  pub position_is : (n p : ℕ) → slice_get positions n ≡ Some p → position n ≡ p
  position_is n p e =
      let old = mapped c.position order n p e in
      ap (λ o. c.position (unwrap_or o 0)) old.there ∙ old.is

  pub all : AreAll (IsGlobal t) positions
  all = record {
    distinct = distinct_when positions (λ i j p at_i at_j.
        let a = mapped c.position order i p at_i in
        let b = mapped c.position order j p at_j in
        let same = apart b.of a.of (ordered.only j b.of b.there) (ordered.only i a.of a.there) (b.is ∙ sym a.is) in
        ordered.once i j a.of a.there (b.there ∙ ap Some same));
    all = λ p. (
      λ among.
          let n = contains_get positions p among in
          let old = mapped c.position order n.0 p n.1 in
          let q = position_of old.of (ordered.only n.0 old.of old.there) in
          subst (IsGlobal t) (sym q.is ∙ old.is) ((c.all.all q.p).0 (get_contains c.positions old.of q.p q.there)),
      λ reached.
          let old = contains_get c.positions p ((c.all.all p).1 reached) in
          let within = slice_get_within c.positions old.0 p old.1 in
          let n = ordered.all old.0 (let same = c.numbered in omega (arith, within, same)) in
          get_contains positions n.0 p (map_at c.position order n.0 old.0 n.1 ∙ ap Some (c.position_is old.0 p old.1)),
    );
  }

  -- An object's line under its new number is that of an old one.
  pub record LineAt (n : ℕ) (new : ObjectLine) : Type 0 where
    pub old : ℕ
    pub at_old : slice_get order n ≡ Some old
    pub below : old < count
    pub line : ObjectLine
    pub there : slice_get collected.objects.items old ≡ Some line
    pub is : renumbered_line (new_number_in numbers) line ≡ new
    pub of : PositionOf old
    pub says : IsLineOf t c.position (length c.positions) of.p line
    pub named : IsLineBelow count line

  pub line_of : (n : ℕ) (new : ObjectLine) → slice_get (reordered (new_number_in numbers) collected.objects.items order) n ≡ Some new → LineAt n new
  line_of n new e =
      let old = mapped (λ o. renumbered_line (new_number_in numbers) (line_at collected.objects.items o)) order n new e in
      let below = ordered.only n old.of old.there in
      let line = element_at collected.objects.items old.of below in
      let p = position_of old.of below in
      let says = c.objects old.of p.p line.0 p.there line.1 in
      record {
        old = old.of;
        at_old = old.there;
        below = below;
        line = line.0;
        there = line.1;
        is = ap (λ o. renumbered_line (new_number_in numbers) (unwrap_or o (object.Host 0))) (sym line.1) ∙ old.is;
        of = p;
        says = says;
        named = λ k v at_v number named. (let small = says.named k number v at_v named in let same = c.numbered in omega (arith, small, same));
      }

  -- it is the object at its position
  pub object_is : (n p : ℕ) (new : ObjectLine) → slice_get positions n ≡ Some p → slice_get (reordered (new_number_in numbers) collected.objects.items order) n ≡ Some new
      → slice_get t.objects p ≡ Some (placed_object position (as_object new))
  object_is n p new at_p at_new =
      let line = line_of n new at_new in
      let place : line.of.p ≡ p = sym line.of.is ∙ sym (ap (λ o. c.position (unwrap_or o 0)) line.at_old) ∙ position_is n p at_p in
      let again = object_again (new_number_in numbers) c.position position count goes line.line line.named in
      ap (slice_get t.objects) (sym place) ∙ line.says.is ∙ ap Some (sym again) ∙ ap (λ (l : ObjectLine). Some (placed_object position (as_object l))) line.is
