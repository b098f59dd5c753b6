-- All objects have numbers.
use Rattle.std.proofs.Common.{◌≡◌, ℕ, ◌+◌, ◌<◌, suc, zero, Bool, true, false, List, [], length, replicate, Option, None, Some, refl, sym, ap, ◌∙◌, arith, ⊎_elim}
use Rattle.std.specs.List.{slice_get}
use Rattle.std.proofs.lemmas.Bool.{cases_eq}
use Rattle.std.proofs.lemmas.Option.{none-some, slice_get_within}
use Rattle.gc_types.specs.Declarations.{Declaration}
use Rattle.gc_model.specs.Stored.{value_type}
use Rattle.gc_image.specs.declared.image.ImageValue.{ImageValue}
use Rattle.gc_image.specs.declared.image.ObjectLine.{ObjectLine}
use Rattle.gc_image.specs.Well.{as_object, line_values}
use Rattle.gc_image_write.specs.declared.walk.Frame.{Frame}
use Rattle.gc_image_write.specs.declared.walk.Mark.{Mark}
use Rattle.gc_image_write.specs.declared.walk.Mark.TheVariants.{Unseen, Open, Numbered}
use Rattle.gc_image_write.specs.Order.{AreClosed, IsOrder, early_in, early_named, early_of, is_early_in}
use Rattle.gc_image_write.specs.Walking.{AreEarlyBelow, CanVisitMore, Numbers, LeavesIdle, VisitsOne, WalkParts}
use Rattle.gc_image_write.proofs.WalkLemmas.{onward_both}

-- what an early value names is an object
module _ (types : List Declaration) (objects : List ObjectLine) (closed : AreClosed objects) (from index to : ℕ) where
  by_value : (line : ObjectLine) → slice_get objects from ≡ Some line → (is : Bool) (o : Option ImageValue) → slice_get (line_values line) index ≡ o → early_of is o ≡ Some to → to < length objects
  by_value line there is None e named = absurd (none-some to named)
  by_value line there true (Some v) e named = closed from index to line v there e named
  by_value line there false (Some v) e named = absurd (none-some to named)

  by_line : (o : Option ObjectLine) → slice_get objects from ≡ o → early_in types o index ≡ Some to → to < length objects
  by_line None e named = absurd (none-some to named)
  by_line (Some line) e named = by_value line e (is_early_in (value_type types (as_object line) index)) (slice_get (line_values line) index) refl named

pub early_below : (types : List Declaration) (objects : List ObjectLine) → AreClosed objects → AreEarlyBelow (early_named types objects) (length objects)
early_below types objects closed from index to named = by_line types objects closed from index to (slice_get objects from) refl named

all_unseen : (count x : ℕ) (m : Mark) → slice_get (replicate count Unseen) x ≡ Some m → m ≡ Unseen
all_unseen zero x m e = absurd (none-some m e)
all_unseen (suc count) zero m e = cc
all_unseen (suc count) (suc x) m e = all_unseen count x m e

module _ (early : ℕ → ℕ → Option ℕ) where
  -- nothing was visited yet
  pub fresh_walk : (count : ℕ) (w : WalkParts) → w.marks ≡ replicate count Unseen → length w.marks ≡ count → w.order ≡ [] → w.stack ≡ [] → AreEarlyBelow early count → CanVisitMore early count w
  fresh_walk count w marks long order stack below =
      let mark : (x : ℕ) (m : Mark) → slice_get w.marks x ≡ Some m → m ≡ Unseen = λ x m e. all_unseen count x m (sym (ap (λ (ms : List Mark). slice_get ms x) marks) ∙ e) in
      let unordered : (n x : ℕ) → slice_get w.order n ≡ Some x → ⊥ = λ n x e. none-some x (sym (ap (λ (xs : List ℕ). slice_get xs n) order) ∙ e) in
      let unstacked : (j : ℕ) (f : Frame) → slice_get w.stack j ≡ Some f → ⊥ = λ j f e. none-some f (sym (ap (λ (fs : List Frame). slice_get fs j) stack) ∙ e) in
      record {
        below = below;
        long = long;
        idle = record {
          idle = stack;
          walks = record {
            listed = λ n x e. absurd (unordered n x e);
            known = λ x e. absurd (let never = mark x Numbered e in cc);
            once = λ n m x e f. absurd (unordered n x e);
            behind = λ n x index y e named. absurd (unordered n x e);
            waits = λ x e. absurd (let never = mark x Open e in cc);
            opened = λ j f e. absurd (unstacked j f e);
            apart = λ j k f g ef eg same. absurd (unstacked j f ef);
            looked = λ j f index y e low named. absurd (unstacked j f e);
            linked = λ j f g ef eg. absurd (unstacked j f ef);
          };
        };
      }

  -- one more object has a number
  pub rest_more : (start old new : WalkParts) (object : ℕ) (went : Bool) → went ≡ true → VisitsOne early old new object went
      → LeavesIdle early start old true × ((x : ℕ) → x < object → (n : ℕ) × (slice_get old.order n ≡ Some x))
      → LeavesIdle early start new true × ((x : ℕ) → x < object + 1 → (n : ℕ) × (slice_get new.order n ≡ Some x))
  rest_more start old new object false is visited so_far = cc
  rest_more start old new object true is visited so_far = (
    (visited.0, onward_both start old new so_far.0.1 visited.1),
    λ x low.
        ⊎_elim (λ same. (visited.2.0, visited.2.1 ∙ ap Some (sym same)))
        (λ other. let at = so_far.1 x (omega (arith, low, other)) in (at.0, visited.1.kept at.0 x at.1)) (cases_eq x object),
  )

  pub ordered : (count : ℕ) (w : WalkParts) (went : Bool) → went ≡ true → Numbers early count w went → IsOrder early count w.order
  ordered count w false is numbered = cc
  ordered count w true is numbered =
      let walks = numbered.can.idle.walks in
      record {
        all = numbered.all;
        only = λ n x e. omega (arith, numbered.can.long, slice_get_within w.marks x Numbered (walks.listed n x e));
        once = walks.once;
        behind = λ n x y e needs. walks.behind n x needs.0 y e needs.1;
      }
