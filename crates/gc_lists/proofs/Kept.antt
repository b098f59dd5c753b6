-- Lists stay where what is constant stays.
use Rattle.std.proofs.Common.{◌≡◌, ℕ, zero, suc, ℤ, List, [], ◌∷◌, ◌++◌, Option, Some, sym, ap, ◌∙◌, subst, arith}
use Rattle.std.specs.List.{slice_get}
use Rattle.std.proofs.lemmas.Option.{none-some}
use Rattle.gc_types.specs.Declarations.{Declaration}
use Rattle.gc_model.specs.Values.{Reference, null, small, at, Value, Object, struct}
use Rattle.gc_model.specs.Table.{Table}
use Rattle.gc_lists.specs.Cells.{cell, IsCell, IsNullOr}
use Rattle.gc_lists.specs.Lists.{IsList, IsListOf}
use Rattle.gc_lists.specs.Constants.{KeepsConstants}

-- what stands in a list stands in a longer one
pub before_more : {X : Type 0} (xs ys : List X) (i : ℕ) (x : X) → slice_get xs i ≡ Some x → slice_get (xs ++ ys) i ≡ Some x
before_more [] ys i x e = absurd (none-some x e)
before_more (z ∷ xs) ys zero x e = e
before_more (z ∷ xs) ys (suc i) x e = before_more xs ys i x e

pub same_struct : {D : Type 0} (ty ty' : ℕ) (values values' : List Value) → ◌≡◌ {A = Option (Object D)} (Some (struct ty values)) (Some (struct ty' values')) → ty ≡ ty'
same_struct ty ty' values values' e = grind (arith, e)

module _ {D : Type 0} (t t' : Table D) (keeps : KeepsConstants t t') where
  pub cell_kept : (r : Reference) (x : ℤ) (next : Reference) → IsCell t.types t.objects r x next → IsCell t'.types t'.objects r x next
  cell_kept r x next is = record {
    position = is.position;
    ty = is.ty;
    bits = is.bits;
    named = is.named;
    of_cells = keeps.types is.ty _ is.of_cells;
    object_is = keeps.cells is.position is.ty is.bits next is.of_cells is.object_is;
    number_is = is.number_is;
  }

  pub list_kept : (xs : List ℤ) (r : Reference) → IsList t.types t.objects r xs → IsList t'.types t'.objects r xs
  list_kept [] r is = is
  list_kept (x ∷ xs) r is = (is.0, (cell_kept r x is.0 is.1.0, list_kept xs is.0 is.1.1))

  -- the type of the first cell
  null_or_kept : (ty : ℕ) (r : Reference) (x : ℤ) (next : Reference) → IsCell t.types t.objects r x next → IsNullOr t.objects ty r → IsNullOr t'.objects ty r
  null_or_kept ty null x next is of = of
  null_or_kept ty (small n) x next is of = of
  null_or_kept ty (at p) x next is of =
      let same : p ≡ is.position = grind (arith, is.named) in
      let here : slice_get t.objects p ≡ Some (cell is.ty is.bits next) = ap (λ n. slice_get t.objects n) same ∙ is.object_is in
      let one : is.ty ≡ ty = same_struct {D = D} is.ty ty _ of.0 (sym here ∙ of.1) in
      (_, ap (λ n. slice_get t'.objects n) same ∙ keeps.cells is.position is.ty is.bits next is.of_cells is.object_is ∙ ap (λ n. Some (cell n is.bits next)) one)

  pub list_of_kept : (ty : ℕ) (xs : List ℤ) (r : Reference) → IsListOf t.types t.objects ty xs r → IsListOf t'.types t'.objects ty xs r
  list_of_kept ty [] r is = (is.0, subst (IsNullOr t'.objects ty) (sym is.0) tt)
  list_of_kept ty (x ∷ xs) r is = (list_kept (x ∷ xs) r is.0, null_or_kept ty r x is.0.0 is.0.1.0 is.1)

-- where objects and types are appended, all that is constant stays
pub appended_keeps : {D : Type 0} (t t' : Table D) (ds : List Declaration) (os : List (Object D)) → t'.types ≡ t.types ++ ds → t'.objects ≡ t.objects ++ os → KeepsConstants t t'
appended_keeps t t' ds os types objects = record {
  types = λ ty d e. ap (λ (xs : List Declaration). slice_get xs ty) types ∙ before_more t.types ds ty d e;
  cells = λ p ty bits next of e. ap (λ (xs : List (Object _)). slice_get xs p) objects ∙ before_more t.objects os p _ e;
  nodes = λ p ty key value height left right of e. ap (λ (xs : List (Object _)). slice_get xs p) objects ∙ before_more t.objects os p _ e;
}
