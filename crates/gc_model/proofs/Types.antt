-- What a further declaration leaves of the types before it.
use Rattle.std.proofs.Common.{◌≡◌, ℕ, ◌+◌, List, [], ◌∷◌, ◌++◌, length, Option, Some, sym, ap, ◌∙◌, refl, suc, zero}
use Rattle.std.specs.List.{slice_get}
use Rattle.std.specs.Prelude.{option_and_then}
use Rattle.std.proofs.lemmas.Option.{none-some}
use Rattle.gc_types.specs.declared.kind.Layouts.TheVariants.{Null}
use Rattle.gc_types.specs.Declarations.{Declaration, Shape, declaration_struct_fields, declaration_elem, shape_at}
use Rattle.gc_types.specs.Layouts.{round_up}
use Rattle.gc_model.specs.Values.{Object, struct, array, host, exception}
use Rattle.gc_view.specs.Sizes.{alignment}
use Rattle.gc_model.specs.Sizes.{object_size, next_after, fields_size, elements_size, exception_size, shape_exn_fields}
use Rattle.gc_model.proofs.Lists.{slice_get-push_old}

-- a type of the table is one of the longer table
pub slice_get-declared : (types : List Declaration) (d : Declaration) (ty : ℕ) (declared : Declaration) → slice_get types ty ≡ Some declared → slice_get (types ++ d ∷ []) ty ≡ slice_get types ty
slice_get-declared types d ty declared e = slice_get-push_old types d ty declared e ∙ sym e

-- and its shape is the same
pub shape_at-push : (types : List Declaration) (d : Declaration) (ty : ℕ) (shape : Shape) → shape_at types ty ≡ Some shape → shape_at (types ++ d ∷ []) ty ≡ Some shape
shape_at-push [] d ty shape e = absurd (none-some shape e)
shape_at-push (x ∷ types) d zero shape e = e
shape_at-push (x ∷ types) d (suc ty) shape e = shape_at-push types d ty shape e

-- an object's type is declared
abbrev pub IsTyped : {D : Type 0} → List Declaration → Object D → Type 0
IsTyped types (struct ty values) = (d : Declaration) × (slice_get types ty ≡ Some d)
IsTyped types (array ty values) = (d : Declaration) × (slice_get types ty ≡ Some d)
IsTyped types (host value) = Unit {0}
IsTyped types (exception ty tag values) = (d : Declaration) × (slice_get types ty ≡ Some d)

-- an object's size is the same in the longer table
pub object_size-push : {D : Type 0} (types : List Declaration) (d : Declaration) (o : Object D) → IsTyped types o → object_size Null (types ++ d ∷ []) o ≡ object_size Null types o
object_size-push types d (struct ty values) typed = ap (λ (x : Option Declaration). fields_size Null (declaration_struct_fields x)) (slice_get-declared types d ty typed.0 typed.1)
object_size-push types d (array ty values) typed = ap (λ (x : Option Declaration). elements_size Null (declaration_elem x) (length values)) (slice_get-declared types d ty typed.0 typed.1)
object_size-push types d (host value) typed = refl
object_size-push types d (exception ty tag values) typed =
    ap (λ (x : Option Declaration). exception_size Null (option_and_then (λ (y : Declaration). shape_exn_fields y.shape) x)) (slice_get-declared types d ty typed.0 typed.1)

-- where the null heap goes on is the same in the longer table
pub next_after-push_type : {D : Type 0} (types : List Declaration) (d : Declaration) (n : ℕ) (objects : List (Object D)) → ((i : ℕ) (o : Object D) → slice_get objects i ≡ Some o → IsTyped types o) → next_after (types ++ d ∷ []) n objects ≡ next_after types n objects
next_after-push_type types d n [] typed = refl
next_after-push_type {D} types d n (o ∷ objects) typed =
    next_after-push_type types d (round_up n alignment + object_size Null (types ++ d ∷ []) o) objects (λ i. typed (suc i))
    ∙ ap (λ size. next_after types (round_up n alignment + size) objects) (object_size-push types d o (typed 0 o refl))

-- where the null heap goes on after one more object
pub next_after-push : {D : Type 0} (types : List Declaration) (n : ℕ) (objects : List (Object D)) (o : Object D) → next_after types n (objects ++ o ∷ []) ≡ round_up (next_after types n objects) alignment + object_size Null types o
next_after-push types n [] o = refl
next_after-push types n (x ∷ objects) o = next_after-push types (round_up n alignment + object_size Null types x) objects o
