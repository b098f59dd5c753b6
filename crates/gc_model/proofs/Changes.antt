-- A list with one element changed, and the sizes of objects of which a value was changed.
use Rattle.std.proofs.Common.{◌≡◌, ◌≢◌, ℕ, ◌+◌, ◌<◌, List, [], ◌∷◌, length, Some, ap, refl, arith, zero, suc}
use Rattle.std.specs.List.{slice_get}
use Rattle.std.specs.Prelude.{slice_set}
use Rattle.std.proofs.lemmas.Option.{none-some}
use Rattle.gc_types.specs.declared.kind.Layouts.{Layouts}
use Rattle.gc_types.specs.declared.kind.Layouts.TheVariants.{Null}
use Rattle.gc_types.specs.Declarations.{Declaration, elem_at}
use Rattle.std.proofs.lemmas.List.{length-set}
use Rattle.gc_types.specs.Layouts.{round_up}
use Rattle.gc_model.specs.Values.{Value, Object, struct, array, host, exception}
use Rattle.gc_model.specs.Table.{change_at, with_value}
use Rattle.gc_view.specs.Sizes.{alignment}
use Rattle.gc_model.specs.Sizes.{object_size, elements_size, next_after}

pub length-change_at : {X : Type 0} (n : ℕ) (change : X → X) (xs : List X) → length (change_at n change xs) ≡ length xs
length-change_at n change [] = refl
length-change_at zero change (x ∷ xs) = refl
length-change_at (suc n) change (x ∷ xs) = ap suc (length-change_at n change xs)

-- the element there was changed
pub slice_get-change_at_same : {X : Type 0} (n : ℕ) (change : X → X) (xs : List X) (x : X) → slice_get xs n ≡ Some x → slice_get (change_at n change xs) n ≡ Some (change x)
slice_get-change_at_same n change [] x e = absurd (none-some x e)
slice_get-change_at_same zero change (y ∷ xs) x e = let same : y ≡ x = grind (arith, e) in ap (λ z. Some (change z)) same
slice_get-change_at_same (suc n) change (y ∷ xs) x e = slice_get-change_at_same n change xs x e

-- every other one is as it was
pub slice_get-change_at_other : {X : Type 0} (n : ℕ) (change : X → X) (xs : List X) (i : ℕ) → i ≢ n → slice_get (change_at n change xs) i ≡ slice_get xs i
slice_get-change_at_other n change [] i ne = refl
slice_get-change_at_other zero change (x ∷ xs) zero ne = absurd (ne refl)
slice_get-change_at_other zero change (x ∷ xs) (suc i) ne = refl
slice_get-change_at_other (suc n) change (x ∷ xs) zero ne = refl
slice_get-change_at_other (suc n) change (x ∷ xs) (suc i) ne = slice_get-change_at_other n change xs i (λ same. ne (ap suc same))

-- the element that was set is there
pub slice_get-set_same : {X : Type 0} (xs : List X) (i : ℕ) (x : X) → i < length xs → slice_get (slice_set xs i x) i ≡ Some x
slice_get-set_same [] i x within = absurd (omega arith)
slice_get-set_same (y ∷ xs) zero x within = refl
slice_get-set_same (y ∷ xs) (suc i) x within = slice_get-set_same xs i x (omega arith)

pub slice_get-set_other : {X : Type 0} (xs : List X) (i j : ℕ) (x : X) → j ≢ i → slice_get (slice_set xs i x) j ≡ slice_get xs j
slice_get-set_other [] i j x ne = refl
slice_get-set_other (y ∷ xs) zero zero x ne = absurd (ne refl)
slice_get-set_other (y ∷ xs) zero (suc j) x ne = refl
slice_get-set_other (y ∷ xs) (suc i) zero x ne = refl
slice_get-set_other (y ∷ xs) (suc i) (suc j) x ne = slice_get-set_other xs i j x (λ same. ne (ap suc same))

-- an object's size is of its type
pub object_size-with_value : {D : Type 0} (layouts : Layouts) (types : List Declaration) (index : ℕ) (v : Value) (o : Object D) → object_size layouts types (with_value index v o) ≡ object_size layouts types o
object_size-with_value layouts types index v (struct ty values) = refl
object_size-with_value layouts types index v (array ty values) = ap (elements_size layouts (elem_at types ty)) (length-set values index v)
object_size-with_value layouts types index v (host value) = refl
object_size-with_value layouts types index v (exception ty tag values) = refl

-- where the null heap goes on is the same
pub next_after-with_value : {D : Type 0} (types : List Declaration) (n : ℕ) (position index : ℕ) (v : Value) (objects : List (Object D)) → next_after types n (change_at position (with_value index v) objects) ≡ next_after types n objects
next_after-with_value types n position index v [] = refl
next_after-with_value types n zero index v (o ∷ objects) = ap (λ size. next_after types (round_up n alignment + size) objects) (object_size-with_value Null types index v o)
next_after-with_value types n (suc position) index v (o ∷ objects) = next_after-with_value types (round_up n alignment + object_size Null types o) position index v objects
