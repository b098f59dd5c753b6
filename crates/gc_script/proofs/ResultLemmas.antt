-- What follows of a result.
use Rattle.std.proofs.Common.{Bor, Some, sym, ap, ◌∙◌}
use Rattle.std.specs.Prelude.{◌≡◌, true, false, Option, option_map, Result, Ok, Err, OnOk, OnErr, is_err}

-- what follows from what a success says
pub on_ok : {A E : Type 0} {P Q : Type 0} (r : Result A E) → (P → Q) → OnOk r P → OnOk r Q
on_ok (Ok x) f p = f p
on_ok (Err e) f p = p

-- what follows from what a failure says
pub on_err : {A E : Type 0} {P Q : Type 0} (r : Result A E) → (P → Q) → OnErr r P → OnErr r Q
on_err (Ok x) f p = p
on_err (Err e) f p = f p

-- what holds of a failure
pub on_any_err : {A E : Type 0} {Q : Type 0} (r : Result A E) → Q → OnErr r Q
on_any_err (Ok x) q = tt
on_any_err (Err e) q = q

-- what a failure or a success says, where it is known which there was
pub failed : {A E : Type 0} {P : Type 0} (r : Result A E) → is_err r ≡ true → OnErr r P → P
failed (Ok x) is p = absurd (cc is)
failed (Err e) is p = p

pub succeeded : {A E : Type 0} {P : Type 0} (r : Result A E) → is_err r ≡ false → OnOk r P → P
succeeded (Ok x) is p = p
succeeded (Err e) is p = absurd (cc is)

-- the second of what was found
pub second_is : {A B : Type 0} (found : Option (A × Bor B)) (a : A) (b : Bor B) (o : Option B) → option_map (λ (f : A × Bor B). f.1.now) found ≡ o → found ≡ Some (a, b) → o ≡ Some b.now
second_is {A} {B} found a b o e is = sym e ∙ ap (option_map (λ (f : A × Bor B). f.1.now)) is
