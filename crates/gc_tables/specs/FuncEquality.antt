-- Equality of function values. No public clause cites this module.
use Rattle.std.proofs.Common.{◌≡◌, ℕ, ◌==◌, ◌&&◌, Bool, true, false, Option, Some, None, IsTrue, true≢false, refl, sym, ap, eqb-true}
use Rattle.std.specs.Option.{option_eq}
use Rattle.gc_types.specs.declared.value.Func.{Func}

both_true : (a b : Bool) → IsTrue (a && b) → IsTrue a × IsTrue b
both_true true b e = (refl, e)
both_true false b e = absurd (true≢false (sym e))

-- functions that are equal by their fields are one
pub func_exact : (a b : Option Func) → IsTrue (option_eq (λ x y. (x.number == y.number) && (x.ty == y.ty)) a b) → a ≡ b
func_exact None None e = refl
func_exact None (Some y) e = absurd (true≢false (sym e))
func_exact (Some x) None e = absurd (true≢false (sym e))
func_exact (Some x) (Some y) e =
    let parts = both_true (x.number == y.number) (x.ty == y.ty) e in
    let number : x.number ≡ y.number = eqb-true _ _ parts.0 in
    let ty : x.ty ≡ y.ty = eqb-true _ _ parts.1 in
    λ i. Some (record { number = number i; ty = ty i })
