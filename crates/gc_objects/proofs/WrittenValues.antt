-- Which values take memory to be written.
use Rattle.std.proofs.Common.{◌≡◌, true, [], ◌∷◌, Some, None, Result, Err, IsOk, ap, ◌∙◌, refl}
use Rattle.gc_values.specs.declared.root.RawValue.{RawValue}
use Rattle.gc_values.specs.declared.faults.WriteFault.{WriteFault}
use Rattle.gc_model.specs.SideValues.{no_side_values}
use Rattle.gc_values.specs.RawValues.{raw_side_values}
use Rattle.gc_objects.specs.declared.val.Val.{Val}
use Rattle.gc_objects.specs.declared.val.Val.TheVariants as val
use Rattle.gc_objects.specs.Given.{raw_of}
use Rattle.gc_objects.specs.Writes.{takes_id}

-- what the store answers to a write that it refuses
abbrev pub refused_with : WriteFault → Result (Unit {0}) WriteFault
refused_with why = Err why

by_value : (v : Val) → ¬ (raw_side_values (raw_of v ∷ []) ≡ no_side_values) → takes_id v ≡ true
by_value (val.I32 n) some = absurd (some refl)
by_value (val.I64 n) some = absurd (some refl)
by_value (val.F32 n) some = absurd (some refl)
by_value (val.F64 n) some = absurd (some refl)
by_value (val.V128 n) some = absurd (some refl)
by_value (val.FuncRef f) some = refl
by_value (val.ContRef None) some = absurd (some refl)
by_value (val.ContRef (Some c)) some = refl
by_value (val.ExternRef handle) some = absurd (some refl)
by_value (val.AnyRef handle) some = absurd (some refl)
by_value (val.ExnRef handle) some = absurd (some refl)

-- a value that is refused for want of memory is one that gets an id
pub ids_alone : (v : Val) (given : RawValue) (why : WriteFault) → given ≡ raw_of v
    → (raw_side_values (given ∷ []) ≡ no_side_values → IsOk (refused_with why)) → takes_id v ≡ true
ids_alone v given why same answers =
    by_value v (λ none. let ok : IsOk (refused_with why) = answers (ap (λ (r : RawValue). raw_side_values (r ∷ [])) same ∙ none) in cc ok)
