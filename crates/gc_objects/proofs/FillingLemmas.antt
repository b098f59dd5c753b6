-- One value for so many elements: its tests, and what is asked of the store.
use Rattle.std.proofs.Common.{◌≡◌, ℕ, Option, Result, Ok, Err, arith}
use Rattle.gc_types.specs.declared.value.FieldType.{FieldType}
use Rattle.gc_owner.specs.declared.entry.GcClass.TheVariants.{Any}
use Rattle.gc_model.specs.Values.{null, reference}
use Rattle.gc_model.specs.Table.{Table}
use Rattle.gc_model.specs.Stores.{StoreView}
use Rattle.gc_objects.specs.declared.faults.ValueFault.{ValueFault}
use Rattle.gc_objects.specs.declared.val.Val.{Val}
use Rattle.gc_objects.specs.Given.{ChecksValue, ChecksFilling}

module _ {D : Type 0} (s : StoreView D) (t : Table D) (field : Option FieldType) (v : Val) (count : ℕ) where
  -- where there are no elements, the value isn't looked at
  pub fills_none : count ≡ 0 → ChecksFilling s t field v count (Ok tt)
  fills_none is = (reference Any null, λ some. absurd (omega (arith, is, some)))

  -- else its tests are those of each element
  pub fills_some : ¬ (count ≡ 0) → (r : Result (Unit {0}) ValueFault) → ChecksValue s t field v r → ChecksFilling s t field v count r
  fills_some not (Ok done) checks = (checks.0, λ some. checks.1)
  fills_some not (Err why) checks = (omega (arith, not), checks)
