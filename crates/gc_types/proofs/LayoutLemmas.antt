-- What a walk over the fields keeps.
use Rattle.std.proofs.Common.{◌≡◌, ℕ, ◌+◌, ◌*◌, ◌≤◌, ◌<◌, ◌++◌, List, drop, arith}
use Rattle.gc_types.specs.declared.value.FieldType.{FieldType}
use Rattle.gc_types.specs.declared.value.StorageType.{StorageType}
use Rattle.gc_types.specs.declared.value.StorageType.TheVariants as storage
use Rattle.gc_types.specs.declared.value.ValType.{ValType}
use Rattle.gc_types.specs.declared.value.ValType.TheVariants as val
use Rattle.gc_types.specs.declared.layout.FieldLayout.{FieldLayout}
use Rattle.gc_types.specs.Layouts.{field_layouts, fields_end, storage_width, value_width}

-- the layouts made so far and those of the fields that are left are those of all fields
pub record LaidOutSoFar (base : ℕ) (fields : List FieldType) (places : List FieldLayout) (end index : ℕ) : Type 0 where
  pub made : places ++ field_layouts end (drop index fields) ≡ field_layouts base fields
  pub ends : fields_end end (drop index fields) ≡ fields_end base fields
  pub bound : end ≤ base + 32 * index

value_width_bounds : (ty : ValType) → (0 < value_width ty) × (value_width ty ≤ 16)
value_width_bounds val.I32 = (omega arith, omega arith)
value_width_bounds val.I64 = (omega arith, omega arith)
value_width_bounds val.F32 = (omega arith, omega arith)
value_width_bounds val.F64 = (omega arith, omega arith)
value_width_bounds val.V128 = (omega arith, omega arith)
value_width_bounds (val.Ref ty) = (omega arith, omega arith)

-- a width is 1 to 16 bytes
pub storage_width_bounds : (ty : StorageType) → (0 < storage_width ty) × (storage_width ty ≤ 16)
storage_width_bounds storage.I8 = (omega arith, omega arith)
storage_width_bounds storage.I16 = (omega arith, omega arith)
storage_width_bounds (storage.ValType ty) = value_width_bounds ty
