-- Nodes of the graph, and what a store keeps of those that owned roots name.
use Rattle.std.specs.Prelude.{◌≡◌, ℕ, ℤ, pos, FitsSigned}
use Rattle.std.specs.Int.{w64}
use Rattle.gc_types.specs.declared.kind.Layouts.{Layouts}
use Rattle.gc_types.specs.declared.kind.VMGcKind.TheVariants as kinds
use Rattle.gc_model.specs.Values.{Value, numeric, i64, number_bits}
use Rattle.gc_model.specs.Table.{Table}
use Rattle.gc_model.specs.Stores.{StoreView}
use Rattle.gc_model.specs.Holds.{HoldsTable}
use Rattle.gc_values.specs.declared.root.GcRootIndex.{GcRootIndex}
use Rattle.gc_values.specs.declared.root.RootSlot.TheVariants as slot
use Rattle.gc_store.specs.Roots.{HasValue}
use Rattle.gc_store.specs.Kinds.{object_kind}
use Rattle.gc_objects.specs.declared.val.Val.{Val}
use Rattle.gc_objects.specs.declared.val.Val.TheVariants as val

-- a key as the first value of its node
abbrev pub key_value : ℤ → Value
key_value key = numeric i64 (number_bits w64 key)

-- the key that a value is; 0 where it is no 64-bit integer
abbrev pub key_in : Val → ℤ
key_in (val.I32 n) = pos 0
key_in (val.I64 n) = n
key_in (val.F32 n) = pos 0
key_in (val.F64 n) = pos 0
key_in (val.V128 n) = pos 0
key_in (val.FuncRef f) = pos 0
key_in (val.ContRef c) = pos 0
key_in (val.ExternRef handle) = pos 0
key_in (val.AnyRef handle) = pos 0
key_in (val.ExnRef handle) = pos 0

-- the handle names a struct with that key, in some table that the store holds
pub record IsGraphNode (layouts : Layouts) (s : StoreView ℕ) (handle : GcRootIndex) (key : ℤ) : Type 0 where
  pub table : Table ℕ
  pub holds : HoldsTable layouts s table
  pub key_fits : FitsSigned w64 key
  pub has : HasValue s table handle 0 (key_value key)
  pub is_struct : object_kind has.object ≡ kinds.StructRef

-- so by an owned root, which no scope that is left takes with it
pub record HoldsEntry (layouts : Layouts) (s : StoreView ℕ) (handle : GcRootIndex) (key : ℤ) : Type 0 where
  pub node : IsGraphNode layouts s handle key
  pub id : ℕ
  pub owned : handle.slot ≡ slot.Owned id

-- each entry is one still, with the same key
abbrev pub KeepsEntries : Layouts → StoreView ℕ → StoreView ℕ → Type 0
KeepsEntries layouts old new = (handle : GcRootIndex) (key : ℤ) → HoldsEntry layouts old handle key → HoldsEntry layouts new handle key
