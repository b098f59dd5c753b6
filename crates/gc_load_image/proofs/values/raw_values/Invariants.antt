use Rattle.std.proofs.Common.{ℕ, Some, take, ◌≡◌}
use Rattle.std.specs.List.{slice_get}
use Rattle.gc_model.specs.Table.{Table}
use Rattle.gc_model.specs.Accounts.{Account}
use Rattle.gc_store.specs.Stores.{IsSameStore}
use Rattle.gc_image.specs.declared.image.ImageValue.{ImageValue}
use Rattle.gc_image.specs.Text.{FitsImageValue}
use Rattle.gc_load_image.specs.Stages.{FoundValues, Standing}
use Rattle.gc_load_image.proofs.values.raw_values.Given as goal

abbrev pub invariant-loop-value : goal.invariant-loop-value
invariant-loop-value g l = record {
  goes : (t : Table ℕ) (a : Account) → Standing g.H.GcHeap.KIND l.handles l.fn.store t a → ((index : ℕ) (v : ImageValue) → slice_get l.values index ≡ Some v → FitsImageValue v)
      → FoundValues g.H.GcHeap.KIND l.handles (take l.value-index l.values) l.fn.store t a l.raws.items l.store;
  same : IsSameStore l.fn.store l.store;
}
