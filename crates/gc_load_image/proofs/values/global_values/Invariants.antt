use Rattle.std.proofs.Common.{ℕ, Some, take, map, ◌≡◌}
use Rattle.std.specs.List.{slice_get}
use Rattle.gc_model.specs.Table.{Table}
use Rattle.gc_model.specs.Accounts.{Account}
use Rattle.gc_store.specs.Stores.{IsSameStore}
use Rattle.gc_image.specs.declared.image.GlobalLine.{GlobalLine}
use Rattle.gc_image.specs.Text.{FitsImageValue}
use Rattle.gc_load_image.specs.Stages.{FoundValues, Standing, global_line_value}
use Rattle.gc_load_image.proofs.values.global_values.Given as goal

abbrev pub invariant-loop-global : goal.invariant-loop-global
invariant-loop-global g l = record {
  goes : (t : Table ℕ) (a : Account) → Standing g.H.GcHeap.KIND l.handles l.fn.store t a → ((index : ℕ) (v : GlobalLine) → slice_get l.globals index ≡ Some v → FitsImageValue v.value)
      → FoundValues g.H.GcHeap.KIND l.handles (map global_line_value (take l.global-index l.globals)) l.fn.store t a l.raws.items l.store;
  same : IsSameStore l.fn.store l.store;
}
