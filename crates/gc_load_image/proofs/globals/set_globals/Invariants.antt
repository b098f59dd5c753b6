use Rattle.std.proofs.Common.{◌≡◌, ℕ, replicate}
use Rattle.gc_model.specs.Table.{Table, null_slot, global_count}
use Rattle.gc_model.specs.Accounts.{Account, HoldsAccount}
use Rattle.gc_store.specs.Stores.{IsSameStore}
use Rattle.gc_load_image.specs.Stages.{GlobalsSet, HeldStand}
use Rattle.gc_load_image.proofs.globals.set_globals.Given as goal

abbrev pub invariant-loop-i : goal.invariant-loop-i
invariant-loop-i g l = record {
  sets : (t : Table ℕ) (a : Account) → HoldsAccount g.H.GcHeap.KIND l.fn.store t a → HeldStand l.fn.store t l.held l.globals → t.globals ≡ replicate global_count null_slot
      → GlobalsSet g.H.GcHeap.KIND l.globals l.i t a l.store;
  same : IsSameStore l.fn.store l.store;
}
