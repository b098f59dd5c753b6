use Rattle.std.proofs.Common.{ℕ}
use Rattle.gc_model.specs.Table.{Table}
use Rattle.gc_model.specs.Accounts.{Account, HoldsAccount}
use Rattle.gc_store.specs.Stores.{IsSameStore}
use Rattle.gc_save_image.specs.GlobalSteps.{GlobalsRead}
use Rattle.gc_save_image.proofs.globals.read_globals.Given as goal

abbrev pub invariant-loop-global : goal.invariant-loop-global
invariant-loop-global g l = record {
  goes : (t : Table ℕ) (a : Account) → HoldsAccount g.H.GcHeap.KIND l.fn.store t a → GlobalsRead g.H.GcHeap.KIND t a l.global l.store l.reads.items;
  same : IsSameStore l.fn.store l.store;
}
