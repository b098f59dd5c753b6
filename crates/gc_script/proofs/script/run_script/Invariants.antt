use Rattle.std.proofs.Common.{ℕ, take}
use Rattle.gc_model.specs.Table.{Table}
use Rattle.gc_model.specs.Accounts.{Account, HoldsAccount}
use Rattle.gc_store.specs.Stores.{IsSameStore}
use Rattle.gc_script.specs.State.{begin}
use Rattle.gc_script.proofs.ScriptLemmas.{Along}
use Rattle.gc_script.proofs.script.run_script.Given as goal

abbrev pub invariant-loop-command : goal.invariant-loop-command
invariant-loop-command g l = record {
  along : (t : Table ℕ) (a : Account) → HoldsAccount g.H.GcHeap.KIND l.fn.store t a → Along g.H.GcHeap.KIND l.fn.store.alloc_counter (g.L.ResourceLimiter.limits l.fn.limiter) (g.L.ResourceLimiter.limits l.limiter) (begin t a) (take l.command-index l.commands) l.replies.items l.store l.runner;
  same : IsSameStore l.fn.store l.store;
}
