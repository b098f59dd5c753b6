use Rattle.std.proofs.Common.{◌≡◌, ◌<◌, ℕ}
use Rattle.std.specs.Prelude.{slice_index_or}
use Rattle.gc_owner.specs.RootColumns.{empty_slot}
use Rattle.gc_store.proofs.store.Store.has_unset_globals.Given as goal

-- the globals so far are empty
abbrev pub invariant-loop-global : goal.invariant-loop-global
invariant-loop-global g l = (k : ℕ) → k < l.global → slice_index_or l.self.globals k empty_slot ≡ empty_slot
