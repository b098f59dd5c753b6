use Rattle.std.proofs.Common.{ℕ, subst}
use Rattle.gc_model.specs.Table.{Table, leave}
use Rattle.gc_model.specs.Accounts.{Account, HoldsAccount}
use Rattle.gc_save_image.proofs.Leaving.{roots_left}
use Rattle.gc_save_image.proofs.collect.collect_objects.Goals as goal

pub returns-clause-leaves : goal.returns-clause-leaves
returns-clause-leaves g c t a held =
    roots_left g.H.GcHeap.KIND t a c.collect_in_scope-collected.new.store c.exit_gc_lifo_scope.new.self (c.collect_in_scope-collected.ensures.stopped t a held)
    (subst (λ (n : ℕ). (u : Table ℕ) (x : Account) → HoldsAccount g.H.GcHeap.KIND c.collect_in_scope-collected.new.store u x → HoldsAccount g.H.GcHeap.KIND c.exit_gc_lifo_scope.new.self (leave n u) x)
    (c.enter_gc_lifo_scope-mark.ensures.table t (held.place, held.holds)) c.exit_gc_lifo_scope.ensures.leaves)
