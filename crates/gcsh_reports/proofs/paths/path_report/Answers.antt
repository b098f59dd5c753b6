use Rattle.std.proofs.Common.{ℕ, true, refl, subst}
use Rattle.gc_model.specs.Table.{Table, leave}
use Rattle.gc_model.specs.Words.{Placing}
use Rattle.gc_model.specs.Accounts.{Account}
use Rattle.gc_store.specs.OwnedWords.{HoldsThere}
use Rattle.gc_paths.specs.Progress.{Basis}
use Rattle.gc_paths.proofs.Ending.{pushed_left}
use Rattle.gcsh_reports.proofs.paths.path_report.Goals as goal

pub returns-clause-leaves : goal.returns-clause-leaves
returns-clause-leaves g c t place a there =
    let b : Basis ℕ = record { scoped = true; table = t; place = place; account = a } in
    pushed_left g.H.GcHeap.KIND b c.report-text.new.store c.exit_gc_lifo_scope.new.self (c.report-text.ensures.stopped b refl there)
    (subst (λ (n : ℕ). (u : Table ℕ) (q : Placing) (x : Account) → HoldsThere g.H.GcHeap.KIND c.report-text.new.store u q x → HoldsThere g.H.GcHeap.KIND c.exit_gc_lifo_scope.new.self (leave n u) q x)
    (c.enter_gc_lifo_scope-mark.ensures.table t (place, there.0)) c.exit_gc_lifo_scope.ensures.there)
