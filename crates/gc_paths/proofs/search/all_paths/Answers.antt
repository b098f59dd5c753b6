use Rattle.std.proofs.Common.{ℕ, refl, subst}
use Rattle.gc_model.specs.Table.{Table, leave}
use Rattle.gc_model.specs.Words.{Placing}
use Rattle.gc_model.specs.Accounts.{Account}
use Rattle.gc_store.specs.OwnedWords.{HoldsThere}
use Rattle.gc_paths.specs.Progress.{Basis}
use Rattle.gc_paths.proofs.Ending.{pushed_left}
use Rattle.gc_paths.proofs.Growing.{same_twice}
use Rattle.gc_paths.specs.Answers.{OnlyPushed}
use Rattle.gc_paths.proofs.search.all_paths.Goals as goal
use Rattle.gc_paths.proofs.search.all_paths.Goals.{After-exit_gc_lifo_scope}

pub returns-in-Ok-clause-answers : goal.returns-in-Ok-clause-answers
returns-in-Ok-clause-answers g c t place a there =
    let all = c.in-Ok.ensures.finds (record { scoped = c.args.scoped; table = t; place = place; account = a }) refl there in
    record { told = all.told; result_is = all.entries_are; report = all.report; count = all.count; needs = all.needs; room = all.room }

pub returns-clause-answers : goal.returns-clause-answers
returns-clause-answers g c t place a there = c.in-Err.ensures.finds (record { scoped = c.args.scoped; table = t; place = place; account = a }) refl there

left : (g : _) (c : After-exit_gc_lifo_scope g) (t : Table g.row.D.Denot) (place : Placing) (a : Account) → HoldsThere g.H.GcHeap.KIND c.args.store.now t place a
    → OnlyPushed g.H.GcHeap.KIND t place a c.exit_gc_lifo_scope.new.self
left g c t place a there =
    let b : Basis g.row.D.Denot = record { scoped = c.args.scoped; table = t; place = place; account = a } in
    pushed_left g.H.GcHeap.KIND b c.find_paths-found.new.store c.exit_gc_lifo_scope.new.self (c.find_paths-found.ensures.stopped b refl there)
    (subst (λ (n : ℕ). (u : Table g.row.D.Denot) (q : Placing) (x : Account) → HoldsThere g.H.GcHeap.KIND c.find_paths-found.new.store u q x → HoldsThere g.H.GcHeap.KIND c.exit_gc_lifo_scope.new.self (leave n u) q x)
    (c.enter_gc_lifo_scope-mark.ensures.table t (place, there.0)) c.exit_gc_lifo_scope.ensures.there)

pub returns-in-Ok-clause-leaves : goal.returns-in-Ok-clause-leaves
returns-in-Ok-clause-leaves g c = left g (goal.at.returns-in-Ok-clause-leaves g c).After-exit_gc_lifo_scope

pub returns-clause-leaves : goal.returns-clause-leaves
returns-clause-leaves g c = left g (goal.at.returns-clause-leaves g c).After-exit_gc_lifo_scope

pub returns-in-Ok-clause-same : goal.returns-in-Ok-clause-same
returns-in-Ok-clause-same g c = same_twice c.args.store.now c.find_paths-found.new.store c.exit_gc_lifo_scope.new.self c.find_paths-found.ensures.same c.exit_gc_lifo_scope.ensures.same

pub returns-clause-same : goal.returns-clause-same
returns-clause-same g c = same_twice c.args.store.now c.find_paths-found.new.store c.exit_gc_lifo_scope.new.self c.find_paths-found.ensures.same c.exit_gc_lifo_scope.ensures.same
