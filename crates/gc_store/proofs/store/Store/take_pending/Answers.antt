use Rattle.std.proofs.Common.{◌≡◌, ◌<◌, ap, ◌∙◌, arith}
use Rattle.gc_model.specs.Stores.{StoreView}
use Rattle.gc_store.proofs.PendingLemmas.{some_pending, takes_it, keeps_it}
use Rattle.gc_store.proofs.store.Store.take_pending.Goals as goal

pub returns-in-Ok-clause-takes : goal.returns-in-Ok-clause-takes
returns-in-Ok-clause-takes g c = λ t a held.
    let is : c.pending-word.result ≡ c.args.self.now.pending = c.pending-word.ensures ∙ ap (λ (s : StoreView g.row.D.Denot). s.pending) c.self.view_is in
    let positive : 0 < c.pending-word.result = omega (arith, c.if-word-eq0.false) in
    let some = some_pending g.H.GcHeap.KIND c.args.self.now t held.place held.holds c.pending-word.result is positive in
    takes_it g.H.GcHeap.KIND c.args.self.now t a held c.pending-word.result is positive c.in-Ok.handle c.push_root.new.self c.clear_pending.new.self
    (c.in-Ok.ensures.pushes t held.place a some.0 held.holds held.account some.1.1.0) (c.clear_pending.ensures.clears _ a) c.clear_pending.ensures.same

pub returns-in-Err-clause-takes : goal.returns-in-Err-clause-takes
returns-in-Err-clause-takes g c = λ t a held.
    let is : c.pending-word.result ≡ c.args.self.now.pending = c.pending-word.ensures ∙ ap (λ (s : StoreView g.row.D.Denot). s.pending) c.self.view_is in
    let positive : 0 < c.pending-word.result = omega (arith, c.if-word-eq0.false) in
    let some = some_pending g.H.GcHeap.KIND c.args.self.now t held.place held.holds c.pending-word.result is positive in
    keeps_it g.H.GcHeap.KIND c.args.self.now t a held c.pending-word.result is positive c.in-Err.fault c.push_root.new.self
    (c.in-Err.ensures.pushes t held.place a some.0 held.holds held.account some.1.1.0)
