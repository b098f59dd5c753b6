use Rattle.std.proofs.Common.{ℤ, List, [], ◌∷◌, ◌++◌, Option, Result, sym, ap, ◌∙◌, subst}
use Rattle.gc_values.specs.declared.root.GcRootIndex.{GcRootIndex}
use Rattle.gc_lists.specs.declared.fault.ListFault.{ListFault}
use Rattle.gc_lists.specs.Progress.{NamesCell, Steps, ReadsCell}
use Rattle.gc_model.specs.Table.{Table}
use Rattle.gc_model.specs.Accounts.{Account, HoldsAccount}
use Rattle.gc_lists.proofs.CellReads.{back}
use Rattle.gc_lists.proofs.walk.walk.Goals as goal
use Rattle.gc_lists.proofs.Walking.{Going, number_fits, going_begun, going_on, cell_somewhere, stops_full, stops_step, walked_all, given_up}

pub loop-init : goal.loop-init
loop-init g c = subst (λ (xs : List ℤ). Going g.H.GcHeap.KIND c.args.store.now c.args.first xs c.args.first c.args.store.now) (sym c.new-numbers.ensures.items) (going_begun g.H.GcHeap.KIND c.args.store.now c.args.first)

pub step-requires : goal.step-requires
step-requires g c = cell_somewhere g.H.GcHeap.KIND c.args.store.now c.args.first c.loop.numbers.items c.in-Some.cell c.loop.store c.loop.here c.in-Some.is c.loop.invariant c.requires

pub loop-preserved : goal.loop-preserved
loop-preserved g c =
    let steps : (u : Table g.row.D.Denot) (b : Account) (ys : List ℤ) → HoldsAccount g.H.GcHeap.KIND c.loop.store u b → (names : NamesCell c.loop.store u c.in-Some.cell ys)
    → ReadsCell g.H.GcHeap.KIND u b names.number names.next c.in-Ok.number c.in-Ok.next c.step.new.store =
    (λ u b ys h names. subst (λ (r : Result (ℤ × Option GcRootIndex) ListFault). Steps g.H.GcHeap.KIND u b names.number names.next r c.step.new.store) c.in-Ok.is (c.step.ensures.steps u b ys h names)) in
    let fits = number_fits g.H.GcHeap.KIND c.args.store.now c.args.first c.loop.numbers.items c.in-Some.cell c.loop.store c.loop.here c.in-Some.is c.loop.invariant c.in-Ok.number c.in-Ok.next c.step.new.store
    steps c.requires in
    going_on g.H.GcHeap.KIND c.args.store.now c.args.first c.loop.numbers.items c.in-Some.cell c.loop.store c.loop.here c.in-Some.is c.loop.invariant c.in-Ok.number c.in-Ok.next c.step.new.store
    steps
    c.push.new.self.items (c.in-Ok-push.ensures.items ∙ ap (λ (n : ℤ). c.loop.numbers.items ++ n ∷ []) (back c.in-Ok.number fits)) c.step.ensures.same

pub returns-in-Err-push-clause-walks : goal.returns-in-Err-push-clause-walks
returns-in-Err-push-clause-walks g c = λ t a xs holds stands.
    let steps : (u : Table g.row.D.Denot) (b : Account) (ys : List ℤ) → HoldsAccount g.H.GcHeap.KIND c.loop.store u b → (names : NamesCell c.loop.store u c.in-Some.cell ys)
    → ReadsCell g.H.GcHeap.KIND u b names.number names.next c.in-Ok.number c.in-Ok.next c.step.new.store =
    (λ u b ys h names. subst (λ (r : Result (ℤ × Option GcRootIndex) ListFault). Steps g.H.GcHeap.KIND u b names.number names.next r c.step.new.store) c.in-Ok.is (c.step.ensures.steps u b ys h names)) in
    stops_full g.H.GcHeap.KIND c.args.store.now c.args.first c.loop.numbers.items c.in-Some.cell c.loop.store c.loop.here c.in-Some.is c.loop.invariant c.in-Ok.number c.in-Ok.next c.step.new.store
    steps t a xs holds stands

pub returns-in-Err-clause-walks : goal.returns-in-Err-clause-walks
returns-in-Err-clause-walks g c =
    stops_step g.H.GcHeap.KIND c.args.store.now c.args.first c.loop.numbers.items c.in-Some.cell c.loop.store c.loop.here c.in-Some.is c.loop.invariant c.in-Err.fault c.step.new.store
    (λ u b ys h names. subst (λ (r : Result (ℤ × Option GcRootIndex) ListFault). Steps g.H.GcHeap.KIND u b names.number names.next r c.step.new.store) c.in-Err.is (c.step.ensures.steps u b ys h names))

pub returns-in-None-clause-walks : goal.returns-in-None-clause-walks
returns-in-None-clause-walks g c = λ t a xs holds stands. walked_all g.H.GcHeap.KIND c.args.store.now c.args.first c.loop.numbers.items c.loop.store c.loop.here c.loop.invariant t a xs holds stands c.in-None.is

pub returns-clause-walks : goal.returns-clause-walks
returns-clause-walks g c = λ t a xs holds stands. given_up g.H.GcHeap.KIND c.args.store.now c.args.first c.loop.numbers.items c.loop.store c.loop.here c.loop.invariant t a xs holds stands
