use Rattle.std.proofs.Common.{◌≡◌, true, Option, Some, sym, ap, ◌∙◌, subst, refl}
use Rattle.std.specs.Prelude.{Ok, Err}
use Rattle.gc_values.specs.declared.root.RawValue.{RawValue}
use Rattle.gc_script.specs.Slots.{RunnerView, register_at}
use Rattle.gc_script.specs.State.{State, HoldsState, RegisterStands}
use Rattle.gc_script.specs.Given.{given_register}
use Rattle.gc_script.specs.Values.{IsFoundLive}
use Rattle.gc_script.proofs.StandLemmas.{holds_table}
use Rattle.gc_script.proofs.NamedLemmas.{compared, never_unrooted}
use Rattle.gc_script.proofs.runner.Runner.compare.Given as given
use Rattle.gc_script.proofs.runner.Runner.compare.Goals as goal
use Rattle.gc_script.proofs.runner.Runner.compare.Goals.{After-index_eq}

-- what the first register holds is found
first_found : (g : given.Over) (c : After-index_eq g) (s : State) → HoldsState g.H.GcHeap.KIND c.args.store.now c.args.self.now s → IsFoundLive c.args.store.now s.table c.in-Some.value (given_register s c.args.r) true
first_found g c s holds =
    let slot : register_at c.args.self.now.registers c.args.r ≡ Some c.in-Some.value = ap (λ (x : RunnerView). register_at x.registers c.args.r) (sym c.self.view_is) ∙ sym c.in-Some.ensures in
    c.if-not-is_live.ensures s.table (s.registers c.args.r) (holds_table holds.table) (subst (λ (o : Option RawValue). RegisterStands c.args.store.now s.table o (s.registers c.args.r)) slot (holds.registers c.args.r))

-- and so is what the second one holds
second_found : (g : given.Over) (c : After-index_eq g) (s : State) → HoldsState g.H.GcHeap.KIND c.args.store.now c.args.self.now s → IsFoundLive c.args.store.now s.table c.in-Some-get.value (given_register s c.args.q) true
second_found g c s holds =
    let slot : register_at c.args.self.now.registers c.args.q ≡ Some c.in-Some-get.value = ap (λ (x : RunnerView). register_at x.registers c.args.q) (sym c.self.view_is) ∙ sym c.in-Some-get.ensures in
    c.if-not-is_live-2.ensures s.table (s.registers c.args.q) (holds_table holds.table) (subst (λ (o : Option RawValue). RegisterStands c.args.store.now s.table o (s.registers c.args.q)) slot (holds.registers c.args.q))

pub returns-in-Ok : goal.returns-in-Ok
returns-in-Ok g c = record {
  goes = λ s holds.
      let at = (goal.at.returns-in-Ok g c).After-index_eq in
      compared g.H.GcHeap.KIND c.args.store.now c.args.self.now s c.args.r c.args.q c.in-Some.value c.in-Some-get.value c.in-Some-handle.root c.in-Some-handle-2.root (Ok c.in-Ok.same) holds
      (sym c.in-Some-handle.ensures) (sym c.in-Some-handle-2.ensures) (first_found g at s holds) (second_found g at s holds)
      (λ x y. c.in-Ok.ensures.live s.table x y (holds_table holds.table)) c.in-Ok.same refl;
}

pub returns-in-Err : goal.returns-in-Err
returns-in-Err g c = record {
  goes = λ s holds.
      let at = (goal.at.returns-in-Err g c).After-index_eq in
      absurd (never_unrooted g.H.GcHeap.KIND c.args.store.now c.args.self.now s c.args.r c.args.q c.in-Some.value c.in-Some-get.value c.in-Some-handle.root c.in-Some-handle-2.root (Err c.in-Err.field-0) holds
      (sym c.in-Some-handle.ensures) (sym c.in-Some-handle-2.ensures) (first_found g at s holds) (second_found g at s holds)
      (λ x y. c.in-Err.ensures.live s.table x y (holds_table holds.table)) c.in-Err.field-0 refl);
}
