use Rattle.std.proofs.Common.{◌≡◌, true, Option, Some, sym, ap, ◌∙◌, subst}
use Rattle.std.specs.Prelude.{option_copied}
use Rattle.gc_values.specs.declared.root.RawValue.{RawValue}
use Rattle.gc_script.specs.Slots.{RunnerView, register_at}
use Rattle.gc_script.specs.State.{State, HoldsState, RegisterStands}
use Rattle.gc_script.specs.Given.{given_register}
use Rattle.gc_script.specs.Values.{IsFoundLive}
use Rattle.gc_script.proofs.StandLemmas.{holds_table}
use Rattle.gc_script.proofs.HostGoes.{it, host_told, no_host_told}
use Rattle.gc_script.proofs.runner.Runner.host_number.Given as given
use Rattle.gc_script.proofs.runner.Runner.host_number.Goals as goal
use Rattle.gc_script.proofs.runner.Runner.host_number.Goals.{After-host_data}

-- what the register holds is found
found : (g : given.Over) (c : After-host_data g) (s : State) → HoldsState g.H.GcHeap.KIND c.args.store.now c.args.self.now s → IsFoundLive c.args.store.now s.table c.in-Some.value (given_register s c.args.r) true
found g c s holds =
    let slot : register_at c.args.self.now.registers c.args.r ≡ Some c.in-Some.value = ap (λ (x : RunnerView). register_at x.registers c.args.r) (sym c.self.view_is) ∙ sym c.in-Some.ensures in
    c.if-not-is_live.ensures s.table (s.registers c.args.r) (holds_table holds.table) (subst (λ (o : Option RawValue). RegisterStands c.args.store.now s.table o (s.registers c.args.r)) slot (holds.registers c.args.r))

pub returns-in-Ok-Some : goal.returns-in-Ok-Some
returns-in-Ok-Some g c = record {
  goes = λ s holds.
      let at = (goal.at.returns-in-Ok-Some g c).After-host_data in
      let root = it g.H.GcHeap.KIND c.args.store.now c.args.self.now s c.args.r c.in-Some.value holds (found g at s holds) c.in-Some-handle.root (sym c.in-Some-handle.ensures) in
      let told = c.in-Ok-Some.ensures.live s.table root.root (holds_table holds.table) root.named in
      host_told g.H.GcHeap.KIND c.args.store.now c.args.self.now s c.args.r c.in-Some.value holds (found g at s holds) c.in-Some-handle.root (sym c.in-Some-handle.ensures) c.in-Ok-Some.number.now
      (sym told ∙ ap option_copied c.in-Ok-Some.field-0-is);
}

pub returns-in-Ok-None : goal.returns-in-Ok-None
returns-in-Ok-None g c = record {
  goes = λ s holds.
      let at = (goal.at.returns-in-Ok-None g c).After-host_data in
      let root = it g.H.GcHeap.KIND c.args.store.now c.args.self.now s c.args.r c.in-Some.value holds (found g at s holds) c.in-Some-handle.root (sym c.in-Some-handle.ensures) in
      let told = c.in-Ok-None.ensures.live s.table root.root (holds_table holds.table) root.named in
      no_host_told g.H.GcHeap.KIND c.args.store.now c.args.self.now s c.args.r c.in-Some.value holds (found g at s holds) c.in-Some-handle.root (sym c.in-Some-handle.ensures)
      (sym told ∙ ap option_copied c.in-Ok-None.field-0-is);
}

pub returns-in-Err : goal.returns-in-Err
returns-in-Err g c = record {
  goes = λ s holds.
      let at = (goal.at.returns-in-Err g c).After-host_data in
      let root = it g.H.GcHeap.KIND c.args.store.now c.args.self.now s c.args.r c.in-Some.value holds (found g at s holds) c.in-Some-handle.root (sym c.in-Some-handle.ensures) in
      absurd (c.in-Err.ensures.live s.table root.root (holds_table holds.table) root.named);
}
