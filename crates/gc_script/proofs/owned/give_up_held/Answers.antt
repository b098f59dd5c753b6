use Rattle.std.proofs.Common.{Option, sym, ◌∙◌, subst}
use Rattle.gc_model.specs.Accounts.{HoldsAccount}
use Rattle.gc_values.specs.declared.root.RawValue.{RawValue}
use Rattle.gc_script.specs.State.{HeldOwned, StandsOwned}
use Rattle.gc_script.specs.Shapes.{give_up}
use Rattle.gc_script.proofs.OwnGoes.{owned_by_handle, gave_up}
use Rattle.gc_script.proofs.owned.give_up_held.Goals as goal

pub returns-in-Ok-clause-gives_up : goal.returns-in-Ok-clause-gives_up
returns-in-Ok-clause-gives_up g c t a h holds stands =
    let root = owned_by_handle c.args.store.now c.in-Some.value h c.in-Some-handle.handle (subst (λ (x : Option RawValue). StandsOwned c.args.store.now x h) c.in-Some.is stands) (sym c.handle.ensures ∙ c.in-Some-handle.is) in
    subst (λ (x : Option HeldOwned). HoldsAccount g.H.GcHeap.KIND c.release.new.self (give_up x t) a) (sym root.1.1.1)
    (gave_up g.H.GcHeap.KIND c.args.store.now c.release.new.self t a holds c.in-Some-handle.handle root.1.0 root.0 root.1.1.0 c.in-Ok.field-0 (c.in-Ok.ensures.releases t a holds).1)
