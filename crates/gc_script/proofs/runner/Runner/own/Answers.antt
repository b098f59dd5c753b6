use Rattle.std.proofs.Common.{Option, sym, ap, ◌∙◌, subst}
use Rattle.std.specs.Prelude.{Err}
use Rattle.gc_values.specs.declared.root.GcRootIndex.{GcRootIndex}
use Rattle.gc_values.specs.declared.root.RawValue.{RawValue}
use Rattle.gc_values.specs.declared.root.RootFault.{RootFault}
use Rattle.gc_store.specs.OwnedRoots.{MakesOwned}
use Rattle.gc_script.specs.Slots.{RunnerView, register_at}
use Rattle.gc_script.specs.State.{StandsOwned}
use Rattle.gc_script.specs.Values.{FoundReference}
use Rattle.gc_script.proofs.OwnGoes.{own_may, own_null, own_full, own_made}
use Rattle.gc_script.proofs.runner.Runner.own.Goals as goal

pub returns-in-None-clause-goes : goal.returns-in-None-clause-goes
returns-in-None-clause-goes g c s holds =
    own_null g.H.GcHeap.KIND c.args.store.now c.args.self.now s c.args.o c.args.r holds c.in-Ok.slot.0
    (subst (λ (x : Option GcRootIndex). FoundReference c.args.store.now s c.args.r c.in-Ok.slot.0 x) c.in-None.is (c.in-Ok.ensures s holds))

pub returns-in-Ok-own_root-clause-goes : goal.returns-in-Ok-own_root-clause-goes
returns-in-Ok-own_root-clause-goes g c s holds =
    own_made g.H.GcHeap.KIND c.args.store.now c.args.self.now s c.args.o c.args.r holds c.in-Ok.slot.0 c.in-Some.handle
    (subst (λ (x : Option GcRootIndex). FoundReference c.args.store.now s c.args.r c.in-Ok.slot.0 x) c.in-Some.is (c.in-Ok.ensures s holds))
    c.own_root.new.self c.own_root.ensures.same c.give_up_held.new.store _ c.in-Ok-own_root.made (c.in-Ok-own_root.ensures.owns s.table s.account holds.table) c.give_up_held.ensures.same
    (λ t a h table stands. c.give_up_held.ensures.gives_up t a h table
    (subst (λ (x : Option RawValue). StandsOwned c.own_root.new.self x h) (sym (c.get-before.ensures ∙ c.make_room.ensures.same c.args.o ∙ ap (λ (r : RunnerView). register_at r.rest.owned c.args.o) c.self.view_is)) stands))
    c.set.ensures.set
    (λ k differ. c.set.ensures.others k differ ∙ c.make_room.ensures.same k ∙ ap (λ (r : RunnerView). register_at r.rest.owned k) c.self.view_is)
    (λ d. ap (λ (r : RunnerView). register_at r.registers d) c.self.view_is)
    (ap (λ (r : RunnerView). r.rest.marks) c.self.view_is)

pub returns-in-Err-RootsFull-clause-goes : goal.returns-in-Err-RootsFull-clause-goes
returns-in-Err-RootsFull-clause-goes g c s holds =
    own_full g.H.GcHeap.KIND c.args.store.now c.args.self.now s c.args.o c.args.r holds c.in-Ok.slot.0 c.in-Some.handle
    (subst (λ (x : Option GcRootIndex). FoundReference c.args.store.now s c.args.r c.in-Ok.slot.0 x) c.in-Some.is (c.in-Ok.ensures s holds))
    c.own_root.new.self c.own_root.ensures.same _
    (record {
      registers = λ d. ap (λ (r : RunnerView). register_at r.registers d) c.self.view_is;
      owned = λ k. c.make_room.ensures.same k ∙ ap (λ (r : RunnerView). register_at r.rest.owned k) c.self.view_is;
      marks = ap (λ (r : RunnerView). r.rest.marks) c.self.view_is;
    })
    (subst (λ (f : RootFault). MakesOwned g.H.GcHeap.KIND c.args.store.now s.table s.account c.in-Some.handle (Err f) c.own_root.new.self) c.in-Err-RootsFull.field-0-is (c.in-Err-RootsFull.ensures.owns s.table s.account holds.table))

pub returns-then-is_err-clause-cause : goal.returns-then-is_err-clause-cause
returns-then-is_err-clause-cause g c s holds =
    own_may g.H.GcHeap.KIND c.args.store.now c.args.self.now s c.args.o c.args.r holds c.in-Ok.slot.0 c.in-Some.handle
    (subst (λ (x : Option GcRootIndex). FoundReference c.args.store.now s c.args.r c.in-Ok.slot.0 x) c.in-Some.is (c.in-Ok.ensures s holds))

pub returns-in-Err-own_root-clause-cause : goal.returns-in-Err-own_root-clause-cause
returns-in-Err-own_root-clause-cause g c s holds =
    own_may g.H.GcHeap.KIND c.args.store.now c.args.self.now s c.args.o c.args.r holds c.in-Ok.slot.0 c.in-Some.handle
    (subst (λ (x : Option GcRootIndex). FoundReference c.args.store.now s c.args.r c.in-Ok.slot.0 x) c.in-Some.is (c.in-Ok.ensures s holds))
