use Rattle.std.proofs.Common.{ℕ, Bool, true, Option, Some, sym, ap, subst, ◌∙◌}
use Rattle.std.specs.Prelude.{Result, is_ok}
use Rattle.gc_model.specs.Holds.{HoldsTable}
use Rattle.gc_model.specs.Table.{Table}
use Rattle.gc_model.specs.Values.{Reference}
use Rattle.gc_values.specs.declared.root.GcRootIndex.{GcRootIndex}
use Rattle.gc_values.specs.declared.root.RootFault.{RootFault}
use Rattle.gc_values.specs.declared.root.RootedObject.{RootedObject}
use Rattle.gc_store.specs.Roots.{NamesReference, IsReference, TellsReference}
use Rattle.gc_script.specs.declared.objects.NamedObject.{NamedObject}
use Rattle.gc_script.specs.Given.{given_register}
use Rattle.gc_script.specs.Named.{TellsObject}
use Rattle.gc_script.specs.State.{State, RegisterStands}
use Rattle.gc_script.specs.Values.{IsFoundLive}
use Rattle.gc_script.proofs.FoundLemmas.{gone_refused, none_refused, object_found}
use Rattle.gc_script.proofs.ValueLemmas.{found_handle}
use Rattle.gc_script.proofs.objects.find_object.Given as given
use Rattle.gc_script.proofs.objects.find_object.Goals as goal
use Rattle.gc_script.proofs.objects.find_object.Goals.{After-object, In-Ok}

-- whether the register's root is live, by what the store answers
found : (g : given.Over) (c : After-object g) (s : State) (r : ℕ) → HoldsTable g.H.GcHeap.KIND c.args.store.now s.table → RegisterStands c.args.store.now s.table (Some c.args.value.now) (s.registers r) → IsFoundLive c.args.store.now s.table c.args.value.now (given_register s r) (is_ok c.object.result)
found g c s r holds stands =
    found_handle g.H.GcHeap.KIND c.args.store.now s.table holds c.in-Some.root c.object.result (λ q named. c.object.ensures.live s.table q holds named) (λ of_store nothing. c.object.ensures.gone of_store s.table holds nothing)
    c.args.value.now (s.registers r) (sym c.handle.ensures ∙ c.in-Some.is) stands

live : (g : given.Over) (c : In-Ok g) (s : State) (r : ℕ) → HoldsTable g.H.GcHeap.KIND c.args.store.now s.table → RegisterStands c.args.store.now s.table (Some c.args.value.now) (s.registers r) → IsFoundLive c.args.store.now s.table c.args.value.now (given_register s r) true
live g c s r holds stands =
    subst (λ (b : Bool). IsFoundLive c.args.store.now s.table c.args.value.now (given_register s r) b) (ap is_ok c.in-Ok.is) (found g (goal.at.In-Ok g c).After-object s r holds stands)

-- what its root names is what the store answers
told : (g : given.Over) (c : In-Ok g) (t : Table ℕ) (q : Reference) → HoldsTable g.H.GcHeap.KIND c.args.store.now t → NamesReference c.args.store.now t c.in-Some.root q → IsReference t q c.in-Ok.object
told g c t q holds named = subst (λ (a : Result RootedObject RootFault). TellsReference t q a) c.in-Ok.is (c.object.ensures.live t q holds named)

pub returns-in-Some-object_of-clause-finds : goal.returns-in-Some-object_of-clause-finds
returns-in-Some-object_of-clause-finds g c s r holds stands =
    let at = (goal.at.returns-in-Some-object_of-clause-finds g c).In-Ok in
    object_found c.args.wanted c.args.store.now s r c.args.value.now (live g at s r holds stands)
    g.H.GcHeap.KIND holds c.in-Some.root (sym c.handle.ensures ∙ c.in-Some.is) c.object_of.result (λ q named. c.object_of.ensures.tells s.table q holds named (told g at s.table q holds named)) c.in-Some-object_of.found c.in-Some-object_of.is

pub returns-in-None-object_of-clause-finds : goal.returns-in-None-object_of-clause-finds
returns-in-None-object_of-clause-finds g c s r holds stands =
    let at = (goal.at.returns-in-None-object_of-clause-finds g c).In-Ok in
    none_refused c.args.wanted c.args.store.now s r c.args.value.now (live g at s r holds stands)
    g.H.GcHeap.KIND holds c.in-Some.root (sym c.handle.ensures ∙ c.in-Some.is) c.object_of.result (λ q named. c.object_of.ensures.tells s.table q holds named (told g at s.table q holds named)) c.in-None-object_of.is

pub returns-in-Err-clause-finds : goal.returns-in-Err-clause-finds
returns-in-Err-clause-finds g c s r holds stands =
    gone_refused c.args.wanted s r
    (subst (λ (b : Bool). IsFoundLive c.args.store.now s.table c.args.value.now (given_register s r) b) (ap is_ok c.in-Err.is) (found g (goal.at.returns-in-Err-clause-finds g c).After-object s r holds stands))

pub returns-in-Some-object_of-clause-everywhere : goal.returns-in-Some-object_of-clause-everywhere
returns-in-Some-object_of-clause-everywhere g c t r holds named =
    let at = (goal.at.returns-in-Some-object_of-clause-everywhere g c).In-Ok in
    let root_named = subst (λ (x : GcRootIndex). NamesReference c.args.store.now t x r) c.in-Some-object_of.ensures.root named in
    subst (λ (x : Option NamedObject). TellsObject c.args.store.now t c.args.wanted r x) c.in-Some-object_of.is
    (c.object_of.ensures.tells t r holds root_named (told g at t r holds root_named))
