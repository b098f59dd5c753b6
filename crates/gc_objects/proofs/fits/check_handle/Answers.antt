use Rattle.std.proofs.Common.{Result, sym, ◌∙◌, subst}
use Rattle.gc_values.specs.declared.root.RootFault.{RootFault}
use Rattle.gc_values.specs.declared.root.RootedObject.{RootedObject}
use Rattle.gc_store.specs.Roots.{is_of_store, IsReference}
use Rattle.gc_objects.specs.Answered.{Answers}
use Rattle.gc_objects.proofs.ValueLemmas.{plain_checked, handle_found, handle_refused}
use Rattle.gc_objects.proofs.fits.check_handle.Goals as goal

pub returns-in-Ok : goal.returns-in-Ok
returns-in-Ok g c t holds =
    handle_found c.args.store.now t c.args.value.now c.in-Some.handle (sym c.handle.ensures ∙ c.in-Some.is) c.in-Ok.field-0
    (subst (λ (q : Result RootedObject RootFault). Answers c.args.store.now t (is_of_store c.args.store.now c.in-Some.handle) c.in-Some.handle (IsReference t) q) c.in-Ok.is (c.object_at.ensures.answers t holds))

pub returns-in-Err : goal.returns-in-Err
returns-in-Err g c t holds =
    handle_refused c.args.store.now t c.args.value.now c.in-Some.handle (sym c.handle.ensures ∙ c.in-Some.is) c.in-Err.fault
    (subst (λ (q : Result RootedObject RootFault). Answers c.args.store.now t (is_of_store c.args.store.now c.in-Some.handle) c.in-Some.handle (IsReference t) q) c.in-Err.is (c.object_at.ensures.answers t holds))

pub returns-in-None : goal.returns-in-None
returns-in-None g c t holds = plain_checked c.args.store.now t c.args.value.now (sym c.handle.ensures ∙ c.in-None.is)
