use Rattle.std.proofs.Common.{◌≡◌, ℕ, Some, Ok, Err, refl, sym, ap, ◌∙◌, subst}
use Rattle.gc_types.specs.declared.types.TypeFault.{TypeFault}
use Rattle.gc_types.specs.Declarations.{TypeTable, exn_type}
use Rattle.gc_commands.specs.declared.command.Command.TheVariants.{Exn}
use Rattle.gc_commands.specs.declared.reply.Reply.TheVariants as reply
use Rattle.gc_store.specs.Stores.{Declares}
use Rattle.gc_types.specs.declared.kind.TypeKind.TheVariants as kinds
use Rattle.gc_commands.specs.TypeWords.{kinds_with, values_of, declared_exception}
use Rattle.gc_script.specs.State.{State, HoldsState}
use Rattle.gc_script.specs.Steps.{tests}
use Rattle.gc_script.specs.Run.{GoesOn}
use Rattle.gc_script.proofs.TypeLemmas.{was_declared, not_declared, exception_spelled}
use Rattle.gc_script.proofs.runner.Runner.declare_exn.Given as given
use Rattle.gc_script.proofs.runner.Runner.declare_exn.Goals as goal
use Rattle.gc_script.proofs.runner.Runner.declare_exn.Goals.{After-as_slice}

-- the words spell the type that is to be declared
spelled : (g : given.Over) (c : After-as_slice g) (s : State) → HoldsState g.H.GcHeap.KIND c.args.store.now c.args.self.now s → declared_exception c.args.words.now s.table.types ≡ Some (exn_type c.as_slice.result.now)
spelled g c s holds =
    let read : values_of (kinds_with c.types.result.now.declarations kinds.Exn) c.args.words.now ≡ Some c.in-Ok-Some.params.items = rw c.in-Ok-Some.field-0-is at c.in-Ok-Some.ensures.some in
    exception_spelled c.args.words.now c.types.result.now.declarations s.table.types (Some c.in-Ok-Some.params.items) (ap (λ (t : TypeTable). t.declarations) c.types.ensures ∙ holds.table.holds.types) read
    ∙ ap (λ ps. Some (exn_type ps)) (sym c.as_slice.ensures.value)

pub returns-in-Ok-clause-goes : goal.returns-in-Ok-clause-goes
returns-in-Ok-clause-goes g c s holds =
    let at = (goal.at.returns-in-Ok-clause-goes g c).After-as_slice in
    subst (λ (n : ℕ). GoesOn g.H.GcHeap.KIND s (Exn c.args.words.now) (Ok (reply.Declared n)) c.declare_exn.new.self c.args.self.now) (sym (c.as_u32.ensures ∙ c.index.ensures))
    (was_declared g.H.GcHeap.KIND c.args.store.now c.declare_exn.new.self c.args.self.now s holds (declared_exception c.args.words.now) (tests g.H.GcHeap.KIND s (Exn c.args.words.now)) refl c.declare_exn.ensures.same
    (exn_type c.as_slice.result.now) (spelled g at s holds) c.in-Ok.ty (c.in-Ok.ensures.step s.table s.account holds.table))

pub returns-in-Err-BadType-clause-goes : goal.returns-in-Err-BadType-clause-goes
returns-in-Err-BadType-clause-goes g c s holds =
    let at = (goal.at.returns-in-Err-BadType-clause-goes g c).After-as_slice in
    not_declared g.H.GcHeap.KIND c.args.store.now c.declare_exn.new.self c.args.self.now s holds (declared_exception c.args.words.now) (tests g.H.GcHeap.KIND s (Exn c.args.words.now)) refl c.declare_exn.ensures.same
    (exn_type c.as_slice.result.now) (spelled g at s holds)
    (subst (λ (e : TypeFault). Declares g.H.GcHeap.KIND (exn_type c.as_slice.result.now) s.table s.account (Err e) c.declare_exn.new.self) c.in-Err-BadType.field-0-is (c.in-Err-BadType.ensures.step s.table s.account holds.table))
