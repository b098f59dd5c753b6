use Rattle.std.proofs.Common.{◌≡◌, ◌+◌, Some, ap, not, take, refl, sym, subst, ◌∙◌, arith}
use Rattle.std.specs.List.{slice_get}
use Rattle.gc_image_write.specs.TypeWords.{Commanded}
use Rattle.gc_image_write.proofs.TurnLemmas.{CommandsSoFar, all_told, few_declared, has_type, one_more}
use Rattle.gc_image_write.proofs.commands.commands_of.Goals as goal

pub returns-in-None-clause-plain : goal.returns-in-None-clause-plain
returns-in-None-clause-plain c =
    let types = c.args.types.now.declarations in
    let t = has_type types c.new-ty.result c.kind_of.result c.kind_of.ensures (ap not c.is_none.ensures ∙ ap (λ b. not (not b)) c.if-is_none.false) in
    (λ e. cc, λ plain. absurd ((rw c.in-None.is at c.in_ok-command.ensures) t.0 t.1 (plain c.new-ty.result t.0 t.1)))

pub loop-index-preserved : goal.loop-index-preserved
loop-index-preserved c =
    let types = c.args.types.now.declarations in
    let t = has_type types c.new-ty.result c.kind_of.result c.kind_of.ensures (ap not c.is_none.ensures ∙ ap (λ b. not (not b)) c.if-is_none.false) in
    subst (CommandsSoFar types (c.loop-index.index + 1)) (sym c.in_ok-push-in-Some.ensures.items)
    (one_more types c.loop-index.index c.loop-index.commands.items c.in-Some.command t.0 (subst (λ m. slice_get types m ≡ Some t.0) c.new-ty.ensures t.1) c.loop-index.invariant
    (subst (λ m. Commanded (take m types) t.0 (Some c.in-Some.command)) c.new-ty.ensures ((rw c.in-Some.is at c.in_ok-command.ensures) t.0 t.1)))

pub returns-clause-declare : goal.returns-clause-declare
returns-clause-declare c =
    (all_told c.args.types.now.declarations c.loop-index.index c.loop-index.commands.items (omega (arith, few_declared c.args.types.now.declarations c.are_declared.ensures, c.loop-index-test.false))
    c.loop-index.invariant).0

pub returns-clause-plain : goal.returns-clause-plain
returns-clause-plain c = (
  λ e. (all_told c.args.types.now.declarations c.loop-index.index c.loop-index.commands.items (omega (arith, few_declared c.args.types.now.declarations c.are_declared.ensures, c.loop-index-test.false))
      c.loop-index.invariant).1,
  λ plain. refl,
)
