use Rattle.std.proofs.Common.{Some, sym, ap, subst, ◌∙◌, take}
use Rattle.gc_types.specs.Declarations.{declaration_fields, shape_fields}
use Rattle.gc_commands.specs.declared.command.Command.TheVariants as command
use Rattle.gc_image_write.specs.Plain.{IsPlainShape}
use Rattle.gc_image_write.specs.TypeWords.{Commanded}
use Rattle.gc_image_write.proofs.CommandLemmas.{exn_commanded}
use Rattle.gc_image_write.proofs.commands.exn_command.Goals as goal

pub returns-in-Some : goal.returns-in-Some
returns-in-Some c = λ d params at shape.
    subst (λ ws. Commanded (take c.args.ty c.args.types.now.declarations) d (Some (command.Exn ws))) (sym c.from_vec.ensures)
    (exn_commanded c.args.types.now.declarations c.args.ty d at c.are_declared.ensures params c.in-Some.params.items shape
    ((rw c.in-Some.is at c.in_ok-params.ensures.some) params (ap declaration_fields at ∙ ap shape_fields shape)))

pub returns-in-None : goal.returns-in-None
returns-in-None c = λ d params at shape plain. (rw c.in-None.is at c.in_ok-params.ensures.none) params (ap declaration_fields at ∙ ap shape_fields shape) (subst IsPlainShape shape plain)
