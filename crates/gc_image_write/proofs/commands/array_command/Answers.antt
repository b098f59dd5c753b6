use Rattle.std.proofs.Common.{ap, subst, ◌∙◌}
use Rattle.gc_types.specs.Declarations.{declaration_elem, shape_elem}
use Rattle.gc_image_write.specs.Plain.{IsPlainShape}
use Rattle.gc_image_write.proofs.CommandLemmas.{array_commanded}
use Rattle.gc_image_write.proofs.commands.array_command.Goals as goal

pub returns-in-Some : goal.returns-in-Some
returns-in-Some c = λ d elem at shape.
    array_commanded c.args.types.now.declarations c.args.ty d at c.are_declared.ensures c.is_final.result c.number_of.result c.is_final.ensures (c.number_of.ensures ∙ c.supertype_of.ensures) elem c.in-Some.elem
    shape (c.in-Some.ensures elem (ap declaration_elem at ∙ ap shape_elem shape))

pub returns-in-None : goal.returns-in-None
returns-in-None c = λ d elem at shape plain. c.in-None.ensures elem (ap declaration_elem at ∙ ap shape_elem shape) (subst IsPlainShape shape plain)
