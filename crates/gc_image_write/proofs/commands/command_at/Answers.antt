use Rattle.std.proofs.Common.{sym, ◌∙◌}
use Rattle.gc_image_write.proofs.TurnLemmas.{a_function, a_struct, an_array, an_exn, kind_told, ok_told}
use Rattle.gc_image_write.proofs.commands.command_at.Goals as goal

pub returns-in-Some-Struct : goal.returns-in-Some-Struct
returns-in-Some-Struct c =
    ok_told c.struct_command.result
    (λ found told. λ d at.
    let a = a_struct d.shape (kind_told c.args.types.now.declarations c.args.ty d _ at (sym c.kind_of.ensures ∙ c.in-Some-Struct.is) ∙ c.in-Some-Struct.field-0-is) in told d a.0 at a.1)
    c.struct_command.ensures

pub returns-in-Some-Array : goal.returns-in-Some-Array
returns-in-Some-Array c = λ d at.
    let a = an_array d.shape (kind_told c.args.types.now.declarations c.args.ty d _ at (sym c.kind_of.ensures ∙ c.in-Some-Array.is) ∙ c.in-Some-Array.field-0-is) in c.array_command.ensures d a.0 at a.1

pub returns-in-Some-Exn : goal.returns-in-Some-Exn
returns-in-Some-Exn c =
    ok_told c.exn_command.result
    (λ found told. λ d at.
    let a = an_exn d.shape (kind_told c.args.types.now.declarations c.args.ty d _ at (sym c.kind_of.ensures ∙ c.in-Some-Exn.is) ∙ c.in-Some-Exn.field-0-is) in told d a.0 at a.1)
    c.exn_command.ensures

pub returns-in-Some-Func : goal.returns-in-Some-Func
returns-in-Some-Func c = λ d at.
    a_function d (kind_told c.args.types.now.declarations c.args.ty d _ at (sym c.kind_of.ensures ∙ c.in-Some-Func.is) ∙ c.in-Some-Func.field-0-is)
