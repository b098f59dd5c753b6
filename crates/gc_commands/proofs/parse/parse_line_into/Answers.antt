use Rattle.std.proofs.Common.{◌∷◌, sym, ap, ◌∙◌}
use Rattle.gc_commands.specs.Forms.{name_of}
use Rattle.gc_commands.proofs.LineLemmas.{words_of_spelled}
use Rattle.gc_commands.proofs.LineReadLemmas.{if_ok, line_read}
use Rattle.gc_commands.proofs.ObjectLemmas.{no_name}
use Rattle.gc_commands.proofs.parse.parse_line_into.Goals as goal

pub returns-in_default : goal.returns-in_default
returns-in_default c = λ command spells. no_name _ c.in_default.ensures command spells.fits (words_of_spelled c.args.line.now command spells)

pub returns : goal.returns
returns c =
    if_ok c.read_form.result
    (line_read c.args.line.now c.in-Some.form c.behind_name.result c.if-line-gt-MAX_LINE.false
    (c.in-Some.ensures ∙ ap (λ ws. name_of c.in-Some.form ∷ ws) (sym c.behind_name.ensures)))
    c.read_form.ensures
