use Rattle.std.proofs.Common.{◌∷◌, refl, sym, ap, ◌∙◌}
use Rattle.std.proofs.lemmas.List.{take_rest}
use Rattle.gc_commands.specs.Forms.{name_of}
use Rattle.gc_commands.proofs.NameLemmas.{named_by_space, named_whole, unnamed_by_space, unnamed_whole}
use Rattle.gc_commands.proofs.WordLemmas.{words_left}
use Rattle.gc_commands.proofs.form.cut_form.Goals as goal
use Rattle.gc_commands.proofs.form.cut_form.Goals.{in-Some, in-None}

pub returns-in_err-form_of : goal.returns-in_err-form_of
returns-in_err-form_of c =
    rw c.from_residual.ensures
    (elim c.match-first_space.branch [
      | in-Some w ↦ unnamed_by_space c.args.line.now _ c.min.result c.min.ensures w.in-Some.at (sym w.in-Some.ensures) (ap (λ p. p.0.now) w.t-15-is) c.in_err-form_of.ensures
      | in-None w ↦ unnamed_whole c.args.line.now _ c.min.result c.min.ensures (sym w.in-None.ensures) (ap (λ p. p.0.now) w.t-15-is) c.in_err-form_of.ensures
    ])

pub returns : goal.returns
returns c =
    elim c.match-first_space.branch [
      | in-Some w ↦ named_by_space c.args.line.now _ c.min.result c.min.ensures w.in-Some.at _ c.in_ok-form_of.field-0 (sym w.in-Some.ensures) (ap (λ p. p.0.now) w.t-15-is)
          (ap (λ p. words_left p.1) w.t-15-is ∙ rw take_rest refl) c.in_ok-form_of.ensures.1
      | in-None w ↦ named_whole c.args.line.now _ c.min.result c.min.ensures c.in_ok-form_of.field-0 (sym w.in-None.ensures) (ap (λ p. p.0.now) w.t-15-is) c.in_ok-form_of.ensures.1
          ∙ ap (λ p. name_of c.in_ok-form_of.field-0 ∷ words_left p.1) (sym w.t-15-is)
    ]
