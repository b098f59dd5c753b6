use Rattle.std.proofs.Common.{sym, ap, ◌∙◌}
use Rattle.std.specs.Prelude.{option_copied, option_and_then}
use Rattle.std.proofs.lemmas.Option.{none-some, same_Some}
use Rattle.gc_model.specs.Reads.{host_value}
use Rattle.gc_save_image.proofs.objects.host_number.Goals as goal
use Rattle.gc_model.specs.Values.{at}

pub returns-in-Ok-Some : goal.returns-in-Ok-Some
returns-in-Ok-Some g c t p number holds named e =
    same_Some c.in-Ok-Some.number.now number (ap option_copied (sym c.in-Ok-Some.field-0-is) ∙ c.in-Ok-Some.ensures.live t (at p) holds named ∙ ap (option_and_then host_value) e)

pub returns-in-Ok-None : goal.returns-in-Ok-None
returns-in-Ok-None g c t p number holds named e =
    absurd (none-some number (ap option_copied (sym c.in-Ok-None.field-0-is) ∙ c.in-Ok-None.ensures.live t (at p) holds named ∙ ap (option_and_then host_value) e))

pub returns-in-Err : goal.returns-in-Err
returns-in-Err g c t p number holds named e = absurd (c.in-Err.ensures.live t (at p) holds named)
