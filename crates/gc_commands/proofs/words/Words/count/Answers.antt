use Rattle.std.proofs.Common.{◌==◌, ◌∙◌, ◌+◌, ap, sym}
use Rattle.std.proofs.lemmas.List.Splits.{length-slice_split}
use Rattle.std.specs.List.{slice_split}
use Rattle.std.specs.Option.{option_map_or}
use Rattle.std.specs.Prelude.{[], length}
use Rattle.gc_commands.proofs.words.Words.count.Goals as goal

pub returns-in-Some : goal.returns-in-Some
returns-in-Some c =
    ap (λ n. n + 1) c.count_spaces.ensures.count ∙ sym (length-slice_split (λ b. b == 32) c.in-Some.rest.now)
    ∙ ap (λ rest. length (option_map_or (λ text. slice_split (λ b. b == 32) text.now) rest [])) (sym c.in-Some.is) ∙ ap length c.self.view_is
