use Rattle.std.proofs.Common.{inr, ◌∙◌}
use Rattle.gcsh_top.proofs.ProgramLemmas.{over_fresh}
use Rattle.gcsh_top.proofs.program.run_args.Goals as goal

pub returns : goal.returns
returns g c = inr (over_fresh _ _ _ _ _ c.new-source.result c.new-sink.result _ _ c.run_program.result (c.as_slice.ensures.value ∙ c.in-Ok-Ok.ensures) c.new-source.ensures c.new-sink.ensures c.run_program.ensures)
