use Rattle.std.proofs.Common.{refl}
use Rattle.gcsh_top.specs.Program.{runs, shows}
use Rattle.gcsh_top.proofs.program.run_program.Goals as goal

pub returns-in-Some : goal.returns-in-Some
returns-in-Some g c = shows c.in-Some.text.now c.in-Some.ensures refl c.show.ensures

pub returns-in-None : goal.returns-in-None
returns-in-None g c = runs c.in-None.ensures c.run_on_new.ensures
