use Rattle.std.proofs.Common.{refl}
use Rattle.gcsh_top.specs.Program.{no_stores, on_new}
use Rattle.gcsh_top.proofs.program.run_on_new.Goals as goal

pub returns-in-Ok : goal.returns-in-Ok
returns-in-Ok g c = on_new c.in-Ok.stores c.run_words-status.new.stores c.in-Ok.ensures.new c.run_words-status.ensures.answers

pub returns-in-Err : goal.returns-in-Err
returns-in-Err g c = no_stores refl refl refl
