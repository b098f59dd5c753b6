use Rattle.gc_free.proofs.LawsOfCalls.{every_list_of_calls_is_sound}
use Rattle.gc_free.proofs.laws.every_list_of_calls_is_sound.Goals as goal

pub returns : goal.returns
returns c = every_list_of_calls_is_sound
