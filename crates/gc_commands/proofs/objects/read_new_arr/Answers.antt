use Rattle.gc_commands.proofs.ObjectLemmas.{no_length, no_new_arr}
use Rattle.gc_commands.proofs.objects.read_new_arr.Goals as goal

pub returns-in_default : goal.returns-in_default
returns-in_default c = no_new_arr c.args.words.now c.in_default.ensures

pub returns-in_default-read_u32 : goal.returns-in_default-read_u32
returns-in_default-read_u32 c = no_length c.args.words.now _ _ _ c.in-Some.ensures.1 c.in_default-read_u32.ensures
