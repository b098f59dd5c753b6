use Rattle.gc_commands.proofs.ObjectLemmas.{no_bytes_target, no_bytes_word}
use Rattle.gc_commands.proofs.objects.read_bytes.Goals as goal

pub returns-in_default-read_target : goal.returns-in_default-read_target
returns-in_default-read_target c = no_bytes_target c.args.words.now c.ahead.result c.ahead.ensures c.in_default.ensures c.in_default-read_target.ensures

pub returns-in_default-next : goal.returns-in_default-next
returns-in_default-next c =
    no_bytes_word c.args.words.now c.ahead.result _ _ c.read_target.new.words c.ahead.ensures c.in_default.ensures c.in-Some-read_target.ensures.1 c.in_default-next.ensures.0
