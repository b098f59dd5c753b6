use Rattle.gc_commands.proofs.FrontLemmas.{supertype_read}
use Rattle.gc_commands.proofs.declarations.read_supertype.Goals as goal

pub returns : goal.returns
returns c =
    supertype_read c.args.words.now c.ahead.result c.next-supertype.new.self c.next.new.self c.in-Some.word.now c.in-Some-behind.index.now c.in_ok-type_of.field-0 c.next-supertype.result c.ahead.ensures c.in-Some.ensures
    c.next-supertype.ensures c.in-Some-behind.ensures c.in_ok-type_of.ensures.0 c.in_ok-type_of.ensures.1
