use Rattle.std.proofs.Common.{codes, map, string_bytes}
use Rattle.std.proofs.lemmas.Result.{on_ok_weaker}
use Rattle.gc_commands.specs.Words.{value_type_text}
use Rattle.gc_commands.proofs.SpelledLemmas.{named}
use Rattle.gc_commands.proofs.spelled.push_exn.Goals as goal

pub returns : goal.returns
returns c =
    on_ok_weaker c.push_values.result
    (λ written. named (string_bytes c.args.text.now) (string_bytes c.push_str.new.self) (string_bytes c.push_values.new.text) (codes "exn") (map value_type_text c.args.params.now) c.in_ok-push_str.ensures.bytes written)
    c.push_values.ensures
