use Rattle.std.proofs.Common.{codes, map, string_bytes}
use Rattle.std.proofs.lemmas.Result.{on_ok_weaker}
use Rattle.gc_commands.specs.Words.{field_text}
use Rattle.gc_commands.proofs.SpelledLemmas.{named_declared}
use Rattle.gc_commands.proofs.spelled.push_struct.Goals as goal

pub returns : goal.returns
returns c =
    on_ok_weaker c.push_fields.result
    (λ written. named_declared (string_bytes c.args.text.now) (string_bytes c.push_str.new.self) (string_bytes c.push_front.new.text) (string_bytes c.push_fields.new.text) (codes "struct") c.args.is_final c.args.supertype (map field_text c.args.fields.now)
    c.in_ok-push_str.ensures.bytes c.in_ok-push_front.ensures written)
    c.push_fields.ensures
