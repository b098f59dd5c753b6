use Rattle.std.proofs.Common.{string_bytes}
use Rattle.gc_commands.proofs.HexLemmas.{hex_turn}
use Rattle.gc_commands.proofs.hex.push_hex.Goals as goal

pub loop-place-preserved : goal.loop-place-preserved
loop-place-preserved c =
    hex_turn (string_bytes c.args.text.now) (string_bytes c.loop-place.text) (string_bytes c.push.new.self) _ c.args.digits c.loop-place.place c.args.number c.hex_digit_of.result
    c.loop-place-test.true c.loop-place.auto.place c.hex_digit_of.ensures c.in_ok-push.ensures.bytes c.in_ok-push.ensures.ascii c.loop-place.invariant
