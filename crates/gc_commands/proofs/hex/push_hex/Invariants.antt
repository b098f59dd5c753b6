use Rattle.std.proofs.Common.{◌≡◌, ◌++◌, ◌-◌, ◌*◌, ◌/◌, ◌^◌, string_bytes}
use Rattle.gc_commands.specs.Words.{hex_digits}
use Rattle.gc_commands.proofs.hex.push_hex.Given as goal

abbrev pub invariant-loop-place : goal.invariant-loop-place
invariant-loop-place l = string_bytes l.text ≡ string_bytes l.fn.text ++ hex_digits (l.digits - l.place) (l.number / 2 ^ (4 * l.place))
