use Rattle.std.proofs.Common.{◌≡◌, ◌<◌, ◌^◌, take}
use Rattle.gc_commands.specs.Words.{hex_digits}
use Rattle.gc_commands.proofs.hex.hex_number.Given as goal

abbrev pub invariant-loop-digit : goal.invariant-loop-digit
invariant-loop-digit l = record {
  small : l.number < 16 ^ l.digit-index;
  read : take l.digit-index l.word ≡ hex_digits l.digit-index l.number;
}
