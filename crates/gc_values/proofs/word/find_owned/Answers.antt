use Rattle.std.proofs.Common.{◌+◌, ◌-◌, ◌/◌, ◌<◌, ℕ, length, get_or, arith}
use Rattle.gc_owner.specs.RootColumns.{empty_entry}
use Rattle.gc_values.proofs.OwnedWords.{front_below, behind_above}
use Rattle.gc_values.proofs.word.find_owned.Goals as goal

pub halving-preserved-then-found-number-2 : goal.halving-preserved-then-found-number-2
halving-preserved-then-found-number-2 c =
    let middle : ℕ = c.halving.low + (c.halving.high - c.halving.low) / 2 in
    let inside : c.halving.low + (c.halving.high - c.halving.low) / 2 < length c.args.entries.now = omega (arith, c.halving-test.true, c.halving.invariant.within) in
    let less : (get_or c.args.entries.now (c.halving.low + (c.halving.high - c.halving.low) / 2) empty_entry).number < c.args.number = omega (arith, c.if-found-number-2.true) in
    record {
      ordered = omega (arith, c.halving-test.true);
      within = c.halving.invariant.within;
      below = front_below c.args.entries.now c.args.number middle c.requires.rising inside less;
      above = c.halving.invariant.above;
    }

pub halving-preserved : goal.halving-preserved
halving-preserved c =
    let middle : ℕ = c.halving.low + (c.halving.high - c.halving.low) / 2 in
    let inside : c.halving.low + (c.halving.high - c.halving.low) / 2 < length c.args.entries.now = omega (arith, c.halving-test.true, c.halving.invariant.within) in
    let more : c.args.number < (get_or c.args.entries.now (c.halving.low + (c.halving.high - c.halving.low) / 2) empty_entry).number = omega (arith, c.if-found-number.false, c.if-found-number-2.false) in
    record {
      ordered = omega (arith, c.halving-test.true);
      within = omega (arith, c.halving-test.true, c.halving.invariant.within);
      below = c.halving.invariant.below;
      above = behind_above c.args.entries.now c.args.number middle c.requires.rising inside more;
    }
