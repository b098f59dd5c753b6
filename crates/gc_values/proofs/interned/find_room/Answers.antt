use Rattle.gc_values.specs.RawValues.{raw_side_values}
use Rattle.gc_values.proofs.GivenValues.{rooms_for_none}
use Rattle.gc_values.proofs.interned.find_room.Goals as goal

pub returns-then-not-has_interned_kind : goal.returns-then-not-has_interned_kind
returns-then-not-has_interned_kind c = rooms_for_none c.args.interned.now (raw_side_values c.args.values.now) (c.has_interned_kind.ensures c.if-not-has_interned_kind.true)
