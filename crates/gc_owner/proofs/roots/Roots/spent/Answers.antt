use Rattle.std.proofs.Common.{◌-◌, ◌^◌, ◌+◌, None, false, replicate}
use Rattle.gc_owner.specs.RootColumns.{global_count, empty_slot}
use Rattle.gc_owner.proofs.roots.Roots.spent.Goals as goal

pub returns : goal.returns
returns c = λ i. record {
  scoped = c.new.ensures.items i;
  owned = c.new-2.ensures.items i;
  owns = 2 ^ 64 - 1;
  slots = c.new-3.ensures.items i;
  frames = c.new-4.ensures.items i;
  globals = replicate global_count empty_slot;
  pending = 0;
  generation = 2 ^ 64 - 1;
  spare = 0;
  listed = None;
  given = 0;
  list_spare = c.new-5.result.spare + 0;
  has_places = false;
}
