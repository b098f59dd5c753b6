use Rattle.std.proofs.Common.{◌<◌, sym, subst}
use Rattle.gc_memory.specs.Lists.{In}
use Rattle.gc_heap.specs.Barriers as barrier
use Rattle.gc_drc.specs.View.{View, HoldsBlocks}
use Rattle.gc_drc.specs.Operations.{CanLower, Tends, counting_lowered}
use Rattle.gc_drc.proofs.SeenLemmas.{can_lower, unnames, number_dropped, is_number, is_place, Seen}
use Rattle.gc_drc.proofs.space.CountedSpace.unname.Goals as goal
use Rattle.gc_drc.proofs.space.CountedSpace.unname.Goals.{After-lower}

pub lower-requires : goal.lower-requires
lower-requires c =
    let even = is_place c.is_i31.result c.args.gc_ref.now c.is_i31.ensures c.if-not-is_i31.true in
    subst (CanLower c.args.self.now) (sym c.as_raw_u32.ensures.value) (can_lower c.args.self.now c.requires.named.0 c.args.gc_ref.now c.requires.sound c.requires.named.1 even)

after : (c : After-lower) → Seen c.args.self.now c.lower.new.self (λ h. barrier.dropped h c.args.gc_ref.now)
after c =
    let even = is_place c.is_i31.result c.args.gc_ref.now c.is_i31.ensures c.if-not-is_i31.true in
    unnames c.args.self.now c.lower.new.self c.requires.named.0 c.args.gc_ref.now c.requires.sound c.requires.named.1 even
    (subst (λ x. (v : View) → HoldsBlocks v c.args.self.now → In x v.places → 0 < v.counted x → HoldsBlocks (counting_lowered v x) c.lower.new.self) c.as_raw_u32.ensures.value c.lower.ensures.holds)
    (subst (Tends c.args.self.now.memory c.lower.new.self.memory) c.as_raw_u32.ensures.value c.lower.ensures.tends) c.lower.ensures.free

pub returns-then-not-is_i31-clause-sound : goal.returns-then-not-is_i31-clause-sound
returns-then-not-is_i31-clause-sound c = (after (goal.at.returns-then-not-is_i31-clause-sound c).After-lower).sound

pub returns-then-not-is_i31-clause-seen : goal.returns-then-not-is_i31-clause-seen
returns-then-not-is_i31-clause-seen c = (after (goal.at.returns-then-not-is_i31-clause-seen c).After-lower).seen

pub returns-else-not-is_i31-clause-seen : goal.returns-else-not-is_i31-clause-seen
returns-else-not-is_i31-clause-seen c = λ scopes.
    number_dropped c.args.self.now c.args.gc_ref.now scopes c.requires.sound (is_number c.is_i31.result c.args.gc_ref.now c.is_i31.ensures c.if-not-is_i31.false)
