use Rattle.std.proofs.Common.{sym, subst}
use Rattle.gc_memory.specs.Lists.{In}
use Rattle.gc_heap.specs.Barriers as barrier
use Rattle.gc_drc.specs.View.{View, HoldsBlocks}
use Rattle.gc_drc.specs.Operations.{CanRaise, Tends, counting_raised}
use Rattle.gc_drc.proofs.SeenLemmas.{can_raise, names, number_cloned, is_number, is_place, Seen}
use Rattle.gc_drc.proofs.space.CountedSpace.name.Goals as goal
use Rattle.gc_drc.proofs.space.CountedSpace.name.Goals.{After-raise}

pub raise-requires : goal.raise-requires
raise-requires c =
    let even = is_place c.is_i31.result c.args.gc_ref.now c.is_i31.ensures c.if-not-is_i31.true in
    subst (CanRaise c.args.self.now) (sym c.as_raw_u32.ensures.value) (can_raise c.args.self.now c.requires.named.0 c.args.gc_ref.now c.requires.sound c.requires.named.1 even)

after : (c : After-raise) → Seen c.args.self.now c.raise.new.self (λ h. barrier.cloned h c.args.gc_ref.now)
after c =
    let even = is_place c.is_i31.result c.args.gc_ref.now c.is_i31.ensures c.if-not-is_i31.true in
    names c.args.self.now c.raise.new.self c.requires.named.0 c.args.gc_ref.now c.requires.sound c.requires.named.1 even
    (subst (λ x. (v : View) → HoldsBlocks v c.args.self.now → In x v.places → HoldsBlocks (counting_raised v x) c.raise.new.self) c.as_raw_u32.ensures.value c.raise.ensures.holds)
    (subst (Tends c.args.self.now.memory c.raise.new.self.memory) c.as_raw_u32.ensures.value c.raise.ensures.tends) c.raise.ensures.free

pub returns-then-not-is_i31-clause-sound : goal.returns-then-not-is_i31-clause-sound
returns-then-not-is_i31-clause-sound c = (after (goal.at.returns-then-not-is_i31-clause-sound c).After-raise).sound

pub returns-then-not-is_i31-clause-seen : goal.returns-then-not-is_i31-clause-seen
returns-then-not-is_i31-clause-seen c = (after (goal.at.returns-then-not-is_i31-clause-seen c).After-raise).seen

pub returns-else-not-is_i31-clause-seen : goal.returns-else-not-is_i31-clause-seen
returns-else-not-is_i31-clause-seen c = λ scopes.
    number_cloned c.args.self.now c.args.gc_ref.now scopes c.requires.sound (is_number c.is_i31.result c.args.gc_ref.now c.is_i31.ensures c.if-not-is_i31.false)
