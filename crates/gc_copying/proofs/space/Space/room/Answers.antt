use Rattle.std.proofs.Common.{◌+◌, ◌≤◌, length, arith}
use Rattle.gc_types.specs.Layouts.{round_up}
use Rattle.gc_copying.specs.Spaces.{half_end}
use Rattle.gc_copying.proofs.SpaceLemmas.{has_room, room_is}
use Rattle.gc_copying.proofs.space.Space.room.Goals as goal

pub returns-then-from : goal.returns-then-from
returns-then-from c = λ scopes.
    let s = c.args.self.now in
    let some = c.in-Some.ensures.some in
    let fits : s.bump + round_up c.args.size 16 ≤ half_end (length s.memory) s.upper = omega (arith, some.0, c.if-from.true) in
    (some.1, (has_room s.memory s.upper s.bump s.externals s.objects scopes c.args.size c.requires.sound c.requires.positive fits, some.0))

pub returns-else-from : goal.returns-else-from
returns-else-from c = λ scopes.
    let s = c.args.self.now in
    let some = c.in-Some.ensures.some in (
      some.1,
      (
        λ room.
            let fits = room_is s.memory s.upper s.bump s.externals s.objects scopes c.args.size c.requires.sound c.requires.positive room in
            absurd (omega (arith, fits, some.0, c.if-from.false)),
        c.need.ensures,
      ),
    )
