use Rattle.std.proofs.Common.{◌+◌, ◌∙◌, ap, length, arith}
use Rattle.gc_view.specs.Bytes.{put_bytes}
use Rattle.gc_copying.proofs.WriteLemmas.{WritesData, writable_at, writes_data}
use Rattle.gc_copying.proofs.space.Space.write_data.Goals as goal
use Rattle.gc_copying.proofs.space.Space.write_data.Goals.{After-write_bytes}

pub write_bytes-requires : goal.write_bytes-requires
write_bytes-requires c =
    let s = c.args.self.now in
    let w = writable_at s.memory s.upper s.bump s.externals s.objects 0 c.args.gc_ref.now c.args.offset (length c.args.bytes.now) c.requires.sound c.requires.inside in
    omega (arith, w.inside, c.as_raw_u32.ensures.value)

written : (c : After-write_bytes)
    → WritesData c.args.self.now.memory c.write_bytes.new.self c.args.self.now.upper c.args.self.now.bump c.args.self.now.externals c.args.self.now.objects c.args.gc_ref.now c.args.offset c.args.bytes.now
written c =
    let s = c.args.self.now in
    let w = writable_at s.memory s.upper s.bump s.externals s.objects 0 c.args.gc_ref.now c.args.offset (length c.args.bytes.now) c.requires.sound c.requires.inside in
    writes_data s.memory c.write_bytes.new.self s.upper s.bump s.externals s.objects c.args.gc_ref.now c.args.offset c.args.bytes.now c.requires.sound w
    (c.write_bytes.ensures.bytes ∙ ap (λ p. put_bytes s.memory (p + c.args.offset) c.args.bytes.now) c.as_raw_u32.ensures.value)

pub returns-clause-sound : goal.returns-clause-sound
returns-clause-sound c = (written c).space

pub returns-clause-seen : goal.returns-clause-seen
returns-clause-seen c = λ scopes object held. (written c).seen scopes object held
