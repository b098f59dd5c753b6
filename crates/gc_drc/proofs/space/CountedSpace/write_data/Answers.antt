use Rattle.std.proofs.Common.{◌≡◌, ◌+◌, length, refl, sym, ap, subst, ◌∙◌, arith}
use Rattle.gc_types.specs.declared.kind.Layouts.TheVariants.{Counting}
use Rattle.gc_view.specs.Bytes.{put_bytes}
use Rattle.gc_heap.specs.Heap.{with_data, put_object}
use Rattle.gc_drc.specs.Layout.{counting_object_at}
use Rattle.gc_drc.specs.Content.{counting_seen_in}
use Rattle.gc_drc.proofs.ReadLemmas.{held_at}
use Rattle.gc_drc.proofs.WriteLemmas.{writable, writes_data, Rewrites, rewrites}
use Rattle.gc_drc.proofs.space.CountedSpace.write_data.Goals as goal
use Rattle.gc_drc.proofs.space.CountedSpace.write_data.Goals.{After-write_bytes}

pub write_bytes-requires : goal.write_bytes-requires
write_bytes-requires c =
    let w = writable c.args.self.now 0 c.args.gc_ref.now c.args.offset (length c.args.bytes.now) c.requires.sound c.requires.inside in
    let to = w.to in
    let inside = w.held.inside in
    omega (arith, c.as_raw_u32.ensures.value)

written : (c : After-write_bytes) → Rewrites c.args.self.now (record c.args.self.now { memory = c.write_bytes.new.self }) c.args.gc_ref.now (with_data Counting (counting_object_at c.args.self.now.memory c.args.gc_ref.now) c.args.offset c.args.bytes.now)
written c =
    let s = c.args.self.now in
    let w = writable s 0 c.args.gc_ref.now c.args.offset (length c.args.bytes.now) c.requires.sound c.requires.inside in
    let d = writes_data s.memory c.write_bytes.new.self c.args.gc_ref.now c.args.offset c.args.bytes.now w.held.whole w.held.inside w.from w.to
    (c.write_bytes.ensures.bytes ∙ ap (λ p. put_bytes s.memory (p + c.args.offset) c.args.bytes.now) c.as_raw_u32.ensures.value) in
    rewrites s (record s { memory = c.write_bytes.new.self }) c.write_bytes.new.self c.args.gc_ref.now _ c.requires.sound w.held.among d.keeps d.object refl

pub returns-clause-sound : goal.returns-clause-sound
returns-clause-sound c = (written c).sound

pub returns-clause-seen : goal.returns-clause-seen
returns-clause-seen c = λ scopes object held.
    subst (λ o. counting_seen_in scopes (record c.args.self.now { memory = c.write_bytes.new.self }) ≡ put_object (counting_seen_in scopes c.args.self.now) c.args.gc_ref.now (with_data Counting o c.args.offset c.args.bytes.now))
    (sym (held_at c.args.self.now 0 c.args.gc_ref.now object c.requires.sound held).is) ((written c).seen scopes)
