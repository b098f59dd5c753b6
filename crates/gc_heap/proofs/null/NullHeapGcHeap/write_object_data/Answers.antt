use Rattle.std.proofs.Common.{◌≡◌, ◌+◌, List, ℕ, Some, sym, ap, subst, ◌∙◌, arith}
use Rattle.gc_view.specs.Bytes.{put_bytes}
use Rattle.gc_heap.specs.NullStates.{bump_view, IsNullSound}
use Rattle.gc_heap.proofs.NullHeapLemmas.{nothing_held, writes_in, written_seen}
use Rattle.gc_heap.proofs.null.NullHeapGcHeap.write_object_data.Goals as goal

pub write_bytes-requires : goal.write_bytes-requires
write_bytes-requires c =
    omega (arith, (writes_in c.args.self.now c.in-Some.memory c.args.bytes.now c.args.r.now c.args.offset c.requires.sound c.in-Some.is c.requires.inside).fits)

pub unreachable-requires : goal.unreachable-requires
unreachable-requires c =
    let r = c.requires.inside in
    nothing_held c.args.self.now c.args.r.now r.object c.in-None.is r.held

pub returns-clause-sound : goal.returns-clause-sound
returns-clause-sound c =
    let h = c.args.self.now in
    let written : c.write_bytes.new.self ≡ put_bytes c.in-Some.memory (c.args.r.now + c.args.offset) c.args.bytes.now =
    c.write_bytes.ensures.bytes ∙ ap (λ q. put_bytes c.in-Some.memory (q + c.args.offset) c.args.bytes.now) c.as_raw_u32.ensures.value in
    subst (λ (m : List ℕ). IsNullSound (record { memory = Some m; next = h.next; objects = h.objects; scopes = h.scopes })) (sym written)
    (writes_in h c.in-Some.memory c.args.bytes.now c.args.r.now c.args.offset c.requires.sound c.in-Some.is c.requires.inside).sound

pub returns-clause-seen : goal.returns-clause-seen
returns-clause-seen c = λ object held.
    let h = c.args.self.now in
    let written : c.write_bytes.new.self ≡ put_bytes c.in-Some.memory (c.args.r.now + c.args.offset) c.args.bytes.now =
    c.write_bytes.ensures.bytes ∙ ap (λ q. put_bytes c.in-Some.memory (q + c.args.offset) c.args.bytes.now) c.as_raw_u32.ensures.value in
    ap (λ (m : List ℕ). bump_view m h.next h.objects h.scopes) written
    ∙ written_seen h c.in-Some.memory c.args.bytes.now c.args.r.now c.args.offset object c.requires.sound c.in-Some.is c.requires.inside held
