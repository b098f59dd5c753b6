use Rattle.std.proofs.Common.{◌≡◌, sym, subst, Some}
use Rattle.std.specs.FinMap as finite
use Rattle.gc_types.specs.declared.kind.Layouts.TheVariants.{Copying}
use Rattle.gc_view.specs.Heaps.{HeapObject}
use Rattle.gc_heap.specs.Heap.{put_object, with_data}
use Rattle.gc_copying.specs.States.{copying_seen_in, copying_seen_of}
use Rattle.gc_copying.proofs.BackingLemmas.{nothing_held}
use Rattle.gc_copying.proofs.heap.CopyingHeapGcHeap.write_object_data.Goals as goal

pub unreachable-requires : goal.unreachable-requires
unreachable-requires c =
    let h = c.args.self.now in
    nothing_held h.scopes h.backing c.args.r.now c.requires.inside.object c.in_default.not-Attached c.requires.inside.held

pub returns-clause-seen : goal.returns-clause-seen
returns-clause-seen c =
    let h = c.args.self.now in
    subst (λ b. (object : HeapObject) → finite.get (copying_seen_of h.scopes b).content c.args.r.now ≡ Some object
    → copying_seen_in h.scopes c.write_data.new.self ≡ put_object (copying_seen_of h.scopes b) c.args.r.now (with_data Copying object c.args.offset c.args.bytes.now)) (sym c.in-Attached.is)
    (c.write_data.ensures.seen h.scopes)
