use Rattle.std.proofs.Common.{◌<◌, ◌^◌, arith}
use Rattle.gc_heap.specs.Collection.{has_host}
use Rattle.gc_owner.specs.RootColumns.{roots_of}
use Rattle.gc_owner.proofs.ListedRoots.{few_held}
use Rattle.gc_owner.proofs.WordBarriers.{word_copyable}
use Rattle.gc_owner.proofs.OwnerLemmas.{ready_at, word_at}
use Rattle.gc_owner.proofs.WriteLemmas.{place_held, place_readable, place_droppable, place_writable, reference_order, reference_seen}
use Rattle.gc_owner.proofs.owner.HeapOwner.write_reference.Goals as goal

pub read_u32-old_word-requires-clause-sound : goal.read_u32-old_word-requires-clause-sound
read_u32-old_word-requires-clause-sound g c = (ready_at g.H.GcHeap.KIND g.H.GcHeap.seen g.H.GcHeap.sound g.H.GcHeap.under_way c.self.inside.heap c.self.inside.types c.self.inside.hosts.entries c.self.inside.roots c.self.inside.last c.self.inside.state c.args.self.now c.self.invariant c.self.view_is c.requires.idle).sound

pub read_u32-old_word-requires-clause-inside : goal.read_u32-old_word-requires-clause-inside
read_u32-old_word-requires-clause-inside g c = place_readable g.H.GcHeap.KIND g.H.GcHeap.seen g.H.GcHeap.sound g.H.GcHeap.under_way c.self.inside.heap c.self.inside.types c.self.inside.hosts.entries c.self.inside.roots c.self.inside.last c.self.inside.state g.met.H.GcHeap.is_heap c.args.self.now c.self.invariant c.self.view_is c.requires.idle c.args.holder.now c.args.offset c.requires.lies

pub overwrite_word-requires-clause-sound : goal.overwrite_word-requires-clause-sound
overwrite_word-requires-clause-sound g c = (ready_at g.H.GcHeap.KIND g.H.GcHeap.seen g.H.GcHeap.sound g.H.GcHeap.under_way c.self.inside.heap c.self.inside.types c.self.inside.hosts.entries c.self.inside.roots c.self.inside.last c.self.inside.state c.args.self.now c.self.invariant c.self.view_is c.requires.idle).sound

pub overwrite_word-requires-clause-copies : goal.overwrite_word-requires-clause-copies
overwrite_word-requires-clause-copies g c =
    let r = ready_at g.H.GcHeap.KIND g.H.GcHeap.seen g.H.GcHeap.sound g.H.GcHeap.under_way c.self.inside.heap c.self.inside.types c.self.inside.hosts.entries c.self.inside.roots c.self.inside.last c.self.inside.state c.args.self.now c.self.invariant c.self.view_is c.requires.idle in
    word_copyable g.H.GcHeap.KIND c.self.inside.types.declarations (g.H.GcHeap.seen c.self.inside.heap) (roots_of c.self.inside.roots) (has_host c.self.inside.hosts.entries)
    (g.met.H.GcHeap.is_heap c.self.inside.heap r.sound) r.can (few_held c.self.inside.roots c.are_few.ensures.few) c.args.word
    (word_at g.H.GcHeap.KIND g.H.GcHeap.seen g.H.GcHeap.sound g.H.GcHeap.under_way c.self.inside.heap c.self.inside.types c.self.inside.hosts.entries c.self.inside.roots c.self.inside.last c.self.inside.state c.args.self.now c.self.view_is c.args.word c.requires.word)

pub overwrite_word-requires-clause-drops : goal.overwrite_word-requires-clause-drops
overwrite_word-requires-clause-drops g c =
    place_droppable g.H.GcHeap.KIND g.H.GcHeap.seen g.H.GcHeap.sound g.H.GcHeap.under_way c.self.inside.heap c.self.inside.types c.self.inside.hosts.entries c.self.inside.roots c.self.inside.last c.self.inside.state g.met.H.GcHeap.is_heap c.args.self.now c.self.invariant c.self.view_is c.requires.idle c.args.holder.now c.args.offset c.requires.lies c.read_u32-old_word.result
    (c.read_u32-old_word.ensures c.requires.lies.object (place_held g.H.GcHeap.KIND g.H.GcHeap.seen g.H.GcHeap.sound g.H.GcHeap.under_way c.self.inside.heap c.self.inside.types c.self.inside.hosts.entries c.self.inside.roots c.self.inside.last c.self.inside.state g.met.H.GcHeap.is_heap c.args.self.now c.self.invariant c.self.view_is c.requires.idle c.args.holder.now c.args.offset c.requires.lies))

pub write_u32-requires-clause-inside : goal.write_u32-requires-clause-inside
write_u32-requires-clause-inside g c =
    place_writable g.H.GcHeap.KIND g.H.GcHeap.seen g.H.GcHeap.sound g.H.GcHeap.under_way c.self.inside.heap c.self.inside.types c.self.inside.hosts.entries c.self.inside.roots c.self.inside.last c.self.inside.state g.met.H.GcHeap.is_heap c.args.self.now c.self.invariant c.self.view_is c.requires.idle c.args.holder.now c.args.offset c.requires.lies (g.H.GcHeap.seen c.overwrite_word.new.heap) c.read_u32-old_word.result c.args.word c.overwrite_word.ensures.seen

pub invariant_of-self : goal.invariant_of-self
invariant_of-self g c =
    let small : c.args.word < 2 ^ 32 = omega arith in
    reference_order g.H.GcHeap.KIND g.H.GcHeap.seen g.H.GcHeap.sound g.H.GcHeap.under_way c.self.inside.heap c.self.inside.types c.self.inside.hosts.entries c.self.inside.roots c.self.inside.last c.self.inside.state g.met.H.GcHeap.is_heap c.args.self.now c.self.invariant c.self.view_is c.requires.idle c.args.holder.now c.args.offset c.requires.lies (g.H.GcHeap.seen c.overwrite_word.new.heap) c.write_u32.new.heap c.read_u32-old_word.result c.args.word
    (c.read_u32-old_word.ensures c.requires.lies.object (place_held g.H.GcHeap.KIND g.H.GcHeap.seen g.H.GcHeap.sound g.H.GcHeap.under_way c.self.inside.heap c.self.inside.types c.self.inside.hosts.entries c.self.inside.roots c.self.inside.last c.self.inside.state g.met.H.GcHeap.is_heap c.args.self.now c.self.invariant c.self.view_is c.requires.idle c.args.holder.now c.args.offset c.requires.lies))
    c.overwrite_word.ensures.seen small c.requires.word c.write_u32.ensures.sound c.write_u32.ensures.written

pub returns : goal.returns
returns g c =
    reference_seen g.H.GcHeap.KIND g.H.GcHeap.seen g.H.GcHeap.sound g.H.GcHeap.under_way c.self.inside.heap c.self.inside.types c.self.inside.hosts.entries c.self.inside.roots c.self.inside.last c.self.inside.state g.met.H.GcHeap.is_heap c.args.self.now c.self.invariant c.self.view_is c.requires.idle (g.H.GcHeap.seen c.overwrite_word.new.heap) c.write_u32.new.heap c.args.holder.now c.args.offset c.read_u32-old_word.result c.args.word c.overwrite_word.ensures.seen c.write_u32.ensures.written
