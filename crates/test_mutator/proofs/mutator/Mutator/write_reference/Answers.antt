use Rattle.std.proofs.Common.{◌≡◌, ◌<◌, ◌^◌, Some, sym, ap, subst, ◌∙◌, rules}
use Rattle.std.specs.FinMap.{get}
use Rattle.gc_view.specs.Heaps.{HeapObject}
use Rattle.gc_heap.specs.Barriers.{overwritten}
use Rattle.gc_heap.specs.Collection.{has_host, IsWordOf}
use Rattle.test_mutator.specs.Mutators.{MutatorView}
use Rattle.test_mutator.specs.Fields.{HasReference, word_or_null}
use Rattle.test_mutator.proofs.FieldLemmas.{word_readable}
use Rattle.test_mutator.proofs.WriteLemmas.{can_overwrite, held_then, reference_stored, reference_written}
use Rattle.test_mutator.proofs.mutator.Mutator.write_reference.Goals as goal
use Rattle.test_mutator.proofs.mutator.Mutator.write_reference.Goals.{After-has_reference, After-write_u32}

object_held : (g : _) (c : After-has_reference g) → get (g.H.GcHeap.seen c.self.inside.heap).content c.in-Some.object ≡ Some c.in-Some.ensures.some.1.0
object_held g c = ap (λ (m : MutatorView). get m.heap.content c.in-Some.object) c.self.view_is ∙ c.in-Some.ensures.some.1.1

pub overwritten_word-slot-requires-clause-inside : goal.overwritten_word-slot-requires-clause-inside
overwritten_word-slot-requires-clause-inside g c =
    let held = object_held g (goal.at.overwritten_word-slot-requires-clause-inside g c).After-has_reference in
    let o : HeapObject = c.in-Some.ensures.some.1.0 in
    let lies : HasReference g.H.GcHeap.KIND c.self.inside.types.declarations o c.args.offset = (c.has_reference.ensures o held).0 c.if-not-has_reference.false in
    word_readable g.H.GcHeap.KIND (g.H.GcHeap.seen c.self.inside.heap) c.in-Some.object o c.args.offset held lies.word

pub write_gc_ref-requires-clause-destination : goal.write_gc_ref-requires-clause-destination
write_gc_ref-requires-clause-destination g c =
    let held = object_held g (goal.at.write_gc_ref-requires-clause-destination g c).After-has_reference in
    let o : HeapObject = c.in-Some.ensures.some.1.0 in
    can_overwrite g.H.GcHeap.KIND c.self.inside.types.declarations (g.H.GcHeap.seen c.self.inside.heap) c.self.inside.roots.roots (has_host c.self.inside.hosts.entries) c.in-Some.object o c.args.offset c.overwritten_word-slot.result
    (g.met.H.GcHeap.is_heap c.self.inside.heap c.self.invariant.sound) c.self.invariant.can held ((c.has_reference.ensures o held).0 c.if-not-has_reference.false) (c.overwritten_word-slot.ensures.counting o held) c.overwritten_word-slot.ensures.present
    c.overwritten_word-slot.ensures.others

-- the heap between the barrier and the write
seen_then : (g : _) (c : After-write_u32 g) → g.H.GcHeap.seen c.write_gc_ref.new.self ≡ overwritten (g.H.GcHeap.seen c.self.inside.heap) c.overwritten_word-slot.result c.in-Ok.word
seen_then g c = c.write_gc_ref.ensures.seen ∙ ap (overwritten (g.H.GcHeap.seen c.self.inside.heap) c.overwritten_word-slot.result) c.as_ref.ensures.value

pub invariant_of-self : goal.invariant_of-self
invariant_of-self g c =
    let at = (goal.at.invariant_of-self g c).After-write_u32 in
    let held = object_held g (goal.at.invariant_of-self g c).After-has_reference in
    let L = g.H.GcHeap.KIND in
    let types = c.self.inside.types.declarations in
    let old = g.H.GcHeap.seen c.self.inside.heap in
    let middle = g.H.GcHeap.seen c.write_gc_ref.new.self in
    let o : HeapObject = c.in-Some.ensures.some.1.0 in
    let lies : HasReference L types o c.args.offset = (c.has_reference.ensures o held).0 c.if-not-has_reference.false in
    let heap = g.met.H.GcHeap.is_heap c.self.inside.heap c.self.invariant.sound in
    let then_held = held_then L types old middle c.self.inside.roots.roots (has_host c.self.inside.hosts.entries) c.in-Some.object o c.args.offset c.overwritten_word-slot.result c.in-Ok.word heap held lies (seen_then g at) in
    let small : c.raw_word.result < 2 ^ 32 = search rules in
    record {
      sound = c.write_u32.ensures.sound;
      can = reference_stored L types old middle c.self.inside.roots.roots (has_host c.self.inside.hosts.entries) c.in-Some.object o c.args.offset c.overwritten_word-slot.result c.in-Ok.word heap held lies (seen_then g at)
          (g.H.GcHeap.seen c.write_u32.new.heap) c.raw_word.result c.self.invariant.can small c.raw_word.ensures (subst (λ (m : MutatorView). IsWordOf m.heap (word_or_null c.in-Ok.word)) (sym c.self.view_is) c.in-Ok.ensures.names)
          (c.overwritten_word-slot.ensures.counting o held) c.overwritten_word-slot.ensures.present c.in-Ok.ensures.present (c.write_u32.ensures.written o then_held);
    }

pub returns-clause-written : goal.returns-clause-written
returns-clause-written g c =
    let at = (goal.at.returns-clause-written g c).After-write_u32 in
    let held = object_held g (goal.at.returns-clause-written g c).After-has_reference in
    let L = g.H.GcHeap.KIND in
    let types = c.self.inside.types.declarations in
    let old = g.H.GcHeap.seen c.self.inside.heap in
    let middle = g.H.GcHeap.seen c.write_gc_ref.new.self in
    let o : HeapObject = c.in-Some.ensures.some.1.0 in
    let lies : HasReference L types o c.args.offset = (c.has_reference.ensures o held).0 c.if-not-has_reference.false in
    let heap = g.met.H.GcHeap.is_heap c.self.inside.heap c.self.invariant.sound in
    let then_held = held_then L types old middle c.self.inside.roots.roots (has_host c.self.inside.hosts.entries) c.in-Some.object o c.args.offset c.overwritten_word-slot.result c.in-Ok.word heap held lies (seen_then g at) in
    reference_written L c.args.self.now old middle (g.H.GcHeap.seen c.write_u32.new.heap) c.self.inside.roots.roots types c.self.inside.hosts.entries c.args.holder c.in-Some.object o c.args.offset c.raw_word.result c.overwritten_word-slot.result c.in-Ok.word c.args.source
    c.self.view_is c.in-Some.ensures.some.0 c.in-Some.ensures.stands held lies c.in-Ok.ensures.word (c.overwritten_word-slot.ensures.counting o held) (seen_then g at) c.raw_word.ensures (c.write_u32.ensures.written o then_held)
