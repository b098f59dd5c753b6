use Rattle.std.proofs.Common.{◌≡◌, ◌≤◌, ◌<◌, ◌^◌, ◌+◌, IsTrue, inr, refl, rules, arith, sym, subst}
use Rattle.std.specs.Int.{w32, to_le_bytes}
use Rattle.std.proofs.lemmas.Bool.Decides.{nat_tests}
use Rattle.gc_types.specs.declared.kind.Layouts.TheVariants.{Copying}
use Rattle.gc_types.specs.declared.kind.VMGcKind.TheVariants.{StructRef}
use Rattle.gc_view.specs.Heaps.{HeapObject}
use Rattle.gc_heap.specs.Objects.{HasFields, writable_offset, held_size}
use Rattle.gc_heap.specs.Heap.{put_object, with_data}
use Rattle.gc_heap.specs.Collection.{has_host, IsWordOf}
use Rattle.test_heaps.proofs.UntypedLemmas.{word_put}
use Rattle.test_heaps.proofs.untyped.link.Goals as goal

pub returns-clause-can : goal.returns-clause-can
returns-clause-can g c =
    let L = g.H.GcHeap.KIND in
    let old = g.H.GcHeap.seen c.args.heap.now in
    let new = g.H.GcHeap.seen c.write_u32.new.heap in
    let o : HeapObject = c.in_ok-holder.ensures.0 in
    let held = c.in_ok-holder.ensures.1 in
    let size : c.in_ok-size.size ≡ held_size L o = c.in_ok-size.ensures.held o held in
    let is : IsTrue c.is_structref.result = grind (arith, nat_tests, c.if-not-is_structref.false) in
    let kind : o.kind ≡ StructRef = (c.is_structref.ensures.object o held).0 is in
    let fields : HasFields o.kind = subst HasFields (sym kind) tt in
    let writable : writable_offset Copying o.kind ≡ 12 = subst (λ k. writable_offset Copying k ≡ 12) (sym kind) refl in
    let to : 12 + 4 ≤ c.in_ok-size.size = grind (arith, nat_tests, c.if-size-lt16.false) in
    let small : c.as_raw_u32.result < 2 ^ 32 = search rules in
    let names : IsWordOf old c.as_raw_u32.result = subst (IsWordOf old) (sym c.as_raw_u32.ensures.value) (inr (inr c.in_ok-word.ensures)) in
    let written : new ≡ put_object old c.in_ok-holder.holder (with_data L o 12 (to_le_bytes w32 c.as_raw_u32.result)) = c.write_u32.ensures.written o held in
    word_put L c.args.around.now.types.declarations old new c.args.around.now.roots.roots (has_host c.args.around.now.hosts.entries) c.in_ok-holder.holder o 12 12 c.in_ok-size.size c.as_raw_u32.result
    c.requires.copying (g.met.H.GcHeap.is_heap c.args.heap.now c.requires.sound) held fields writable refl (omega arith) to size small names written c.requires.can
