use Rattle.std.proofs.Common.{◌≡◌, ◌+◌, ◌<◌, ◌≤◌, ◌∙◌, ap, length, arith}
use Rattle.gc_types.specs.declared.kind.VMGcKind.{VMGcKind}
use Rattle.gc_types.specs.Layouts.{round_up}
use Rattle.gc_refs.specs.Header.{IsOfKind, spare_bits}
use Rattle.gc_view.specs.Sizes.{alignment}
use Rattle.gc_heap.specs.NullWalk.{bump_first_place, placed}
use Rattle.gc_heap.specs.NullWalkLaws.{follow_bounds}
use Rattle.gc_heap.proofs.NullMemoryLemmas.{Adds, adds_object}
use Rattle.gc_heap.proofs.null.allocate.allocate_in.Goals as goal

pub overflow_add-objects : goal.overflow_add-objects
overflow_add-objects c =
    let s = c.requires.bumped in
    omega (arith, s.bound, s.within, follow_bounds c.args.objects.now c.args.memory.now bump_first_place (round_up c.args.next.now alignment) s.follow)

-- what the allocation does to the memory
added : (c : goal.In-Some) (kind : VMGcKind) → IsOfKind kind c.args.header.kind_word
    → Adds c.args.memory.now c.write_object.new.memory c.args.next.now c.args.objects.now c.round_up-place.result (placed kind c.args.header.type_word c.args.word c.args.size) c.args.size
added c kind is_kind =
    let small : c.args.size < spare_bits = omega arith in
    let room : c.round_up-place.result + c.args.size ≤ length c.args.memory.now = omega arith in
    adds_object c.args.memory.now c.write_object.new.memory c.args.next.now c.args.objects.now c.round_up-place.result (placed kind c.args.header.type_word c.args.word c.args.size) c.args.size c.requires.bumped (c.round_up-place.ensures ∙ ap (λ n. round_up n alignment) c.from.ensures) small room (c.write_object.ensures kind is_kind)

pub returns-clause-bumped : goal.returns-clause-bumped
returns-clause-bumped c = rw (c.from-2.ensures) (added c c.requires.new.kind c.requires.new.is_kind).bumped

pub returns-clause-allocated : goal.returns-clause-allocated
returns-clause-allocated c = λ scopes kind is_kind.
    let is : (0 < c.round_up-place.result) × (c.in-Some.gc_ref ≡ c.round_up-place.result) = c.in-Some.ensures in
    rw (c.from-2.ensures, is.1) ((added c kind is_kind).adds scopes)
