use Rattle.std.proofs.Common.{◌+◌, ◌^◌, ◌<◌, ◌∙◌, ap, subst, sym, arith, List, ℕ}
use Rattle.gc_types.specs.declared.kind.VMGcKind.{VMGcKind}
use Rattle.gc_types.specs.Kinds.{kind_bits}
use Rattle.gc_refs.specs.Header.{Header}
use Rattle.gc_view.specs.Bytes.{put_u32}
use Rattle.gc_view.specs.Bytes.{SameBytes}
use Rattle.gc_heap.specs.NullWalk.{placed, AppendsObject}
use Rattle.gc_types.proofs.KindLemmas.{same_kind}
use Rattle.gc_heap.proofs.NullMemoryLemmas.{places_new}
use Rattle.gc_heap.proofs.null.allocate.write_object.Goals as goal

pub returns : goal.returns
returns c = λ kind is_kind.
    let new = c.requires.new in
    let bytes = c.args.memory.now in
    let place = c.args.place in
    let size = c.args.size in
    let ty = c.args.header.type_word in
    let kind_word = kind_bits new.kind + size in
    let word_is = c.kind_word.ensures ∙ ap (λ (h : Header). h.kind_word) c.set_reserved_u26.ensures ∙ ap (λ w. w + size) (sym new.is_kind) in
    let ty_is = c.as_u32.ensures ∙ c.type_index.ensures ∙ ap (λ (h : Header). h.type_word) c.set_reserved_u26.ensures in
    let ty_small : ty < 2 ^ 32 = omega (arith, c.as_u32.type_inv, ty_is) in
    let first = c.write_u32.ensures.bytes ∙ ap (put_u32 bytes place) word_is in
    let second = c.write_u32-2.ensures.bytes ∙ ap (put_u32 c.write_u32.new.self (place + 4)) ty_is ∙ ap (λ b. put_u32 b (place + 4) ty) first in
    let same = subst (λ (b : List ℕ). SameBytes b c.write_data.new.memory 0 (place + 8)) second c.write_data.ensures.below in
    subst (λ (k : VMGcKind). AppendsObject bytes c.write_data.new.memory place (placed k ty c.args.word size) size)
    (same_kind new.kind kind (new.is_kind ∙ sym is_kind))
    (places_new bytes c.write_data.new.memory place new.kind ty size c.args.word new.object_kind new.least new.room new.host c.requires.small ty_small c.requires.room same c.write_data.ensures.data_is)
