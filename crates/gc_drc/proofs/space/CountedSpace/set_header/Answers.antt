use Rattle.std.proofs.Common.{◌≡◌, ◌+◌, ◌*◌, ◌/◌, ◌%◌, refl, sym, ap, ap₂, ◌∙◌, arith}
use Rattle.gc_types.specs.declared.kind.Layouts.TheVariants.{Counting}
use Rattle.gc_types.specs.Kinds.{kind_bits}
use Rattle.gc_refs.specs.Header.{kind_part, spare_bits}
use Rattle.gc_memory.specs.Words.{word}
use Rattle.gc_view.specs.Bytes.{put_u32}
use Rattle.gc_view.specs.Heaps.{HeapObject}
use Rattle.gc_heap.specs.Heap.{with_spare_of, put_object}
use Rattle.gc_drc.specs.Content.{counting_seen_in}
use Rattle.gc_drc.proofs.ReadLemmas.{HeldAt, held_at}
use Rattle.gc_drc.proofs.SeenLemmas.{even_held, is_place}
use Rattle.gc_drc.proofs.WriteLemmas.{writes_header, Rewrites, rewrites}
use Rattle.gc_drc.proofs.space.CountedSpace.set_header.Goals as goal
use Rattle.gc_drc.proofs.space.CountedSpace.set_header.Goals.{After-is_i31, After-set_kind_word}

pub returns-then-is_i31-clause-held : goal.returns-then-is_i31-clause-held
returns-then-is_i31-clause-held c = λ scopes object held.
    let aligned = (held_at c.args.self.now 0 c.args.gc_ref.now object c.requires.sound held).aligned in
    let odd = c.is_i31.ensures.0 c.if-is_i31.true in
    absurd (omega (arith, aligned, odd))

pub kind_word-word-requires : goal.kind_word-word-requires
kind_word-word-requires c =
    let even = is_place c.is_i31.result c.args.gc_ref.now c.is_i31.ensures c.if-is_i31.false in
    let o = even_held c.args.self.now c.requires.named.0 c.args.gc_ref.now c.requires.named.1 even in
    let h = held_at c.args.self.now c.requires.named.0 c.args.gc_ref.now o.0 c.requires.sound o.1 in
    let least = h.least in
    let inside = h.inside in omega (arith, c.as_raw_u32-place.ensures.value)

pub set_kind_word-requires : goal.set_kind_word-requires
set_kind_word-requires c =
    let even = is_place c.is_i31.result c.args.gc_ref.now c.is_i31.ensures c.if-is_i31.false in
    let o = even_held c.args.self.now c.requires.named.0 c.args.gc_ref.now c.requires.named.1 even in
    let h = held_at c.args.self.now c.requires.named.0 c.args.gc_ref.now o.0 c.requires.sound o.1 in
    let least = h.least in
    let inside = h.inside in omega (arith, c.as_raw_u32-place.ensures.value)

written : (c : After-set_kind_word) → (o : HeapObject) × (HeldAt c.args.self.now c.args.gc_ref.now o × Rewrites c.args.self.now c.set_kind_word.new.self c.args.gc_ref.now (with_spare_of Counting o (c.args.header.kind_word % spare_bits)))
written c =
    let s = c.args.self.now in
    let x = c.args.gc_ref.now in
    let even = is_place c.is_i31.result x c.is_i31.ensures c.if-is_i31.false in
    let o = even_held s c.requires.named.0 x c.requires.named.1 even in
    let h = held_at s c.requires.named.0 x o.0 c.requires.sound o.1 in
    let own : c.kind_word-word.result ≡ word s.memory x = c.kind_word-word.ensures ∙ ap (word s.memory) c.as_raw_u32-place.ensures.value in
    let wanted : c.kind_word-wanted.result ≡ c.args.header.kind_word = c.kind_word-wanted.ensures in
    let same = c.requires.same o.0 o.1 in
    let part : kind_part c.args.header.kind_word ≡ kind_part (word s.memory x) = same.kind ∙ ap (λ (y : HeapObject). kind_bits y.kind) h.is ∙ h.whole.kind in
    let m = put_u32 s.memory x (c.args.header.kind_word / 8 * 8 + word s.memory x % 8) in
    let new : c.set_kind_word.new.self ≡ record s { memory = m } = c.set_kind_word.ensures
    ∙ ap₂ (λ p n. record s { memory = put_u32 s.memory p n }) c.as_raw_u32-place.ensures.value (ap₂ (λ a b. a / 8 * 8 + b % 8) wanted own) in
    let w = writes_header s.memory m x c.args.header.kind_word h.whole h.least h.inside (omega (arith, wanted)) (omega (arith, own)) part refl in (
      o.0,
      (
        h,
        rewrites s c.set_kind_word.new.self m x (with_spare_of Counting o.0 (c.args.header.kind_word % spare_bits)) c.requires.sound h.among w.0
            (w.1 ∙ ap (λ y. with_spare_of Counting y (c.args.header.kind_word % spare_bits)) (sym h.is)) new,
      ),
    )

pub returns-clause-sound : goal.returns-clause-sound
returns-clause-sound c = (written c).1.1.sound

pub returns-clause-held : goal.returns-clause-held
returns-clause-held c = λ scopes object held.
    let w = written c in
    let h = held_at c.args.self.now 0 c.args.gc_ref.now object c.requires.sound held in
    (refl, w.1.1.seen scopes ∙ ap (λ y. put_object (counting_seen_in scopes c.args.self.now) c.args.gc_ref.now (with_spare_of Counting y (c.args.header.kind_word % spare_bits))) (w.1.0.is ∙ sym h.is))
