use Rattle.std.proofs.Common.{◌≡◌, ℕ, ◌+◌, ◌*◌, ◌<◌, ◌≤◌, ◌^◌, Option, Some, None, sym, ap, ◌∙◌, refl, subst, arith}
use Rattle.std.specs.Prelude.{IsSome, IfSome, IfNone, option_map}
use Rattle.std.proofs.lemmas.Option.{same_Some}
use Rattle.gc_types.specs.declared.layout.GcArrayLayout.{GcArrayLayout}
use Rattle.gc_types.specs.Layouts.{array_layout}
use Rattle.gc_view.specs.Slots.{StorageSlot}
use Rattle.gc_values.proofs.ShapeSlots.{copied_some, copied_value, element_found}
use Rattle.gc_values.proofs.slot.element_slot.Goals.{After-array_layout, After-elem_offset}
use Rattle.gc_values.proofs.slot.element_slot.Goals as goal

-- an offset that fits is found
offset_some : (o : Option ℕ) (n : ℕ) → IfNone o (2 ^ 32 ≤ n) → n < 2 ^ 32 → IsSome o
offset_some None n none small = absurd (omega (arith, none, small))
offset_some (Some x) n none small = refl

offset_is : (o : Option ℕ) (x n : ℕ) → IfSome o (λ k. k ≡ n) → o ≡ Some x → x ≡ n
offset_is None x n some is = absurd (cc)
offset_is (Some y) x n some is = sym (same_Some y x is) ∙ some

pub unwrap-layout-requires : goal.unwrap-layout-requires
unwrap-layout-requires c =
    copied_some c.array_layout.result (array_layout c.args.layouts c.args.element) (c.array_layout.ensures ∙ ap (option_map (array_layout c.args.layouts)) c.requires.element)

-- the layout of the elements
layout_is : (c : After-elem_offset) → c.unwrap-layout.result.now ≡ array_layout c.args.layouts c.args.element
layout_is c =
    copied_value c.array_layout.result c.unwrap-layout.result (array_layout c.args.layouts c.args.element) (c.array_layout.ensures ∙ ap (option_map (array_layout c.args.layouts)) c.requires.element) c.unwrap-layout.ensures

-- so the offset is that of the slot
slot_is : (c : After-elem_offset) → c.unwrap-layout.result.now.base_size + c.args.index * c.unwrap-layout.result.now.elem_size ≡ c.requires.has.slot.offset
slot_is c =
    ap (λ (l : GcArrayLayout). l.base_size + c.args.index * l.elem_size) (layout_is c)
    ∙ ap (λ (s : StorageSlot). s.offset) (element_found c.args.layouts c.args.shape.now c.args.index c.args.element c.requires.element c.requires.has.count c.requires.has.slot c.requires.has.slot_is)

pub unwrap-requires : goal.unwrap-requires
unwrap-requires c =
    let at = (goal.at.unwrap-requires c).After-elem_offset in
    offset_some c.elem_offset.result _ c.elem_offset.ensures.none (subst (λ (n : ℕ). n < 2 ^ 32) (sym (slot_is at)) c.requires.has.small)

pub returns : goal.returns
returns c count slot is =
    let at = (goal.at.returns c).After-elem_offset in
    let offset = offset_is c.elem_offset.result c.unwrap.result _ c.elem_offset.ensures.some c.unwrap.ensures ∙ ap (λ (l : GcArrayLayout). l.base_size + c.args.index * l.elem_size) (layout_is at) in
    (λ i. record { storage = c.args.element.element_type; offset = offset i })
    ∙ element_found c.args.layouts c.args.shape.now c.args.index c.args.element c.requires.element count slot is
