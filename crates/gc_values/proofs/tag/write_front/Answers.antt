use Rattle.std.proofs.Common.{ℕ, ◌+◌, length, sym, ap, ◌∙◌, subst}
use Rattle.gc_types.specs.declared.kind.Layouts.{Layouts}
use Rattle.gc_types.specs.Layouts.{struct_base}
use Rattle.gc_owner.specs.Writes.{IsNumberPlace}
use Rattle.gc_values.proofs.TagLemmas.{tag_place}
use Rattle.gc_values.proofs.tag.write_front.Goals as goal

pub write_number-requires-clause-inside : goal.write_number-requires-clause-inside
write_number-requires-clause-inside g c =
    let base = c.struct_base-base.ensures.value ∙ ap (λ (k : Layouts). struct_base k) c.KIND.ensures in
    subst (λ (b : ℕ). IsNumberPlace g.H.GcHeap.KIND c.args.owner.now.seen c.args.gc_ref.now (b + c.args.at) (length c.to_le_bytes.result)) (sym base)
    (subst (λ (n : ℕ). IsNumberPlace g.H.GcHeap.KIND c.args.owner.now.seen c.args.gc_ref.now (struct_base g.H.GcHeap.KIND + c.args.at) n) (sym (ap length c.to_le_bytes.ensures))
    (tag_place g.H.GcHeap.KIND c.args.owner.now.seen c.args.gc_ref.now c.requires.held c.is_ready.ensures.can c.args.at c.requires.inside))
