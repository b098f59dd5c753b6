use Rattle.std.proofs.Common.{◌≡◌, ℕ, subst, sym, ◌∙◌, ap}
use Rattle.gc_refs.specs.Header.{IsOfKind}
use Rattle.gc_types.specs.declared.kind.VMGcKind.{VMGcKind}
use Rattle.gc_memory.specs.Words.{word}
use Rattle.gc_memory.proofs.WordLemmas.{word-is}
use Rattle.gc_drc.specs.Layout.{counting_kind_at}
use Rattle.gc_drc.proofs.VisitLemmas.{kind_is}
use Rattle.gc_drc.proofs.space.CountedSpace.kind.Goals as goal

pub unreachable-requires : goal.unreachable-requires
unreachable-requires c =
    let none : (k : VMGcKind) → IsOfKind k c.read_header.result.kind_word → ⊥ = c.in-None.ensures in
    let e : c.read_header.result.kind_word ≡ word c.args.self.now.memory c.args.place = ap (λ h. h.kind_word) c.read_header.ensures ∙ sym (word-is c.args.self.now.memory c.args.place) in
    none (counting_kind_at c.args.self.now.memory c.args.place) (subst (λ (w : ℕ). IsOfKind (counting_kind_at c.args.self.now.memory c.args.place) w) (sym e) c.requires.kind)

pub returns : goal.returns
returns c =
    let is : IsOfKind c.in-Some.kind c.read_header.result.kind_word = c.in-Some.ensures in
    let e : c.read_header.result.kind_word ≡ word c.args.self.now.memory c.args.place = ap (λ h. h.kind_word) c.read_header.ensures ∙ sym (word-is c.args.self.now.memory c.args.place) in
    kind_is c.args.self.now.memory c.args.place c.in-Some.kind (subst (λ (w : ℕ). IsOfKind c.in-Some.kind w) e is)
