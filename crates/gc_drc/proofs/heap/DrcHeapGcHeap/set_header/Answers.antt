use Rattle.std.proofs.Common.{◌≡◌, ◌∙◌, ◌%◌, sym, ap, subst, Some}
use Rattle.std.specs.Prelude.{IsOk}
use Rattle.std.specs.FinMap as finite
use Rattle.gc_types.specs.declared.kind.Layouts.TheVariants.{Counting}
use Rattle.gc_refs.specs.Header.{spare_bits}
use Rattle.gc_view.specs.Heaps.{HeapObject}
use Rattle.gc_heap.specs.Heap.{put_object, with_spare_of, IsSameHeader}
use Rattle.gc_heap.specs.Barriers.{IsNamed}
use Rattle.gc_drc.specs.Content.{counting_seen_in}
use Rattle.gc_drc.specs.States.{counting_seen_of}
use Rattle.gc_drc.proofs.BackingLemmas.{nothing_held}
use Rattle.gc_drc.proofs.heap.DrcHeapGcHeap.set_header.Goals as goal

pub set_header-requires-clause-named : goal.set_header-requires-clause-named
set_header-requires-clause-named c = (c.args.self.now.scopes, subst (λ b. IsNamed (counting_seen_of c.args.self.now.scopes b) c.args.r.now) c.in-Attached.is c.requires.named)

pub set_header-requires-clause-same : goal.set_header-requires-clause-same
set_header-requires-clause-same c =
    subst (λ b. (object : HeapObject) → finite.get (counting_seen_of c.args.self.now.scopes b).content c.args.r.now ≡ Some object → IsSameHeader object c.args.header) c.in-Attached.is c.requires.same

pub returns-in-Attached-clause-held : goal.returns-in-Attached-clause-held
returns-in-Attached-clause-held c =
    let h = c.args.self.now in
    subst (λ b. (object : HeapObject) → finite.get (counting_seen_of h.scopes b).content c.args.r.now ≡ Some object
    → IsOk c.set_header.result × (counting_seen_in h.scopes c.set_header.new.self ≡ put_object (counting_seen_of h.scopes b) c.args.r.now (with_spare_of Counting object (c.args.header.kind_word % spare_bits)))) (sym c.in-Attached.is)
    (c.set_header.ensures.held h.scopes)

pub returns-in-Attached-clause-number : goal.returns-in-Attached-clause-number
returns-in-Attached-clause-number c = λ odd.
    let h = c.args.self.now in
    let r = c.set_header.ensures.number odd in
    (r.0, ap (counting_seen_in h.scopes) r.1 ∙ sym (ap (counting_seen_of h.scopes) c.in-Attached.is))

pub returns-in_default-clause-held : goal.returns-in_default-clause-held
returns-in_default-clause-held c = λ object held. absurd (nothing_held c.args.self.now.scopes c.args.self.now.backing c.args.r.now object c.in_default.not-Attached held)
