use Rattle.std.proofs.Common.{sym, subst}
use Rattle.gc_types.specs.declared.kind.Layouts.TheVariants.{Counting}
use Rattle.gc_types.specs.declared.kind.VMGcKind.{VMGcKind}
use Rattle.gc_refs.specs.Header.{IsOfKind}
use Rattle.gc_heap.specs.Heap.{Allocated}
use Rattle.gc_heap.specs.Making.{made}
use Rattle.gc_drc.specs.Content.{counting_seen_in}
use Rattle.gc_drc.specs.States.{counting_seen_of}
use Rattle.gc_drc.proofs.heap.DrcHeapGcHeap.alloc_object.Goals as goal

pub returns-clause-allocated : goal.returns-clause-allocated
returns-clause-allocated c =
    let h = c.args.self.now in
    subst (λ b. (kind : VMGcKind) → IsOfKind kind c.args.header.kind_word
    → Allocated Counting (counting_seen_of h.scopes b) (counting_seen_in h.scopes c.allocate_counted.new.self) (made Counting kind c.args.header c.args.first c.args.size) c.args.size c.allocate_counted.result) (sym c.in-Attached.is)
    (c.allocate_counted.ensures.allocated h.scopes)
