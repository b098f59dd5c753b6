use Rattle.std.proofs.Common.{sym, subst}
use Rattle.gc_types.specs.declared.kind.Layouts.TheVariants.{Copying}
use Rattle.gc_types.specs.declared.kind.VMGcKind.{VMGcKind}
use Rattle.gc_refs.specs.Header.{IsOfKind}
use Rattle.gc_heap.specs.Heap.{Allocated}
use Rattle.gc_heap.specs.Making.{made}
use Rattle.gc_copying.specs.States.{copying_seen_in, copying_seen_of}
use Rattle.gc_copying.proofs.heap.CopyingHeapGcHeap.alloc_object.Goals as goal

pub returns-clause-allocated : goal.returns-clause-allocated
returns-clause-allocated c =
    let h = c.args.self.now in
    subst (λ b. (kind : VMGcKind) → IsOfKind kind c.args.header.kind_word
    → Allocated Copying (copying_seen_of h.scopes b) (copying_seen_in h.scopes c.allocate.new.self) (made Copying kind c.args.header c.args.first c.args.size) c.args.size c.allocate.result) (sym c.in-Attached.is)
    (c.allocate.ensures.allocated h.scopes)
