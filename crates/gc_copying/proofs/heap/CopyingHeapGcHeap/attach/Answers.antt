use Rattle.std.proofs.Common.{◌∙◌, sym, ap, length}
use Rattle.gc_types.specs.declared.kind.Layouts.TheVariants.{Copying}
use Rattle.gc_heap.specs.Heap.{empty_heap}
use Rattle.gc_copying.proofs.BackingLemmas.{scopes_of}
use Rattle.gc_copying.proofs.heap.CopyingHeapGcHeap.attach.Goals as goal

pub returns-clause-ok : goal.returns-clause-ok
returns-clause-ok c =
    let h = c.args.self.now in
    c.new.ensures.seen h.scopes ∙ ap (empty_heap Copying (length c.args.memory)) (sym (scopes_of h.scopes h.backing))
