use Rattle.std.proofs.Common.{◌∙◌, sym, ap, length}
use Rattle.gc_types.specs.declared.kind.Layouts.TheVariants.{Counting}
use Rattle.gc_heap.specs.Heap.{empty_heap}
use Rattle.gc_drc.proofs.BackingLemmas.{scopes_of}
use Rattle.gc_drc.proofs.heap.DrcHeapGcHeap.attach.Goals as goal

pub returns-in-Ok-clause-ok : goal.returns-in-Ok-clause-ok
returns-in-Ok-clause-ok c =
    let h = c.args.self.now in
    c.in-Ok.ensures.seen h.scopes ∙ ap (empty_heap Counting (length c.args.memory)) (sym (scopes_of h.scopes h.backing))
