use Rattle.std.proofs.Common.{ap, ◌∙◌}
use Rattle.gc_types.specs.Layouts.{ref_offsets}
use Rattle.gc_heap.specs.Rules.{struct_spare}
use Rattle.gc_heap.proofs.MakingLemmas.{can_make_struct}
use Rattle.gc_heap.proofs.heap.GcHeap.alloc_uninit_struct_or_exn.Goals as goal

pub alloc_raw-requires-clause-fits : goal.alloc_raw-requires-clause-fits
alloc_raw-requires-clause-fits g c =
    let layout = c.args.layout.now in
    let spare = c.struct_header.ensures.spare ∙ ap (λ k. struct_spare k (ref_offsets layout.fields)) c.KIND.ensures in
    can_make_struct g.Self.GcHeap.KIND layout c.struct_header.result c.requires.size c.requires.traces c.struct_header.ensures.kind spare
