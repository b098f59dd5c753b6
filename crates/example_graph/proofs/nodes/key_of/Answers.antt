use Rattle.std.proofs.Common.{◌≡◌, w64, to_z, of_z}
use Rattle.std.proofs.lemmas.Int.{to_z-of_z}
use Rattle.example_graph.proofs.Keys.{key_found, never_refused, read_kept}
use Rattle.example_graph.proofs.nodes.key_of.Goals as goal

pub returns-in-Ok-clause-found : goal.returns-in-Ok-clause-found
returns-in-Ok-clause-found g c = λ key node.
    let handle = g.R.RootedGcRef.index c.args.node.now in
    let same : c.key_in.result ≡ key =
    key_found g.H.GcHeap.KIND c.args.store.now c.field.new.store handle key node c.in-Ok.value c.key_in.result c.key_in.ensures (record { sfits = c.key_in.type_inv }) c.in-Ok.ensures.reads in
    let back : to_z w64 (of_z w64 key) ≡ key = to_z-of_z w64 key node.key_fits in
    cc

pub returns-in-Ok-clause-keeps : goal.returns-in-Ok-clause-keeps
returns-in-Ok-clause-keeps g c =
    read_kept g.H.GcHeap.KIND c.args.store.now c.field.new.store c.field.ensures.same (g.R.RootedGcRef.index c.args.node.now) 0 c.in-Ok.value c.in-Ok.ensures.reads

pub returns-in-Err-clause-found : goal.returns-in-Err-clause-found
returns-in-Err-clause-found g c = λ key node.
    let handle = g.R.RootedGcRef.index c.args.node.now in
    absurd (never_refused g.H.GcHeap.KIND c.args.store.now c.field.new.store handle key node c.in-Err.fault c.in-Err.ensures.reads)
