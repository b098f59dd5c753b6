use Rattle.std.proofs.Common.{◌≡◌, ℤ, Result, IfOk, w64, sym, refl, subst}
use Rattle.std.proofs.lemmas.Int.{to_z-of_z}
use Rattle.example_graph.specs.declared.fault.GraphFault.{GraphFault}
use Rattle.example_graph.specs.Entries.{HoldsEntry}
use Rattle.example_graph.proofs.Entries.{node_kind}
use Rattle.example_graph.proofs.survival.find_after_collections.Goals as goal

pub key_of-requires : goal.key_of-requires
key_of-requires g c =
    let entry = c.in_ok-entry.entry.index in
    let added = subst (λ (k : ℤ). HoldsEntry g.H.GcHeap.KIND c.add_entry.new.store entry k) (to_z-of_z w64 c.args.key c.ranges.key) c.in_ok-entry.ensures.added in
    let kept = c.collect_times.ensures.keeps entry c.args.key added in
    node_kind g.H.GcHeap.KIND c.collect_times.new.store entry c.args.key kept.node

pub returns : goal.returns
returns g c =
    let entry = c.in_ok-entry.entry.index in
    let added = subst (λ (k : ℤ). HoldsEntry g.H.GcHeap.KIND c.add_entry.new.store entry k) (to_z-of_z w64 c.args.key c.ranges.key) c.in_ok-entry.ensures.added in
    let kept = c.collect_times.ensures.keeps entry c.args.key added in
    record {
      found = subst (λ (r : Result ℤ GraphFault). IfOk r (λ found. found ≡ c.args.key)) (sym (c.key_of.ensures.found c.args.key kept.node)) refl;
    }
