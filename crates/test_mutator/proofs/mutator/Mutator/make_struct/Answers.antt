use Rattle.std.specs.Option.{option_copied}
use Rattle.std.proofs.Common.{◌≡◌, Some, sym, ap, ◌∙◌}
use Rattle.gc_types.specs.Layouts.{layout_at}
use Rattle.gc_heap.specs.Collection.{has_host}
use Rattle.test_mutator.proofs.MakeLemmas.{struct_made}
use Rattle.gc_heap.proofs.TakenLayouts.{taken_layout}
use Rattle.test_mutator.proofs.mutator.Mutator.make_struct.Goals as goal
use Rattle.test_mutator.proofs.mutator.Mutator.make_struct.Goals.{In-Some}

declared : (g : _) (c : In-Some g) → layout_at g.H.GcHeap.KIND c.self.inside.types.declarations c.args.ty ≡ Some c.in-Some.layout.now
declared g c = ap (λ l. layout_at l c.self.inside.types.declarations c.args.ty) (sym c.KIND.ensures) ∙ sym c.struct_layout.ensures.value ∙ ap option_copied c.in-Some.is

pub alloc_uninit_struct_or_exn-made-requires-clause-size : goal.alloc_uninit_struct_or_exn-made-requires-clause-size
alloc_uninit_struct_or_exn-made-requires-clause-size g c =
    (taken_layout g.H.GcHeap.KIND c.self.inside.types.declarations c.args.ty c.in-Some.layout.now (declared g (goal.at.alloc_uninit_struct_or_exn-made-requires-clause-size g c).In-Some)).least

pub alloc_uninit_struct_or_exn-made-requires-clause-traces : goal.alloc_uninit_struct_or_exn-made-requires-clause-traces
alloc_uninit_struct_or_exn-made-requires-clause-traces g c =
    (taken_layout g.H.GcHeap.KIND c.self.inside.types.declarations c.args.ty c.in-Some.layout.now (declared g (goal.at.alloc_uninit_struct_or_exn-made-requires-clause-traces g c).In-Some)).traces

pub invariant_of-self-2 : goal.invariant_of-self-2
invariant_of-self-2 g c = record {
  sound = c.alloc_uninit_struct_or_exn-made.ensures.sound;
  can = struct_made g.H.GcHeap.KIND c.self.inside.types.declarations (g.H.GcHeap.seen c.self.inside.heap) (g.H.GcHeap.seen c.alloc_uninit_struct_or_exn-made.new.self) c.self.inside.roots.roots c.make_room.new.roots.roots c.root_new.new.roots.roots
      (has_host c.self.inside.hosts.entries) c.args.ty c.in-Some.layout.now c.alloc_uninit_struct_or_exn-made.result c.root_new.result (g.met.H.GcHeap.is_heap c.self.inside.heap c.self.invariant.sound) c.self.invariant.can
      (declared g (goal.at.invariant_of-self-2 g c).In-Some) c.alloc_uninit_struct_or_exn-made.ensures.allocated c.make_room.ensures.roots c.root_new.ensures;
}
