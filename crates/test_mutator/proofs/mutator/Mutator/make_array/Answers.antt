use Rattle.std.specs.Option.{option_copied}
use Rattle.std.proofs.Common.{◌≡◌, ◌<◌, ◌^◌, Some, sym, ap, ◌∙◌, rules}
use Rattle.gc_types.specs.Layouts.{array_layout_at}
use Rattle.gc_heap.specs.Collection.{has_host}
use Rattle.test_mutator.proofs.MakeLemmas.{array_made}
use Rattle.test_mutator.proofs.mutator.Mutator.make_array.Goals as goal

pub invariant_of-self-2 : goal.invariant_of-self-2
invariant_of-self-2 g c =
    let types = c.self.inside.types.declarations in
    let declared : array_layout_at g.H.GcHeap.KIND types c.args.ty ≡ Some c.in-Some.layout.now =
    ap (λ l. array_layout_at l types c.args.ty) (sym c.KIND.ensures) ∙ sym c.array_layout.ensures ∙ ap option_copied c.in-Some.is in
    let small : c.args.length < 2 ^ 32 = search rules in
    record {
      sound = c.alloc_uninit_array.ensures.sound;
      can = array_made g.H.GcHeap.KIND types (g.H.GcHeap.seen c.self.inside.heap) (g.H.GcHeap.seen c.alloc_uninit_array.new.self) c.self.inside.roots.roots c.make_room.new.roots.roots c.root_new.new.roots.roots (has_host c.self.inside.hosts.entries)
          c.args.ty c.args.length c.in-Some.layout.now c.alloc_uninit_array.result c.array_word-made.result c.root_new.result (g.met.H.GcHeap.is_heap c.self.inside.heap c.self.invariant.sound) c.self.invariant.can declared small
          c.alloc_uninit_array.ensures.allocated c.array_word-made.ensures c.make_room.ensures.roots c.root_new.ensures;
    }
