use Rattle.std.proofs.Common.{◌≡◌, ◌<◌, ◌^◌, ◌+◌, true, arith, sym, ◌∙◌, subst}
use Rattle.std.specs.FinMap.{len}
use Rattle.gc_tables.specs.declared.slab.SlabFault.TheVariants.{Full}
use Rattle.std.specs.Prelude.{is_err}
use Rattle.gc_memory.specs.Offsets.{external_size}
use Rattle.gc_heap.specs.Objects.{external}
use Rattle.test_mutator.specs.Mutators.{MutatorView}
use Rattle.test_mutator.specs.Makes.{MakesExternal}
use Rattle.test_mutator.proofs.MakeLemmas.{view, unchanged_hosts, host_made, nothing_made, taken_back, host_added, host_refused, not_full}
use Rattle.test_mutator.proofs.mutator.Mutator.make_host.Goals as goal
use Rattle.test_mutator.proofs.mutator.Mutator.make_host.Goals.{After-dealloc-taken_back}

failed : (g : _) (c : After-dealloc-taken_back g) → is_err c.root_new-rooted.result ≡ true
failed g c = sym c.is_err.ensures.value ∙ c.if-is_err.true

hosts_are : (g : _) (c : After-dealloc-taken_back g) → c.dealloc-taken_back.new.self.entries ≡ c.self.inside.hosts.entries
hosts_are g c =
    taken_back c.self.inside.hosts.entries c.alloc.new.self.entries c.dealloc-taken_back.new.self.entries c.in-Ok-alloc.id c.args.value c.dealloc-taken_back.result c.in-Ok-alloc.ensures.fresh c.in-Ok-alloc.ensures.added
    c.dealloc-taken_back.ensures.removed c.dealloc-taken_back.ensures.bad

pub invariant_of-self-then-is_err : goal.invariant_of-self-then-is_err
invariant_of-self-then-is_err g c =
    let at = (goal.at.invariant_of-self-then-is_err g c).After-dealloc-taken_back in
    let old = g.H.GcHeap.seen c.self.inside.heap in
    let new = g.H.GcHeap.seen c.alloc_externref.new.self in
    let nothing = nothing_made g.H.GcHeap.KIND old new c.self.inside.roots.roots c.make_room.new.roots.roots c.root_new-rooted.new.roots.roots (external c.in-Ok-alloc.id) (external_size g.H.GcHeap.KIND) c.alloc_externref.result
    c.external_word-made.result c.root_new-rooted.result (failed g at) c.alloc_externref.ensures.allocated c.external_word-made.ensures c.make_room.ensures.roots c.root_new-rooted.ensures in
    record {
      sound = c.alloc_externref.ensures.sound;
      can = unchanged_hosts g.H.GcHeap.KIND c.self.inside.types.declarations old new c.self.inside.roots.roots c.root_new-rooted.new.roots.roots c.self.inside.hosts.entries c.dealloc-taken_back.new.self.entries c.self.invariant.can nothing.0 nothing.1 (hosts_are g at);
    }

pub invariant_of-self-else-is_err : goal.invariant_of-self-else-is_err
invariant_of-self-else-is_err g c =
    let small : c.in-Ok-alloc.id + 1 < 2 ^ 32 = omega (arith, c.into_raw-bounded.ensures.value, c.into_raw-bounded.ensures.bound) in
    record {
      sound = c.alloc_externref.ensures.sound;
      can = host_made g.H.GcHeap.KIND c.self.inside.types.declarations (g.H.GcHeap.seen c.self.inside.heap) (g.H.GcHeap.seen c.alloc_externref.new.self) c.self.inside.roots.roots c.make_room.new.roots.roots c.root_new-rooted.new.roots.roots
          c.self.inside.hosts.entries c.alloc.new.self.entries c.in-Ok-alloc.id c.args.value (external_size g.H.GcHeap.KIND) c.alloc_externref.result c.external_word-made.result c.root_new-rooted.result
          (g.met.H.GcHeap.is_heap c.self.inside.heap c.self.invariant.sound) c.self.invariant.can c.in-Ok-alloc.ensures.fresh c.in-Ok-alloc.ensures.added small c.alloc_externref.ensures.allocated c.external_word-made.ensures
          c.make_room.ensures.roots c.root_new-rooted.ensures;
    }

pub returns-then-is_err : goal.returns-then-is_err
returns-then-is_err g c =
    let at = (goal.at.returns-then-is_err g c).After-dealloc-taken_back in
    let types = c.self.inside.types.declarations in
    let new = g.H.GcHeap.seen c.alloc_externref.new.self in
    let back = c.dealloc-taken_back.new.self.entries in
    subst (λ (m : MutatorView). MakesExternal g.H.GcHeap.KIND m (view new c.root_new-rooted.new.roots.roots types back) c.args.value c.root_new-rooted.result) c.self.view_is
    (host_refused g.H.GcHeap.KIND types (g.H.GcHeap.seen c.self.inside.heap) new c.self.inside.roots.roots c.make_room.new.roots.roots c.root_new-rooted.new.roots.roots c.self.inside.hosts.entries c.alloc.new.self.entries
    c.in-Ok-alloc.id c.args.value c.alloc_externref.result c.external_word-made.result c.root_new-rooted.result c.alloc_externref.ensures.allocated c.external_word-made.ensures c.make_room.ensures.roots c.root_new-rooted.ensures
    c.in-Ok.ensures.few (not_full (len c.self.inside.hosts.entries) c.in-Ok-alloc.id (Full c.args.value) c.in-Ok-alloc.ensures.full) (failed g at) back (hosts_are g at))

pub returns-else-is_err : goal.returns-else-is_err
returns-else-is_err g c =
    let types = c.self.inside.types.declarations in
    let new = g.H.GcHeap.seen c.alloc_externref.new.self in
    let more = c.alloc.new.self.entries in
    subst (λ (m : MutatorView). MakesExternal g.H.GcHeap.KIND m (view new c.root_new-rooted.new.roots.roots types more) c.args.value c.root_new-rooted.result) c.self.view_is
    (host_added g.H.GcHeap.KIND types (g.H.GcHeap.seen c.self.inside.heap) new c.self.inside.roots.roots c.make_room.new.roots.roots c.root_new-rooted.new.roots.roots c.self.inside.hosts.entries more
    c.in-Ok-alloc.id c.args.value c.alloc_externref.result c.external_word-made.result c.root_new-rooted.result c.alloc_externref.ensures.allocated c.external_word-made.ensures c.make_room.ensures.roots c.root_new-rooted.ensures
    c.in-Ok.ensures.few (not_full (len c.self.inside.hosts.entries) c.in-Ok-alloc.id (Full c.args.value) c.in-Ok-alloc.ensures.full) (sym c.is_err.ensures.value ∙ c.if-is_err.false) c.in-Ok-alloc.ensures.fresh c.in-Ok-alloc.ensures.added)
