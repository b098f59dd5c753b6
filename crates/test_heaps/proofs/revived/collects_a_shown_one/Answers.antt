use Rattle.std.proofs.Common.{rules, ◌≡◌, ℕ, Bool, true, List, [], ◌∷◌, ◌++◌, Some, sym, ap₂, subst, ◌∙◌}
use Rattle.gc_types.specs.declared.kind.Layouts.{Layouts}
use Rattle.gc_types.specs.declared.kind.Layouts.TheVariants.{Counting}
use Rattle.gc_types.specs.Declarations.{Declaration}
use Rattle.gc_types.specs.Layouts.{layout_at}
use Rattle.gc_roots.specs.Roots.{Root, root}
use Rattle.gc_heap.specs.Content.{IsHeap}
use Rattle.gc_heap.specs.Collection.{Start, CanCollect, Collected, has_host}
use Rattle.gc_heap.specs.Run.{start_at}
use Rattle.gc_heap.proofs.AddedLemmas.{start}
use Rattle.gc_heap.proofs.ClientLemmas.{can_collect_empty}
use Rattle.test_heaps.proofs.RevivedLemmas.{slot_left}
use Rattle.test_heaps.proofs.revived.collects_a_shown_one.Goals as goal
use Rattle.test_heaps.proofs.revived.collects_a_shown_one.Goals.{After-add_wasm_stack_root}

-- where the first collection begins
abbrev first : (g : _) → After-add_wasm_stack_root g → Start
first g c = start_at (g.H.GcHeap.seen c.show_queued.new.heap) c.add_wasm_stack_root.new.self.roots c.declare_struct.new.self.declarations c.args.hosts.now.entries

can_begin : (g : _) (c : After-add_wasm_stack_root g) → CanCollect Counting (first g c)
can_begin g c =
    let types : List Declaration = c.declare_struct.new.self.declarations in
    let declared : layout_at Counting types c.index-ty.result ≡ Some c.in_ok-layout.layout.now = search rules in
    rw (c.add_wasm_stack_root.ensures.roots, c.reserve.ensures.roots, c.requires.roots, c.unchecked_copy.ensures)
    (c.in_ok-word.ensures.can types (has_host c.args.hosts.now.entries) declared (rw (c.in_ok-attach_page.ensures.empty, c.requires.counting) (can_collect_empty Counting types 65536 (has_host c.args.hosts.now.entries))))

-- its one root
one_root : (g : _) (c : After-add_wasm_stack_root g) → (first g c).roots ≡ root 0 true c.in_ok-word.word ∷ []
one_root g c =
    c.add_wasm_stack_root.ensures.roots ∙ ap₂ (λ (rs : List Root) (w : ℕ). rs ++ root 0 true w ∷ []) (c.reserve.ensures.roots ∙ c.requires.roots) c.unchecked_copy.ensures

pub run-requires-clause-can : goal.run-requires-clause-can
run-requires-clause-can g c =
    let at = (goal.at.run-requires-clause-can g c).After-add_wasm_stack_root in
    subst (λ (l : Layouts). CanCollect l (first g at)) (sym c.requires.counting) (can_begin g at)

pub run-requires-2-clause-can : goal.run-requires-2-clause-can
run-requires-2-clause-can g c =
    let at = (goal.at.run-requires-2-clause-can g c).After-add_wasm_stack_root in
    let seen = g.H.GcHeap.seen in
    let hosts : ℕ → Bool = has_host c.run.new.trace.host_data_table.now.entries in
    let heap : IsHeap Counting (seen c.show_queued.new.heap) =
    subst (λ (l : Layouts). IsHeap l (seen c.show_queued.new.heap)) c.requires.counting (g.met.H.GcHeap.is_heap c.show_queued.new.heap c.show_queued.ensures.sound) in
    let done : Collected Counting (first g at) (seen c.run.new.heap) c.run.new.roots.roots hosts =
    subst (λ (l : Layouts). Collected l (first g at) (seen c.run.new.heap) c.run.new.roots.roots hosts) c.requires.counting c.run.ensures.collected in
    subst (λ (l : Layouts). CanCollect l (start (seen c.run.new.heap) c.clear.new.self.roots c.run.new.trace.types.now.declarations hosts)) (sym c.requires.counting)
    (subst (λ (rs : List Root). CanCollect Counting (start (seen c.run.new.heap) rs c.run.new.trace.types.now.declarations hosts)) (sym c.clear.ensures.roots)
    (subst (λ types. CanCollect Counting (start (seen c.run.new.heap) [] types.now.declarations hosts)) (sym c.run.ensures.types)
    (slot_left (first g at) (seen c.run.new.heap) c.run.new.roots.roots hosts c.in_ok-word.word heap (can_begin g at) (one_root g at) done)))
