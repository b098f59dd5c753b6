use Rattle.std.proofs.Common.{◌≡◌, ◌+◌, cond, Some, None, List, length, map, sym, ap, ◌∙◌, subst, arith}
use Rattle.std.proofs.lemmas.List.{length-map}
use Rattle.gc_roots.specs.Roots.{Root}
use Rattle.gc_view.specs.Heaps.{HeapView}
use Rattle.gc_heap.specs.Collection.{CanCollect, Collected, has_host, moved, moved_root}
use Rattle.gc_heap.proofs.AddedLemmas.{start}
use Rattle.gc_owner.specs.declared.entry.RootEntry.{RootEntry}
use Rattle.gc_owner.specs.declared.entry.OwnedEntry.{OwnedEntry}
use Rattle.gc_owner.specs.declared.entry.SlotEntry.{SlotEntry}
use Rattle.gc_owner.specs.RootColumns.{RootsView, roots_of, all_roots, moved_roots, MovesAll}
use Rattle.gc_owner.proofs.Begins.{memory_same}
use Rattle.gc_owner.proofs.ListUse.{unused_list}
use Rattle.gc_owner.proofs.CollectedRoots.{refilled, collects_roots}
use Rattle.gc_owner.proofs.roots.Roots.collect.Given.{Over}
use Rattle.gc_owner.proofs.roots.Roots.collect.Goals.{After-list_all, After-run, After-clear}
use Rattle.gc_owner.proofs.roots.Roots.collect.Goals as goal

listed : (g : Over) (c : After-list_all g) → c.list_all.new.list.roots ≡ roots_of c.args.self.now
listed g c =
    c.list_all.ensures.roots
    ∙ (λ i. all_roots (c.as_slice.ensures.value i) (c.as_slice-2.ensures.value i) (c.as_slice-3.ensures.value i) c.self.inside.globals c.self.inside.pending)
    ∙ ap roots_of c.self.view_is

pub list_all-requires-clause-empty : goal.list_all-requires-clause-empty
list_all-requires-clause-empty g c = (unused_list c.self.inside.is_listing c.self.inside.list.roots c.self.inside.given c.args.self.now c.self.invariant.0 (ap (λ (r : RootsView). r.listed) c.self.view_is) c.requires.unlisted).0

pub list_all-requires-clause-room : goal.list_all-requires-clause-room
list_all-requires-clause-room g c =
    let none = unused_list c.self.inside.is_listing c.self.inside.list.roots c.self.inside.given c.args.self.now c.self.invariant.0 (ap (λ (r : RootsView). r.listed) c.self.view_is) c.requires.unlisted in
    let room = c.self.invariant.1 (ap (λ (r : RootsView). r.has_places) c.self.view_is ∙ c.requires.placed) in
    let globals = c.self.invariant.4 in
    omega arith

pub run-requires-clause-can : goal.run-requires-clause-can
run-requires-clause-can g c =
    let at = (goal.at.run-requires-clause-can g c).After-list_all in
    subst (λ (rs : List Root). CanCollect g.H.GcHeap.KIND (start (g.H.GcHeap.seen c.args.heap.now) rs c.args.trace.now.types.now.declarations (has_host c.args.trace.now.host_data_table.now.entries))) (sym (listed g at))
    (subst (λ (h : HeapView). CanCollect g.H.GcHeap.KIND (start h (roots_of c.args.self.now) c.args.trace.now.types.now.declarations (has_host c.args.trace.now.host_data_table.now.entries))) (memory_same (g.H.GcHeap.seen c.args.heap.now) c.requires.attached) c.requires.collectable.collects)

done : (g : Over) (c : After-run g)
    → Collected g.H.GcHeap.KIND (start (g.H.GcHeap.seen c.args.heap.now) (roots_of c.args.self.now) c.args.trace.now.types.now.declarations (has_host c.args.trace.now.host_data_table.now.entries))
    (g.H.GcHeap.seen c.run.new.heap) c.run.new.roots.roots (has_host c.run.new.trace.host_data_table.now.entries)
done g c =
    subst (λ (rs : List Root). Collected g.H.GcHeap.KIND (start (g.H.GcHeap.seen c.args.heap.now) rs c.args.trace.now.types.now.declarations (has_host c.args.trace.now.host_data_table.now.entries))
    (g.H.GcHeap.seen c.run.new.heap) c.run.new.roots.roots (has_host c.run.new.trace.host_data_table.now.entries))
    (c.list_all.ensures.roots
    ∙ (λ i. all_roots (c.as_slice.ensures.value i) (c.as_slice-2.ensures.value i) (c.as_slice-3.ensures.value i) c.self.inside.globals c.self.inside.pending)
    ∙ ap roots_of c.self.view_is)
    c.run.ensures.collected

moves : (g : Over) (c : After-clear g) (d : Collected g.H.GcHeap.KIND (start (g.H.GcHeap.seen c.args.heap.now) (roots_of c.args.self.now) c.args.trace.now.types.now.declarations (has_host c.args.trace.now.host_data_table.now.entries))
    (g.H.GcHeap.seen c.run.new.heap) c.run.new.roots.roots (has_host c.run.new.trace.host_data_table.now.entries))
    → MovesAll d.to c.as_mut_slice.result.now c.take_all-self-inside.new.scoped c.as_mut_slice-2.result.now c.take_all-self-inside.new.owned c.as_mut_slice-3.result.now c.take_all-self-inside.new.slots c.self.inside.globals c.take_all-self-inside.new.globals c.self.inside.pending c.take_all-self-inside.result
moves g c d =
    c.take_all-self-inside.ensures d.to (d.roots_moved ∙ ap (map (moved_root d.to)) (sym (
    (λ i. all_roots (c.as_mut_slice.ensures.value i) (c.as_mut_slice-2.ensures.value i) (c.as_mut_slice-3.ensures.value i) c.self.inside.globals c.self.inside.pending)
    ∙ ap roots_of c.self.view_is)))

list_spare : (g : Over) (c : After-clear g) → c.clear.new.self.spare ≡ c.self.inside.list.spare
list_spare g c =
    let before : length c.self.inside.list.roots ≡ 0 = ap (λ (rs : List Root). length rs) (unused_list c.self.inside.is_listing c.self.inside.list.roots c.self.inside.given c.args.self.now c.self.invariant.0 (ap (λ (r : RootsView). r.listed) c.self.view_is) c.requires.unlisted).0 in
    let counts : length c.run.new.roots.roots ≡ length c.list_all.new.list.roots =
    ap (λ (rs : List Root). length rs) c.run.ensures.collected.roots_moved ∙ length-map c.list_all.new.list.roots (moved_root c.run.ensures.collected.to) in
    omega (arith, c.clear.ensures.spare, c.run.ensures.spare, c.list_all.ensures.total)

pub take_all-self-inside-requires : goal.take_all-self-inside-requires
take_all-self-inside-requires g c =
    let d = done g (goal.at.take_all-self-inside-requires g c).After-run in (
      d.to,
      d.roots_moved ∙ ap (map (moved_root d.to)) (sym (
          (λ i. all_roots (c.as_mut_slice.ensures.value i) (c.as_mut_slice-2.ensures.value i) (c.as_mut_slice-3.ensures.value i) c.self.inside.globals c.self.inside.pending)
          ∙ ap roots_of c.self.view_is)),
    )

pub invariant_of-self : goal.invariant_of-self
invariant_of-self g c =
    let at = (goal.at.invariant_of-self g c).After-clear in
    let same = list_spare g at in
    (λ is. (c.clear.ensures.roots, (c.self.invariant.0 is).1), λ places. let room = c.self.invariant.1 places in omega arith, c.self.invariant.2, c.self.invariant.3, omega (arith, c.take_all-self-inside.auto.globals, c.self.invariant.4), c.self.invariant.5, c.self.invariant.6)

pub returns-clause-collected : goal.returns-clause-collected
returns-clause-collected g c =
    let at = (goal.at.returns-clause-collected g c).After-clear in
    let d = done g (goal.at.returns-clause-collected g c).After-run in
    let m = moves g at d in
    let n0 : length c.take_all-self-inside.new.scoped ≡ c.self.inside.scoped.len = omega (arith, c.take_all-self-inside.auto.scoped, c.as_mut_slice.ensures.len) in
    let n1 : length c.take_all-self-inside.new.owned ≡ c.self.inside.owned.len = omega (arith, c.take_all-self-inside.auto.owned, c.as_mut_slice-2.ensures.len) in
    let n2 : length c.take_all-self-inside.new.slots ≡ c.self.inside.slots.len = omega (arith, c.take_all-self-inside.auto.slots, c.as_mut_slice-3.ensures.len) in
    let p0 = refilled c.take_all-self-inside.new.scoped c.self.inside.scoped.items c.self.inside.scoped.len n0 ∙ m.scoped_moved ∙ ap (map (λ (e : RootEntry). record e { word = moved d.to e.word })) c.as_mut_slice.ensures.value in
    let p1 = refilled c.take_all-self-inside.new.owned c.self.inside.owned.items c.self.inside.owned.len n1 ∙ m.owned_moved ∙ ap (map (λ (e : OwnedEntry). record e { word = moved d.to e.word })) c.as_mut_slice-2.ensures.value in
    let p2 = refilled c.take_all-self-inside.new.slots c.self.inside.slots.items c.self.inside.slots.len n2 ∙ m.slots_moved ∙ ap (map (λ (e : SlotEntry). record e { word = moved d.to e.word })) c.as_mut_slice-3.ensures.value in
    let p3 = m.globals_moved in
    let ls = list_spare g at in
    let li = c.clear.ensures.roots ∙ sym (unused_list c.self.inside.is_listing c.self.inside.list.roots c.self.inside.given c.args.self.now c.self.invariant.0 (ap (λ (r : RootsView). r.listed) c.self.view_is) c.requires.unlisted).0 in
    collects_roots g.H.GcHeap.KIND c.args.trace.now.types.now.declarations (g.H.GcHeap.seen c.args.heap.now) (g.H.GcHeap.seen c.run.new.heap) c.args.self.now _ c.run.new.roots.roots
    (has_host c.args.trace.now.host_data_table.now.entries) (has_host c.run.new.trace.host_data_table.now.entries)
    (g.met.H.GcHeap.is_heap c.args.heap.now c.requires.sound) c.requires.attached (g.met.H.GcHeap.is_heap c.run.new.heap c.run.ensures.sound) c.requires.collectable d
    ((λ i. record {
      scoped = p0 i;
      owned = p1 i;
      owns = c.self.inside.owns;
      slots = p2 i;
      frames = c.self.inside.frames.items;
      globals = p3 i;
      pending = m.pending_moved i;
      generation = c.self.inside.generation;
      spare = c.self.inside.spare;
      listed = cond c.self.inside.is_listing (Some (li i)) None;
      given = c.self.inside.given;
      list_spare = ls i + c.self.inside.given;
      has_places = c.self.inside.has_places;
    })
    ∙ ap (moved_roots d.to) c.self.view_is)
