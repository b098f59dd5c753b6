use Rattle.std.proofs.Common.{◌≡◌, ◌+◌, List, None, length, map, refl, sym, ap, ◌∙◌, arith}
use Rattle.std.proofs.lemmas.List.{length-map}
use Rattle.gc_roots.specs.Roots.{Root}
use Rattle.gc_heap.specs.Collection.{moved, moved_root}
use Rattle.gc_owner.specs.declared.entry.RootEntry.{RootEntry}
use Rattle.gc_owner.specs.declared.entry.OwnedEntry.{OwnedEntry}
use Rattle.gc_owner.specs.declared.entry.SlotEntry.{SlotEntry}
use Rattle.gc_owner.specs.RootColumns.{RootsView, roots_of, all_roots, moved_roots, without_list}
use Rattle.gc_owner.proofs.CollectedRoots.{refilled}
use Rattle.gc_owner.proofs.ListUse.{used_list}
use Rattle.gc_owner.proofs.roots.Roots.take_roots.Goals as goal

pub take_all-self-inside-requires : goal.take_all-self-inside-requires
take_all-self-inside-requires c =
    let used = used_list c.self.inside.is_listing c.self.inside.list.roots (map (moved_root c.requires.0) (roots_of c.args.self.now)) (ap (λ (r : RootsView). r.listed) c.self.view_is ∙ c.requires.1.0) in
    (c.requires.0, used.1 ∙ ap (map (moved_root c.requires.0)) (sym ((λ i. all_roots (c.as_mut_slice.ensures.value i) (c.as_mut_slice-2.ensures.value i) (c.as_mut_slice-3.ensures.value i) c.self.inside.globals c.self.inside.pending) ∙ ap roots_of c.self.view_is)))

pub invariant_of-self : goal.invariant_of-self
invariant_of-self c =
    let used = used_list c.self.inside.is_listing c.self.inside.list.roots (map (moved_root c.requires.0) (roots_of c.args.self.now)) (ap (λ (r : RootsView). r.listed) c.self.view_is ∙ c.requires.1.0) in
    let counts : length c.self.inside.list.roots ≡ length (roots_of c.args.self.now) = ap (λ (rs : List Root). length rs) used.1 ∙ length-map (roots_of c.args.self.now) (moved_root c.requires.0) in
    let given : c.self.inside.given ≡ length (roots_of c.args.self.now) = ap (λ (r : RootsView). r.given) c.self.view_is ∙ c.requires.1.1 in
    (λ is. (c.clear.ensures.roots, refl), λ places. omega (arith, c.self.invariant.1 places, c.clear.ensures.spare, counts, given), c.self.invariant.2, c.self.invariant.3, omega (arith, c.take_all-self-inside.auto.globals, c.self.invariant.4), c.self.invariant.5, c.self.invariant.6)

pub returns : goal.returns
returns c = λ to is.
    let used = used_list c.self.inside.is_listing c.self.inside.list.roots (map (moved_root to) (roots_of c.args.self.now)) (ap (λ (r : RootsView). r.listed) c.self.view_is ∙ is) in
    let m = c.take_all-self-inside.ensures to (used.1 ∙ ap (map (moved_root to)) (sym ((λ i. all_roots (c.as_mut_slice.ensures.value i) (c.as_mut_slice-2.ensures.value i) (c.as_mut_slice-3.ensures.value i) c.self.inside.globals c.self.inside.pending) ∙ ap roots_of c.self.view_is))) in
    let counts : length c.self.inside.list.roots ≡ length (roots_of c.args.self.now) = ap (λ (rs : List Root). length rs) used.1 ∙ length-map (roots_of c.args.self.now) (moved_root to) in
    let given : c.self.inside.given ≡ length (roots_of c.args.self.now) = ap (λ (r : RootsView). r.given) c.self.view_is ∙ c.requires.1.1 in
    let spare : c.clear.new.self.spare + 0 ≡ c.self.inside.list.spare + c.self.inside.given = omega (arith, c.clear.ensures.spare, counts, given) in
    let n0 : length c.take_all-self-inside.new.scoped ≡ c.self.inside.scoped.len = omega (arith, c.take_all-self-inside.auto.scoped, c.as_mut_slice.ensures.len) in
    let n1 : length c.take_all-self-inside.new.owned ≡ c.self.inside.owned.len = omega (arith, c.take_all-self-inside.auto.owned, c.as_mut_slice-2.ensures.len) in
    let n2 : length c.take_all-self-inside.new.slots ≡ c.self.inside.slots.len = omega (arith, c.take_all-self-inside.auto.slots, c.as_mut_slice-3.ensures.len) in
    let p0 = refilled c.take_all-self-inside.new.scoped c.self.inside.scoped.items c.self.inside.scoped.len n0 ∙ m.scoped_moved ∙ ap (map (λ (e : RootEntry). record e { word = moved to e.word })) c.as_mut_slice.ensures.value in
    let p1 = refilled c.take_all-self-inside.new.owned c.self.inside.owned.items c.self.inside.owned.len n1 ∙ m.owned_moved ∙ ap (map (λ (e : OwnedEntry). record e { word = moved to e.word })) c.as_mut_slice-2.ensures.value in
    let p2 = refilled c.take_all-self-inside.new.slots c.self.inside.slots.items c.self.inside.slots.len n2 ∙ m.slots_moved ∙ ap (map (λ (e : SlotEntry). record e { word = moved to e.word })) c.as_mut_slice-3.ensures.value in
    let p3 = m.globals_moved in
    (λ i. record {
      scoped = p0 i;
      owned = p1 i;
      owns = c.self.inside.owns;
      slots = p2 i;
      frames = c.self.inside.frames.items;
      globals = p3 i;
      pending = m.pending_moved i;
      generation = c.self.inside.generation;
      spare = c.self.inside.spare;
      listed = None;
      given = 0;
      list_spare = spare i;
      has_places = c.self.inside.has_places;
    })
    ∙ ap (λ (r : RootsView). moved_roots to (without_list r)) c.self.view_is
