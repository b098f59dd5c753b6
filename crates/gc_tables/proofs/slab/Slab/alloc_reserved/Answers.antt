use Rattle.std.proofs.Common.{◌≡◌, ◌<◌, ◌≤◌, Some, length, slice_get, sym, ap, ◌∙◌, arith}
use Rattle.std.proofs.lemmas.Option.{slice_get_within}
use Rattle.std.specs.FinMap as finite
use Rattle.gc_tables.specs.declared.slab.Entry.TheVariants.{Free}
use Rattle.gc_tables.specs.Slots.{entry_map}
use Rattle.gc_tables.proofs.LinkLemmas.{get-entry_map, get-entry_map-past, entry_map-push, entry_map-fill, first_is_free, linked-push, linked-fill, read_place}
use Rattle.gc_tables.proofs.slab.Slab.alloc_reserved.Goals as goal

pub invariant_of-self : goal.invariant_of-self
invariant_of-self g c =
    rw c.push_reserved.ensures.items (linked-push _ _ _ c.args.value c.self.invariant c.in-None.is (rw (← c.self.view_is) at c.requires.not_full))

pub index_mut-requires : goal.index_mut-requires
index_mut-requires g c =
    let found = first_is_free _ _ _ _ c.self.invariant c.in-Some.is in
    let within : c.in-Some.id < length c.self.inside.entries.items = slice_get_within _ _ _ found.1 in
    let at = c.index.ensures in
    let size = c.self.inside.entries.ok.0 in
    omega arith

pub unreachable-requires : goal.unreachable-requires
unreachable-requires g c =
    let found = first_is_free _ _ _ _ c.self.invariant c.in-Some.is in
    let free = found.1 in
    let read = read_place _ _ _ c.in-Some.id _ _ c.self.inside.entries.ok.0 c.index.ensures (slice_get_within _ _ _ free) c.index_mut.ensures.value c.replace.ensures.value in
    let occupied = c.in-Occupied.is in
    cc

pub invariant_of-self-in-Some : goal.invariant_of-self-in-Some
invariant_of-self-in-Some g c =
    let found = first_is_free _ _ _ _ c.self.invariant c.in-Some.is in
    let read = read_place _ _ _ c.in-Some.id _ _ c.self.inside.entries.ok.0 c.index.ensures (slice_get_within _ _ _ found.1) c.index_mut.ensures.value c.replace.ensures.value in
    rw (c.index.ensures, c.replace.ensures.after) (linked-fill _ _ c.in-Some.id _ c.in-Free.next c.args.value c.self.invariant c.in-Some.is (read ∙ ap Some c.in-Free.is))

pub returns-in-None-clause-fresh : goal.returns-in-None-clause-fresh
returns-in-None-clause-fresh g c =
    let at = c.new-id.ensures in
    let size = c.self.inside.entries.ok.0 in
    let past : length c.self.inside.entries.items ≤ c.new-id.result = omega arith in
    ap (λ t. finite.get t.entries c.new-id.result) (sym c.self.view_is)
    ∙ get-entry_map-past _ c.new-id.result past

pub returns-in-None-clause-added : goal.returns-in-None-clause-added
returns-in-None-clause-added g c =
    let at = c.new-id.ensures in
    let size = c.self.inside.entries.ok.0 in
    let end : length c.self.inside.entries.items ≡ c.new-id.result = omega arith in
    ap entry_map c.push_reserved.ensures.items
    ∙ entry_map-push c.self.inside.entries.items c.args.value
    ∙ ap (λ id. finite.insert (entry_map c.self.inside.entries.items) id c.args.value) end
    ∙ ap (λ t. finite.insert t.entries c.new-id.result c.args.value) c.self.view_is

pub returns-in-Free-clause-fresh : goal.returns-in-Free-clause-fresh
returns-in-Free-clause-fresh g c =
    let found = first_is_free _ _ _ _ c.self.invariant c.in-Some.is in
    ap (λ t. finite.get t.entries c.in-Some.id) (sym c.self.view_is) ∙ get-entry_map _ c.in-Some.id _ found.1

pub returns-in-Free-clause-added : goal.returns-in-Free-clause-added
returns-in-Free-clause-added g c =
    let found = first_is_free _ _ _ _ c.self.invariant c.in-Some.is in
    let filled = entry_map-fill c.self.inside.entries.items c.in-Some.id c.args.value (slice_get_within _ _ _ found.1) in
    rw (c.index.ensures, c.replace.ensures.after) (filled ∙ ap (λ t. finite.insert t.entries c.in-Some.id c.args.value) c.self.view_is)
