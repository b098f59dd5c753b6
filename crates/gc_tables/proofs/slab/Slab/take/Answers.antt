use Rattle.std.proofs.Common.{◌≡◌, ◌<◌, Some, length, slice_get, sym, ap, ◌∙◌, arith}
use Rattle.std.proofs.lemmas.Option.{slice_get_within}
use Rattle.std.specs.FinMap as finite
use Rattle.gc_tables.proofs.LinkLemmas.{get-entry_map, entry_map-free, occupied_at, linked-some, linked-free, read_place}
use Rattle.gc_tables.proofs.slab.Slab.take.Goals as goal

pub index_mut-requires : goal.index_mut-requires
index_mut-requires g c =
    let found = occupied_at c.self.inside.entries.items c.args.id (rw (← c.self.view_is) at c.requires) in
    let within : c.args.id < length c.self.inside.entries.items = slice_get_within _ _ _ found.1 in
    let at = c.index.ensures in
    let size = c.self.inside.entries.ok.0 in
    omega arith

pub overflow_sub-self : goal.overflow_sub-self
overflow_sub-self g c =
    let found = occupied_at c.self.inside.entries.items c.args.id (rw (← c.self.view_is) at c.requires) in
    let positive = linked-some _ _ c.args.id _ found.0 c.self.invariant found.1 in
    omega arith

pub invariant_of-self : goal.invariant_of-self
invariant_of-self g c =
    let found = occupied_at c.self.inside.entries.items c.args.id (rw (← c.self.view_is) at c.requires) in
    rw (c.index.ensures, c.replace.ensures.after) (linked-free _ _ c.args.id _ found.0 c.self.invariant found.1)

pub unreachable-requires : goal.unreachable-requires
unreachable-requires g c =
    let found = occupied_at c.self.inside.entries.items c.args.id (rw (← c.self.view_is) at c.requires) in
    let occupied = found.1 in
    let read = read_place _ _ _ c.args.id _ _ c.self.inside.entries.ok.0 c.index.ensures (slice_get_within _ _ _ occupied) c.index_mut.ensures.value c.replace.ensures.value in
    let free = c.in-Free.is in
    cc

pub returns-clause-value : goal.returns-clause-value
returns-clause-value g c =
    let found = occupied_at c.self.inside.entries.items c.args.id (rw (← c.self.view_is) at c.requires) in
    let read = read_place _ _ _ c.args.id _ _ c.self.inside.entries.ok.0 c.index.ensures (slice_get_within _ _ _ found.1) c.index_mut.ensures.value c.replace.ensures.value in
    ap (λ t. finite.get t.entries c.args.id) (sym c.self.view_is) ∙ get-entry_map _ c.args.id _ (read ∙ ap Some c.in-Occupied.is)

pub returns-clause-removed : goal.returns-clause-removed
returns-clause-removed g c =
    let found = occupied_at c.self.inside.entries.items c.args.id (rw (← c.self.view_is) at c.requires) in
    let freed = entry_map-free c.self.inside.entries.items c.args.id c.self.inside.free (slice_get_within _ _ _ found.1) in
    rw (c.index.ensures, c.replace.ensures.after) (freed ∙ ap (λ t. finite.remove t.entries c.args.id) c.self.view_is)
