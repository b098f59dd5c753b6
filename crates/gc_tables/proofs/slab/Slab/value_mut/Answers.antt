use Rattle.std.proofs.Common.{◌≡◌, ◌<◌, Some, length, refl, sym, ap, ◌∙◌, arith}
use Rattle.std.proofs.lemmas.Option.{slice_get_within}
use Rattle.std.specs.FinMap as finite
use Rattle.gc_tables.specs.declared.slab.Entry.TheVariants.{Occupied}
use Rattle.gc_tables.proofs.LinkLemmas.{get-entry_map, entry_map-fill, occupied_at, linked-write, read_place}
use Rattle.gc_tables.proofs.slab.Slab.value_mut.Goals as goal

pub index_mut-requires : goal.index_mut-requires
index_mut-requires g c =
    let found = occupied_at c.self.inside.entries.items c.args.id (rw (← c.self.view_is) at c.requires) in
    let within : c.args.id < length c.self.inside.entries.items = slice_get_within _ _ _ found.1 in
    let at = c.index.ensures in
    let size = c.self.inside.entries.ok.0 in
    omega arith

pub value_mut-requires : goal.value_mut-requires
value_mut-requires g c =
    let found = occupied_at c.self.inside.entries.items c.args.id (rw (← c.self.view_is) at c.requires) in
    let occupied = found.1 in
    let read = read_place _ _ _ c.args.id _ _ c.self.inside.entries.ok.0 c.index.ensures (slice_get_within _ _ _ occupied) c.index_mut.ensures.value refl in
    let same : c.index_mut.result.now ≡ Occupied found.0 = cc in
    rw same refl

pub invariant_of-self-lent : goal.invariant_of-self-lent
invariant_of-self-lent g c w =
    let found = occupied_at c.self.inside.entries.items c.args.id (rw (← c.self.view_is) at c.requires) in
    rw c.index.ensures (linked-write _ _ c.args.id _ found.0 w c.self.invariant found.1)

pub returns : goal.returns
returns g c =
    let found = occupied_at c.self.inside.entries.items c.args.id (rw (← c.self.view_is) at c.requires) in
    let within : c.args.id < length c.self.inside.entries.items = slice_get_within _ _ _ found.1 in
    let read = read_place _ _ _ c.args.id _ _ c.self.inside.entries.ok.0 c.index.ensures within c.index_mut.ensures.value refl in (
      (refl, λ w. let filled = entry_map-fill c.self.inside.entries.items c.args.id w within in rw (← c.self.view_is, c.index.ensures, filled)),
      record {
        writes_back = tt;
        value = ap (λ t. finite.get t.entries c.args.id) (sym c.self.view_is) ∙ get-entry_map _ c.args.id _ read ∙ c.value_mut.ensures.value;
      },
    )
