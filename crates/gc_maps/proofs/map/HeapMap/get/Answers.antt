use Rattle.std.proofs.Common.{◌≡◌, ◌+◌, ◌∙◌, sym, ap, subst, ℤ, Ok, w64, arith}
use Rattle.std.specs.Ordering.{int_cmp}
use Rattle.std.specs.FinMap.Entries.{find}
use Rattle.std.proofs.lemmas.Int.{to_z-of_z}
use Rattle.gc_maps.specs.Searching.{nodes_toward}
use Rattle.gc_maps.specs.Trees.{pairs}
use Rattle.gc_maps.proofs.Leaving.{map_in, map_root, map_search, map_find, map_steps}
use Rattle.gc_maps.proofs.map.HeapMap.get.Goals as goal

pub look_up-requires : goal.look_up-requires
look_up-requires g c = map_in g.H.GcHeap.KIND c.args.store.now c.args.self.now.root c.requires.stands (sym c.is_version_of.ensures ∙ c.if-not-is_version_of.false)

pub returns-clause-gets : goal.returns-clause-gets
returns-clause-gets g c own t m holds stands =
    let map = stands.1 in
    let s = c.args.store.now in
    let root = c.args.self.now.root in
    ap Ok (c.look_up.ensures.finds t stands.0 map.is.tree holds (map_root s t root stands.0 m map) (map_search s t root stands.0 m map)
    ∙ ap (λ (z : ℤ). find int_cmp z (pairs map.is.tree)) (to_z-of_z w64 c.args.key c.ranges.key) ∙ map_find s t root stands.0 m map c.args.key)

-- no step is within the bound of any map
pub returns-then-not-is_version_of-clause-few_steps : goal.returns-then-not-is_version_of-clause-few_steps
returns-then-not-is_version_of-clause-few_steps g c t m holds stands =
    let map = stands.1 in
    map_steps c.args.store.now t c.args.self.now.root stands.0 m map c.args.steps.now c.args.steps.now (omega arith)

pub returns-clause-few_steps : goal.returns-clause-few_steps
returns-clause-few_steps g c t m holds stands =
    let map = stands.1 in
    let s = c.args.store.now in
    let root = c.args.self.now.root in
    map_steps s t root stands.0 m map c.args.steps.now c.look_up.new.steps
    (c.look_up.ensures.counted t stands.0 map.is.tree holds (map_root s t root stands.0 m map) (map_search s t root stands.0 m map))

pub returns-clause-each_step : goal.returns-clause-each_step
returns-clause-each_step g c own t ty m holds stands =
    let s = c.args.store.now in
    let root = c.args.self.now.root in
    subst (λ (z : ℤ). c.look_up.new.steps ≡ c.args.steps.now + nodes_toward z stands.is.tree) (to_z-of_z w64 c.args.key c.ranges.key)
    (c.look_up.ensures.exact t ty stands.is.tree holds (map_root s t root ty m stands) (map_search s t root ty m stands))
