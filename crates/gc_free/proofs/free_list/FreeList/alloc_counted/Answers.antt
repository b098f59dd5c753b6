use Rattle.std.proofs.Common.{arith, ◌≤◌, ◌≡◌, ◌+◌, ap, ◌∙◌, refl, length}
use Rattle.gc_free.specs.Space.{Space, free_runs, take}
use Rattle.gc_free.specs.Kept.{KeepsRuns}
use Rattle.gc_free.specs.Placed.{place_in, with_current}
use Rattle.gc_free.proofs.Costs.{IsSearched-none}
use Rattle.gc_free.proofs.PlacedRuns.{place_kept, after_none, after_some, non_zero, non_zero_aligned, blocks_fit}
use Rattle.gc_free.proofs.free_list.FreeList.alloc_counted.Goals as goal

pub overflow_add-self-inside : goal.overflow_add-self-inside
overflow_add-self-inside g c =
    let s : Space = record { capacity = c.self.inside.capacity; held = c.self.inside.held.blocks; current = c.self.inside.current } in
    let few = blocks_fit s c.self.inside.others.runs c.self.inside.others.room c.self.inside.blocks c.self.invariant in
    omega arith

pub returns-in_err-reserve-clause-cost : goal.returns-in_err-reserve-clause-cost
returns-in_err-reserve-clause-cost g c =
    (IsSearched-none 4 (length (free_runs c.args.self.now.space)) c.args.steps.now).bound

pub place-placed-requires-clause-spread : goal.place-placed-requires-clause-spread
place-placed-requires-clause-spread g c =
    let s : Space = record { capacity = c.self.inside.capacity; held = c.self.inside.held.blocks; current = c.self.inside.current } in
    let runs = c.reserve.new.self.runs in
    let kept : KeepsRuns s runs c.self.inside.others.room c.self.inside.blocks = rw c.reserve.ensures.runs c.self.invariant in
    let grown : c.self.inside.others.room ≤ c.reserve.new.self.room = c.reserve.ensures.grown in
    let enough : c.self.inside.blocks + 2 ≤ c.reserve.new.self.room = c.in_ok-reserve.ensures.ok in
    let k = place_kept c.args.alloc_size s runs c.self.inside.others.room c.reserve.new.self.room c.self.inside.blocks kept grown c.requires.whole c.requires.some enough in
    k.spread

pub place-placed-requires-clause-room : goal.place-placed-requires-clause-room
place-placed-requires-clause-room g c =
    let s : Space = record { capacity = c.self.inside.capacity; held = c.self.inside.held.blocks; current = c.self.inside.current } in
    let runs = c.reserve.new.self.runs in
    let kept : KeepsRuns s runs c.self.inside.others.room c.self.inside.blocks = rw c.reserve.ensures.runs c.self.invariant in
    let grown : c.self.inside.others.room ≤ c.reserve.new.self.room = c.reserve.ensures.grown in
    let enough : c.self.inside.blocks + 2 ≤ c.reserve.new.self.room = c.in_ok-reserve.ensures.ok in
    let k = place_kept c.args.alloc_size s runs c.self.inside.others.room c.reserve.new.self.room c.self.inside.blocks kept grown c.requires.whole c.requires.some enough in
    k.has_room

pub place-placed-requires-clause-fits : goal.place-placed-requires-clause-fits
place-placed-requires-clause-fits g c =
    let s : Space = record { capacity = c.self.inside.capacity; held = c.self.inside.held.blocks; current = c.self.inside.current } in
    let runs = c.reserve.new.self.runs in
    let kept : KeepsRuns s runs c.self.inside.others.room c.self.inside.blocks = rw c.reserve.ensures.runs c.self.invariant in
    let grown : c.self.inside.others.room ≤ c.reserve.new.self.room = c.reserve.ensures.grown in
    let enough : c.self.inside.blocks + 2 ≤ c.reserve.new.self.room = c.in_ok-reserve.ensures.ok in
    let k = place_kept c.args.alloc_size s runs c.self.inside.others.room c.reserve.new.self.room c.self.inside.blocks kept grown c.requires.whole c.requires.some enough in
    k.fits

pub invariant_of-self-in_default : goal.invariant_of-self-in_default
invariant_of-self-in_default g c =
    let s : Space = record { capacity = c.self.inside.capacity; held = c.self.inside.held.blocks; current = c.self.inside.current } in
    let runs = c.reserve.new.self.runs in
    let kept : KeepsRuns s runs c.self.inside.others.room c.self.inside.blocks = rw c.reserve.ensures.runs c.self.invariant in
    let grown : c.self.inside.others.room ≤ c.reserve.new.self.room = c.reserve.ensures.grown in
    let enough : c.self.inside.blocks + 2 ≤ c.reserve.new.self.room = c.in_ok-reserve.ensures.ok in
    let wider : c.reserve.new.self.room ≤ c.place-placed.new.others.room = c.place-placed.ensures.room in
    let k = place_kept c.args.alloc_size s runs c.self.inside.others.room c.place-placed.new.others.room c.self.inside.blocks kept (omega arith) c.requires.whole c.requires.some (omega arith) in
    let after = after_none c.args.alloc_size s c.place-placed.new.others.room c.self.inside.blocks (place_in c.args.alloc_size s.current runs) c.place-placed.result.block c.place-placed.result.current c.place-placed.new.others.runs
    k.placed c.place-placed.ensures.block c.place-placed.ensures.current c.place-placed.ensures.others c.in_default.is in
    after.kept

pub returns-in_default-clause-place : goal.returns-in_default-clause-place
returns-in_default-clause-place g c =
    let s : Space = record { capacity = c.self.inside.capacity; held = c.self.inside.held.blocks; current = c.self.inside.current } in
    let runs = c.reserve.new.self.runs in
    let kept : KeepsRuns s runs c.self.inside.others.room c.self.inside.blocks = rw c.reserve.ensures.runs c.self.invariant in
    let grown : c.self.inside.others.room ≤ c.reserve.new.self.room = c.reserve.ensures.grown in
    let enough : c.self.inside.blocks + 2 ≤ c.reserve.new.self.room = c.in_ok-reserve.ensures.ok in
    let wider : c.reserve.new.self.room ≤ c.place-placed.new.others.room = c.place-placed.ensures.room in
    let k = place_kept c.args.alloc_size s runs c.self.inside.others.room c.place-placed.new.others.room c.self.inside.blocks kept (omega arith) c.requires.whole c.requires.some (omega arith) in
    let after = after_none c.args.alloc_size s c.place-placed.new.others.room c.self.inside.blocks (place_in c.args.alloc_size s.current runs) c.place-placed.result.block c.place-placed.result.current c.place-placed.new.others.runs
    k.placed c.place-placed.ensures.block c.place-placed.ensures.current c.place-placed.ensures.others c.in_default.is in
    after.place ∙ ap (λ v. (take c.args.alloc_size v.space).place) c.self.view_is

pub returns-in_default-clause-after : goal.returns-in_default-clause-after
returns-in_default-clause-after g c =
    let s : Space = record { capacity = c.self.inside.capacity; held = c.self.inside.held.blocks; current = c.self.inside.current } in
    let runs = c.reserve.new.self.runs in
    let kept : KeepsRuns s runs c.self.inside.others.room c.self.inside.blocks = rw c.reserve.ensures.runs c.self.invariant in
    let grown : c.self.inside.others.room ≤ c.reserve.new.self.room = c.reserve.ensures.grown in
    let enough : c.self.inside.blocks + 2 ≤ c.reserve.new.self.room = c.in_ok-reserve.ensures.ok in
    let wider : c.reserve.new.self.room ≤ c.place-placed.new.others.room = c.place-placed.ensures.room in
    let k = place_kept c.args.alloc_size s runs c.self.inside.others.room c.place-placed.new.others.room c.self.inside.blocks kept (omega arith) c.requires.whole c.requires.some (omega arith) in
    let after = after_none c.args.alloc_size s c.place-placed.new.others.room c.self.inside.blocks (place_in c.args.alloc_size s.current runs) c.place-placed.result.block c.place-placed.result.current c.place-placed.new.others.runs
    k.placed c.place-placed.ensures.block c.place-placed.ensures.current c.place-placed.ensures.others c.in_default.is in
    after.space ∙ ap (λ v. (take c.args.alloc_size v.space).space) c.self.view_is

pub returns-in_default-clause-none : goal.returns-in_default-clause-none
returns-in_default-clause-none g c =
    let s : Space = record { capacity = c.self.inside.capacity; held = c.self.inside.held.blocks; current = c.self.inside.current } in
    let runs = c.reserve.new.self.runs in
    let kept : KeepsRuns s runs c.self.inside.others.room c.self.inside.blocks = rw c.reserve.ensures.runs c.self.invariant in
    let grown : c.self.inside.others.room ≤ c.reserve.new.self.room = c.reserve.ensures.grown in
    let enough : c.self.inside.blocks + 2 ≤ c.reserve.new.self.room = c.in_ok-reserve.ensures.ok in
    let wider : c.reserve.new.self.room ≤ c.place-placed.new.others.room = c.place-placed.ensures.room in
    let k = place_kept c.args.alloc_size s runs c.self.inside.others.room c.place-placed.new.others.room c.self.inside.blocks kept (omega arith) c.requires.whole c.requires.some (omega arith) in
    let after = after_none c.args.alloc_size s c.place-placed.new.others.room c.self.inside.blocks (place_in c.args.alloc_size s.current runs) c.place-placed.result.block c.place-placed.result.current c.place-placed.new.others.runs
    k.placed c.place-placed.ensures.block c.place-placed.ensures.current c.place-placed.ensures.others c.in_default.is in
    rw (← c.self.view_is) ((λ _. after.short), (λ _. refl))

pub returns-in_default-clause-cost : goal.returns-in_default-clause-cost
returns-in_default-clause-cost g c =
    let s : Space = record { capacity = c.self.inside.capacity; held = c.self.inside.held.blocks; current = c.self.inside.current } in
    let runs = c.reserve.new.self.runs in
    let kept : KeepsRuns s runs c.self.inside.others.room c.self.inside.blocks = rw c.reserve.ensures.runs c.self.invariant in
    let grown : c.self.inside.others.room ≤ c.reserve.new.self.room = c.reserve.ensures.grown in
    let enough : c.self.inside.blocks + 2 ≤ c.reserve.new.self.room = c.in_ok-reserve.ensures.ok in
    let wider : c.reserve.new.self.room ≤ c.place-placed.new.others.room = c.place-placed.ensures.room in
    let k = place_kept c.args.alloc_size s runs c.self.inside.others.room c.place-placed.new.others.room c.self.inside.blocks kept (omega arith) c.requires.whole c.requires.some (omega arith) in
    let few : length (with_current s.current runs) ≡ length (free_runs s) = ap length k.all in
    let cost = rw few at c.place-placed.ensures.cost in
    rw (← c.self.view_is) cost.bound

pub overflow_add-self : goal.overflow_add-self
overflow_add-self g c =
    let s : Space = record { capacity = c.self.inside.capacity; held = c.self.inside.held.blocks; current = c.self.inside.current } in
    let few = blocks_fit s c.self.inside.others.runs c.self.inside.others.room c.self.inside.blocks c.self.invariant in
    omega arith

pub invariant_of-self-2 : goal.invariant_of-self-2
invariant_of-self-2 g c =
    let s : Space = record { capacity = c.self.inside.capacity; held = c.self.inside.held.blocks; current = c.self.inside.current } in
    let runs = c.reserve.new.self.runs in
    let kept : KeepsRuns s runs c.self.inside.others.room c.self.inside.blocks = rw c.reserve.ensures.runs c.self.invariant in
    let grown : c.self.inside.others.room ≤ c.reserve.new.self.room = c.reserve.ensures.grown in
    let enough : c.self.inside.blocks + 2 ≤ c.reserve.new.self.room = c.in_ok-reserve.ensures.ok in
    let wider : c.reserve.new.self.room ≤ c.place-placed.new.others.room = c.place-placed.ensures.room in
    let k = place_kept c.args.alloc_size s runs c.self.inside.others.room c.place-placed.new.others.room c.self.inside.blocks kept (omega arith) c.requires.whole c.requires.some (omega arith) in
    let after = after_some c.args.alloc_size s c.place-placed.new.others.room c.self.inside.blocks (place_in c.args.alloc_size s.current runs) c.place-placed.result.block c.place-placed.result.current c.place-placed.new.others.runs c.in-Some.block
    k.placed c.place-placed.ensures.block c.place-placed.ensures.current c.place-placed.ensures.others c.in-Some.is in
    rw c.after-self-inside.ensures after.kept

pub returns-clause-place : goal.returns-clause-place
returns-clause-place g c =
    let s : Space = record { capacity = c.self.inside.capacity; held = c.self.inside.held.blocks; current = c.self.inside.current } in
    let runs = c.reserve.new.self.runs in
    let kept : KeepsRuns s runs c.self.inside.others.room c.self.inside.blocks = rw c.reserve.ensures.runs c.self.invariant in
    let grown : c.self.inside.others.room ≤ c.reserve.new.self.room = c.reserve.ensures.grown in
    let enough : c.self.inside.blocks + 2 ≤ c.reserve.new.self.room = c.in_ok-reserve.ensures.ok in
    let wider : c.reserve.new.self.room ≤ c.place-placed.new.others.room = c.place-placed.ensures.room in
    let k = place_kept c.args.alloc_size s runs c.self.inside.others.room c.place-placed.new.others.room c.self.inside.blocks kept (omega arith) c.requires.whole c.requires.some (omega arith) in
    let after = after_some c.args.alloc_size s c.place-placed.new.others.room c.self.inside.blocks (place_in c.args.alloc_size s.current runs) c.place-placed.result.block c.place-placed.result.current c.place-placed.new.others.runs c.in-Some.block
    k.placed c.place-placed.ensures.block c.place-placed.ensures.current c.place-placed.ensures.others c.in-Some.is in
    let low : 16 ≤ c.in-Some.block.place = after.low in
    let number = non_zero c.new.result c.in-Some.block.place (omega arith) c.new.ensures in
    number.is ∙ after.place ∙ ap (λ v. (take c.args.alloc_size v.space).place) c.self.view_is

pub returns-clause-after : goal.returns-clause-after
returns-clause-after g c =
    let s : Space = record { capacity = c.self.inside.capacity; held = c.self.inside.held.blocks; current = c.self.inside.current } in
    let runs = c.reserve.new.self.runs in
    let kept : KeepsRuns s runs c.self.inside.others.room c.self.inside.blocks = rw c.reserve.ensures.runs c.self.invariant in
    let grown : c.self.inside.others.room ≤ c.reserve.new.self.room = c.reserve.ensures.grown in
    let enough : c.self.inside.blocks + 2 ≤ c.reserve.new.self.room = c.in_ok-reserve.ensures.ok in
    let wider : c.reserve.new.self.room ≤ c.place-placed.new.others.room = c.place-placed.ensures.room in
    let k = place_kept c.args.alloc_size s runs c.self.inside.others.room c.place-placed.new.others.room c.self.inside.blocks kept (omega arith) c.requires.whole c.requires.some (omega arith) in
    let after = after_some c.args.alloc_size s c.place-placed.new.others.room c.self.inside.blocks (place_in c.args.alloc_size s.current runs) c.place-placed.result.block c.place-placed.result.current c.place-placed.new.others.runs c.in-Some.block
    k.placed c.place-placed.ensures.block c.place-placed.ensures.current c.place-placed.ensures.others c.in-Some.is in
    ap (λ h. record { capacity = s.capacity; held = h; current = c.place-placed.result.current }) c.after-self-inside.ensures
    ∙ after.space ∙ ap (λ v. (take c.args.alloc_size v.space).space) c.self.view_is

pub returns-clause-none : goal.returns-clause-none
returns-clause-none g c =
    let s : Space = record { capacity = c.self.inside.capacity; held = c.self.inside.held.blocks; current = c.self.inside.current } in
    let runs = c.reserve.new.self.runs in
    let kept : KeepsRuns s runs c.self.inside.others.room c.self.inside.blocks = rw c.reserve.ensures.runs c.self.invariant in
    let grown : c.self.inside.others.room ≤ c.reserve.new.self.room = c.reserve.ensures.grown in
    let enough : c.self.inside.blocks + 2 ≤ c.reserve.new.self.room = c.in_ok-reserve.ensures.ok in
    let wider : c.reserve.new.self.room ≤ c.place-placed.new.others.room = c.place-placed.ensures.room in
    let k = place_kept c.args.alloc_size s runs c.self.inside.others.room c.place-placed.new.others.room c.self.inside.blocks kept (omega arith) c.requires.whole c.requires.some (omega arith) in
    let after = after_some c.args.alloc_size s c.place-placed.new.others.room c.self.inside.blocks (place_in c.args.alloc_size s.current runs) c.place-placed.result.block c.place-placed.result.current c.place-placed.new.others.runs c.in-Some.block
    k.placed c.place-placed.ensures.block c.place-placed.ensures.current c.place-placed.ensures.others c.in-Some.is in
    let low : 16 ≤ c.in-Some.block.place = after.low in
    let number = non_zero c.new.result c.in-Some.block.place (omega arith) c.new.ensures in
    rw (← c.self.view_is) ((λ i. absurd (number.some i)), (λ all. absurd (after.fits all)))

pub returns-clause-aligned : goal.returns-clause-aligned
returns-clause-aligned g c =
    let s : Space = record { capacity = c.self.inside.capacity; held = c.self.inside.held.blocks; current = c.self.inside.current } in
    let runs = c.reserve.new.self.runs in
    let kept : KeepsRuns s runs c.self.inside.others.room c.self.inside.blocks = rw c.reserve.ensures.runs c.self.invariant in
    let grown : c.self.inside.others.room ≤ c.reserve.new.self.room = c.reserve.ensures.grown in
    let enough : c.self.inside.blocks + 2 ≤ c.reserve.new.self.room = c.in_ok-reserve.ensures.ok in
    let wider : c.reserve.new.self.room ≤ c.place-placed.new.others.room = c.place-placed.ensures.room in
    let k = place_kept c.args.alloc_size s runs c.self.inside.others.room c.place-placed.new.others.room c.self.inside.blocks kept (omega arith) c.requires.whole c.requires.some (omega arith) in
    let after = after_some c.args.alloc_size s c.place-placed.new.others.room c.self.inside.blocks (place_in c.args.alloc_size s.current runs) c.place-placed.result.block c.place-placed.result.current c.place-placed.new.others.runs c.in-Some.block
    k.placed c.place-placed.ensures.block c.place-placed.ensures.current c.place-placed.ensures.others c.in-Some.is in
    non_zero_aligned c.new.result c.in-Some.block.place after.aligned c.new.ensures

pub returns-clause-sound : goal.returns-clause-sound
returns-clause-sound g c =
    let s : Space = record { capacity = c.self.inside.capacity; held = c.self.inside.held.blocks; current = c.self.inside.current } in
    let runs = c.reserve.new.self.runs in
    let kept : KeepsRuns s runs c.self.inside.others.room c.self.inside.blocks = rw c.reserve.ensures.runs c.self.invariant in
    let grown : c.self.inside.others.room ≤ c.reserve.new.self.room = c.reserve.ensures.grown in
    let enough : c.self.inside.blocks + 2 ≤ c.reserve.new.self.room = c.in_ok-reserve.ensures.ok in
    let wider : c.reserve.new.self.room ≤ c.place-placed.new.others.room = c.place-placed.ensures.room in
    let k = place_kept c.args.alloc_size s runs c.self.inside.others.room c.place-placed.new.others.room c.self.inside.blocks kept (omega arith) c.requires.whole c.requires.some (omega arith) in
    let after = after_some c.args.alloc_size s c.place-placed.new.others.room c.self.inside.blocks (place_in c.args.alloc_size s.current runs) c.place-placed.result.block c.place-placed.result.current c.place-placed.new.others.runs c.in-Some.block
    k.placed c.place-placed.ensures.block c.place-placed.ensures.current c.place-placed.ensures.others c.in-Some.is in
    rw c.after-self-inside.ensures after.kept.sound

pub returns-clause-cost : goal.returns-clause-cost
returns-clause-cost g c =
    let s : Space = record { capacity = c.self.inside.capacity; held = c.self.inside.held.blocks; current = c.self.inside.current } in
    let runs = c.reserve.new.self.runs in
    let kept : KeepsRuns s runs c.self.inside.others.room c.self.inside.blocks = rw c.reserve.ensures.runs c.self.invariant in
    let grown : c.self.inside.others.room ≤ c.reserve.new.self.room = c.reserve.ensures.grown in
    let enough : c.self.inside.blocks + 2 ≤ c.reserve.new.self.room = c.in_ok-reserve.ensures.ok in
    let wider : c.reserve.new.self.room ≤ c.place-placed.new.others.room = c.place-placed.ensures.room in
    let k = place_kept c.args.alloc_size s runs c.self.inside.others.room c.place-placed.new.others.room c.self.inside.blocks kept (omega arith) c.requires.whole c.requires.some (omega arith) in
    let few : length (with_current s.current runs) ≡ length (free_runs s) = ap length k.all in
    let cost = rw few at c.place-placed.ensures.cost in
    rw (← c.self.view_is) cost.bound

pub returns-in_default-clause-least : goal.returns-in_default-clause-least
returns-in_default-clause-least g c =
    let s : Space = record { capacity = c.self.inside.capacity; held = c.self.inside.held.blocks; current = c.self.inside.current } in
    let runs = c.reserve.new.self.runs in
    let kept : KeepsRuns s runs c.self.inside.others.room c.self.inside.blocks = rw c.reserve.ensures.runs c.self.invariant in
    let grown : c.self.inside.others.room ≤ c.reserve.new.self.room = c.reserve.ensures.grown in
    let enough : c.self.inside.blocks + 2 ≤ c.reserve.new.self.room = c.in_ok-reserve.ensures.ok in
    let wider : c.reserve.new.self.room ≤ c.place-placed.new.others.room = c.place-placed.ensures.room in
    let k = place_kept c.args.alloc_size s runs c.self.inside.others.room c.place-placed.new.others.room c.self.inside.blocks kept (omega arith) c.requires.whole c.requires.some (omega arith) in
    let few : length (with_current s.current runs) ≡ length (free_runs s) = ap length k.all in
    let least = rw few at c.place-placed.ensures.least in
    rw (← c.self.view_is) least

pub returns-clause-least : goal.returns-clause-least
returns-clause-least g c =
    let s : Space = record { capacity = c.self.inside.capacity; held = c.self.inside.held.blocks; current = c.self.inside.current } in
    let runs = c.reserve.new.self.runs in
    let kept : KeepsRuns s runs c.self.inside.others.room c.self.inside.blocks = rw c.reserve.ensures.runs c.self.invariant in
    let grown : c.self.inside.others.room ≤ c.reserve.new.self.room = c.reserve.ensures.grown in
    let enough : c.self.inside.blocks + 2 ≤ c.reserve.new.self.room = c.in_ok-reserve.ensures.ok in
    let wider : c.reserve.new.self.room ≤ c.place-placed.new.others.room = c.place-placed.ensures.room in
    let k = place_kept c.args.alloc_size s runs c.self.inside.others.room c.place-placed.new.others.room c.self.inside.blocks kept (omega arith) c.requires.whole c.requires.some (omega arith) in
    let few : length (with_current s.current runs) ≡ length (free_runs s) = ap length k.all in
    let least = rw few at c.place-placed.ensures.least in
    rw (← c.self.view_is) least
