use Rattle.std.proofs.Common.{◌≡◌, ◌-◌, sym, ap, ap₂, subst, ◌∙◌, arith}
use Rattle.std.specs.Prelude.{Contains}
use Rattle.std.specs.Int.NonZero.{non_zero_u32_get}
use Rattle.gc_free.specs.Runs.{run}
use Rattle.gc_free.specs.Space.{give}
use Rattle.gc_drc.specs.Layout.{block_of, counting_size_at}
use Rattle.gc_drc.proofs.GiveLemmas.{block_at_place, gives}
use Rattle.gc_drc.proofs.space.CountedSpace.give_back.Goals as goal

pub size-requires : goal.size-requires
size-requires c = (block_at_place c.args.self.now c.args.place c.requires).room

pub overflow_cast-block : goal.overflow_cast-block
overflow_cast-block c =
    let is : c.block_of-block.result ≡ block_of (counting_size_at c.args.self.now.memory c.args.place) = c.block_of-block.ensures ∙ ap block_of c.size.ensures in
    let fits = (block_at_place c.args.self.now c.args.place c.requires).fits in omega (arith, is, fits)

pub unreachable-requires : goal.unreachable-requires
unreachable-requires c =
    let zero : c.args.place ≡ 0 = c.in-None.ensures in
    let some = (block_at_place c.args.self.now c.args.place c.requires).not_null in omega (arith, zero, some)

pub dealloc_fast-requires : goal.dealloc_fast-requires
dealloc_fast-requires c =
    let e : non_zero_u32_get c.in-Some.index ≡ c.args.place = c.in-Some.ensures in
    let is = c.block_of-block.ensures ∙ ap block_of c.size.ensures in
    subst (λ r. Contains c.args.self.now.free.space.held r) (sym (ap₂ run e is)) (block_at_place c.args.self.now c.args.place c.requires).held

pub overflow_sub-self-2 : goal.overflow_sub-self-2
overflow_sub-self-2 c =
    let is : c.block_of-block.result ≡ block_of (counting_size_at c.args.self.now.memory c.args.place) = c.block_of-block.ensures ∙ ap block_of c.size.ensures in
    let enough = (block_at_place c.args.self.now c.args.place c.requires).enough in omega (arith, is, enough)

pub returns : goal.returns
returns c =
    let e : non_zero_u32_get c.in-Some.index ≡ c.args.place = c.in-Some.ensures in
    let is = c.block_of-block.ensures ∙ ap block_of c.size.ensures in
    gives c.args.self.now _ c.args.place c.requires
    (ap (λ n. record c.args.self.now { free = c.dealloc_fast.new.self; objects = c.args.self.now.objects - 1; allocated = c.args.self.now.allocated - n }) is)
    (c.dealloc_fast.ensures.given ∙ ap (λ r. give r c.args.self.now.free.space) (ap₂ run e is)) c.dealloc_fast.ensures.sound
