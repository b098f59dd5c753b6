use Rattle.std.proofs.Common.{arith, ◌≡◌, ◌<◌, ap, sym, ◌∙◌, length, subst}
use Rattle.std.specs.List.{remove}
use Rattle.std.specs.Int.NonZero.{non_zero_u32_get}
use Rattle.gc_free.specs.Runs.{without, begins_at, IsSpread}
use Rattle.gc_free.specs.Space.{places_end}
use Rattle.gc_free.proofs.ByLength.{In}
use Rattle.gc_free.proofs.Shortest.{In-get_or}
use Rattle.gc_free.proofs.Taking.{remove_by_is_without}
use Rattle.gc_free.proofs.TwoOrdersKept.{remove_is_by_place}
use Rattle.test_leaves.proofs.tracked.Tracked.give.Goals as goal

pub invariant_of-self : goal.invariant_of-self
invariant_of-self c =
    let s = c.args.self.now.list.space in
    let xs = c.args.self.now.held.items in
    let i = c.args.index in
    let b = c.index-block.result.now in
    let sound = c.current_capacity.ensures.sound in
    let l : i < length xs = omega arith in
    let spread : IsSpread 16 (places_end s.capacity) xs = rw c.args.self.now.same sound.blocks in
    let in' : In b xs = subst (λ z. In z xs) (sym c.index-block.ensures) (In-get_or xs i b l) in
    let taken : remove xs i ≡ without (begins_at b.place) xs =
    remove_is_by_place 16 (places_end s.capacity) i xs b spread l c.index-block.ensures ∙ remove_by_is_without b 16 (places_end s.capacity) xs spread in' in
    let number : non_zero_u32_get c.in-Some.place ≡ b.place = c.in-Some.ensures in
    let held : c.dealloc_fast.new.self.space.held ≡ without (begins_at b.place) s.held =
    ap (λ z. z.held) c.dealloc_fast.ensures.given ∙ ap (λ p. without (begins_at p) s.held) number in
    record { same = c.remove.ensures.items ∙ taken ∙ ap (without (begins_at b.place)) c.args.self.now.same ∙ sym held }
