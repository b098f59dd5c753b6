use Rattle.std.proofs.Common.{◌≡◌, ◌-◌, ◌≤◌, ℕ, List, Some, length, sym, ap, ◌∙◌, subst, arith}
use Rattle.std.proofs.lemmas.Option.{get_or_from_slice_get}
use Rattle.std.specs.List.{slice_get}
use Rattle.std.specs.Vec.{vec_len}
use Rattle.gc_owner.specs.RootColumns.{RootsView, newest_start}
use Rattle.gc_owner.proofs.FrameLemmas.{frame_within}
use Rattle.gc_owner.proofs.roots.Roots.slot_count.Goals as goal

pub overflow_sub-result : goal.overflow_sub-result
overflow_sub-result c =
    let frames : List ℕ = c.self.inside.frames.items in
    let at : slice_get frames (length frames - 1) ≡ Some c.in_ok-start.start.now = subst (λ (fs : List ℕ). slice_get fs (length fs - 1) ≡ Some c.in_ok-start.start.now) c.deref.ensures.value (sym c.in_ok-start.ensures.value) in
    let within : c.in_ok-start.start.now ≤ vec_len c.self.inside.slots = frame_within frames (vec_len c.self.inside.slots) (length frames - 1) c.in_ok-start.start.now c.self.invariant.5 at in
    omega (arith, c.len.ensures)

pub returns-clause-count : goal.returns-clause-count
returns-clause-count c =
    let frames : List ℕ = c.self.inside.frames.items in
    let at : slice_get frames (length frames - 1) ≡ Some c.in_ok-start.start.now = subst (λ (fs : List ℕ). slice_get fs (length fs - 1) ≡ Some c.in_ok-start.start.now) c.deref.ensures.value (sym c.in_ok-start.ensures.value) in
    let within : c.in_ok-start.start.now ≤ vec_len c.self.inside.slots = frame_within frames (vec_len c.self.inside.slots) (length frames - 1) c.in_ok-start.start.now c.self.invariant.5 at in
    let newest : newest_start c.args.self.now ≡ c.in_ok-start.start.now = ap newest_start (sym c.self.view_is) ∙ get_or_from_slice_get frames (length frames - 1) c.in_ok-start.start.now 0 at in
    let slots : length c.self.inside.slots.items ≡ length c.args.self.now.slots = ap (λ (r : RootsView). length r.slots) c.self.view_is in
    omega (arith, c.len.ensures, c.self.inside.slots.ok.0)
