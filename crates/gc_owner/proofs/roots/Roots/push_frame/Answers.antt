use Rattle.std.proofs.Common.{◌≡◌, ◌+◌, ◌++◌, ◌∷◌, [], List, ℕ, sym, ap₂, ◌∙◌, subst, arith}
use Rattle.std.specs.Vec.{vec_len}
use Rattle.gc_owner.specs.RootColumns.{AreFrames}
use Rattle.gc_owner.proofs.FrameLemmas.{frames_more}
use Rattle.gc_owner.proofs.roots.Roots.push_frame.Goals as goal

pub invariant_of-self-2 : goal.invariant_of-self-2
invariant_of-self-2 c =
    let count = c.in_ok-resize.ensures.len in
    let starts : c.push_reserved.new.self.items ≡ c.self.inside.frames.items ++ vec_len c.self.inside.slots ∷ [] =
    c.push_reserved.ensures.items ∙ ap₂ (λ (fs : List ℕ) (n : ℕ). fs ++ n ∷ []) c.reserve-2.ensures.items c.len-start.ensures in
    let end : vec_len c.resize.new.self ≡ vec_len c.self.inside.slots + c.args.slots = omega (arith, count, c.len-start.ensures) in (
      λ is. (c.reserve.ensures.roots ∙ (c.self.invariant.0 is).0, (c.self.invariant.0 is).1),
      λ places. omega (arith, c.in_ok-reserve.ensures.room, c.len.ensures, c.len-2.ensures, c.len-start.ensures, end),
      c.self.invariant.2,
      c.self.invariant.3,
      c.self.invariant.4,
      subst (λ (fs : List ℕ). AreFrames fs (vec_len c.resize.new.self)) (sym starts)
          (subst (AreFrames (c.self.inside.frames.items ++ vec_len c.self.inside.slots ∷ [])) (sym end) (frames_more c.self.inside.frames.items (vec_len c.self.inside.slots) c.args.slots c.self.invariant.5)),
      c.self.invariant.6,
    )
