use Rattle.std.proofs.Common.{◌≡◌, sym, subst, arith, ℕ, List}
use Rattle.std.specs.Vec.{vec_len}
use Rattle.gc_owner.specs.RootColumns.{AreFrames}
use Rattle.gc_owner.proofs.FrameLemmas.{frames_less}
use Rattle.gc_owner.proofs.roots.Roots.pop_frame.Goals as goal

pub invariant_of-self : goal.invariant_of-self
invariant_of-self c =
    let less = frames_less c.pop.new.self.items c.in-Some.start (vec_len c.self.inside.slots) (subst (λ (fs : List ℕ). AreFrames fs (vec_len c.self.inside.slots)) c.in-Some.ensures.items c.self.invariant.5) in
    let end : vec_len c.truncate.new.self ≡ c.in-Some.start = omega (arith, c.truncate.ensures.len, less.1) in
    (c.self.invariant.0, λ places. omega (arith, c.self.invariant.1 places, c.truncate.ensures.len), c.self.invariant.2, c.self.invariant.3, c.self.invariant.4, subst (AreFrames c.pop.new.self.items) (sym end) less.0, c.self.invariant.6)
