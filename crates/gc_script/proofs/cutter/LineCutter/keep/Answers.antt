use Rattle.std.proofs.Common.{◌≤◌, refl, ap, ◌∙◌, min, ◌-◌, length, subst}
use Rattle.gc_script.specs.Cutting.{longer}
use Rattle.gc_script.proofs.CutLemmas.{kept_all, kept_over}
use Rattle.gc_script.proofs.cutter.LineCutter.keep.Goals as goal

pub returns-then-front-bytes-clause-kept : goal.returns-then-front-bytes-clause-kept
returns-then-front-bytes-clause-kept c =
    kept_over 1048576 c.min.result (record { bytes = c.self.inside.kept.items; is_long = c.self.inside.is_long }) c.args.bytes.now refl (subst (λ n. n ≤ 1048576) c.self.inside.kept.ok.0 c.self.invariant)
    (c.min.ensures ∙ ap (λ n. min (length c.args.bytes.now) (1048576 - n)) (c.len-room.ensures ∙ c.self.inside.kept.ok.0))
    c.if-front-bytes.true c.extend_from_slice.new.self.items c.in_ok-extend_from_slice.ensures.items ∙ ap (λ line. longer line c.args.bytes.now) c.self.view_is

pub returns-else-front-bytes-clause-kept : goal.returns-else-front-bytes-clause-kept
returns-else-front-bytes-clause-kept c =
    kept_all 1048576 c.min.result (record { bytes = c.self.inside.kept.items; is_long = c.self.inside.is_long }) c.args.bytes.now refl (subst (λ n. n ≤ 1048576) c.self.inside.kept.ok.0 c.self.invariant)
    (c.min.ensures ∙ ap (λ n. min (length c.args.bytes.now) (1048576 - n)) (c.len-room.ensures ∙ c.self.inside.kept.ok.0))
    c.if-front-bytes.false c.extend_from_slice.new.self.items c.in_ok-extend_from_slice.ensures.items ∙ ap (λ line. longer line c.args.bytes.now) c.self.view_is
