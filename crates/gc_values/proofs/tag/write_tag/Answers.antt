use Rattle.std.proofs.Common.{ap, ◌∙◌}
use Rattle.gc_owner.specs.Owners.{OwnerView}
use Rattle.gc_values.specs.Filling.{RewritesTo}
use Rattle.gc_values.specs.Tagging.{IsExceptionAt}
use Rattle.gc_values.proofs.TagLemmas.{FirstWord, first_bytes, first_written, exception_again, tagged}
use Rattle.gc_values.proofs.tag.write_tag.Given as given
use Rattle.gc_values.proofs.tag.write_tag.Goals as goal
use Rattle.gc_values.proofs.tag.write_tag.Goals.{After-write_front}

-- the first word was written
first : (g : given.Over) (c : After-write_front g) (e : IsExceptionAt c.args.owner.now.seen c.args.gc_ref.now)
    → RewritesTo (FirstWord c.args.tag) c.args.owner.now.seen c.write_front.new.owner.seen c.args.gc_ref.now e.object
    (first_bytes g.H.GcHeap.KIND c.args.owner.now.seen c.write_front.new.owner.seen c.args.gc_ref.now e c.is_ready.ensures.can c.args.tag)
first g c e =
    first_written g.H.GcHeap.KIND c.args.owner.now.seen c.write_front.new.owner.seen c.args.gc_ref.now e c.is_ready.ensures.can c.args.tag c.write_front.ensures.small c.write_front.ensures.writes

pub write_front-requires-2-clause-idle : goal.write_front-requires-2-clause-idle
write_front-requires-2-clause-idle g c =
    let at = (goal.at.write_front-requires-2-clause-idle g c).After-write_front in
    ap (λ (v : OwnerView g.row.D.Denot). v.idle) (first g at c.requires.held).rest ∙ c.requires.idle

pub write_front-requires-2-clause-held : goal.write_front-requires-2-clause-held
write_front-requires-2-clause-held g c =
    let at = (goal.at.write_front-requires-2-clause-held g c).After-write_front in
    exception_again c.args.owner.now.seen c.write_front.new.owner.seen c.args.gc_ref.now c.requires.held _ (first g at c.requires.held)

pub returns : goal.returns
returns g c = λ e.
    let at = (goal.at.returns g c).After-write_front in
    tagged g.H.GcHeap.KIND c.args.owner.now.seen c.write_front.new.owner.seen c.args.gc_ref.now e c.is_ready.ensures.can c.args.tag c.write_front-2.new.owner.seen (first g at e) c.write_front-2.ensures.small c.write_front-2.ensures.writes
