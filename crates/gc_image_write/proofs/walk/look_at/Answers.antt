use Rattle.std.proofs.Common.{◌≡◌, Some, length, refl, sym, ap, ◌∙◌}
use Rattle.std.proofs.lemmas.Option.{slice_get_read}
use Rattle.gc_image_write.specs.Walking.{walk_parts}
use Rattle.gc_image_write.proofs.StackLemmas.{step_known, step_opened}
use Rattle.gc_image_write.proofs.WalkLemmas.{goes_past, needed_opened, same_numbered, walk_tangled}
use Rattle.gc_image_write.proofs.walk.look_at.Goals as goal

pub returns-in-Open-clause-went : goal.returns-in-Open-clause-went
returns-in-Open-clause-went c = λ early is needed.
    let marks = c.args.walk.now.marks.items in
    walk_tangled early (walk_parts c.args.walk.now) c.args.frame is c.args.needed needed
    (slice_get_read marks (length marks) c.args.needed c.index.result.now refl c.requires.below c.index.ensures ∙ ap Some c.in-Open.is)

pub returns-in_ok-open-in-Unseen-clause-went : goal.returns-in_ok-open-in-Unseen-clause-went
returns-in_ok-open-in-Unseen-clause-went c = λ early is needed.
    let marks = c.args.walk.now.marks.items in
    needed_opened early (walk_parts c.args.walk.now) c.args.frame is (walk_parts c.wait.new.walk) (walk_parts c.open.new.walk) c.args.needed c.in_ok-wait-in-Unseen.ensures c.in_ok-open-in-Unseen.ensures
    (slice_get_read marks (length marks) c.args.needed c.index.result.now refl c.requires.below c.index.ensures ∙ ap Some c.in-Unseen.is) needed

pub returns-in_ok-wait_further-in-Numbered-clause-went : goal.returns-in_ok-wait_further-in-Numbered-clause-went
returns-in_ok-wait_further-in-Numbered-clause-went c = λ early is needed.
    let marks = c.args.walk.now.marks.items in
    let there = slice_get_read marks (length marks) c.args.needed c.index.result.now refl c.requires.below c.index.ensures ∙ ap Some c.in-Numbered.is in
    goes_past early (walk_parts c.args.walk.now) c.args.frame is (walk_parts c.wait_further.new.walk) c.in_ok-wait_further-in-Numbered.ensures
    (λ y named. let both : Some c.args.needed ≡ Some y = sym needed ∙ named in same_numbered marks c.args.needed y both there)

pub returns-in_ok-open-in-Unseen-clause-leads : goal.returns-in_ok-open-in-Unseen-clause-leads
returns-in_ok-open-in-Unseen-clause-leads c = λ early counts is needed low went.
    let marks = c.args.walk.now.marks.items in
    step_opened early counts (walk_parts c.args.walk.now) c.args.frame is (walk_parts c.wait.new.walk) (walk_parts c.open.new.walk) c.args.needed c.in_ok-wait-in-Unseen.ensures c.in_ok-open-in-Unseen.ensures low needed
    (slice_get_read marks (length marks) c.args.needed c.index.result.now refl c.requires.below c.index.ensures ∙ ap Some c.in-Unseen.is)

pub returns-in_ok-wait_further-in-Numbered-clause-leads : goal.returns-in_ok-wait_further-in-Numbered-clause-leads
returns-in_ok-wait_further-in-Numbered-clause-leads c = λ early counts is needed low went.
    let marks = c.args.walk.now.marks.items in
    step_known early counts (walk_parts c.args.walk.now) c.args.frame is (walk_parts c.wait_further.new.walk) c.args.needed c.in_ok-wait_further-in-Numbered.ensures low needed
    (slice_get_read marks (length marks) c.args.needed c.index.result.now refl c.requires.below c.index.ensures ∙ ap Some c.in-Numbered.is)
