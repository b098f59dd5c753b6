use Rattle.std.proofs.Common.{◌≡◌, ◌*◌, ◌%◌, ◌≤◌, length, refl, ap, ◌∙◌, arith}
use Rattle.gc_view.specs.Pages.{page, max_pages}
use Rattle.gc_free.specs.Space.{new_space}
use Rattle.gc_drc.proofs.GrowLemmas.{empty_sound, empty_seen}
use Rattle.gc_drc.proofs.space.CountedSpace.new.Goals as goal

pub returns-in-Ok-clause-sound : goal.returns-in-Ok-clause-sound
returns-in-Ok-clause-sound c =
    let size = c.pages-pages.ensures.size in
    let few = c.pages-pages.ensures.bound in
    let pages : length c.args.memory % page ≡ 0 = omega arith in
    let bound : length c.args.memory ≤ page * max_pages = omega arith in
    empty_sound _ (c.in-Ok.ensures.made ∙ ap new_space c.byte_size.ensures) c.in-Ok.ensures.sound pages bound refl refl refl refl

pub returns-in-Ok-clause-seen : goal.returns-in-Ok-clause-seen
returns-in-Ok-clause-seen c = λ scopes. empty_seen (record { memory = c.args.memory; free = c.in-Ok.free; shown = 0; queued = 0; objects = 0; allocated = 0 }) scopes (c.in-Ok.ensures.made ∙ ap new_space c.byte_size.ensures) refl
