use Rattle.std.proofs.Common.{◌≡◌, ◌*◌, ◌≤◌, ◌%◌, false, sym, subst, length, arith}
use Rattle.gc_view.specs.Pages.{page, max_pages}
use Rattle.gc_copying.specs.Content.{IsSpace}
use Rattle.gc_copying.proofs.GrowLemmas.{empty_space}
use Rattle.gc_copying.proofs.space.Space.new.Goals as goal

pub returns-clause-sound : goal.returns-clause-sound
returns-clause-sound c =
    let n = length c.args.memory in
    let bound : n ≤ page * max_pages = omega (arith, c.pages-pages.ensures.size, c.pages-pages.ensures.bound) in
    let pages : n % 65536 ≡ 0 = omega (arith, c.pages-pages.ensures.size) in
    subst (λ k. IsSpace c.args.memory false k 0 0) (sym c.first_bump-bump.ensures) (empty_space c.args.memory bound pages).space
