use Rattle.std.proofs.Common.{◌≡◌, ◌≤◌, ◌*◌, ◌%◌, length, arith}
use Rattle.gc_view.specs.Pages.{page, max_pages}
use Rattle.gc_heap.proofs.NullHeapLemmas.{replaces}
use Rattle.gc_heap.proofs.null.NullHeapGcHeap.replace_memory.Goals as goal

pub returns-clause-sound : goal.returns-clause-sound
returns-clause-sound c =
    let r = c.requires.taken in
    let whole : length c.args.memory % page ≡ 0 = omega (arith, c.pages-pages.ensures.size) in
    let bound : length c.args.memory ≤ page * max_pages = omega (arith, c.pages-pages.ensures.size, c.pages-pages.ensures.bound) in
    (replaces c.args.self.now r.0 r.1.0 c.args.memory c.args._delta_bytes_grown r.1.1.0 r.1.1.1 whole bound).sound

pub returns-clause-seen : goal.returns-clause-seen
returns-clause-seen c = λ view bytes taken is.
    let whole : length c.args.memory % page ≡ 0 = omega (arith, c.pages-pages.ensures.size) in
    let bound : length c.args.memory ≤ page * max_pages = omega (arith, c.pages-pages.ensures.size, c.pages-pages.ensures.bound) in
    (replaces c.args.self.now view bytes c.args.memory c.args._delta_bytes_grown taken is whole bound).seen
