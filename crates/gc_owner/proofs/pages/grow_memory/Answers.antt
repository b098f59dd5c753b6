use Rattle.std.proofs.Common.{◌+◌, ◌*◌, ◌<◌, ◌≤◌, refl, arith}
use Rattle.gc_view.specs.Pages.{max_pages, page}
use Rattle.gc_owner.specs.Growing.{pages_of}
use Rattle.gc_owner.proofs.GrowthLemmas.{asks_nobody, asks_refused, grows_memory, either_kept}
use Rattle.gc_owner.proofs.pages.grow_memory.Goals as goal

pub returns-then-added-from-clause-grown : goal.returns-then-added-from-clause-grown
returns-then-added-from-clause-grown g c =
    let above : max_pages < c.pages-from.result + c.asked_pages-added.result = omega (arith, c.pages-from.ensures.few, c.from.ensures, c.if-added-from.true) in (
      asks_nobody (pages_of (g.H.GcHeap.seen c.args.heap.now)) c.args.bytes c.pages-from.result c.asked_pages-added.result (g.L.ResourceLimiter.limits c.args.limiter.now) c.pages-from.ensures.pages c.asked_pages-added.ensures above,
      refl,
    )

pub returns-then-not-growing-clause-grown : goal.returns-then-not-growing-clause-grown
returns-then-not-growing-clause-grown g c =
    let within : c.pages-from.result + c.asked_pages-added.result ≤ max_pages = omega (arith, c.pages-from.ensures.few, c.from.ensures, c.if-added-from.false) in (
      asks_refused (pages_of (g.H.GcHeap.seen c.args.heap.now)) c.args.bytes c.pages-from.result c.asked_pages-added.result (g.L.ResourceLimiter.limits c.args.limiter.now) (g.L.ResourceLimiter.limits c.growing.new.self)
          c.pages-from.ensures.pages c.asked_pages-added.ensures within c.if-not-growing.ensures.by_limit c.if-not-growing.ensures.refused,
      refl,
    )

pub returns-clause-grown : goal.returns-clause-grown
returns-clause-grown g c =
    let within : c.pages-from.result + c.asked_pages-added.result ≤ max_pages = omega (arith, c.pages-from.ensures.few, c.from.ensures, c.if-added-from.false) in
    grows_memory g.H.GcHeap.KIND c.args.bytes c.pages-from.result c.asked_pages-added.result (g.H.GcHeap.seen c.args.heap.now) (g.H.GcHeap.seen c.extend.new.heap) (g.L.ResourceLimiter.limits c.args.limiter.now) (g.L.ResourceLimiter.limits c.growing.new.self)
    c.extend.result c.pages-from.ensures.pages c.asked_pages-added.ensures within c.if-not-growing.ensures.by_limit c.if-not-growing.ensures.granted c.extend.ensures.ok c.extend.ensures.err

pub returns-clause-keeps : goal.returns-clause-keeps
returns-clause-keeps g c = λ types roots hosts can.
    either_kept g.H.GcHeap.KIND types (g.H.GcHeap.seen c.args.heap.now) (g.H.GcHeap.seen c.extend.new.heap) (page * c.asked_pages-added.result) _ c.extend.result _ roots hosts c.extend.ensures.ok c.extend.ensures.err can
