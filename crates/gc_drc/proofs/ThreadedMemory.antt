-- The lists of a heap are threaded through its headers.
use Rattle.std.proofs.Common.{ℕ, refl, ap, [], arith}
use Rattle.gc_view.specs.Heaps.{Counts, detached_in}
use Rattle.gc_drc.specs.declared.space.CountedSpace.{CountedSpace}
use Rattle.gc_drc.specs.View as view
use Rattle.gc_drc.specs.Content.{counting_seen_in, IsSoundSpace}
use Rattle.gc_drc.proofs.CountsSeen.{counts_are}
use Rattle.gc_drc.specs.ThreadedLists.{ThreadsLists}

pub threads_lists : (s : CountedSpace) (scopes : ℕ) → IsSoundSpace s → ThreadsLists (counting_seen_in scopes s) s.memory
threads_lists s scopes sound = record {
  shown = record {
    list = sound.view.shown;
    are = ap (λ (c : Counts). c.shown) (counts_are sound.view s sound.holds);
    once = sound.holds.shown_part.once;
    first = s.shown;
    linked = sound.holds.shown_linked;
  };
  queued = record {
    list = sound.view.queue;
    are = ap (λ (c : Counts). c.queued) (counts_are sound.view s sound.holds);
    once = sound.holds.queue_part.once;
    first = s.queued;
    linked = sound.holds.queue_linked;
  };
}

-- no memory has no lists
pub threads_none : (scopes : ℕ) → ThreadsLists (detached_in scopes) []
threads_none scopes = record {
  shown = record { list = []; are = refl; once = λ place. omega arith; first = 0; linked = view.last };
  queued = record { list = []; are = refl; once = λ place. omega arith; first = 0; linked = view.last };
}
