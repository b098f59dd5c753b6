use Rattle.std.proofs.Common.{inl, refl}
use Rattle.gc_owner.specs.Owners.{Kind, heap_kind}
use Rattle.gc_store.proofs.Suspending.{asks, waits_trimmed}
use Rattle.gc_store.proofs.suspended.Suspended.new.Given.{Over}
use Rattle.gc_store.specs.Stores.{tables_of}
use Rattle.gc_store.proofs.suspended.Suspended.new.Goals as goal

abbrev kind : (g : Over) → Kind g.row.H.Denot g.row.H-State.Denot
kind g = heap_kind g.H.GcHeap.KIND g.H.GcHeap.seen g.H.GcHeap.sound g.H.GcHeap.under_way

pub invariant_of-result : goal.invariant_of-result
invariant_of-result g c =
    waits_trimmed (kind g) c.store.inside.id c.store.inside.config (tables_of c.store.inside.interned c.store.inside.asked) c.store.inside.tries c.store.inside.slot_counts.items c.store.inside.owner c.trim_made.new.owner
    c.store.invariant c.trim_made.ensures.frames c.trim_made.ensures.made c.trim_made.ensures.unmade

pub returns : goal.returns
returns g c = inl (
  refl,
  asks (kind g) c.store.inside.id c.store.inside.config (tables_of c.store.inside.interned c.store.inside.asked) c.store.inside.tries c.args.store c.store.inside.owner c.trim_made.new.owner
      c.store.view_is c.trim_made.ensures.frames c.trim_made.ensures.heap c.trim_made.ensures.made c.trim_made.ensures.unmade,
)
