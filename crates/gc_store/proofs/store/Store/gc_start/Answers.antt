use Rattle.std.proofs.Common.{true, ap, ◌∙◌, subst}
use Rattle.gc_owner.specs.Owners.{heap_kind}
use Rattle.gc_model.specs.Stores.{StoreView}
use Rattle.gc_store.specs.Collectings.{IsOpen, spent_from}
use Rattle.gc_store.proofs.store.Store.gc_start.Goals as goal

pub returns-clause-starts : goal.returns-clause-starts
returns-clause-starts g c =
    subst (λ (s : StoreView g.row.D.Denot). IsOpen (heap_kind g.H.GcHeap.KIND g.H.GcHeap.seen g.H.GcHeap.sound g.H.GcHeap.under_way) s 0 true c.new-inside.result) c.replace.ensures.value c.new-inside.ensures

pub returns-clause-place : goal.returns-clause-place
returns-clause-place g c = c.replace.ensures.after ∙ c.spent-spent.ensures.seen ∙ ap spent_from c.self.view_is
