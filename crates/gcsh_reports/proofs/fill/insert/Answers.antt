use Rattle.std.proofs.Common.{ℕ, ap, refl, subst, sym, ◌≡◌, ◌∙◌, Result, Ok, Err, w64}
use Rattle.std.proofs.lemmas.Int.{to_z-of_z}
use Rattle.gc_model.specs.Stores.{StoreView}
use Rattle.gc_store.specs.Stores.{IsSameStore}
use Rattle.gc_lists.specs.declared.fault.ListFault.{ListFault}
use Rattle.gc_lists.specs.declared.fault.ListFault.TheVariants as fault
use Rattle.gc_maps.specs.Maps.{IntMap}
use Rattle.gc_maps.specs.declared.map.HeapMap.{HeapMap}
use Rattle.gcsh_reports.specs.declared.fill.Filled.{Filled}
use Rattle.gcsh_reports.specs.Filling.{HoldsProgress, HoldsWithin, Inserts, progress_of}
use Rattle.gcsh_reports.proofs.FillLemmas.{gives_up_as, goes_refused, goes_taken, inserts_as, never_foreign, taken_within, wants_within}
use Rattle.gcsh_reports.proofs.fill.insert.Given as given
use Rattle.gcsh_reports.proofs.fill.insert.Goals as goal
use Rattle.gcsh_reports.proofs.fill.insert.Goals.{After-insert}

-- what the insert answers
answered : (g : given.Over) (c : After-insert g) (m : IntMap) → HoldsProgress g.H.GcHeap.KIND (g.L.ResourceLimiter.limits c.args.limiter.now).limit c.args.kit.now (progress_of c.args.store.now (g.L.ResourceLimiter.limits c.args.limiter.now) c.args.filled m)
    → (known : Result HeapMap ListFault) → c.insert.result ≡ known
    → Inserts g.H.GcHeap.KIND (g.L.ResourceLimiter.limits c.args.limiter.now).limit c.args.kit.now c.args.key c.args.value (progress_of c.args.store.now (g.L.ResourceLimiter.limits c.args.limiter.now) c.args.filled m) known (g.L.ResourceLimiter.limits c.insert.new.limiter) c.insert.new.store
answered g c m held known is =
    inserts_as g.H.GcHeap.KIND (g.L.ResourceLimiter.limits c.args.limiter.now).limit c.args.kit.now (progress_of c.args.store.now (g.L.ResourceLimiter.limits c.args.limiter.now) c.args.filled m) held c.args.key c.args.value _ _ (to_z-of_z w64 c.args.key c.ranges.key) (to_z-of_z w64 c.args.value c.ranges.value)
    (g.L.ResourceLimiter.limits c.insert.new.limiter) c.insert.ensures.limit c.insert.result known c.insert.new.store c.insert.ensures.inserts is

pub returns-in-Ok-release-clause-goes : goal.returns-in-Ok-release-clause-goes
returns-in-Ok-release-clause-goes g c = λ m held.
    let all : IsSameStore c.args.store.now c.release.new.store = search in
    goes_taken g.H.GcHeap.KIND (g.L.ResourceLimiter.limits c.args.limiter.now).limit c.args.kit.now (progress_of c.args.store.now (g.L.ResourceLimiter.limits c.args.limiter.now) c.args.filled m) held c.args.key c.args.value (g.L.ResourceLimiter.limits c.insert.new.limiter) c.release.new.store c.in-Ok.map c.insert.new.store c.insert.ensures.same all c.release.ensures.same
    (answered g (goal.at.returns-in-Ok-release-clause-goes g c).After-insert m held (Ok c.in-Ok.map) c.in-Ok.is)
    (gives_up_as g.H.GcHeap.KIND c.insert.new.store c.release.new.store c.args.filled.map.root c.release.result _ c.release.ensures.releases c.in-Ok-release.is)
    (record { map = c.in-Ok.map; refused = c.args.filled.refused }) refl refl

pub returns-in-Err-RootsFull-clause-goes : goal.returns-in-Err-RootsFull-clause-goes
returns-in-Err-RootsFull-clause-goes g c = λ m held.
    goes_refused g.H.GcHeap.KIND (g.L.ResourceLimiter.limits c.args.limiter.now).limit c.args.kit.now (progress_of c.args.store.now (g.L.ResourceLimiter.limits c.args.limiter.now) c.args.filled m) held c.args.key c.args.value (g.L.ResourceLimiter.limits c.insert.new.limiter) c.insert.new.store fault.RootsFull tt c.insert.ensures.same
    (answered g (goal.at.returns-in-Err-RootsFull-clause-goes g c).After-insert m held (Err fault.RootsFull) (c.in-Err-RootsFull.is ∙ ap (λ (f : ListFault). Err f) c.in-Err-RootsFull.field-0-is))
    c.count_refusal.result (ap (λ (f : Filled). f.map.root) c.count_refusal.ensures) (ap (λ (f : Filled). f.refused) c.count_refusal.ensures)

pub returns-in-Err-HeapOutOfMemory-clause-goes : goal.returns-in-Err-HeapOutOfMemory-clause-goes
returns-in-Err-HeapOutOfMemory-clause-goes g c = λ m held.
    let why = fault.HeapOutOfMemory c.in-Err-HeapOutOfMemory.field-0-0 in
    goes_refused g.H.GcHeap.KIND (g.L.ResourceLimiter.limits c.args.limiter.now).limit c.args.kit.now (progress_of c.args.store.now (g.L.ResourceLimiter.limits c.args.limiter.now) c.args.filled m) held c.args.key c.args.value (g.L.ResourceLimiter.limits c.insert.new.limiter) c.insert.new.store why tt c.insert.ensures.same
    (answered g (goal.at.returns-in-Err-HeapOutOfMemory-clause-goes g c).After-insert m held (Err why) (c.in-Err-HeapOutOfMemory.is ∙ ap (λ (f : ListFault). Err f) c.in-Err-HeapOutOfMemory.field-0-is))
    c.count_refusal-in-Err-HeapOutOfMemory.result (ap (λ (f : Filled). f.map.root) c.count_refusal-in-Err-HeapOutOfMemory.ensures)
    (ap (λ (f : Filled). f.refused) c.count_refusal-in-Err-HeapOutOfMemory.ensures)

-- the map before was another store's, which can't be
pub returns-in-Err-clause-wants : goal.returns-in-Err-clause-wants
returns-in-Err-clause-wants g c =
    let held = c.requires.held in
    subst (λ (s : StoreView ℕ). HoldsWithin g.H.GcHeap.KIND (g.L.ResourceLimiter.limits c.args.limiter.now).limit s) (sym c.in-Err.ensures.err)
    (taken_within g.H.GcHeap.KIND (g.L.ResourceLimiter.limits c.args.limiter.now).limit c.args.kit.now (progress_of c.args.store.now (g.L.ResourceLimiter.limits c.args.limiter.now) c.args.filled held.0) held.1 c.args.key c.args.value (g.L.ResourceLimiter.limits c.insert.new.limiter) c.insert.new.store c.in-Ok.map
    (answered g (goal.at.returns-in-Err-clause-wants g c).After-insert held.0 held.1 (Ok c.in-Ok.map) c.in-Ok.is))

pub returns-in-Err-WrongStore-clause-wants : goal.returns-in-Err-WrongStore-clause-wants
returns-in-Err-WrongStore-clause-wants g c =
    let held = c.requires.held in
    absurd (never_foreign g.H.GcHeap.KIND (g.L.ResourceLimiter.limits c.args.limiter.now).limit c.args.kit.now (progress_of c.args.store.now (g.L.ResourceLimiter.limits c.args.limiter.now) c.args.filled held.0) held.1 c.args.key c.args.value (g.L.ResourceLimiter.limits c.insert.new.limiter) c.insert.new.store
    (answered g (goal.at.returns-in-Err-WrongStore-clause-wants g c).After-insert held.0 held.1 (Err fault.WrongStore) (c.in-Err-WrongStore.is ∙ ap (λ (f : ListFault). Err f) c.in-Err-WrongStore.field-0-is)))

pub returns-in-Err-Memory-clause-wants : goal.returns-in-Err-Memory-clause-wants
returns-in-Err-Memory-clause-wants g c =
    let held = c.requires.held in
    wants_within g.H.GcHeap.KIND (g.L.ResourceLimiter.limits c.args.limiter.now).limit c.args.kit.now (progress_of c.args.store.now (g.L.ResourceLimiter.limits c.args.limiter.now) c.args.filled held.0) held.1 c.args.key c.args.value (g.L.ResourceLimiter.limits c.insert.new.limiter) c.insert.new.store
    (answered g (goal.at.returns-in-Err-Memory-clause-wants g c).After-insert held.0 held.1 (Err fault.Memory) (c.in-Err-Memory.is ∙ ap (λ (f : ListFault). Err f) c.in-Err-Memory.field-0-is))
