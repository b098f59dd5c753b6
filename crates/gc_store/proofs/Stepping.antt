-- An increment of a store that was taken out of its place.
use Rattle.std.proofs.Common.{◌≡◌, ℕ, ◌+◌, inl, inr, Bool, true, false, List, refl, sym, ap, ◌∙◌, subst, arith}
use Rattle.gc_heap.specs.Collection.{Start, IsIncrements}
use Rattle.gc_heap.specs.declared.collection.GcProgress.{GcProgress}
use Rattle.gc_heap.specs.declared.collection.GcProgress.TheVariants as progress
use Rattle.gc_owner.specs.Counting.{CountsSteps}
use Rattle.gc_owner.specs.Owners.{OwnerValue, Kind, Increments, IsOwnerUnderWay}
use Rattle.gc_model.specs.Stores.{StoreView}
use Rattle.gc_model.specs.Holds.{HoldsTable}
use Rattle.gc_values.specs.declared.engine.StoreId.{StoreId}
use Rattle.gc_values.specs.declared.config.HeapConfig.{HeapConfig}
use Rattle.gc_store.specs.Suspensions.{SuspendedView, IsSuspended, waits, goes, is_over}
use Rattle.gc_store.specs.Stores.{StoreTables}
use Rattle.gc_store.specs.Collectings.{IsAsked, IsRunning, IsOpen, IsClosed, DoesIncrement, CountsCollection, GivesStore, IsCollected}
use Rattle.gc_store.proofs.Incrementing.{takes_exactly}
use Rattle.gc_store.proofs.ReachedWords.{increments_taken}
use Rattle.gc_store.proofs.Suspending.{with_owner, store_of, still_sound, still_was, closes, closes_unmade, sound_ended}

module _ {H S D : Type 0} (k : Kind H S) (id : StoreId) (config : HeapConfig) (tables : StoreTables) (tries : ℕ) where
  -- so the store stays sound
  pub step_suspended : (counts : List ℕ) (v w : OwnerValue H S D) (b : Bool) (answer : GcProgress) → IsSuspended k counts (with_owner k id config tables tries v b) → (v.seen.idle ≡ true → w ≡ v)
      → ((s : Start) (n : ℕ) (c : Bool) (from : OwnerValue H S D) → IsOwnerUnderWay k s n c from v → Increments k s (n + 1) from w answer) → IsSuspended k counts (with_owner k id config tables tries w b)
  step_suspended counts v w b answer (waits begun sound trimmed) same steps = subst (λ (x : OwnerValue H S D). IsSuspended k counts (with_owner k id config tables tries x b)) (sym (same sound.idle)) (waits begun sound trimmed)
  step_suspended counts v w b answer (is_over begun sound) same steps = subst (λ (x : OwnerValue H S D). IsSuspended k counts (with_owner k id config tables tries x b)) (sym (same sound.idle)) (is_over begun sound)
  step_suspended counts v w b answer (goes begun is) same steps = by answer (steps is.start is.done is.counted is.from is.way)
    where
      by : (a : GcProgress) → Increments k is.start (is.done + 1) is.from w a → IsSuspended k counts (with_owner k id config tables tries w b)
      by progress.Complete did = is_over begun (sound_ended k id config tables tries counts is.from.seen w.seen (still_sound k id config tables tries counts v.seen w.seen is.from.seen is.began) did.1)
      by progress.Continue did = goes begun (record {
        from = is.from;
        began = still_sound k id config tables tries counts v.seen w.seen is.from.seen is.began;
        start = is.start;
        done = is.done + 1;
        counted = false;
        way = did.1;
      })

  -- and an increment of a collection that is under way is one of the store's
  pub steps_store : (old : StoreView D) (n : ℕ) (counted : Bool) (v w : OwnerValue H S D) (b : Bool) (answer : GcProgress) (is : IsRunning k old n counted (with_owner k id config tables tries v b)) → Increments k is.at (n + 1) is.from w answer
      → (answer ≡ progress.Complete → w.seen.idle ≡ true) → DoesIncrement k old (n + 1) (with_owner k id config tables tries w b) answer
  steps_store old n counted v w b progress.Complete is did idle = (
    closes k id config tables tries old n counted v w b is did.1 (idle refl),
    λ t made holds.
        takes_exactly k.layouts (store_of k id config tables tries v.seen) t is.from.seen is.way.trimmed.seen w.seen (n + 1) (subst (λ (s : StoreView D). HoldsTable k.layouts s t) (sym is.was.shows) holds)
        is.was.in_frames is.was.is_heap is.was.attached is.way.trims did.1 (subst (λ (s : Start). IsIncrements k.layouts s (n + 1)) is.way.going.start did.0),
  )
  steps_store old n counted v w b progress.Continue is did idle = (
    inr (
      omega arith,
      record {
        begun = is.begun;
        from = is.from;
        was = still_was k id config tables tries old v.seen w.seen is.from.seen is.was;
        at = is.at;
        way = did.1;
      },
    ),
    λ t holds number takes.
        did.0 number (subst (λ (s : Start). IsIncrements k.layouts s number) (sym is.way.going.start)
        (increments_taken k.layouts (store_of k id config tables tries v.seen) t is.from.seen is.way.trimmed.seen (subst (λ (s : StoreView D). HoldsTable k.layouts s t) (sym is.was.shows) holds)
        is.was.in_frames is.was.attached is.way.trims number takes)),
  )

-- the steps of a collection that is under way are those of the store's
pub counts_run : {H S D : Type 0} (k : Kind H S) (old : StoreView D) (n : ℕ) (counted : Bool) (c : SuspendedView H S D) (earlier before after : ℕ) (is : IsRunning k old n counted c) → CountsSteps k.layouts is.at earlier before after → CountsCollection k.layouts old earlier before after
counts_run k old n counted c earlier before after is counts = record {
  from = is.from.seen;
  now = c.store;
  was = is.was;
  trimmed = is.way.trimmed.seen;
  trims = is.way.trims;
  counts = subst (λ (s : Start). CountsSteps k.layouts s earlier before after) is.way.going.start counts;
}

-- a collection was begun where it wasn't and the heap is made
pub record Begins {H S D : Type 0} (k : Kind H S) (c m : SuspendedView H S D) : Type 0 where
  pub idle : c.begun ≡ false → c.owner.seen.idle ≡ true
  pub begins : (old : StoreView D) → IsAsked k old c → old.heap.attached ≡ true → IsRunning k old 0 true m
  pub unmade : (old : StoreView D) → IsAsked k old c → old.heap.attached ≡ false → m ≡ record c { begun = true }
  pub same : c.begun ≡ true → m ≡ c

module _ {H S D : Type 0} (k : Kind H S) (c m w : SuspendedView H S D) (is : Begins k c m) where
  increments_asked : (old : StoreView D) (answer : GcProgress) → ((counted : Bool) → IsRunning k old 0 counted m → DoesIncrement k old (0 + 1) w answer) → (m.owner.seen.idle ≡ true → (answer ≡ progress.Complete) × (w ≡ m))
      → IsAsked k old c → DoesIncrement k old (0 + 1) w answer
  increments_asked old answer steps none asked = by old.heap.attached refl
    where
      by : (b : Bool) → old.heap.attached ≡ b → DoesIncrement k old (0 + 1) w answer
      by true made = steps true (is.begins old asked made)
      by false unmade =
          let same = is.unmade old asked unmade in
          let idle = is.idle asked.begun in
          let stays = none (ap (λ (x : SuspendedView H S D). x.owner.seen.idle) same ∙ idle) in
          subst (DoesIncrement k old (0 + 1) w) (sym stays.0) (
            subst (IsClosed k old) (sym (stays.1 ∙ same)) (closes_unmade k old c asked unmade idle),
            λ t made holds. absurd (cc (sym made ∙ unmade)),
          )

  pub increments_open : (old : StoreView D) (done : ℕ) (counted : Bool) (answer : GcProgress)
      → ((n : ℕ) (b : Bool) → IsRunning k old n b m → DoesIncrement k old (n + 1) w answer) → (m.owner.seen.idle ≡ true → (answer ≡ progress.Complete) × (w ≡ m))
      → IsOpen k old done counted c → DoesIncrement k old (done + 1) w answer
  increments_open old done counted answer steps none (inl (first, asked)) =
      subst (λ (n : ℕ). DoesIncrement k old (n + 1) w answer) (sym first) (increments_asked old answer (steps 0) none asked)
  increments_open old done counted answer steps none (inr (some, running)) =
      steps done counted (subst (IsRunning k old done counted) (sym (is.same running.begun)) running)

  collects_asked : (old : StoreView D) → ((counted : Bool) → IsRunning k old 0 counted m → IsClosed k old w) → (m.owner.seen.idle ≡ true → w ≡ m) → IsAsked k old c → IsClosed k old w
  collects_asked old ends none asked = by old.heap.attached refl
    where
      by : (b : Bool) → old.heap.attached ≡ b → IsClosed k old w
      by true made = ends true (is.begins old asked made)
      by false unmade =
          let same = is.unmade old asked unmade in
          let idle = is.idle asked.begun in
          subst (IsClosed k old) (sym (none (ap (λ (x : SuspendedView H S D). x.owner.seen.idle) same ∙ idle) ∙ same)) (closes_unmade k old c asked unmade idle)

  pub collects_open : (old : StoreView D) (done : ℕ) (counted : Bool) → ((n : ℕ) (b : Bool) → IsRunning k old n b m → IsClosed k old w) → (m.owner.seen.idle ≡ true → w ≡ m) → IsOpen k old done counted c → IsClosed k old w
  collects_open old done counted ends none (inl (first, asked)) = collects_asked old (ends 0) none asked
  collects_open old done counted ends none (inr (some, running)) = ends done counted (subst (IsRunning k old done counted) (sym (is.same running.begun)) running)

  pub counts_open : (old : StoreView D) (earlier before after : ℕ) → (IsAsked k old c → old.heap.attached ≡ true → earlier ≡ 0) → (IsRunning k old 0 true m → CountsCollection k.layouts old earlier before after)
      → IsOpen k old 0 true c → old.heap.attached ≡ true → CountsCollection k.layouts old 0 before after
  counts_open old earlier before after first counts (inl (none, asked)) made =
      subst (λ (n : ℕ). CountsCollection k.layouts old n before after) (first asked made) (counts (is.begins old asked made))
  counts_open old earlier before after first counts (inr (some, running)) made = absurd (omega (arith, some))

-- A collection that is dropped after an increment has ended: it was complete, or the rest was done.
pub gives_collected : {H S D : Type 0} (k : Kind H S) (old : StoreView D) (c : SuspendedView H S D) (new : StoreView D) (done : ℕ) (answer : GcProgress) → DoesIncrement k old (done + 1) c answer → GivesStore k c new → IsCollected k.layouts old new
gives_collected k old c new done progress.Complete did gives = gives.over old did.0
gives_collected k old c new done progress.Continue did gives = gives.ended old done false did.0
