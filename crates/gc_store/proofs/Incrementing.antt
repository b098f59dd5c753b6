-- Collections that are done in increments, and how many of these there are.
use Rattle.std.proofs.Common.{◌≡◌, ℕ, ◌-◌, ◌^◌, ◌<◌, min, Bool, true, false, length, refl, sym, ap, ◌∙◌, subst, arith}
use Rattle.gc_types.specs.declared.kind.Layouts.{Layouts}
use Rattle.gc_types.specs.declared.kind.Layouts.TheVariants.{Null, Counting, Copying}
use Rattle.gc_model.specs.Table.{Table}
use Rattle.gc_model.specs.Reach.{HasNumber, IsReached}
use Rattle.gc_model.specs.Stores.{StoreView}
use Rattle.gc_model.specs.Holds.{Placing, Holds, HoldsTable}
use Rattle.gc_heap.specs.Content.{IsHeap}
use Rattle.gc_heap.specs.Collection.{Start, IsIncrements}
use Rattle.gc_heap.specs.declared.collection.GcProgress.{GcProgress}
use Rattle.gc_heap.specs.declared.collection.GcProgress.TheVariants as progress
use Rattle.gc_owner.specs.Owners.{OwnerValue, OwnerView, Kind, IsOwnerUnderWay, Increments, IsEnded, Trims, Collects, start_of}
use Rattle.gc_model.specs.Shown.{shown}
use Rattle.gc_model.proofs.RootsShown.{SlotsInFrames}
use Rattle.gc_model.proofs.ReachedNumber.{reached, reached_number, few_reached, places_number}
use Rattle.gc_store.specs.IncrementCounts.{increments, increments_where, TakesIncrements, CountsIncrements}

-- A collection that is dropped after an increment has ended: it was complete, or the rest was done.
pub dropped_ended : {H S D : Type 0} (k : Kind H S) (s : Start) (done : ℕ) (begun now last : OwnerValue H S D) (answer : GcProgress) → Increments k s done begun now answer → (answer ≡ progress.Complete → now.seen.idle ≡ true)
    → (now.seen.idle ≡ true → last ≡ now) → (IsOwnerUnderWay k s done false begun now → IsEnded k.layouts begun last) → IsEnded k.layouts begun last
dropped_ended {H} {S} {D} k s done begun now last progress.Complete did idle same ended = subst (λ (o : OwnerValue H S D). IsEnded k.layouts begun o) (sym (same (idle refl))) did.1
dropped_ended k s done begun now last progress.Continue did idle same ended = ended did.1

uncut : (number n : ℕ) → number < 2 ^ 64 → n ≡ min number (2 ^ 64 - 1) → n ≡ number
uncut number n below is = omega (arith, is)

-- an owner with a heap whose store holds a table
record HasHeap {D : Type 0} (layouts : Layouts) (s : StoreView D) (t : Table D) (place : Placing) (v : OwnerView D) : Type 0 where
  pub holds : Holds layouts (shown s v) t place
  pub in_frames : SlotsInFrames v.roots
  pub is_heap : IsHeap layouts v.heap
  pub attached : v.heap.attached ≡ true

-- a number of reached positions by which so many increments go
record GoesBy {D : Type 0} (layouts : Layouts) (t : Table D) (number : ℕ) : Type 0 where
  pub reached_so : ℕ
  pub reaches : HasNumber (IsReached t) reached_so
  pub is : number ≡ increments layouts reached_so
  pub few : number < 2 ^ 64

any_number : {D : Type 0} (layouts : Layouts) (s : StoreView D) (t : Table D) (place : Placing) → Holds layouts s t place → (n : ℕ) × HasNumber (IsReached t) n
any_number layouts s t place holds = (length (reached layouts s t place holds), reached_number layouts s t place holds)

goes_by : {D : Type 0} (layouts : Layouts) (s : StoreView D) (t : Table D) (place : Placing) (v m w : OwnerView D) → HasHeap layouts s t place v → Trims layouts v m → Collects layouts v w → (number : ℕ) → IsIncrements layouts (start_of m) number → GoesBy layouts t number
goes_by Null s t place v m w has trims collects number is =
    let any = any_number Null (shown s v) t place has.holds in
    record { reached_so = any.0; reaches = any.1; is = is; few = omega (arith, is) }
goes_by Counting s t place v m w has trims collects number is =
    let any = any_number Counting (shown s v) t place has.holds in
    record { reached_so = any.0; reaches = any.1; is = is; few = omega (arith, is) }
goes_by Copying s t place v m w has trims collects number (places, (are, is)) =
    let reaches = places_number s t place v m w has.holds has.in_frames has.attached trims collects places are in
    let few = few_reached Copying (shown s v) t place has.holds has.is_heap (length places) reaches in
    record { reached_so = length places; reaches = reaches; is = is; few = omega (arith, is, few) }

-- where a heap is made, and the number is known
pub takes_exactly : {D : Type 0} (layouts : Layouts) (s : StoreView D) (t : Table D) (v m w : OwnerView D) (n : ℕ) → HoldsTable layouts (shown s v) t → SlotsInFrames v.roots → IsHeap layouts v.heap → v.heap.attached ≡ true → Trims layouts v m → Collects layouts v w → IsIncrements layouts (start_of m) n → TakesIncrements layouts t n
takes_exactly layouts s t v m w n holds in_frames is_heap attached trims collects takes =
    let by = goes_by layouts s t holds.0 v m w (record { holds = holds.1; in_frames = in_frames; is_heap = is_heap; attached = attached }) trims collects n takes in
    record { reached = by.reached_so; reaches = by.reaches; number = by.is ∙ ap (λ (made : Bool). increments_where made layouts by.reached_so) (sym attached ∙ holds.1.memory.made) }

-- where a heap is made
pub takes_made : {D : Type 0} (layouts : Layouts) (s : StoreView D) (t : Table D) (v w : OwnerView D) (n : ℕ) → HoldsTable layouts (shown s v) t → SlotsInFrames v.roots → IsHeap layouts v.heap → v.heap.attached ≡ true → Collects layouts v w → CountsIncrements layouts v n → TakesIncrements layouts t n
takes_made layouts s t v w n holds in_frames is_heap attached collects counts =
    let by = goes_by layouts s t holds.0 v counts.trimmed w (record { holds = holds.1; in_frames = in_frames; is_heap = is_heap; attached = attached }) counts.trims collects counts.number counts.takes in
    record {
      reached = by.reached_so;
      reaches = by.reaches;
      number = uncut counts.number n by.few counts.counted ∙ by.is ∙ ap (λ (made : Bool). increments_where made layouts by.reached_so) (sym attached ∙ holds.1.memory.made);
    }

-- and where none is
pub takes_none : {D : Type 0} (layouts : Layouts) (s : StoreView D) (t : Table D) (n : ℕ) → HoldsTable layouts s t → s.heap.attached ≡ false → n ≡ 0 → TakesIncrements layouts t n
takes_none layouts s t n holds unmade none =
    let any = any_number layouts s t holds.0 holds.1 in
    record { reached = any.0; reaches = any.1; number = none ∙ ap (λ (made : Bool). increments_where made layouts any.0) (sym unmade ∙ holds.1.memory.made) }
