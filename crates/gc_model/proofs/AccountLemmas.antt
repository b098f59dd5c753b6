-- What a collection leaves of a store's table and account, and room by the account.
use Rattle.std.proofs.Common.{◌≡◌, ℕ, ◌+◌, Bool, true, not, if◌then◌else◌, ◌==◌, List, refl, sym, ap, ◌∙◌, subst, arith}
use Rattle.gc_types.specs.declared.kind.Layouts.{Layouts}
use Rattle.gc_types.specs.declared.kind.Layouts.TheVariants.{Null, Counting, Copying}
use Rattle.gc_types.specs.Layouts.{round_up}
use Rattle.gc_view.specs.Sizes.{alignment}
use Rattle.gc_model.specs.Table.{Table}
use Rattle.gc_model.specs.Reach.{AreAll}
use Rattle.gc_model.specs.Allocation.{Limits}
use Rattle.gc_view.specs.Heaps.{HeapView}
use Rattle.gc_model.specs.Stores.{StoreView}
use Rattle.gc_model.specs.Holds.{Placing, Holds, HoldsTable, HoldsKept}
use Rattle.gc_model.proofs.OwnedRoots.{trimmed_held}
use Rattle.gc_model.proofs.HoldsOwned.{holds_trimmed}
use Rattle.gc_model.specs.Gaps.{told, AreCut}
use Rattle.gc_heap.specs.Content.{IsHeap, total, block_size}
use Rattle.gc_heap.specs.Heap.{HasRoom}
use Rattle.gc_model.specs.Accounts.{Account, IsAccount, HoldsAccount}
use Rattle.gc_model.specs.Collects.{HasPlace}
use Rattle.gc_model.specs.Policy.{PolicyState, policy_state, allocated_bytes, FitsNow, LacksNow, turned, CollectsTable}
use Rattle.gc_owner.specs.Owners.{OwnerView, CanBegin, Trims, Collects, CollectsAll}
use Rattle.gc_model.specs.Shown.{shown}
use Rattle.gc_model.proofs.RootsShown.{SlotsInFrames, AllHeld}
use Rattle.gc_model.proofs.CollectedHolds.{CollectsHeld, collected_holds, collected_places, frames_after}
use Rattle.gc_model.proofs.HeapGaps.{gap_now, free_now}
use Rattle.gc_model.proofs.HeldBlocks.{held_blocks, no_capacity}
use Rattle.gc_model.proofs.HeldNumber.{positions, are_placed, are_kept}

-- an account goes by the placing and by three numbers of the store
pub account_kept : {D : Type 0} {layouts : Layouts} (s s' : StoreView D) (place : Placing) (a : Account) → s'.last ≡ s.last → s'.tries ≡ s.tries → s'.heap.needs_gc ≡ s.heap.needs_gc → IsAccount layouts s place a → IsAccount layouts s' place a
account_kept s s' place a last tries upper is = record { held = is.held; places = is.places; last = last ∙ is.last; tries = tries ∙ is.tries; upper = upper ∙ is.upper }

-- a table goes by none of the numbers of an account
pub holds_counted : {D : Type 0} (layouts : Layouts) (s : StoreView D) (t : Table D) (place : Placing) (last tries : ℕ) → Holds layouts s t place → Holds layouts (record s { last = last; tries = tries }) t place
holds_counted layouts s t place last tries holds = holds

-- The bytes allocated in a heap are those of the positions it holds.
pub allocated_is : {D : Type 0} (layouts : Layouts) (s : StoreView D) (t : Table D) (place : Placing) (held : List ℕ) → Holds layouts s t place → AreAll (HasPlace place) held → IsHeap layouts s.heap
    → s.heap.allocated ≡ allocated_bytes layouts t held
allocated_is Null s t place held holds all heap = let next = holds.by_kind.allocated in omega arith
allocated_is Counting s t place held holds all heap = heap.allocated ∙ sym (held_blocks Counting s t place holds held all)
allocated_is Copying s t place held holds all heap =
    heap.allocated
    ∙ ap (λ (b : Bool). if b then 0 else 16 + total (block_size Copying) s.heap.content) (no_capacity s.heap.capacity t.pages holds.memory.capacity)
    ∙ ap (λ (n : ℕ). if t.pages == 0 then 0 else 16 + n) (sym (held_blocks Copying s t place holds held all))

-- room of the heap is room by the account
pub fits_now : {D : Type 0} (layouts : Layouts) (s : StoreView D) (t : Table D) (a : Account) (limits : Limits) (size : ℕ) → IsHeap layouts s.heap → HoldsAccount layouts s t a → HasRoom layouts s.heap size
    → FitsNow layouts size (policy_state t a limits)
fits_now Null s t a limits size heap holds room = let next = holds.holds.by_kind.allocated in let capacity = holds.holds.memory.capacity in omega arith
fits_now Counting s t a limits size heap holds room = (room.0, gap_now s (policy_state t a limits) holds room.0 (round_up size alignment) room.1)
fits_now Copying s t a limits size heap holds room =
    let blocks = held_blocks Copying s t holds.place holds.holds a.held holds.account.held in
    let capacity = holds.holds.memory.capacity in
    omega arith

-- and so is its lack
pub lacks_now : {D : Type 0} (layouts : Layouts) (s : StoreView D) (t : Table D) (a : Account) (limits : Limits) (size : ℕ) → IsHeap layouts s.heap → HoldsAccount layouts s t a → (HasRoom layouts s.heap size → ⊥)
    → LacksNow layouts size (policy_state t a limits)
lacks_now Null s t a limits size heap holds none = λ fits. none (let next = holds.holds.by_kind.allocated in let capacity = holds.holds.memory.capacity in omega arith)
lacks_now Counting s t a limits size heap holds none = λ fits. none (fits.0, free_now s (policy_state t a limits) holds fits.0 (round_up size alignment) fits.1)
lacks_now Copying s t a limits size heap holds none = λ fits. none (
    let blocks = held_blocks Copying s t holds.place holds.holds a.held holds.account.held in
    let capacity = holds.holds.memory.capacity in
    omega arith)

-- which half is active after a collection
upper_after : {D : Type 0} (layouts : Layouts) (v w : OwnerView D) (upper : Bool) → IsHeap layouts v.heap → CollectsAll layouts v w → v.heap.needs_gc ≡ upper → w.heap.needs_gc ≡ turned layouts upper
upper_after Null v w upper heap is e = ap (λ (h : HeapView). h.needs_gc) is.collected.by_kind.0 ∙ e
upper_after Counting v w upper heap is e = is.collected.by_kind.1.1 ∙ sym heap.by_kind.1 ∙ e
upper_after Copying v w upper heap is e = is.collected.by_kind ∙ ap (λ b. not b) e

-- what is left of the places of an account
account_cut : {D : Type 0} (layouts : Layouts) (t : Table D) (places before after : Placing) → ((p : ℕ) → places p ≡ told layouts before p) → AreCut layouts t (told layouts before) (told layouts after) → AreCut layouts t places (told layouts after)
account_cut layouts t places before after is cut p word = (
  λ left. let kept = (cut p word).0 left in (is p ∙ kept.0, kept.1),
  λ kept. (cut p word).1 (sym (is p) ∙ kept.0, kept.1),
)

-- what a collection of the owner leaves of its store's table and account
pub record AfterCollection {D : Type 0} (layouts : Layouts) (s : StoreView D) (t : Table D) (a : Account) (limits : Limits) (w : OwnerView D) : Type 0 where
  pub after : PolicyState D
  pub collects : CollectsTable layouts (policy_state t a limits) after
  pub holds : HoldsAccount layouts (shown s w) after.table after.account
  pub kept : HoldsKept layouts (shown s w) after.table
  pub in_frames : SlotsInFrames w.roots

-- a collection from the roots that a trim left
run_account : {D : Type 0} (layouts : Layouts) (s : StoreView D) (t : Table D) (a : Account) (limits : Limits) (v w : OwnerView D)
    → HoldsAccount layouts (shown s v) t a → CanBegin layouts v → SlotsInFrames v.roots → AllHeld v.roots.owned → IsHeap layouts v.heap → v.heap.attached ≡ true → CollectsAll layouts v w → AfterCollection layouts s t a limits w
run_account {D} layouts s t a limits v w holds can in_frames all_held was_heap attached collects =
    let held_before : CollectsHeld layouts s t holds.place v w = record { holds = holds.holds; can = can; in_frames = in_frames; all_held = all_held; was_heap = was_heap; attached = attached; collects = collects } in
    let kept : HoldsKept layouts (shown s w) t = collected_holds layouts s t holds.place v w held_before in
    let held : List ℕ = positions layouts t kept.0 w.heap kept.1.0.objects in
    let placed : AreAll (HasPlace kept.0) held = are_placed layouts t kept.0 w.heap kept.1.0.objects in
    let account : Account = record { held = held; places = told layouts kept.0; last = w.heap.allocated; tries = a.tries; upper = w.heap.needs_gc } in
    record {
      after = policy_state t account limits;
      collects = record {
        held = are_kept layouts (shown s w) t kept.0 kept.1.0 kept.1.1;
        places = account_cut layouts t a.places holds.place kept.0 holds.account.places (collected_places layouts s t holds.place v w held_before);
        last = allocated_is layouts (shown s w) t kept.0 held kept.1.0 placed collects.is_heap;
        tries = refl;
        upper = upper_after layouts v w a.upper was_heap collects holds.account.upper;
        table = refl;
        limits = refl;
      };
      holds = record {
        place = kept.0;
        holds = kept.1.0;
        account = record { held = placed; places = λ p. refl; last = ap (λ (x : OwnerView D). x.last) collects.rest; tries = holds.account.tries; upper = refl };
      };
      kept = kept;
      in_frames = frames_after layouts s t holds.place v w held_before;
    }

-- what a trim leaves of a store's table and account: both
pub trimmed_table : {D : Type 0} (layouts : Layouts) (s : StoreView D) (t : Table D) (place : Placing) (v m : OwnerView D) → Trims layouts v m → Holds layouts (shown s v) t place → Holds layouts (shown s m) t place
trimmed_table {D} layouts s t place v m trims holds =
    subst (λ (x : OwnerView D). Holds layouts (shown s x) t place) (sym trims.changes.rest) (holds_trimmed layouts (shown s v) t place holds m.heap trims.changes.held)

trimmed_account : {D : Type 0} (layouts : Layouts) (s : StoreView D) (t : Table D) (a : Account) (v m : OwnerView D) → Trims layouts v m → HoldsAccount layouts (shown s v) t a → HoldsAccount layouts (shown s m) t a
trimmed_account {D} layouts s t a v m trims holds = record {
  place = holds.place;
  holds = trimmed_table layouts s t holds.place v m trims holds.holds;
  account = account_kept (shown s v) (shown s m) holds.place a (ap (λ (x : OwnerView D). x.last) trims.changes.rest) refl trims.changes.held.needs_gc holds.account;
}

pub collected_account : {D : Type 0} (layouts : Layouts) (s : StoreView D) (t : Table D) (a : Account) (limits : Limits) (v w : OwnerView D)
    → HoldsAccount layouts (shown s v) t a → SlotsInFrames v.roots → v.heap.attached ≡ true → Collects layouts v w → AfterCollection layouts s t a limits w
collected_account {D} layouts s t a limits v w holds in_frames attached collects =
    let m : OwnerView D = collects.trimmed in
    let trims = collects.trims in
    run_account layouts s t a limits m w (trimmed_account layouts s t a v m trims holds) trims.can
    (subst (λ (x : OwnerView D). SlotsInFrames x.roots) (sym trims.changes.rest) in_frames)
    (subst (λ (x : OwnerView D). AllHeld x.roots.owned) (sym trims.changes.rest) (trimmed_held v.roots.owned))
    trims.is_heap (trims.changes.held.attached ∙ attached) collects.runs

-- a store that holds a table has some account beside it
pub own_account : {D : Type 0} (layouts : Layouts) (s : StoreView D) (t : Table D) (place : Placing) → Holds layouts s t place → (a : Account) × IsAccount layouts s place a
own_account layouts s t place holds = (
  record { held = positions layouts t place s.heap holds.objects; places = told layouts place; last = s.last; tries = s.tries; upper = s.heap.needs_gc },
  record { held = are_placed layouts t place s.heap holds.objects; places = λ p. refl; last = refl; tries = refl; upper = refl },
)

-- the same, whatever the placing is
pub some_account : {D : Type 0} (layouts : Layouts) (s : StoreView D) (t : Table D) → HoldsTable layouts s t → (a : Account) × HoldsAccount layouts s t a
some_account layouts s t holds = let own = own_account layouts s t holds.0 holds.1 in (own.0, record { place = holds.0; holds = holds.1; account = own.1 })
