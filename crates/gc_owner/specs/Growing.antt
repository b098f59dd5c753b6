-- How a heap gets pages, what a limiter is asked, and by what rule an allocation goes on that finds no room.
use Rattle.std.specs.Prelude.{◌≡◌, ℕ, ◌+◌, ◌-◌, ◌*◌, ◌/◌, ◌^◌, ◌<◌, ◌≤◌, ◌⊎◌, ◌==◌, ◌&&◌, ◌||◌, not, min, max, nat_le, nat_lt, Bool, true, false, Option, IfSome, Result, Ok, Err}
use Rattle.gc_types.specs.declared.kind.Layouts.{Layouts}
use Rattle.gc_view.specs.Sizes.{need_of}
use Rattle.gc_view.specs.Pages.{page, max_pages}
use Rattle.gc_view.specs.Heaps.{HeapView}
use Rattle.gc_heap.specs.Content.{IsHeap}
use Rattle.gc_heap.specs.Heap.{HasRoom, grown, empty_heap}
use Rattle.gc_owner.specs.declared.pages.PagesFault.{PagesFault}
use Rattle.gc_owner.specs.declared.pages.PagesFault.TheVariants as pages_fault
use Rattle.gc_owner.specs.Limiters.{Limits, MayHave, MayRefuse, Refuses}
use Rattle.gc_owner.specs.Retry.{Rules}
use Rattle.gc_owner.specs.Owners.{OwnerView, Collects}

-- the pages that hold so many bytes
abbrev pub pages_for : ℕ → ℕ
pages_for bytes = (bytes + (page - 1)) / page

-- The pages that a growth by so many bytes asks for: as many as there are, as far as the greatest number
-- allows, and no fewer than hold the bytes.
abbrev pub asked : ℕ → ℕ → ℕ
asked pages bytes = max (min pages (max_pages - pages)) (pages_for bytes)

-- A growth by so many bytes may be had by a heap of so many pages.
pub record MayGrow (limit : Option ℕ) (pages bytes : ℕ) : Type 0 where
  pub within : pages + asked pages bytes ≤ max_pages
  pub granted : MayHave limit (pages + asked pages bytes)

-- Whether an allocation that finds no room collects before it grows: while what it needs and what was in use
-- after the last collection are together below half of the capacity, in bytes.
abbrev pub collects_first : ℕ → ℕ → ℕ → Bool
collects_first need capacity last =
    not (capacity == 0) && ((need == 0) || (nat_lt need (2 ^ 63) && (nat_le (2 ^ 64) (last + need) || nat_lt (last + need) (capacity / 2))))

-- What asking for the first pages leaves of a limiter, and whether the heap is made then. Of a heap that is made
-- nothing is asked, and nobody is asked for no pages.
pub data AsksFirst (made : Bool) (first : ℕ) (limits : Limits) : Bool → Limits → Type 0 where
  already : made ≡ true → AsksFirst made first limits true limits
  granted : made ≡ false → MayHave limits.limit first → AsksFirst made first limits true limits
  refused : {limits' : Limits} → made ≡ false → 0 < first → MayRefuse limits.limit first → Refuses limits limits' 0 first
      → AsksFirst made first limits false limits'

-- What asking for the pages of a growth by so many bytes leaves of a limiter, and whether they were granted. Nobody
-- is asked for more pages than a heap may have.
pub data AsksPages (pages bytes : ℕ) (limits : Limits) : Bool → Limits → Type 0 where
  unasked : max_pages < pages + asked pages bytes → AsksPages pages bytes limits false limits
  refused : {limits' : Limits} → pages + asked pages bytes ≤ max_pages → MayRefuse limits.limit (pages + asked pages bytes)
      → Refuses limits limits' pages (pages + asked pages bytes) → AsksPages pages bytes limits false limits'
  granted : MayGrow limits.limit pages bytes → AsksPages pages bytes limits true limits

-- the pages of a heap
abbrev pub pages_of : HeapView → ℕ
pages_of h = h.capacity / page

-- the heap after a growth by so many bytes was granted or refused
abbrev pub heap_after : Layouts → Bool → ℕ → HeapView → HeapView
heap_after layouts true bytes h = grown layouts h (page * asked (pages_of h) bytes)
heap_after layouts false bytes h = h

-- what the growth of a heap's memory answers and leaves
abbrev pub GrowsMemory : Layouts → ℕ → HeapView → HeapView → Limits → Limits → Result (Unit {0}) PagesFault → Type 0
GrowsMemory layouts bytes old new limits limits' (Ok done) = AsksPages (pages_of old) bytes limits true limits' × (new ≡ heap_after layouts true bytes old)
GrowsMemory layouts bytes old new limits limits' (Err pages_fault.Refused) = AsksPages (pages_of old) bytes limits false limits' × (new ≡ old)
GrowsMemory layouts bytes old new limits limits' (Err pages_fault.Memory) = (limits' ≡ limits) × (new ≡ old)

-- a heap that had no memory got its first pages, which a limit that is told grants
pub record GetsFirst (layouts : Layouts) (first : ℕ) (old new : HeapView) (limit : Option ℕ) : Type 0 where
  pub detached : old.attached ≡ false
  pub empty : new ≡ empty_heap layouts (page * first) old.scopes
  pub granted : IfSome limit (λ most. first ≤ most)

-- the first pages were refused
pub record IsRefusedPages (first : ℕ) (old new : HeapView) (limits limits' : Limits) : Type 0 where
  pub detached : old.attached ≡ false
  pub same : new ≡ old
  pub wanted : 0 < first
  pub above : IfSome limits.limit (λ most. most < first)
  pub counted : Refuses limits limits' 0 first

-- what making a heap answers and leaves
abbrev pub MakesHeap : Layouts → ℕ → HeapView → HeapView → Limits → Limits → Result (Unit {0}) PagesFault → Type 0
MakesHeap layouts first old new limits limits' (Ok done) =
    (((old.attached ≡ true) × (new ≡ old)) ⊎ GetsFirst layouts first old new limits.limit) × (limits' ≡ limits)
MakesHeap layouts first old new limits limits' (Err pages_fault.Refused) = IsRefusedPages first old new limits limits'
MakesHeap layouts first old new limits limits' (Err pages_fault.Memory) = (new ≡ old) × (limits' ≡ limits)

-- What an allocation goes by and changes on its way: an owner, and what a limiter tells.
pub record OwnerState (D : Type 0) : Type 0 where
  pub owner : OwnerView D
  pub limits : Limits

abbrev pub state_of : {D : Type 0} → OwnerView D → Limits → OwnerState D
state_of owner limits = record { owner = owner; limits = limits }

-- a collection ran
abbrev pub CollectsState : {D : Type 0} → Layouts → OwnerState D → OwnerState D → Type 0
CollectsState layouts s e = Collects layouts s.owner e.owner × (e.limits ≡ s.limits)

-- The heap was made ready to grow: a collection ran exactly where it asks for one.
abbrev pub Readies : {D : Type 0} → Layouts → OwnerState D → OwnerState D → Type 0
Readies layouts s e = ((s.owner.heap.needs_gc ≡ true) × CollectsState layouts s e) ⊎ ((s.owner.heap.needs_gc ≡ false) × (e ≡ s))

-- a growth by so many bytes was granted or refused, once the heap was ready
pub record GrowsReadied {D : Type 0} (layouts : Layouts) (bytes : ℕ) (s : OwnerState D) (granted : Bool) (e : OwnerState D) : Type 0 where
  pub ready : OwnerState D
  pub readied : Readies layouts s ready
  pub asks : AsksPages (pages_of ready.owner.heap) bytes ready.limits granted e.limits
  pub after : e ≡ state_of (record ready.owner { heap = heap_after layouts granted bytes ready.owner.heap }) e.limits
  pub is_heap : IsHeap layouts e.owner.heap

-- what the growth of a heap that is made answers and leaves
abbrev pub GrowsBy : {D : Type 0} → Layouts → ℕ → OwnerState D → OwnerState D → Result (Unit {0}) PagesFault → Type 0
GrowsBy layouts bytes s e (Ok done) = GrowsReadied layouts bytes s true e
GrowsBy layouts bytes s e (Err pages_fault.Refused) = GrowsReadied layouts bytes s false e
GrowsBy layouts bytes s e (Err pages_fault.Memory) = Readies layouts s e

-- the heap was made where it wasn't
pub record BeginsHeap {D : Type 0} (layouts : Layouts) (first : ℕ) (s e : OwnerState D) : Type 0 where
  pub makes : MakesHeap layouts first s.owner.heap e.owner.heap s.limits e.limits (Ok tt)
  pub rest : e.owner ≡ record s.owner { heap = e.owner.heap }

-- the first pages were refused, and nothing else happened
pub record NotBegun {D : Type 0} (first : ℕ) (s e : OwnerState D) : Type 0 where
  pub refused : IsRefusedPages first s.owner.heap e.owner.heap s.limits e.limits
  pub same : e.owner ≡ s.owner

-- what making a heap and letting it grow answers and leaves
abbrev pub Expands : {D : Type 0} → Layouts → ℕ → ℕ → OwnerState D → OwnerState D → Result (Unit {0}) PagesFault → Type 0
Expands {D} layouts first bytes s e (Ok done) = (b : OwnerState D) × (BeginsHeap layouts first s b × GrowsReadied layouts bytes b true e)
Expands {D} layouts first bytes s e (Err pages_fault.Refused) =
    NotBegun first s e ⊎ ((b : OwnerState D) × (BeginsHeap layouts first s b × GrowsReadied layouts bytes b false e))
Expands {D} layouts first bytes s e (Err pages_fault.Memory) = (e ≡ s) ⊎ ((b : OwnerState D) × (BeginsHeap layouts first s b × Readies layouts b e))

-- by what an allocation of so many bytes goes
abbrev pub owner_rules : {D : Type 0} → Layouts → ℕ → Rules (OwnerState D)
owner_rules layouts size = record {
  Fits = λ s. HasRoom layouts s.owner.heap size;
  Lacks = λ s. HasRoom layouts s.owner.heap size → ⊥;
  collects_first = λ s. collects_first (need_of layouts size) s.owner.heap.capacity s.owner.last;
  Collects = CollectsState layouts;
  Readies = Readies layouts;
  Grows = GrowsReadied layouts (need_of layouts size);
}
