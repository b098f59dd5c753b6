-- When an allocation succeeds.
use Rattle.std.specs.Prelude.{◌≡◌, ℕ, ◌+◌, ◌-◌, ◌*◌, ◌/◌, ◌^◌, ◌<◌, ◌≤◌, ◌⊎◌, min, Bool, true, false, List, Option, map, slice_get, sum}
use Rattle.gc_types.specs.declared.kind.Layouts.{Layouts}
use Rattle.gc_types.specs.declared.kind.Layouts.TheVariants.{Null, Counting, Copying}
use Rattle.gc_types.specs.Layouts.{round_up}
use Rattle.gc_view.specs.Pages.{page, max_pages}
use Rattle.gc_model.specs.Values.{Object}
use Rattle.gc_model.specs.Table.{Table, make, make_heap, made_pages, with_pages}
use Rattle.gc_view.specs.Sizes.{alignment, need_of}
pub use Rattle.gc_view.specs.Sizes.{too_large}
pub use Rattle.gc_owner.specs.Limiters.{Limits, MayHave, MayRefuse}
pub use Rattle.gc_owner.specs.Growing.{pages_for, asked, MayGrow}
use Rattle.gc_model.specs.Sizes.{object_size, rounded_size, next_place}
use Rattle.gc_model.specs.Reach.{IsReached, AreAll}
use Rattle.gc_model.specs.Words.{Placing}
use Rattle.gc_model.specs.Gaps.{KeptAt, HasGap}

-- a count of 64 bits rose, or stands at its greatest value
abbrev pub Rose : ℕ → ℕ → Type 0
Rose before now = min (before + 1) (2 ^ 64 - 1) ≤ now

-- the null heap has room for so many bytes behind its objects
abbrev pub FitsBump : {D : Type 0} → Table D → ℕ → Type 0
FitsBump t size = round_up (next_place t) alignment + size ≤ page * t.pages

-- the bytes of the object at a position as a copying heap takes them, in whole multiples of 16
abbrev pub copied_size : {D : Type 0} → Table D → ℕ → ℕ
copied_size t p = rounded_size t.types (slice_get t.objects p)

-- the first 16 bytes of a half hold no object
abbrev pub skipped : ℕ
skipped = 16

-- The reachable objects and so many bytes more have room in a half of a copying heap's memory.
pub record FitsHalf {D : Type 0} (t : Table D) (size : ℕ) : Type 0 where
  pub reached : List ℕ
  pub are_reached : AreAll (IsReached t) reached
  pub room : skipped + sum (map (copied_size t) reached) + round_up size alignment ≤ page / 2 * t.pages

-- A heap of the kind has room for so many bytes: the null heap behind its objects, the copying heap
-- beside the reachable ones, the counting heap between the reachable ones, where they lie.
abbrev pub FitsIn : {D : Type 0} → Layouts → Placing → Table D → ℕ → Type 0
FitsIn Null places t size = FitsBump t size
FitsIn Counting places t size = HasGap (KeptAt Counting t places) t size
FitsIn Copying places t size = FitsHalf t size

-- it has none
abbrev pub LacksFit : {D : Type 0} → Layouts → Placing → Table D → ℕ → Type 0
LacksFit layouts places t size = FitsIn layouts places t size → ⊥

-- The first pages may be had: the heap is made, or a limit that is told grants them.
abbrev pub MayMakeHeap : {D : Type 0} → Option ℕ → Table D → Type 0
MayMakeHeap limit t = t.made ≡ false → MayHave limit t.first

-- The first pages were refused: some are wanted, and a limit that is told is below them.
pub record IsRefusedHeap {D : Type 0} (limit : Option ℕ) (t : Table D) : Type 0 where
  pub unmade : t.made ≡ false
  pub wanted : 0 < t.first
  pub above : MayRefuse limit t.first

-- A growth by so many bytes was refused of a heap of so many pages: it would pass the greatest number of
-- pages, or a limit that is told is below.
abbrev pub IsRefusedGrowth : Option ℕ → ℕ → ℕ → Type 0
IsRefusedGrowth limit pages bytes = (max_pages < pages + asked pages bytes) ⊎ MayRefuse limit (pages + asked pages bytes)

-- The pages of a heap that was made where it wasn't, and may have grown by so many bytes.
pub data GetsPages {D : Type 0} (limit : Option ℕ) (t : Table D) (bytes : ℕ) : ℕ → Type 0 where
  same : MayMakeHeap limit t → GetsPages limit t bytes (made_pages t)
  more : MayMakeHeap limit t → MayGrow limit (made_pages t) bytes → GetsPages limit t bytes (made_pages t + asked (made_pages t) bytes)

-- An object was made, with the heap's first pages where it wasn't made, and after a growth by the bytes that it
-- needs or without one. The places are those of what the heap held before.
pub record Allocates {D : Type 0} (layouts : Layouts) (limit : Option ℕ) (places : Placing) (o : Object D) (t t' : Table D) : Type 0 where
  pub pages : ℕ
  pub gets : GetsPages limit t (need_of layouts (object_size layouts t.types o)) pages
  pub fits : FitsIn layouts places (with_pages pages t) (object_size layouts t.types o)
  pub made : t' ≡ make o (with_pages pages t)

-- An object was refused: its heap could not be made, or has no room for it and was refused a growth.
pub data LacksMemory {D : Type 0} (layouts : Layouts) (limit : Option ℕ) (places : Placing) (o : Object D) (t t' : Table D) : Type 0 where
  no_heap : IsRefusedHeap limit t → t' ≡ t → LacksMemory layouts limit places o t t'
  no_room : MayMakeHeap limit t → IsRefusedGrowth limit (made_pages t) (need_of layouts (object_size layouts t.types o))
      → LacksFit layouts places (make_heap t) (object_size layouts t.types o) → t' ≡ make_heap t → LacksMemory layouts limit places o t t'

-- What a growth by so many bytes leaves of the table, and whether it was granted. One by none is always
-- granted and does nothing.
pub data Grows {D : Type 0} (limit : Option ℕ) (bytes : ℕ) (t : Table D) : Bool → Table D → Type 0 where
  nothing : bytes ≡ 0 → Grows limit bytes t true t
  granted : 0 < bytes → MayMakeHeap limit t → MayGrow limit (made_pages t) bytes
      → Grows limit bytes t true (with_pages (made_pages t + asked (made_pages t) bytes) t)
  no_heap : 0 < bytes → IsRefusedHeap limit t → Grows limit bytes t false t
  refused : 0 < bytes → MayMakeHeap limit t → IsRefusedGrowth limit (made_pages t) bytes → Grows limit bytes t false (make_heap t)
