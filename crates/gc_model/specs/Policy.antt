-- The policy of growth, in the terms of the table: when a heap collects, what it asks for, and what it holds then.
use Rattle.std.specs.Prelude.{◌≡◌, ℕ, ◌+◌, ◌-◌, ◌*◌, ◌/◌, ◌<◌, ◌≤◌, ◌⊎◌, ◌==◌, not, if◌then◌else◌, Bool, true, false, List, Option, map, sum}
use Rattle.gc_types.specs.declared.kind.Layouts.{Layouts}
use Rattle.gc_types.specs.declared.kind.Layouts.TheVariants.{Null, Counting, Copying}
use Rattle.gc_types.specs.Layouts.{round_up}
use Rattle.gc_model.specs.Table.{Table, make_heap, with_pages}
use Rattle.gc_view.specs.Sizes.{alignment, need_of}
pub use Rattle.gc_model.specs.Sizes.{block_bytes, block_bytes_at}
use Rattle.gc_model.specs.Sizes.{next_place}
use Rattle.gc_model.specs.Reach.{AreAll, IsKept}
use Rattle.gc_model.specs.Gaps.{LiesAt, AreCut, IsGap, HasGap, IsFront}
use Rattle.gc_view.specs.Pages.{page}
use Rattle.gc_model.specs.Allocation.{Limits, FitsBump, asked, skipped}
use Rattle.gc_model.specs.Accounts.{Account, counted, is_due}
use Rattle.gc_owner.specs.Growing.{AsksFirst, AsksPages, collects_first}
use Rattle.gc_owner.specs.Retry.{Rules, Retry, Paused}

-- what the policy goes by and changes: the table, the account of its store, and the limiter
pub record PolicyState (D : Type 0) : Type 0 where
  pub table : Table D
  pub account : Account
  pub limits : Limits

abbrev pub policy_state : {D : Type 0} → Table D → Account → Limits → PolicyState D
policy_state t a limits = record { table = t; account = a; limits = limits }

-- The bytes that are allocated in a heap that holds these positions: in a null heap all up to its next place, less
-- the first; else the objects' blocks, and in a copying heap that has any memory the first 16 of a half.
abbrev pub allocated_bytes : {D : Type 0} → Layouts → Table D → List ℕ → ℕ
allocated_bytes Null t held = next_place t - 1
allocated_bytes Counting t held = sum (map (block_bytes_at Counting t) held)
allocated_bytes Copying t held = if t.pages == 0 then 0 else skipped + sum (map (block_bytes_at Copying t) held)

-- the heap holds a position, at a place that is told
abbrev pub LiesNow : {D : Type 0} → PolicyState D → ℕ → ℕ → Type 0
LiesNow p position word = LiesAt p.account.places position word

-- The heap has room for so many bytes beside what it holds, garbage among it.
abbrev pub FitsNow : {D : Type 0} → Layouts → ℕ → PolicyState D → Type 0
FitsNow Null size p = FitsBump p.table size
FitsNow Counting size p = HasGap (LiesNow p) p.table size
FitsNow Copying size p = skipped + sum (map (block_bytes_at Copying p.table) p.account.held) + round_up size alignment ≤ page / 2 * p.table.pages

-- it has none
abbrev pub LacksNow : {D : Type 0} → Layouts → ℕ → PolicyState D → Type 0
LacksNow layouts size p = FitsNow layouts size p → ⊥

-- A new object of that size lies at a place, as far as that is told: in a counting heap it is the front of a gap that
-- is long enough.
abbrev pub IsPlaceIn : {D : Type 0} → Layouts → PolicyState D → ℕ → ℕ → Type 0
IsPlaceIn Null p word size = Unit {0}
IsPlaceIn Counting p word size = IsGap (LiesNow p) p.table word (round_up size alignment) × IsFront (LiesNow p) p.table word
IsPlaceIn Copying p word size = Unit {0}

-- which half is active after a collection: the other one of a copying heap
abbrev pub turned : Layouts → Bool → Bool
turned Null upper = upper
turned Counting upper = upper
turned Copying upper = not upper

-- A collection ran: the heap holds what it keeps, and where places are told nothing has moved.
pub record CollectsTable {D : Type 0} (layouts : Layouts) (p q : PolicyState D) : Type 0 where
  pub held : AreAll (IsKept layouts p.table) q.account.held
  pub places : AreCut layouts p.table p.account.places q.account.places
  pub last : q.account.last ≡ allocated_bytes layouts p.table q.account.held
  pub tries : q.account.tries ≡ p.account.tries
  pub upper : q.account.upper ≡ turned layouts p.account.upper
  pub table : q.table ≡ p.table
  pub limits : q.limits ≡ p.limits

-- the heap was made ready to grow: a collection ran exactly where the upper half was active
abbrev pub ReadiesTable : {D : Type 0} → Layouts → PolicyState D → PolicyState D → Type 0
ReadiesTable layouts p q = ((p.account.upper ≡ true) × CollectsTable layouts p q) ⊎ ((p.account.upper ≡ false) × (q ≡ p))

-- the table after a growth by so many bytes was granted or refused
abbrev pub table_after : {D : Type 0} → Bool → ℕ → Table D → Table D
table_after true bytes t = with_pages (t.pages + asked t.pages bytes) t
table_after false bytes t = t

-- a growth by so many bytes was granted or refused, once the heap was ready
pub record GrowsTable {D : Type 0} (layouts : Layouts) (bytes : ℕ) (p : PolicyState D) (granted : Bool) (q : PolicyState D) : Type 0 where
  pub ready : PolicyState D
  pub readied : ReadiesTable layouts p ready
  pub asks : AsksPages ready.table.pages bytes ready.limits granted q.limits
  pub after : q ≡ record ready { table = table_after granted bytes ready.table; limits = q.limits }

-- by what an allocation of so many bytes goes
abbrev pub table_rules : {D : Type 0} → Layouts → ℕ → Rules (PolicyState D)
table_rules layouts size = record {
  Fits = FitsNow layouts size;
  Lacks = LacksNow layouts size;
  collects_first = λ p. collects_first (need_of layouts size) (page * p.table.pages) p.account.last;
  Collects = CollectsTable layouts;
  Readies = ReadiesTable layouts;
  Grows = GrowsTable layouts (need_of layouts size);
}

-- the table with its heap made, where it is had
abbrev pub table_made : {D : Type 0} → Bool → Table D → Table D
table_made true t = make_heap t
table_made false t = t

-- the heap was made where it wasn't, or its first pages were refused
pub record MakesTable {D : Type 0} (p : PolicyState D) (granted : Bool) (q : PolicyState D) : Type 0 where
  pub asks : AsksFirst p.table.made p.table.first p.limits granted q.limits
  pub after : q ≡ record p { table = table_made granted p.table; limits = q.limits }

-- a collection ran where the allocation that was counted last is due for one
abbrev pub Dues : {D : Type 0} → Layouts → Option ℕ → PolicyState D → PolicyState D → Type 0
Dues layouts counter p q = ((is_due counter p.account.tries ≡ true) × CollectsTable layouts p q) ⊎ ((is_due counter p.account.tries ≡ false) × (q ≡ p))

-- one more allocation is counted
abbrev pub count_try : {D : Type 0} → PolicyState D → PolicyState D
count_try p = record p { account = counted p.account }

-- An allocation of so many bytes up to the object itself, and whether there is room for it at the end: it is
-- counted, the heap is made, a collection runs where it is due, and then it goes by the rule of retry.
pub data Prepares {D : Type 0} (layouts : Layouts) (counter : Option ℕ) (size : ℕ) (p : PolicyState D) : Bool → PolicyState D → Type 0 where
  no_heap : {q : PolicyState D} → MakesTable (count_try p) false q → Prepares layouts counter size p false q
  tried : {m n q : PolicyState D} {ok : Bool} → MakesTable (count_try p) true m → Dues layouts counter m n
      → Retry (table_rules layouts size) n ok q → Prepares layouts counter size p ok q

-- an allocation wanted memory on its way
pub data Prepared {D : Type 0} (layouts : Layouts) (counter : Option ℕ) (size : ℕ) (p : PolicyState D) : PolicyState D → Type 0 where
  not_begun : Prepared layouts counter size p p
  not_made : Prepared layouts counter size p (count_try p)
  paused : {m n q : PolicyState D} → MakesTable (count_try p) true m → Dues layouts counter m n
      → Paused (table_rules layouts size) n q → Prepared layouts counter size p q

-- A growth by so many bytes, and whether it was granted: one by none is granted and does nothing; else the heap
-- is made and grows.
pub data ExpandsTable {D : Type 0} (layouts : Layouts) (bytes : ℕ) (p : PolicyState D) : Bool → PolicyState D → Type 0 where
  nothing : bytes ≡ 0 → ExpandsTable layouts bytes p true p
  no_heap : {q : PolicyState D} → 0 < bytes → MakesTable p false q → ExpandsTable layouts bytes p false q
  grows : {m q : PolicyState D} {granted : Bool} → 0 < bytes → MakesTable p true m → GrowsTable layouts bytes m granted q → ExpandsTable layouts bytes p granted q

-- a growth wanted memory on its way
pub data Expanded {D : Type 0} (layouts : Layouts) (bytes : ℕ) (p : PolicyState D) : PolicyState D → Type 0 where
  not_made : 0 < bytes → Expanded layouts bytes p p
  not_grown : {m q : PolicyState D} → 0 < bytes → MakesTable p true m → ReadiesTable layouts m q → Expanded layouts bytes p q
