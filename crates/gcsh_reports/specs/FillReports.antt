-- What the report says of a map that was filled.
use Rattle.std.specs.Prelude.{◌≡◌, ◌++◌, [], ◌∷◌, ℕ, ℤ, unsigned_abs, List, Option, Ok, codes, sum_by}
use Rattle.std.specs.FinMap as finite
use Rattle.std.specs.Fmt.{decimal}
use Rattle.gc_types.specs.declared.kind.Layouts.{Layouts}
use Rattle.gc_types.specs.declared.kind.Layouts.TheVariants.{Null, Counting, Copying}
use Rattle.gc_model.specs.Allocation.{Limits, MayHave}
use Rattle.gc_model.specs.Holds.{HoldsKept}
use Rattle.gc_model.specs.Reach.{HasNumber, IsKept}
use Rattle.gc_model.specs.Stores.{StoreView}
use Rattle.gc_model.specs.Table.{Table}
use Rattle.gc_model.specs.Accounts.{Account, HoldsAccount}
use Rattle.gc_store.specs.Stores.{IsSameStore}
use Rattle.gc_lists.specs.declared.fault.ListFault.TheVariants as fault
use Rattle.gc_lists.specs.declared.kit.Kit.{Kit}
use Rattle.gc_lists.specs.Frames.{ChangesOwned}
use Rattle.gc_lists.specs.Kits.{MakesKit}
use Rattle.gc_maps.specs.Copies.{FailsToCopyEntries}
use Rattle.gc_maps.specs.Maps.{IntMap, StandsForMapOf}
use Rattle.gcsh_reports.specs.Filling.{Fills, InsertProgress}

-- the sum of the values, none of which is negative
abbrev pub sum_of : IntMap → ℕ
sum_of m = sum_by (λ (entry : ℤ × ℤ). unsigned_abs entry.1) (finite.entries m)

-- a line of the report: a name and a number
abbrev pub number_line : List ℕ → ℕ → List ℕ
number_line name n = name ++ 32 ∷ (decimal n ++ 10 ∷ [])

abbrev pub fill_text : ℕ → ℕ → ℕ → ℕ → List ℕ
fill_text entries refused held sum =
    number_line (codes "entries") entries ++ (number_line (codes "refused") refused ++ (number_line (codes "held") held ++ number_line (codes "sum") sum))

-- A kit was made in the store, and so many inserts became of this with it.
pub record FilledMap (layouts : Layouts) (limits : Limits) (inserts : ℕ) (old : StoreView ℕ) (kit : Kit) (p : InsertProgress) : Type 0 where
  pub start : StoreView ℕ
  pub kit_made : (t : Table ℕ) (a : Account) → HoldsAccount layouts old t a → MakesKit layouts t a (Ok kit) start
  pub fills : Fills layouts limits kit inserts start inserts p

-- A heap that frees holds an object for each entry, and no other; a null heap holds what was made.
abbrev pub HoldsEntries : Layouts → ℕ → ℕ → Type 0
HoldsEntries Null entries held = Unit {0}
HoldsEntries Counting entries held = held ≡ entries
HoldsEntries Copying entries held = held ≡ entries

-- The text says how many entries the map has, how many inserts were refused, how many objects a collection keeps, which the store alone
-- holds then, and what the sum of the values is. Behind the inserts no object came, and no owned root came or went. The limit grants
-- the pages that the heap has.
pub record TellsFilled (layouts : Layouts) (limits : Limits) (inserts : ℕ) (old : StoreView ℕ) (text : List ℕ) (new : StoreView ℕ) : Type 0 where
  pub kit : Kit
  pub done : InsertProgress
  pub filled : FilledMap layouts limits inserts old kit done
  pub before : Table ℕ
  pub account : Account
  pub holds : HoldsAccount layouts done.store before account
  pub table : Table ℕ
  pub changed : ChangesOwned before before.owned table
  pub same : IsSameStore done.store new
  pub kept : HoldsKept layouts new table
  pub stands : StandsForMapOf new table done.version kit.node done.entries
  pub within : MayHave limits.limit table.pages
  pub held : ℕ
  pub held_is : HasNumber (IsKept layouts table) held
  pub held_entries : HoldsEntries layouts (finite.len done.entries) held
  pub text_is : text ≡ fill_text (finite.len done.entries) done.refused held (sum_of done.entries)

-- The entries could not be read for want of roots: the text is the name of that refusal. The limit grants the heap's pages.
pub record TellsFull (layouts : Layouts) (limits : Limits) (inserts : ℕ) (old : StoreView ℕ) (text : List ℕ) (new : StoreView ℕ) : Type 0 where
  pub kit : Kit
  pub done : InsertProgress
  pub filled : FilledMap layouts limits inserts old kit done
  pub table : Table ℕ
  pub account : Account
  pub holds : HoldsAccount layouts done.store table account
  pub within : MayHave limits.limit table.pages
  pub fails : FailsToCopyEntries layouts done.entries table fault.RootsFull new
  pub text_is : text ≡ codes "RootsFull" ++ 10 ∷ []

-- what the report says of a map that got so many inserts in a store, by what the limiter told at first
pub data TellsFill (layouts : Layouts) (limits : Limits) (inserts : ℕ) (old : StoreView ℕ) (text : List ℕ) (new : StoreView ℕ) : Type 0 where
  filled : TellsFilled layouts limits inserts old text new → TellsFill layouts limits inserts old text new
  full : TellsFull layouts limits inserts old text new → TellsFill layouts limits inserts old text new
