-- What the call answers and leaves.
use Rattle.std.specs.Prelude.{◌≡◌, ◌+◌, ℕ, List, ◌++◌, sum_by, slice_get}
use Rattle.gc_types.specs.declared.kind.Layouts.{Layouts}
use Rattle.gc_model.specs.Reach.{AreAll, slot_references}
use Rattle.gc_model.specs.Stores.{StoreView}
use Rattle.gc_model.specs.Table.{Table, Push}
use Rattle.gc_model.specs.Accounts.{Account, HoldsAccount}
use Rattle.gc_image.specs.Images.{IsGlobal}
use Rattle.gc_paths.specs.Answers.{LacksRoots, drops_after, held_count, present_count}
use Rattle.gc_save_image.specs.Collection.{HasPlainValues, IsCollection}
use Rattle.gc_save_image.specs.declared.collect.Collected.{Collected}
use Rattle.gc_save_image.specs.declared.collect_fault.CollectFault.{CollectFault}
use Rattle.gc_save_image.specs.declared.collect_fault.CollectFault.TheVariants as fault

-- How many roots a call pushes that looks at each global and at each reference of the objects that these reach: one for each
-- that isn't null.
pub record NeedsImageRoots {D : Type 0} (t : Table D) (count : ℕ) : Type 0 where
  pub reached : List ℕ
  pub are : AreAll (IsGlobal t) reached
  pub count_is : count ≡ present_count (slot_references t.globals) + sum_by (λ p. held_count (slice_get t.objects p)) reached

-- the lines are what the globals reach, where no object has a function or a continuation, and there is room for the roots that this needs
pub record CollectsImage (t : Table ℕ) (collected : Collected) : Type 0 where
  pub collection : HasPlainValues t → IsCollection t collected
  pub count : ℕ
  pub needs : NeedsImageRoots t count
  pub room : ¬ LacksRoots t count

-- there is no room for them
abbrev pub LacksImageRoots : {D : Type 0} → Table D → Type 0
LacksImageRoots t = (count : ℕ) × (NeedsImageRoots t count × LacksRoots t count)

-- why nothing is collected
abbrev pub RefusesCollection : {D : Type 0} → Table D → CollectFault → Type 0
RefusesCollection t fault.RootsFull = LacksImageRoots t
RefusesCollection t fault.Memory = Unit {0}

-- Roots were pushed and are gone. Nothing else changed.
pub record DropsImageRoots {D : Type 0} (layouts : Layouts) (t : Table D) (a : Account) (new : StoreView D) : Type 0 where
  pub more : List Push
  pub holds : HoldsAccount layouts new (record t { pushes = t.pushes ++ more; drops = drops_after t.drops more }) a
