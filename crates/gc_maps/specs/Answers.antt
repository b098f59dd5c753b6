-- What calls on maps answer and leave, for a table that the store held.
use Rattle.std.specs.Prelude.{ℕ, List, Option, Result, Ok, Err, length}
use Rattle.gc_types.specs.declared.kind.Layouts.{Layouts}
use Rattle.gc_model.specs.Values.{Reference}
use Rattle.gc_model.specs.Allocation.{Limits}
use Rattle.gc_model.specs.Table.{Table, Owned, leave}
use Rattle.gc_model.specs.Stores.{StoreView}
use Rattle.gc_model.specs.Accounts.{HoldsAccount}
use Rattle.gc_lists.specs.declared.fault.ListFault.{ListFault}
use Rattle.gc_lists.specs.declared.fault.ListFault.TheVariants as fault
use Rattle.gc_lists.specs.declared.kit.Kit.{Kit}
use Rattle.gc_lists.specs.Answers.{AnswersVersion}
use Rattle.gc_lists.specs.Frames.{ChangesObjects, Leaves, most_objects}
use Rattle.gc_lists.specs.Refusals.{LacksOwned, RefusedInCall}
use Rattle.gc_maps.specs.declared.map.HeapMap.{HeapMap}
use Rattle.gc_maps.specs.Ends.{LacksNode}
use Rattle.gc_maps.specs.Maps.{IntMap, IsMap}

-- the reference is that map, with nodes of that type
abbrev pub AreEntries : {D : Type 0} → ℕ → IntMap → Table D → Reference → Type 0
AreEntries ty m t r = IsMap t.types t.objects ty m r

-- inside the call the heap had no room for a node, behind those that the call had made, and got no more; then the scope was left
pub record LacksNodes {D : Type 0} (layouts : Layouts) (counter : Option ℕ) (kit : Kit) (t : Table D) (limits limits' : Limits) (need : ℕ) (new : StoreView D) : Type 0 where
  pub inside : StoreView D
  pub lacks : LacksNode layouts counter kit most_objects most_objects t limits limits' need inside
  pub refused : RefusedInCall need limits limits' lacks.lacks.after.table
  pub left : HoldsAccount layouts new (leave (length t.scoped) lacks.lacks.after.table) lacks.lacks.after.account

-- nodes may be made, under the limit of a limiter
abbrev pub ChangesNodes : {D : Type 0} → Kit → Limits → Table D → List Owned → Table D → Type 0
ChangesNodes kit limits t = ChangesObjects limits.limit kit most_objects t

-- What a call answers and leaves that makes another map; a limiter tells these limits before and after, of which the greatest number of pages is the same.
abbrev pub AnswersMap : {D : Type 0} → Layouts → Option ℕ → Kit → IntMap → Table D → Limits → Limits → Result HeapMap ListFault → StoreView D → Type 0
AnswersMap layouts counter kit m t limits limits' (Ok map) new = AnswersVersion layouts t (ChangesNodes kit limits' t) (AreEntries kit.node m) map.root new
AnswersMap layouts counter kit m t limits limits' (Err fault.WrongStore) new = ⊥
AnswersMap layouts counter kit m t limits limits' (Err fault.RootsFull) new = LacksOwned t × Leaves layouts (ChangesNodes kit limits' t t.owned) new
AnswersMap layouts counter kit m t limits limits' (Err (fault.HeapOutOfMemory f)) new =
    LacksNodes layouts counter kit t limits limits' f.bytes_needed new × Leaves layouts (ChangesNodes kit limits' t t.owned) new
AnswersMap layouts counter kit m t limits limits' (Err fault.Memory) new = Leaves layouts (ChangesNodes kit limits' t t.owned) new
