-- What a report says where there is one.
use Rattle.std.proofs.Common.{ℕ, List, Result, Ok, Err, IfOk}
use Rattle.gc_types.specs.declared.kind.Layouts.{Layouts}
use Rattle.gc_model.specs.Allocation.{Limits}
use Rattle.gc_model.specs.Holds.{HoldsKept, HoldsTable}
use Rattle.gc_model.specs.Stores.{StoreView}
use Rattle.gc_model.specs.Table.{Table}
use Rattle.gc_load_image.specs.Loads.{Loaded}
use Rattle.gcsh_reports.specs.Loading.{CountsKept, HoldsLoaded, TellsLoad, loaded}

-- what is said of an answer, in other words
pub if_ok : {T E : Type 0} (r : Result T E) (A B : T → Type 0) → ((x : T) → A x → B x) → IfOk r A → IfOk r B
if_ok (Ok x) A B goes said = goes x said
if_ok (Err e) A B goes said = tt

-- an image was loaded, and the heap collected
pub holds_loaded : (layouts : Layouts) (n : ℕ) (bytes : List ℕ) (mid new : StoreView ℕ) → Loaded layouts bytes n mid → ((t : Table ℕ) → HoldsTable layouts mid t → HoldsKept layouts new t) → HoldsLoaded layouts bytes new
holds_loaded layouts n bytes mid new is kept = record { table = is.table; images = is.images; alone = is.alone; kept = kept is.table (is.holds.place, is.holds.holds) }

pub tells_loaded : (layouts : Layouts) (most n : ℕ) (bytes text : List ℕ) (limits limits' : Limits) (mid new : StoreView ℕ) → Loaded layouts bytes n mid → ((t : Table ℕ) → HoldsTable layouts mid t → HoldsKept layouts new t)
    → ((t : Table ℕ) → HoldsKept layouts new t → CountsKept layouts t text) → TellsLoad layouts most bytes limits limits' text new
tells_loaded layouts most n bytes text limits limits' mid new is kept counts =
    let held = holds_loaded layouts n bytes mid new is kept in
    loaded (record { held = held; counts = counts held.table held.kept })
