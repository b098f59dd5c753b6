-- References by their raw words, by typed handles.
use Rattle.std.specs.Prelude.{Option, Result, Ok, Err}
use Rattle.gc_types.specs.declared.kind.Layouts.{Layouts}
use Rattle.gc_model.specs.Values.{Reference}
use Rattle.gc_model.specs.Table.{Table}
use Rattle.gc_model.specs.Stores.{StoreView}
use Rattle.gc_model.specs.Holds.{Placing}
use Rattle.gc_model.specs.Accounts.{Account}
use Rattle.gc_values.specs.declared.root.RootFault.{RootFault}
use Rattle.gc_rooted.specs.declared.rooted.Rooted.{Rooted}
use Rattle.gc_store.specs.RawWords.{PushesWord}
use Rattle.gc_objects.specs.Given.{root_of_handle}

-- a new scoped root for the reference with a word, by a typed handle; null gets none
abbrev pub TakesWord : {D T : Type 0} → Layouts → Table D → Placing → Account → Reference → Result (Option (Rooted T)) RootFault → StoreView D → Type 0
TakesWord layouts t place a r (Ok found) new = PushesWord layouts t place a r (Ok (root_of_handle found)) new
TakesWord layouts t place a r (Err why) new = PushesWord layouts t place a r (Err why) new
