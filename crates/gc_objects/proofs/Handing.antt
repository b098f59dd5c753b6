-- What the store answers to a request, by the faults of the call.
use Rattle.std.proofs.Common.{◌≡◌, ℕ, Option, Result, Ok, Err, sym, subst}
use Rattle.gc_types.specs.declared.kind.Layouts.{Layouts}
use Rattle.gc_model.specs.Values.{Object}
use Rattle.gc_model.specs.Allocation.{Limits}
use Rattle.gc_model.specs.Stores.{StoreView}
use Rattle.gc_model.specs.Policy.{PolicyState}
use Rattle.gc_values.specs.declared.root.GcRootIndex.{GcRootIndex}
use Rattle.gc_values.specs.declared.faults.PlaceFault.{PlaceFault}
use Rattle.gc_values.specs.declared.faults.PlaceFault.TheVariants as place
use Rattle.gc_store.specs.Places.{Places}
use Rattle.gc_objects.specs.Makes.{Fault, place_answer, MakesAsked}

module _ {D : Type 0} (layouts : Layouts) (counter : Option ℕ) (o : Object D) (p : PolicyState D) (limits' : Limits) (new : StoreView D) where
  abbrev Asked : Result GcRootIndex Fault → Type 0
  Asked q = MakesAsked layouts counter o p limits' q new

  by_answer : (answer : Result GcRootIndex PlaceFault) → Places layouts counter o p limits' answer new → Asked (place_answer answer)
  by_answer (Ok root) places = places
  by_answer (Err place.FuncTableFull) places = places
  by_answer (Err place.ContTableFull) places = places
  by_answer (Err place.TooLarge) places = record { large = places.0; has_ids = λ few. places.2; refuses = places.1 }
  by_answer (Err place.RootsFull) places = places
  by_answer (Err (place.HeapOutOfMemory f)) places = places
  by_answer (Err place.Memory) places = places

  pub handed_on : (result : Result GcRootIndex Fault) (answer : Result GcRootIndex PlaceFault) → result ≡ place_answer answer → Places layouts counter o p limits' answer new → Asked result
  handed_on result answer is places = subst Asked (sym is) (by_answer answer places)
