-- What was loaded, as a value.
use Rattle.std.proofs.Common.{◌≡◌, ◌↔◌, ℕ, Option, Some, None, Result, Ok, Err, ap, arith}
use Rattle.std.specs.Option.{option_map}
use Rattle.std.specs.Prelude.{IfOk, IfSome, MatchResult}
use Rattle.gc_types.specs.declared.kind.Layouts.{Layouts}
use Rattle.gc_types.specs.declared.kind.VMGcKind.{VMGcKind}
use Rattle.gc_model.specs.Holds.{Placing}
use Rattle.gc_model.specs.Stores.{StoreView}
use Rattle.gc_model.specs.Table.{Table}
use Rattle.gc_model.specs.Values.{Reference}
use Rattle.gc_model.specs.Accounts.{Account}
use Rattle.gc_rooted.specs.declared.owned_rooted.OwnedRooted.{OwnedRooted}
use Rattle.gc_values.specs.declared.root.RootFault.{RootFault}
use Rattle.gc_values.specs.declared.root.RootFault.TheVariants as fault
use Rattle.gc_rooted.specs.declared.rooted.Rooted.{Rooted}
use Rattle.gc_store.specs.Kinds.{NamesKind}
use Rattle.gc_objects.specs.Given.{root_of_handle}
use Rattle.gc_objects.specs.RawWords.{TakesWord}
use Rattle.gc_wasm_types.specs.Loads.{OwnsWordOf, LoadsValue, RefusesLoad, ValueIsOf, WantsNoMemory}
use Rattle.gc_wasm_types.specs.Values.{handle, or_absent, references, Manner, by_number, scoped, owned}

module _ {D T : Type 0} (layouts : Layouts) (t : Table D) (place : Placing) (a : Account) (r : Reference) (new : StoreView D) where
  -- a handle that is there, or null
  pub scoped_loads : (result : Result (Option (Rooted T)) RootFault) → TakesWord layouts t place a r result new
      → MatchResult result (λ v. LoadsValue scoped layouts t place a r (or_absent (λ (h : Rooted T). handle h.index) v) new) (λ why. RefusesLoad scoped layouts t place a r why new)
  scoped_loads (Ok None) told = told
  scoped_loads (Ok (Some h)) told = told
  scoped_loads (Err why) told = told

  pub owned_loads : (result : Result (Option (OwnedRooted T)) RootFault) → OwnsWordOf layouts t a r result new
      → MatchResult result (λ v. LoadsValue owned layouts t place a r (or_absent (λ (h : OwnedRooted T). handle h.index) v) new) (λ why. RefusesLoad owned layouts t place a r why new)
  owned_loads (Ok None) told = told
  owned_loads (Ok (Some h)) told = told
  owned_loads (Err why) told = told

module _ (D : Type 0) {T : Type 0} (layouts : Layouts) (new : StoreView D) (kind : VMGcKind) where
  pub scoped_kinds : (result : Result (Option (Rooted T)) RootFault) → IfOk result (λ found. IfSome found (λ h. NamesKind D layouts new kind h.index))
      → IfOk result (λ v. ValueIsOf D layouts new (references kind) (or_absent (λ (h : Rooted T). handle h.index) v))
  scoped_kinds (Ok None) told = tt
  scoped_kinds (Ok (Some h)) told = told
  scoped_kinds (Err why) told = tt

  pub owned_kinds : (result : Result (Option (OwnedRooted T)) RootFault) → IfOk result (λ found. IfSome found (λ h. NamesKind D layouts new kind h.index))
      → IfOk result (λ v. ValueIsOf D layouts new (references kind) (or_absent (λ (h : OwnedRooted T). handle h.index) v))
  owned_kinds (Ok None) told = tt
  owned_kinds (Ok (Some h)) told = told
  owned_kinds (Err why) told = tt

-- null alone is told by no root
pub scoped_null : {T : Type 0} (word : ℕ) (result : Result (Option (Rooted T)) RootFault) → IfOk result (λ found. (root_of_handle found ≡ None) ↔ (word ≡ 0)) → IfOk result (λ found. (option_map (λ (h : Rooted T). h.index) found ≡ None) ↔ (word ≡ 0))
scoped_null word (Ok None) told = told
scoped_null word (Ok (Some h)) told = told
scoped_null word (Err why) told = tt

-- What was loaded wanted no memory, and a refusal tells the same of a value as of an option
pub loaded_wants_none : {D A : Type 0} (m : Manner) (old : StoreView D) (x : A) → WantsNoMemory m old (Ok x)
loaded_wants_none by_number old x = λ e. absurd (cc e)
loaded_wants_none scoped old x = λ room e. absurd (cc e)
loaded_wants_none owned old x = tt

-- a refusal of a call that answers an A
abbrev pub refusal_of : (A : Type 0) → RootFault → Result A RootFault
refusal_of A f = Err f

pub refused_wants : {D : Type 0} (A B : Type 0) (m : Manner) (old : StoreView D) (f : RootFault) → WantsNoMemory m old (refusal_of A f) → WantsNoMemory m old (refusal_of B f)
refused_wants A B by_number old f told = λ e. let is : f ≡ fault.Memory = grind (arith, e) in told (ap (refusal_of A) is)
refused_wants A B scoped old f told = λ room e. let is : f ≡ fault.Memory = grind (arith, e) in told room (ap (refusal_of A) is)
refused_wants A B owned old f told = tt
