-- A type that a command declares is declared in the store.
use Rattle.std.proofs.Common.{◌≡◌, ℕ, ◌<◌, length, get_or, List, [], ◌∷◌, ◌++◌, append_assoc, drop, Some, Result, Ok, Err, true, sym, ap, ◌∙◌, subst}
use Rattle.std.proofs.lemmas.List.{append-nil}
use Rattle.gc_types.specs.declared.kind.Layouts.{Layouts}
use Rattle.gc_types.specs.declared.types.TypeFault.{TypeFault}
use Rattle.gc_types.specs.declared.types.TypeFault.TheVariants as type_fault
use Rattle.gc_types.specs.Declarable.{Declarable}
use Rattle.gc_types.specs.Declarations.{Declaration, TypeName}
use Rattle.gc_commands.specs.declared.command.Command.{Command}
use Rattle.gc_model.specs.Stores.{StoreView}
use Rattle.gc_model.specs.Table.{Table}
use Rattle.gc_model.specs.Accounts.{Account, HoldsAccount}
use Rattle.gc_store.specs.Stores as store
use Rattle.gc_image.specs.Declaring.{DeclareInTurn, declared_by}
use Rattle.gc_image.specs.Steps.{Declared}
use Rattle.gc_image.proofs.TurnLemmas.{InTurn, turn_none}
use Rattle.std.specs.Prelude.{MatchResult}
use Rattle.std.specs.Result.{IsErrAnd}
use Rattle.gc_load_image.specs.declared.fault.LoadFault.{LoadFault}
use Rattle.gc_load_image.specs.declared.fault.LoadFault.TheVariants as fault
use Rattle.gc_load_image.specs.Loads.{AreFirstTypes}
use Rattle.gc_load_image.specs.Stages.{DeclaresAll, DeclaresType, KeepsButTypes, told_of_type, with_types}

abbrev pub SomeTable : Layouts → StoreView ℕ → Type 0
SomeTable layouts s = (t : Table ℕ) × ((a : Account) × HoldsAccount layouts s t a)

module _ (layouts : Layouts) (old new : StoreView ℕ) (command : Command) (d : Declaration) (held : SomeTable layouts old) (spelled : declared_by old.types command ≡ Some d) where
  pub declared_one : (ty : TypeName) → ((t : Table ℕ) (a : Account) → HoldsAccount layouts old t a → store.Declares layouts d t a (Ok ty) new) → Declared old.types command new.types true
  declared_one ty step =
      let t = held.0 in
      let before = held.1.1.holds.types in
      let did = step t held.1.0 held.1.1 in
      let declarable : Declarable old.types d = subst (λ (ts : List Declaration). Declarable ts d) (sym before) did.0 in
      (d, (record { spelled = spelled; declarable = declarable }, did.1.1.holds.types ∙ ap (λ (ts : List Declaration). ts ++ d ∷ []) (sym before)))

  one_spelled : (e : Declaration) → declared_by old.types command ≡ Some e → d ≡ e
  one_spelled e other = let both : Some d ≡ Some e = sym spelled ∙ other in cc

  not_declared : (why : TypeFault) → ((t : Table ℕ) (a : Account) → HoldsAccount layouts old t a → store.Declares layouts d t a (Err why) new) → DeclaresType command old.types new.types (Err (told_of_type why))
  not_declared type_fault.BadType step = λ e declares.
      let t = held.0 in
      let before = held.1.1.holds.types in
      let did = step t held.1.0 held.1.1 in
      did.0 (subst (λ (ts : List Declaration). Declarable ts d) before (subst (Declarable old.types) (sym (one_spelled e declares.spelled)) declares.declarable))
  not_declared type_fault.Memory step = (step held.0 held.1.0 held.1.1).holds.types ∙ sym held.1.1.holds.types

  pub declared_none : (why : TypeFault) (told : LoadFault) → told ≡ told_of_type why → ((t : Table ℕ) (a : Account) → HoldsAccount layouts old t a → store.Declares layouts d t a (Err why) new) → DeclaresType command old.types new.types (Err told)
  declared_none why told is step = subst (λ (f : LoadFault). DeclaresType command old.types new.types (Err f)) (sym is) (not_declared why step)

-- in turn

-- a store holds its tables with its own types
pub keeps_own : (layouts : Layouts) (s : StoreView ℕ) → KeepsButTypes layouts s s
keeps_own layouts s t a holds = subst (λ (ts : List Declaration). HoldsAccount layouts s (with_types ts t) a) (sym holds.holds.types) holds

pub keeps_twice : (layouts : Layouts) (old mid new : StoreView ℕ) → KeepsButTypes layouts old mid → KeepsButTypes layouts mid new → KeepsButTypes layouts old new
keeps_twice layouts old mid new one two t a holds = two (with_types mid.types t) a (one t a holds)

-- the types so far are the first of those that are declared in turn
pub turn_front : (types : List Declaration) (commands : List Command) (all : List Declaration) → DeclareInTurn types commands all → AreFirstTypes types all
turn_front types [] all turn = ([], sym turn ∙ sym (append-nil types))
turn_front types (command ∷ commands) all turn =
    let rest = turn_front (types ++ turn.0 ∷ []) commands all turn.1.1 in
    (turn.0 ∷ rest.0, rest.1 ∙ append_assoc types (turn.0 ∷ []) rest.0)

-- a declaration that stopped stops all
pub stops_in_turn : (commands : List Command) (types new : List Declaration) (i : ℕ) (command : Command) → i < length commands → command ≡ get_or commands i command → InTurn commands types i
    → (why : LoadFault) → DeclaresType command types new (Err why) → DeclaresAll commands new (Err why)
stops_in_turn commands types new i command below is turn fault.BadImage none = turn_none commands types i command below is new none turn
stops_in_turn commands types new i command below is turn fault.TooLarge none = none
stops_in_turn commands types new i command below is turn fault.RootsFull none = none
stops_in_turn commands types new i command below is turn (fault.HeapOutOfMemory f) none = none
stops_in_turn commands types new i command below is turn fault.Memory same = λ all start. subst (λ (ts : List Declaration). AreFirstTypes ts all) (sym same) (turn_front types (drop i commands) all (turn.onward all start))

-- an error that is handed on
pub err_is : {A E : Type 0} (r : Result A E) (why : E) → IsErrAnd r (λ (e : E). e ≡ why) → r ≡ Err why
err_is (Ok x) why told = absurd told
err_is (Err e) why told = ap Err told

pub err_matches : {A E : Type 0} (r : Result A E) (why : E) (P : A → Type 0) (Q : E → Type 0) → IsErrAnd r (λ (e : E). e ≡ why) → Q why → MatchResult r P Q
err_matches (Ok x) why P Q told holds = absurd told
err_matches (Err e) why P Q told holds = subst Q (sym told) holds
