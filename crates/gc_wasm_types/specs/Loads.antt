-- What loading a reference by its raw word wants, answers and leaves.
use Rattle.std.specs.Prelude.{◌≡◌, ℕ, ◌≤◌, ◌<◌, Bool, false, Option, Some, None, Result, Ok, Err}
use Rattle.std.specs.Option.{option_map}
use Rattle.gc_types.specs.declared.kind.Layouts.{Layouts}
use Rattle.gc_model.specs.Values.{Reference, null, small}
use Rattle.gc_model.specs.Table.{Table}
use Rattle.gc_model.specs.Stores.{StoreView}
use Rattle.gc_model.specs.Holds.{Placing, Holds, IsWord}
use Rattle.gc_model.specs.Accounts.{Account}
use Rattle.gc_values.specs.declared.root.RootFault.{RootFault}
use Rattle.gc_values.specs.declared.root.RootFault.TheVariants as fault
use Rattle.gc_rooted.specs.declared.owned_rooted.OwnedRooted.{OwnedRooted}
use Rattle.gc_store.specs.OwnedWords.{HoldsThere}
use Rattle.gc_store.specs.RawWords.{PushesWord, OwnsReference}
use Rattle.gc_store.specs.Stores.{scoped_places}
use Rattle.gc_store.specs.Kinds.{IsReferenceOfKind, NamesKind}
use Rattle.gc_wasm_types.specs.Values.{WasmValue, absent, number, handle, WasmKind, numbers, references, Manner, by_number, scoped, owned}

-- a new owned root for the reference with a word, by a typed handle; null gets none
abbrev pub OwnsWordOf : {D T : Type 0} → Layouts → Table D → Account → Reference → Result (Option (OwnedRooted T)) RootFault → StoreView D → Type 0
OwnsWordOf layouts t a r (Ok found) new = OwnsReference layouts t a r (Ok (option_map (λ (h : OwnedRooted _). h.index) found)) new
OwnsWordOf layouts t a r (Err why) new = OwnsReference layouts t a r (Err why) new

-- a reference is one that a type takes
abbrev pub IsOfWasmKind : {D : Type 0} → WasmKind → Table D → Reference → Type 0
IsOfWasmKind numbers t r = (n : ℕ) × (r ≡ small n)
IsOfWasmKind (references kind) t r = IsReferenceOfKind kind t r

-- the word is that of such a reference, in some table that the store holds
pub record IsWordOfWasmKind (D : Type 0) (layouts : Layouts) (s : StoreView D) (kind : WasmKind) (word : ℕ) : Type 0 where
  pub table : Table D
  pub place : Placing
  pub holds : Holds layouts s table place
  pub root : Reference
  pub is_word : IsWord place root word
  pub of_kind : IsOfWasmKind kind table root

-- the word may be loaded: it is that of such a reference, or 0 where null is taken
pub record CanLoad (D : Type 0) (layouts : Layouts) (s : StoreView D) (kind : WasmKind) (nullable : Bool) (word : ℕ) : Type 0 where
  pub present : nullable ≡ false → 0 < word
  pub word_of : 0 < word → IsWordOfWasmKind D layouts s kind word

-- The value is that reference; it has a new root of its own, where it has one. Null and numbers have none. Objects lie where they
-- lay, but where an owned root is made.
abbrev pub LoadsValue : {D : Type 0} → Manner → Layouts → Table D → Placing → Account → Reference → WasmValue → StoreView D → Type 0
LoadsValue by_number layouts t place a r absent new = (r ≡ null) × HoldsThere layouts new t place a
LoadsValue by_number layouts t place a r (number n) new = (r ≡ small n) × HoldsThere layouts new t place a
LoadsValue by_number layouts t place a r (handle h) new = ⊥
LoadsValue scoped layouts t place a r absent new = PushesWord layouts t place a r (Ok None) new
LoadsValue scoped layouts t place a r (number n) new = ⊥
LoadsValue scoped layouts t place a r (handle h) new = PushesWord layouts t place a r (Ok (Some h)) new
LoadsValue owned layouts t place a r absent new = OwnsReference layouts t a r (Ok None) new
LoadsValue owned layouts t place a r (number n) new = ⊥
LoadsValue owned layouts t place a r (handle h) new = OwnsReference layouts t a r (Ok (Some h)) new

-- why no value is loaded: a root can't be made
abbrev pub RefusesLoad : {D : Type 0} → Manner → Layouts → Table D → Placing → Account → Reference → RootFault → StoreView D → Type 0
RefusesLoad by_number layouts t place a r why new = ⊥
RefusesLoad scoped layouts t place a r why new = PushesWord layouts t place a r (Err why) new
RefusesLoad owned layouts t place a r why new = OwnsReference layouts t a r (Err why) new

-- the handle of a value names a reference that its type takes
abbrev pub ValueIsOf : (D : Type 0) → Layouts → StoreView D → WasmKind → WasmValue → Type 0
ValueIsOf D layouts s kind absent = Unit {0}
ValueIsOf D layouts s kind (number n) = Unit {0}
ValueIsOf D layouts s numbers (handle h) = ⊥
ValueIsOf D layouts s (references kind) (handle h) = NamesKind D layouts s kind h

-- no room for scoped roots is lost but to one that is made
abbrev pub KeepsRoom : {D : Type 0} → Manner → StoreView D → StoreView D → Type 0
KeepsRoom by_number old new = old.spare ≤ new.spare
KeepsRoom scoped old new = scoped_places old ≤ scoped_places new
KeepsRoom owned old new = old.spare ≤ new.spare

-- A number wants no memory; nor does a scoped root where there is room for one.
abbrev pub WantsNoMemory : {D A : Type 0} → Manner → StoreView D → Result A RootFault → Type 0
WantsNoMemory by_number old result = result ≡ Err fault.Memory → ⊥
WantsNoMemory scoped old result = 0 < old.spare → result ≡ Err fault.Memory → ⊥
WantsNoMemory owned old result = Unit {0}
