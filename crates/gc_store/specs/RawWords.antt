-- Of which kind a raw word is, and what calls that take a reference by one answer and leave.
use Rattle.std.specs.Prelude.{◌≡◌, ℕ, ◌<◌, Option, Some, None, Result, Ok, Err}
use Rattle.gc_types.specs.declared.kind.Layouts.{Layouts}
use Rattle.gc_types.specs.declared.kind.VMGcKind.{VMGcKind}
use Rattle.gc_model.specs.Values.{Reference, null}
use Rattle.gc_model.specs.Table.{Table, push}
use Rattle.gc_model.specs.Stores.{StoreView}
use Rattle.gc_model.specs.Holds.{Placing, Holds, IsWord}
use Rattle.gc_model.specs.Accounts.{Account, HoldsAccount}
use Rattle.gc_values.specs.declared.root.GcRootIndex.{GcRootIndex}
use Rattle.gc_values.specs.declared.root.RootFault.{RootFault}
use Rattle.gc_store.specs.Handles.{PushesRoot}
use Rattle.gc_store.specs.Kinds.{IsReferenceOfKind}
use Rattle.gc_store.specs.OwnedWords.{HoldsThere, OwnsWord}

-- the word is that of a reference of that kind, in some table that the store holds
pub record IsWordOfKind (D : Type 0) (layouts : Layouts) (s : StoreView D) (kind : VMGcKind) (word : ℕ) : Type 0 where
  pub table : Table D
  pub place : Placing
  pub holds : Holds layouts s table place
  pub root : Reference
  pub is_word : IsWord place root word
  pub of_kind : IsReferenceOfKind kind table root

-- the word is 0, or that of a reference of that kind
abbrev pub IsRawWord : (D : Type 0) → Layouts → StoreView D → VMGcKind → ℕ → Type 0
IsRawWord D layouts s kind word = 0 < word → IsWordOfKind D layouts s kind word

-- A new scoped root for the reference with a word. Null gets none. Objects lie where they lay.
abbrev pub PushesWord : {D : Type 0} → Layouts → Table D → Placing → Account → Reference → Result (Option GcRootIndex) RootFault → StoreView D → Type 0
PushesWord layouts t place a r (Ok None) new = (r ≡ null) × HoldsThere layouts new t place a
PushesWord layouts t place a r (Ok (Some handle)) new = PushesRoot layouts t a r (Ok handle) new × HoldsThere layouts new (push r t) place a
PushesWord layouts t place a r (Err why) new = PushesRoot layouts t a r (Err why) new

-- A new owned root for it. Null gets none. No scoped root is made.
abbrev pub OwnsReference : {D : Type 0} → Layouts → Table D → Account → Reference → Result (Option GcRootIndex) RootFault → StoreView D → Type 0
OwnsReference layouts t a r (Ok None) new = (r ≡ null) × HoldsAccount layouts new t a
OwnsReference layouts t a r (Ok (Some made)) new = OwnsWord layouts t a r (Ok made) new
OwnsReference layouts t a r (Err why) new = OwnsWord layouts t a r (Err why) new
