-- What reading a node's key answers.
use Rattle.std.proofs.Common.{◌≡◌, ℕ, ℤ, ◌≤◌, length, Some, Ok, Err, true, false, sym, ap, ◌∙◌, refl, subst, arith}
use Rattle.std.specs.List.{slice_get}
use Rattle.std.specs.Int.{w64, cast_signed, cast_unsigned}
use Rattle.std.specs.Prelude.{FitsSigned}
use Rattle.std.proofs.lemmas.Int.{to_z-of_z}
use Rattle.std.proofs.lemmas.Option.{slice_get_within}
use Rattle.gc_types.specs.declared.kind.Layouts.{Layouts}
use Rattle.gc_model.specs.Values.{at, Value, Object, number_bits}
use Rattle.gc_model.specs.Reach.{object_values}
use Rattle.gc_model.specs.Reads.{makes_root, after_read}
use Rattle.gc_model.specs.Table.{Table}
use Rattle.gc_model.specs.Stores.{StoreView}
use Rattle.gc_model.specs.Accounts.{Account, HoldsAccount}
use Rattle.gc_model.proofs.AccountLemmas.{some_account}
use Rattle.gc_values.specs.declared.root.GcRootIndex.{GcRootIndex}
use Rattle.gc_values.specs.declared.root.RawValue.TheVariants as raw
use Rattle.gc_store.specs.Roots.{NamesReference, HasValue}
use Rattle.gc_store.specs.Stores.{IsSameStore}
use Rattle.gc_store.specs.Values.{IsReadAs}
use Rattle.gc_store.proofs.HandleWords.{named_of_store}
use Rattle.gc_objects.specs.declared.faults.AccessFault.{AccessFault}
use Rattle.gc_objects.specs.declared.faults.AccessFault.TheVariants as access
use Rattle.gc_objects.specs.declared.val.Val.{Val}
use Rattle.gc_objects.specs.declared.val.Val.TheVariants as val
use Rattle.gc_objects.specs.Given.{raw_of}
use Rattle.gc_objects.specs.Reads.{ReadsAt}
use Rattle.gc_objects.proofs.Pushed.{names_once}
use Rattle.example_graph.specs.Entries.{key_value, key_in, IsGraphNode, KeepsEntries}
use Rattle.example_graph.proofs.EntriesKept.{accounts_kept, kept_at, keeps_read}

same_some : {A : Type 0} (x y : A) → Some x ≡ Some y → x ≡ y
same_some x y e = grind (arith, e)

-- the bits of a key tell it
from_bits : (z : ℤ) → FitsSigned w64 z → cast_signed w64 (number_bits w64 z) ≡ z
from_bits z fits = ap (λ y. cast_signed w64 (cast_unsigned w64 y)) (to_z-of_z w64 z fits) ∙ to_z-of_z w64 z fits

pub same_key : (x y : ℤ) → FitsSigned w64 x → FitsSigned w64 y → number_bits w64 x ≡ number_bits w64 y → x ≡ y
same_key x y fits fits' bits = sym (from_bits x fits) ∙ ap (cast_signed w64) bits ∙ from_bits y fits'

-- the key that a value is
key_given : (v : Val) (key : ℤ) → raw_of v ≡ raw.I64 key → key_in v ≡ key
key_given (val.I32 n) key is = absurd (cc is)
key_given (val.I64 n) key is = grind (arith, is)
key_given (val.F32 n) key is = absurd (cc is)
key_given (val.F64 n) key is = absurd (cc is)
key_given (val.V128 n) key is = absurd (cc is)
key_given (val.FuncRef f) key is = absurd (cc is)
key_given (val.ContRef cont) key is = absurd (cc is)
key_given (val.ExternRef handle) key is = absurd (cc is)
key_given (val.AnyRef handle) key is = absurd (cc is)
key_given (val.ExnRef handle) key is = absurd (cc is)

-- a read leaves entries
pub read_kept : (layouts : Layouts) (old new : StoreView ℕ) → IsSameStore old new → (handle : GcRootIndex) (index : ℕ) (v : Val)
    → ((t : Table ℕ) (a : Account) → HoldsAccount layouts old t a → ReadsAt layouts old t a handle index (Ok v) new) → KeepsEntries layouts old new
read_kept layouts old new same handle index v reads = accounts_kept layouts old new same (λ t a holds.
    let read = reads t a holds in kept_at layouts t (after_read read.0 t) (after_read read.0 t) a new read.1.1.1.1 refl (keeps_read t read.0))

module _ (layouts : Layouts) (old new : StoreView ℕ) (handle : GcRootIndex) (key : ℤ) (node : IsGraphNode layouts old handle key) where
  abbrev t : Table ℕ
  t = node.table

  -- what the handle names is the node's object
  named_object : (position : ℕ) (object : Object ℕ) → NamesReference old t handle (at position) → slice_get t.objects position ≡ Some object → object ≡ node.has.object
  named_object position object named is =
      let places : at position ≡ at node.has.position = names_once layouts old t node.holds handle (at position) (at node.has.position) named node.has.named in
      let place : position ≡ node.has.position = grind (arith, places) in
      same_some object node.has.object (sym is ∙ ap (slice_get t.objects) place ∙ node.has.object_is)

  has_key : (x : Value) → HasValue old t handle 0 x → x ≡ key_value key
  has_key x has =
      same_some x (key_value key)
      (sym has.value_at ∙ ap (λ (o : Object ℕ). slice_get (object_values o) 0) (named_object has.position has.object has.named has.object_is) ∙ node.has.value_at)

  no_root : (x : Value) → HasValue old t handle 0 x → makes_root x ≡ true → ⊥
  no_root x has makes = let none : makes_root x ≡ false = ap makes_root (has_key x has) in cc (sym none ∙ makes)

  -- no cause of a refusal is there
  not_refused : (a : Account) (why : AccessFault) → ReadsAt layouts old t a handle 0 (Err why) new → ⊥
  not_refused a access.WrongStore other = cc (sym other ∙ named_of_store old t handle (at node.has.position) node.has.named)
  not_refused a access.Unrooted gone = gone.1 (at node.has.position) node.has.named
  not_refused a access.OutOfBounds outside =
      let same = named_object outside.position outside.object outside.named outside.object_is in
      let within = slice_get_within (object_values node.has.object) 0 (key_value key) node.has.value_at in
      let none : length (object_values node.has.object) ≤ 0 = subst (λ (o : Object ℕ). length (object_values o) ≤ 0) same outside.outside in
      omega (arith, within, none)
  not_refused a access.Immutable never = never
  not_refused a access.TypeMismatch never = never
  not_refused a access.LengthMismatch never = never
  not_refused a access.NotI8Array never = never
  not_refused a access.RootsFull fails = no_root fails.0 fails.1.0 fails.1.1.0
  not_refused a access.FuncTableFull never = never
  not_refused a access.ContTableFull never = never
  not_refused a access.Memory fails = no_root fails.0 fails.1.0 fails.1.1.0

  pub never_refused : (why : AccessFault) → ((u : Table ℕ) (a : Account) → HoldsAccount layouts old u a → ReadsAt layouts old u a handle 0 (Err why) new) → ⊥
  never_refused why reads = let a = some_account layouts old t node.holds in not_refused a.0 why (reads t a.0 a.1)

  -- the value that is read is the key
  key_read : (v : Val) → ((u : Table ℕ) (a : Account) → HoldsAccount layouts old u a → ReadsAt layouts old u a handle 0 (Ok v) new)
      → (z : ℤ) × ((key_in v ≡ z) × (number_bits w64 key ≡ number_bits w64 z))
  key_read v reads =
      let a = some_account layouts old t node.holds in
      let read = reads t a.0 a.1 in
      let is : IsReadAs new t (key_value key) (raw_of v) = subst (λ (x : Value). IsReadAs new t x (raw_of v)) (has_key read.0 read.1.0) read.1.1.1.0 in
      (is.0, (key_given v is.0 is.1.0, is.1.1))

  pub key_found : (v : Val) (got : ℤ) → got ≡ key_in v → FitsSigned w64 got → ((u : Table ℕ) (a : Account) → HoldsAccount layouts old u a → ReadsAt layouts old u a handle 0 (Ok v) new)
      → got ≡ key
  key_found v got is fits reads =
      let read = key_read v reads in
      let same : got ≡ read.0 = is ∙ read.1.0 in
      same_key got key fits node.key_fits (ap (number_bits w64) same ∙ sym read.1.1)
