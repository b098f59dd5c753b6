-- What is answered of a struct, by the handle that was given.
use Rattle.std.proofs.Common.{◌≡◌, ℕ, true, Option, Some, None, Result, Ok, Err, IfSome, sym, subst}
use Rattle.gc_types.specs.declared.kind.Layouts.{Layouts}
use Rattle.gc_model.specs.Values.{Reference, Value}
use Rattle.gc_model.specs.Table.{Table}
use Rattle.gc_model.specs.Stores.{StoreView}
use Rattle.gc_model.specs.Accounts.{Account}
use Rattle.gc_values.specs.declared.root.GcRootIndex.{GcRootIndex}
use Rattle.gc_values.specs.declared.root.RootFault.{RootFault}
use Rattle.gc_values.specs.declared.root.RootFault.TheVariants as fault
use Rattle.gc_store.specs.Roots.{is_of_store, HasValue}
use Rattle.gc_objects.specs.declared.faults.AccessFault.{AccessFault}
use Rattle.gc_objects.specs.declared.places.NamedField.{NamedField}
use Rattle.gc_objects.specs.declared.val.Val.{Val}
use Rattle.gc_objects.specs.Answered.{Answers, HasField}
use Rattle.gc_objects.specs.Faults.{accessed}
use Rattle.gc_objects.specs.Reads.{IsOutside, IsTypedAt, IsTypedSomewhere, ReadsAs, ReadsAt}
use Rattle.gc_objects.proofs.TypedObjects.{typed_at, outside_at}

-- a refusal of a root is one of a read
err_reads : {D A : Type 0} (layouts : Layouts) (s new : StoreView D) (t : Table D) (a : Account) (handle : GcRootIndex) (index : ℕ) (Tells : Reference → A → Type 0) (why : RootFault)
    → Answers s t (is_of_store s handle) handle Tells (Err why) → ReadsAt layouts s t a handle index (Err (accessed why)) new
err_reads layouts s new t a handle index Tells fault.WrongStore answers = answers
err_reads layouts s new t a handle index Tells fault.Unrooted answers = answers
err_reads layouts s new t a handle index Tells fault.RootsFull answers = absurd answers
err_reads layouts s new t a handle index Tells fault.Memory answers = absurd answers

-- a fault of the read itself
fails_to_read : {D : Type 0} (layouts : Layouts) (s new : StoreView D) (t : Table D) (a : Account) (handle : GcRootIndex) (index : ℕ) (x : Value) (why : RootFault)
    → HasValue s t handle index x → ReadsAs layouts t a x (Err why) new → ReadsAt layouts s t a handle index (Err (accessed why)) new
fails_to_read layouts s new t a handle index x fault.WrongStore has reads = absurd reads
fails_to_read layouts s new t a handle index x fault.Unrooted has reads = absurd reads
fails_to_read layouts s new t a handle index x fault.RootsFull has reads = (x, (has, reads))
fails_to_read layouts s new t a handle index x fault.Memory has reads = (x, (has, reads))

module _ {D : Type 0} (layouts : Layouts) (s : StoreView D) (root this : GcRootIndex) (same : root ≡ this) (index : ℕ) where
  -- a read is refused for its root
  pub reads_no_root : {A : Type 0} (new : StoreView D) (t : Table D) (a : Account) (Tells : Reference → A → Type 0) (result : Result A RootFault) (why : RootFault) (answer : AccessFault) → result ≡ Err why → answer ≡ accessed why
      → Answers s t (is_of_store s root) root Tells result → ReadsAt layouts s t a this index (Err answer) new
  reads_no_root new t a Tells result why answer is e answers =
      subst (λ (f : AccessFault). ReadsAt layouts s t a this index (Err f) new) (sym e)
      (subst (λ (h : GcRootIndex). ReadsAt layouts s t a h index (Err (accessed why)) new) same
      (err_reads layouts s new t a root index Tells why (subst (λ (q : Result _ RootFault). Answers s t (is_of_store s root) root Tells q) is answers)))

  -- a read of a value that is there
  module _ (new : StoreView D) (t : Table D) (a : Account) (x : Value) (has : HasValue s t root index x) (result : Result Val RootFault) (reads : ReadsAs layouts t a x result new) where
    pub reads_value : (v : Val) → result ≡ Ok v → ReadsAt layouts s t a this index (Ok v) new
    reads_value v is = subst (λ (h : GcRootIndex). ReadsAt layouts s t a h index (Ok v) new) same (x, (has, subst (λ (q : Result Val RootFault). ReadsAs layouts t a x q new) is reads))

    pub reads_fault : (why : RootFault) (answer : AccessFault) → result ≡ Err why → answer ≡ accessed why → ReadsAt layouts s t a this index (Err answer) new
    reads_fault why answer is e =
        subst (λ (f : AccessFault). ReadsAt layouts s t a this index (Err f) new) (sym e)
        (subst (λ (h : GcRootIndex). ReadsAt layouts s t a h index (Err (accessed why)) new) same
        (fails_to_read layouts s new t a root index x why has (subst (λ (q : Result Val RootFault). ReadsAs layouts t a x q new) is reads)))

  module _ (t : Table D) (result : Result (Option NamedField) RootFault) (answers : Answers s t (is_of_store s root) root (HasField t index) result) where
    field_told : (found : Option NamedField) → result ≡ Ok found → Answers s t (is_of_store s root) root (HasField t index) (Ok found)
    field_told found is = subst (λ (q : Result (Option NamedField) RootFault). Answers s t (is_of_store s root) root (HasField t index) q) is answers

    -- the struct has no field of that index
    pub no_field : (found : Option NamedField) → result ≡ Ok found → found ≡ None → IsOutside s t this index
    no_field found is none =
        let ok = field_told found is in
        subst (λ (h : GcRootIndex). IsOutside s t h index) same (outside_at s t root index ok.1.0 ok.1.1.0 (subst (HasField t index ok.1.0) none ok.1.1.1))

    -- it has one, of that type
    pub typed_field : (found : Option NamedField) (named : NamedField) → result ≡ Ok found → found ≡ Some named → (named.index ≡ index) × IsTypedAt s t root index named.field
    typed_field found named is some =
        let ok = field_told found is in
        let here = subst (HasField t index ok.1.0) some ok.1.1.1 in
        (here.index_is, typed_at s t root index ok.1.0 named ok.1.1.0 here)

    pub field_own : (found : Option NamedField) → result ≡ Ok found → is_of_store s root ≡ true
    field_own found is = (field_told found is).0

    module _ (found : Option NamedField) (named : NamedField) (is : result ≡ Ok found) (some : found ≡ Some named) (new : StoreView D) (a : Account) (read : Result Val RootFault)
        (reads : (x : Value) → HasValue s t root named.index x → ReadsAs layouts t a x read new) where
      read_there : (x : Value) → HasValue s t root index x → ReadsAs layouts t a x read new
      read_there x = subst (λ (n : ℕ). HasValue s t root n x → ReadsAs layouts t a x read new) (typed_field found named is some).0 (reads x)

      -- a field is read
      pub reads_field : (v : Val) → read ≡ Ok v → ReadsAt layouts s t a this index (Ok v) new
      reads_field v read_is =
          let typed = (typed_field found named is some).1 in
          reads_value new t a typed.value typed.has read (read_there typed.value typed.has) v read_is

      pub reads_field_fault : (why : RootFault) (answer : AccessFault) → read ≡ Err why → answer ≡ accessed why → ReadsAt layouts s t a this index (Err answer) new
      reads_field_fault why answer read_is e =
          let typed = (typed_field found named is some).1 in
          reads_fault new t a typed.value typed.has read (read_there typed.value typed.has) why answer read_is e

-- what is found of a field, once it is there
pub typed_found : (D : Type 0) (layouts : Layouts) (s : StoreView D) (root : GcRootIndex) (found : Option NamedField) (named : NamedField) → found ≡ Some named
    → IfSome found (λ n. IsTypedSomewhere D layouts s root n.index n.field) → IsTypedSomewhere D layouts s root named.index named.field
typed_found D layouts s root found named is typed = subst (λ (o : Option NamedField). IfSome o (λ n. IsTypedSomewhere D layouts s root n.index n.field)) is typed
