-- What a write answers and leaves, by the handle that was given.
use Rattle.std.proofs.Common.{inl, inr, ◌≡◌, ◌↔◌, IsTrue, ℕ, Bool, true, false, Some, Result, Ok, Err, sym, ◌∙◌, refl, subst}
use Rattle.gc_types.specs.declared.kind.Layouts.{Layouts}
use Rattle.gc_types.specs.declared.value.FieldType.{FieldType}
use Rattle.gc_types.specs.declared.value.Mutability.{Mutability}
use Rattle.gc_types.specs.declared.value.Mutability.TheVariants.{Const, Var}
use Rattle.gc_model.specs.Values.{Reference, Value}
use Rattle.gc_model.specs.Table.{Table}
use Rattle.gc_model.specs.Stores.{StoreView}
use Rattle.gc_model.specs.Accounts.{Account}
use Rattle.gc_values.specs.declared.root.GcRootIndex.{GcRootIndex}
use Rattle.gc_values.specs.declared.root.RootFault.{RootFault}
use Rattle.gc_values.specs.declared.root.RootFault.TheVariants as root_fault
use Rattle.gc_store.specs.Roots.{is_of_store}
use Rattle.gc_store.specs.Values.{CanWrite}
use Rattle.gc_objects.specs.declared.faults.AccessFault.{AccessFault}
use Rattle.gc_objects.specs.declared.faults.AccessFault.TheVariants as fault
use Rattle.gc_objects.specs.declared.faults.ValueFault.{ValueFault}
use Rattle.gc_objects.specs.declared.faults.ValueFault.TheVariants as value_fault
use Rattle.gc_objects.specs.declared.val.Val.{Val}
use Rattle.gc_objects.specs.Answered.{Answers}
use Rattle.gc_objects.specs.Faults.{accessed, accessed_value}
use Rattle.gc_objects.specs.Given.{is_own, raw_of, Goes, ChecksValue, CanStoreAs}
use Rattle.gc_objects.specs.Reads.{IsTypedAt, IsTypedSomewhere}
use Rattle.gc_objects.specs.Writes.{HasType, GoesThere, Sets, WritesAs, are_own_both}
use Rattle.gc_objects.proofs.Naming.{both, found_true}

-- what the tests of the handle and of the value's tell
pub root_own : {D : Type 0} (s : StoreView D) (root : GcRootIndex) (b : Bool) → b ≡ is_of_store s root → b ≡ true → is_of_store s root ≡ true
root_own s root b e is = found_true e is

pub value_own : {D : Type 0} (s : StoreView D) (v : Val) (b : Bool) → b ≡ is_own s v → b ≡ true → is_own s v ≡ true
value_own s v b e is = found_true e is

-- a field that isn't mutable is constant
pub is_constant : (m : Mutability) (b : Bool) → b ≡ false → (IsTrue b ↔ (m ≡ Var)) → m ≡ Const
is_constant Const b no_var var = refl
is_constant Var b no_var var = absurd (cc (sym (var.1 refl) ∙ no_var))

-- a field is mutable where that is found
pub is_mutable : (m : Mutability) (b : Bool) → b ≡ true → (IsTrue b ↔ (m ≡ Var)) → m ≡ Var
is_mutable m b is var = var.0 is

-- a value's place has its type
pub has_type : {D : Type 0} (s : StoreView D) (t : Table D) (handle : GcRootIndex) (index : ℕ) (field : FieldType) → IsTypedAt s t handle index field → HasType s t handle index field
has_type s t handle index field typed = record {
  position = typed.has.position;
  named = typed.has.named;
  object = typed.has.object;
  object_is = typed.has.object_is;
  field_is = typed.field_is;
}

-- a value that may be stored may be written where it is meant to go
pub may_write : (D : Type 0) (layouts : Layouts) (s : StoreView D) (root : GcRootIndex) (index : ℕ) (field : FieldType) (v : Val) → IsTypedSomewhere D layouts s root index field → CanStoreAs D layouts s (Some field) v → field.mutability ≡ Var → CanWrite D layouts s root index (raw_of v)
may_write D layouts s root index field v typed can mutable = record {
  table = typed.table;
  holds = typed.holds;
  before = typed.typed.value;
  has = typed.typed.has;
  field = field;
  field_is = typed.typed.field_is;
  can_store = can;
  mutable = mutable;
}

module _ {D : Type 0} (layouts : Layouts) (s new : StoreView D) (t : Table D) (a : Account) (root this : GcRootIndex) (same : root ≡ this) (index : ℕ) (v : Val) (Outside : GcRootIndex → Type 0)
    (own : is_of_store s root ≡ true) (own_value : is_own s v ≡ true) where
  abbrev SetsBy : GcRootIndex → Result (Unit {0}) AccessFault → Type 0
  SetsBy handle result = Sets (Outside handle) layouts s t a handle index v result new

  given_own : are_own_both s root v ≡ true
  given_own = both (is_of_store s root) (is_own s v) own own_value

  here : (result : Result (Unit {0}) AccessFault) → SetsBy root result → SetsBy this result
  here result sets = subst (λ (h : GcRootIndex). SetsBy h result) same sets

  err_sets : {A : Type 0} (Tells : Reference → A → Type 0) (why : RootFault) → Answers s t (is_of_store s root) root Tells (Err why) → SetsBy root (Err (accessed why))
  err_sets Tells root_fault.WrongStore answers = absurd (cc (sym own ∙ answers))
  err_sets Tells root_fault.Unrooted answers = (given_own, inl answers.1)
  err_sets Tells root_fault.RootsFull answers = absurd answers
  err_sets Tells root_fault.Memory answers = absurd answers

  -- a write is refused for its root
  pub sets_no_root : {A : Type 0} (Tells : Reference → A → Type 0) (result : Result A RootFault) (why : RootFault) (answer : AccessFault) → result ≡ Err why → answer ≡ accessed why
      → Answers s t (is_of_store s root) root Tells result → SetsBy this (Err answer)
  sets_no_root Tells result why answer is e answers =
      subst (λ (f : AccessFault). SetsBy this (Err f)) (sym e)
      (here (Err (accessed why)) (err_sets Tells why (subst (λ (q : Result _ RootFault). Answers s t (is_of_store s root) root Tells q) is answers)))

  -- or for its index
  pub sets_outside : Outside root → SetsBy this (Err fault.OutOfBounds)
  sets_outside outside = here (Err fault.OutOfBounds) (given_own, outside)

  module _ (field : FieldType) (has : HasType s t root index field) where
    -- or for what may not be written
    pub sets_constant : field.mutability ≡ Const → SetsBy this (Err fault.Immutable)
    sets_constant constant = here (Err fault.Immutable) (given_own, record { field = field; has = has; mutable = constant; found = tt })

    module _ (mutable : field.mutability ≡ Var) where
      value_refused : (why : ValueFault) → ChecksValue s t (Some field) v (Err why) → SetsBy root (Err (accessed_value why))
      value_refused value_fault.Unrooted gone = (given_own, inr (record { field = field; has = has; mutable = mutable; found = gone }))
      value_refused value_fault.TypeMismatch misfits = (given_own, record { field = field; has = has; mutable = mutable; found = misfits })

      -- or for its value
      pub sets_no_value : (why : ValueFault) (answer : AccessFault) → answer ≡ accessed_value why → ChecksValue s t (Some field) v (Err why) → SetsBy this (Err answer)
      sets_no_value why answer e checks = subst (λ (f : AccessFault). SetsBy this (Err f)) (sym e) (here (Err (accessed_value why)) (value_refused why checks))

  -- else the store is asked to write the value
  module _ (field : FieldType) (typed : IsTypedAt s t root index field) (mutable : field.mutability ≡ Var) (value : Value) (goes : Goes s t (Some field) v value) where
    abbrev there : GoesThere s t root index v
    there = record {
      before = typed.value;
      has = typed.has;
      field = field;
      field_is = typed.field_is;
      mutable = mutable;
      value = value;
      goes = goes;
    }

    by_store : (result : Result (Unit {0}) AccessFault) → WritesAs layouts s new t a root index v result → SetsBy root result
    by_store (Ok x) writes = (
      given_own,
      record { there = there; has_function_id = writes.1.functions value goes.stands; has_cont_id = writes.1.conts value goes.stands; holds = writes.0 typed.value value typed.has field typed.field_is goes.stands },
    )
    by_store (Err fault.WrongStore) writes = absurd writes
    by_store (Err fault.Unrooted) writes = absurd writes
    by_store (Err fault.OutOfBounds) writes = absurd writes
    by_store (Err fault.Immutable) writes = absurd writes
    by_store (Err fault.TypeMismatch) writes = absurd writes
    by_store (Err fault.LengthMismatch) writes = absurd writes
    by_store (Err fault.NotI8Array) writes = absurd writes
    by_store (Err fault.RootsFull) writes = absurd writes
    by_store (Err fault.FuncTableFull) writes = (given_own, record { there = there; lacks = writes.0 value goes.stands })
    by_store (Err fault.ContTableFull) writes = (given_own, record { there = there; lacks = writes.0 value goes.stands })
    by_store (Err fault.Memory) writes = (given_own, record { there = there; takes = writes })

    pub sets_by_store : (result : Result (Unit {0}) AccessFault) → WritesAs layouts s new t a root index v result → SetsBy this result
    sets_by_store result writes = here result (by_store result writes)
