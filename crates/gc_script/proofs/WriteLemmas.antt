-- Writing a field or an element of an object that a register names.
use Rattle.std.proofs.Common.{◌≡◌, ℕ, ◌<◌, ◌≤◌, List, [], ◌∷◌, ◌++◌, Option, Some, None, Bool, false, sym, ap, ◌∙◌, refl}
use Rattle.gc_types.specs.declared.kind.Layouts.{Layouts}
use Rattle.gc_types.specs.declared.value.FieldType.{FieldType}
use Rattle.gc_types.specs.declared.value.Mutability.{Mutability}
use Rattle.gc_types.specs.declared.value.Mutability.TheVariants.{Const, Var}
use Rattle.gc_types.specs.Declarations.{Declaration}
use Rattle.gc_owner.specs.declared.entry.GcClass.{GcClass}
use Rattle.gc_model.specs.Values.{Reference, Value}
use Rattle.gc_model.specs.Stored.{stored}
use Rattle.gc_model.specs.Table.{Table, write}
use Rattle.gc_model.specs.Live.{rooted}
use Rattle.gc_model.specs.Stores.{StoreView}
use Rattle.gc_commands.specs.declared.command.Command.TheVariants as command
use Rattle.gc_commands.specs.declared.command.Operand.{Operand}
use Rattle.gc_commands.specs.declared.reply.Reply.TheVariants as reply
use Rattle.gc_commands.specs.declared.reply.Refusal.{Refusal}
use Rattle.gc_commands.specs.declared.reply.Refusal.TheVariants as refusal
use Rattle.gc_values.specs.declared.root.RawValue.{RawValue}
use Rattle.gc_values.specs.declared.root.RawValue.TheVariants as raw
use Rattle.gc_model.specs.Accounts.{HoldsAccount}
use Rattle.gc_store.specs.Stores.{IsSameStore}
use Rattle.gc_store.specs.Values.{CanWrite, RawStands, KeepsValue}
use Rattle.gc_script.specs.declared.objects.NamedObject.{NamedObject}
use Rattle.gc_script.specs.declared.objects.Wanted.{Wanted}
use Rattle.gc_script.specs.declared.objects.Wanted.TheVariants as wanted
use Rattle.gc_script.specs.Slots.{RunnerView}
use Rattle.gc_script.specs.State.{State, Held, number, reference, RegisterStands, HoldsState, with_table, visible, over}
use Rattle.gc_script.specs.Given.{Target, unset, given, given_register, given_held, given_root, given_value, is_const, is_constant, is_unset, target, target_field}
use Rattle.gc_script.specs.Steps.{first_failing, tests, bound_test, constant_test, value_tests, target_tests, writing_tests}
use Rattle.gc_script.specs.Shapes.{CommandShape, plain, writes_value, kept_as, write_target}
use Rattle.gc_script.specs.Run.{GoesUnasked}
use Rattle.gc_script.specs.Named.{wants, type_at, IsNamedSomewhere, FoundObject}
use Rattle.gc_script.specs.Values.{CanStoreRaw}
use Rattle.gc_script.specs.Writing.{stored_tests}
use Rattle.gc_script.proofs.StandLemmas.{holds_kept, holds_table}
use Rattle.gc_script.proofs.TestLemmas.{passes, stops, passes_all, stops_all, answers_by}
use Rattle.gc_script.proofs.ValueReads.{has_value, within_bound, past_bound}

root_set : (c : GcClass) (o : Option Reference) → is_unset (given_root c o) ≡ false
root_set c None = refl
root_set c (Some r) = refl

-- what a value stands for is set
pub is_set : (s : StoreView ℕ) (t : Table ℕ) (r : RawValue) (held : Option Held) → RegisterStands s t (Some r) held → is_unset (given_held t held) ≡ false
is_set s t (raw.I32 n) None stands = absurd stands
is_set s t (raw.I64 n) None stands = absurd stands
is_set s t (raw.F32 n) None stands = absurd stands
is_set s t (raw.F64 n) None stands = absurd stands
is_set s t (raw.V128 n) None stands = absurd stands
is_set s t (raw.Func f) None stands = absurd stands
is_set s t (raw.Cont cont) None stands = absurd stands
is_set s t (raw.Ref class None) None stands = absurd stands
is_set s t (raw.Ref class (Some handle)) None stands = absurd stands
is_set s t r (Some (number v)) stands = refl
is_set s t r (Some (reference c None)) stands = refl
is_set s t r (Some (reference c (Some serial))) stands = root_set c (rooted t serial)

is_var : (m : Mutability) → is_const m ≡ false → m ≡ Var
is_var Const differ = absurd (cc differ)
is_var Var differ = refl

-- a value that may be stored at an index of an object may be written there, where that isn't constant
pub can_write : (layouts : Layouts) (store : StoreView ℕ) (kind : Wanted) (found : NamedObject) (i : ℕ) (value : RawValue) → IsNamedSomewhere layouts store kind found → i < found.count → (field : Option FieldType) → type_at store.types found.types i ≡ field → CanStoreRaw layouts store field value → is_constant field ≡ false → CanWrite ℕ layouts store found.root i value
can_write layouts store kind found i value is below None field_is can mutable = absurd can
can_write layouts store kind found i value is below (Some field) field_is can mutable =
    let before = has_value store is.table found is.names i below in
    record {
      table = is.table;
      holds = is.holds;
      before = before.0;
      has = before.1;
      field = field;
      field_is = is.names.typed i ∙ ap (λ (ts : List Declaration). type_at ts found.types i) (sym is.holds.1.types) ∙ field_is;
      can_store = can;
      mutable = is_var field.mutability mutable;
    }

module _ (layouts : Layouts) (store : StoreView ℕ) (s : State) (kind : Wanted) (r i : ℕ) (found : NamedObject) (it : FoundObject store s kind r found) where
  -- the type of the value there
  pub field_found : target_field s.table (target s r) i ≡ type_at s.table.types found.types i
  field_found = ap (λ (x : Option Target). target_field s.table x i) it.is_target ∙ it.names.typed i

  -- the tests of the value, by that type
  pub stored_here : (v : Operand) → first_failing (constant_test s r i ∷ value_tests s (target_field s.table (target s r) i) v) ≡ first_failing (stored_tests s (type_at s.table.types found.types i) v)
  stored_here v = ap (λ (f : Option FieldType). first_failing (stored_tests s f v)) field_found

-- a value was written by a command whose tests passed
module _ (layouts : Layouts) (store new : StoreView ℕ) (runner : RunnerView) (s : State) (holds : HoldsState layouts store runner s) (kind : Wanted) (r i : ℕ) (v : Operand)
    (found : NamedObject) (it : FoundObject store s kind r found) (below : i < found.count) (same : IsSameStore store new) (value : RawValue) (stands : RawStands store s.table value (given_value (given s v)))
    (field : FieldType) (field_is : type_at s.table.types found.types i ≡ Some field) (writes : KeepsValue layouts store new s.table s.account found.root i value) where
  abbrev kept : Value
  kept = stored field.element_type (given_value (given s v))

  abbrev after : State
  after = with_table (write it.names.position i kept s.table) s

  table : HoldsAccount layouts new (write it.names.position i kept s.table) s.account
  table =
      let before = has_value store s.table found it.names i below in
      writes before.0 (given_value (given s v)) before.1 field (it.names.typed i ∙ field_is) stands

  after_is : after ≡ over s (writes_value r i v (visible s)).1
  after_is =
      ap (λ (f : Option FieldType). with_table (write it.names.position i (kept_as f (given_value (given s v))) s.table) s) (sym (field_found layouts store s kind r i found it ∙ field_is))
      ∙ ap (λ (x : Option Target). over s (with_table (write_target x i (kept_as (target_field s.table (target s r) i) (given_value (given s v))) (visible s).table) (visible s))) (sym it.is_target)

  abbrev sh : CommandShape
  sh = plain (writes_value r i v)

  pub written : (left : List (Bool × Refusal)) → first_failing left ≡ None → GoesUnasked layouts s sh left reply.Done new runner
  written left pass = record {
    after = after;
    answers = answers_by layouts None s sh (first_failing left) None reply.Done after pass (refl, after_is);
    account = refl;
    holds = holds_kept layouts store new runner runner s (write it.names.position i kept s.table) s.account same (λ j p e. e) (λ d. refl) refl holds table;
  }

-- so of a value that may be stored there
pub wrote : (layouts : Layouts) (store new : StoreView ℕ) (runner : RunnerView) (s : State) (holds : HoldsState layouts store runner s) (kind : Wanted) (r i : ℕ) (v : Operand)
    (found : NamedObject) (it : FoundObject store s kind r found) (below : i < found.count) (same : IsSameStore store new) (value : RawValue) (stands : RawStands store s.table value (given_value (given s v)))
    (field : Option FieldType) (field_is : type_at store.types found.types i ≡ field) (can : CanStoreRaw layouts store field value) (writes : KeepsValue layouts store new s.table s.account found.root i value)
    (left : List (Bool × Refusal)) → first_failing left ≡ None → GoesUnasked layouts s (plain (writes_value r i v)) left reply.Done new runner
wrote layouts store new runner s holds kind r i v found it below same value stands None field_is can writes left pass = absurd can
wrote layouts store new runner s holds kind r i v found it below same value stands (Some field) field_is can writes left pass =
    written layouts store new runner s holds kind r i v found it below same value stands field
    (ap (λ (ts : List Declaration). type_at ts found.types i) (sym (holds_table holds.table).1.types) ∙ field_is) writes left pass

-- the tests of the names and of the object of a write
module _ (s : State) (kind : Wanted) (r : ℕ) (v : Operand) (set : is_unset (given_register s r) ≡ false) where
  to_operand : first_failing (writing_tests (wants kind) s r v) ≡ first_failing ((is_unset (given s v), refusal.NoSuchName) ∷ target_tests (wants kind) s r)
  to_operand = passes (is_unset (given_register s r)) refusal.NoSuchName ((is_unset (given s v), refusal.NoSuchName) ∷ target_tests (wants kind) s r) set

  pub no_operand : given s v ≡ unset → first_failing (writing_tests (wants kind) s r v) ≡ Some refusal.NoSuchName
  no_operand e = to_operand ∙ stops (is_unset (given s v)) refusal.NoSuchName (target_tests (wants kind) s r) (ap is_unset e)

  pub to_object : is_unset (given s v) ≡ false → first_failing (writing_tests (wants kind) s r v) ≡ first_failing (target_tests (wants kind) s r)
  to_object value_set = to_operand ∙ passes (is_unset (given s v)) refusal.NoSuchName (target_tests (wants kind) s r) value_set

-- one of these refuses the write of a field or of an element
module _ (layouts : Layouts) (s : State) (r i : ℕ) (v : Operand) (why : Refusal) where
  pub field_refused : first_failing (writing_tests (wants wanted.Struct) s r v) ≡ Some why → first_failing (tests layouts s (command.SetField r i v)) ≡ Some why
  field_refused e = stops_all (writing_tests (wants wanted.Struct) s r v) (bound_test s r i ∷ (constant_test s r i ∷ value_tests s (target_field s.table (target s r) i) v)) why e

  pub elem_none : first_failing (writing_tests (wants wanted.Array) s r v) ≡ Some why → first_failing (tests layouts s (command.SetElem r i v)) ≡ Some why
  elem_none e = stops_all (writing_tests (wants wanted.Array) s r v) (constant_test s r i ∷ (value_tests s (target_field s.table (target s r) i) v ++ bound_test s r i ∷ [])) why e

-- the tests of writing a field, and of writing an element, in their orders
module _ (layouts : Layouts) (store : StoreView ℕ) (s : State) (r i : ℕ) (v : Operand) where
  abbrev value_part : List (Bool × Refusal)
  value_part = constant_test s r i ∷ value_tests s (target_field s.table (target s r) i) v

  module _ (pass : first_failing (writing_tests (wants wanted.Struct) s r v) ≡ None) (found : NamedObject) (it : FoundObject store s wanted.Struct r found) where
    pub field_past : found.count ≤ i → first_failing (tests layouts s (command.SetField r i v)) ≡ Some refusal.OutOfBounds
    field_past above =
        passes_all (writing_tests (wants wanted.Struct) s r v) (bound_test s r i ∷ value_part) pass
        ∙ stops (bound_test s r i).0 refusal.OutOfBounds value_part (past_bound store s wanted.Struct r i found it above)

    pub field_by : i < found.count → first_failing (tests layouts s (command.SetField r i v)) ≡ first_failing (stored_tests s (type_at s.table.types found.types i) v)
    field_by below =
        passes_all (writing_tests (wants wanted.Struct) s r v) (bound_test s r i ∷ value_part) pass
        ∙ passes (bound_test s r i).0 refusal.OutOfBounds value_part (within_bound store s wanted.Struct r i found it below)
        ∙ stored_here layouts store s wanted.Struct r i found it v

  module _ (pass : first_failing (writing_tests (wants wanted.Array) s r v) ≡ None) (found : NamedObject) (it : FoundObject store s wanted.Array r found) where
    abbrev elem_part : List (Bool × Refusal)
    elem_part = constant_test s r i ∷ (value_tests s (target_field s.table (target s r) i) v ++ bound_test s r i ∷ [])

    to_value : first_failing (tests layouts s (command.SetElem r i v)) ≡ first_failing (value_part ++ bound_test s r i ∷ [])
    to_value = passes_all (writing_tests (wants wanted.Array) s r v) elem_part pass

    pub elem_refused : (why : Refusal) → first_failing (stored_tests s (type_at s.table.types found.types i) v) ≡ Some why → first_failing (tests layouts s (command.SetElem r i v)) ≡ Some why
    elem_refused why e = to_value ∙ stops_all value_part (bound_test s r i ∷ []) why (stored_here layouts store s wanted.Array r i found it v ∙ e)

    module _ (fits : first_failing (stored_tests s (type_at s.table.types found.types i) v) ≡ None) where
      to_bound : first_failing (tests layouts s (command.SetElem r i v)) ≡ first_failing (bound_test s r i ∷ [])
      to_bound = to_value ∙ passes_all value_part (bound_test s r i ∷ []) (stored_here layouts store s wanted.Array r i found it v ∙ fits)

      pub elem_past : found.count ≤ i → first_failing (tests layouts s (command.SetElem r i v)) ≡ Some refusal.OutOfBounds
      elem_past above = to_bound ∙ stops (bound_test s r i).0 refusal.OutOfBounds [] (past_bound store s wanted.Array r i found it above)

      pub elem_passes : i < found.count → first_failing (tests layouts s (command.SetElem r i v)) ≡ None
      elem_passes below = to_bound ∙ passes (bound_test s r i).0 refusal.OutOfBounds [] (within_bound store s wanted.Array r i found it below)
