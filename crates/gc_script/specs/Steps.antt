-- One step of a session.
use Rattle.std.specs.Prelude.{◌≡◌, ℕ, ◌*◌, ◌==◌, ◌&&◌, nat_le, Bool, true, false, not, List, [], ◌∷◌, ◌++◌, Option, Some, None, is_none, is_some, length, slice_get, if◌then◌else◌, unwrap_or, option_map}
use Rattle.std.specs.List.{list_any, flat_map}
use Rattle.gc_types.specs.declared.value.FieldType.{FieldType}
use Rattle.gc_types.specs.declared.kind.Layouts.{Layouts}
use Rattle.gc_types.specs.Declarable.{Declarable}
use Rattle.gc_types.specs.Declarations.{Declaration, struct_fields_at, elem_at}
use Rattle.gc_owner.specs.declared.entry.GcClass.{GcClass}
use Rattle.gc_model.specs.Values.{Reference, Value, Object}
use Rattle.gc_model.specs.Table.{Table, Slot, declare}
use Rattle.gc_model.specs.Frames.{slot_at}
use Rattle.gc_model.specs.Globals.{global_at}
use Rattle.gc_model.specs.Live.{roots_full}
use Rattle.gc_model.specs.OwnedRoots.{owned_full}
use Rattle.gc_model.specs.Reach.{KeepsNumber}
use Rattle.gc_model.specs.Reads.{makes_root}
use Rattle.gc_model.specs.Sizes.{object_size, exn_fields_at}
use Rattle.gc_view.specs.Pages.{page}
use Rattle.gc_model.specs.Allocation.{too_large, Allocates, LacksMemory, Grows}
use Rattle.gc_commands.specs.declared.command.Command.{Command}
use Rattle.gc_commands.specs.declared.command.Command.TheVariants.{New, NewExn, NewArr, Fixed, NewBytes, ReadBytes, Host, I31, Field, Elem, Len, HostNumber, SetField, SetElem, Eq, Leave, Pop, Store, Load, SetGlobal, GetGlobal, Own, Root, Unroot, Throw, Take}
use Rattle.gc_commands.specs.declared.command.Operand.{Operand}
use Rattle.gc_commands.specs.declared.reply.Reply.{Reply}
use Rattle.gc_commands.specs.declared.reply.Reply.TheVariants as reply
use Rattle.gc_commands.specs.declared.reply.Refusal.{Refusal}
use Rattle.gc_commands.specs.declared.reply.Refusal.TheVariants as refusal
use Rattle.gc_model.specs.Accounts.{Account}
use Rattle.gc_store.specs.IncrementCounts.{TakesIncrements}
use Rattle.gc_store.specs.Slots.{slot_value}
use Rattle.gc_script.specs.State.{State, reference, HeldOwned, with_table, with_account, with_heap, set_register, visible, over}
use Rattle.gc_script.specs.Built.{is_built}
use Rattle.gc_script.specs.Given.{Given, given, given_register, given_value, is_unset, is_gone, is_reference, value_named, named, is_struct, is_array, is_host, is_exception, has_fields, names_kind, target, target_values, target_field, is_constant, holds_bytes, fits_field}
use Rattle.gc_script.specs.Shapes.{CommandShape, plain, declaring, making, growing, collecting, showing, shape, ToldCount, of_objects, of_increments, owned_named, given_struct, new_exception, filled_array, new_fixed, new_bytes}

-- how many fields these are; 0 where there are none
abbrev pub count_in : Option (List FieldType) → ℕ
count_in fields = unwrap_or (option_map length fields) 0

-- the tests of a value that goes into a field, by the types and the objects
abbrev pub given_tests : List Declaration → List (Object ℕ) → Option FieldType → Given → List (Bool × Refusal)
given_tests types objects field g =
    (is_gone g, refusal.Unrooted)
    ∷ (not (fits_field types objects field (given_value g)), refusal.TypeMismatch)
    ∷ []

abbrev pub value_tests : State → Option FieldType → Operand → List (Bool × Refusal)
value_tests s field v = given_tests s.table.types s.table.objects field (given s v)

-- the same of each value in order, each for a field of its own
abbrev pub all_value_tests : State → List FieldType → List Operand → List (Bool × Refusal)
all_value_tests s [] vs = []
all_value_tests s (f ∷ fs) [] = []
all_value_tests s (f ∷ fs) (v ∷ vs) = value_tests s (Some f) v ++ all_value_tests s fs vs

-- and of elements, each of the same type
abbrev pub element_tests : State → Option FieldType → List Operand → List (Bool × Refusal)
element_tests s element vs = flat_map (value_tests s element) vs

-- the tests of an allocation that come before the heap is asked
abbrev pub heap_tests : Layouts → State → Object ℕ → List (Bool × Refusal)
heap_tests layouts s o =
    (too_large layouts (object_size layouts s.table.types o), refusal.TooLarge)
    ∷ (roots_full s.table, refusal.RootsFull)
    ∷ []

-- whether reading a value makes a scoped root
abbrev pub reads_root : Option Value → Bool
reads_root None = false
reads_root (Some v) = makes_root v

-- the tests of what a register names, which has to be of a kind
abbrev pub target_tests : (Object ℕ → Bool) → State → ℕ → List (Bool × Refusal)
target_tests of_kind s r =
    (is_gone (given_register s r), refusal.Unrooted)
    ∷ (not (names_kind of_kind (target s r)), refusal.WrongKind)
    ∷ []

-- the test of an index among its values
abbrev pub bound_test : State → ℕ → ℕ → Bool × Refusal
bound_test s r i = (nat_le (length (target_values (target s r))) i, refusal.OutOfBounds)

-- the tests of reading a value of what a register names: of a field, or of an element
abbrev pub reading_tests : (Object ℕ → Bool) → State → ℕ → ℕ → List (Bool × Refusal)
reading_tests of_kind s r i =
    (is_unset (given_register s r), refusal.NoSuchName)
    ∷ (target_tests of_kind s r
    ++ (bound_test s r i
    ∷ (reads_root (slice_get (target_values (target s r)) i) && roots_full s.table, refusal.RootsFull)
    ∷ []))

-- the test of whether a value may be written there
abbrev pub constant_test : State → ℕ → ℕ → Bool × Refusal
constant_test s r i = (is_constant (target_field s.table (target s r) i), refusal.Immutable)

-- the tests of names and of the target that come first where a value is written
abbrev pub writing_tests : (Object ℕ → Bool) → State → ℕ → Operand → List (Bool × Refusal)
writing_tests of_kind s r v =
    (is_unset (given_register s r), refusal.NoSuchName)
    ∷ (is_unset (given s v), refusal.NoSuchName)
    ∷ target_tests of_kind s r

-- the tests of writing a field: its index is tested before the value
abbrev pub set_tests : State → ℕ → ℕ → Operand → List (Bool × Refusal)
set_tests s r i v =
    writing_tests is_struct s r v
    ++ (bound_test s r i ∷ constant_test s r i ∷ value_tests s (target_field s.table (target s r) i) v)

-- the tests of writing an element: its index is tested last
abbrev pub set_elem_tests : State → ℕ → ℕ → Operand → List (Bool × Refusal)
set_elem_tests s r i v =
    writing_tests is_array s r v
    ++ (constant_test s r i ∷ (value_tests s (target_field s.table (target s r) i) v ++ bound_test s r i ∷ []))

-- the tests of asking for the length of an array
abbrev pub len_tests : State → ℕ → List (Bool × Refusal)
len_tests s r = (is_unset (given_register s r), refusal.NoSuchName) ∷ target_tests is_array s r

-- the tests of asking for the number of a host object
abbrev pub host_tests : State → ℕ → List (Bool × Refusal)
host_tests s r = (is_unset (given_register s r), refusal.NoSuchName) ∷ target_tests is_host s r

-- the tests of reading so many bytes of an array
abbrev pub bytes_tests : State → ℕ → ℕ → List (Bool × Refusal)
bytes_tests s r n =
    len_tests s r
    ++ ((not (holds_bytes (target_field s.table (target s r) 0)), refusal.NotI8Array)
    ∷ (not (length (target_values (target s r)) == n), refusal.LengthMismatch)
    ∷ [])

-- the tests of comparing what two registers name
abbrev pub eq_tests : State → ℕ → ℕ → List (Bool × Refusal)
eq_tests s r q =
    (is_unset (given_register s r), refusal.NoSuchName)
    ∷ (is_unset (given_register s q), refusal.NoSuchName)
    ∷ (is_gone (given_register s r), refusal.Unrooted)
    ∷ (is_gone (given_register s q), refusal.Unrooted)
    ∷ (is_none (named s r), refusal.WrongKind)
    ∷ (is_none (named s q), refusal.WrongKind)
    ∷ []

-- some operand is a register that is unset
abbrev pub any_unset : State → List Operand → Bool
any_unset s vs = list_any (λ (v : Operand). is_unset (given s v)) vs

-- the tests of an object with the fields of a type, where there is one, up to those of the heap
abbrev pub fields_tests : State → Option (List FieldType) → List Operand → List (Bool × Refusal)
fields_tests s fields vs =
    (is_none fields, refusal.NoSuchName)
    ∷ (any_unset s vs, refusal.NoSuchName)
    ∷ (not (length vs == count_in fields), refusal.FieldCount)
    ∷ all_value_tests s (unwrap_or fields []) vs

-- so of `new` and of `newexn`
abbrev pub new_tests : State → ℕ → List Operand → List (Bool × Refusal)
new_tests s t vs = fields_tests s (struct_fields_at s.table.types t) vs

abbrev pub new_exn_tests : State → ℕ → List Operand → List (Bool × Refusal)
new_exn_tests s t vs = fields_tests s (exn_fields_at s.table.types t) vs

-- the test of an array type's name
abbrev pub array_test : State → ℕ → Bool × Refusal
array_test s t = (is_none (elem_at s.table.types t), refusal.NoSuchName)

-- the tests of `newarr`, up to those of the heap; where it has no elements its value isn't tested
abbrev pub new_array_tests : State → ℕ → ℕ → Operand → List (Bool × Refusal)
new_array_tests s t n v =
    array_test s t
    ∷ (is_unset (given s v), refusal.NoSuchName)
    ∷ (if n == 0 then [] else value_tests s (elem_at s.table.types t) v)

-- the tests of `fixed`
abbrev pub new_fixed_tests : State → ℕ → List Operand → List (Bool × Refusal)
new_fixed_tests s t vs =
    array_test s t
    ∷ (any_unset s vs, refusal.NoSuchName)
    ∷ element_tests s (elem_at s.table.types t) vs

-- the tests of `bytes` with a type
abbrev pub new_bytes_tests : State → ℕ → List (Bool × Refusal)
new_bytes_tests s t =
    array_test s t
    ∷ (not (holds_bytes (elem_at s.table.types t)), refusal.NotI8Array)
    ∷ []

abbrev pub is_empty_list : List ℕ → Bool
is_empty_list [] = true
is_empty_list (m ∷ ms) = false

-- the tests of setting a slot, of a frame or a global, to what a register gives
abbrev pub setting_tests : Option Slot → Given → List (Bool × Refusal)
setting_tests slot g =
    (is_none slot, refusal.NoSuchName)
    ∷ (is_unset g, refusal.NoSuchName)
    ∷ (is_gone g, refusal.Unrooted)
    ∷ (not (is_reference (given_value g)), refusal.WrongKind)
    ∷ []

-- the tests of reading one, where roots are full or not
abbrev pub getting_tests : Option Slot → Bool → List (Bool × Refusal)
getting_tests slot full =
    (is_none slot, refusal.NoSuchName)
    ∷ (reads_root (option_map slot_value slot) && full, refusal.RootsFull)
    ∷ []

-- the tests of making an owned root of what a register gives, where owned roots are full or not
abbrev pub owning_tests : Given → Bool → List (Bool × Refusal)
owning_tests g full =
    (is_unset g, refusal.NoSuchName)
    ∷ (is_gone g, refusal.Unrooted)
    ∷ (is_none (value_named (given_value g)), refusal.WrongKind)
    ∷ (full, refusal.RootsFull)
    ∷ []

-- the tests of what an owned register holds, and names
abbrev pub owned_tests : Option HeldOwned → Option Reference → List (Bool × Refusal)
owned_tests held root =
    (is_none held, refusal.NoSuchName)
    ∷ (is_none root, refusal.Unrooted)
    ∷ []

abbrev pub unroot_tests : State → ℕ → List (Bool × Refusal)
unroot_tests s o = owned_tests (s.owned_registers o) (owned_named s.table.owned (s.owned_registers o))

abbrev pub root_tests : State → ℕ → List (Bool × Refusal)
root_tests s o = unroot_tests s o ++ (roots_full s.table, refusal.RootsFull) ∷ []

-- the tests of throwing what a register names
abbrev pub throw_tests : State → ℕ → List (Bool × Refusal)
throw_tests s r = (is_unset (given_register s r), refusal.NoSuchName) ∷ target_tests is_exception s r

-- the test of taking the pending exception, which gets a root
abbrev pub take_tests : State → List (Bool × Refusal)
take_tests s = (is_some s.table.pending && roots_full s.table, refusal.RootsFull) ∷ []

-- The tests of a command of a built form, in their order; the first that is true refuses it. Whether a type
-- may be declared is tested by `AnswersDeclare`.
abbrev pub built_tests : Layouts → State → Command → List (Bool × Refusal)
built_tests layouts s (New d t vs) = new_tests s t vs ++ heap_tests layouts s (given_struct s t vs)
built_tests layouts s (NewExn d t tag vs) = new_exn_tests s t vs ++ heap_tests layouts s (new_exception s t tag vs)
built_tests layouts s (NewArr d t n v) = new_array_tests s t n v ++ heap_tests layouts s (filled_array s t n v)
built_tests layouts s (Fixed d t vs) = new_fixed_tests s t vs ++ heap_tests layouts s (new_fixed s t vs)
built_tests layouts s (NewBytes d t bytes) = new_bytes_tests s t ++ heap_tests layouts s (new_bytes t bytes)
built_tests layouts s (ReadBytes r n) = bytes_tests s r n
built_tests layouts s (Host d n) = (roots_full s.table, refusal.RootsFull) ∷ []
built_tests layouts s (I31 d n) = (roots_full s.table, refusal.RootsFull) ∷ []
built_tests layouts s (Field r i into) = reading_tests has_fields s r i
built_tests layouts s (Elem r i into) = reading_tests is_array s r i
built_tests layouts s (Len r) = len_tests s r
built_tests layouts s (HostNumber r) = host_tests s r
built_tests layouts s (SetField r i v) = set_tests s r i v
built_tests layouts s (SetElem r i v) = set_elem_tests s r i v
built_tests layouts s (Eq r q) = eq_tests s r q
built_tests layouts s Leave = (is_empty_list s.marks, refusal.NoSuchName) ∷ []
built_tests layouts s Pop = (length s.table.frames == 0, refusal.NoSuchName) ∷ []
built_tests layouts s (Store k r) = setting_tests (slot_at s.table k) (given_register s r)
built_tests layouts s (Load k d) = getting_tests (slot_at s.table k) (roots_full s.table)
built_tests layouts s (SetGlobal g r) = setting_tests (global_at s.table g) (given_register s r)
built_tests layouts s (GetGlobal g d) = getting_tests (global_at s.table g) (roots_full s.table)
built_tests layouts s (Own o r) = owning_tests (given_register s r) (owned_full s.table)
built_tests layouts s (Root d o) = root_tests s o
built_tests layouts s (Unroot o) = unroot_tests s o
built_tests layouts s (Throw r) = throw_tests s r
built_tests layouts s (Take d) = take_tests s
built_tests layouts s _ = []

-- the tests of a command, which see what is visible of the state
abbrev pub tests : Layouts → State → Command → List (Bool × Refusal)
tests layouts s c = (not (is_built c), refusal.BadLine) ∷ built_tests layouts (visible s) c

-- the refusal of the first test that is true
abbrev pub first_failing : List (Bool × Refusal) → Option Refusal
first_failing [] = None
first_failing (t ∷ ts) = if t.0 then Some t.1 else first_failing ts

-- A type was declared that a declaration spells, or it may not be.
pub data AnswersDeclare (d : Option Declaration) (s : State) (answer : Reply) (s' : State) : Type 0 where
  declared : (new : Declaration) → d ≡ Some new → Declarable s.table.types new → answer ≡ reply.Declared (length s.table.types)
      → s' ≡ with_table (declare new s.table) s
      → AnswersDeclare d s answer s'
  bad : ((new : Declaration) → d ≡ Some new → ¬ Declarable s.table.types new) → answer ≡ reply.Refused refusal.BadType → s' ≡ s
      → AnswersDeclare d s answer s'

-- An object was made and put into a register, or the heap had no room for it.
pub data MakesNew (layouts : Layouts) (limit : Option ℕ) (d : ℕ) (class : GcClass) (o : Object ℕ) (s : State) (answer : Reply) (s' : State) : Type 0 where
  made : (t : Table ℕ) (a : Account) → Allocates layouts limit s.account.places o s.table t → answer ≡ reply.Done
      → s' ≡ set_register d (reference class (Some (length s.table.pushes))) (with_heap t a s)
      → MakesNew layouts limit d class o s answer s'
  lacks : (t : Table ℕ) (a : Account) → LacksMemory layouts limit s.account.places o s.table t → answer ≡ reply.Refused refusal.GcHeapOutOfMemory
      → s' ≡ with_heap t a s
      → MakesNew layouts limit d class o s answer s'

-- The heap grew by so many bytes, or was refused to.
pub data AnswersGrow (limit : Option ℕ) (bytes : ℕ) (s : State) (answer : Reply) (s' : State) : Type 0 where
  grown : (t : Table ℕ) (a : Account) → Grows limit bytes s.table true t → answer ≡ reply.Done → s' ≡ with_heap t a s
      → AnswersGrow limit bytes s answer s'
  refused : (t : Table ℕ) (a : Account) → Grows limit bytes s.table false t → answer ≡ reply.Refused refusal.GcHeapGrowthFailed → s' ≡ with_heap t a s
      → AnswersGrow limit bytes s answer s'

-- a collection kept so many objects
pub record Keeps (layouts : Layouts) (s : State) (answer : Reply) : Type 0 where
  pub objects : ℕ
  pub hosts : ℕ
  pub shows : answer ≡ reply.Held objects hosts
  pub kept : KeepsNumber layouts s.table objects hosts

-- a collection took so many increments
pub record TellsIncrements (layouts : Layouts) (s : State) (answer : Reply) : Type 0 where
  pub increments : ℕ
  pub shows : answer ≡ reply.Increments increments
  pub takes : TakesIncrements layouts s.table increments

-- what a collection tells
abbrev pub Tells : Layouts → State → ToldCount → Reply → Type 0
Tells layouts s of_objects answer = Keeps layouts s answer
Tells layouts s of_increments answer = TellsIncrements layouts s answer

-- what a command of that shape does whose tests all passed
abbrev pub Does : Layouts → Option ℕ → State → CommandShape → Reply → State → Type 0
Does layouts limit s (plain effect) answer s' = (answer ≡ (effect (visible s)).0) × (s' ≡ over s (effect (visible s)).1)
Does layouts limit s (declaring d) answer s' = AnswersDeclare (d s.table.types) s answer s'
Does layouts limit s (making d class object) answer s' = MakesNew layouts limit d class (object (visible s)) s answer s'
Does layouts limit s (growing n) answer s' = AnswersGrow limit n s answer s'
Does layouts limit s (collecting told) answer s' = Tells layouts s told answer × ((a : Account) × (s' ≡ with_account a s))
Does layouts limit s showing answer s' = (answer ≡ reply.Capacity (page * s.table.pages)) × (s' ≡ s)

-- a command that a test refuses replies its refusal and changes nothing; any other does what its shape says
abbrev pub AnswersShape : Layouts → Option ℕ → State → CommandShape → Option Refusal → Reply → State → Type 0
AnswersShape layouts limit s sh (Some why) answer s' = (answer ≡ reply.Refused why) × (s' ≡ s)
AnswersShape layouts limit s sh None answer s' = Does layouts limit s sh answer s'

-- From a state, a command may get this reply and go on to that state, under a limit of pages that is
-- told or not.
abbrev pub Step : Layouts → Option ℕ → State → Command → Reply → State → Type 0
Step layouts limit s c answer s' = AnswersShape layouts limit s (shape c) (first_failing (tests layouts s c)) answer s'
