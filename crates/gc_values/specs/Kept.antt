-- What slots keep of the values that are given to a store, and what is found in them.
use Rattle.std.specs.Prelude.{◌≡◌, ℕ, ◌^◌, ◌<◌, Some, None, Ok}
use Rattle.std.specs.Int.{w32, w64, cast_unsigned, cast_signed}
use Rattle.gc_types.specs.declared.value.StorageType.{StorageType}
use Rattle.gc_model.specs.Values.{Value, i32, i64, f32, f64, v128}
use Rattle.gc_model.specs.Forms.{Form, number_of, function_of, continuation_of, reference_of, storage_form, value_form, Names, IsCode, InternedIds, IsIdCode, IsContCode}
use Rattle.gc_model.specs.Stored.{stored}
use Rattle.gc_heap.specs.Collection.{IsWordOf}
use Rattle.gc_view.specs.Heaps.{HeapView}
use Rattle.gc_values.specs.declared.stored.Stored.{Stored}
use Rattle.gc_values.specs.declared.stored.Stored.TheVariants as kept
use Rattle.gc_values.specs.declared.stored.Found.{Found}
use Rattle.gc_values.specs.declared.stored.Found.TheVariants as found
use Rattle.gc_values.specs.declared.root.RawValue.{RawValue}
use Rattle.gc_values.specs.declared.root.RawValue.TheVariants as raw
use Rattle.gc_values.specs.Words.{HandleRoots, root_word_at}

-- the number that stands in a heap for what is kept
abbrev pub kept_code : Stored → ℕ
kept_code (kept.Number n) = n
kept_code (kept.Ref word) = word

-- how a value that is given to the store is kept, by the ids of what is interned and the words that the roots have
abbrev pub KeptAs : InternedIds → HandleRoots → RawValue → Stored → Type 0
KeptAs ids entries (raw.I32 n) x = x ≡ kept.Number (cast_unsigned w32 n)
KeptAs ids entries (raw.I64 n) x = x ≡ kept.Number (cast_unsigned w64 n)
KeptAs ids entries (raw.F32 n) x = x ≡ kept.Number n
KeptAs ids entries (raw.F64 n) x = x ≡ kept.Number n
KeptAs ids entries (raw.V128 n) x = x ≡ kept.Number n
KeptAs ids entries (raw.Func f) x = (code : ℕ) × (IsIdCode ids.funcs f code × (x ≡ kept.Number code))
KeptAs ids entries (raw.Cont c) x = (code : ℕ) × (IsContCode ids.conts c code × (x ≡ kept.Number code))
KeptAs ids entries (raw.Ref class None) x = x ≡ kept.Ref 0
KeptAs ids entries (raw.Ref class (Some handle)) x = (word : ℕ) × ((root_word_at entries handle.slot handle.generation ≡ Ok word) × (x ≡ kept.Ref word))

-- a value is kept in some way
abbrev pub CanBeKept : InternedIds → HandleRoots → RawValue → Type 0
CanBeKept ids entries r = (x : Stored) × KeptAs ids entries r x

-- what a value is that is given to the store
abbrev pub raw_form : RawValue → Form
raw_form (raw.I32 n) = number_of i32
raw_form (raw.I64 n) = number_of i64
raw_form (raw.F32 n) = number_of f32
raw_form (raw.F64 n) = number_of f64
raw_form (raw.V128 n) = number_of v128
raw_form (raw.Func f) = function_of
raw_form (raw.Cont c) = continuation_of
raw_form (raw.Ref class handle) = reference_of class

-- how many bytes the code of a value of a form takes at most
abbrev pub form_width : Form → ℕ
form_width (number_of i32) = 4
form_width (number_of i64) = 8
form_width (number_of f32) = 4
form_width (number_of f64) = 8
form_width (number_of v128) = 16
form_width function_of = 4
form_width continuation_of = 4
form_width (reference_of class) = 4

-- the code is no wider than that of a value of the form
abbrev pub FitsForm : Form → ℕ → Type 0
FitsForm form code = code < 256 ^ form_width form

-- What is kept is of a form: a number, as that of a function value or a continuation, or a reference's word, which is null, a 31-bit number
-- or the place of an object.
abbrev pub OfForm : HeapView → Form → Stored → Type 0
OfForm h (number_of kind) (kept.Number n) = Unit {0}
OfForm h (number_of kind) (kept.Ref word) = ⊥
OfForm h function_of (kept.Number n) = Unit {0}
OfForm h function_of (kept.Ref word) = ⊥
OfForm h continuation_of (kept.Number n) = Unit {0}
OfForm h continuation_of (kept.Ref word) = ⊥
OfForm h (reference_of class) (kept.Number n) = ⊥
OfForm h (reference_of class) (kept.Ref word) = IsWordOf h word

-- A value that is given to the store is one of the table: whatever is kept of it is that value's code, where the code is no
-- wider than such values are, as that of every number is.
abbrev pub KeptStands : InternedIds → Names → HandleRoots → RawValue → Value → Type 0
KeptStands ids names entries r v = (x : Stored) → KeptAs ids entries r x → FitsForm (raw_form r) (kept_code x) → IsCode names v (kept_code x)

-- a value of the table is what a slot of that type keeps of one that is given to the store
pub record StoredStands (ids : InternedIds) (names : Names) (entries : HandleRoots) (ty : StorageType) (r : RawValue) (w : Value) : Type 0 where
  pub value : Value
  pub stored_is : w ≡ stored ty value
  pub form : storage_form ty ≡ value_form value
  pub stands : KeptStands ids names entries r value
  pub raw_form_is : raw_form r ≡ storage_form ty

-- what is found in a slot of a form, by the number that lies there
abbrev pub IsFound : Form → ℕ → Found → Type 0
IsFound (number_of i32) n x = x ≡ found.Number (raw.I32 (cast_signed w32 n))
IsFound (number_of i64) n x = x ≡ found.Number (raw.I64 (cast_signed w64 n))
IsFound (number_of f32) n x = x ≡ found.Number (raw.F32 n)
IsFound (number_of f64) n x = x ≡ found.Number (raw.F64 n)
IsFound (number_of v128) n x = x ≡ found.Number (raw.V128 n)
IsFound function_of n x = x ≡ found.Func n
IsFound continuation_of n x = x ≡ found.Cont n
IsFound (reference_of class) n x = x ≡ found.Ref class n

-- what was found is a value of the table
pub record FoundStands (names : Names) (x : Found) (v : Value) : Type 0 where
  pub code : ℕ
  pub found : IsFound (value_form v) code x
  pub small : FitsForm (value_form v) code
  pub is_code : IsCode names v code
