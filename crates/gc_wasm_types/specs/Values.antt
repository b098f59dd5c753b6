-- References as values that go in and out of raw words: what they are, which types they fit, and what storing one writes.
use Rattle.std.specs.Prelude.{◌≡◌, ℕ, ◌++◌, Bool, true, false, List, Option, Some, None, Result, Ok, Err, replicate, take}
use Rattle.std.specs.Int.{w32}
use Rattle.gc_types.specs.declared.value.HeapType.{HeapType}
use Rattle.gc_types.specs.declared.value.HeapType.TheVariants as heap
use Rattle.gc_types.specs.declared.value.RefType.{RefType}
use Rattle.gc_types.specs.declared.value.ValType.{ValType}
use Rattle.gc_types.specs.declared.value.ValType.TheVariants as val
use Rattle.gc_types.specs.declared.kind.VMGcKind.{VMGcKind}
use Rattle.gc_refs.specs.LittleEndian.{unsigned_at, unsigned_bytes}
use Rattle.gc_owner.specs.declared.entry.GcClass.{GcClass}
use Rattle.gc_owner.specs.declared.entry.GcClass.TheVariants.{Any}
use Rattle.gc_model.specs.Fits.{fits_type}
use Rattle.gc_model.specs.Holds.{Placing, IsWord}
use Rattle.gc_model.specs.Stores.{StoreView}
use Rattle.gc_model.specs.Table.{Table}
use Rattle.gc_model.specs.Values.{Reference, null, small, reference}
use Rattle.gc_values.specs.declared.root.GcRootIndex.{GcRootIndex}
use Rattle.gc_values.specs.declared.root.RootFault.{RootFault}
use Rattle.gc_values.specs.declared.root.RootFault.TheVariants as root_fault
use Rattle.gc_store.specs.Roots.{NamesReference, NamesNothing}
use Rattle.gc_objects.specs.declared.faults.AccessFault.{AccessFault}
use Rattle.gc_objects.specs.declared.faults.AccessFault.TheVariants as fault
use Rattle.gc_objects.specs.Given.{is_own_root}

-- a value: null, a 31-bit number, or a handle of a root
pub data WasmValue : Type 0 where
  absent : WasmValue
  number : ℕ → WasmValue
  handle : GcRootIndex → WasmValue

-- a value that may be null
abbrev pub or_absent : {A : Type 0} → (A → WasmValue) → Option A → WasmValue
or_absent value None = absent
or_absent value (Some x) = value x

-- what a type takes: 31-bit numbers, or references of a kind
pub data WasmKind : Type 0 where
  numbers : WasmKind
  references : VMGcKind → WasmKind

-- how a reference is loaded: as a number alone, or with a new root, scoped or owned
pub data Manner : Type 0 where
  by_number : Manner
  scoped : Manner
  owned : Manner

-- What a type of values is: the type of what it takes, the class in which these are references, and how one is loaded.
pub record WasmForm : Type 0 where
  pub ty : RefType
  pub kind : WasmKind
  pub class : GcClass
  pub manner : Manner

-- the type of references of that heap type
abbrev pub reference_type : Bool → HeapType → ValType
reference_type nullable heap_type = val.Ref (record { nullable = nullable; heap_type = heap_type })

-- 31-bit numbers by themselves, with null or without
abbrev pub number_form : Bool → WasmForm
number_form nullable = record { ty = record { nullable = nullable; heap_type = heap.I31 }; kind = numbers; class = Any; manner = by_number }

-- handles of references of a mark
abbrev pub handle_form : Bool → HeapType → VMGcKind → GcClass → Manner → WasmForm
handle_form nullable heap_type kind class manner = record {
  ty = record { nullable = nullable; heap_type = heap_type };
  kind = references kind;
  class = class;
  manner = manner;
}

-- the root that a value names
abbrev pub value_root : WasmValue → Option GcRootIndex
value_root absent = None
value_root (number n) = None
value_root (handle h) = Some h

-- whether a value has no handle of another store
abbrev pub is_own_reference : {D : Type 0} → StoreView D → WasmValue → Bool
is_own_reference s v = is_own_root s (value_root v)

-- the value is that reference of the table
abbrev pub StandsFor : {D : Type 0} → StoreView D → Table D → WasmValue → Reference → Type 0
StandsFor s t absent r = r ≡ null
StandsFor s t (number n) r = r ≡ small n
StandsFor s t (handle h) r = NamesReference s t h r

-- its root is gone
abbrev pub HasGoneRoot : {D : Type 0} → StoreView D → Table D → WasmValue → Type 0
HasGoneRoot s t absent = ⊥
HasGoneRoot s t (number n) = ⊥
HasGoneRoot s t (handle h) = NamesNothing s t h

-- whether it fits a type, as a reference of that class
abbrev pub FitsAs : {D : Type 0} → StoreView D → Table D → GcClass → WasmValue → ValType → Bool → Type 0
FitsAs s t class v ty b = (r : Reference) × (StandsFor s t v r × (fits_type t.types t.objects ty (reference class r) ≡ b))

abbrev pub ChecksReference : {D : Type 0} → StoreView D → Table D → GcClass → WasmValue → ValType → Result (Unit {0}) AccessFault → Type 0
ChecksReference s t class v ty (Ok done) = (is_own_reference s v ≡ true) × FitsAs s t class v ty true
ChecksReference s t class v ty (Err fault.WrongStore) = is_own_reference s v ≡ false
ChecksReference s t class v ty (Err fault.Unrooted) = (is_own_reference s v ≡ true) × HasGoneRoot s t v
ChecksReference s t class v ty (Err fault.TypeMismatch) = (is_own_reference s v ≡ true) × FitsAs s t class v ty false
ChecksReference s t class v ty (Err fault.OutOfBounds) = ⊥
ChecksReference s t class v ty (Err fault.Immutable) = ⊥
ChecksReference s t class v ty (Err fault.LengthMismatch) = ⊥
ChecksReference s t class v ty (Err fault.NotI8Array) = ⊥
ChecksReference s t class v ty (Err fault.RootsFull) = ⊥
ChecksReference s t class v ty (Err fault.FuncTableFull) = ⊥
ChecksReference s t class v ty (Err fault.ContTableFull) = ⊥
ChecksReference s t class v ty (Err fault.Memory) = ⊥

-- What the check of a value against a type answers: whether it fits; a 31-bit number by itself is refused by every type.
abbrev pub ChecksType : {D : Type 0} → StoreView D → Table D → GcClass → WasmValue → ValType → Result (Unit {0}) AccessFault → Type 0
ChecksType s t class absent ty result = ChecksReference s t class absent ty result
ChecksType s t class (number n) ty result = result ≡ Err fault.TypeMismatch
ChecksType s t class (handle h) ty result = ChecksReference s t class (handle h) ty result

-- the bytes that keep a word, and the word that bytes keep
abbrev pub word_bytes : ℕ → List ℕ
word_bytes word = unsigned_bytes w32 word ++ replicate 12 0

abbrev pub raw_word : List ℕ → ℕ
raw_word bytes = unsigned_at w32 (take 4 bytes)

-- the bytes keep the word of the value's reference, and nothing else
abbrev pub KeepsWord : {D : Type 0} → StoreView D → Table D → Placing → WasmValue → List ℕ → Type 0
KeepsWord s t place v bytes = (bytes ≡ word_bytes (raw_word bytes)) × ((r : Reference) × (StandsFor s t v r × IsWord place r (raw_word bytes)))

-- what storing a value answers, and the bytes after it
abbrev pub StoresWord : {D : Type 0} → StoreView D → Table D → Placing → WasmValue → List ℕ → Result (Unit {0}) RootFault → Type 0
StoresWord s t place v bytes (Ok done) = KeepsWord s t place v bytes
StoresWord s t place v bytes (Err root_fault.WrongStore) = is_own_reference s v ≡ false
StoresWord s t place v bytes (Err root_fault.Unrooted) = (is_own_reference s v ≡ true) × HasGoneRoot s t v
StoresWord s t place v bytes (Err root_fault.RootsFull) = ⊥
StoresWord s t place v bytes (Err root_fault.Memory) = ⊥
