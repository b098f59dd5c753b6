-- What lies in a field, by the form of the field, and what a change of words leaves of it.
use Rattle.std.proofs.Common.{◌≡◌, ℕ, List, Option, true, false, refl, sym, ap, ◌∙◌, subst, arith}
use Rattle.gc_types.specs.declared.value.Func.{Func}
use Rattle.gc_types.specs.declared.value.StorageType.{StorageType}
use Rattle.gc_types.specs.declared.value.StorageType.TheVariants as storage
use Rattle.gc_types.specs.declared.value.ValType.TheVariants as val
use Rattle.gc_types.specs.declared.value.HeapType.{HeapType}
use Rattle.gc_types.specs.declared.value.HeapType.TheVariants as heap
use Rattle.gc_types.specs.Values.{heap_top}
use Rattle.gc_types.specs.Layouts.{storage_width, is_gc_storage, is_gc_heap_type}
use Rattle.gc_owner.specs.declared.entry.GcClass.{GcClass}
use Rattle.gc_model.specs.Values.{NumberKind, Value, numeric, function, continuation, reference, Reference}
use Rattle.gc_model.specs.Words.{Placing, IsWord}
use Rattle.gc_model.specs.Forms.{Form, number_of, function_of, continuation_of, reference_of, top_form, storage_form, value_form, Names, InternedIds, IsIdCode, IsContCode, naming, IsCode, LiesAs, number_at}
use Rattle.gc_model.proofs.PointParts.{is_reference}

number_of_form : (kind : NumberKind) (v : Value) → number_of kind ≡ value_form v → (n : ℕ) × (v ≡ numeric kind n)
number_of_form kind (numeric k n) e = let same : k ≡ kind = grind (arith, e) in (n, ap (λ j. numeric j n) same)
number_of_form kind (function f) e = absurd (cc)
number_of_form kind (continuation c) e = absurd (cc)
number_of_form kind (reference class r) e = absurd (cc)

reference_of_form : (class : GcClass) (v : Value) → reference_of class ≡ value_form v → (r : Reference) × (v ≡ reference class r)
reference_of_form class (numeric k n) e = absurd (cc)
reference_of_form class (function f) e = absurd (cc)
reference_of_form class (continuation c) e = absurd (cc)
reference_of_form class (reference c r) e = let same : c ≡ class = grind (arith, e) in (r, ap (λ j. reference j r) same)

function_of_form : (v : Value) → function_of ≡ value_form v → (f : Option Func) × (v ≡ function f)
function_of_form (numeric k n) e = absurd (cc)
function_of_form (function f) e = (f, refl)
function_of_form (continuation c) e = absurd (cc)
function_of_form (reference class r) e = absurd (cc)

continuation_of_form : (v : Value) → continuation_of ≡ value_form v → (c : Option ℕ) × (v ≡ continuation c)
continuation_of_form (numeric k n) e = absurd (cc)
continuation_of_form (function f) e = absurd (cc)
continuation_of_form (continuation c) e = (c, refl)
continuation_of_form (reference class r) e = absurd (cc)

-- A reference of the class, with its word.
pub record ReferenceAs (place : Placing) (class : GcClass) (v : Value) (word : ℕ) : Type 0 where
  pub reference_is : Reference
  pub value_is : v ≡ reference class reference_is
  pub is_word : IsWord place reference_is word

-- A function or none, by the number that stands for it.
pub record FunctionAs (ids : InternedIds) (v : Value) (code : ℕ) : Type 0 where
  pub function_is : Option Func
  pub value_is : v ≡ function function_is
  pub is_code : IsIdCode ids.funcs function_is code

-- A continuation or none, by the number that stands for it.
pub record ContAs (ids : InternedIds) (v : Value) (code : ℕ) : Type 0 where
  pub cont_is : Option ℕ
  pub value_is : v ≡ continuation cont_is
  pub is_code : IsContCode ids.conts cont_is code

module _ (names : Names) (ty : StorageType) (v : Value) (bytes : List ℕ) (o : ℕ) where
  abbrev code : ℕ
  code = number_at (storage_width ty) bytes o

  -- in a field of numbers lies a number
  pub number_lying : (kind : NumberKind) → storage_form ty ≡ number_of kind → LiesAs names ty v bytes o → v ≡ numeric kind (number_at (storage_width ty) bytes o)
  number_lying kind is lies =
      let number = number_of_form kind v (sym is ∙ lies.form) in
      let same : code ≡ number.0 = subst (λ (x : Value). IsCode names x code) number.1 lies.code in
      number.1 ∙ ap (numeric kind) (sym same)

  -- in a field of references lies one of their class
  pub reference_lying : (class : GcClass) → storage_form ty ≡ reference_of class → LiesAs names ty v bytes o → ReferenceAs names.place class v (number_at (storage_width ty) bytes o)
  reference_lying class is lies =
      let r = reference_of_form class v (sym is ∙ lies.form) in
      record { reference_is = r.0; value_is = r.1; is_word = subst (λ (x : Value). IsCode names x code) r.1 lies.code }

  -- and in one of functions a function or none
  pub function_lying : storage_form ty ≡ function_of → LiesAs names ty v bytes o → FunctionAs names.ids v (number_at (storage_width ty) bytes o)
  function_lying is lies =
      let f = function_of_form v (sym is ∙ lies.form) in
      record { function_is = f.0; value_is = f.1; is_code = subst (λ (x : Value). IsCode names x code) f.1 lies.code }

  -- and in one of continuations a continuation or none
  pub continuation_lying : storage_form ty ≡ continuation_of → LiesAs names ty v bytes o → ContAs names.ids v (number_at (storage_width ty) bytes o)
  continuation_lying is lies =
      let c = continuation_of_form v (sym is ∙ lies.form) in
      record { cont_is = c.0; value_is = c.1; is_code = subst (λ (x : Value). IsCode names x code) c.1 lies.code }

heap_reference : (ty : HeapType) → is_gc_heap_type ty ≡ is_reference (top_form (heap_top ty))
heap_reference heap.Any = refl
heap_reference heap.Eq = refl
heap_reference heap.I31 = refl
heap_reference heap.Struct = refl
heap_reference heap.Array = refl
heap_reference heap.None = refl
heap_reference (heap.ConcreteStruct ty) = refl
heap_reference (heap.ConcreteArray ty) = refl
heap_reference heap.Extern = refl
heap_reference heap.NoExtern = refl
heap_reference heap.Func = refl
heap_reference heap.NoFunc = refl
heap_reference (heap.ConcreteFunc ty) = refl
heap_reference heap.Exn = refl
heap_reference heap.NoExn = refl
heap_reference (heap.ConcreteExn ty) = refl
heap_reference heap.Cont = refl
heap_reference heap.NoCont = refl

-- a collection follows the fields of references
pub storage_reference : (ty : StorageType) → is_gc_storage ty ≡ is_reference (storage_form ty)
storage_reference storage.I8 = refl
storage_reference storage.I16 = refl
storage_reference (storage.ValType val.I32) = refl
storage_reference (storage.ValType val.I64) = refl
storage_reference (storage.ValType val.F32) = refl
storage_reference (storage.ValType val.F64) = refl
storage_reference (storage.ValType val.V128) = refl
storage_reference (storage.ValType (val.Ref ty)) = heap_reference ty.heap_type

-- such a field is as wide as a word
pub reference_width : (ty : StorageType) → is_reference (storage_form ty) ≡ true → storage_width ty ≡ 4
reference_width storage.I8 e = absurd (cc)
reference_width storage.I16 e = absurd (cc)
reference_width (storage.ValType val.I32) e = refl
reference_width (storage.ValType val.I64) e = absurd (cc)
reference_width (storage.ValType val.F32) e = refl
reference_width (storage.ValType val.F64) e = absurd (cc)
reference_width (storage.ValType val.V128) e = absurd (cc)
reference_width (storage.ValType (val.Ref ty)) e = refl

-- a form of references is that of one class
pub reference_class : (f : Form) → is_reference f ≡ true → (class : GcClass) × (f ≡ reference_of class)
reference_class (number_of kind) e = absurd (cc)
reference_class function_of e = absurd (cc)
reference_class continuation_of e = absurd (cc)
reference_class (reference_of class) e = (class, refl)

-- A value stands for itself under another placing and another number, where the number of one that is no
-- reference is the same, and a reference's word is carried along.
pub value_moved : (place place' : Placing) (ids : InternedIds) (v : Value) (was now : ℕ) → (is_reference (value_form v) ≡ false → now ≡ was)
    → ((r : Reference) → is_reference (value_form v) ≡ true → IsWord place r was → IsWord place' r now)
    → IsCode (naming place ids) v was → IsCode (naming place' ids) v now
value_moved place place' ids (numeric kind n) was now same carried is = same refl ∙ is
value_moved place place' ids (function f) was now same carried is = subst (λ (c : ℕ). IsCode (naming place' ids) (function f) c) (sym (same refl)) is
value_moved place place' ids (continuation k) was now same carried is = subst (λ (c : ℕ). IsCode (naming place' ids) (continuation k) c) (sym (same refl)) is
value_moved place place' ids (reference class r) was now same carried is = carried r refl is
