-- What fits a type has its form, and fits it still once more is declared, made or written.
use Rattle.std.proofs.Common.{◌≡◌, ℕ, zero, suc, ◌&&◌, ◌||◌, Bool, true, false, List, [], ◌∷◌, ◌++◌, Option, Some, None, inl, inr, refl, sym, ap, ◌∙◌}
use Rattle.std.specs.List.{slice_get}
use Rattle.std.specs.Prelude.{◌==◌, option_map, slice_set}
use Rattle.std.proofs.lemmas.Bool.{cases_eq}
use Rattle.std.proofs.lemmas.Option.{none-some, slice_get-map}
use Rattle.gc_types.specs.declared.value.Func.{Func}
use Rattle.gc_types.specs.declared.value.HeapType.{HeapType}
use Rattle.gc_types.specs.declared.value.HeapType.TheVariants as heap
use Rattle.gc_types.specs.declared.value.HeapTopType.{HeapTopType}
use Rattle.gc_types.specs.declared.value.HeapTopType.TheVariants as top
use Rattle.gc_types.specs.declared.value.RefType.{RefType}
use Rattle.gc_types.specs.declared.value.StorageType.{StorageType}
use Rattle.gc_types.specs.declared.value.StorageType.TheVariants as storage
use Rattle.gc_types.specs.declared.value.ValType.{ValType}
use Rattle.gc_types.specs.declared.value.ValType.TheVariants as val
use Rattle.gc_types.specs.Declarations.{Declaration}
use Rattle.gc_types.specs.Subtyping.{supertypes_of}
use Rattle.gc_types.specs.Values.{heap_top}
use Rattle.gc_owner.specs.declared.entry.GcClass.{GcClass}
use Rattle.gc_owner.specs.declared.entry.GcClass.TheVariants.{Any, Extern, Exn}
use Rattle.gc_model.specs.Values.{Reference, null, small, at, Value, numeric, i32, i64, f32, f64, v128, function, continuation, reference, Object, struct, array, host, exception}
use Rattle.gc_model.specs.Fits.{meets_from, climbs, matches, is_extern, object_fits_any, object_fits_extern, object_fits_exn, has_class, is_function_top, is_cont, is_cont_top, reference_fits, function_fits, cont_fits, fits_type, fits}
use Rattle.gc_model.specs.Forms.{top_form, type_form, storage_form, value_form, function_of, continuation_of, reference_of}
use Rattle.gc_model.specs.Reach.{object_values}
use Rattle.gc_model.specs.Stored.{stored}
use Rattle.gc_model.specs.Table.{change_at, with_value}
use Rattle.gc_model.proofs.Changes.{slice_get-change_at_same, slice_get-change_at_other}
use Rattle.gc_model.proofs.Lists.{slice_get-push_old}
use Rattle.gc_model.proofs.ObjectStands.{with_values, with_values-own, changed_values}

-- the form of the types that a heap type matches
struct_top : (supers : List (Option ℕ)) (own : ℕ) (ty : HeapType) → matches supers (heap.ConcreteStruct own) ty ≡ true → heap_top ty ≡ top.Any
struct_top supers own heap.Any e = refl
struct_top supers own heap.Eq e = refl
struct_top supers own heap.Struct e = refl
struct_top supers own (heap.ConcreteStruct b) e = refl
struct_top supers own _ e = absurd (cc)

array_top : (supers : List (Option ℕ)) (own : ℕ) (ty : HeapType) → matches supers (heap.ConcreteArray own) ty ≡ true → heap_top ty ≡ top.Any
array_top supers own heap.Any e = refl
array_top supers own heap.Eq e = refl
array_top supers own heap.Array e = refl
array_top supers own (heap.ConcreteArray b) e = refl
array_top supers own _ e = absurd (cc)

small_top : (supers : List (Option ℕ)) (ty : HeapType) → matches supers heap.I31 ty ≡ true → heap_top ty ≡ top.Any
small_top supers heap.Any e = refl
small_top supers heap.Eq e = refl
small_top supers heap.I31 e = refl
small_top supers _ e = absurd (cc)

func_top : (supers : List (Option ℕ)) (own : ℕ) (ty : HeapType) → matches supers (heap.ConcreteFunc own) ty ≡ true → heap_top ty ≡ top.Func
func_top supers own heap.Func e = refl
func_top supers own (heap.ConcreteFunc b) e = refl
func_top supers own _ e = absurd (cc)

exn_top : (supers : List (Option ℕ)) (own : ℕ) (ty : HeapType) → matches supers (heap.ConcreteExn own) ty ≡ true → heap_top ty ≡ top.Exn
exn_top supers own heap.Exn e = refl
exn_top supers own (heap.ConcreteExn b) e = refl
exn_top supers own _ e = absurd (cc)

extern_top : (ty : HeapType) → is_extern ty ≡ true → heap_top ty ≡ top.Extern
extern_top heap.Extern e = refl
extern_top _ e = absurd (cc)

class_form : (t : HeapTopType) (class : GcClass) → has_class t class ≡ true → top_form t ≡ reference_of class
class_form top.Any Any e = refl
class_form top.Extern Extern e = refl
class_form top.Exn Exn e = refl
class_form _ _ e = absurd (cc)

null_form : (nullable : Bool) (t : HeapTopType) (class : GcClass) → (nullable && has_class t class) ≡ true → top_form t ≡ reference_of class
null_form true t class e = class_form t class e
null_form false t class e = absurd (cc)

function_form : (nullable : Bool) (t : HeapTopType) → (nullable && is_function_top t) ≡ true → top_form t ≡ function_of
function_form true top.Func e = refl
function_form true _ e = absurd (cc)
function_form false t e = absurd (cc)

cont_form : (nullable : Bool) (t : HeapTopType) → (nullable && is_cont_top t) ≡ true → top_form t ≡ continuation_of
cont_form true top.Cont e = refl
cont_form true _ e = absurd (cc)
cont_form false t e = absurd (cc)

cont_top : (ty : HeapType) → is_cont ty ≡ true → heap_top ty ≡ top.Cont
cont_top heap.Cont e = refl
cont_top _ e = absurd (cc)

of_continuation : (ty : RefType) (c : Option ℕ) → cont_fits ty c ≡ true → top_form (heap_top ty.heap_type) ≡ continuation_of
of_continuation ty None e = cont_form ty.nullable (heap_top ty.heap_type) e
of_continuation ty (Some c) e = ap top_form (cont_top ty.heap_type e)

module _ {D : Type 0} (types : List Declaration) where
  object_form_any : (ty : HeapType) (o : Option (Object D)) → object_fits_any types ty o ≡ true → top_form (heap_top ty) ≡ reference_of Any
  object_form_any ty None e = absurd (cc)
  object_form_any ty (Some (struct own values)) e = ap top_form (struct_top (supertypes_of types) own ty e)
  object_form_any ty (Some (array own values)) e = ap top_form (array_top (supertypes_of types) own ty e)
  object_form_any ty (Some (host value)) e = absurd (cc)
  object_form_any ty (Some (exception own tag values)) e = absurd (cc)

  object_form_extern : (ty : HeapType) (o : Option (Object D)) → object_fits_extern ty o ≡ true → top_form (heap_top ty) ≡ reference_of Extern
  object_form_extern ty None e = absurd (cc)
  object_form_extern ty (Some (struct own values)) e = ap top_form (extern_top ty e)
  object_form_extern ty (Some (array own values)) e = ap top_form (extern_top ty e)
  object_form_extern ty (Some (host value)) e = ap top_form (extern_top ty e)
  object_form_extern ty (Some (exception own tag values)) e = absurd (cc)

  object_form_exn : (ty : HeapType) (o : Option (Object D)) → object_fits_exn types ty o ≡ true → top_form (heap_top ty) ≡ reference_of Exn
  object_form_exn ty None e = absurd (cc)
  object_form_exn ty (Some (struct own values)) e = absurd (cc)
  object_form_exn ty (Some (array own values)) e = absurd (cc)
  object_form_exn ty (Some (host value)) e = absurd (cc)
  object_form_exn ty (Some (exception own tag values)) e = ap top_form (exn_top (supertypes_of types) own ty e)

  module _ (objects : List (Object D)) where
    reference_form : (ty : RefType) (class : GcClass) (r : Reference) → reference_fits types objects ty class r ≡ true → top_form (heap_top ty.heap_type) ≡ reference_of class
    reference_form ty class null e = null_form ty.nullable (heap_top ty.heap_type) class e
    reference_form ty Any (small n) e = ap top_form (small_top (supertypes_of types) ty.heap_type e)
    reference_form ty Extern (small n) e = ap top_form (extern_top ty.heap_type e)
    reference_form ty Exn (small n) e = absurd (cc)
    reference_form ty Any (at p) e = object_form_any ty.heap_type (slice_get objects p) e
    reference_form ty Extern (at p) e = object_form_extern ty.heap_type (slice_get objects p) e
    reference_form ty Exn (at p) e = object_form_exn ty.heap_type (slice_get objects p) e

    of_function : (ty : RefType) (f : Option Func) → function_fits types ty f ≡ true → top_form (heap_top ty.heap_type) ≡ function_of
    of_function ty None e = function_form ty.nullable (heap_top ty.heap_type) e
    of_function ty (Some f) e = ap top_form (func_top (supertypes_of types) f.ty ty.heap_type e)

    type_form_of : (ty : ValType) (v : Value) → fits_type types objects ty v ≡ true → type_form ty ≡ value_form v
    type_form_of val.I32 (numeric i32 n) e = refl
    type_form_of val.I64 (numeric i64 n) e = refl
    type_form_of val.F32 (numeric f32 n) e = refl
    type_form_of val.F64 (numeric f64 n) e = refl
    type_form_of val.V128 (numeric v128 n) e = refl
    type_form_of (val.Ref ty) (function f) e = of_function ty f e
    type_form_of (val.Ref ty) (continuation c) e = of_continuation ty c e
    type_form_of (val.Ref ty) (reference class r) e = reference_form ty class r e
    type_form_of _ _ e = absurd (cc)

    -- What fits a type is of its form.
    pub fits-form : (ty : StorageType) (v : Value) → fits types objects ty v ≡ true → storage_form ty ≡ value_form v
    fits-form storage.I8 v e = type_form_of val.I32 v e
    fits-form storage.I16 v e = type_form_of val.I32 v e
    fits-form (storage.ValType ty) v e = type_form_of ty v e

    -- what is kept of it fits it
    pub fits-stored : (ty : StorageType) (v : Value) → fits types objects ty v ≡ true → fits types objects ty (stored ty v) ≡ true
    fits-stored storage.I8 (numeric i32 n) e = refl
    fits-stored storage.I16 (numeric i32 n) e = refl
    fits-stored ty v e = e

-- The types and the objects are as they were, but for more of them and for the values of objects.
pub record AreLater {D : Type 0} (types types' : List Declaration) (objects objects' : List (Object D)) : Type 0 where
  pub declared : (ty : ℕ) (d : Declaration) → slice_get types ty ≡ Some d → slice_get types' ty ≡ Some d
  pub made : (p : ℕ) (o : Object D) → slice_get objects p ≡ Some o → (values : _) × (slice_get objects' p ≡ Some (with_values values o))

module _ (supers supers' : List (Option ℕ)) (more : (a : ℕ) (s : Option ℕ) → slice_get supers a ≡ Some s → slice_get supers' a ≡ Some s) where
  or_later : (a b c : Bool) → (b ≡ true → c ≡ true) → (a || b) ≡ true → (a || c) ≡ true
  or_later true b c goes e = refl
  or_later false b c goes e = goes e

  meets_later : (goes_on goes_on' : ℕ → Bool) → ((p : ℕ) → goes_on p ≡ true → goes_on' p ≡ true) → (s : Option (Option ℕ)) (a b : ℕ) → meets_from goes_on s a b ≡ true → meets_from goes_on' s a b ≡ true
  meets_later goes_on goes_on' goes None a b e = e
  meets_later goes_on goes_on' goes (Some None) a b e = e
  meets_later goes_on goes_on' goes (Some (Some p)) a b e = or_later (a == b) (goes_on p) (goes_on' p) (goes p) e

  step : (goes_on goes_on' : ℕ → Bool) → ((p : ℕ) → goes_on p ≡ true → goes_on' p ≡ true) → (a b : ℕ) → meets_from goes_on (slice_get supers a) a b ≡ true → meets_from goes_on' (slice_get supers' a) a b ≡ true
  step goes_on goes_on' goes a b e = by (slice_get supers a) refl e
    where
      by : (s : Option (Option ℕ)) → slice_get supers a ≡ s → meets_from goes_on s a b ≡ true → meets_from goes_on' (slice_get supers' a) a b ≡ true
      by None is found = absurd (cc)
      by (Some s) is found = ap (λ x. meets_from goes_on' x a b) (more a s is) ∙ meets_later goes_on goes_on' goes (Some s) a b found

  climbs_later : (n a b : ℕ) → climbs n supers a b ≡ true → climbs n supers' a b ≡ true
  climbs_later zero a b e = e
  climbs_later (suc n) a b e = step (λ p. climbs n supers p b) (λ p. climbs n supers' p b) (λ p. climbs_later n p b) a b e

  matches_later : (x y : HeapType) → matches supers x y ≡ true → matches supers' x y ≡ true
  matches_later (heap.ConcreteStruct a) (heap.ConcreteStruct b) e = climbs_later (suc a) a b e
  matches_later (heap.ConcreteArray a) (heap.ConcreteArray b) e = climbs_later (suc a) a b e
  matches_later (heap.ConcreteFunc a) (heap.ConcreteFunc b) e = climbs_later (suc a) a b e
  matches_later (heap.ConcreteExn a) (heap.ConcreteExn b) e = climbs_later (suc a) a b e
  matches_later x y e = e

supertypes_later : (types types' : List Declaration) → ((ty : ℕ) (d : Declaration) → slice_get types ty ≡ Some d → slice_get types' ty ≡ Some d)
    → (a : ℕ) (s : Option ℕ) → slice_get (supertypes_of types) a ≡ Some s → slice_get (supertypes_of types') a ≡ Some s
supertypes_later types types' more a s e = by (slice_get types a) refl (sym (slice_get-map (λ (d : Declaration). d.supertype) types a) ∙ e)
  where
    by : (d : Option Declaration) → slice_get types a ≡ d → option_map (λ (x : Declaration). x.supertype) d ≡ Some s → slice_get (supertypes_of types') a ≡ Some s
    by None is found = absurd (none-some s found)
    by (Some d) is found = slice_get-map (λ (x : Declaration). x.supertype) types' a ∙ ap (option_map (λ (x : Declaration). x.supertype)) (more a d is) ∙ found

module _ {D : Type 0} (types types' : List Declaration) (objects objects' : List (Object D)) (later : AreLater types types' objects objects') where
  own_later : (x y : HeapType) → matches (supertypes_of types) x y ≡ true → matches (supertypes_of types') x y ≡ true
  own_later = matches_later (supertypes_of types) (supertypes_of types') (supertypes_later types types' later.declared)

  values_any : (ty : HeapType) (o : Object D) (values : List Value) → object_fits_any types ty (Some o) ≡ true → object_fits_any types' ty (Some (with_values values o)) ≡ true
  values_any ty (struct own old) values e = own_later (heap.ConcreteStruct own) ty e
  values_any ty (array own old) values e = own_later (heap.ConcreteArray own) ty e
  values_any ty (host value) values e = e
  values_any ty (exception own tag old) values e = e

  values_extern : (ty : HeapType) (o : Object D) (values : List Value) → object_fits_extern ty (Some o) ≡ true → object_fits_extern ty (Some (with_values values o)) ≡ true
  values_extern ty (struct own old) values e = e
  values_extern ty (array own old) values e = e
  values_extern ty (host value) values e = e
  values_extern ty (exception own tag old) values e = e

  values_exn : (ty : HeapType) (o : Object D) (values : List Value) → object_fits_exn types ty (Some o) ≡ true → object_fits_exn types' ty (Some (with_values values o)) ≡ true
  values_exn ty (struct own old) values e = e
  values_exn ty (array own old) values e = e
  values_exn ty (host value) values e = e
  values_exn ty (exception own tag old) values e = own_later (heap.ConcreteExn own) ty e

  -- a test of an object that is there, as it was
  object_later : (test test' : Option (Object D) → Bool) → (test None ≡ true → ⊥) → ((o : Object D) (values : List Value) → test (Some o) ≡ true → test' (Some (with_values values o)) ≡ true)
      → (p : ℕ) → test (slice_get objects p) ≡ true → test' (slice_get objects' p) ≡ true
  object_later test test' none goes p e = by (slice_get objects p) refl e
    where
      by : (o : Option (Object D)) → slice_get objects p ≡ o → test o ≡ true → test' (slice_get objects' p) ≡ true
      by None is found = absurd (none found)
      by (Some o) is found = let there = later.made p o is in ap test' there.1 ∙ goes o there.0 found

  reference_later : (ty : RefType) (class : GcClass) (r : Reference) → reference_fits types objects ty class r ≡ true → reference_fits types' objects' ty class r ≡ true
  reference_later ty class null e = e
  reference_later ty Any (small n) e = own_later heap.I31 ty.heap_type e
  reference_later ty Extern (small n) e = e
  reference_later ty Exn (small n) e = e
  reference_later ty Any (at p) e = object_later (object_fits_any types ty.heap_type) (object_fits_any types' ty.heap_type) (λ x. absurd (cc x)) (values_any ty.heap_type) p e
  reference_later ty Extern (at p) e = object_later (object_fits_extern ty.heap_type) (object_fits_extern ty.heap_type) (λ x. absurd (cc x)) (values_extern ty.heap_type) p e
  reference_later ty Exn (at p) e = object_later (object_fits_exn types ty.heap_type) (object_fits_exn types' ty.heap_type) (λ x. absurd (cc x)) (values_exn ty.heap_type) p e

  function_later : (ty : RefType) (f : Option Func) → function_fits types ty f ≡ true → function_fits types' ty f ≡ true
  function_later ty None e = e
  function_later ty (Some f) e = own_later (heap.ConcreteFunc f.ty) ty.heap_type e

  type_later : (ty : ValType) (v : Value) → fits_type types objects ty v ≡ true → fits_type types' objects' ty v ≡ true
  type_later val.I32 (numeric i32 n) e = refl
  type_later val.I64 (numeric i64 n) e = refl
  type_later val.F32 (numeric f32 n) e = refl
  type_later val.F64 (numeric f64 n) e = refl
  type_later val.V128 (numeric v128 n) e = refl
  type_later (val.Ref ty) (function f) e = function_later ty f e
  type_later (val.Ref ty) (continuation c) e = e
  type_later (val.Ref ty) (reference class r) e = reference_later ty class r e
  type_later _ _ e = absurd (cc)

  -- What fits a type fits it later.
  pub fits-later : (ty : StorageType) (v : Value) → fits types objects ty v ≡ true → fits types' objects' ty v ≡ true
  fits-later storage.I8 v e = type_later val.I32 v e
  fits-later storage.I16 v e = type_later val.I32 v e
  fits-later (storage.ValType ty) v e = type_later ty v e

-- what is the same object has its own values
own_values : {D : Type 0} (objects : List (Object D)) (p : ℕ) (o : Object D) → slice_get objects p ≡ Some o → (values : List Value) × (slice_get objects p ≡ Some (with_values values o))
own_values objects p o e = (object_values o, e ∙ ap Some (sym (with_values-own o)))

module _ {D : Type 0} (types : List Declaration) (objects : List (Object D)) where
  -- one more type
  pub types_later : (d : Declaration) → AreLater types (types ++ d ∷ []) objects objects
  types_later d = record { declared = slice_get-push_old types d; made = own_values objects }

  -- one more object
  pub objects_later : (o : Object D) → AreLater types types objects (objects ++ o ∷ [])
  objects_later o = record {
    declared = λ ty d e. e;
    made = λ p x e. own_values (objects ++ o ∷ []) p x (slice_get-push_old objects o p x e);
  }

  -- another value in an object
  pub written_later : (position index : ℕ) (v : Value) → AreLater types types objects (change_at position (with_value index v) objects)
  written_later position index v = record {
    declared = λ ty d e. e;
    made = λ p x e. elim (cases_eq p position) [
      | inl same ↦
          let there : slice_get objects position ≡ Some x = ap (slice_get objects) (sym same) ∙ e in (
            slice_set (object_values x) index v,
            ap (slice_get (change_at position (with_value index v) objects)) same
                ∙ slice_get-change_at_same position (with_value index v) objects x there
                ∙ ap Some (sym (changed_values index v x)),
          )
      | inr differ ↦ own_values (change_at position (with_value index v) objects) p x (slice_get-change_at_other position (with_value index v) objects p differ ∙ e)
    ];
  }

  pub fits-more_types : (d : Declaration) (ty : StorageType) (v : Value) → fits types objects ty v ≡ true → fits (types ++ d ∷ []) objects ty v ≡ true
  fits-more_types d = fits-later types (types ++ d ∷ []) objects objects (types_later d)

  pub fits-more_objects : (o : Object D) (ty : StorageType) (v : Value) → fits types objects ty v ≡ true → fits types (objects ++ o ∷ []) ty v ≡ true
  fits-more_objects o = fits-later types types objects (objects ++ o ∷ []) (objects_later o)

  pub fits-written : (position index : ℕ) (w : Value) (ty : StorageType) (v : Value) → fits types objects ty v ≡ true → fits types (change_at position (with_value index w) objects) ty v ≡ true
  fits-written position index w = fits-later types types objects (change_at position (with_value index w) objects) (written_later position index w)
