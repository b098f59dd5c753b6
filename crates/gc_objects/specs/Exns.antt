-- Exceptions: which references are, why one is refused, and which is asked for.
use Rattle.std.specs.Prelude.{◌≡◌, ℕ, true, false, List, Option, Some, None, length}
use Rattle.gc_types.specs.declared.value.Tag.{Tag}
use Rattle.gc_types.specs.Declarations.{TypeName}
use Rattle.gc_model.specs.Values.{Reference, Value, Object, exception}
use Rattle.gc_model.specs.Stored.{stored_in}
use Rattle.gc_model.specs.Stores.{StoreView}
use Rattle.gc_model.specs.Table.{Table}
use Rattle.gc_values.specs.declared.root.RootedObject.{RootedObject}
use Rattle.gc_values.specs.declared.root.RootedObject.TheVariants as rooted
use Rattle.gc_store.specs.Requests.{exn_fields_of}
use Rattle.gc_objects.specs.declared.faults.AllocFault.TheVariants as fault
use Rattle.gc_objects.specs.declared.places.NamedExn.{NamedExn}
use Rattle.gc_objects.specs.declared.val.Val.{Val}
use Rattle.gc_objects.specs.Answered.{named_object}
use Rattle.gc_objects.specs.Given.{field_types, AllGo, FirstGone, FirstMisfit}
use Rattle.gc_objects.specs.Makes.{Fault, Tests, are_given_own}

-- what the store says of a reference that is an exception
abbrev pub exn_in : RootedObject → Option NamedExn
exn_in (rooted.I31 n) = None
exn_in (rooted.Struct ty) = None
exn_in (rooted.Array ty count) = None
exn_in rooted.Host = None
exn_in (rooted.Exn ty tag) = Some (record { ty = ty; tag = tag })

-- the reference is an exception of that type and tag
abbrev pub IsNamedExn : {D : Type 0} → Table D → Reference → NamedExn → Type 0
IsNamedExn t r named = (values : List Value) × (named_object t r ≡ Some (exception named.ty named.tag values))

abbrev pub IsExn : {D : Type 0} → Table D → Reference → ℕ → Type 0
IsExn t r ty = (tag : Tag) × IsNamedExn t r (record { ty = ty; tag = tag })

abbrev pub HasTag : {D : Type 0} → Table D → Reference → Tag → Type 0
HasTag t r tag = (ty : ℕ) × IsNamedExn t r (record { ty = ty; tag = tag })

-- there is a value for each field of an exception
abbrev pub HasAllParams : {D : Type 0} → Table D → TypeName → List Val → Type 0
HasAllParams t ty vs = length vs ≡ length (exn_fields_of t.types ty.index)

-- why an exception is refused, as a struct
abbrev pub ExnCauses : {D : Type 0} → StoreView D → Table D → TypeName → List Val → Fault → Type 0
ExnCauses s t ty vs fault.WrongStore = are_given_own s ty vs ≡ false
ExnCauses s t ty vs fault.FieldCount = Tests s ty vs (Unit {0}) (¬ HasAllParams t ty vs)
ExnCauses s t ty vs fault.Unrooted = Tests s ty vs (HasAllParams t ty vs) (FirstGone s t (field_types t.types ty.index) vs)
ExnCauses s t ty vs fault.TypeMismatch = Tests s ty vs (HasAllParams t ty vs) (FirstMisfit s t (field_types t.types ty.index) vs)
ExnCauses s t ty vs _ = ⊥

-- an exception of these values is asked for
pub record AsksExn {D : Type 0} (s : StoreView D) (t : Table D) (ty : TypeName) (tag : Tag) (vs : List Val) (o : Object D) : Type 0 where
  pub own : are_given_own s ty vs ≡ true
  pub counted : HasAllParams t ty vs
  pub values : List Value
  pub go : AllGo s t (field_types t.types ty.index) vs values
  pub object_is : o ≡ exception ty.index tag (stored_in (exn_fields_of t.types ty.index) values)
