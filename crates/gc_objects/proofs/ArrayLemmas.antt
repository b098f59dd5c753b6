-- The array that a handle names: its elements and their type.
use Rattle.std.proofs.Common.{◌≡◌, ℕ, ◌<◌, ◌≤◌, true, List, length, Some, Result, Ok, sym, ap, ◌∙◌, refl, subst, arith}
use Rattle.std.specs.List.{slice_get}
use Rattle.std.proofs.lemmas.Option.{none-some}
use Rattle.gc_types.specs.declared.kind.Layouts.{Layouts}
use Rattle.gc_types.specs.declared.value.FieldType.{FieldType}
use Rattle.gc_types.specs.Declarations.{Declaration, elem_at}
use Rattle.gc_model.specs.Values.{Reference, null, small, at, Value, array}
use Rattle.gc_model.specs.Holds.{HoldsTable}
use Rattle.gc_model.specs.Table.{Table}
use Rattle.gc_model.specs.Stores.{StoreView}
use Rattle.gc_model.proofs.ObjectStands.{value_below}
use Rattle.gc_values.specs.declared.root.GcRootIndex.{GcRootIndex}
use Rattle.gc_values.specs.declared.root.RootFault.{RootFault}
use Rattle.gc_values.specs.declared.root.RootedObject.TheVariants as rooted_object
use Rattle.gc_store.specs.Roots.{is_of_store, NamesReference, FindsRoot, HasValue, CanRead}
use Rattle.gc_objects.specs.declared.places.NamedArray.{NamedArray}
use Rattle.gc_objects.specs.Answered.{Answers, IsNamedArray}
use Rattle.gc_objects.specs.Reads.{IsOutside, IsTypedAt, IsTypedSomewhere}
use Rattle.gc_objects.specs.Writes.{HasType}
use Rattle.gc_objects.proofs.Questions.{tells_array}

-- the handle names an array of that type, of so many elements
pub record ArrayAt {D : Type 0} (s : StoreView D) (t : Table D) (root : GcRootIndex) (which : NamedArray) : Type 0 where
  pub position : ℕ
  pub named : NamesReference s t root (at position)
  pub values : List Value
  pub object_is : slice_get t.objects position ≡ Some (array which.ty values)
  pub count : which.len ≡ length values

array_at_reference : {D : Type 0} (s : StoreView D) (t : Table D) (root : GcRootIndex) (which : NamedArray) (r : Reference) → NamesReference s t root r → IsNamedArray t r which → ArrayAt s t root which
array_at_reference s t root which null named is = absurd (none-some _ is.1.0)
array_at_reference s t root which (small n) named is = absurd (none-some _ is.1.0)
array_at_reference s t root which (at p) named is = record { position = p; named = named; values = is.0; object_is = is.1.0; count = is.1.1 }

-- so where it was asked what the handle names
module _ {D : Type 0} (s : StoreView D) (t : Table D) (root : GcRootIndex) (which : NamedArray) (result : Result NamedArray RootFault) (is : result ≡ Ok which)
    (answers : Answers s t (is_of_store s root) root (IsNamedArray t) result) where
  told : Answers s t (is_of_store s root) root (IsNamedArray t) (Ok which)
  told = subst (λ (q : Result NamedArray RootFault). Answers s t (is_of_store s root) root (IsNamedArray t) q) is answers

  pub array_told : ArrayAt s t root which
  array_told = array_at_reference s t root which told.1.0 told.1.1.0 told.1.1.1

  pub array_own : is_of_store s root ≡ true
  array_own = told.0

module _ {D : Type 0} (s : StoreView D) (t : Table D) (root : GcRootIndex) (which : NamedArray) (is : ArrayAt s t root which) (index : ℕ) where
  -- an element that it has
  pub element_there : index < which.len → (x : Value) × HasValue s t root index x
  element_there within =
      let value = value_below is.values index (subst (λ (n : ℕ). index < n) is.count within) in
      (value.0, record { position = is.position; named = is.named; object = array which.ty is.values; object_is = is.object_is; value_at = value.1 })

  -- or hasn't
  pub element_past : which.len ≤ index → IsOutside s t root index
  element_past past = record {
    position = is.position;
    named = is.named;
    object = array which.ty is.values;
    object_is = is.object_is;
    outside = let count = is.count in omega (arith, past, count);
  }

  module _ (element : FieldType) (element_is : elem_at t.types which.ty ≡ Some element) where
    pub element_has_type : HasType s t root index element
    element_has_type = record { position = is.position; named = is.named; object = array which.ty is.values; object_is = is.object_is; field_is = element_is }

    pub element_typed : index < which.len → IsTypedAt s t root index element
    element_typed within =
        let value = value_below is.values index (subst (λ (n : ℕ). index < n) is.count within) in
        record {
          value = value.0;
          has = record { position = is.position; named = is.named; object = array which.ty is.values; object_is = is.object_is; value_at = value.1 };
          field_is = element_is;
        }

-- what is declared of elements is so in each table that the store holds
pub element_here : {D : Type 0} (layouts : Layouts) (s : StoreView D) (t : Table D) → HoldsTable layouts s t → (ty : ℕ) (element : FieldType) → elem_at s.types ty ≡ Some element → elem_at t.types ty ≡ Some element
element_here layouts s t holds ty element declared = sym (ap (λ (types : List Declaration). elem_at types ty) holds.1.types) ∙ declared

-- an array that is found has its elements, of that type
module _ {D : Type 0} (layouts : Layouts) (s : StoreView D) (root : GcRootIndex) (which : NamedArray) (found : FindsRoot D layouts s root (rooted_object.Array which.ty which.len)) where
  pub array_found_at : ArrayAt s found.table root which
  array_found_at = array_at_reference s found.table root which found.root found.named (tells_array found.table (rooted_object.Array which.ty which.len) which refl found.root found.is)

  pub may_read : (index : ℕ) → index < which.len → CanRead D layouts s root index
  may_read index within =
      let there = element_there s found.table root which array_found_at index within in
      record { table = found.table; holds = found.holds; value = there.0; has = there.1 }

  pub element_found : (index : ℕ) (element : FieldType) → elem_at s.types which.ty ≡ Some element → index < which.len → IsTypedSomewhere D layouts s root index element
  element_found index element declared within = record {
    table = found.table;
    holds = found.holds;
    typed = element_typed s found.table root which array_found_at index element (element_here layouts s found.table found.holds which.ty element declared) within;
  }
