-- The objects that registers name, by what a store says of their roots.
use Rattle.std.proofs.Common.{◌≡◌, ℕ, List, length, true, false, Option, Some, None, refl, sym, ap, ◌∙◌, subst, map, arith}
use Rattle.std.specs.List.{slice_get}
use Rattle.std.specs.Prelude.{IfSome, unwrap_or}
use Rattle.std.specs.Option.{option_map, option_and_then}
use Rattle.std.proofs.lemmas.Option.{none-some}
use Rattle.gc_types.specs.declared.kind.Layouts.{Layouts}
use Rattle.gc_types.specs.declared.kind.TypeKind.TheVariants as kinds
use Rattle.gc_types.specs.declared.value.FieldType.{FieldType}
use Rattle.gc_types.specs.Declarations.{Declaration, Shape, struct_of, array_of, exn_of, func_of, shape_kind, shape_fields, declaration_fields, constant_field, elem_at, shape_at}
use Rattle.gc_types.specs.Layouts.{struct_base, exception_base}
use Rattle.gc_view.specs.Heaps.{HeapObject}
use Rattle.gc_view.specs.Slots.{shape_slots}
use Rattle.gc_view.proofs.SlotLemmas.{length-field_slots}
use Rattle.gc_model.specs.Values.{Reference, null, small, at, Value, Object, struct, array, host, exception}
use Rattle.gc_model.specs.Reach.{IsHost}
use Rattle.gc_model.specs.Table.{Table}
use Rattle.gc_model.specs.Stores.{StoreView}
use Rattle.gc_model.specs.Holds.{HoldsTable, naming, Stands}
use Rattle.gc_model.proofs.HeldObjects.{object_held}
use Rattle.gc_store.proofs.HandleWords.{named_held}
use Rattle.gc_model.proofs.ObjectShapes.{shape_value_type, value_type_is}
use Rattle.gc_model.proofs.ObjectStands.{StandsByShape, stands_by_shape}
use Rattle.gc_values.specs.declared.root.GcRootIndex.{GcRootIndex}
use Rattle.gc_values.specs.declared.root.RootedObject.{RootedObject}
use Rattle.gc_values.specs.declared.root.RootedObject.TheVariants as rooted
use Rattle.gc_store.specs.Roots.{NamesReference, IsObject, IsReference, FindsRoot}
use Rattle.gc_script.specs.declared.objects.NamedObject.{NamedObject}
use Rattle.gc_script.specs.declared.objects.ValueTypes.TheVariants as types_of
use Rattle.gc_script.specs.declared.objects.Wanted.{Wanted}
use Rattle.gc_script.specs.declared.objects.Wanted.TheVariants as wanted
use Rattle.gc_script.specs.Given.{object_target, names_kind}
use Rattle.gc_script.specs.Named.{wants, takes, count_of_fields, type_at, with_fields, with_elements, described, IsNamedSomewhere, TellsObject}

-- the fields of a type, by its shape
fields_are : (d : Option Declaration) (shape : Shape) → option_map (λ (x : Declaration). x.shape) d ≡ Some shape → declaration_fields d ≡ shape_fields shape
fields_are None shape e = absurd (none-some shape e)
fields_are (Some d) shape e = let same : d.shape ≡ shape = grind (arith, e) in ap shape_fields same

-- A type's shape lists fields, as many as its objects have slots.
record Lists (layouts : Layouts) (types : List Declaration) (ty : ℕ) (shape : Shape) (n : ℕ) : Type 0 where
  counted : length (shape_slots layouts shape n) ≡ count_of_fields types ty
  typed : (index : ℕ) → shape_value_type shape index ≡ type_at types (types_of.Fields ty) index

lists : (layouts : Layouts) (types : List Declaration) (ty : ℕ) (shape : Shape) (n : ℕ) → shape_at types ty ≡ Some shape → ¬ (shape_kind shape ≡ kinds.Array) → ¬ (shape_kind shape ≡ kinds.Func) → Lists layouts types ty shape n
lists layouts types ty (struct_of fields) n e not_array not_func =
    let are = fields_are (slice_get types ty) (struct_of fields) e in
    record {
      counted = length-field_slots (struct_base layouts) fields ∙ sym (ap (λ (o : Option (List FieldType)). unwrap_or (option_map length o) 0) are);
      typed = λ index. sym (ap (option_and_then (λ (fs : List FieldType). slice_get fs index)) are);
    }
lists layouts types ty (array_of element) n e not_array not_func = absurd (not_array refl)
lists layouts types ty (exn_of params) n e not_array not_func =
    let are = fields_are (slice_get types ty) (exn_of params) e in
    record {
      counted = length-field_slots (exception_base layouts) (map constant_field params) ∙ sym (ap (λ (o : Option (List FieldType)). unwrap_or (option_map length o) 0) are);
      typed = λ index. sym (ap (option_and_then (λ (fs : List FieldType). slice_get fs index)) are);
    }
lists layouts types ty (func_of params results) n e not_array not_func = absurd (not_func refl)

-- a command takes what it wants
takes_wanted : (kind : Wanted) (o : Object ℕ) (object : RootedObject) → IsObject (Some o) object → takes kind object ≡ wants kind o
takes_wanted wanted.Struct (struct ty vs) object is = ap (takes wanted.Struct) is
takes_wanted wanted.Struct (array ty vs) object is = ap (takes wanted.Struct) is
takes_wanted wanted.Struct (host v) object is = ap (takes wanted.Struct) is
takes_wanted wanted.Struct (exception ty tag vs) object is = ap (takes wanted.Struct) is
takes_wanted wanted.Array (struct ty vs) object is = ap (takes wanted.Array) is
takes_wanted wanted.Array (array ty vs) object is = ap (takes wanted.Array) is
takes_wanted wanted.Array (host v) object is = ap (takes wanted.Array) is
takes_wanted wanted.Array (exception ty tag vs) object is = ap (takes wanted.Array) is
takes_wanted wanted.Exception (struct ty vs) object is = ap (takes wanted.Exception) is
takes_wanted wanted.Exception (array ty vs) object is = ap (takes wanted.Exception) is
takes_wanted wanted.Exception (host v) object is = ap (takes wanted.Exception) is
takes_wanted wanted.Exception (exception ty tag vs) object is = ap (takes wanted.Exception) is
takes_wanted wanted.WithFields (struct ty vs) object is = ap (takes wanted.WithFields) is
takes_wanted wanted.WithFields (array ty vs) object is = ap (takes wanted.WithFields) is
takes_wanted wanted.WithFields (host v) object is = ap (takes wanted.WithFields) is
takes_wanted wanted.WithFields (exception ty tag vs) object is = ap (takes wanted.WithFields) is

-- no command takes a small integer or a host object for one with values
no_small : (kind : Wanted) (n : ℕ) → takes kind (rooted.I31 n) ≡ false
no_small wanted.Struct n = refl
no_small wanted.Array n = refl
no_small wanted.Exception n = refl
no_small wanted.WithFields n = refl

no_host : (kind : Wanted) (v : ℕ) → wants kind (host v) ≡ false
no_host wanted.Struct v = refl
no_host wanted.Array v = refl
no_host wanted.Exception v = refl
no_host wanted.WithFields v = refl

module _ (layouts : Layouts) (store : StoreView ℕ) (t : Table ℕ) (holds : HoldsTable layouts store t) (root : GcRootIndex) where
  -- what stands in the heap for an object that a root names
  pub held_object : (p : ℕ) (o : Object ℕ) → NamesReference store t root (at p) → slice_get t.objects p ≡ Some o → (h : HeapObject) × Stands layouts t.types (naming holds.0 store.ids) o h
  held_object p o named object_is =
      let word = named_held layouts store t holds.0 holds.1 root (at p) named in
      let held = holds.1.objects.placed p word.0 word.1.0 in
      (held.object, object_held layouts store t holds.0 holds.1 p word.0 o held.object word.1.0 held.in_heap object_is)

  -- the shape of its type
  by_shape : (p : ℕ) (o : Object ℕ) → ¬ IsHost (Some o) → NamesReference store t root (at p) → slice_get t.objects p ≡ Some o → (h : HeapObject) × StandsByShape layouts t.types (naming holds.0 store.ids) o h
  by_shape p o not_host named object_is =
      let held = held_object p o named object_is in
      (held.0, stands_by_shape layouts t.types (naming holds.0 store.ids) o held.0 not_host held.1)

  module _ (kind : Wanted) (p : ℕ) (named : NamesReference store t root (at p)) where
    tells_struct : (ty : ℕ) (vs : List Value) → slice_get t.objects p ≡ Some (struct ty vs) → wants kind (struct ty vs) ≡ true → TellsObject store t kind (at p) (Some (with_fields t.types root ty))
    tells_struct ty vs object_is taken =
        let by = (by_shape p (struct ty vs) (λ bad. bad) named object_is).1 in
        let listed = lists layouts t.types ty by.stands.shape by.stands.count by.of_shape.0 (λ e. cc (sym by.of_shape.1 ∙ e)) (λ e. cc (sym by.of_shape.1 ∙ e)) in (
          record {
            position = p;
            named = named;
            object = struct ty vs;
            object_is = object_is;
            counted = by.stands.values_lie.same_count ∙ listed.counted;
            typed = λ index. value_type_is {D = ℕ} layouts t.types (struct ty vs) by.stands.shape index by.of_shape ∙ listed.typed index;
          },
          (refl, taken),
        )

    tells_exception : (ty : ℕ) (tag : _) (vs : List Value) → slice_get t.objects p ≡ Some (exception ty tag vs) → wants kind (exception ty tag vs) ≡ true → TellsObject store t kind (at p) (Some (with_fields t.types root ty))
    tells_exception ty tag vs object_is taken =
        let by = (by_shape p (exception ty tag vs) (λ bad. bad) named object_is).1 in
        let listed = lists layouts t.types ty by.stands.shape by.stands.count by.of_shape.0 (λ e. cc (sym by.of_shape.1 ∙ e)) (λ e. cc (sym by.of_shape.1 ∙ e)) in (
          record {
            position = p;
            named = named;
            object = exception ty tag vs;
            object_is = object_is;
            counted = by.stands.values_lie.same_count ∙ listed.counted;
            typed = λ index. value_type_is {D = ℕ} layouts t.types (exception ty tag vs) by.stands.shape index by.of_shape ∙ listed.typed index;
          },
          (refl, taken),
        )

    tells_array : (ty : ℕ) (vs : List Value) → slice_get t.objects p ≡ Some (array ty vs) → wants kind (array ty vs) ≡ true → (e : Option FieldType) → elem_at t.types ty ≡ e → TellsObject store t kind (at p) (option_map (with_elements root (length vs)) e)
    tells_array ty vs object_is taken (Some element) declared = (
      record {
        position = p;
        named = named;
        object = array ty vs;
        object_is = object_is;
        counted = refl;
        typed = λ index. declared;
      },
      (refl, taken),
    )
    tells_array ty vs object_is taken None declared =
        let by = (by_shape p (array ty vs) (λ bad. bad) named object_is).1 in
        absurd (no_element by.stands.shape by.of_shape.1 (sym (value_type_is {D = ℕ} layouts t.types (array ty vs) by.stands.shape 0 by.of_shape) ∙ declared))
      where
        no_element : (shape : Shape) → shape_kind shape ≡ kinds.Array → ¬ (shape_value_type shape 0 ≡ None)
        no_element (struct_of fields) is e = cc is
        no_element (array_of element) is e = none-some element (sym e)
        no_element (exn_of params) is e = cc is
        no_element (func_of params results) is e = cc is

    -- an object of the table, by what is said of it
    tells_at : (o : Option (Object ℕ)) (object : RootedObject) → slice_get t.objects p ≡ o → IsObject o object → takes kind object ≡ true → TellsObject store t kind (at p) (described t.types root object)
    tells_at None object object_is is taken = absurd is
    tells_at (Some (struct ty vs)) object object_is is taken =
        subst (λ (x : RootedObject). TellsObject store t kind (at p) (described t.types root x)) (sym is)
        (tells_struct ty vs object_is (sym (takes_wanted kind (struct ty vs) object is) ∙ taken))
    tells_at (Some (array ty vs)) object object_is is taken =
        subst (λ (x : RootedObject). TellsObject store t kind (at p) (described t.types root x)) (sym is)
        (tells_array ty vs object_is (sym (takes_wanted kind (array ty vs) object is) ∙ taken) (elem_at t.types ty) refl)
    tells_at (Some (host v)) object object_is is taken = absurd (cc (sym (no_host kind v) ∙ sym (takes_wanted kind (host v) object is) ∙ taken))
    tells_at (Some (exception ty tag vs)) object object_is is taken =
        subst (λ (x : RootedObject). TellsObject store t kind (at p) (described t.types root x)) (sym is)
        (tells_exception ty tag vs object_is (sym (takes_wanted kind (exception ty tag vs) object is) ∙ taken))

  module _ (kind : Wanted) (object : RootedObject) where
    -- what a root names, by what is said of it, where it is taken
    pub tells_taken : (r : Reference) → NamesReference store t root r → IsReference t r object → takes kind object ≡ true → TellsObject store t kind r (described store.types root object)
    tells_taken null named is taken = absurd is
    tells_taken (small n) named is taken = absurd (cc (sym (no_small kind n) ∙ sym (ap (takes kind) is) ∙ taken))
    tells_taken (at p) named is taken =
        subst (λ (types : List Declaration). TellsObject store t kind (at p) (described types root object)) (sym holds.1.types)
        (tells_at kind p named (slice_get t.objects p) object refl is taken)

    not_at : (p : ℕ) (o : Option (Object ℕ)) → IsObject o object → takes kind object ≡ false → names_kind (wants kind) (object_target p o) ≡ false
    not_at p None is other = absurd is
    not_at p (Some o) is other = sym (takes_wanted kind o object is) ∙ other

    -- and where it isn't
    pub tells_other : (r : Reference) → IsReference t r object → takes kind object ≡ false → TellsObject store t kind r None
    tells_other null is other = absurd is
    tells_other (small n) is other = refl
    tells_other (at p) is other = not_at p (slice_get t.objects p) is other

-- what is told of a root in a table that the store holds
pub is_named : (layouts : Layouts) (store : StoreView ℕ) (t : Table ℕ) (kind : Wanted) (r : Reference) (found : Option NamedObject) → HoldsTable layouts store t → TellsObject store t kind r found → IfSome found (IsNamedSomewhere layouts store kind)
is_named layouts store t kind r None holds tells = tt
is_named layouts store t kind r (Some found) holds tells = record { table = t; holds = holds; names = tells.0; of_kind = tells.1.1 }

pub found_named : (layouts : Layouts) (store : StoreView ℕ) (root : GcRootIndex) (kind : Wanted) (object : RootedObject) → FindsRoot ℕ layouts store root object → takes kind object ≡ true → IfSome (described store.types root object) (IsNamedSomewhere layouts store kind)
found_named layouts store root kind object finds taken =
    is_named layouts store finds.table kind finds.root (described store.types root object) finds.holds
    (tells_taken layouts store finds.table finds.holds root kind object finds.root finds.named finds.is taken)

-- what is found by a root has that root
rooted_elements : (root : GcRootIndex) (n : ℕ) (e : Option FieldType) → IfSome (option_map (with_elements root n) e) (λ (found : NamedObject). found.root ≡ root)
rooted_elements root n None = tt
rooted_elements root n (Some element) = refl

pub described_root : (types : List Declaration) (root : GcRootIndex) (object : RootedObject) → IfSome (described types root object) (λ (found : NamedObject). found.root ≡ root)
described_root types root (rooted.I31 n) = tt
described_root types root (rooted.Struct ty) = refl
described_root types root (rooted.Array ty n) = rooted_elements root n (elem_at types ty)
described_root types root rooted.Host = tt
described_root types root (rooted.Exn ty tag) = refl
