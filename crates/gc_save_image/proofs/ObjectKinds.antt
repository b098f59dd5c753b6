-- What the store says of an object is what it is, and its line says it.
use Rattle.std.proofs.Common.{inl, inr, ◌≡◌, ℕ, ◌+◌, ◌<◌, Err, List, length, map, Some, None, Option, true, sym, ap, ◌∙◌, refl, subst, arith}
use Rattle.std.specs.List.{slice_get}
use Rattle.std.proofs.lemmas.Option.{slice_get_within, slice_get_cases}
use Rattle.gc_types.specs.declared.kind.Layouts.{Layouts}
use Rattle.gc_types.specs.declared.value.FieldType.{FieldType}
use Rattle.gc_types.specs.declared.value.StorageType.TheVariants as storage
use Rattle.gc_types.specs.Declarable.{AreDeclared}
use Rattle.gc_types.specs.Declarations.{Declaration, elem_at}
use Rattle.gc_model.specs.Forms.{naming}
use Rattle.gc_model.specs.Reach.{object_values}
use Rattle.gc_model.specs.Stored.{byte_value}
use Rattle.gc_model.specs.Stores.{StoreView}
use Rattle.gc_model.specs.Table.{Table}
use Rattle.gc_model.specs.Values.{Value, at, Object, struct, array, host, exception}
use Rattle.gc_model.proofs.HeldObjects.{object_held}
use Rattle.gc_values.specs.declared.root.GcRootIndex.{GcRootIndex}
use Rattle.gc_values.specs.declared.root.RootedObject.{RootedObject}
use Rattle.gc_values.specs.declared.root.RootedObject.TheVariants as rooted
use Rattle.gc_store.specs.Bytes.{NamesBytes, CanCopyBytes}
use Rattle.gc_store.specs.Roots.{IsObject}
use Rattle.gc_store.proofs.HandleWords.{named_held}
use Rattle.gc_paths.specs.Progress.{Basis, values_count}
use Rattle.gc_image.specs.declared.image.ImageValue.{ImageValue}
use Rattle.gc_image.specs.declared.image.ObjectLine.{ObjectLine}
use Rattle.gc_image.specs.Well.{IsPacked}
use Rattle.gc_paths.specs.Objects.{CountsIn}
use Rattle.gc_paths.proofs.Counting.{values_counted}
use Rattle.gc_save_image.specs.declared.collect_fault.CollectFault.{CollectFault}
use Rattle.gc_save_image.specs.declared.collect_fault.CollectFault.TheVariants as fault
use Rattle.gc_save_image.specs.Parts.{FoundHandles}
use Rattle.gc_save_image.specs.Progress.{AnswersImagePart, ImageGoesOn, ImageProgress, SaysFirst, SaysObject}
use Rattle.gc_save_image.specs.Steps.{IsNumberedObject, IsOfBytes, NoBytes, IsBytesLine, IsWordsLine}
use Rattle.gc_save_image.proofs.Taken.{keeps_itself}
use Rattle.gc_save_image.proofs.WasRead.{names_one, object_here}
use Rattle.gc_save_image.proofs.Lines.{IsDeclared, is_declared, words_say, bytes_say, bytes_count}

-- an object that is told as an array is one
record IsArray (o : Object ℕ) (ty len : ℕ) : Type 0 where
  values : List Value
  is : o ≡ array ty values
  count : length values ≡ len

same_ty : (ty ty' len len' : ℕ) → ◌≡◌ {A = RootedObject} (rooted.Array ty len) (rooted.Array ty' len') → ty ≡ ty'
same_ty ty ty' len len' e = cc e

same_len : (ty ty' len len' : ℕ) → ◌≡◌ {A = RootedObject} (rooted.Array ty len) (rooted.Array ty' len') → len ≡ len'
same_len ty ty' len len' e = cc e

is_array : (o : Object ℕ) (kind : RootedObject) (ty len : ℕ) → IsObject (Some o) kind → kind ≡ rooted.Array ty len → IsArray o ty len
is_array (struct ty' values) kind ty len is e = absurd (differ (sym is ∙ e))
  where
    differ : ◌≡◌ {A = RootedObject} (rooted.Struct ty') (rooted.Array ty len) → ⊥
    differ e = cc
is_array (array ty' values) kind ty len is e = record {
  values = values;
  is = ap (λ t. array t values) (same_ty ty' ty (length values) len (sym is ∙ e));
  count = same_len ty' ty (length values) len (sym is ∙ e);
}
is_array (host n) kind ty len is e = absurd (differ (sym is ∙ e))
  where
    differ : ◌≡◌ {A = RootedObject} rooted.Host (rooted.Array ty len) → ⊥
    differ e = cc
is_array (exception ty' tag values) kind ty len is e = absurd (differ (sym is ∙ e))
  where
    differ : ◌≡◌ {A = RootedObject} (rooted.Exn ty' tag) (rooted.Array ty len) → ⊥
    differ e = cc

-- the element of an array of bytes
record IsBytesElement (e : Option FieldType) : Type 0 where
  elem : FieldType
  is : e ≡ Some elem
  of_bytes : elem.element_type ≡ storage.I8

bytes_element : (e : Option FieldType) → IsPacked e true → IsBytesElement e
bytes_element None packed = absurd packed
bytes_element (Some elem) packed = record { elem = elem; is = refl; of_bytes = packed }

-- an object that is no array of bytes by what is told
no_bytes : (types : List Declaration) (o : Object ℕ) (kind : RootedObject) → IsObject (Some o) kind → NoBytes types kind → (ty : ℕ) (values : List Value) (elem : FieldType) → o ≡ array ty values → elem_at types ty ≡ Some elem → elem.element_type ≡ storage.I8 → ⊥
no_bytes types o kind is none ty values elem e at_elem packed = none ty (length values) elem (subst (λ (x : Object ℕ). IsObject (Some x) kind) e is) at_elem packed

module _ (layouts : Layouts) (b : Basis ℕ) (told : List ℕ) (count : ℕ) (s : StoreView ℕ) (f : FoundHandles) (progress : ImageProgress layouts b told count s f) where
  abbrev now : Table ℕ
  now = progress.holds.now

  types_are : s.types ≡ b.table.types
  types_are = progress.holds.there.0.types ∙ ap (λ (t : Table ℕ). t.types) progress.holds.grown.is

  module _ (number : ℕ) (o : Object ℕ) (reading : IsNumberedObject b told number o) (h : GcRootIndex) (at_h : slice_get f.handles number ≡ Some h) (kind : RootedObject) (kind_is : IsObject (Some o) kind) where
    module _ (found : ℕ × ℕ) (of_bytes : IsOfBytes s.types kind found) where
      one : IsArray o found.0 found.1
      one = is_array o kind found.0 found.1 kind_is of_bytes.0

      names_bytes : NamesBytes s now h one.values
      names_bytes =
          let element = bytes_element (elem_at s.types found.0) of_bytes.1 in
          record {
            position = reading.position;
            named = names_one layouts b told count s f progress number o reading h at_h;
            ty = found.0;
            object_is = object_here layouts b told count s f progress number o reading h at_h ∙ ap Some one.is;
            element = element.elem;
            declared = ap (λ (ts : List Declaration). elem_at ts found.0) (sym progress.holds.there.0.types) ∙ element.is;
            of_bytes = element.of_bytes;
          }

      pub can_copy : CanCopyBytes ℕ layouts s h found.1
      can_copy = record { table = now; holds = (b.place, progress.holds.there.0); values = one.values; bytes = names_bytes; same_count = one.count }

      pub bytes_taken : AreDeclared s.types → (l : ObjectLine) → IsBytesLine s now h found.0 l → ImageGoesOn layouts b told (count + values_count (object_values o)) s f (λ then. SaysObject b.table.types then o l)
      bytes_taken declared l (bytes, at_l, small, copies) =
          let values_are = copies one.values names_bytes in
          let object_is : array found.0 (map byte_value bytes) ≡ o = ap (array found.0) (sym values_are) ∙ sym one.is in
          record {
            told = told;
            kept = keeps_itself told;
            progress = subst (λ (x : Object ℕ). ImageProgress layouts b told (count + values_count (object_values x)) s f) object_is (subst (λ (n : ℕ). ImageProgress layouts b told n s f) (let none = bytes_count bytes in omega (arith, none)) progress);
            done = subst (λ (ts : List Declaration). SaysObject ts told o l) types_are (subst (λ (x : Object ℕ). SaysObject s.types told x l) object_is (bytes_say s.types declared told found.0 bytes l at_l of_bytes.1 small));
          }

    -- the object's type is declared
    declared_here : IsDeclared b.table.types o
    declared_here =
        let held = named_held layouts s now b.place progress.holds.there.0 h (at reading.position) (names_one layouts b told count s f progress number o reading h at_h) in
        let placed = progress.holds.there.0.objects.placed reading.position held.0 held.1.0 in
        subst (λ (ts : List Declaration). IsDeclared ts o) (ap (λ (t : Table ℕ). t.types) progress.holds.grown.is)
        (is_declared layouts now.types (naming b.place s.ids) o placed.object
        (object_held layouts s now b.place progress.holds.there.0 reading.position held.0 o placed.object held.1.0 placed.in_heap (object_here layouts b told count s f progress number o reading h at_h)))

    pub words_taken : AreDeclared s.types → NoBytes s.types kind → (total : ℕ) (new : StoreView ℕ) (after : FoundHandles) (ws : List ImageValue) (l : ObjectLine)
        → ImageGoesOn layouts b told total new after (λ then. SaysFirst then (length (object_values o)) (object_values o) ws) → IsWordsLine (Some o) ws l
        → ImageGoesOn layouts b told total new after (λ then. SaysObject b.table.types then o l)
    words_taken declared none total new after ws l goes at_l = record {
      told = goes.told;
      kept = goes.kept;
      progress = goes.progress;
      done = words_say b.table.types (subst AreDeclared types_are declared) goes.told ws o l declared_here
          (no_bytes b.table.types o kind kind_is (subst (λ (ts : List Declaration). NoBytes ts kind) types_are none)) goes.done at_l;
    }

-- a part that was refused, whatever it was to answer
pub err_part : {X Y : Type 0} (layouts : Layouts) (b : Basis ℕ) (Went : X → Type 0) (More : Y → Type 0) (Full : Type 0) (why : CollectFault) (s : StoreView ℕ) → AnswersImagePart layouts b Went Full (Err why) s → AnswersImagePart layouts b More Full (Err why) s
err_part layouts b Went More Full fault.RootsFull s full = full
err_part layouts b Went More Full fault.Memory s stopped = stopped

module _ (layouts : Layouts) (b : Basis ℕ) (told : List ℕ) (count : ℕ) (s : StoreView ℕ) (f : FoundHandles) (progress : ImageProgress layouts b told count s f) (number : ℕ) (o : Object ℕ) (reading : IsNumberedObject b told number o) where
  pub number_inside : number < length f.handles
  number_inside = let inside = slice_get_within told number reading.position reading.there in let counts = progress.lists.same_count in omega (arith, inside, counts)

  -- the handle of an object with a number
  pub handle_at : (h : GcRootIndex) × (slice_get f.handles number ≡ Some h)
  handle_at = elim ((slice_get_cases f.handles number).1) [
    | inl found ↦ (found.0, found.2)
    | inr past ↦ absurd (let inside = number_inside in omega (arith, inside, past.0))
  ]

  -- as many values as the store tells
  pub counted_here : (kind : RootedObject) → IsObject (Some o) kind → (n : ℕ) → CountsIn s.types kind n → n ≡ length (object_values o)
  counted_here kind kind_is n counts =
      let h = handle_at in
      let here = object_here layouts b told count s f progress number o reading h.0 h.1 in
      values_counted layouts s progress.holds.now (b.place, progress.holds.there.0) h.0 reading.position o kind n
      (names_one layouts b told count s f progress number o reading h.0 h.1) here (subst (λ (x : Option (Object ℕ)). IsObject x kind) (sym here) kind_is) counts
