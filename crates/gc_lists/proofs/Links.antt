-- References that fit the link of a type, and that what lies behind one fits it.
use Rattle.std.proofs.Common.{◌≡◌, ℕ, zero, suc, ◌<◌, List, [], ◌∷◌, true, Some, None, refl, sym, ap, ◌∙◌, arith, eq-eqb}
use Rattle.std.specs.List.{slice_get}
use Rattle.std.proofs.lemmas.Option.{none-some}
use Rattle.std.proofs.lemmas.Bool.{eqb-true}
use Rattle.gc_types.specs.declared.kind.Layouts.{Layouts}
use Rattle.gc_types.specs.declared.value.HeapType.TheVariants as heap
use Rattle.gc_types.specs.declared.value.StorageType.TheVariants as storage
use Rattle.gc_types.specs.Declarations.{Declaration}
use Rattle.gc_types.specs.Subtyping.{supertypes_of}
use Rattle.gc_owner.specs.declared.entry.GcClass.TheVariants.{Any}
use Rattle.gc_model.specs.Values.{Reference, null, small, at, Value, reference, Object, struct, array, host, exception}
use Rattle.gc_model.specs.Fits.{meets_from, is_subtype, climbs, object_fits_any, fits}
use Rattle.gc_model.specs.Table.{Table}
use Rattle.gc_model.specs.Stores.{StoreView}
use Rattle.gc_model.specs.Holds.{Placing, IsWord, Holds, Names, naming, Stands}
use Rattle.gc_model.proofs.Words.{place_even}
use Rattle.gc_types.specs.declared.kind.VMGcKind.TheVariants.{StructRef}
use Rattle.gc_view.specs.Heaps.{HeapObject}
use Rattle.gc_values.specs.declared.root.GcRootIndex.{GcRootIndex}
use Rattle.gc_store.specs.Roots.{NamesReference}
use Rattle.gc_store.proofs.HandleWords.{live_has_word, named_word}
use Rattle.gc_model.proofs.HeldObjects.{object_held}
use Rattle.gc_lists.specs.Kits.{link, cell_type, node_type, IsCellType, IsNodeType}
use Rattle.gc_lists.specs.Cells.{IsNullOr}

-- a type without supertype that is declared
abbrev pub IsRoot : List Declaration → ℕ → Type 0
IsRoot types ty = slice_get (supertypes_of types) ty ≡ Some None

pub root_type : (types : List Declaration) (ty : ℕ) (d : Declaration) → slice_get types ty ≡ Some d → d.supertype ≡ None → IsRoot types ty
root_type [] ty d e none = absurd (none-some d e)
root_type (x ∷ types) zero d e none = let same : x ≡ d = grind (arith, e) in ap (λ (y : Declaration). Some y.supertype) same ∙ ap Some none
root_type (x ∷ types) (suc ty) d e none = root_type types ty d e none

pub cell_root : (types : List Declaration) (ty : ℕ) → IsCellType types ty → IsRoot types ty
cell_root types ty is = root_type types ty (cell_type ty) is refl

pub node_root : (types : List Declaration) (ty : ℕ) → IsNodeType types ty → IsRoot types ty
node_root types ty is = root_type types ty (node_type ty) is refl

-- it is a subtype of itself, and of no other
pub subtype_itself : (types : List Declaration) (ty : ℕ) → IsRoot types ty → is_subtype (supertypes_of types) ty ty ≡ true
subtype_itself types ty root = ap (λ o. meets_from (λ p. climbs ty (supertypes_of types) p ty) o ty ty) root ∙ eq-eqb ty ty refl

pub subtype_alone : (types : List Declaration) (own ty : ℕ) → IsRoot types own → is_subtype (supertypes_of types) own ty ≡ true → own ≡ ty
subtype_alone types own ty root is = eqb-true own ty (sym (ap (λ o. meets_from (λ p. climbs own (supertypes_of types) p ty) o own ty) root) ∙ is)

-- null and a struct of that type fit its link
pub null_or_fits : {D : Type 0} (types : List Declaration) (objects : List (Object D)) (ty : ℕ) (r : Reference) → IsRoot types ty → IsNullOr objects ty r
    → fits types objects (storage.ValType (link ty)) (reference Any r) ≡ true
null_or_fits types objects ty null root is = refl
null_or_fits types objects ty (small n) root is = absurd is
null_or_fits types objects ty (at p) root is = ap (object_fits_any types (heap.ConcreteStruct ty)) is.1 ∙ subtype_itself types ty root

-- and what fits it is one, where its own type has no supertype
pub struct_of_link : {D : Type 0} (types : List Declaration) (objects : List (Object D)) (ty own p : ℕ) (values : List Value) → IsRoot types own → slice_get objects p ≡ Some (struct own values)
    → fits types objects (storage.ValType (link ty)) (reference Any (at p)) ≡ true → own ≡ ty
struct_of_link types objects ty own p values root here is = subtype_alone types own ty root (sym (ap (object_fits_any types (heap.ConcreteStruct ty)) here) ∙ is)

-- What stands at a place of the heap for a struct of a type is one of that type in each table that the store holds.
kind_of_struct : {D : Type 0} (layouts : Layouts) (types : List Declaration) (names : Names) (o : Object D) (h : HeapObject) (ty : ℕ) → h.kind ≡ StructRef → h.ty ≡ ty → Stands layouts types names o h
    → (values : List Value) × (o ≡ struct ty values)
kind_of_struct layouts types names (struct own values) h ty kind same stands = (values, ap (λ n. struct n values) (sym stands.stands.same_type ∙ same))
kind_of_struct layouts types names (array own values) h ty kind same stands = absurd (cc (sym kind ∙ stands.kind))
kind_of_struct layouts types names (host value) h ty kind same stands = absurd (cc (sym kind ∙ stands.1.kind))
kind_of_struct layouts types names (exception own tag values) h ty kind same stands = absurd (cc (sym kind ∙ stands.kind))

module _ {D : Type 0} (layouts : Layouts) (s : StoreView D) (t t' : Table D) (place place' : Placing) (holds : Holds layouts s t place) (holds' : Holds layouts s t' place') (handle : GcRootIndex)
    (p ty : ℕ) (values : List Value) (named : NamesReference s t handle (at p)) (here : slice_get t.objects p ≡ Some (struct ty values)) where
  by_word : (r : Reference) (word : ℕ) → IsWord place (at p) word → IsWord place' r word → 0 < word → IsNullOr t'.objects ty r
  by_word null word is is' some = tt
  by_word (small n) word is is' some = absurd (let even = (place_even layouts t place s.heap holds.objects p word is).0 in omega (arith, even, is'))
  by_word (at q) word is is' some =
      let held = holds.objects.placed p word is in
      let held' = holds'.objects.placed q word is' in
      let objects : Some held.object ≡ Some held'.object = sym held.in_heap ∙ held'.in_heap in
      let same : held.object ≡ held'.object = grind (arith, objects) in
      let stands = object_held layouts s t place holds p word (struct ty values) held.object is held.in_heap here in
      let kind : held'.object.kind ≡ StructRef = ap (λ (h : HeapObject). h.kind) (sym same) ∙ stands.kind in
      let type_is : held'.object.ty ≡ ty = ap (λ (h : HeapObject). h.ty) (sym same) ∙ stands.stands.same_type in
      let found = kind_of_struct layouts t'.types (naming place' s.ids) held'.entry held'.object ty kind type_is held'.stands in
      (found.0, held'.in_table ∙ ap Some found.1)

  -- a handle of a struct of a type names one in each table that the store holds
  pub struct_in_each : (r : Reference) → NamesReference s t' handle r → IsNullOr t'.objects ty r
  struct_in_each r named' =
      let word = live_has_word layouts s t place holds handle (at p) named in
      let one = named_word layouts s t place holds handle (at p) word.0 named word.1 in
      let other = named_word layouts s t' place' holds' handle r word.0 named' word.1 in
      by_word r word.0 one.0 other.0 one.1
