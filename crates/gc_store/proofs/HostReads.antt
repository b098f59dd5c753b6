-- What a handle's word tells of a host object.
use Rattle.std.proofs.Common.{◌≡◌, ℕ, ◌+◌, ◌<◌, true, false, Option, Some, None, Result, Ok, Err, refl, sym, ap, ◌∙◌, subst, arith}
use Rattle.std.specs.Prelude.{IsSomeAnd, IsOkAnd, option_and_then}
use Rattle.std.specs.Result.{result_ok}
use Rattle.std.specs.List.{slice_get}
use Rattle.std.specs.FinMap.{get}
use Rattle.gc_types.specs.declared.kind.Layouts.{Layouts}
use Rattle.gc_types.specs.declared.kind.VMGcKind.{VMGcKind}
use Rattle.gc_types.specs.declared.kind.VMGcKind.TheVariants.{ExternRef, StructRef, ArrayRef, ExnRef}
use Rattle.gc_view.specs.Bytes.{u32_at}
use Rattle.gc_view.specs.Heaps.{HeapObject, HeapView}
use Rattle.gc_heap.specs.Kinds.{TellsKind}
use Rattle.gc_model.specs.Values.{Reference, null, small, at, Object, struct, array, host, exception}
use Rattle.gc_model.specs.Table.{Table}
use Rattle.gc_model.specs.Reads.{host_value, host_value_of}
use Rattle.gc_model.specs.Stores.{StoreView}
use Rattle.gc_model.specs.Holds.{Placing, IsWord, naming, Holds, Stands}
use Rattle.gc_model.proofs.Hosts.{host_held}
use Rattle.gc_store.specs.HostSteps.{TellsHostId, HasHostId, IsHostIdOf}

-- what an answer is, where it is there
pub ok_told : {E : Type 0} (r : Result ℕ E) (number : ℕ) → IsOkAnd r (λ id. id + 1 ≡ number) → IsSomeAnd (result_ok r) (λ id. id + 1 ≡ number)
ok_told (Ok id) number is = is
ok_told (Err e) number is = absurd is

-- a held external object tells its id
pub tells_id : (h : HeapView) (word external : ℕ) (answer : Option ℕ) → external ≡ word → TellsKind h word false (λ kind. kind ≡ ExternRef) true
    → ((o : HeapObject) → get h.content external ≡ Some o → o.kind ≡ ExternRef → IsSomeAnd answer (λ id. id + 1 ≡ u32_at o.bytes 0)) → TellsHostId h word answer
tells_id h word external answer same tells held = record {
  external = λ o got is. held o (ap (get h.content) same ∙ got) is;
  other = λ o got differs. absurd (differs ((tells.object o got).0 refl));
  number = λ odd. absurd (cc (tells.number odd));
}

same_id : (answer : Option ℕ) (id number : ℕ) → IsSomeAnd answer (λ n. n + 1 ≡ number) → number ≡ id + 1 → answer ≡ Some id
same_id None id number is e = absurd is
same_id (Some n) id number is e = let same : n ≡ id = omega (arith, is, e) in ap (λ (k : ℕ). Some k) same

module _ {D : Type 0} (layouts : Layouts) (s : StoreView D) (t : Table D) (place : Placing) (holds : Holds layouts s t place) (word : ℕ) (answer : Option ℕ) (tells : TellsHostId s.heap word answer) where
  none_told : (r : Reference) → host_value_of t r ≡ None → answer ≡ None → IsHostIdOf s t place r answer
  none_told r none is = subst (λ (x : Option ℕ). IsHostIdOf s t place r x) (sym is) none

  -- an object of another kind has no id
  other_told : (p : ℕ) (o : Object D) (h : HeapObject) (kind : VMGcKind) → slice_get t.objects p ≡ Some o → host_value o ≡ None → get s.heap.content word ≡ Some h → h.kind ≡ kind → (ExternRef ≡ kind → ⊥) → IsHostIdOf s t place (at p) answer
  other_told p o h kind in_table none got is differs =
      none_told (at p) (ap (λ (x : Option (Object D)). option_and_then host_value x) in_table ∙ none) (tells.other h got (λ external. differs (sym external ∙ is)))

  object_told : (p : ℕ) (o : Object D) (h : HeapObject) → place p ≡ Some word → get s.heap.content word ≡ Some h → slice_get t.objects p ≡ Some o → Stands layouts t.types (naming place s.ids) o h → IsHostIdOf s t place (at p) answer
  object_told p (struct ty values) h placed got in_table stands = other_told p (struct ty values) h StructRef in_table refl got stands.kind (λ same. absurd (cc))
  object_told p (array ty values) h placed got in_table stands = other_told p (array ty values) h ArrayRef in_table refl got stands.kind (λ same. absurd (cc))
  object_told p (host value) h placed got in_table stands =
      let is : answer ≡ Some stands.0 = same_id answer stands.0 (u32_at h.bytes 0) (tells.external h got stands.1.kind) stands.1.id_is in
      subst (λ (x : Option ℕ). IsHostIdOf s t place (at p) x) (sym is) (record {
        position = p;
        value = value;
        reference_is = refl;
        is_at = record { word = word; object = h; in_table = in_table; placed = placed; in_heap = got; stands = stands.1 };
      })
  object_told p (exception ty tag values) h placed got in_table stands = other_told p (exception ty tag values) h ExnRef in_table refl got stands.kind (λ same. absurd (cc))

  -- What is told of a word is what its reference is.
  pub id_told : (r : Reference) → IsWord place r word → 0 < word → IsHostIdOf s t place r answer
  id_told null is positive = absurd (omega (arith, is, positive))
  id_told (small n) is positive = none_told (small n) refl (tells.number (omega (arith, is)))
  id_told (at p) is positive =
      let held = holds.objects.placed p word is in
      object_told p held.entry held.object is held.in_heap held.in_table held.stands

-- The value of a host object stands under its id.
pub record HostUnder {D : Type 0} (s : StoreView D) (t : Table D) (r : Reference) (id : ℕ) : Type 0 where
  pub value : D
  pub held : get s.hosts id ≡ Some value
  pub is : host_value_of t r ≡ Some value

pub host_under : {D : Type 0} (layouts : Layouts) (s : StoreView D) (t : Table D) (place : Placing) → Holds layouts s t place → (r : Reference) (id : ℕ) → HasHostId s t place r id → HostUnder s t r id
host_under {D} layouts s t place holds r id has = record {
  value = has.value;
  held = host_held t.objects place s.heap.content s.hosts holds.hosts has.position id has.value has.is_at;
  is = ap (host_value_of t) has.reference_is ∙ ap (λ (x : Option (Object D)). option_and_then host_value x) has.is_at.in_table;
}
