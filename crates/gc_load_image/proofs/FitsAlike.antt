-- What fits a type fits it where references lead to objects that are alike but for their values.
use Rattle.std.proofs.Common.{◌≡◌, ℕ, Bool, true, List, Option, Some, None, refl, sym, ap, ◌∙◌, subst, arith}
use Rattle.std.specs.List.{slice_get}
use Rattle.std.proofs.lemmas.Option.{same_Some}
use Rattle.gc_types.specs.declared.kind.Layouts.{Layouts}
use Rattle.gc_types.specs.declared.value.HeapType.{HeapType}
use Rattle.gc_types.specs.declared.value.RefType.{RefType}
use Rattle.gc_types.specs.declared.value.StorageType.{StorageType}
use Rattle.gc_types.specs.declared.value.StorageType.TheVariants as storage
use Rattle.gc_types.specs.declared.value.Tag.{Tag}
use Rattle.gc_types.specs.declared.value.ValType.{ValType}
use Rattle.gc_types.specs.declared.value.ValType.TheVariants as val
use Rattle.gc_types.specs.Declarations.{Declaration}
use Rattle.gc_owner.specs.declared.entry.GcClass.{GcClass}
use Rattle.gc_owner.specs.declared.entry.GcClass.TheVariants.{Any, Extern, Exn}
use Rattle.gc_view.specs.Heaps.{HeapObject}
use Rattle.gc_model.specs.Values.{Reference, null, small, at, Value, numeric, i32, i64, f32, f64, v128, function, continuation, reference, Object, struct, array, host, exception}
use Rattle.gc_model.specs.Fits.{object_fits_any, object_fits_extern, object_fits_exn, reference_fits, fits_type, fits}
use Rattle.gc_model.specs.Forms.{Names}
use Rattle.gc_model.specs.Standing.{Stands}
use Rattle.gc_model.specs.Stores.{StoreView}
use Rattle.gc_model.specs.Table.{Table}
use Rattle.gc_model.specs.Holds.{Holds, HoldsTable, Placing, IsWord, naming}
use Rattle.gc_model.proofs.Words.{place_even}
use Rattle.gc_values.specs.declared.root.GcRootIndex.{GcRootIndex}
use Rattle.gc_store.specs.Roots.{NamesReference}
use Rattle.gc_store.proofs.HandleWords.{live_has_word, named_word}
use Rattle.gc_values.specs.declared.root.RawValue.{RawValue}
use Rattle.gc_values.specs.declared.root.RawValue.TheVariants as raw
use Rattle.gc_store.specs.Values.{RawStands, CanStore, NamesLive}

-- an object is another but for values and tags
abbrev pub AlikeObject : Object ℕ → Object ℕ → Type 0
AlikeObject (struct ty values) o = (vs : List Value) × (o ≡ struct ty vs)
AlikeObject (array ty values) o = (vs : List Value) × (o ≡ array ty vs)
AlikeObject (host n) o = (m : ℕ) × (o ≡ host m)
AlikeObject (exception ty tag values) o = (other : Tag) × ((vs : List Value) × (o ≡ exception ty other vs))

-- a reference leads to such an object
abbrev pub AlikeReference : List (Object ℕ) → List (Object ℕ) → Reference → Reference → Type 0
AlikeReference os os' null r = r ≡ null
AlikeReference os os' (small n) r = r ≡ small n
AlikeReference os os' (at p) r = (q : ℕ) × ((r ≡ at q) × ((o : Object ℕ) → slice_get os p ≡ Some o → (o' : Object ℕ) × ((slice_get os' q ≡ Some o') × AlikeObject o o')))

abbrev pub AlikeValue : List (Object ℕ) → List (Object ℕ) → Value → Value → Type 0
AlikeValue os os' (numeric kind n) v = v ≡ numeric kind n
AlikeValue os os' (function f) v = v ≡ function f
AlikeValue os os' (continuation cont) v = v ≡ continuation cont
AlikeValue os os' (reference class r) v = (q : Reference) × ((v ≡ reference class q) × AlikeReference os os' r q)

module _ (types : List Declaration) where
  any_alike : (ty : HeapType) (o o' : Object ℕ) → AlikeObject o o' → object_fits_any types ty (Some o) ≡ true → object_fits_any types ty (Some o') ≡ true
  any_alike ty (struct own values) o' is e = ap (λ (x : Object ℕ). object_fits_any types ty (Some x)) is.1 ∙ e
  any_alike ty (array own values) o' is e = ap (λ (x : Object ℕ). object_fits_any types ty (Some x)) is.1 ∙ e
  any_alike ty (host n) o' is e = absurd (cc)
  any_alike ty (exception own tag values) o' is e = absurd (cc)

  extern_alike : (ty : HeapType) (o o' : Object ℕ) → AlikeObject o o' → object_fits_extern ty (Some o) ≡ true → object_fits_extern ty (Some o') ≡ true
  extern_alike ty (struct own values) o' is e = ap (λ (x : Object ℕ). object_fits_extern ty (Some x)) is.1 ∙ e
  extern_alike ty (array own values) o' is e = ap (λ (x : Object ℕ). object_fits_extern ty (Some x)) is.1 ∙ e
  extern_alike ty (host n) o' is e = ap (λ (x : Object ℕ). object_fits_extern ty (Some x)) is.1 ∙ e
  extern_alike ty (exception own tag values) o' is e = absurd (cc)

  exn_alike : (ty : HeapType) (o o' : Object ℕ) → AlikeObject o o' → object_fits_exn types ty (Some o) ≡ true → object_fits_exn types ty (Some o') ≡ true
  exn_alike ty (struct own values) o' is e = absurd (cc)
  exn_alike ty (array own values) o' is e = absurd (cc)
  exn_alike ty (host n) o' is e = absurd (cc)
  exn_alike ty (exception own tag values) o' is e = ap (λ (x : Object ℕ). object_fits_exn types ty (Some x)) is.1.1 ∙ e

  module _ (os os' : List (Object ℕ)) where
    -- a test of an object that is there, at another place
    tested : (test : Option (Object ℕ) → Bool) → (test None ≡ true → ⊥) → ((o o' : Object ℕ) → AlikeObject o o' → test (Some o) ≡ true → test (Some o') ≡ true)
        → (p q : ℕ) → ((o : Object ℕ) → slice_get os p ≡ Some o → (o' : Object ℕ) × ((slice_get os' q ≡ Some o') × AlikeObject o o')) → test (slice_get os p) ≡ true → test (slice_get os' q) ≡ true
    tested test none goes p q alike e = by (slice_get os p) refl e
      where
        by : (o : Option (Object ℕ)) → slice_get os p ≡ o → test o ≡ true → test (slice_get os' q) ≡ true
        by None is found = absurd (none found)
        by (Some o) is found = let other = alike o is in ap test other.1.0 ∙ goes o other.0 other.1.1 found

    reference_alike : (ty : RefType) (class : GcClass) (r q : Reference) → AlikeReference os os' r q → reference_fits types os ty class r ≡ true → reference_fits types os' ty class q ≡ true
    reference_alike ty class null q is e = ap (reference_fits types os' ty class) is ∙ e
    reference_alike ty Any (small n) q is e = ap (reference_fits types os' ty Any) is ∙ e
    reference_alike ty Extern (small n) q is e = ap (reference_fits types os' ty Extern) is ∙ e
    reference_alike ty Exn (small n) q is e = absurd (cc)
    reference_alike ty Any (at p) q is e =
        ap (reference_fits types os' ty Any) is.1.0 ∙ tested (object_fits_any types ty.heap_type) (λ x. absurd (cc x)) (any_alike ty.heap_type) p is.0 is.1.1 e
    reference_alike ty Extern (at p) q is e =
        ap (reference_fits types os' ty Extern) is.1.0 ∙ tested (object_fits_extern ty.heap_type) (λ x. absurd (cc x)) (extern_alike ty.heap_type) p is.0 is.1.1 e
    reference_alike ty Exn (at p) q is e =
        ap (reference_fits types os' ty Exn) is.1.0 ∙ tested (object_fits_exn types ty.heap_type) (λ x. absurd (cc x)) (exn_alike ty.heap_type) p is.0 is.1.1 e

    type_alike : (ty : ValType) (v : Value) (w : Value) → AlikeValue os os' v w → fits_type types os ty v ≡ true → fits_type types os' ty w ≡ true
    type_alike val.I32 (numeric i32 n) w is e = ap (fits_type types os' val.I32) is
    type_alike val.I64 (numeric i64 n) w is e = ap (fits_type types os' val.I64) is
    type_alike val.F32 (numeric f32 n) w is e = ap (fits_type types os' val.F32) is
    type_alike val.F64 (numeric f64 n) w is e = ap (fits_type types os' val.F64) is
    type_alike val.V128 (numeric v128 n) w is e = ap (fits_type types os' val.V128) is
    type_alike (val.Ref ty) (function f) w is e = ap (fits_type types os' (val.Ref ty)) is ∙ e
    type_alike (val.Ref ty) (continuation cont) w is e = ap (fits_type types os' (val.Ref ty)) is ∙ e
    type_alike (val.Ref ty) (reference class r) w is e = ap (fits_type types os' (val.Ref ty)) is.1.0 ∙ reference_alike ty class r is.0 is.1.1 e
    type_alike _ _ w is e = absurd (cc)

    pub fits_alike : (ty : StorageType) (v w : Value) → AlikeValue os os' v w → fits types os ty v ≡ true → fits types os' ty w ≡ true
    fits_alike storage.I8 v w is e = type_alike val.I32 v w is e
    fits_alike storage.I16 v w is e = type_alike val.I32 v w is e
    fits_alike (storage.ValType ty) v w is e = type_alike ty v w is e

-- objects of two tables that stand at one place of a heap
stand_alike : (layouts : Layouts) (types types' : List Declaration) (names names' : Names) (h : HeapObject) (o o' : Object ℕ) → Stands layouts types names o h → Stands layouts types' names' o' h → AlikeObject o o'
stand_alike layouts types types' names names' h (struct ty vs) (struct ty' vs') one other = (vs', ap (λ n. struct n vs') (sym other.stands.same_type ∙ one.stands.same_type))
stand_alike layouts types types' names names' h (struct ty vs) (array ty' vs') one other = absurd (cc (sym one.kind ∙ other.kind))
stand_alike layouts types types' names names' h (struct ty vs) (host n) one other = absurd (cc (sym one.kind ∙ other.1.kind))
stand_alike layouts types types' names names' h (struct ty vs) (exception ty' tag vs') one other = absurd (cc (sym one.kind ∙ other.kind))
stand_alike layouts types types' names names' h (array ty vs) (struct ty' vs') one other = absurd (cc (sym one.kind ∙ other.kind))
stand_alike layouts types types' names names' h (array ty vs) (array ty' vs') one other = (vs', ap (λ n. array n vs') (sym other.stands.same_type ∙ one.stands.same_type))
stand_alike layouts types types' names names' h (array ty vs) (host n) one other = absurd (cc (sym one.kind ∙ other.1.kind))
stand_alike layouts types types' names names' h (array ty vs) (exception ty' tag vs') one other = absurd (cc (sym one.kind ∙ other.kind))
stand_alike layouts types types' names names' h (host n) (struct ty' vs') one other = absurd (cc (sym one.1.kind ∙ other.kind))
stand_alike layouts types types' names names' h (host n) (array ty' vs') one other = absurd (cc (sym one.1.kind ∙ other.kind))
stand_alike layouts types types' names names' h (host n) (host m) one other = (m, refl)
stand_alike layouts types types' names names' h (host n) (exception ty' tag vs') one other = absurd (cc (sym one.1.kind ∙ other.kind))
stand_alike layouts types types' names names' h (exception ty tag vs) (struct ty' vs') one other = absurd (cc (sym one.kind ∙ other.kind))
stand_alike layouts types types' names names' h (exception ty tag vs) (array ty' vs') one other = absurd (cc (sym one.kind ∙ other.kind))
stand_alike layouts types types' names names' h (exception ty tag vs) (host n) one other = absurd (cc (sym one.kind ∙ other.1.kind))
stand_alike layouts types types' names names' h (exception ty tag vs) (exception ty' tag' vs') one other = (tag', (vs', ap (λ n. exception n tag' vs') (sym other.stands.same_type ∙ one.stands.same_type)))

module _ (layouts : Layouts) (s : StoreView ℕ) (t u : Table ℕ) (place place' : Placing) (holds : Holds layouts s t place) (too : Holds layouts s u place') where
  -- references of two tables that have one word
  words_alike : (r q : Reference) (word : ℕ) → IsWord place r word → IsWord place' q word → AlikeReference t.objects u.objects r q
  words_alike null null word is is' = refl
  words_alike null (small n) word is is' = absurd (omega (arith, is, is'))
  words_alike null (at p) word is is' = absurd (omega (arith, is, (place_even layouts u place' s.heap too.objects p word is').1))
  words_alike (small n) null word is is' = absurd (omega (arith, is, is'))
  words_alike (small n) (small k) word is is' = let same : k ≡ n = omega (arith, is, is') in ap small same
  words_alike (small n) (at p) word is is' = absurd (omega (arith, is, (place_even layouts u place' s.heap too.objects p word is').0))
  words_alike (at p) null word is is' = absurd (omega (arith, is', (place_even layouts t place s.heap holds.objects p word is).1))
  words_alike (at p) (small n) word is is' = absurd (omega (arith, is', (place_even layouts t place s.heap holds.objects p word is).0))
  words_alike (at p) (at q) word is is' = (
    q,
    (
      refl,
      λ o there.
          let one = holds.objects.placed p word is in
          let other = too.objects.placed q word is' in
          let same : one.entry ≡ o = same_Some one.entry o (sym one.in_table ∙ there) in
          let there' : other.object ≡ one.object = same_Some other.object one.object (sym other.in_heap ∙ one.in_heap) in (
            other.entry,
            (
              other.in_table,
              subst (λ (x : Object ℕ). AlikeObject x other.entry) same
                  (stand_alike layouts t.types u.types (naming place s.ids) (naming place' s.ids) one.object one.entry other.entry one.stands (subst (λ (h : HeapObject). Stands layouts u.types (naming place' s.ids) other.entry h) there' other.stands)),
            ),
          ),
    ),
  )

-- Handles and values that are given, in two tables that a store holds

module _ (layouts : Layouts) (s : StoreView ℕ) (t u : Table ℕ) (holds : HoldsTable layouts s t) (too : HoldsTable layouts s u) where
  handles_alike : (handle : GcRootIndex) (r q : Reference) → NamesReference s t handle r → NamesReference s u handle q → AlikeReference t.objects u.objects r q
  handles_alike handle r q named other =
      let word = live_has_word layouts s t holds.0 holds.1 handle r named in
      words_alike layouts s t u holds.0 too.0 holds.1 too.1 r q word.0 (named_word layouts s t holds.0 holds.1 handle r word.0 named word.1).0 (named_word layouts s u too.0 too.1 handle q word.0 other word.1).0

  given_alike : (r : RawValue) (v w : Value) → RawStands s t r v → RawStands s u r w → AlikeValue t.objects u.objects v w
  given_alike (raw.I32 n) v w is is' = subst (λ (x : Value). AlikeValue t.objects u.objects x w) (sym is) is'
  given_alike (raw.I64 n) v w is is' = subst (λ (x : Value). AlikeValue t.objects u.objects x w) (sym is) is'
  given_alike (raw.F32 n) v w is is' = subst (λ (x : Value). AlikeValue t.objects u.objects x w) (sym is) is'
  given_alike (raw.F64 n) v w is is' = subst (λ (x : Value). AlikeValue t.objects u.objects x w) (sym is) is'
  given_alike (raw.V128 n) v w is is' = subst (λ (x : Value). AlikeValue t.objects u.objects x w) (sym is) is'
  given_alike (raw.Func f) v w is is' = subst (λ (x : Value). AlikeValue t.objects u.objects x w) (sym is) is'
  given_alike (raw.Cont cont) v w is is' = subst (λ (x : Value). AlikeValue t.objects u.objects x w) (sym is) is'
  given_alike (raw.Ref class None) v w is is' = subst (λ (x : Value). AlikeValue t.objects u.objects x w) (sym is) (null, (is', refl))
  given_alike (raw.Ref class (Some handle)) v w is is' =
      subst (λ (x : Value). AlikeValue t.objects u.objects x w) (sym is.is) (is'.root, (is'.is, handles_alike handle is.root is'.root is.named is'.named))

  -- what fits in one fits in the other
  given_fits : (ty : StorageType) (r : RawValue) (v w : Value) → RawStands s t r v → RawStands s u r w → fits t.types t.objects ty v ≡ true → fits u.types u.objects ty w ≡ true
  given_fits ty r v w is is' e =
      subst (λ (types : List Declaration). fits types u.objects ty w ≡ true) (sym holds.1.types ∙ too.1.types) (fits_alike t.types t.objects u.objects ty v w (given_alike r v w is is') e)

given_live : (layouts : Layouts) (s : StoreView ℕ) (t : Table ℕ) → HoldsTable layouts s t → (r : RawValue) (v : Value) → RawStands s t r v → NamesLive ℕ layouts s r
given_live layouts s t holds (raw.I32 n) v is = tt
given_live layouts s t holds (raw.I64 n) v is = tt
given_live layouts s t holds (raw.F32 n) v is = tt
given_live layouts s t holds (raw.F64 n) v is = tt
given_live layouts s t holds (raw.V128 n) v is = tt
given_live layouts s t holds (raw.Func f) v is = tt
given_live layouts s t holds (raw.Cont cont) v is = tt
given_live layouts s t holds (raw.Ref class None) v is = tt
given_live layouts s t holds (raw.Ref class (Some handle)) v is = record { table = t; holds = holds; root = is.root; named = is.named }

-- A value that stands and fits may be stored.
pub can_store : (layouts : Layouts) (s : StoreView ℕ) (t : Table ℕ) (holds : HoldsTable layouts s t) (ty : StorageType) (r : RawValue) (v : Value) → RawStands s t r v → fits t.types t.objects ty v ≡ true → CanStore ℕ layouts s ty r
can_store layouts s t holds ty r v is e = record {
  live = given_live layouts s t holds r v is;
  fits = λ u w too is'. given_fits layouts s t u holds too ty r v w is is' e;
}
