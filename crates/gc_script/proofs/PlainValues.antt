-- What is requested of a store without functions and continuations gets no ids.
use Rattle.std.proofs.Common.{inl, inr, ◌≡◌, ℕ, zero, suc, ◌≤◌, ◌<◌, true, false, List, [], ◌∷◌, map, length, replicate, Option, Some, None, refl, sym, ap, ◌∙◌, subst, arith}
use Rattle.std.specs.Int.{w32, w64}
use Rattle.std.specs.List.{slice_get}
use Rattle.std.proofs.lemmas.Bool.Decides.{nat_tests}
use Rattle.std.proofs.lemmas.Option.{none-some, slice_get_cases, slice_get_within}
use Rattle.gc_types.specs.declared.kind.Layouts.{Layouts}
use Rattle.gc_types.specs.declared.value.FieldType.{FieldType}
use Rattle.gc_types.specs.declared.value.Func.{Func}
use Rattle.gc_types.specs.declared.value.StorageType.{StorageType}
use Rattle.gc_types.specs.declared.value.StorageType.TheVariants as storage
use Rattle.gc_types.specs.Declarations.{struct_fields_at}
use Rattle.gc_owner.specs.declared.entry.GcClass.TheVariants as class
use Rattle.gc_model.specs.SideValues.{SideValues, side_values, no_side_values, functions_of, conts_of, functions_full, conts_full, max_entries}
use Rattle.gc_model.specs.Sizes.{exn_fields_at}
use Rattle.gc_model.specs.Values.{Reference, null, Value, numeric, i32, i64, f32, f64, v128, number_bits, function, continuation, Object, struct, array, exception, object_values}
use Rattle.gc_model.specs.Values as values
use Rattle.gc_model.specs.Stored.{stored, stored_in, byte_value}
use Rattle.gc_model.specs.Table.{Table}
use Rattle.gc_model.specs.Stores.{StoreView}
use Rattle.gc_model.specs.Holds.{HoldsTable}
use Rattle.gc_values.specs.declared.root.GcRootIndex.{GcRootIndex}
use Rattle.gc_values.specs.declared.root.RawValue.{RawValue}
use Rattle.gc_values.specs.declared.root.RawValue.TheVariants as raw
use Rattle.gc_values.specs.declared.request.Place.{Place}
use Rattle.gc_values.specs.declared.request.Place.TheVariants as place
use Rattle.gc_values.specs.declared.request.Contents.{Contents}
use Rattle.gc_values.specs.declared.request.Contents.TheVariants as contents
use Rattle.gc_store.specs.Places.{HasIds, lacks_ids}
use Rattle.gc_store.specs.Requests.{struct_fields_of, exn_fields_of, element_of, CanPlaceFields, CanPlaceSame, CanPlaceIn, IsFilled, IsObjectOf}
use Rattle.gc_store.specs.Roots.{NamesReference}
use Rattle.gc_store.specs.Values.{RawStands, AllStand, IsLive, NamesLive}
use Rattle.gc_store.proofs.HandleWords.{names_word, live_has_word}
use Rattle.gc_script.specs.Requested.{IsPlainRequest}
use Rattle.gc_script.specs.Values.{is_opaque, AllPlain}

-- values that get no ids: none is a function or a continuation
abbrev pub ArePlain : List Value → Type 0
ArePlain vs = side_values vs ≡ no_side_values

abbrev pub IsPlain : Value → Type 0
IsPlain v = ArePlain (v ∷ [])

some_function : (f : Option Func) (vs : List Value) → ¬ ArePlain (function f ∷ vs)
some_function f vs plain = let none : f ∷ functions_of vs ≡ [] = ap (λ (x : SideValues). x.funcs) plain in cc none

some_cont : (c : ℕ) (vs : List Value) → ¬ ArePlain (continuation (Some c) ∷ vs)
some_cont c vs plain = let none : c ∷ conts_of vs ≡ [] = ap (λ (x : SideValues). x.conts) plain in cc none

-- one more value
plain_more : (v : Value) (vs : List Value) → IsPlain v → ArePlain vs → ArePlain (v ∷ vs)
plain_more (numeric kind n) vs plain rest = rest
plain_more (function f) vs plain rest = absurd (some_function f [] plain)
plain_more (continuation None) vs plain rest = rest
plain_more (continuation (Some c)) vs plain rest = absurd (some_cont c [] plain)
plain_more (values.reference c r) vs plain rest = rest

-- what a field keeps of a plain value is one
stored_plain : (ty : StorageType) (v : Value) → IsPlain v → IsPlain (stored ty v)
stored_plain storage.I8 (numeric i32 n) plain = refl
stored_plain storage.I16 (numeric i32 n) plain = refl
stored_plain storage.I8 (function f) plain = plain
stored_plain storage.I16 (function f) plain = plain
stored_plain storage.I8 (continuation c) plain = plain
stored_plain storage.I16 (continuation c) plain = plain
stored_plain ty v plain = plain

-- the first of plain values, and the rest
first_plain : (v : Value) (vs : List Value) → ArePlain (v ∷ vs) → IsPlain v × ArePlain vs
first_plain (numeric kind n) vs plain = (refl, plain)
first_plain (function f) vs plain = absurd (some_function f vs plain)
first_plain (continuation None) vs plain = (refl, plain)
first_plain (continuation (Some c)) vs plain = absurd (some_cont c vs plain)
first_plain (values.reference c r) vs plain = (refl, plain)

all_stored : (fields : List FieldType) (vs : List Value) → ArePlain vs → ArePlain (stored_in fields vs)
all_stored [] vs plain = refl
all_stored (field ∷ fields) [] plain = refl
all_stored (field ∷ fields) (v ∷ vs) plain =
    let parts = first_plain v vs plain in
    plain_more (stored field.element_type v) (stored_in fields vs) (stored_plain field.element_type v parts.0) (all_stored fields vs parts.1)

same_stored : (ty : StorageType) (vs : List Value) → ArePlain vs → ArePlain (map (stored ty) vs)
same_stored ty [] plain = refl
same_stored ty (v ∷ vs) plain =
    let parts = first_plain v vs plain in
    plain_more (stored ty v) (map (stored ty) vs) (stored_plain ty v parts.0) (same_stored ty vs parts.1)

all_same : (n : ℕ) (v : Value) → IsPlain v → ArePlain (replicate n v)
all_same zero v plain = refl
all_same (suc n) v plain = plain_more v (replicate n v) plain (all_same n v plain)

-- bytes are numbers
bytes_plain : (bytes : List ℕ) → ArePlain (map byte_value bytes)
bytes_plain [] = refl
bytes_plain (b ∷ bytes) = bytes_plain bytes

-- a value that is plain and live stands for a plain one in each table that the store holds
live_in : (layouts : Layouts) (s : StoreView ℕ) (handle : GcRootIndex) → IsLive ℕ layouts s handle → (t : Table ℕ) → HoldsTable layouts s t → (r : Reference) × NamesReference s t handle r
live_in layouts s handle live t holds =
    let word = live_has_word layouts s live.table live.holds.0 live.holds.1 handle live.root live.named in
    let it = names_word layouts s t holds.0 holds.1 handle word.0 word.1 in
    (it.root, it.named)

abbrev StandsPlain : StoreView ℕ → Table ℕ → RawValue → Type 0
StandsPlain s t r = (v : Value) × (RawStands s t r v × IsPlain v)

abbrev AllStandPlain : StoreView ℕ → Table ℕ → List RawValue → Type 0
AllStandPlain s t raws = (vs : List Value) × (AllStand s t raws vs × ArePlain vs)

-- one more
stand_each : (s : StoreView ℕ) (t : Table ℕ) (r : RawValue) (raws : List RawValue) (v : Value) (vs : List Value) → RawStands s t r v → AllStand s t raws vs
    → (i : ℕ) (q : RawValue) (w : Value) → slice_get (r ∷ raws) i ≡ Some q → slice_get (v ∷ vs) i ≡ Some w → RawStands s t q w
stand_each s t r raws v vs one all zero q w e f =
    let q_is : r ≡ q = grind (arith, e) in
    let w_is : v ≡ w = grind (arith, f) in
    subst (λ (x : RawValue). RawStands s t x w) q_is (subst (RawStands s t r) w_is one)
stand_each s t r raws v vs one all (suc i) q w e f = all.each i q w e f

stand_more : (s : StoreView ℕ) (t : Table ℕ) (r : RawValue) (raws : List RawValue) → StandsPlain s t r → AllStandPlain s t raws → AllStandPlain s t (r ∷ raws)
stand_more s t r raws one rest = (
  one.0 ∷ rest.0,
  (
    record { same_count = ap suc rest.1.0.same_count; each = stand_each s t r raws one.0 rest.0 one.1.0 rest.1.0 },
    plain_more one.0 rest.0 one.1.1 rest.1.1,
  ),
)

module _ (layouts : Layouts) (s : StoreView ℕ) (t : Table ℕ) (holds : HoldsTable layouts s t) where
  stands_plain : (r : RawValue) → NamesLive ℕ layouts s r → is_opaque r ≡ false → StandsPlain s t r
  stands_plain (raw.I32 n) live plain = (numeric i32 (number_bits w32 n), (refl, refl))
  stands_plain (raw.I64 n) live plain = (numeric i64 (number_bits w64 n), (refl, refl))
  stands_plain (raw.F32 n) live plain = (numeric f32 n, (refl, refl))
  stands_plain (raw.F64 n) live plain = (numeric f64 n, (refl, refl))
  stands_plain (raw.V128 n) live plain = (numeric v128 n, (refl, refl))
  stands_plain (raw.Func f) live plain = absurd (cc plain)
  stands_plain (raw.Cont cont) live plain = absurd (cc plain)
  stands_plain (raw.Ref c None) live plain = (values.reference c null, (refl, refl))
  stands_plain (raw.Ref c (Some handle)) live plain =
      let it = live_in layouts s handle live t holds in
      (values.reference c it.0, (record { root = it.0; named = it.1; is = refl }, refl))

  all_stand_plain : (raws : List RawValue) → ((i : ℕ) (r : RawValue) → slice_get raws i ≡ Some r → NamesLive ℕ layouts s r) → AllPlain raws → AllStandPlain s t raws
  all_stand_plain [] live plain = ([], (record { same_count = refl; each = λ i r v e f. absurd (none-some r e) }, refl))
  all_stand_plain (r ∷ raws) live plain =
      stand_more s t r raws (stands_plain r (live 0 r refl) (plain 0 r refl)) (all_stand_plain raws (λ i. live (suc i)) (λ i. plain (suc i)))

  -- so the values that may go into fields
  fields_live : (found : Option (List FieldType)) (raws : List RawValue) → CanPlaceFields ℕ layouts s found raws → (i : ℕ) (r : RawValue) → slice_get raws i ≡ Some r → NamesLive ℕ layouts s r
  fields_live found raws can i r e =
      let within = slice_get_within raws i r e in
      let many = can.same_count in
      elim ((slice_get_cases can.fields i).1) [
        | inl field ↦ (can.each i field.0 r field.2 e).live
        | inr past ↦ absurd (omega (arith, within, many, past.0))
      ]

  -- what is requested of a table, without functions and continuations
  abbrev pub RequestedPlain : Place → Contents → Type 0
  RequestedPlain request given = (o : Object ℕ) × (IsObjectOf s t request given o × ArePlain (object_values o))

  filled : (ty n : ℕ) (r : RawValue) → StandsPlain s t r → (o : Object ℕ) × (IsFilled s t ty n r o × ArePlain (object_values o))
  filled ty n r one =
      let v = stored (element_of t.types ty) one.0 in
      (array ty (replicate n v), ((one.0, ((λ some. one.1.0), refl)), all_same n v (stored_plain (element_of t.types ty) one.0 one.1.1)))

  filled_by : (ty n : ℕ) (r : RawValue) → CanPlaceSame ℕ layouts s ty n r → (0 < n → is_opaque r ≡ false) → (o : Object ℕ) × (IsFilled s t ty n r o × ArePlain (object_values o))
  filled_by ty zero r can plain = (array ty [], ((values.reference class.Any null, ((λ some. absurd (omega (arith, some))), refl)), refl))
  filled_by ty (suc n) r can plain =
      let some : 0 < suc n = omega arith in
      filled ty (suc n) r (stands_plain r (can.fits some).live (plain some))

  pub requested_plain : (request : Place) (given : Contents) → CanPlaceIn ℕ layouts s request given → IsPlainRequest request given → RequestedPlain request given
  requested_plain (place.Struct ty) (contents.Each vs) can plain =
      let all = all_stand_plain vs.now (fields_live (struct_fields_at s.types ty) vs.now can) plain in
      (struct ty (stored_in (struct_fields_of t.types ty) all.0), ((all.0, (all.1.0, refl)), all_stored (struct_fields_of t.types ty) all.0 all.1.1))
  requested_plain (place.Struct ty) (contents.Same v) can plain = absurd can
  requested_plain (place.Struct ty) (contents.Bytes bytes) can plain = absurd can
  requested_plain (place.Exn ty tag) (contents.Each vs) can plain =
      let all = all_stand_plain vs.now (fields_live (exn_fields_at s.types ty) vs.now can) plain in
      (exception ty tag (stored_in (exn_fields_of t.types ty) all.0), ((all.0, (all.1.0, refl)), all_stored (exn_fields_of t.types ty) all.0 all.1.1))
  requested_plain (place.Exn ty tag) (contents.Same v) can plain = absurd can
  requested_plain (place.Exn ty tag) (contents.Bytes bytes) can plain = absurd can
  requested_plain (place.Array ty n) (contents.Each vs) can plain =
      let all = all_stand_plain vs.now (λ i r e. (can.each i r e).live) plain in
      (array ty (map (stored (element_of t.types ty)) all.0), ((all.0, (all.1.0, refl)), same_stored (element_of t.types ty) all.0 all.1.1))
  requested_plain (place.Array ty n) (contents.Same v) can plain = filled_by ty n v.now can plain
  requested_plain (place.Array ty n) (contents.Bytes bytes) can plain = (array ty (map byte_value bytes.now), (refl, bytes_plain bytes.now))

-- there are ids for an object without functions and continuations
module _ (layouts : Layouts) (store : StoreView ℕ) (t : Table ℕ) (holds : HoldsTable layouts store t) (o : Object ℕ) (plain : ArePlain (object_values o)) where
  pub has_ids : HasIds o t
  has_ids =
      let few : length t.interned.funcs ≤ max_entries = holds.1.interned.funcs.few in
      let few_conts : length t.interned.conts ≤ max_entries = holds.1.interned.conts.few in
      let functions : functions_full no_side_values t.interned ≡ false = grind (arith, nat_tests, few) in
      let conts : conts_full no_side_values t.interned ≡ false = grind (arith, nat_tests, few_conts) in
      record {
        functions = ap (λ (given : SideValues). functions_full given t.interned) plain ∙ functions;
        conts = ap (λ (given : SideValues). conts_full given t.interned) plain ∙ conts;
      }

  pub never_lacks_ids : lacks_ids functions_full o t ≡ true → ⊥
  never_lacks_ids lacks = cc (sym lacks ∙ has_ids.functions)

  pub never_lacks_cont_ids : lacks_ids conts_full o t ≡ true → ⊥
  never_lacks_cont_ids lacks = cc (sym lacks ∙ has_ids.conts)
