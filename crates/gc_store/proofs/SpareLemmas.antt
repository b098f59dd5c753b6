-- Room for more scoped roots changes nothing that is said of a store but that room.
use Rattle.std.proofs.Common.{ℕ, ◌≤◌, List, Option, Some, None, Result, Ok, Err, inl, inr, arith}
use Rattle.std.specs.declared.alloc.AllocError.{AllocError}
use Rattle.gc_types.specs.declared.kind.Layouts.{Layouts}
use Rattle.gc_types.specs.declared.value.StorageType.{StorageType}
use Rattle.gc_types.specs.declared.value.FieldType.{FieldType}
use Rattle.gc_owner.specs.RootColumns.{Reserves}
use Rattle.gc_model.specs.Values.{Reference, Value, Object}
use Rattle.gc_model.specs.Table.{Table}
use Rattle.gc_model.specs.Stores.{StoreView}
use Rattle.gc_model.specs.Accounts.{Account, HoldsAccount}
use Rattle.gc_values.specs.declared.root.GcRootIndex.{GcRootIndex}
use Rattle.gc_values.specs.declared.root.RawValue.{RawValue}
use Rattle.gc_values.specs.declared.root.RawValue.TheVariants as raw
use Rattle.gc_values.specs.declared.request.Place.{Place}
use Rattle.gc_values.specs.declared.request.Place.TheVariants as place
use Rattle.gc_values.specs.declared.request.Contents.{Contents}
use Rattle.gc_values.specs.declared.request.Contents.TheVariants as contents
use Rattle.gc_store.specs.Roots.{NamesReference}
use Rattle.gc_store.specs.Values.{RawStands, AllStand, NamesLive, CanStore}
use Rattle.gc_store.specs.Requests.{CanPlaceFields, CanPlaceIn, IsObjectOf}

-- what was reserved is no less than there was
pub reserves_more : (count old new : ℕ) (r : Result (Unit {0}) AllocError) → Reserves count old new r → old ≤ new
reserves_more count old new (Ok done) is = omega (arith, is)
reserves_more count old new (Err e) is = let same = is.1 in omega (arith, same)

abbrev pub roomy : {D : Type 0} → StoreView D → ℕ → StoreView D
roomy s n = record s { spare = n }

module _ {D : Type 0} (layouts : Layouts) (s : StoreView D) (n : ℕ) where
  pub holds_roomy : (t : Table D) (a : Account) → HoldsAccount layouts s t a → HoldsAccount layouts (roomy s n) t a
  holds_roomy t a is = record {
    place = is.place;
    holds = is.holds;
    account = record { held = is.account.held; places = is.account.places; last = is.account.last; tries = is.account.tries; upper = is.account.upper };
  }

  names_roomy : (t : Table D) (handle : GcRootIndex) (r : Reference) → NamesReference s t handle r → NamesReference (roomy s n) t handle r
  names_roomy t handle r (inl scoped) = inl (record {
    serial = scoped.serial;
    names = record { push = scoped.names.push; pushed = scoped.names.pushed; is = scoped.names.is };
    live = scoped.live;
  })
  names_roomy t handle r (inr owned) = inr (record { number = owned.number; names = owned.names; live = owned.live })

  stands_roomy : (t : Table D) (r : RawValue) (v : Value) → RawStands s t r v → RawStands (roomy s n) t r v
  stands_roomy t (raw.I32 z) v is = is
  stands_roomy t (raw.I64 z) v is = is
  stands_roomy t (raw.F32 z) v is = is
  stands_roomy t (raw.F64 z) v is = is
  stands_roomy t (raw.V128 z) v is = is
  stands_roomy t (raw.Func f) v is = is
  stands_roomy t (raw.Cont c) v is = is
  stands_roomy t (raw.Ref class None) v is = is
  stands_roomy t (raw.Ref class (Some handle)) v is = record { root = is.root; named = names_roomy t handle is.root is.named; is = is.is }

  all_roomy : (t : Table D) (rs : List RawValue) (vs : List Value) → AllStand s t rs vs → AllStand (roomy s n) t rs vs
  all_roomy t rs vs is = record { same_count = is.same_count; each = λ i r v at_r at_v. stands_roomy t r v (is.each i r v at_r at_v) }

  live_roomy : (r : RawValue) → NamesLive D layouts s r → NamesLive D layouts (roomy s n) r
  live_roomy (raw.I32 z) is = is
  live_roomy (raw.I64 z) is = is
  live_roomy (raw.F32 z) is = is
  live_roomy (raw.F64 z) is = is
  live_roomy (raw.V128 z) is = is
  live_roomy (raw.Func f) is = is
  live_roomy (raw.Cont c) is = is
  live_roomy (raw.Ref class None) is = is
  live_roomy (raw.Ref class (Some handle)) is = record { table = is.table; holds = is.holds; root = is.root; named = names_roomy is.table handle is.root is.named }

  pub asked_roomy : (t : Table D) (request : Place) (given : Contents) (o : Object D) → IsObjectOf s t request given o → IsObjectOf (roomy s n) t request given o
  asked_roomy t (place.Struct ty) (contents.Each values) o (vs, (all, is)) = (vs, (all_roomy t values.now vs all, is))
  asked_roomy t (place.Struct ty) (contents.Same value) o asked = asked
  asked_roomy t (place.Struct ty) (contents.Bytes bytes) o asked = asked
  asked_roomy t (place.Exn ty tag) (contents.Each values) o (vs, (all, is)) = (vs, (all_roomy t values.now vs all, is))
  asked_roomy t (place.Exn ty tag) (contents.Same value) o asked = asked
  asked_roomy t (place.Exn ty tag) (contents.Bytes bytes) o asked = asked
  asked_roomy t (place.Array ty count) (contents.Each values) o (vs, (all, is)) = (vs, (all_roomy t values.now vs all, is))
  asked_roomy t (place.Array ty count) (contents.Same value) o (v, (stands, is)) = (v, ((λ some. stands_roomy t value.now v (stands some)), is))
  asked_roomy t (place.Array ty count) (contents.Bytes bytes) o asked = asked

stands_before : {D : Type 0} (layouts : Layouts) (s : StoreView D) (n : ℕ) (t : Table D) (r : RawValue) (v : Value) → RawStands (roomy s n) t r v → RawStands s t r v
stands_before layouts s n t r v is = stands_roomy layouts (roomy s n) s.spare t r v is

module _ {D : Type 0} (layouts : Layouts) (s : StoreView D) (n : ℕ) where
  store_roomy : (ty : StorageType) (r : RawValue) → CanStore D layouts s ty r → CanStore D layouts (roomy s n) ty r
  store_roomy ty r can = record { live = live_roomy layouts s n r can.live; fits = λ t v holds stands. can.fits t v holds (stands_before layouts s n t r v stands) }

  fields_roomy : (found : Option (List FieldType)) (rs : List RawValue) → CanPlaceFields D layouts s found rs → CanPlaceFields D layouts (roomy s n) found rs
  fields_roomy found rs can = record {
    fields = can.fields;
    declared = can.declared;
    same_count = can.same_count;
    each = λ i field r at_field at_r. store_roomy field.element_type r (can.each i field r at_field at_r);
  }

  pub can_roomy : (request : Place) (given : Contents) → CanPlaceIn D layouts s request given → CanPlaceIn D layouts (roomy s n) request given
  can_roomy (place.Struct ty) (contents.Each values) can = fields_roomy _ values.now can
  can_roomy (place.Struct ty) (contents.Same value) can = can
  can_roomy (place.Struct ty) (contents.Bytes bytes) can = can
  can_roomy (place.Exn ty tag) (contents.Each values) can = fields_roomy _ values.now can
  can_roomy (place.Exn ty tag) (contents.Same value) can = can
  can_roomy (place.Exn ty tag) (contents.Bytes bytes) can = can
  can_roomy (place.Array ty count) (contents.Each values) can = record {
    element = can.element;
    declared = can.declared;
    same_count = can.same_count;
    each = λ i r at. store_roomy can.element.element_type r (can.each i r at);
  }
  can_roomy (place.Array ty count) (contents.Same value) can = record { element = can.element; declared = can.declared; fits = λ some. store_roomy can.element.element_type value.now (can.fits some) }
  can_roomy (place.Array ty count) (contents.Bytes bytes) can = record { element = can.element; declared = can.declared; of_bytes = can.of_bytes; same_count = can.same_count }
