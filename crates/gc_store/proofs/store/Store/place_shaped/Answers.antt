use Rattle.std.proofs.Common.{inl, ◌≡◌, ℕ, Some, ◌+◌, ◌-◌, ◌<◌, ◌^◌, min, true, false, List, length, Result, Ok, Err, slice_index_or, refl, sym, ap, ◌∙◌, subst, arith}
use Rattle.std.specs.Option.{option_map}
use Rattle.std.specs.Int.NonZero.{non_zero_u32_get}
use Rattle.gc_types.specs.Declarations.{TypeTable, shape_at}
use Rattle.gc_view.specs.Heaps.{HeapObject}
use Rattle.gc_view.specs.Slots.{shape_size}
use Rattle.gc_model.specs.Allocation.{too_large}
use Rattle.gc_model.specs.SideValues.{InternedIds, SideValues, side_values, with_side_values}
use Rattle.gc_model.specs.Table.{Table}
use Rattle.gc_model.specs.Values.{Object, object_values}
use Rattle.gc_model.specs.Stores.{StoreView}
use Rattle.gc_model.specs.Holds.{Placing, Holds}
use Rattle.gc_owner.specs.declared.allocate.Description.{Description}
use Rattle.gc_owner.specs.declared.entry.RootEntry.{RootEntry}
use Rattle.gc_owner.specs.Owners.{OwnerView}
use Rattle.gc_owner.specs.Growing.{OwnerState, state_of}
use Rattle.gc_owner.specs.Makes.{AllocatesRooted, Describes}
use Rattle.gc_model.specs.Accounts.{Account, HoldsAccount, is_due}
use Rattle.gc_model.specs.Policy as policy
use Rattle.gc_model.specs.Policy.{policy_state}
use Rattle.gc_model.specs.Shown.{shown}
use Rattle.gc_values.specs.declared.faults.PlaceFault.{PlaceFault}
use Rattle.gc_values.specs.declared.root.GcRootIndex.{GcRootIndex}
use Rattle.gc_values.specs.declared.root.RootSlot.TheVariants as slot
use Rattle.gc_values.specs.Filling.{asked_type, front_of, ContentsFit, ContentsStand, FillsBy, IsToFill}
use Rattle.gc_values.specs.Making.{BeginsMaking, IsDescribedBy, IsSizeBy, IsSizeOf, MakesRooted, TellsSize}
use Rattle.gc_values.specs.Interning.{CanInternAll, HaveAllIdsLeft, InternsAll, MakesRooms, request_values, ids_of}
use Rattle.gc_store.specs.Places.{Places, PlacesObject, HasIds}
use Rattle.gc_values.specs.RawValues.{raw_side_values}
use Rattle.gc_store.specs.Requests.{CanPlaceIn, IsObjectOf}
use Rattle.gc_store.specs.Stores.{store_view, tables_by, tables_of, is_full, scoped_places}
use Rattle.gc_values.proofs.GivenValues.{interned_ids, rooms_can, rooms_ids, rooms_left}
use Rattle.gc_values.proofs.Keeping.{counts_of}
use Rattle.gc_store.proofs.NewObjects.{IsNew, asked_kind}
use Rattle.gc_store.proofs.Placing.{IsStart, reserved_start, Creates, IsLastRoot, last_root, KeepsRest, made_keeps, may_fill, placing_follows}
use Rattle.gc_store.proofs.PlacingFaults.{FollowsFault, fault_follows, fault_keeps}
use Rattle.gc_store.proofs.Pushing.{full_is}
use Rattle.gc_store.proofs.Requested.{Asks, IsCounted, Sized, asked_side_values, sized, few_elements, new_of, of_types, asks}
use Rattle.gc_store.proofs.PlacingIds.{left_ids, refused_ids, same_held}
use Rattle.gc_store.proofs.SameRoots.{same_err}
use Rattle.gc_store.proofs.store.Store.place_shaped.Given as given
use Rattle.gc_store.proofs.store.Store.place_shaped.Goals.{After-is_ready, After-find_room, After-object_size, After-is_err, After-description_of-description, After-make_object, In-Ok, After-holder_of-holder, After-fill, In-Err}
use Rattle.gc_store.proofs.store.Store.place_shaped.Goals as goal
use Rattle.gc_store.proofs.SpareLemmas.{reserves_more, can_roomy, asked_roomy}

-- the store before the call, and its owner with room for one more root
abbrev view : (g : given.Over) (c : After-is_ready g) → StoreView g.row.D.Denot
view g c = store_view c.self.inside.id c.self.inside.config (tables_of c.self.inside.interned c.self.inside.asked) c.self.inside.owner.seen c.self.inside.tries

fits_view : (g : given.Over) (c : After-is_ready g) → CanPlaceIn g.row.D.Denot g.H.GcHeap.KIND (view g c) c.args.request (g.C.ContentSource.contents c.args.contents)
fits_view g c = subst (λ (x : StoreView g.row.D.Denot). CanPlaceIn g.row.D.Denot g.H.GcHeap.KIND x c.args.request (g.C.ContentSource.contents c.args.contents)) (sym c.self.view_is) c.requires.can

-- the size of what is requested
size_at : (g : given.Over) (c : After-is_ready g) → Sized g.H.GcHeap.KIND (view g c) c.args.request (g.C.ContentSource.contents c.args.contents)
size_at g c = sized g.row.D.Denot g.H.GcHeap.KIND (view g c) c.self.invariant.table c.self.invariant.holds.place c.self.invariant.holds.holds c.args.request (g.C.ContentSource.contents c.args.contents) (fits_view g c)

-- its type lists the shape
listed_at : (g : given.Over) (c : After-is_ready g) → shape_at (view g c).types (asked_type c.args.request) ≡ Some c.args.shape.now
listed_at g c = subst (λ (x : StoreView g.row.D.Denot). shape_at x.types (asked_type c.args.request) ≡ Some c.args.shape.now) (sym c.self.view_is) c.requires.listed

pub object_size-requires : goal.object_size-requires
object_size-requires g c =
    let at = (goal.at.object_size-requires g c).After-is_ready in
    let is = size_at g at in
    ((view g at).types, (is.size, (listed_at g at, is.is_size)))

-- what the size is said to be
told_at : (g : given.Over) (c : After-object_size g) (size : ℕ) → IsSizeOf g.H.GcHeap.KIND (view g (goal.at.After-object_size g c).After-is_ready).types c.args.request size → TellsSize g.H.GcHeap.KIND size c.object_size.result
told_at g c size is = let at = (goal.at.After-object_size g c).After-is_ready in c.object_size.ensures (view g at).types size (listed_at g at, is)

ready : (g : given.Over) (c : After-is_ready g) (t : Table g.row.D.Denot) (a : Account) → HoldsAccount g.H.GcHeap.KIND (view g c) t a → IsStart g.H.GcHeap.KIND (view g c) c.self.inside.owner.seen t a
ready g c t a holds = record { heap = c.is_ready.ensures.heap; can = c.is_ready.ensures.can; in_frames = c.is_ready.ensures.frames; holds = holds }

-- each table that the store held, by its parts
held : (g : given.Over) (c : After-is_ready g) (t : Table g.row.D.Denot) (a : Account) → HoldsAccount g.H.GcHeap.KIND c.args.self.now t a → HoldsAccount g.H.GcHeap.KIND (view g c) t a
held g c t a holds = subst (λ (s : StoreView g.row.D.Denot). HoldsAccount g.H.GcHeap.KIND s t a) (sym c.self.view_is) holds

asked_view : (g : given.Over) (c : After-is_ready g) (t : Table g.row.D.Denot) (o : Object g.row.D.Denot) → IsObjectOf c.args.self.now t c.args.request (g.C.ContentSource.contents c.args.contents) o → IsObjectOf (view g c) t c.args.request (g.C.ContentSource.contents c.args.contents) o
asked_view g c t o is = subst (λ (s : StoreView g.row.D.Denot). IsObjectOf s t c.args.request (g.C.ContentSource.contents c.args.contents) o) (sym c.self.view_is) is

-- what was given, and the room that was made for its function values and continuations
abbrev given_of : (g : given.Over) (c : After-is_ready g) → SideValues
given_of g c = raw_side_values (request_values c.args.request (g.C.ContentSource.contents c.args.contents))

given_is : (g : given.Over) (c : After-find_room g) → raw_side_values c.side_values-given.result.now ≡ given_of g (goal.at.After-find_room g c).After-is_ready
given_is g c = c.side_values-given.ensures

side_values_are : (g : given.Over) (c : After-is_ready g) (t : Table g.row.D.Denot) (place : Placing) (o : Object g.row.D.Denot) → Holds g.H.GcHeap.KIND (view g c) t place → IsObjectOf (view g c) t c.args.request (g.C.ContentSource.contents c.args.contents) o
    → (known : SideValues) → with_side_values (given_of g c) known ≡ with_side_values (side_values (object_values o)) known
side_values_are g c t place o holds is =
    asked_side_values g.row.D.Denot g.H.GcHeap.KIND (view g c) c.self.invariant.table c.self.invariant.holds.place c.self.invariant.holds.holds c.args.request (g.C.ContentSource.contents c.args.contents) (fits_view g c) t place o holds is

room_made : (g : given.Over) (c : After-object_size g) → MakesRooms c.self.inside.interned c.find_room.new.interned (given_of g (goal.at.After-object_size g c).After-is_ready)
room_made g c = subst (MakesRooms c.self.inside.interned c.find_room.new.interned) (given_is g (goal.at.After-object_size g c).After-find_room) c.in_ok-find_room.ensures

same_ids : (g : given.Over) (c : After-object_size g) → ids_of c.find_room.new.interned ≡ ids_of c.self.inside.interned
same_ids g c = rooms_ids c.self.inside.interned c.find_room.new.interned (given_of g (goal.at.After-object_size g c).After-is_ready) (room_made g c)

-- ids are left for it
ids_left : (g : given.Over) (c : After-object_size g) → HaveAllIdsLeft (ids_of c.self.inside.interned) (given_of g (goal.at.After-object_size g c).After-is_ready)
ids_left g c = rooms_left c.self.inside.interned c.find_room.new.interned (given_of g (goal.at.After-object_size g c).After-is_ready) (room_made g c)

has_ids : (g : given.Over) (c : After-object_size g) (t : Table g.row.D.Denot) (place : Placing) (o : Object g.row.D.Denot) → Holds g.H.GcHeap.KIND (view g (goal.at.After-object_size g c).After-is_ready) t place
    → IsObjectOf (view g (goal.at.After-object_size g c).After-is_ready) t c.args.request (g.C.ContentSource.contents c.args.contents) o → HasIds o t
has_ids g c t place o holds is =
    left_ids t o (given_of g (goal.at.After-object_size g c).After-is_ready) (side_values_are g (goal.at.After-object_size g c).After-is_ready t place o holds is t.interned) (ids_of c.self.inside.interned) holds.interned (ids_left g c)

-- the table and the account that were held are held with the ids as they were
still : (g : given.Over) (c : After-object_size g) (t : Table g.row.D.Denot) (a : Account) → HoldsAccount g.H.GcHeap.KIND (view g (goal.at.After-object_size g c).After-is_ready) t a
    → HoldsAccount g.H.GcHeap.KIND (store_view c.self.inside.id c.self.inside.config (tables_of c.find_room.new.interned c.self.inside.asked) c.self.inside.owner.seen c.self.inside.tries) t a
still g c t a holds = same_held g.H.GcHeap.KIND (view g (goal.at.After-object_size g c).After-is_ready) t a holds (ids_of c.find_room.new.interned) (same_ids g c)

pub returns-in_err-find_room-clause-places : goal.returns-in_err-find_room-clause-places
returns-in_err-find_room-clause-places g c t a o holds asked =
    let room = (goal.at.returns-in_err-find_room-clause-places g c).After-find_room in
    let first = (goal.at.After-find_room g room).After-is_ready in
    let before = held g first t a holds in
    let fault : PlaceFault = c.in_err-find_room.field-0.0 in
    let after : StoreView g.row.D.Denot = store_view c.self.inside.id c.self.inside.config (tables_of c.find_room.new.interned c.self.inside.asked) c.self.inside.owner.seen c.self.inside.tries in
    subst (λ (r : Result GcRootIndex PlaceFault). Places g.H.GcHeap.KIND c.args.self.now.alloc_counter o (policy_state t a (g.L.ResourceLimiter.limits c.args.limiter.now)) (g.L.ResourceLimiter.limits c.args.limiter.now) r after)
    (sym (same_err c.from_residual.result fault c.from_residual.ensures.1))
    (refused_ids g.H.GcHeap.KIND c.args.self.now.alloc_counter (view g first) t a (g.L.ResourceLimiter.limits c.args.limiter.now) before o (raw_side_values c.side_values-given.result.now)
    (ap (λ (given : SideValues). with_side_values given t.interned) (given_is g room) ∙ side_values_are g first t before.place o before.holds (asked_view g first t o asked) t.interned)
    c.self.inside.interned c.find_room.new.interned refl fault c.in_err-find_room.ensures)

pub returns-in_default-clause-places : goal.returns-in_default-clause-places
returns-in_default-clause-places g c t a o holds asked =
    let sized = (goal.at.returns-in_default-clause-places g c).After-object_size in
    let first = (goal.at.After-object_size g sized).After-is_ready in
    let is = size_at g first in
    let before = held g first t a holds in
    let large : too_large g.H.GcHeap.KIND is.size ≡ true =
    subst (TellsSize g.H.GcHeap.KIND is.size) c.in_default.is (told_at g sized is.size is.is_size) in (
      ap (too_large g.H.GcHeap.KIND) (is.of_object t before.place o before.holds (asked_view g first t o asked)) ∙ large,
      record { holds = still g sized t a before; limits = refl },
      has_ids g sized t before.place o before.holds (asked_view g first t o asked),
    )

pub returns-then-is_full-clause-places : goal.returns-then-is_full-clause-places
returns-then-is_full-clause-places g c t a o holds asked =
    let sized = (goal.at.returns-then-is_full-clause-places g c).After-object_size in
    let first = (goal.at.After-object_size g sized).After-is_ready in
    let is = size_at g first in
    let before = held g first t a holds in
    let told : (c.in-Some.size ≡ is.size) × (too_large g.H.GcHeap.KIND is.size ≡ false) =
    subst (TellsSize g.H.GcHeap.KIND is.size) c.in-Some.is (told_at g sized is.size is.is_size) in (
      ap (too_large g.H.GcHeap.KIND) (is.of_object t before.place o before.holds (asked_view g first t o asked)) ∙ told.1,
      sym (full_is g.H.GcHeap.KIND c.args.self.now t holds.place holds.holds) ∙ sym c.roots_full-is_full.ensures ∙ c.if-is_full.true,
      record { holds = still g sized t a before; limits = refl },
      has_ids g sized t before.place o before.holds (asked_view g first t o asked),
    )

abbrev now : (g : given.Over) (c : After-is_err g) → OwnerView g.row.D.Denot
now g c = c.reserve.new.self.seen

abbrev first_of : (g : given.Over) (c : After-is_err g) → After-is_ready g
first_of g c = (goal.at.After-is_err g c).After-is_ready

reserved : (g : given.Over) (c : After-is_err g) (t : Table g.row.D.Denot) (a : Account) → HoldsAccount g.H.GcHeap.KIND (view g (first_of g c)) t a → IsStart g.H.GcHeap.KIND (view g (first_of g c)) (now g c) t a
reserved g c t a holds = reserved_start g.H.GcHeap.KIND (view g (first_of g c)) c.self.inside.owner.seen (now g c) t a (ready g (first_of g c) t a holds) c.reserve.ensures.rest

pub returns-then-is_err-clause-places : goal.returns-then-is_err-clause-places
returns-then-is_err-clause-places g c t a o holds asked =
    let at = (goal.at.returns-then-is_err-clause-places g c).After-is_err in
    let first = (goal.at.returns-then-is_err-clause-places g c).After-is_ready in
    record {
      after = policy_state t a (g.L.ResourceLimiter.limits c.args.limiter.now);
      prepared = policy.not_begun;
      begun = inl refl;
      pages = inl refl;
      holds = same_held g.H.GcHeap.KIND (shown (view g first) (now g at)) t a (reserved g at t a (held g first t a holds)).holds (ids_of c.find_room.new.interned) (same_ids g (goal.at.After-is_err g at).After-object_size);
      limits = refl;
    }

-- the store with room for one more root
abbrev store_now : (g : given.Over) (c : After-is_err g) → StoreView g.row.D.Denot
store_now g c = shown (view g (first_of g c)) (now g c)

can : (g : given.Over) (c : After-is_err g) → CanPlaceIn g.row.D.Denot g.H.GcHeap.KIND (store_now g c) c.args.request (g.C.ContentSource.contents c.args.contents)
can g c =
    subst (λ (v : OwnerView g.row.D.Denot). CanPlaceIn g.row.D.Denot g.H.GcHeap.KIND (shown (view g (first_of g c)) v) c.args.request (g.C.ContentSource.contents c.args.contents)) (sym c.reserve.ensures.rest)
    (can_roomy g.H.GcHeap.KIND (view g (first_of g c)) (now g c).roots.spare c.args.request (g.C.ContentSource.contents c.args.contents) (fits_view g (first_of g c)))

asked_now : (g : given.Over) (c : After-is_err g) (t : Table g.row.D.Denot) (o : Object g.row.D.Denot) → IsObjectOf (view g (first_of g c)) t c.args.request (g.C.ContentSource.contents c.args.contents) o → IsObjectOf (store_now g c) t c.args.request (g.C.ContentSource.contents c.args.contents) o
asked_now g c t o is =
    subst (λ (v : OwnerView g.row.D.Denot). IsObjectOf (shown (view g (first_of g c)) v) t c.args.request (g.C.ContentSource.contents c.args.contents) o) (sym c.reserve.ensures.rest)
    (asked_roomy g.H.GcHeap.KIND (view g (first_of g c)) (now g c).roots.spare t c.args.request (g.C.ContentSource.contents c.args.contents) o is)

-- what the size is said to be, for each size by the types
tells : (g : given.Over) (c : After-is_err g) (size : ℕ) → IsSizeOf g.H.GcHeap.KIND (now g c).types.declarations c.args.request size → (c.in-Some.size ≡ size) × (too_large g.H.GcHeap.KIND size ≡ false)
tells g c size is =
    subst (TellsSize g.H.GcHeap.KIND size) c.in-Some.is (told_at g (goal.at.After-is_err g c).After-object_size size
    (subst (λ (v : OwnerView g.row.D.Denot). IsSizeOf g.H.GcHeap.KIND v.types.declarations c.args.request size) c.reserve.ensures.rest is))

start_of : (g : given.Over) (c : After-is_err g) → IsStart g.H.GcHeap.KIND (view g (first_of g c)) (now g c) c.self.invariant.table c.self.invariant.account
start_of g c = reserved g c c.self.invariant.table c.self.invariant.account c.self.invariant.holds

few : (g : given.Over) (c : After-is_err g) → IsCounted c.args.request
few g c =
    let holds = (start_of g c).holds in
    let is = sized g.row.D.Denot g.H.GcHeap.KIND (store_now g c) c.self.invariant.table holds.place holds.holds c.args.request (g.C.ContentSource.contents c.args.contents) (can g c) in
    few_elements g.H.GcHeap.KIND (now g c).types.declarations c.args.request is.size is.is_size (tells g c is.size is.is_size).1

-- what is made
abbrev new : (g : given.Over) (c : After-is_err g) → IsNew g.row.D.Denot g.H.GcHeap.KIND (now g c).types.declarations c.args.request
new g c = new_of g.row.D.Denot g.H.GcHeap.KIND (store_now g c) c.args.request (g.C.ContentSource.contents c.args.contents) (few g c) (can g c)

abbrev size : (g : given.Over) (c : After-is_err g) → ℕ
size g c = shape_size g.H.GcHeap.KIND (new g c).shape (new g c).count

asked_of : (g : given.Over) (c : After-is_err g) (t : Table g.row.D.Denot) (p : Placing) → Holds g.H.GcHeap.KIND (store_now g c) t p → Asks g.H.GcHeap.KIND (store_now g c) t c.args.request (g.C.ContentSource.contents c.args.contents) (new g c)
asked_of g c t p holds = asks g.row.D.Denot g.H.GcHeap.KIND (store_now g c) t p holds c.args.request (g.C.ContentSource.contents c.args.contents) (few g c) (can g c)

told : (g : given.Over) (c : After-is_err g) → (c.in-Some.size ≡ size g c) × (too_large g.H.GcHeap.KIND (size g c) ≡ false)
told g c = tells g c (size g c) (new g c).is_size

-- a root may be pushed
room : (g : given.Over) (c : After-is_err g) → is_full (store_now g c) ≡ false
room g c =
    ap (λ (v : OwnerView g.row.D.Denot). is_full (shown (view g (first_of g c)) v)) c.reserve.ensures.rest ∙ ap is_full c.self.view_is ∙ sym c.roots_full-is_full.ensures ∙ c.if-is_full.false

-- the function values of what is asked, with room for one more root
side_values_now : (g : given.Over) (c : After-is_err g) (t : Table g.row.D.Denot) (place : Placing) (o : Object g.row.D.Denot) → Holds g.H.GcHeap.KIND (store_now g c) t place → IsObjectOf (store_now g c) t c.args.request (g.C.ContentSource.contents c.args.contents) o
    → (known : SideValues) → with_side_values (raw_side_values (request_values c.args.request (g.C.ContentSource.contents c.args.contents))) known ≡ with_side_values (side_values (object_values o)) known
side_values_now g c t place o holds is =
    asked_side_values g.row.D.Denot g.H.GcHeap.KIND (store_now g c) c.self.invariant.table (start_of g c).holds.place (start_of g c).holds.holds c.args.request (g.C.ContentSource.contents c.args.contents) (can g c) t place o holds is

has_ids_now : (g : given.Over) (c : After-is_err g) (t : Table g.row.D.Denot) (place : Placing) (o : Object g.row.D.Denot) → Holds g.H.GcHeap.KIND (store_now g c) t place → IsObjectOf (store_now g c) t c.args.request (g.C.ContentSource.contents c.args.contents) o → HasIds o t
has_ids_now g c t place o holds is =
    left_ids t o (raw_side_values (request_values c.args.request (g.C.ContentSource.contents c.args.contents))) (side_values_now g c t place o holds is t.interned) (ids_of c.self.inside.interned) holds.interned (ids_left g (goal.at.After-is_err g c).After-object_size)

-- what was made, where the owner stood in one state and came to another
abbrev start : (g : given.Over) (c : After-make_object g) → OwnerState g.row.D.Denot
start g c = state_of c.reserve.new.self.seen (g.L.ResourceLimiter.limits c.args.limiter.now)

abbrev made_state : (g : given.Over) (c : After-make_object g) → OwnerState g.row.D.Denot
made_state g c = state_of c.make_object.new.owner.seen (g.L.ResourceLimiter.limits c.make_object.new.limiter)

abbrev err_of : (g : given.Over) (c : After-make_object g) → After-is_err g
err_of g c = (goal.at.After-make_object g c).After-is_err

abbrev blank : (g : given.Over) (c : After-make_object g) → HeapObject
blank g c = (new g (err_of g c)).blank

-- the type lists the shape, with room for one more root
listed_now : (g : given.Over) (c : After-is_err g) → shape_at (now g c).types.declarations (asked_type c.args.request) ≡ Some c.args.shape.now
listed_now g c = subst (λ (v : OwnerView g.row.D.Denot). shape_at v.types.declarations (asked_type c.args.request) ≡ Some c.args.shape.now) (sym c.reserve.ensures.rest) (listed_at g (first_of g c))

sized_by : (g : given.Over) (c : After-is_err g) → IsSizeBy g.H.GcHeap.KIND (now g c).types.declarations c.args.request c.args.shape.now (size g c)
sized_by g c = (listed_now g c, (new g c).is_size)

pub description_of-description-requires : goal.description_of-description-requires
description_of-description-requires g c =
    let err = (goal.at.description_of-description-requires g c).After-is_err in
    ((now g err).types.declarations, (size g err, sized_by g err))

described : (g : given.Over) (c : After-is_err g) (d : Description) → IsDescribedBy g.H.GcHeap.KIND (now g c).types.declarations c.args.request d → Describes g.H.GcHeap.KIND c.reserve.new.self.seen d (new g c).blank c.in-Some.size
described g c d is =
    subst (λ (n : ℕ). Describes g.H.GcHeap.KIND c.reserve.new.self.seen d (new g c).blank n) (sym (told g c).0) ((new g c).described (now g c) refl d is)

described_now : (g : given.Over) (c : After-description_of-description g) → Describes g.H.GcHeap.KIND c.reserve.new.self.seen c.description_of-description.result (new g (goal.at.After-description_of-description g c).After-is_err).blank c.in-Some.size
described_now g c =
    let err = (goal.at.After-description_of-description g c).After-is_err in
    described g err c.description_of-description.result (c.description_of-description.ensures (now g err).types.declarations (size g err) (sized_by g err))

pub make_object-requires-clause-of_types : goal.make_object-requires-clause-of_types
make_object-requires-clause-of_types g c =
    let err = (goal.at.make_object-requires-clause-of_types g c).After-is_err in
    of_types g.H.GcHeap.KIND (now g err).types.declarations c.args.request c.description_of-description.result (c.description_of-description.ensures (now g err).types.declarations (size g err) (sized_by g err))

pub make_object-requires-clause-described : goal.make_object-requires-clause-described
make_object-requires-clause-described g c =
    let at = goal.at.make_object-requires-clause-described g c in
    ((new g at.After-is_err).blank, described_now g at.After-description_of-description)

made : (g : given.Over) (c : After-make_object g) (r : Result ℕ PlaceFault) → c.make_object.result ≡ r
    → MakesRooted g.H.GcHeap.KIND (blank g c) (size g (err_of g c)) c.self.inside.config.first_pages c.count_allocation-is_due.result (start g c) (made_state g c) r
made g c r is =
    subst (λ (n : ℕ). MakesRooted g.H.GcHeap.KIND (blank g c) n c.self.inside.config.first_pages c.count_allocation-is_due.result (start g c) (made_state g c) r) (told g (err_of g c)).0
    (subst (λ (x : Result ℕ PlaceFault). MakesRooted g.H.GcHeap.KIND (blank g c) c.in-Some.size c.self.inside.config.first_pages c.count_allocation-is_due.result (start g c) (made_state g c) x) is
    (c.make_object.ensures (blank g c) (described_now g (goal.at.After-make_object g c).After-description_of-description)))

due_is : (g : given.Over) (c : After-make_object g) → c.count_allocation-is_due.result ≡ is_due (option_map non_zero_u32_get c.self.inside.config.alloc_counter) (min (c.self.inside.tries + 1) (2 ^ 64 - 1))
due_is g c = c.count_allocation-is_due.ensures.due ∙ ap (is_due (option_map non_zero_u32_get c.self.inside.config.alloc_counter)) c.count_allocation-is_due.ensures.counted

abbrev made_of : (g : given.Over) (c : In-Ok g) → After-make_object g
made_of g c = (goal.at.In-Ok g c).After-make_object

-- the state in which the object was made, and its root
in_ok : (g : given.Over) (c : In-Ok g) → (b : OwnerState g.row.D.Denot) × (BeginsMaking g.H.GcHeap.KIND c.self.inside.config.first_pages c.count_allocation-is_due.result (start g (made_of g c)) b
    × AllocatesRooted g.H.GcHeap.KIND (blank g (made_of g c)) (size g (err_of g (made_of g c))) b (made_state g (made_of g c)) c.in-Ok.index)
in_ok g c = made g (made_of g c) (Ok c.in-Ok.index) c.in-Ok.is

root_is : (g : given.Over) (c : In-Ok g) → IsLastRoot c.make_object.new.owner.seen c.in-Ok.index (in_ok g c).1.1.adds.word
root_is g c =
    let at = made_of g c in
    let p = in_ok g c in
    last_root g.H.GcHeap.KIND (blank g at) (size g (err_of g at)) p.0 (made_state g at) c.in-Ok.index p.1.1

pub holder_of-holder-requires-clause-inside : goal.holder_of-holder-requires-clause-inside
holder_of-holder-requires-clause-inside g c =
    let at = (goal.at.holder_of-holder-requires-clause-inside g c).In-Ok in
    subst (λ (es : List RootEntry). c.in-Ok.index < length es) (sym c.scoped.ensures) (root_is g at).inside

pub holder_of-holder-requires-clause-present : goal.holder_of-holder-requires-clause-present
holder_of-holder-requires-clause-present g c = λ d.
    let at = (goal.at.holder_of-holder-requires-clause-present g c).In-Ok in
    let root = root_is g at in
    subst (λ (es : List RootEntry). 0 < (slice_index_or es c.in-Ok.index d).word) (sym c.scoped.ensures) (subst (λ (n : ℕ). 0 < n) (sym (root.is d)) root.not_null)

keeps : (g : given.Over) (c : In-Ok g) → KeepsRest c.reserve.new.self.seen c.make_object.new.owner.seen
keeps g c =
    let at = made_of g c in
    let p = in_ok g c in
    made_keeps g.H.GcHeap.KIND c.self.inside.config.first_pages c.count_allocation-is_due.result (size g (err_of g at)) (blank g at) (start g at) p.0 (made_state g at) c.in-Ok.index p.1.0 p.1.1

idle_now : (g : given.Over) (c : In-Ok g) → c.make_object.new.owner.seen.idle ≡ true
idle_now g c = (keeps g c).idle ∙ ap (λ (v : OwnerView g.row.D.Denot). v.idle) c.reserve.ensures.rest ∙ c.self.invariant.idle

abbrev sized_of : (g : given.Over) (c : In-Ok g) → After-object_size g
sized_of g c = (goal.at.After-is_err g (err_of g (made_of g c))).After-object_size

pub intern_all-requires : goal.intern_all-requires
intern_all-requires g c =
    let at = sized_of g (goal.at.intern_all-requires g c).In-Ok in
    subst (CanInternAll c.find_room.new.interned) (sym (given_is g (goal.at.After-object_size g at).After-find_room))
    (rooms_can c.self.inside.interned c.find_room.new.interned (given_of g (goal.at.After-object_size g at).After-is_ready) (room_made g at) c.self.invariant.table.interned c.self.invariant.holds.holds.interned)

interned : (g : given.Over) (c : After-holder_of-holder g) → InternsAll (ids_of c.self.inside.interned) (ids_of c.intern_all.new.interned) (raw_side_values (request_values c.args.request (g.C.ContentSource.contents c.args.contents)))
interned g c =
    let at = sized_of g (goal.at.After-holder_of-holder g c).In-Ok in
    subst (λ (ids : InternedIds). InternsAll ids (ids_of c.intern_all.new.interned) (raw_side_values (request_values c.args.request (g.C.ContentSource.contents c.args.contents)))) (same_ids g at)
    (subst (InternsAll (ids_of c.find_room.new.interned) (ids_of c.intern_all.new.interned)) (given_is g (goal.at.After-object_size g at).After-find_room) c.intern_all.ensures)

pub fill-requires-clause-idle : goal.fill-requires-clause-idle
fill-requires-clause-idle g c = idle_now g (goal.at.fill-requires-clause-idle g c).In-Ok

holder_is : (g : given.Over) (c : After-holder_of-holder g) → c.holder_of-holder.result ≡ (in_ok g (goal.at.After-holder_of-holder g c).In-Ok).1.1.adds.word
holder_is g c =
    let at = (goal.at.After-holder_of-holder g c).In-Ok in
    let d : RootEntry = record { generation = 0; word = 0 } in
    c.holder_of-holder.ensures d ∙ ap (λ (es : List RootEntry). (slice_index_or es c.in-Ok.index d).word) c.scoped.ensures ∙ (root_is g at).is d

abbrev err_at : (g : given.Over) (c : After-holder_of-holder g) → After-is_err g
err_at g c = err_of g (made_of g (goal.at.After-holder_of-holder g c).In-Ok)

fills_of : (g : given.Over) (c : After-holder_of-holder g)
    → IsToFill g.H.GcHeap.KIND c.make_object.new.owner.seen c.holder_of-holder.result (asked_type c.args.request) (ContentsFit (ids_of c.intern_all.new.interned) c.args.request (g.C.ContentSource.contents c.args.contents)) (new g (err_at g c)).blank (new g (err_at g c)).shape (new g (err_at g c)).count
fills_of g c =
    let ok = (goal.at.After-holder_of-holder g c).In-Ok in
    let err = err_at g c in
    let p = in_ok g ok in
    let is = start_of g err in
    subst (λ (n : ℕ). IsToFill g.H.GcHeap.KIND c.make_object.new.owner.seen n (asked_type c.args.request) (ContentsFit (ids_of c.intern_all.new.interned) c.args.request (g.C.ContentSource.contents c.args.contents)) (new g err).blank (new g err).shape (new g err).count) (sym (holder_is g c))
    (may_fill g.H.GcHeap.KIND (view g (first_of g err)) c.reserve.new.self.seen c.args.request (g.C.ContentSource.contents c.args.contents) (new g err) (g.L.ResourceLimiter.limits c.args.limiter.now) c.self.invariant.table c.self.invariant.account is
    (asked_of g err c.self.invariant.table is.holds.place is.holds.holds) (ids_of c.intern_all.new.interned)
    (interned_ids (ids_of c.self.inside.interned) (ids_of c.intern_all.new.interned) (raw_side_values (request_values c.args.request (g.C.ContentSource.contents c.args.contents))) c.self.invariant.table.interned c.self.invariant.holds.holds.interned (interned g c))
    c.count_allocation-is_due.result p.0 p.1.0 (made_state g (made_of g ok)) c.in-Ok.index p.1.1)

pub fill-requires-clause-can : goal.fill-requires-clause-can
fill-requires-clause-can g c =
    let at = (goal.at.fill-requires-clause-can g c).After-holder_of-holder in
    let err = err_at g at in
    record { object = (new g err).blank; shape = (new g err).shape; count = (new g err).count; to_fill = fills_of g at }

pub fill-requires-clause-listed : goal.fill-requires-clause-listed
fill-requires-clause-listed g c =
    let at = (goal.at.fill-requires-clause-listed g c).After-holder_of-holder in
    ap (λ (ts : TypeTable). shape_at ts.declarations (asked_type c.args.request)) (keeps g (goal.at.After-holder_of-holder g at).In-Ok).types ∙ listed_now g (err_at g at)

pub fill-requires-clause-kind : goal.fill-requires-clause-kind
fill-requires-clause-kind g c =
    let at = (goal.at.fill-requires-clause-kind g c).After-holder_of-holder in
    let err = err_at g at in
    asked_kind c.args.request c.make_object.new.owner.seen.heap c.holder_of-holder.result (new g err).blank (fills_of g at).is.held (new g err).of_kind

abbrev holder_at : (g : given.Over) (c : After-fill g) → After-holder_of-holder g
holder_at g c = (goal.at.After-fill g c).After-holder_of-holder

abbrev ok_at : (g : given.Over) (c : After-fill g) → In-Ok g
ok_at g c = (goal.at.After-holder_of-holder g (holder_at g c)).In-Ok

-- the owner at the end, and what was created
abbrev last_state : (g : given.Over) (c : After-fill g) → OwnerState g.row.D.Denot
last_state g c = state_of c.fill.new.owner.seen (g.L.ResourceLimiter.limits c.make_object.new.limiter)

filled : (g : given.Over) (c : After-fill g)
    → FillsBy g.H.GcHeap.KIND (front_of g.H.GcHeap.KIND c.args.request (new g (err_at g (holder_at g c))).shape) (ContentsStand (ids_of c.intern_all.new.interned) (g.C.ContentSource.contents c.args.contents)) c.make_object.new.owner.seen c.fill.new.owner.seen c.holder_of-holder.result (new g (err_at g (holder_at g c))).blank (new g (err_at g (holder_at g c))).shape (new g (err_at g (holder_at g c))).count
filled g c =
    let err = err_at g (holder_at g c) in
    c.fill.ensures (new g err).blank (new g err).shape (new g err).count (fills_of g (holder_at g c))

created : (g : given.Over) (c : After-fill g) → Creates g.H.GcHeap.KIND (now g (err_at g (holder_at g c))).types.declarations (ids_of c.intern_all.new.interned) c.args.request (g.C.ContentSource.contents c.args.contents) (new g (err_at g (holder_at g c))) (in_ok g (ok_at g c)).0 (last_state g c) c.in-Ok.index
created g c =
    let err = err_at g (holder_at g c) in
    let p = in_ok g (ok_at g c) in
    record {
      mid = p.1.1.mid;
      retried = p.1.1.retried;
      added = c.make_object.new.owner.seen;
      adds = p.1.1.adds;
      fills = subst (λ (n : ℕ). FillsBy g.H.GcHeap.KIND (front_of g.H.GcHeap.KIND c.args.request (new g err).shape) (ContentsStand (ids_of c.intern_all.new.interned) (g.C.ContentSource.contents c.args.contents)) c.make_object.new.owner.seen c.fill.new.owner.seen n (new g err).blank (new g err).shape (new g err).count) (holder_is g (holder_at g c)) (filled g c);
      limits = p.1.1.limits;
    }

-- the store afterwards
abbrev later : (g : given.Over) (c : After-fill g) → StoreView g.row.D.Denot
later g c = store_view c.self.inside.id c.self.inside.config (tables_of c.intern_all.new.interned c.self.inside.asked) c.fill.new.owner.seen c.count_allocation-is_due.new.tries

-- what an object that was made and has its values leaves
placed : (g : given.Over) (c : After-fill g) (t : Table g.row.D.Denot) (a : Account) (o : Object g.row.D.Denot) → HoldsAccount g.H.GcHeap.KIND (view g (first_of g (err_at g (holder_at g c)))) t a
    → IsObjectOf (store_now g (err_at g (holder_at g c))) t c.args.request (g.C.ContentSource.contents c.args.contents) o
    → (handle : GcRootIndex) → handle ≡ record { store_id = c.self.inside.id; generation = c.fill.new.owner.seen.roots.generation; slot = slot.Scoped c.in-Ok.index }
    → PlacesObject g.H.GcHeap.KIND (option_map non_zero_u32_get c.self.inside.config.alloc_counter) o (policy_state t a (g.L.ResourceLimiter.limits c.args.limiter.now)) (g.L.ResourceLimiter.limits c.make_object.new.limiter) handle (later g c)
placed g c t a o holds is_asked handle handle_is =
    let err = err_at g (holder_at g c) in
    let at = made_of g (ok_at g c) in
    let p = in_ok g (ok_at g c) in
    let is = reserved g err t a holds in
    let asked = asked_of g err t is.holds.place is.holds.holds in
    subst (λ (n : ℕ). PlacesObject g.H.GcHeap.KIND (option_map non_zero_u32_get c.self.inside.config.alloc_counter) o (policy_state t a (g.L.ResourceLimiter.limits c.args.limiter.now)) (g.L.ResourceLimiter.limits c.make_object.new.limiter) handle (store_view c.self.inside.id c.self.inside.config (tables_of c.intern_all.new.interned c.self.inside.asked) c.fill.new.owner.seen n))
    (sym c.count_allocation-is_due.ensures.counted)
    (placing_follows g.H.GcHeap.KIND (view g (first_of g err)) c.reserve.new.self.seen c.args.request (g.C.ContentSource.contents c.args.contents) (new g err) (g.L.ResourceLimiter.limits c.args.limiter.now) t a is asked
    (ids_of c.intern_all.new.interned) (interned g (holder_at g c)) o (asked.asks_for t is.holds.place o is.holds.holds is_asked) (side_values_now g err t is.holds.place o is.holds.holds is_asked) (told g err).1 (room g err) (has_ids_now g err t is.holds.place o is.holds.holds is_asked)
    c.count_allocation-is_due.result (due_is g at) p.0 (last_state g c) c.in-Ok.index p.1.0 (created g c) handle handle_is)

pub invariant_of-self-in-Ok : goal.invariant_of-self-in-Ok
invariant_of-self-in-Ok g c =
    let at = (goal.at.invariant_of-self-in-Ok g c).After-fill in
    let err = err_at g (holder_at g at) in
    let ok = ok_at g at in
    let rest = (filled g at).rewrites.rest in
    let is = start_of g err in
    let some = (asked_of g err c.self.invariant.table is.holds.place is.holds.holds).some in
    let types : c.fill.new.owner.seen.types ≡ c.self.inside.owner.seen.types =
    ap (λ (v : OwnerView g.row.D.Denot). v.types) rest ∙ (keeps g ok).types ∙ ap (λ (v : OwnerView g.row.D.Denot). v.types) c.reserve.ensures.rest in
    let places = placed g at c.self.invariant.table c.self.invariant.account some.0 c.self.invariant.holds some.1 (record { store_id = c.self.inside.id; generation = c.fill.new.owner.seen.roots.generation; slot = slot.Scoped c.in-Ok.index }) refl in
    record {
      idle = ap (λ (v : OwnerView g.row.D.Denot). v.idle) rest ∙ idle_now g ok;
      engine = ap (λ (x : TypeTable). x.engine) types ∙ c.self.invariant.engine;
      number = ap (λ (x : TypeTable). x.number) types ∙ c.self.invariant.number;
      frames = c.self.invariant.frames ∙ sym (ap counts_of rest ∙ (keeps g ok).counts ∙ ap counts_of c.reserve.ensures.rest);
      table = _;
      account = _;
      holds = places.holds;
    }

pub returns-in-Ok-clause-places : goal.returns-in-Ok-clause-places
returns-in-Ok-clause-places g c t a o holds is_asked =
    let at = (goal.at.returns-in-Ok-clause-places g c).After-fill in
    let err = err_at g (holder_at g at) in
    let first = first_of g err in
    subst (λ (n : _). PlacesObject g.H.GcHeap.KIND n o (policy_state t a (g.L.ResourceLimiter.limits c.args.limiter.now)) (g.L.ResourceLimiter.limits c.make_object.new.limiter) c.scoped_handle.result (later g at)) (ap (λ (s : StoreView g.row.D.Denot). s.alloc_counter) c.self.view_is)
    (placed g at t a o (held g first t a holds) (asked_now g err t o (asked_view g first t o is_asked)) c.scoped_handle.result
    (c.scoped_handle.ensures ∙ ap (λ (n : ℕ). record { store_id = c.self.inside.id; generation = n; slot = slot.Scoped c.in-Ok.index }) c.generation.ensures))

-- the store where none was made
abbrev left : (g : given.Over) (c : In-Err g) → StoreView g.row.D.Denot
left g c = store_view c.self.inside.id c.self.inside.config (tables_of c.find_room.new.interned c.self.inside.asked) c.make_object.new.owner.seen c.count_allocation-is_due.new.tries

abbrev failed_of : (g : given.Over) (c : In-Err g) → After-make_object g
failed_of g c = (goal.at.In-Err g c).After-make_object

-- what an object that was not made leaves
refused : (g : given.Over) (c : In-Err g) (t : Table g.row.D.Denot) (a : Account) (o : Object g.row.D.Denot) → HoldsAccount g.H.GcHeap.KIND (view g (first_of g (err_of g (failed_of g c)))) t a
    → IsObjectOf (store_now g (err_of g (failed_of g c))) t c.args.request (g.C.ContentSource.contents c.args.contents) o
    → FollowsFault g.H.GcHeap.KIND (view g (first_of g (err_of g (failed_of g c)))) o (policy_state t a (g.L.ResourceLimiter.limits c.args.limiter.now)) (made_state g (failed_of g c)) c.in-Err.fault
refused g c t a o holds is_asked =
    let at = failed_of g c in
    let err = err_of g at in
    let is = reserved g err t a holds in
    let asked = asked_of g err t is.holds.place is.holds.holds in
    fault_follows g.H.GcHeap.KIND (view g (first_of g err)) c.reserve.new.self.seen c.args.request (g.C.ContentSource.contents c.args.contents) (new g err) (g.L.ResourceLimiter.limits c.args.limiter.now) t a is asked
    o (asked.asks_for t is.holds.place o is.holds.holds is_asked) (told g err).1 (room g err) (has_ids_now g err t is.holds.place o is.holds.holds is_asked)
    c.count_allocation-is_due.result (due_is g at) (made_state g at) c.in-Err.fault (made g at (Err c.in-Err.fault) c.in-Err.is)

-- the owner is as it was but for heap, roots, host values and last usage
rest_kept : (g : given.Over) (c : In-Err g) → KeepsRest c.reserve.new.self.seen c.make_object.new.owner.seen
rest_kept g c =
    let at = failed_of g c in
    fault_keeps g.H.GcHeap.KIND (blank g at) (size g (err_of g at)) c.self.inside.config.first_pages c.count_allocation-is_due.result (start g at) (made_state g at) c.in-Err.fault
    (told g (err_of g at)).1 (made g at (Err c.in-Err.fault) c.in-Err.is)

pub invariant_of-self-in-Err : goal.invariant_of-self-in-Err
invariant_of-self-in-Err g c =
    let fault = (goal.at.invariant_of-self-in-Err g c).In-Err in
    let err = err_of g (failed_of g fault) in
    let rest = rest_kept g fault in
    let is = start_of g err in
    let some = (asked_of g err c.self.invariant.table is.holds.place is.holds.holds).some in
    let after = refused g fault c.self.invariant.table c.self.invariant.account some.0 c.self.invariant.holds some.1 in
    let types : c.make_object.new.owner.seen.types ≡ c.self.inside.owner.seen.types = rest.types ∙ ap (λ (v : OwnerView g.row.D.Denot). v.types) c.reserve.ensures.rest in
    record {
      idle = rest.idle ∙ ap (λ (v : OwnerView g.row.D.Denot). v.idle) c.reserve.ensures.rest ∙ c.self.invariant.idle;
      engine = ap (λ (x : TypeTable). x.engine) types ∙ c.self.invariant.engine;
      number = ap (λ (x : TypeTable). x.number) types ∙ c.self.invariant.number;
      frames = c.self.invariant.frames ∙ sym (rest.counts ∙ ap counts_of c.reserve.ensures.rest);
      table = after.table;
      account = after.account;
      holds = subst (λ (ids : InternedIds). HoldsAccount g.H.GcHeap.KIND (store_view c.self.inside.id c.self.inside.config (tables_by ids c.self.inside.asked) c.make_object.new.owner.seen c.count_allocation-is_due.new.tries) after.table after.account) (sym (same_ids g (goal.at.After-is_err g err).After-object_size))
          (subst (λ (n : ℕ). HoldsAccount g.H.GcHeap.KIND (store_view c.self.inside.id c.self.inside.config (tables_of c.self.inside.interned c.self.inside.asked) c.make_object.new.owner.seen n) after.table after.account) (sym c.count_allocation-is_due.ensures.counted) after.holds);
    }

pub returns-clause-places : goal.returns-clause-places
returns-clause-places g c t a o holds is_asked =
    let fault = (goal.at.returns-clause-places g c).In-Err in
    let err = err_of g (failed_of g fault) in
    let first = first_of g err in
    subst (λ (n : _). Places g.H.GcHeap.KIND n o (policy_state t a (g.L.ResourceLimiter.limits c.args.limiter.now)) (g.L.ResourceLimiter.limits c.make_object.new.limiter) (Err c.in-Err.fault) (left g fault)) (ap (λ (s : StoreView g.row.D.Denot). s.alloc_counter) c.self.view_is)
    (subst (λ (ids : InternedIds). Places g.H.GcHeap.KIND (option_map non_zero_u32_get c.self.inside.config.alloc_counter) o (policy_state t a (g.L.ResourceLimiter.limits c.args.limiter.now)) (g.L.ResourceLimiter.limits c.make_object.new.limiter) (Err c.in-Err.fault) (store_view c.self.inside.id c.self.inside.config (tables_by ids c.self.inside.asked) c.make_object.new.owner.seen c.count_allocation-is_due.new.tries))
    (sym (same_ids g (goal.at.After-is_err g err).After-object_size))
    (subst (λ (n : ℕ). Places g.H.GcHeap.KIND (option_map non_zero_u32_get c.self.inside.config.alloc_counter) o (policy_state t a (g.L.ResourceLimiter.limits c.args.limiter.now)) (g.L.ResourceLimiter.limits c.make_object.new.limiter) (Err c.in-Err.fault) (store_view c.self.inside.id c.self.inside.config (tables_of c.self.inside.interned c.self.inside.asked) c.make_object.new.owner.seen n))
    (sym c.count_allocation-is_due.ensures.counted) (refused g fault t a o (held g first t a holds) (asked_now g err t o (asked_view g first t o is_asked))).places))

-- No fewer places for scoped roots are left.
pub returns-in-Ok-clause-spare : goal.returns-in-Ok-clause-spare
returns-in-Ok-clause-spare g c =
    let at = (goal.at.returns-in-Ok-clause-spare g c).After-fill in
    let more = reserves_more c.roots_wanted-more.result c.self.inside.owner.seen.roots.spare c.reserve.new.self.seen.roots.spare c.reserve.result c.reserve.ensures.spare in
    let less = (keeps g (ok_at g at)).spare in
    let same = ap (λ (v : OwnerView g.row.D.Denot). v.roots.spare + length v.roots.scoped) (filled g at).rewrites.rest in
    let count = ap (λ (v : OwnerView g.row.D.Denot). length v.roots.scoped) c.reserve.ensures.rest in
    let was = ap (λ (s : StoreView g.row.D.Denot). scoped_places s) c.self.view_is in
    omega (arith, more, less, same, count, was)

pub returns-clause-spare : goal.returns-clause-spare
returns-clause-spare g c =
    let fault = (goal.at.returns-clause-spare g c).In-Err in
    let more = reserves_more c.roots_wanted-more.result c.self.inside.owner.seen.roots.spare c.reserve.new.self.seen.roots.spare c.reserve.result c.reserve.ensures.spare in
    let less = (rest_kept g fault).spare in
    let count = ap (λ (v : OwnerView g.row.D.Denot). length v.roots.scoped) c.reserve.ensures.rest in
    let was = ap (λ (s : StoreView g.row.D.Denot). scoped_places s) c.self.view_is in
    omega (arith, more, less, count, was)
