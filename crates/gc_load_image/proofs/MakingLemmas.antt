-- The next object of an image is made.
use Rattle.std.proofs.Common.{inl, inr, ◌≡◌, ℕ, zero, suc, ◌+◌, ◌-◌, ◌^◌, ◌<◌, ◌≤◌, min, Bool, true, false, cond, nat_eq, List, [], ◌∷◌, ◌++◌, map, length, take, Option, Some, Result, Ok, Err, Contains, refl, sym, ap, ◌∙◌, subst, arith}
use Rattle.std.specs.Prelude.{sum_by}
use Rattle.std.specs.List.{slice_get}
use Rattle.std.proofs.lemmas.List.{length_push, length-take, take_more}
use Rattle.std.proofs.lemmas.List.Elements.{Contains-append_left}
use Rattle.std.proofs.lemmas.List.Sums.{sum_by_push, sum_by-take-le}
use Rattle.std.proofs.lemmas.Option.{get_or_from_slice_get, none-some, same_Some, slice_get_cases, slice_get_within}
use Rattle.gc_types.specs.declared.kind.Layouts.{Layouts}
use Rattle.gc_types.specs.declared.kind.Layouts.TheVariants.{Counting}
use Rattle.gc_types.specs.declared.value.Func.{Func}
use Rattle.gc_types.specs.Declarations.{Declaration}
use Rattle.gc_types.specs.Layouts.{round_up}
use Rattle.gc_view.specs.Pages.{max_pages}
use Rattle.gc_view.specs.Sizes.{alignment, need_of}
use Rattle.gc_model.specs.Allocation.{Limits, LacksMemory, MayRefuse, Rose, asked, no_heap, no_room, too_large}
use Rattle.gc_model.specs.SideValues.{SideValues, with_side_values}
use Rattle.gc_model.specs.Live.{rooted_among}
use Rattle.gc_model.specs.OwnedRoots.{owned_among}
use Rattle.gc_model.specs.Reach.{IsReached, root_references, by_start}
use Rattle.gc_model.specs.Sizes.{object_size}
use Rattle.gc_model.specs.Stores.{StoreView}
use Rattle.gc_model.specs.Table.{Table, Scoped, Owned, made_pages, make, make_heap, push, with_pages}
use Rattle.gc_model.specs.Values.{Reference, at, Object}
use Rattle.gc_model.specs.Words.{Placing}
use Rattle.gc_model.proofs.Lists.{slice_get-push_cases, slice_get-take}
use Rattle.gc_owner.specs.Limiters.{Refuses}
use Rattle.gc_model.specs.Accounts.{Account, HoldsAccount, with_held}
use Rattle.gc_model.specs.Policy.{PolicyState, policy_state}
use Rattle.gc_model.proofs.CollectedKept.{reached_placed}
use Rattle.gc_values.specs.declared.root.GcRootIndex.{GcRootIndex}
use Rattle.gc_store.specs.Places.{LacksPlace, PlacesObject, RefusesPlace, WantsPlace}
use Rattle.gc_store.specs.Roots.{NamesReference}
use Rattle.gc_store.specs.Stores.{IsSameStore}
use Rattle.gc_image.specs.declared.image.ObjectLine.{ObjectLine}
use Rattle.gc_image.specs.Well.{AreWellObjects, line_values}
use Rattle.gc_load_image.specs.declared.fault.LoadFault.{LoadFault}
use Rattle.gc_load_image.specs.declared.fault.LoadFault.TheVariants as fault
use Rattle.gc_load_image.specs.Loads.{LacksHeap, WasRefused, first_pages, line_block, line_count, line_size, more_pages, past_most}
use Rattle.gc_load_image.specs.Stages.{CountsNoLess, LoadGoesOn, IsDense, MadeNext, MakesNext, Making, PlacesLine, PushesForValues, Standing, StopCause, Stops, StopsAtRoots, early_object, early_objects}
use Rattle.gc_load_image.proofs.AskLemmas.{AsksBy, prepares_asks, refused_first, refused_pages, too_many, unrefused}
use Rattle.gc_load_image.proofs.DenseLemmas.{Lies, still_lies}
use Rattle.gc_load_image.proofs.DenseMade.{dense_made}
use Rattle.gc_load_image.proofs.EarlyLemmas.{AreMade, early_alike, early_at, early_plain, early_length, early_push}
use Rattle.gc_load_image.proofs.PushedRoots.{named_pushed, new_named}
use Rattle.gc_load_image.proofs.RoomLemmas.{Laid, lacks_full}
use Rattle.gc_load_image.proofs.SettingsLemmas.{settings_held, settings_twice, unused_like}
use Rattle.gc_load_image.proofs.SizeLemmas.{early_size, size_above, small_is_short}
use Rattle.gc_load_image.proofs.ValueLemmas.{full_is}

-- Limits

refused_more : (bytes a b pages pages' : ℕ) (limits limits' : Limits) → Refuses limits limits' pages pages' → CountsNoLess limits limits'
refused_more bytes a b pages pages' limits limits' refuses = record {
  limit = ap (λ (l : Limits). l.limit) refuses;
  refusals = (let e : limits'.refusals ≡ min (limits.refusals + 1) (2 ^ 64 - 1) = ap (λ (l : Limits). l.refusals) refuses in omega (arith, e));
}

same_counts : (limits limits' : Limits) → limits' ≡ limits → CountsNoLess limits limits'
same_counts limits limits' same = record { limit = ap (λ (l : Limits). l.limit) same; refusals = (let e : limits'.refusals ≡ limits.refusals = ap (λ (l : Limits). l.refusals) same in omega (arith, e)) }

-- what was counted where all went well
went_well : (bytes : ℕ) (limits limits' : Limits) (t : Table ℕ) → AsksBy bytes true limits limits' t → CountsNoLess limits limits'
went_well bytes limits limits' t (unrefused ok same) = same_counts limits limits' same
went_well bytes limits limits' t (too_many made past same) = same_counts limits limits' same
went_well bytes limits limits' t (refused_pages made within refuses) = refused_more 0 0 0 t.pages (t.pages + asked t.pages bytes) limits limits' refuses
went_well bytes limits limits' t (refused_first ok unmade refuses) = absurd (cc ok)

rose : (limits limits' : Limits) (a b : ℕ) → Refuses limits limits' a b → Rose limits.refusals limits'.refusals × (limits'.last_refused ≡ Some (a, b))
rose limits limits' a b refuses = (
  (let e : limits'.refusals ≡ min (limits.refusals + 1) (2 ^ 64 - 1) = ap (λ (l : Limits). l.refusals) refuses in omega (arith, e)),
  ap (λ (l : Limits). l.last_refused) refuses,
)

-- what was refused, in the table afterwards
was_refused : (layouts : Layouts) (o : Object ℕ) (places : Placing) (limits limits' : Limits) (t t' : Table ℕ) → LacksMemory layouts limits.limit places o t t' → AsksBy (need_of layouts (object_size layouts t.types o)) false limits limits' t'
    → WasRefused (need_of layouts (object_size layouts t.types o)) limits limits' t'
was_refused layouts o places limits limits' t t' lacks (unrefused ok same) = absurd (cc ok)
was_refused layouts o places limits limits' t t' lacks (too_many made past same) = past_most made past
was_refused layouts o places limits limits' t t' (no_heap refused same) (refused_pages made within refuses) = absurd (cc (sym refused.unmade ∙ sym (ap (λ (x : Table ℕ). x.made) same) ∙ made))
was_refused layouts o places limits limits' t t' (no_room may refused lacks same) (refused_pages made within refuses) =
    let need = need_of layouts (object_size layouts t.types o) in
    let pages : t'.pages ≡ (make_heap t).pages = ap (λ (x : Table ℕ). x.pages) same in
    let did = rose limits limits' t'.pages (t'.pages + asked t'.pages need) refuses in
    let above : MayRefuse limits.limit (t'.pages + asked t'.pages need) = elim refused [
      | inl past ↦ absurd (let e : max_pages < t'.pages + asked t'.pages need = subst (λ n. max_pages < n + asked n need) (sym pages) past in omega (arith, e, within))
      | inr may_refuse ↦ subst (λ n. MayRefuse limits.limit (n + asked n need)) (sym pages) may_refuse
    ] in
    more_pages made above did.0 did.1
was_refused layouts o places limits limits' t t' (no_heap refused same) (refused_first ok unmade refuses) =
    let first : t'.first ≡ t.first = ap (λ (x : Table ℕ). x.first) same in
    let did = rose limits limits' 0 t'.first refuses in
    first_pages unmade (subst (λ n. 0 < n) (sym first) refused.wanted) (subst (MayRefuse limits.limit) (sym first) refused.above) did.0 did.1
was_refused layouts o places limits limits' t t' (no_room may refused lacks same) (refused_first ok unmade refuses) = absurd (cc (sym unmade ∙ ap (λ (x : Table ℕ). x.made) same))

-- Positions that handles name

rooted_contains : (serial : ℕ) (roots : List Scoped) (r : Reference) → rooted_among serial roots ≡ Some r → Contains (map (λ (root : Scoped). root.reference) roots) r
rooted_contains serial [] r e = absurd (none-some r e)
rooted_contains serial (root ∷ roots) r e = elim (nat_eq root.serial serial) as (λ (b : Bool). cond b (Some root.reference) (rooted_among serial roots) ≡ Some r → Contains (map (λ (x : Scoped). x.reference) (root ∷ roots)) r) [
  | true ↦ λ h. (0, omega arith, same_Some root.reference r h)
  | false ↦ λ h. let rest = rooted_contains serial roots r h in (suc rest.0, (let below = rest.1 in omega (arith, below)), rest.2)
] e

named_reached : (s : StoreView ℕ) (t : Table ℕ) (h : GcRootIndex) (p : ℕ) → t.owned ≡ [] → NamesReference s t h (at p) → IsReached t p
named_reached s t h p none (inl scoped) = by_start (Contains-append_left (map (λ (root : Scoped). root.reference) t.scoped) _ (at p) (rooted_contains scoped.serial t.scoped (at p) scoped.live))
named_reached s t h p none (inr owned) = absurd (none-some (at p) (sym (ap (λ (os : List Owned). owned_among owned.number os) none) ∙ owned.live))

-- a handle names what it named where an object was made
made_over : (s : StoreView ℕ) (t : Table ℕ) (o : Object ℕ) (pages : ℕ) (h : GcRootIndex) (r : Reference) → NamesReference s (push (at (length t.objects)) t) h r → NamesReference s (make o (with_pages pages t)) h r
made_over s t o pages h r (inl named) = inl (record { serial = named.serial; names = record { push = named.names.push; pushed = named.names.pushed; is = named.names.is }; live = named.live })
made_over s t o pages h r (inr named) = inr (record { number = named.number; names = named.names; live = named.live })

early_back : (number : ℕ) (lines : List ObjectLine) (p : ℕ) (o : Object ℕ) → slice_get (early_objects number lines) p ≡ Some o → (line : ObjectLine) × ((slice_get lines p ≡ Some line) × (o ≡ early_object (number + p) line))
early_back number lines p o e = elim ((slice_get_cases lines p).1) [
  | inl found ↦ (found.0, (found.2, same_Some o (early_object (number + p) found.0) (sym e ∙ early_at number lines p found.0 found.2)))
  | inr past ↦ absurd (let inside = slice_get_within (early_objects number lines) p o e in omega (arith, past.0, inside, early_length number lines))
]

-- The next one

module _ (layouts : Layouts) (lines : List ObjectLine) (handles : List GcRootIndex) (line : ObjectLine) (s mid new : StoreView ℕ) (m : Making layouts lines handles s) (well : AreWellObjects s.types lines)
    (here : slice_get lines (length handles) ≡ Some line) (p : PushesForValues layouts handles (line_count line) s m.table m.account mid) where
  abbrev k : ℕ
  k = length handles

  abbrev t : Table ℕ
  t = p.table

  abbrev o : Object ℕ
  o = early_object k line

  objects_are : t.objects ≡ early_objects 0 (take k lines)
  objects_are = p.objects ∙ m.objects

  types_are : t.types ≡ s.types
  types_are = p.types ∙ sym m.standing.holds.holds.types

  inside : k < length lines
  inside = slice_get_within lines k line here

  count_is : length t.objects ≡ k
  count_is = ap length objects_are ∙ early_length 0 (take k lines) ∙ (let e = length-take k lines in omega (arith, e, inside))

  -- objects that were made are those of lines
  pub are_made : AreMade lines k t.objects
  are_made = record {
    each = λ q x below e.
        let front : slice_get (take k lines) q ≡ Some x = slice_get-take_below k lines q x below e in
        (early_object (0 + q) x, (ap (λ (os : List (Object ℕ)). slice_get os q) objects_are ∙ early_at 0 (take k lines) q x front, early_alike (0 + q) x));
  }
    where
      slice_get-take_below : (n : ℕ) (xs : List ObjectLine) (i : ℕ) (x : ObjectLine) → i < n → slice_get xs i ≡ Some x → slice_get (take n xs) i ≡ Some x
      slice_get-take_below zero xs i x below e = absurd (omega (arith, below))
      slice_get-take_below (suc n) [] i x below e = absurd (none-some x e)
      slice_get-take_below (suc n) (y ∷ xs) zero x below e = e
      slice_get-take_below (suc n) (y ∷ xs) (suc i) x below e = slice_get-take_below n xs i x (omega (arith, below)) e

  all_reached : (q : ℕ) → q < length t.objects → IsReached t q
  all_reached q below = elim ((slice_get_cases handles q).1) [
    | inl found ↦ named_reached mid t found.0 q p.standing.owned (p.standing.named q found.0 found.2)
    | inr past ↦ absurd (omega (arith, past.0, below, count_is))
  ]

  none_further : (q : ℕ) → IsReached t q → q < length t.objects
  none_further q reached =
      let word = reached_placed layouts mid t p.standing.holds.place p.standing.holds.holds q reached in
      let held = p.standing.holds.holds.objects.placed q word.0 word.1 in
      slice_get_within t.objects q held.entry held.in_table

  some_bytes : (q : ℕ) (x : Object ℕ) → slice_get t.objects q ≡ Some x → 0 < object_size Counting t.types x
  some_bytes q x e =
      let back = early_back 0 (take k lines) q x (sym (ap (λ (os : List (Object ℕ)). slice_get os q) objects_are) ∙ e) in
      let above = size_above Counting s.types back.0 (well q back.0 (slice_get-take k lines q back.0 back.1.0)).shape in
      let size : object_size Counting t.types x ≡ line_size Counting s.types back.0 = ap (λ (ts : List Declaration). object_size Counting ts x) types_are ∙ ap (object_size Counting s.types) back.1.1 ∙ early_size Counting s.types (0 + q) back.0 in
      omega (arith, above, size)

  dense : IsDense layouts t.types t.objects m.account.places
  dense = subst (λ (os : List (Object ℕ)). IsDense layouts t.types os m.account.places) (sym p.objects) (subst (λ (ts : List Declaration). IsDense layouts ts m.table.objects m.account.places) (sym p.types) m.dense)

  laid : Laid layouts t m.account.places (take k lines)
  laid = record { objects = objects_are; some = some_bytes; dense = dense; reached = all_reached; inside = none_further }

  -- the object's bytes
  size_is : (l : Layouts) → object_size l t.types o ≡ line_size l s.types line
  size_is l = ap (λ (ts : List Declaration). object_size l ts o) types_are ∙ early_size l s.types k line

  short_is : too_large layouts (object_size layouts t.types o) ≡ false → length (line_values line) < 2 ^ 32
  short_is small =
      let below = small_is_short layouts (object_size layouts t.types o) small in
      let above = size_above layouts s.types line (well k line here).shape in
      omega (arith, below, above, size_is layouts)

  -- the lines so far and this one
  sum_below : (f : ObjectLine → ℕ) → sum_by f (take k lines) + f line ≤ sum_by f lines
  sum_below f =
      let front : take (k + 1) lines ≡ take k lines ++ line ∷ [] = take_more lines k line inside ∙ ap (λ y. take k lines ++ y ∷ []) (get_or_from_slice_get lines k line line here) in
      let sums = ap (sum_by f) front ∙ sum_by_push f (take k lines) line in
      let under = sum_by-take-le f lines (k + 1) in
      omega (arith, sums, under)

  module _ (counter : Option ℕ) (limits limits' : Limits) (same : IsSameStore mid new) where
    abbrev state : PolicyState ℕ
    state = policy_state t m.account limits

    -- a table that has the types, the configuration, the roots and the numbers that there were
    record Still (u : Table ℕ) : Type 0 where
      types : u.types ≡ t.types
      first : u.first ≡ t.first
      max_scoped : u.max_scoped ≡ t.max_scoped
      max_owned : u.max_owned ≡ t.max_owned
      drops : u.drops ≡ t.drops
      owns : u.owns ≡ t.owns
      interned : u.interned ≡ t.interned
      frames : u.frames ≡ t.frames
      owned : u.owned ≡ t.owned
      pending : u.pending ≡ t.pending
      globals : u.globals ≡ t.globals

    still_as : (u v : Table ℕ) → u ≡ v → Still v → Still u
    still_as u v is still = subst Still (sym is) still

    still_itself : Still t
    still_itself = record { types = refl; first = refl; max_scoped = refl; max_owned = refl; drops = refl; owns = refl; interned = refl; frames = refl; owned = refl; pending = refl; globals = refl }

    still_pages : (pages : ℕ) → Still (with_pages pages t)
    still_pages pages = record { types = refl; first = refl; max_scoped = refl; max_owned = refl; drops = refl; owns = refl; interned = refl; frames = refl; owned = refl; pending = refl; globals = refl }

    -- it stopped with such a table
    stops_at : (u : Table ℕ) (b : Account) → HoldsAccount layouts new u b → Still u → (why : LoadFault) → StopCause layouts s.types lines limits limits' (1 + line_count line) s why u
        → Stops layouts s.types lines limits limits' (1 + line_count line) s why new
    stops_at u b holds still why cause = record {
      bare = record {
        table = u;
        account = b;
        holds = holds;
        unused = unused_like t u still.drops still.owns still.interned p.standing.unused;
        frames = still.frames ∙ p.standing.frames;
        owned = still.owned ∙ p.standing.owned;
        pending = still.pending ∙ p.standing.pending;
        unset = still.globals ∙ p.standing.unset;
      };
      same = settings_twice s mid new p.same (settings_held layouts mid new t u m.account b p.standing.holds holds still.first still.max_scoped still.max_owned);
      same_types = holds.holds.types ∙ still.types ∙ types_are;
      cause = cause;
    }

    stops_still : RefusesPlace layouts state limits' new → (why : LoadFault) → StopCause layouts s.types lines limits limits' (1 + line_count line) s why t
        → Stops layouts s.types lines limits limits' (1 + line_count line) s why new
    stops_still refuses why cause = stops_at t m.account refuses.holds still_itself why cause

    -- no root may be pushed
    full_stops : mid.max_scoped < length mid.scoped + 1 → s.max_scoped < length s.scoped + (1 + line_count line)
    full_stops full = let few = p.few in omega (arith, full, few, p.same.max_scoped)

    -- memory was wanting
    wants : WantsPlace layouts counter o state limits' new → Stops layouts s.types lines limits limits' (1 + line_count line) s fault.Memory new
    wants w = stops_at w.after.table w.after.account w.holds (elim w.pages [
      | inl is ↦ still_as w.after.table t is still_itself
      | inr got ↦ still_as w.after.table (with_pages got.0 t) got.1.1 (still_pages got.0)
    ]) fault.Memory tt

    lacks_still : (u : Table ℕ) → LacksMemory layouts limits.limit m.account.places o t u → Still u
    lacks_still u (no_heap refused eq) = still_as u t eq still_itself
    lacks_still u (no_room may refused lacks eq) = still_as u (make_heap t) eq (still_pages (made_pages t))

    lacks_heap : (need : ℕ) (l : LacksPlace layouts counter o state limits' need new) → LacksHeap layouts s.types lines need limits limits' l.after.table
    lacks_heap need l =
        let asks = prepares_asks layouts counter (object_size layouts t.types o) state l.prepares in
        let asks' : AsksBy (need_of layouts (object_size layouts t.types o)) false limits limits' l.after.table = subst (λ (x : Limits). AsksBy (need_of layouts (object_size layouts t.types o)) false limits x l.after.table) (sym l.limits) asks in
        let refused = was_refused layouts o m.account.places limits limits' t l.after.table l.lacks asks' in
        let full = lacks_full layouts limits.limit m.account.places o t l.after.table (take k lines) laid p.standing.holds.holds.memory.no_pages l.lacks in
        let blocks : sum_by (line_block layouts t.types) (take k lines) ≡ sum_by (line_block layouts s.types) (take k lines) = ap (λ (ts : List Declaration). sum_by (line_block layouts ts) (take k lines)) types_are in
        let last : round_up (object_size layouts t.types o) alignment ≡ line_block layouts s.types line = ap (λ n. round_up n alignment) (size_is layouts) in
        let sums = sum_below (line_block layouts s.types) in
        record {
          number = k;
          line = line;
          line_is = here;
          need_is = l.asked ∙ ap (need_of layouts) (size_is layouts);
          refused = subst (λ n. WasRefused n limits limits' l.after.table) (sym l.asked) refused;
          full = omega (arith, full, blocks, last, sums);
        }

    -- it was made
    module _ (handle : GcRootIndex) (made : PlacesObject layouts counter o state limits' handle new) where
      abbrev pages : ℕ
      pages = made.allocates.pages

      abbrev next : Table ℕ
      next = make o (with_pages pages t)

      abbrev account : Account
      account = with_held layouts (length t.objects) made.word made.after.account

      holds_next : HoldsAccount layouts new next account
      holds_next = subst (λ (x : Table ℕ). HoldsAccount layouts new x account) made.allocates.made made.holds

      named_next : (q : ℕ) (h : GcRootIndex) → slice_get (handles ++ handle ∷ []) q ≡ Some h → NamesReference new next h (at q)
      named_next q h e = elim (slice_get-push_cases handles handle q h e) [
        | inl old ↦ made_over new t o pages h (at q) (named_pushed mid new same t (at (length t.objects)) h (at q) (p.standing.named q h old))
        | inr last ↦
            let named = made_over new t o pages handle (at (length t.objects)) (new_named layouts mid t p.standing.holds.place p.standing.holds.holds new (at (length t.objects)) handle made.handle_is) in
            subst (λ (x : GcRootIndex). NamesReference new next x (at q)) last.1 (subst (λ n. NamesReference new next handle (at n)) (count_is ∙ sym last.0) named)
      ]

      standing_next : Standing layouts (handles ++ handle ∷ []) new next account
      standing_next = record {
        holds = holds_next;
        named = named_next;
        unused = unused_like t next refl refl (ap (λ (given : SideValues). with_side_values given t.interned) (early_plain k line)) p.standing.unused;
        frames = p.standing.frames;
        owned = p.standing.owned;
        pending = p.standing.pending;
        unset = p.standing.unset;
      }

      objects_next : next.objects ≡ early_objects 0 (take (length (handles ++ handle ∷ [])) lines)
      objects_next =
          let count : length (handles ++ handle ∷ []) ≡ k + 1 = length_push handles handle in
          let front : take (k + 1) lines ≡ take k lines ++ line ∷ [] = take_more lines k line inside ∙ ap (λ y. take k lines ++ y ∷ []) (get_or_from_slice_get lines k line line here) in
          let many : 0 + length (take k lines) ≡ k = (let e = length-take k lines in omega (arith, e, inside)) in
          ap (λ (os : List (Object ℕ)). os ++ o ∷ []) objects_are
          ∙ ap (λ n. early_objects 0 (take k lines) ++ early_object n line ∷ []) (sym many)
          ∙ sym (early_push 0 (take k lines) line)
          ∙ ap (early_objects 0) (sym front ∙ ap (λ n. take n lines) (sym count))

      lies_after : Lies layouts t.types t.objects (root_references t) made.after
      lies_after = still_lies layouts counter (object_size layouts t.types o) state made.after true all_reached made.prepares dense

      goes_next : LoadGoesOn (1 + line_count line) s new
      goes_next = record {
        few = (
            let before = p.standing.holds.holds.scoped.same_count in
            let after = holds_next.holds.scoped.same_count in
            let more : length next.scoped ≡ length t.scoped + 1 = length_push t.scoped _ in
            let few = p.few in
            omega (arith, before, after, more, few));
        same = settings_twice s mid new p.same (settings_held layouts mid new t next m.account account p.standing.holds holds_next refl refl refl);
        types = holds_next.holds.types ∙ types_are;
      }

      counts_next : CountsNoLess limits limits'
      counts_next =
          let asks = prepares_asks layouts counter (object_size layouts t.types o) state made.prepares in
          went_well (need_of layouts (object_size layouts t.types o)) limits limits' made.after.table
          (subst (λ (x : Limits). AsksBy (need_of layouts (object_size layouts t.types o)) true limits x made.after.table) (sym made.limits) asks)

      dense_next : IsDense layouts next.types next.objects account.places
      dense_next =
          let above = size_above layouts s.types line (well k line here).shape in
          dense_made t.types t.objects (root_references t) (take k lines) objects_are some_bytes all_reached none_further layouts o made.after made.word (object_size layouts t.types o) (omega (arith, above, size_is layouts)) lies_after made.lies

      pub made_next : MadeNext layouts lines handles line limits limits' s handle new
      made_next = record {
        making = record { table = next; account = account; standing = standing_next; objects = objects_next; dense = dense_next };
        goes = goes_next;
        counts = counts_next;
        short = short_is made.small;
      }

    -- what placing it answers
    pub makes_next : (result : Result GcRootIndex LoadFault) → PlacesLine layouts counter o state limits' result new → MakesNext layouts lines handles line limits limits' s result new
    makes_next (Ok handle) places = made_next handle places
    makes_next (Err fault.BadImage) places = absurd places
    makes_next (Err fault.TooLarge) places =
        stops_still places.1 fault.TooLarge (record { number = k; line = line; line_is = here; large = ap (too_large layouts) (sym (size_is layouts)) ∙ places.0 })
    makes_next (Err fault.RootsFull) places = stops_still places.1 fault.RootsFull (full_stops (full_is layouts handles mid new t m.account p.standing places.0))
    makes_next (Err (fault.HeapOutOfMemory f)) places =
        stops_at places.after.table places.after.account places.holds (lacks_still places.after.table places.lacks) (fault.HeapOutOfMemory f) (lacks_heap f.bytes_needed places)
    makes_next (Err fault.Memory) places = elim places [ inl w ↦ wants w | inr r ↦ stops_still r fault.Memory tt ]

-- values of a line that weren't found stop it
pub values_stop : (layouts : Layouts) (handles : List GcRootIndex) (types : List Declaration) (lines : List ObjectLine) (limits : Limits) (n most : ℕ) (s : StoreView ℕ) (t : Table ℕ) (a : Account) (why : LoadFault) (new : StoreView ℕ) → n ≤ most
    → t.types ≡ s.types → PushesForValues layouts handles n s t a new → StopsAtRoots n s why → Stops layouts types lines limits limits most s why new
values_stop layouts handles types lines limits n most s t a why new below types_before p cause = by why cause
  where
    stops : (w : LoadFault) → StopCause layouts types lines limits limits most s w p.table → Stops layouts types lines limits limits most s w new
    stops w c = record {
      bare = record { table = p.table; account = a; holds = p.standing.holds; unused = p.standing.unused; frames = p.standing.frames; owned = p.standing.owned; pending = p.standing.pending; unset = p.standing.unset };
      same = p.same;
      same_types = p.standing.holds.holds.types ∙ p.types ∙ types_before;
      cause = c;
    }

    by : (w : LoadFault) → StopsAtRoots n s w → Stops layouts types lines limits limits most s w new
    by fault.BadImage c = absurd c
    by fault.TooLarge c = absurd c
    by fault.RootsFull c = stops fault.RootsFull (let past : s.max_scoped < length s.scoped + n = c in omega (arith, past, below))
    by (fault.HeapOutOfMemory f) c = absurd c
    by fault.Memory c = stops fault.Memory tt
