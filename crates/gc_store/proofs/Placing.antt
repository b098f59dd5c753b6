-- An object that was made and got its values is the table's.
use Rattle.std.proofs.Common.{◌≡◌, inl, inr, ℕ, ◌+◌, ◌-◌, ◌^◌, ◌<◌, min, Bool, true, false, List, [], ◌∷◌, ◌++◌, length, Some, None, slice_index_or, sym, ap, ◌∙◌, refl, subst, arith, le-leb, ◌≤◌}
use Rattle.std.specs.FinMap.{get}
use Rattle.std.proofs.lemmas.List.{length-append}
use Rattle.std.proofs.lemmas.Option.{slice_get_within}
use Rattle.gc_types.specs.declared.kind.Layouts.{Layouts}
use Rattle.gc_types.specs.declared.kind.Layouts.TheVariants.{Null, Counting, Copying}
use Rattle.gc_types.specs.declared.kind.VMGcKind.TheVariants.{ArrayRef, ExnRef}
use Rattle.gc_types.specs.Declarations.{Declaration, Shape, TypeTable, struct_of, array_of, exn_of, func_of, shape_at}
use Rattle.gc_types.specs.Layouts.{round_up, struct_base}
use Rattle.gc_owner.specs.declared.entry.RootEntry.{RootEntry}
use Rattle.gc_owner.specs.RootColumns.{with_scoped, with_room}
use Rattle.gc_owner.specs.Owners.{OwnerView, CanBegin}
use Rattle.gc_owner.specs.Growing.{OwnerState, state_of, owner_rules}
use Rattle.gc_owner.specs.Makes.{AddsScoped, AllocatesRooted}
use Rattle.gc_owner.specs.Retry.{Retry}
use Rattle.gc_model.specs.Values.{Reference, Value, Object}
use Rattle.gc_model.specs.Reach.{object_values}
use Rattle.gc_model.specs.Table.{Table, intern, make, with_pages}
use Rattle.gc_model.specs.Live.{roots_full}
use Rattle.gc_view.specs.Sizes.{alignment, need_of, size_rules}
use Rattle.gc_view.specs.Slots.{shape_size}
use Rattle.gc_model.specs.Sizes.{object_size}
use Rattle.gc_model.specs.Allocation.{Limits, too_large, FitsIn, GetsPages}
use Rattle.gc_view.specs.Heaps.{HeapView, HeapObject}
use Rattle.gc_view.proofs.Content.{get-put_other}
use Rattle.gc_model.specs.Stores.{StoreView}
use Rattle.gc_model.specs.Forms.{naming}
use Rattle.gc_model.specs.SideValues.{InternedBy, InternedIds, SideValues, side_values, with_side_values}
use Rattle.gc_model.specs.Holds.{Placing, Holds}
use Rattle.gc_model.proofs.Fitting.{fits-form}
use Rattle.gc_model.proofs.HoldsInterned.{with_ids, holds_interned}
use Rattle.gc_model.proofs.HoldsMake.{IsMadeObject, holds_make, placed_at}
use Rattle.gc_view.proofs.Layouts.{round_up-le}
use Rattle.gc_heap.specs.Content.{IsHeap}
use Rattle.gc_heap.specs.Heap.{IsTooLarge, allocated_after}
use Rattle.gc_heap.proofs.NumberLemmas.{held_added}
use Rattle.gc_model.proofs.ObjectStands.{array_front}
use Rattle.gc_model.specs.Accounts.{Account, HoldsAccount, is_due, with_held}
use Rattle.gc_model.specs.Policy as policy
use Rattle.gc_model.specs.Policy.{PolicyState, policy_state, IsPlaceIn, count_try, Prepares}
use Rattle.gc_model.specs.Shown.{shown}
use Rattle.gc_model.proofs.CountedTries.{counted_store, counted_holds}
use Rattle.gc_model.proofs.HeapGaps.{place_in, told_more}
use Rattle.gc_model.proofs.HeldMore.{held_more}
use Rattle.gc_model.proofs.KeptPlaces.{fits-stay}
use Rattle.gc_model.proofs.MakingSimulation.{Shows, FollowsBeginning, beginning_follows, got_pages, stays_on}
use Rattle.gc_model.proofs.RetrySimulation.{MayHaveGrown, retry_follows}
use Rattle.gc_model.proofs.RootsShown.{SlotsInFrames}
use Rattle.gc_values.specs.declared.request.Contents.{Contents}
use Rattle.gc_values.specs.declared.request.Place.{Place}
use Rattle.gc_values.specs.declared.root.GcRootIndex.{GcRootIndex}
use Rattle.gc_values.specs.declared.root.RawValue.{RawValue}
use Rattle.gc_values.specs.declared.root.RawValue.TheVariants as raw
use Rattle.gc_values.specs.declared.root.RootSlot.TheVariants as slot
use Rattle.gc_values.specs.declared.request.Place.TheVariants as place
use Rattle.gc_values.specs.Filling.{asked_type, front_of, ContentsFit, ContentsStand, FillsBy, IsToFill}
use Rattle.gc_values.specs.HeldSlots.{HasHeapShape}
use Rattle.gc_values.specs.Interning.{InternsAll, request_values}
use Rattle.gc_values.specs.Kept.{KeptStands}
use Rattle.gc_values.specs.Making.{BeginsMaking}
use Rattle.gc_store.specs.Places.{PlacesObject, HasIds}
use Rattle.gc_store.specs.Stores.{is_full}
use Rattle.gc_store.specs.Values.{RawStands}
use Rattle.gc_values.specs.RawValues.{raw_side_values}
use Rattle.gc_values.proofs.GivenValues.{HaveAllIds, held_all, keeps_all}
use Rattle.gc_values.proofs.Keeping.{counts_of, Keeps, keeps-making, keeps-retried, keeps-trans, same_count}
use Rattle.gc_store.specs.Roots.{NamesReference}
use Rattle.gc_values.specs.Words.{HandleRoots, handle_roots, AreOwnedRising, owned_id}
use Rattle.gc_store.proofs.KeptAgain.{IsRooted, with_more, rooted_again, rooted_more, stands_more}
use Rattle.gc_store.proofs.NewObjects.{IsNew, HasAskedKind}
use Rattle.gc_store.proofs.Pushing.{full_is}
use Rattle.gc_store.proofs.Requested.{Asks, AsksFor, HasAskedFront, StandsFor}
use Rattle.gc_store.proofs.WritingAt.{is_rooted, kept_stands, raw_form_is}
use Rattle.gc_store.proofs.SpareLemmas.{holds_roomy}

-- the entry of a new root
abbrev entry_of : ℕ → ℕ → RootEntry
entry_of generation word = record { generation = generation; word = word }

-- what is too large for the heap is too large for the table
pub too_large_is : (layouts : Layouts) (n : ℕ) → IsTooLarge layouts n → too_large layouts n ≡ true
too_large_is layouts n large = le-leb (size_rules layouts).limit n large

-- after an allocation the null heap goes on behind the object
allocated_next : (layouts : Layouts) (allocated after size : ℕ) → after ≡ allocated_after layouts allocated size → layouts ≡ Null → after + 1 ≡ round_up (allocated + 1) alignment + size
allocated_next Null allocated after size is null = omega (arith, is, round_up-le (allocated + 1) alignment (omega arith))
allocated_next Counting allocated after size is null = absurd (cc)
allocated_next Copying allocated after size is null = absurd (cc)

-- A handle names the same in another store that holds the table with other pages, which has the same id.
named_after : {D : Type 0} (s after : StoreView D) (t : Table D) (pages : ℕ) → after.engine ≡ s.engine → after.number ≡ s.number → (handle : GcRootIndex) (r : Reference) → NamesReference s t handle r → NamesReference after (with_pages pages t) handle r
named_after s after t pages engine number handle r (inl named) = inl (record {
  serial = named.serial;
  names = record {
    push = named.names.push;
    pushed = named.names.pushed;
    is = named.names.is ∙ (λ i. record { store_id = record { engine = sym engine i; number = sym number i }; generation = named.names.push.generation; slot = slot.Scoped named.names.push.index });
  };
  live = named.live;
})
named_after s after t pages engine number handle r (inr named) = inr (record {
  number = named.number;
  names = named.names ∙ (λ i. record { store_id = record { engine = sym engine i; number = sym number i }; generation = named.number; slot = slot.Owned (owned_id named.number) });
  live = named.live;
})

-- The values stand in it.
raw_after : {D : Type 0} (s after : StoreView D) (t : Table D) (pages : ℕ) → after.engine ≡ s.engine → after.number ≡ s.number → (r : RawValue) (v : Value) → RawStands s t r v → RawStands after (with_pages pages t) r v
raw_after s after t pages engine number (raw.I32 n) v stands = stands
raw_after s after t pages engine number (raw.I64 n) v stands = stands
raw_after s after t pages engine number (raw.F32 n) v stands = stands
raw_after s after t pages engine number (raw.F64 n) v stands = stands
raw_after s after t pages engine number (raw.V128 n) v stands = stands
raw_after s after t pages engine number (raw.Func f) v stands = stands
raw_after s after t pages engine number (raw.Cont c) v stands = stands
raw_after s after t pages engine number (raw.Ref class None) v stands = stands
raw_after s after t pages engine number (raw.Ref class (Some handle)) v stands = record {
  root = stands.root;
  named = named_after s after t pages engine number handle stands.root stands.named;
  is = stands.is;
}

-- An object that got its values, and an exception its tag, is of the shape still.
shape_after : (layouts : Layouts) (request : Place) (shape : Shape) (o : HeapObject) (b : List ℕ) (n : ℕ) → HasAskedKind request o → front_of layouts request shape o.bytes b → HasHeapShape o shape n → HasHeapShape (record o { bytes = b }) shape n
shape_after layouts request (struct_of fields) o b n kind front has = has
shape_after layouts (place.Struct ty) (array_of element) o b n kind front has = (has.0, has.1 ∙ sym (front 0 (array_front layouts (array_of element) refl)))
shape_after layouts (place.Array ty count) (array_of element) o b n kind front has = (has.0, has.1 ∙ sym (front 0 (array_front layouts (array_of element) refl)))
shape_after layouts (place.Exn ty tag) (array_of element) o b n kind front has = absurd (let both : ExnRef ≡ ArrayRef = sym kind ∙ has.0 in cc)
shape_after layouts request (exn_of params) o b n kind front has = has
shape_after layouts request (func_of params results) o b n kind front has = has

asked_front : (layouts : Layouts) (request : Place) (shape : Shape) (before after : List ℕ) → front_of layouts request shape before after → HasAskedFront request after
asked_front layouts (place.Struct ty) shape before after front = tt
asked_front layouts (place.Exn ty tag) shape before after front = front
asked_front layouts (place.Array ty count) shape before after front = tt

-- One more object is in the owner's heap, with values that stand for what was given, and a root.
pub record Creates {D : Type 0} (layouts : Layouts) (types : List Declaration) (ids : InternedIds) (request : Place) (given : Contents) (new : IsNew D layouts types request) (b e : OwnerState D) (index : ℕ) : Type 0 where
  pub mid : OwnerState D
  pub retried : Retry (owner_rules layouts (shape_size layouts new.shape new.count)) b true mid
  pub added : OwnerView D
  pub adds : AddsScoped layouts mid.owner added new.blank (shape_size layouts new.shape new.count) index
  pub fills : FillsBy layouts (front_of layouts request new.shape) (ContentsStand ids given) added e.owner adds.word new.blank new.shape new.count
  pub limits : e.limits ≡ mid.limits

-- an owner that is ready, whose store holds a table
pub record IsStart {D : Type 0} (layouts : Layouts) (s : StoreView D) (v : OwnerView D) (t : Table D) (a : Account) : Type 0 where
  pub heap : IsHeap layouts v.heap
  pub can : CanBegin layouts v
  pub in_frames : SlotsInFrames v.roots
  pub holds : HoldsAccount layouts (shown s v) t a

-- room for more roots changes nothing of that
pub reserved_start : {D : Type 0} (layouts : Layouts) (s : StoreView D) (v w : OwnerView D) (t : Table D) (a : Account) → IsStart layouts s v t a → w ≡ record v { roots = with_room w.roots v.roots } → IsStart layouts s w t a
reserved_start {D} layouts s v w t a is same =
    subst (λ (x : OwnerView D). IsStart layouts s x t a) (sym same)
    (record { heap = is.heap; can = is.can; in_frames = is.in_frames; holds = holds_roomy layouts (shown s v) w.roots.spare t a is.holds })

module _ {D : Type 0} (layouts : Layouts) (s : StoreView D) (v : OwnerView D) (request : Place) (given : Contents) (new : IsNew D layouts v.types.declarations request) (limits : Limits) (t : Table D) (a : Account) (is : IsStart layouts s v t a) (asked : Asks layouts (shown s v) t request given new) where
  abbrev before : PolicyState D
  before = policy_state t a limits

  abbrev start : OwnerState D
  start = state_of v limits

  abbrev counted : StoreView D
  counted = counted_store s

  abbrev size : ℕ
  size = shape_size layouts new.shape new.count

  pub shows : Shows layouts counted start (count_try before)
  shows = record {
    holds = counted_holds layouts (shown s v) t a is.holds;
    limits = refl;
    is_heap = is.heap;
    can = is.can;
    in_frames = is.in_frames;
  }

  -- what comes before the first try
  pub begun : (due : Bool) → due ≡ is_due s.alloc_counter (min (s.tries + 1) (2 ^ 64 - 1)) → (b : OwnerState D) → BeginsMaking layouts s.first due start b → FollowsBeginning layouts counted s.alloc_counter b (count_try before)
  begun due due_is b begins = beginning_follows layouts counted start (count_try before) shows s.alloc_counter due (due_is ∙ ap (λ (n : ℕ). is_due s.alloc_counter (min (n + 1) (2 ^ 64 - 1))) is.holds.account.tries) begins.made b begins.begins begins.dues

  -- The object that was added may get its values.
  pub may_fill : (ids : InternedIds) → HaveAllIds ids (raw_side_values (request_values request given)) → (due : Bool) (b : OwnerState D) → BeginsMaking layouts s.first due start b → (e : OwnerState D) (index : ℕ) (made : AllocatesRooted layouts new.blank size b e index)
      → IsToFill layouts e.owner made.adds.word (asked_type request) (ContentsFit ids request given) new.blank new.shape new.count
  may_fill ids have due b begins e index made =
      let keeps : Keeps v made.mid.owner = keeps-trans v b.owner made.mid.owner (keeps-making layouts s.first due start b begins) (keeps-retried layouts size b true made.mid made.retried) in
      let entry : RootEntry = entry_of made.mid.owner.roots.generation made.adds.word in
      let roots_are : handle_roots e.owner.roots ≡ with_more (handle_roots made.mid.owner.roots) entry = ap (λ (x : OwnerView D). handle_roots x.roots) made.adds.rest in
      record {
        is = record {
          held = held_added layouts made.mid.owner.heap e.owner.heap made.adds.word new.blank size made.adds.adds;
          declared =
              ap (λ (x : OwnerView D). shape_at x.types.declarations new.blank.ty) made.adds.rest ∙ ap (λ (ts : TypeTable). shape_at ts.declarations new.blank.ty) keeps.types
              ∙ ap (shape_at v.types.declarations) new.of_type ∙ new.declared;
          has = new.has;
        };
        of_type = new.of_type;
        blank = new.are_blank;
        rising = subst AreOwnedRising (sym (ap (λ (x : OwnerView D). x.roots.owned) made.adds.rest)) (keeps.owned.rising is.holds.holds.owned.rising);
        fit = asked.fit ids (handle_roots e.owner.roots) have (λ r rooted.
            subst (λ (es : HandleRoots). IsRooted es r) (sym roots_are)
            (rooted_more (handle_roots made.mid.owner.roots) entry r (rooted_again (handle_roots v.roots) (handle_roots made.mid.owner.roots) r keeps.generations keeps.owned rooted)));
      }

  -- its function values were interned
  module _ (ids : InternedIds) (interned : InternsAll s.ids ids (raw_side_values (request_values request given))) where
    -- what is given stands for the same values by the roots with the new one
    stand_after : (due : Bool) (b : OwnerState D) → BeginsMaking layouts s.first due start b → (e : OwnerState D) (index : ℕ) (made : Creates layouts v.types.declarations ids request given new b e index) (pages : ℕ) (place : Placing) → Holds layouts (shown counted made.mid.owner) (with_pages pages t) place
        → StandsFor layouts (shown s v) t ids (naming place ids) (handle_roots made.added.roots)
    stand_after due b begins e index made pages place after ty r value can stands =
        let keeps : Keeps v made.mid.owner = keeps-trans v b.owner made.mid.owner (keeps-making layouts s.first due start b begins) (keeps-retried layouts size b true made.mid made.retried) in
        let entries : HandleRoots = handle_roots made.mid.owner.roots in
        let entry : RootEntry = entry_of made.mid.owner.roots.generation made.adds.word in
        let roots_are : handle_roots made.added.roots ≡ with_more entries entry = ap (λ (x : OwnerView D). handle_roots x.roots) made.adds.rest in
        let form = fits-form t.types t.objects ty value (can.fits t value (is.holds.place, is.holds.holds) stands) in
        let rooted : IsRooted entries r = rooted_again (handle_roots v.roots) entries r keeps.generations keeps.owned (is_rooted D layouts (shown s v) r can.live) in
        let now = kept_stands D layouts (shown counted made.mid.owner) (with_pages pages t) place after ids r value (raw_after (shown s v) (shown counted made.mid.owner) t pages refl refl r value stands) in
        record {
          value = value;
          stored_is = refl;
          form = form;
          stands = subst (λ (es : HandleRoots). KeptStands ids (naming place ids) es r value) (sym roots_are) (stands_more ids (naming place ids) entries entry r value rooted now);
          raw_form_is = raw_form_is (shown s v) t r value stands ∙ sym form;
        }

    module _ (o : Object D) (for : AsksFor layouts (shown s v) t request given new.shape new.count o) (same_values : (known : SideValues) → with_side_values (raw_side_values (request_values request given)) known ≡ with_side_values (side_values (object_values o)) known) where
      -- the object that was made stands for the table's
      made_object : (due : Bool) (b : OwnerState D) → BeginsMaking layouts s.first due start b → (e : OwnerState D) (index : ℕ) (made : Creates layouts v.types.declarations ids request given new b e index) (pages : ℕ) (place : Placing) → Holds layouts (shown counted made.mid.owner) (with_pages pages t) place
          → IsMadeObject layouts (intern (object_values o) (with_pages pages t)) (naming place ids) o made.mid.owner.heap e.owner.heap made.adds.word
      made_object due b begins e index made pages place after =
          let word : ℕ = made.adds.word in
          let added = made.adds.adds.added in
          let fills = made.fills in
          let bytes : List ℕ = fills.bytes in
          let has_now : HasHeapShape (record new.blank { bytes = bytes }) new.shape new.count = shape_after layouts request new.shape new.blank bytes new.count new.of_kind fills.rewrites.front new.has in
          record {
            object = record new.blank { bytes = bytes };
            stands = for.stands (naming place ids) (record new.blank { bytes = bytes }) new.of_type has_now (asked_front layouts request new.shape new.blank.bytes bytes fills.rewrites.front) (ap (λ n. struct_base layouts + n) fills.rewrites.same_length ∙ new.stored)
                (fills.lie (naming place ids) (object_values o) (for.contents ids (naming place ids) (handle_roots made.added.roots) (stand_after due b begins e index made pages place after)));
            typed = for.typed;
            free = made.adds.adds.fresh.free;
            is_even = let aligned = made.adds.adds.fresh.aligned in omega arith;
            not_null = made.adds.adds.fresh.not_null;
            here = fills.rewrites.written;
            others = λ q other. fills.rewrites.others q other ∙ ap (λ (h : HeapView). get h.content q) added ∙ get-put_other made.mid.owner.heap.content word q new.blank other;
            attached = fills.rewrites.attached ∙ ap (λ (h : HeapView). h.attached) added;
            capacity = fills.rewrites.capacity ∙ ap (λ (h : HeapView). h.capacity) added;
            allocated = λ null.
                allocated_next layouts made.mid.owner.heap.allocated e.owner.heap.allocated size (fills.rewrites.allocated ∙ ap (λ (h : HeapView). h.allocated) added) null
                ∙ ap (λ k. round_up (made.mid.owner.heap.allocated + 1) alignment + k) (ap (λ k. shape_size k new.shape new.count) null ∙ sym (for.of_size Null));
          }

      -- the owner afterwards
      owner_is : (b e : OwnerState D) (index : ℕ) (made : Creates layouts v.types.declarations ids request given new b e index) → e.owner ≡ record made.mid.owner { heap = e.owner.heap; roots = with_scoped made.adds.word made.mid.owner.roots }
      owner_is b e index made = made.fills.rewrites.rest ∙ ap (λ (x : OwnerView D). record x { heap = e.owner.heap }) made.adds.rest

      module _ (small : too_large layouts size ≡ false) (room : is_full (shown s v) ≡ false) (has_ids : HasIds o t) where
        not_full : roots_full t ≡ false
        not_full = sym (full_is layouts (shown s v) t is.holds.place is.holds.holds) ∙ room

        -- the ids are those of what was interned with the object's
        by : InternedBy t.interned s.ids → InternedBy (with_side_values (side_values (object_values o)) t.interned) ids
        by before = subst (λ (x : SideValues). InternedBy x ids) (same_values t.interned) (held_all s.ids ids (raw_side_values (request_values request given)) t.interned interned before)

        -- the table with the object is held, with its root pushed
        made_holds : (due : Bool) (b : OwnerState D) → BeginsMaking layouts s.first due start b → (e : OwnerState D) (index : ℕ) (made : Creates layouts v.types.declarations ids request given new b e index) (pages : ℕ) (account : Account) → HoldsAccount layouts (shown counted made.mid.owner) (with_pages pages t) account
            → HoldsAccount layouts (with_ids ids (shown counted e.owner)) (make o (with_pages pages t)) (with_held layouts (length t.objects) made.adds.word account)
        made_holds due b begins e index made pages account after =
            let object = made_object due b begins e index made pages after.place after.holds in
            let word : ℕ = made.adds.word in
            subst (λ (x : OwnerView D). HoldsAccount layouts (with_ids ids (shown counted x)) (make o (with_pages pages t)) (with_held layouts (length t.objects) word account)) (sym (owner_is b e index made))
            (record {
              place = placed_at after.place (length t.objects) word;
              holds = holds_make layouts (with_ids ids (shown counted made.mid.owner)) (intern (object_values o) (with_pages pages t)) after.place o e.owner.heap word
                  (holds_interned layouts (shown counted made.mid.owner) (with_pages pages t) after.place (object_values o) ids after.holds (keeps_all s.ids ids (raw_side_values (request_values request given)) interned) (by after.holds.interned)) object for.not_host refl not_full;
              account = record {
                held = held_more after.place account.held (length t.objects) word (λ p w placed. let held = after.holds.objects.placed p w placed in slice_get_within t.objects p held.entry held.in_table) after.account.held;
                places = λ p. told_more layouts account.places after.place (length t.objects) word p (after.account.places p);
                last = after.account.last;
                tries = after.account.tries;
                upper = made.fills.rewrites.needs_gc ∙ ap (λ (h : HeapView). h.needs_gc) made.adds.adds.added ∙ after.account.upper;
              };
            })

        -- An object that was made and has its values is in the table, under the handle of its root; and its heap is made.
        pub placing_follows : (due : Bool) → due ≡ is_due s.alloc_counter (min (s.tries + 1) (2 ^ 64 - 1)) → (b e : OwnerState D) (index : ℕ)
            → BeginsMaking layouts s.first due start b → Creates layouts v.types.declarations ids request given new b e index → (handle : GcRootIndex)
            → handle ≡ record { store_id = record { engine = s.engine; number = s.number }; generation = e.owner.roots.generation; slot = slot.Scoped index }
            → PlacesObject layouts s.alloc_counter o before e.limits handle (with_ids ids (shown counted e.owner))
        placing_follows due due_is b e index begins made handle handle_is =
            let beginning = begun due due_is b begins in
            let retried = retry_follows layouts counted size b beginning.after beginning.agrees true made.mid made.retried in
            let got = got_pages limits.limit (need_of layouts size) t beginning.after.table retried.after.table beginning.may beginning.table
            (subst (λ (l : Limits). MayHaveGrown l.limit (need_of layouts size) beginning.after.table retried.after.table) beginning.limits retried.tried.0) in
            let after : HoldsAccount layouts (shown counted made.mid.owner) (with_pages got.pages t) retried.after.account =
            subst (λ (u : Table D). HoldsAccount layouts (shown counted made.mid.owner) u retried.after.account) got.is retried.agrees.holds in
            let generation_is : e.owner.roots.generation ≡ t.drops = ap (λ (x : OwnerView D). x.roots.generation) (owner_is b e index made) ∙ after.holds.scopes.generation in
            let index_is : index ≡ length t.scoped = made.adds.index_is ∙ after.holds.scoped.same_count in
            let sized : size ≡ object_size layouts t.types o = sym (for.of_size layouts) in
            record {
              small = ap (too_large layouts) (for.of_size layouts) ∙ small;
              not_full = not_full;
              after = retried.after;
              prepares = subst (λ (k : ℕ). Prepares layouts s.alloc_counter k before true retried.after) sized (policy.tried beginning.makes beginning.dues retried.retried);
              allocates = record {
                pages = got.pages;
                gets = subst (λ (k : ℕ). GetsPages limits.limit t (need_of layouts k) got.pages) sized got.gets;
                fits = fits-stay layouts (with_pages got.pages t) a.places retried.after.account.places (object_size layouts t.types o)
                    (stays_on layouts counted s.alloc_counter b (count_try before) beginning retried.after.account.places retried.stay)
                    (subst (FitsIn layouts retried.after.account.places (with_pages got.pages t)) sized (subst (λ (u : Table D). FitsIn layouts retried.after.account.places u size) got.is retried.tried.1));
                made = ap (make o) got.is;
              };
              word = made.adds.word;
              lies = subst (IsPlaceIn layouts retried.after made.adds.word) sized (place_in layouts (shown counted made.mid.owner) retried.after made.adds.word size retried.agrees.holds made.adds.adds.lies);
              holds = subst (λ (u : Table D). HoldsAccount layouts (with_ids ids (shown counted e.owner)) (make o u) (with_held layouts (length t.objects) made.adds.word retried.after.account)) (sym got.is)
                  (made_holds due b begins e index made got.pages retried.after.account after);
              limits = made.limits ∙ sym retried.agrees.limits;
              handle_is = handle_is ∙ (λ i. record {
                store_id = record { engine = s.engine; number = s.number };
                generation = generation_is i;
                slot = slot.Scoped (index_is i);
              });
              has_ids = has_ids;
            }

-- the last entry is the one that was added
last_entry : (entries : List RootEntry) (e d : RootEntry) → slice_index_or (entries ++ e ∷ []) (length entries) d ≡ e
last_entry [] e d = refl
last_entry (x ∷ entries) e d = last_entry entries e d

-- no more roots stand than a store may have
pub few_roots : {D : Type 0} (layouts : Layouts) (s : StoreView D) (v : OwnerView D) (t : Table D) (a : Account) → IsStart layouts s v t a → length v.roots.scoped < 2 ^ 32
few_roots layouts s v t a is =
    omega (arith, is.holds.holds.scoped.same_count, is.holds.holds.scopes.scoped_within, is.holds.holds.settings.few_roots)

-- An owner that made an object is idle as it was, has the types and the frames that it had, and no fewer places for
-- scoped roots.
pub record KeepsRest {D : Type 0} (v w : OwnerView D) : Type 0 where
  pub spare : v.roots.spare + length v.roots.scoped ≤ w.roots.spare + length w.roots.scoped
  pub idle : w.idle ≡ v.idle
  pub types : w.types ≡ v.types
  pub counts : counts_of w ≡ counts_of v

pub made_keeps : {D : Type 0} (layouts : Layouts) (first : ℕ) (due : Bool) (size : ℕ) (o : HeapObject) (s b e : OwnerState D) (index : ℕ) → BeginsMaking layouts first due s b → AllocatesRooted layouts o size b e index → KeepsRest s.owner e.owner
made_keeps {D} layouts first due size o s b e index begins made =
    let keeps : Keeps s.owner made.mid.owner = keeps-trans s.owner b.owner made.mid.owner (keeps-making layouts first due s b begins) (keeps-retried layouts size b true made.mid made.retried) in
    let kept = keeps.spare in
    let count = same_count s.owner made.mid.owner keeps in
    let less = ap (λ (x : OwnerView D). x.roots.spare) made.adds.rest in
    let more = ap (λ (x : OwnerView D). length x.roots.scoped) made.adds.rest ∙ length-append made.mid.owner.roots.scoped (_ ∷ []) in
    record {
      spare = omega (arith, kept, count, less, more);
      idle = ap (λ (x : OwnerView D). x.idle) made.adds.rest ∙ keeps.idle;
      types = ap (λ (x : OwnerView D). x.types) made.adds.rest ∙ keeps.types;
      counts = ap counts_of made.adds.rest ∙ keeps.counts;
    }

-- where the new root stands, and what it is
pub record IsLastRoot {D : Type 0} (e : OwnerView D) (index word : ℕ) : Type 0 where
  pub inside : index < length e.roots.scoped
  pub is : (d : RootEntry) → (slice_index_or e.roots.scoped index d).word ≡ word
  pub not_null : 0 < word

pub last_root : {D : Type 0} (layouts : Layouts) (o : HeapObject) (size : ℕ) (b e : OwnerState D) (index : ℕ) (made : AllocatesRooted layouts o size b e index) → IsLastRoot e.owner index made.adds.word
last_root {D} layouts o size b e index made =
    let entries : List RootEntry = made.mid.owner.roots.scoped in
    let new : RootEntry = entry_of made.mid.owner.roots.generation made.adds.word in
    let scoped_is : e.owner.roots.scoped ≡ entries ++ new ∷ [] = ap (λ (x : OwnerView D). x.roots.scoped) made.adds.rest in
    let index_is : index ≡ length entries = made.adds.index_is in
    record {
      inside = (let count = length-append entries (new ∷ []) in let same = ap (λ (es : List RootEntry). length es) scoped_is in omega arith);
      is = λ d. (λ i. (slice_index_or (scoped_is i) (index_is i) d).word) ∙ ap (λ (x : RootEntry). x.word) (last_entry entries new d);
      not_null = made.adds.adds.fresh.not_null;
    }
