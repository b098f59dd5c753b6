-- A store that was taken out of its place: what its owner's steps are of its collection.
use Rattle.std.proofs.Common.{◌≡◌, ℕ, ◌+◌, ◌<◌, ◌⊎◌, inl, inr, Bool, true, false, List, length, Contains, refl, sym, ap, ◌∙◌, subst, arith}
use Rattle.gc_types.specs.declared.kind.Layouts.{Layouts}
use Rattle.gc_heap.specs.Content.{IsHeap}
use Rattle.gc_heap.specs.Collection.{Start}
use Rattle.gc_owner.specs.declared.entry.OwnedEntry.{OwnedEntry}
use Rattle.gc_owner.specs.RootColumns.{RootsView, AreFrames}
use Rattle.gc_owner.specs.Owners.{OwnerView, OwnerValue, Kind, Trims, Collects, IsGoing, IsOwnerUnderWay, IsEnded, start_of}
use Rattle.gc_model.specs.Stores.{StoreView}
use Rattle.gc_model.proofs.OwnedRoots.{trimmed_held}
use Rattle.gc_values.specs.declared.engine.StoreId.{StoreId}
use Rattle.gc_values.specs.declared.config.HeapConfig.{HeapConfig}
use Rattle.gc_store.specs.Stores.{StoreTables, store_view, IsSoundStore}
use Rattle.gc_store.specs.Suspensions.{SuspendedView, suspended_view, BeganSound, IsSuspended, waits, goes, is_over}
use Rattle.gc_store.specs.Collectings.{IsCollected, IsTrimmedStore, WasStore, IsTrimmedFrom, IsAsked, IsRunning, IsOpen, IsClosed}
use Rattle.gc_model.proofs.CollectedStore.{unmade_kept}
use Rattle.gc_store.proofs.CollectedStores.{sound_collected, kept_collected, store_collected}
use Rattle.gc_store.proofs.Settling.{settled}
use Rattle.gc_store.proofs.OwningRoots.{trimmed_there, sound_trimmed}

-- A store is as it was

-- one that is as it was was collected, where its heap isn't made
pub nothing_collected : {D : Type 0} (layouts : Layouts) (s : StoreView D) → s.heap.attached ≡ false → IsCollected layouts s s
nothing_collected layouts s unmade = record {
  kept = λ t holds. unmade_kept layouts s t unmade holds;
  collects = λ t a limits made holds. absurd (cc (sym made ∙ unmade));
  settled = λ made. absurd (cc (sym made ∙ unmade));
  unmade = λ none. refl;
  same = record { engine = refl; number = refl; counter = refl };
  spare = omega arith;
}

-- and trimmed
nothing_trimmed : {D : Type 0} (layouts : Layouts) (s : StoreView D) → s.heap.attached ≡ false → IsTrimmedStore layouts s s
nothing_trimmed layouts s unmade = record {
  holds = λ t a holds. holds;
  held = λ made e c. absurd (cc (sym made ∙ unmade));
  objects = record { content = refl; attached = refl; capacity = refl; allocated = refl; needs_gc = refl };
  unmade = λ none. refl;
  same = record { engine = refl; number = refl; counter = refl };
  spare = omega arith;
}

module _ {H S D : Type 0} (k : Kind H S) (old : StoreView D) (c : SuspendedView H S D) (asked : IsAsked k old c) where
  -- one whose heap isn't made is over at once
  pub closes_unmade : old.heap.attached ≡ false → c.owner.seen.idle ≡ true → IsClosed k old (record c { begun = true })
  closes_unmade unmade idle = by asked.trimmed
    where
      by : ((old.heap.attached ≡ false) × (c.store ≡ old)) ⊎ IsTrimmedFrom k old c → IsClosed k old (record c { begun = true })
      by (inl (none, same)) = record { begun = refl; idle = idle; collected = subst (IsCollected k.layouts old) (sym same) (nothing_collected k.layouts old unmade) }
      by (inr is) = absurd (cc (sym (ap (λ (s : StoreView D). s.heap.attached) is.was.shows) ∙ is.was.attached, unmade))

module _ {H S D : Type 0} (k : Kind H S) (id : StoreId) (config : HeapConfig) (tables : StoreTables) (tries : ℕ) where
  abbrev pub with_owner : OwnerValue H S D → Bool → SuspendedView H S D
  with_owner v begun = suspended_view id config tables v tries begun

  abbrev pub store_of : OwnerView D → StoreView D
  store_of v = store_view id config tables v tries

  -- A collection is asked for

  -- where the heap isn't made
  asks_unmade : (old : StoreView D) (v w : OwnerValue H S D) → store_of v.seen ≡ old → v.seen.heap.attached ≡ false → w ≡ v → IsAsked k old (with_owner w false)
  asks_unmade old v w shows unmade same = record {
    begun = refl;
    trimmed = inl (ap (λ (s : StoreView D). s.heap.attached) (sym shows) ∙ unmade, ap (λ (x : OwnerValue H S D). store_of x.seen) same ∙ shows);
  }

  asks_made : (old : StoreView D) (v w : OwnerValue H S D) → store_of v.seen ≡ old → AreFrames v.seen.roots.frames (length v.seen.roots.slots) → IsHeap k.layouts v.seen.heap → v.seen.heap.attached ≡ true → Trims k.layouts v.seen w.seen
      → IsAsked k old (with_owner w false)
  asks_made old v w shows in_frames is_heap attached trims = record {
    begun = refl;
    trimmed = inr (record { from = v; was = record { shows = shows; in_frames = in_frames; is_heap = is_heap; attached = attached }; trims = trims });
  }

  pub asks : (old : StoreView D) (v w : OwnerValue H S D) → store_of v.seen ≡ old → AreFrames v.seen.roots.frames (length v.seen.roots.slots) → IsHeap k.layouts v.seen.heap
      → (v.seen.heap.attached ≡ true → Trims k.layouts v.seen w.seen) → (v.seen.heap.attached ≡ false → w ≡ v) → IsAsked k old (with_owner w false)
  asks old v w shows in_frames is_heap made unmade = by v.seen.heap.attached refl
    where
      by : (b : Bool) → v.seen.heap.attached ≡ b → IsAsked k old (with_owner w false)
      by true is = asks_made old v w shows in_frames is_heap is (made is)
      by false is = asks_unmade old v w shows is (unmade is)

  -- and the store may stay out of its place
  pub waits_trimmed : (counts : List ℕ) (v w : OwnerValue H S D) → IsSoundStore D k.layouts counts v.seen (store_of v.seen) → AreFrames v.seen.roots.frames (length v.seen.roots.slots)
      → (v.seen.heap.attached ≡ true → Trims k.layouts v.seen w.seen) → (v.seen.heap.attached ≡ false → w ≡ v) → IsSuspended k counts (with_owner w false)
  waits_trimmed counts v w sound in_frames made unmade = by v.seen.heap.attached refl
    where
      by : (b : Bool) → v.seen.heap.attached ≡ b → IsSuspended k counts (with_owner w false)
      by true is =
          waits refl (sound_trimmed k.layouts id config tables tries v.seen w.seen (made is) counts sound)
          (λ attached. record { from = v; began = record { in_frames = in_frames; attached = is; sound = sound }; trims = made is })
      by false is =
          subst (λ (x : OwnerValue H S D). IsSuspended k counts (with_owner x false)) (sym (unmade is)) (waits refl sound (λ attached. absurd (cc (sym attached ∙ is))))

  -- A collection begins

  -- of a store whose collection wasn't begun no collection is under way
  pub waits_idle : (counts : List ℕ) (c : SuspendedView H S D) → IsSuspended k counts c → c.begun ≡ false → c.owner.seen.idle ≡ true
  waits_idle counts c (waits begun sound trimmed) none = sound.idle
  waits_idle counts c (goes begun is) none = absurd (cc (sym begun ∙ none))
  waits_idle counts c (is_over begun sound) none = sound.idle

  pub begins_unmade : (counts : List ℕ) (v : OwnerValue H S D) → IsSuspended k counts (with_owner v false) → IsSuspended k counts (with_owner v true)
  begins_unmade counts v (waits begun sound trimmed) = is_over refl sound
  begins_unmade counts v (goes begun is) = absurd (cc begun)
  begins_unmade counts v (is_over begun sound) = is_over refl sound

  -- the beginning stays sound, whatever the owner becomes
  pub still_sound : (counts : List ℕ) (v w from : OwnerView D) → BeganSound k.layouts counts (store_of v) from → BeganSound k.layouts counts (store_of w) from
  still_sound counts v w from began = record { in_frames = began.in_frames; attached = began.attached; sound = began.sound }

  pub still_was : (old : StoreView D) (v w from : OwnerView D) → WasStore k.layouts old from (store_of v) → WasStore k.layouts old from (store_of w)
  still_was old v w from was = record { shows = was.shows; in_frames = was.in_frames; is_heap = was.is_heap; attached = was.attached }

  pub begins_made : (counts : List ℕ) (v w : OwnerValue H S D) → IsSuspended k counts (with_owner v false) → v.seen.heap.attached ≡ true → IsGoing k (start_of v.seen) 0 true v w → IsSuspended k counts (with_owner w true)
  begins_made counts v w (waits begun sound trimmed) attached going =
      let is = trimmed attached in
      goes refl (record {
        from = is.from;
        began = still_sound counts v.seen w.seen is.from.seen is.began;
        start = start_of v.seen;
        done = 0;
        counted = true;
        way = record { trimmed = v; trims = is.trims; going = going };
      })
  begins_made counts v w (goes begun is) attached going = absurd (cc begun)
  begins_made counts v w (is_over begun sound) attached going = absurd (cc begun)

  -- the heap is made where that of the store was
  pub asked_attached : (old : StoreView D) (v : OwnerValue H S D) (b : Bool) → IsAsked k old (with_owner v b) → v.seen.heap.attached ≡ old.heap.attached
  asked_attached old v b asked = by asked.trimmed
    where
      by : ((old.heap.attached ≡ false) × (store_of v.seen ≡ old)) ⊎ IsTrimmedFrom k old (with_owner v b) → v.seen.heap.attached ≡ old.heap.attached
      by (inl (none, same)) = ap (λ (s : StoreView D). s.heap.attached) same
      by (inr is) = is.trims.changes.held.attached ∙ ap (λ (s : StoreView D). s.heap.attached) is.was.shows

  pub runs : (old : StoreView D) (v w : OwnerValue H S D) → IsAsked k old (with_owner v false) → old.heap.attached ≡ true → IsGoing k (start_of v.seen) 0 true v w → IsRunning k old 0 true (with_owner w true)
  runs old v w asked attached going = by asked.trimmed
    where
      by : ((old.heap.attached ≡ false) × (store_of v.seen ≡ old)) ⊎ IsTrimmedFrom k old (with_owner v false) → IsRunning k old 0 true (with_owner w true)
      by (inl (unmade, same)) = absurd (cc (sym attached ∙ unmade))
      by (inr is) = record {
        begun = refl;
        from = is.from;
        was = still_was old v.seen w.seen is.from.seen is.was;
        at = start_of v.seen;
        way = record { trimmed = v; trims = is.trims; going = going };
      }

  -- A collection ends

  pub collected_from : (old : StoreView D) (from w : OwnerView D) → WasStore k.layouts old from (store_of w) → Collects k.layouts from w → IsCollected k.layouts old (store_of w)
  collected_from old from w was collects = record {
    kept = kept_collected k.layouts (store_of w) from w was.in_frames was.attached collects old was.shows;
    collects = λ t a limits made. store_collected k.layouts (store_of w) from w was.in_frames was.attached collects old was.shows t a limits;
    settled = λ made. settled k.layouts from w collects id config tables tries was.in_frames;
    unmade = λ none. absurd (cc (sym (ap (λ (s : StoreView D). s.heap.attached) was.shows) ∙ was.attached, none));
    same = record {
      engine = ap (λ (s : StoreView D). s.engine) was.shows;
      number = ap (λ (s : StoreView D). s.number) was.shows;
      counter = ap (λ (s : StoreView D). s.alloc_counter) was.shows;
    };
    spare =
        let there : from.roots.spare ≡ old.spare = ap (λ (s : StoreView D). s.spare) was.shows in
        let here : w.roots.spare ≡ from.roots.spare = ap (λ (r : RootsView). r.spare) collects.runs.roots ∙ ap (λ (x : OwnerView D). x.roots.spare) collects.trims.changes.rest in
        omega (arith, there, here);
  }

  pub closes : (old : StoreView D) (n : ℕ) (counted : Bool) (v w : OwnerValue H S D) (b : Bool) (is : IsRunning k old n counted (with_owner v b)) → IsEnded k.layouts is.from w → w.seen.idle ≡ true → IsClosed k old (with_owner w b)
  closes old n counted v w b is ended idle = record {
    begun = is.begun;
    idle = idle;
    collected = collected_from old is.from.seen w.seen (still_was old v.seen w.seen is.from.seen is.was) ended;
  }

  -- a store that was asked for and not begun was trimmed
  pub trims_asked : (old : StoreView D) (v : OwnerValue H S D) (b : Bool) → IsAsked k old (with_owner v b) → IsTrimmedStore k.layouts old (store_of v.seen)
  trims_asked old v b asked = by asked.trimmed
    where
      by : ((old.heap.attached ≡ false) × (store_of v.seen ≡ old)) ⊎ IsTrimmedFrom k old (with_owner v b) → IsTrimmedStore k.layouts old (store_of v.seen)
      by (inl (unmade, same)) = subst (IsTrimmedStore k.layouts old) (sym same) (nothing_trimmed k.layouts old unmade)
      by (inr is) =
          let rest = is.trims.changes.rest in
          subst (λ (s : StoreView D). IsTrimmedStore k.layouts s (store_of v.seen)) is.was.shows (record {
            holds = λ t a holds.
                let there = trimmed_there k.layouts id config tables tries is.from.seen v.seen is.trims t holds.place a (holds.holds, holds.account) in
                record { place = holds.place; holds = there.0; account = there.1 };
            held = λ made. subst (λ (x : OwnerView D). (e : OwnedEntry) → Contains x.roots.owned e → 0 < e.handles) (sym rest) (trimmed_held is.from.seen.roots.owned);
            objects = is.trims.changes.held;
            unmade = λ none. let made = is.was.attached in absurd (cc);
            same = record { engine = refl; number = refl; counter = refl };
            spare = let here : v.seen.roots.spare ≡ is.from.seen.roots.spare = ap (λ (x : OwnerView D). x.roots.spare) rest in omega (arith, here);
          })

  -- The store stays sound

  pub sound_ended : (counts : List ℕ) (from w : OwnerView D) → BeganSound k.layouts counts (store_of w) from → Collects k.layouts from w → IsSoundStore D k.layouts counts w (store_of w)
  sound_ended counts from w began ended = sound_collected k.layouts (store_of w) from w began.in_frames began.attached ended counts began.sound

  -- after some increments, or all
  pub ends_sound : (counts : List ℕ) (v w : OwnerValue H S D) (b : Bool) → IsSuspended k counts (with_owner v b) → (v.seen.idle ≡ true → w ≡ v)
      → ((s : Start) (n : ℕ) (c : Bool) (from : OwnerValue H S D) → IsOwnerUnderWay k s n c from v → IsEnded k.layouts from w) → IsSoundStore D k.layouts counts w.seen (store_of w.seen)
  ends_sound counts v w b (waits begun sound trimmed) same ended = subst (λ (x : OwnerValue H S D). IsSoundStore D k.layouts counts x.seen (store_of x.seen)) (sym (same sound.idle)) sound
  ends_sound counts v w b (is_over begun sound) same ended = subst (λ (x : OwnerValue H S D). IsSoundStore D k.layouts counts x.seen (store_of x.seen)) (sym (same sound.idle)) sound
  ends_sound counts v w b (goes begun is) same ended =
      sound_ended counts is.from.seen w.seen (still_sound counts v.seen w.seen is.from.seen is.began) (ended is.start is.done is.counted is.from is.way)

  pub ends_suspended : (counts : List ℕ) (v w : OwnerValue H S D) (b : Bool) → IsSuspended k counts (with_owner v b) → (v.seen.idle ≡ true → w ≡ v)
      → ((s : Start) (n : ℕ) (c : Bool) (from : OwnerValue H S D) → IsOwnerUnderWay k s n c from v → IsEnded k.layouts from w) → IsSuspended k counts (with_owner w b)
  ends_suspended counts v w b (waits begun sound trimmed) same ended = subst (λ (x : OwnerValue H S D). IsSuspended k counts (with_owner x b)) (sym (same sound.idle)) (waits begun sound trimmed)
  ends_suspended counts v w b (is_over begun sound) same ended = subst (λ (x : OwnerValue H S D). IsSuspended k counts (with_owner x b)) (sym (same sound.idle)) (is_over begun sound)
  ends_suspended counts v w b (goes begun is) same ended = is_over begun (ends_sound counts v w b (goes begun is) same ended)

  -- It is given back

  pub gives_untouched : (counts : List ℕ) (old : StoreView D) (v w : OwnerValue H S D) (b counted : Bool) → IsSuspended k counts (with_owner v b) → (v.seen.idle ≡ true → w ≡ v) → IsOpen k old 0 counted (with_owner v b) → IsTrimmedStore k.layouts old (store_of w.seen)
  gives_untouched counts old v w b counted is same (inl (none, asked)) =
      subst (λ (x : OwnerValue H S D). IsTrimmedStore k.layouts old (store_of x.seen)) (sym (same (waits_idle counts (with_owner v b) is asked.begun))) (trims_asked old v b asked)
  gives_untouched counts old v w b counted is same (inr (some, running)) = absurd (omega (arith, some))

  pub gives_ended : (old : StoreView D) (done : ℕ) (v w : OwnerValue H S D) (b counted : Bool) → w.seen.idle ≡ true
      → ((s : Start) (n : ℕ) (c : Bool) (from : OwnerValue H S D) → IsOwnerUnderWay k s n c from v → IsEnded k.layouts from w) → IsOpen k old (done + 1) counted (with_owner v b) → IsCollected k.layouts old (store_of w.seen)
  gives_ended old done v w b counted idle ended (inl (none, asked)) = absurd (omega (arith, none))
  gives_ended old done v w b counted idle ended (inr (some, is)) = (closes old (done + 1) counted v w b is (ended is.at (done + 1) counted is.from is.way) idle).collected

  pub gives_closed : (old : StoreView D) (v w : OwnerValue H S D) (b : Bool) → (v.seen.idle ≡ true → w ≡ v) → IsClosed k old (with_owner v b) → IsCollected k.layouts old (store_of w.seen)
  gives_closed old v w b same closed = subst (λ (x : OwnerValue H S D). IsCollected k.layouts old (store_of x.seen)) (sym (same closed.idle)) closed.collected
