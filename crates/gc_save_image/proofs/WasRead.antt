-- A value that is read: one more root stands where it is a reference that isn't null.
use Rattle.std.proofs.Common.{◌≡◌, ℕ, zero, suc, ◌+◌, ◌<◌, List, [], ◌∷◌, length, Some, None, Result, Ok, Err, true, false, sym, ap, ◌∙◌, refl, subst, arith, Contains}
use Rattle.std.specs.List.{slice_get, flat_map}
use Rattle.std.proofs.lemmas.List.Elements.{Contains-append_left, Contains-append_right}
use Rattle.std.proofs.lemmas.Option.{none-some, same_Some, slice_get_within}
use Rattle.gc_types.specs.declared.kind.Layouts.{Layouts}
use Rattle.gc_model.specs.Values.{Reference, null, small, at, Value, numeric, i32, i64, f32, f64, v128, function, continuation, reference, Object}
use Rattle.gc_model.specs.Reach.{object_values, value_references, by_step}
use Rattle.gc_model.specs.Reads.{after_read, makes_root}
use Rattle.gc_model.specs.Table.{Table, push}
use Rattle.gc_model.specs.Live.{roots_full}
use Rattle.gc_model.specs.Stores.{StoreView}
use Rattle.gc_model.specs.Holds.{HoldsTable}
use Rattle.gc_model.specs.Accounts.{HoldsAccount}
use Rattle.gc_values.specs.declared.root.GcRootIndex.{GcRootIndex}
use Rattle.gc_values.specs.declared.root.RawValue.{RawValue}
use Rattle.gc_values.specs.declared.root.RawValue.TheVariants as raw
use Rattle.gc_values.specs.declared.root.RootFault.{RootFault}
use Rattle.gc_values.specs.declared.root.RootFault.TheVariants as fault
use Rattle.gc_store.specs.OwnedWords.{HoldsThere}
use Rattle.gc_store.specs.Roots.{NamesReference, HasValue, CanRead, handle_of}
use Rattle.gc_store.specs.Stores.{IsSameStore}
use Rattle.gc_store.specs.Values.{ReadsValue, IsLive, NamesLive, RawStands}
use Rattle.gc_paths.specs.Answers.{LacksRoots}
use Rattle.gc_paths.specs.Progress.{Basis, Grown, StoppedSearch, present_in_value}
use Rattle.gc_paths.proofs.Growing.{grown_push, grown_objects, full_lacks, free_drops, named_pushed, named_same, new_named}
use Rattle.gc_save_image.specs.declared.collect_fault.CollectFault.{CollectFault}
use Rattle.gc_save_image.specs.declared.collect_fault.CollectFault.TheVariants as collect
use Rattle.gc_save_image.specs.Parts.{FoundHandles}
use Rattle.gc_save_image.specs.Progress.{ImageProgress, AnswersImagePart}
use Rattle.gc_save_image.specs.Steps.{IsNumberedObject, CanTakeObjectLine, LeadsOn, collect_fault}

pub values_among : (vs : List Value) (i : ℕ) (v : Value) (r : Reference) → slice_get vs i ≡ Some v → Contains (value_references v) r → Contains (flat_map value_references vs) r
values_among [] i v r e c = absurd (none-some v e)
values_among (w ∷ vs) zero v r e c = Contains-append_left (value_references w) (flat_map value_references vs) r (subst (λ (x : Value). Contains (value_references x) r) (sym (same_Some w v e)) c)
values_among (w ∷ vs) (suc i) v r e c = Contains-append_right (value_references w) (flat_map value_references vs) r (values_among vs i v r e c)

-- a value that is live in a table
raw_live_in : {D : Type 0} (layouts : Layouts) (s : StoreView D) (t : Table D) (hold : HoldsTable layouts s t) (v : Value) (r : RawValue) → RawStands s t r v → NamesLive D layouts s r
raw_live_in layouts s t hold v (raw.I32 n) stands = tt
raw_live_in layouts s t hold v (raw.I64 n) stands = tt
raw_live_in layouts s t hold v (raw.F32 n) stands = tt
raw_live_in layouts s t hold v (raw.F64 n) stands = tt
raw_live_in layouts s t hold v (raw.V128 n) stands = tt
raw_live_in layouts s t hold v (raw.Func f) stands = tt
raw_live_in layouts s t hold v (raw.Cont cont) stands = tt
raw_live_in layouts s t hold v (raw.Ref class None) stands = tt
raw_live_in layouts s t hold v (raw.Ref class (Some h)) stands = record { table = t; holds = hold; root = stands.root; named = stands.named }

module _ {D : Type 0} (layouts : Layouts) (b : Basis D) (told : List ℕ) (count : ℕ) (s : StoreView D) (f : FoundHandles) (progress : ImageProgress layouts b told count s f) where
  abbrev now : Table D
  now = progress.holds.now

  pub held : HoldsAccount layouts s now b.account
  held = record { place = b.place; holds = progress.holds.there.0; account = progress.holds.there.1 }

  pub raw_live : (v : Value) (r : RawValue) → RawStands s now r v → NamesLive D layouts s r
  raw_live v r stands = raw_live_in layouts s now (b.place, progress.holds.there.0) v r stands

  module _ (new : StoreView D) (same : IsSameStore s new) where
    -- one more root stands
    abbrev pub progress_pushed : (q : Reference) → roots_full now ≡ false → HoldsThere layouts new (push q now) b.place b.account → ImageProgress layouts b told (count + 1) new f
    progress_pushed q free there = record {
      holds = record { now = push q now; grown = grown_push b.table now count q progress.holds.grown (free_drops b.table now count progress.holds.grown free); there = there };
      lists = record {
        same_count = progress.lists.same_count;
        named = λ n p h at_told at_handles. named_pushed s new same now q h (at p) (progress.lists.named n p h at_told at_handles);
        has = progress.lists.has;
        only = progress.lists.only;
      };
      distinct = progress.distinct;
      reached = progress.reached;
    }

    -- or none more
    abbrev pub progress_moved : (count' : ℕ) → count ≡ count' → HoldsThere layouts new now b.place b.account → ImageProgress layouts b told count' new f
    progress_moved count' is there = record {
      holds = record { now = now; grown = subst (Grown b.table now) is progress.holds.grown; there = there };
      lists = record {
        same_count = progress.lists.same_count;
        named = λ n p h at_told at_handles. named_same s new same now h (at p) (progress.lists.named n p h at_told at_handles);
        has = progress.lists.has;
        only = progress.lists.only;
      };
      distinct = progress.distinct;
      reached = progress.reached;
    }

  -- what the values of an object with a number name is reached
  pub leads_on : (number : ℕ) (o : Object D) (reading : IsNumberedObject b told number o) (index : ℕ) (v : Value) → slice_get (object_values o) index ≡ Some v → LeadsOn b v
  leads_on number o reading index v value_at p c =
      by_step (progress.reached number reading.position reading.there) (record { object = o; there = reading.object_is; among = values_among (object_values o) index v (at p) value_at c })

  module _ (number : ℕ) (o : Object D) (reading : IsNumberedObject b told number o) (h : GcRootIndex) (at_h : slice_get f.handles number ≡ Some h) where
    pub names_one : NamesReference s now h (at reading.position)
    names_one = progress.lists.named number reading.position h reading.there at_h

    pub object_here : slice_get now.objects reading.position ≡ Some o
    object_here = ap (λ os. slice_get os reading.position) (grown_objects b.table now count progress.holds.grown) ∙ reading.object_is

    module _ (index : ℕ) (v : Value) (value_at : slice_get (object_values o) index ≡ Some v) where
      pub has_value : HasValue s now h index v
      has_value = record { position = reading.position; named = names_one; object = o; object_is = object_here; value_at = value_at }

      pub reads_one : CanRead D layouts s h index
      reads_one = record { table = now; holds = (b.place, progress.holds.there.0); value = v; has = has_value }

-- a value that was read
pub record Read {D : Type 0} (layouts : Layouts) (b : Basis D) (told : List ℕ) (count : ℕ) (s : StoreView D) (f : FoundHandles) (r : RawValue) (v : Value) : Type 0 where
  pub progress : ImageProgress layouts b told count s f
  pub stands : RawStands s progress.holds.now r v

module _ {D : Type 0} (layouts : Layouts) (b : Basis D) (told : List ℕ) (count : ℕ) (s : StoreView D) (f : FoundHandles) (progress : ImageProgress layouts b told count s f) (new : StoreView D) (same : IsSameStore s new) where
  abbrev table : Table D
  table = progress.holds.now

  -- no root was pushed
  plain_read : (v : Value) → present_in_value v ≡ 0 → (r : RawValue) → RawStands new table r v → HoldsThere layouts new table b.place b.account → Read layouts b told (count + present_in_value v) new f r v
  plain_read v none r stands there = record {
    progress = progress_moved layouts b told count s f progress new same (count + present_in_value v) (omega (arith, none)) there;
    stands = stands;
  }

  pub was_read : (v : Value) (r : RawValue) → ReadsValue layouts table b.account v (Ok r) new → HoldsThere layouts new (after_read v table) b.place b.account → Read layouts b told (count + present_in_value v) new f r v
  was_read (numeric i32 n) r reads there = plain_read (numeric i32 n) refl r (subst (λ (x : RawValue). RawStands new table x (numeric i32 n)) (sym reads.1.0.1.0) (ap (numeric i32) reads.1.0.1.1)) there
  was_read (numeric i64 n) r reads there = plain_read (numeric i64 n) refl r (subst (λ (x : RawValue). RawStands new table x (numeric i64 n)) (sym reads.1.0.1.0) (ap (numeric i64) reads.1.0.1.1)) there
  was_read (numeric f32 n) r reads there = plain_read (numeric f32 n) refl r (subst (λ (x : RawValue). RawStands new table x (numeric f32 n)) (sym reads.1.0) refl) there
  was_read (numeric f64 n) r reads there = plain_read (numeric f64 n) refl r (subst (λ (x : RawValue). RawStands new table x (numeric f64 n)) (sym reads.1.0) refl) there
  was_read (numeric v128 n) r reads there = plain_read (numeric v128 n) refl r (subst (λ (x : RawValue). RawStands new table x (numeric v128 n)) (sym reads.1.0) refl) there
  was_read (function g) r reads there = plain_read (function g) refl r (subst (λ (x : RawValue). RawStands new table x (function g)) (sym reads.1.0) refl) there
  was_read (continuation cont) r reads there = plain_read (continuation cont) refl r (subst (λ (x : RawValue). RawStands new table x (continuation cont)) (sym reads.1.0) refl) there
  was_read (reference class null) r reads there = plain_read (reference class null) refl r (subst (λ (x : RawValue). RawStands new table x (reference class null)) (sym reads.1.0) refl) there
  was_read (reference class (small n)) r reads there = record {
    progress = progress_pushed layouts b told count s f progress new same (small n) (reads.0 refl) there;
    stands = subst (λ (x : RawValue). RawStands new (push (small n) table) x (reference class (small n))) (sym reads.1.0)
        (record { root = small n; named = new_named layouts s table b.place progress.holds.there.0 new (small n) (handle_of new (length table.scoped) table.drops) refl; is = refl });
  }
  was_read (reference class (at q)) r reads there = record {
    progress = progress_pushed layouts b told count s f progress new same (at q) (reads.0 refl) there;
    stands = subst (λ (x : RawValue). RawStands new (push (at q) table) x (reference class (at q))) (sym reads.1.0)
        (record { root = at q; named = new_named layouts s table b.place progress.holds.there.0 new (at q) (handle_of new (length table.scoped) table.drops) refl; is = refl });
  }

  makes_count : (v : Value) → makes_root v ≡ true → 1 ≡ present_in_value v
  makes_count (numeric kind n) e = absurd (cc)
  makes_count (function f) e = absurd (cc)
  makes_count (continuation cont) e = absurd (cc)
  makes_count (reference class null) e = absurd (cc)
  makes_count (reference class (small n)) e = refl
  makes_count (reference class (at p)) e = refl

  -- or none was read
  pub read_refused : {X : Type 0} (v : Value) (why : RootFault) (Went : X → Type 0) → ReadsValue layouts table b.account v (Err why) new → new ≡ s → AnswersImagePart layouts b Went (LacksRoots b.table (count + present_in_value v)) (Err (collect_fault why)) new
  read_refused v fault.WrongStore Went never is = absurd never
  read_refused v fault.Unrooted Went never is = absurd never
  read_refused v fault.RootsFull Went full is = (
    subst (λ (n : ℕ). LacksRoots b.table (count + n)) (makes_count v full.0) (full_lacks b.table table count progress.holds.grown full.1.0),
    subst (StoppedSearch layouts b) (sym is) (count, progress.holds),
  )
  read_refused v fault.Memory Went memory is = subst (StoppedSearch layouts b) (sym is) (count, progress.holds)

-- a part that can't be refused for want of room
pub never_full : {D X : Type 0} (layouts : Layouts) (b : Basis D) (s : StoreView D) (Went : X → Type 0) (Full : Type 0) (result : Result X CollectFault) → AnswersImagePart layouts b Went ⊥ result s → AnswersImagePart layouts b Went Full result s
never_full layouts b s Went Full (Ok x) went = went
never_full layouts b s Went Full (Err collect.RootsFull) full = absurd full.0
never_full layouts b s Went Full (Err collect.Memory) stopped = stopped

-- an object with a number has a handle
module _ {D : Type 0} (layouts : Layouts) (s : StoreView D) (f : FoundHandles) (number : ℕ) where
  pub take_inside : CanTakeObjectLine D layouts s f number → number < length f.handles
  take_inside can =
      let inside = slice_get_within can.told number can.reading.position can.reading.there in
      let counts = can.progress.lists.same_count in
      omega (arith, inside, counts)

  pub take_live : (can : CanTakeObjectLine D layouts s f number) (h : GcRootIndex) → slice_get f.handles number ≡ Some h → IsLive D layouts s h
  take_live can h at_h = record {
    table = can.progress.holds.now;
    holds = (can.basis.place, can.progress.holds.there.0);
    root = at can.reading.position;
    named = can.progress.lists.named number can.reading.position h can.reading.there at_h;
  }
