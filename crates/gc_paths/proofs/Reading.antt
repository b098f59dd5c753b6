-- A value that is read: the search goes on with what it names.
use Rattle.std.proofs.Common.{◌≡◌, ℕ, ◌+◌, ◌<◌, ◌≤◌, suc, List, length, Some, None, Result, Ok, Err, true, false, sym, ap, ◌∙◌, refl, subst, arith, Contains}
use Rattle.std.specs.List.{slice_get}
use Rattle.std.proofs.lemmas.Option.{none-some, same_Some, slice_get_within}
use Rattle.gc_memory.proofs.ListLemmas.{only_item}
use Rattle.gc_types.specs.declared.kind.Layouts.{Layouts}
use Rattle.gc_owner.specs.declared.entry.GcClass.{GcClass}
use Rattle.gc_model.specs.Values.{Reference, null, small, at, Value, numeric, i32, i64, f32, f64, v128, function, continuation, reference, Object}
use Rattle.gc_model.specs.Reach.{object_values, value_references}
use Rattle.gc_model.specs.Reads.{after_read, makes_root}
use Rattle.gc_model.specs.Table.{Table, push}
use Rattle.gc_model.specs.Live.{roots_full}
use Rattle.gc_model.specs.Words.{Placing}
use Rattle.gc_model.specs.Stores.{StoreView}
use Rattle.gc_model.specs.Holds.{Holds}
use Rattle.gc_model.specs.Accounts.{HoldsAccount}
use Rattle.gc_values.specs.declared.root.GcRootIndex.{GcRootIndex}
use Rattle.gc_values.specs.declared.root.RawValue.{RawValue}
use Rattle.gc_values.specs.declared.root.RawValue.TheVariants as raw
use Rattle.gc_values.specs.declared.root.RootFault.{RootFault}
use Rattle.gc_values.specs.declared.root.RootFault.TheVariants as fault
use Rattle.gc_store.specs.OwnedWords.{HoldsThere}
use Rattle.gc_store.specs.Roots.{NamesReference, HasValue, CanRead, handle_of}
use Rattle.gc_store.specs.Stores.{IsSameStore}
use Rattle.gc_store.specs.Values.{ReadsValue, IsLive}
use Rattle.gc_values.specs.RawValues.{raw_handle}
use Rattle.gc_paths.specs.declared.entry.PathParent.{PathParent}
use Rattle.gc_paths.specs.declared.entry.PathParent.TheVariants as parent
use Rattle.gc_paths.specs.declared.fault.PathFault.{PathFault}
use Rattle.gc_paths.specs.declared.fault.PathFault.TheVariants as path_fault
use Rattle.gc_paths.specs.Walks.{ValueNames, Walk, from_object}
use Rattle.gc_paths.specs.Reports.{Told}
use Rattle.gc_paths.specs.Answers.{LacksRoots}
use Rattle.gc_paths.specs.Faults.{search_fault}
use Rattle.gc_paths.specs.Parts.{Parts}
use Rattle.gc_paths.specs.Taking.{TakesReference}
use Rattle.gc_paths.specs.Progress.{Basis, Progress, SearchGoesOn, StoppedSearch, AnswersPart, TellsValue, present_in_value, IsToldBy}
use Rattle.gc_paths.specs.Steps.{IsReading, CanTake}
use Rattle.gc_paths.proofs.Growing.{grown_push, grown_objects, full_lacks, free_drops, named_pushed, named_same, new_named}
use Rattle.gc_paths.proofs.Taken.{keeps_itself, object_taken, number_taken}

-- the search stops where memory is wanting
pub stopped_by : {D : Type 0} (layouts : Layouts) (b : Basis D) (Went Full : Type 0) (why : PathFault) (s : StoreView D) → why ≡ path_fault.Memory → StoppedSearch layouts b s → AnswersPart layouts b Went Full (Err why) s
stopped_by layouts b Went Full why s is stopped = subst (λ (w : PathFault). AnswersPart layouts b Went Full (Err w) s) (sym is) stopped

module _ {D : Type 0} (layouts : Layouts) (b : Basis D) (told : List Told) (bound count : ℕ) (s : StoreView D) (old : Parts) (progress : Progress layouts b told bound count s old) where
  abbrev now : Table D
  now = progress.holds.now

  pub held : HoldsAccount layouts s now b.account
  held = record { place = b.place; holds = progress.holds.there.0; account = progress.holds.there.1 }

  pub stops : StoppedSearch layouts b s
  stops = (count, progress.holds)

  module _ (new : StoreView D) (same : IsSameStore s new) where
    -- one more root stands
    abbrev pub progress_pushed : (q : Reference) → roots_full now ≡ false → HoldsThere layouts new (push q now) b.place b.account → Progress layouts b told bound (count + 1) new old
    progress_pushed q free there = record {
      holds = record { now = push q now; grown = grown_push b.table now count q progress.holds.grown (free_drops b.table now count progress.holds.grown free); there = there };
      lists = record {
        entries_are = progress.lists.entries_are;
        same_count = progress.lists.same_count;
        named = λ i x h at_told at_handles. named_pushed s new same now q h (at x.position) (progress.lists.named i x h at_told at_handles);
        known = progress.lists.known;
      };
      tells = progress.tells;
      few = let before = progress.few in omega (arith, before);
    }

    -- or none more
    abbrev pub progress_moved : HoldsThere layouts new now b.place b.account → Progress layouts b told bound count new old
    progress_moved there = record {
      holds = record { now = now; grown = progress.holds.grown; there = there };
      lists = record {
        entries_are = progress.lists.entries_are;
        same_count = progress.lists.same_count;
        named = λ i x h at_told at_handles. named_same s new same now h (at x.position) (progress.lists.named i x h at_told at_handles);
        known = progress.lists.known;
      };
      tells = progress.tells;
      few = progress.few;
    }

  module _ (number : ℕ) (o : Object D) (reading : IsReading b told bound number o) (h : GcRootIndex) (at_h : slice_get old.handles number ≡ Some h) where
    pub names_one : NamesReference s now h (at reading.one.position)
    names_one = progress.lists.named number reading.one h reading.there at_h

    pub object_here : slice_get now.objects reading.one.position ≡ Some o
    object_here = ap (λ os. slice_get os reading.one.position) (grown_objects b.table now count progress.holds.grown) ∙ reading.object_is

    module _ (index : ℕ) (v : Value) (value_at : slice_get (object_values o) index ≡ Some v) where
      pub has_value : HasValue s now h index v
      has_value = record { position = reading.one.position; named = names_one; object = o; object_is = object_here; value_at = value_at }

      pub reads_one : CanRead D layouts s h index
      reads_one = record { table = now; holds = (b.place, progress.holds.there.0); value = v; has = has_value }

      module _ (new : StoreView D) (same : IsSameStore s new) where
        -- nothing more is told
        nothing_named : (count' : ℕ) → count ≡ count' → HoldsThere layouts new now b.place b.account → ((p : ℕ) → Contains (value_references v) (at p) → ⊥) → SearchGoesOn layouts b told bound count' new old (TellsValue bound v)
        nothing_named count' is there none = record {
          told = told;
          kept = keeps_itself told;
          progress = subst (λ (n : ℕ). Progress layouts b told bound n new old) is (progress_moved new same there);
          done = λ p c. absurd (none p c);
        }

        below : number < length told
        below = slice_get_within told number reading.one reading.there

        low : bound ≤ length told
        low = let next = reading.next in let short = progress.tells.short number reading.one reading.there in let inside = below in omega (arith, next, short, inside)

        value_names : (class : GcClass) (p : ℕ) → v ≡ reference class (at p) → ValueNames b.table.objects reading.one.position index p
        value_names class p is = record { object = o; there = reading.object_is; class = class; value = value_at ∙ ap Some is }

        walk_on : (class : GcClass) (p : ℕ) → v ≡ reference class (at p) → Walk b.scoped b.table bound p
        walk_on class p is =
            let next = reading.next in
            let longer : suc reading.one.entry.length ≡ bound = omega (arith, next) in
            subst (λ (n : ℕ). Walk b.scoped b.table n p) longer (from_object index (progress.tells.walks number reading.one reading.there) (value_names class p is))

        module _ (found : GcRootIndex) (after : Parts) where
          abbrev from : PathParent
          from = parent.FromEntry number index

          module _ (result : Result (Unit {0}) PathFault) (free : roots_full now ≡ false) (is_new : found ≡ handle_of new (length now.scoped) now.drops) (takes : (t : Table D) (place : Placing) (q : Reference) → Holds layouts new t place → NamesReference new t found q → TakesReference place q found from bound old after result) where
            module _ (class : GcClass) (p : ℕ) (is : v ≡ reference class (at p)) (there : HoldsThere layouts new (push (at p) now) b.place b.account) where
              names_new : NamesReference new (push (at p) now) found (at p)
              names_new = new_named layouts s now b.place progress.holds.there.0 new (at p) found is_new

              takes_object : (r : Result (Unit {0}) PathFault) → TakesReference b.place (at p) found from bound old after r
                  → AnswersPart layouts b (SearchGoesOn layouts b told bound (count + 1) new after (λ then. IsToldBy then p bound)) (LacksRoots b.table (count + 1)) r new
              takes_object (Ok done) taken =
                  object_taken layouts b told bound (count + 1) new old (progress_pushed new same (at p) free there) p found from names_new
                  (record { earlier = below; holder = reading.one; there = reading.there; shorter = reading.next; names = value_names class p is })
                  (walk_on class p is) low (let few = progress.few in omega (arith, few)) taken.0 after taken.1.0 taken.1.1
              takes_object (Err why) taken = stopped_by layouts b (SearchGoesOn layouts b told bound (count + 1) new after (λ then. IsToldBy then p bound)) (LacksRoots b.table (count + 1)) why new taken (count + 1, (progress_pushed new same (at p) free there).holds)

              pub object_read : AnswersPart layouts b (SearchGoesOn layouts b told bound (count + 1) new after (λ then. IsToldBy then p bound)) (LacksRoots b.table (count + 1)) result new
              object_read = takes_object result (takes (push (at p) now) b.place (at p) there.0 names_new)

            module _ (class : GcClass) (n : ℕ) (there : HoldsThere layouts new (push (small n) now) b.place b.account) where
              takes_number : (r : Result (Unit {0}) PathFault) → TakesReference b.place (small n) found from bound old after r
                  → AnswersPart layouts b (SearchGoesOn layouts b told bound (count + 1) new after (λ then. Unit {0})) (LacksRoots b.table (count + 1)) r new
              takes_number (Ok done) taken = number_taken layouts b told bound (count + 1) new old (progress_pushed new same (small n) free there) after (λ then. Unit {0}) taken tt
              takes_number (Err why) taken = stopped_by layouts b (SearchGoesOn layouts b told bound (count + 1) new after (λ then. Unit {0})) (LacksRoots b.table (count + 1)) why new taken (count + 1, (progress_pushed new same (small n) free there).holds)

              pub number_read : AnswersPart layouts b (SearchGoesOn layouts b told bound (count + 1) new after (λ then. Unit {0})) (LacksRoots b.table (count + 1)) result new
              number_read = takes_number result (takes (push (small n) now) b.place (small n) there.0 (new_named layouts s now b.place progress.holds.there.0 new (small n) found is_new))

-- what is done is more than was asked for
pub answers_more : {D : Type 0} (layouts : Layouts) (b : Basis D) (told : List Told) (bound count : ℕ) (s : StoreView D) (r : Parts) (Done More : List Told → Type 0) (Full : Type 0) (result : Result (Unit {0}) PathFault) → ((now : List Told) → Done now → More now)
    → AnswersPart layouts b (SearchGoesOn layouts b told bound count s r Done) Full result s → AnswersPart layouts b (SearchGoesOn layouts b told bound count s r More) Full result s
answers_more layouts b told bound count s r Done More Full (Ok x) more goes = record { told = goes.told; kept = goes.kept; progress = goes.progress; done = more goes.told goes.done }
answers_more layouts b told bound count s r Done More Full (Err path_fault.WrongStore) more never = never
answers_more layouts b told bound count s r Done More Full (Err path_fault.Unrooted) more never = never
answers_more layouts b told bound count s r Done More Full (Err path_fault.NoObject) more never = never
answers_more layouts b told bound count s r Done More Full (Err path_fault.RootsFull) more full = full
answers_more layouts b told bound count s r Done More Full (Err path_fault.Memory) more stopped = stopped

handle_is : (r : RawValue) (class : GcClass) (h found : GcRootIndex) → r ≡ raw.Ref class (Some h) → raw_handle r ≡ Some found → found ≡ h
handle_is r class h found is some = same_Some found h (sym some ∙ ap raw_handle is)

no_handle : (r q : RawValue) (found : GcRootIndex) → r ≡ q → raw_handle q ≡ None → raw_handle r ≡ Some found → ⊥
no_handle r q found is none some = none-some found (sym (ap raw_handle is ∙ none) ∙ some)

module _ {D : Type 0} (layouts : Layouts) (b : Basis D) (told : List Told) (bound count : ℕ) (s : StoreView D) (old : Parts) (progress : Progress layouts b told bound count s old) (number : ℕ) (o : Object D) (reading : IsReading b told bound number o) (h : GcRootIndex) (at_h : slice_get old.handles number ≡ Some h) (index : ℕ) (new : StoreView D) (same : IsSameStore s new) where
  abbrev table : Table D
  table = progress.holds.now

  -- a reference was read, and taken
  pub read_taken : (v : Value) → slice_get (object_values o) index ≡ Some v → (r : RawValue) → ReadsValue layouts table b.account v (Ok r) new → HoldsThere layouts new (after_read v table) b.place b.account
      → (found : GcRootIndex) → raw_handle r ≡ Some found → (after : Parts) (result : Result (Unit {0}) PathFault)
      → ((t : Table D) (place : Placing) (q : Reference) → Holds layouts new t place → NamesReference new t found q → TakesReference place q found (parent.FromEntry number index) bound old after result)
      → AnswersPart layouts b (SearchGoesOn layouts b told bound (count + present_in_value v) new after (TellsValue bound v)) (LacksRoots b.table (count + present_in_value v)) result new
  read_taken (numeric i32 n) value_at r reads there found some after result takes = absurd (no_handle r (raw.I32 reads.1.0.0) found reads.1.0.1.0 refl some)
  read_taken (numeric i64 n) value_at r reads there found some after result takes = absurd (no_handle r (raw.I64 reads.1.0.0) found reads.1.0.1.0 refl some)
  read_taken (numeric f32 n) value_at r reads there found some after result takes = absurd (no_handle r (raw.F32 n) found reads.1.0 refl some)
  read_taken (numeric f64 n) value_at r reads there found some after result takes = absurd (no_handle r (raw.F64 n) found reads.1.0 refl some)
  read_taken (numeric v128 n) value_at r reads there found some after result takes = absurd (no_handle r (raw.V128 n) found reads.1.0 refl some)
  read_taken (function f) value_at r reads there found some after result takes = absurd (no_handle r (raw.Func f) found reads.1.0 refl some)
  read_taken (continuation cont) value_at r reads there found some after result takes = absurd (no_handle r (raw.Cont cont) found reads.1.0 refl some)
  read_taken (reference class null) value_at r reads there found some after result takes = absurd (no_handle r (raw.Ref class None) found reads.1.0 refl some)
  read_taken (reference class (small n)) value_at r reads there found some after result takes =
      answers_more layouts b told bound (count + 1) new after (λ then. Unit {0}) (TellsValue bound (reference class (small n))) (LacksRoots b.table (count + 1)) result
      (λ then _ p c. absurd (differ p (only_item (small n) (at p) c)))
      (number_read layouts b told bound count s old progress number o reading h at_h index (reference class (small n)) value_at new same found after result (reads.0 refl) (handle_is r class (handle_of new (length table.scoped) table.drops) found reads.1.0 some) takes class n there)
    where
      differ : (p : ℕ) → small n ≡ at p → ⊥
      differ p e = cc
  read_taken (reference class (at q)) value_at r reads there found some after result takes =
      answers_more layouts b told bound (count + 1) new after (λ then. IsToldBy then q bound) (TellsValue bound (reference class (at q))) (LacksRoots b.table (count + 1)) result
      (λ then by p c. subst (λ (x : ℕ). IsToldBy then x bound) (same_at p (only_item (at q) (at p) c)) by)
      (object_read layouts b told bound count s old progress number o reading h at_h index (reference class (at q)) value_at new same found after result (reads.0 refl) (handle_is r class (handle_of new (length table.scoped) table.drops) found reads.1.0 some) takes class q refl there)
    where
      same_at : (p : ℕ) → at q ≡ at p → q ≡ p
      same_at p e = grind (arith, e)

  -- a value was read that is no reference, or null
  pub read_passed : (v : Value) → slice_get (object_values o) index ≡ Some v → (r : RawValue) → ReadsValue layouts table b.account v (Ok r) new → HoldsThere layouts new (after_read v table) b.place b.account → raw_handle r ≡ None
      → SearchGoesOn layouts b told bound (count + present_in_value v) new old (TellsValue bound v)
  read_passed (numeric kind n) value_at r reads there none = nothing_named layouts b told bound count s old progress number o reading h at_h index (numeric kind n) value_at new same (count + 0) (omega arith) there (λ p c. absurd (let inside = c.1 in omega (arith, inside)))
  read_passed (function f) value_at r reads there none = nothing_named layouts b told bound count s old progress number o reading h at_h index (function f) value_at new same (count + 0) (omega arith) there (λ p c. absurd (let inside = c.1 in omega (arith, inside)))
  read_passed (continuation cont) value_at r reads there none = nothing_named layouts b told bound count s old progress number o reading h at_h index (continuation cont) value_at new same (count + 0) (omega arith) there (λ p c. absurd (let inside = c.1 in omega (arith, inside)))
  read_passed (reference class null) value_at r reads there none = nothing_named layouts b told bound count s old progress number o reading h at_h index (reference class null) value_at new same (count + 0) (omega arith) there (λ p c. differ p (only_item null (at p) c))
    where
      differ : (p : ℕ) → null ≡ at p → ⊥
      differ p e = cc
  read_passed (reference class (small n)) value_at r reads there none = absurd (none-some _ (sym none ∙ ap raw_handle reads.1.0))
  read_passed (reference class (at q)) value_at r reads there none = absurd (none-some _ (sym none ∙ ap raw_handle reads.1.0))

  makes_count : (v : Value) → makes_root v ≡ true → 1 ≡ present_in_value v
  makes_count (numeric kind n) e = absurd (cc)
  makes_count (function f) e = absurd (cc)
  makes_count (continuation cont) e = absurd (cc)
  makes_count (reference class null) e = absurd (cc)
  makes_count (reference class (small n)) e = refl
  makes_count (reference class (at p)) e = refl

  -- or none was read
  pub read_refused : (v : Value) (why : RootFault) (Went : Type 0) → ReadsValue layouts table b.account v (Err why) new → new ≡ s → AnswersPart layouts b Went (LacksRoots b.table (count + present_in_value v)) (Err (search_fault why)) new
  read_refused v fault.WrongStore Went never is = absurd never
  read_refused v fault.Unrooted Went never is = absurd never
  read_refused v fault.RootsFull Went full is = (
    subst (λ (n : ℕ). LacksRoots b.table (count + n)) (makes_count v full.0) (full_lacks b.table table count progress.holds.grown full.1.0),
    subst (StoppedSearch layouts b) (sym is) (count, progress.holds),
  )
  read_refused v fault.Memory Went memory is = subst (StoppedSearch layouts b) (sym is) (count, progress.holds)

  -- the root of a reference that was read is live
  pub read_live : (v : Value) → slice_get (object_values o) index ≡ Some v → (r : RawValue) → ReadsValue layouts table b.account v (Ok r) new → HoldsThere layouts new (after_read v table) b.place b.account
      → (found : GcRootIndex) → raw_handle r ≡ Some found → IsLive D layouts new found
  read_live (numeric i32 n) value_at r reads there found some = absurd (no_handle r (raw.I32 reads.1.0.0) found reads.1.0.1.0 refl some)
  read_live (numeric i64 n) value_at r reads there found some = absurd (no_handle r (raw.I64 reads.1.0.0) found reads.1.0.1.0 refl some)
  read_live (numeric f32 n) value_at r reads there found some = absurd (no_handle r (raw.F32 n) found reads.1.0 refl some)
  read_live (numeric f64 n) value_at r reads there found some = absurd (no_handle r (raw.F64 n) found reads.1.0 refl some)
  read_live (numeric v128 n) value_at r reads there found some = absurd (no_handle r (raw.V128 n) found reads.1.0 refl some)
  read_live (function f) value_at r reads there found some = absurd (no_handle r (raw.Func f) found reads.1.0 refl some)
  read_live (continuation cont) value_at r reads there found some = absurd (no_handle r (raw.Cont cont) found reads.1.0 refl some)
  read_live (reference class null) value_at r reads there found some = absurd (no_handle r (raw.Ref class None) found reads.1.0 refl some)
  read_live (reference class (small n)) value_at r reads there found some = record {
    table = push (small n) table;
    holds = (b.place, there.0);
    root = small n;
    named = new_named layouts s table b.place progress.holds.there.0 new (small n) found (handle_is r class (handle_of new (length table.scoped) table.drops) found reads.1.0 some);
  }
  read_live (reference class (at q)) value_at r reads there found some = record {
    table = push (at q) table;
    holds = (b.place, there.0);
    root = at q;
    named = new_named layouts s table b.place progress.holds.there.0 new (at q) found (handle_is r class (handle_of new (length table.scoped) table.drops) found reads.1.0 some);
  }

-- an entry that is told has a handle, which can be read
module _ {D : Type 0} (layouts : Layouts) (s : StoreView D) (r : Parts) (number : ℕ) where
  pub take_inside : CanTake D layouts s r number → number < length r.handles
  take_inside can =
      let inside = slice_get_within can.told number can.reading.one can.reading.there in
      let counts = can.progress.lists.same_count in
      omega (arith, inside, counts)

  pub take_live : (can : CanTake D layouts s r number) (h : GcRootIndex) → slice_get r.handles number ≡ Some h → IsLive D layouts s h
  take_live can h at_h = record {
    table = can.progress.holds.now;
    holds = (can.basis.place, can.progress.holds.there.0);
    root = at can.reading.one.position;
    named = can.progress.lists.named number can.reading.one h can.reading.there at_h;
  }
