-- A root word that is looked at: the search goes on with what it names.
use Rattle.std.proofs.Common.{◌≡◌, ℕ, ◌+◌, ◌<◌, List, length, Option, Some, None, Result, Ok, Err, false, cond, sym, ap, ◌∙◌, refl, subst, arith, ne_eqb, eq-eqb, Contains}
use Rattle.gc_types.specs.declared.kind.Layouts.{Layouts}
use Rattle.gc_model.specs.Values.{Reference, null, small, at}
use Rattle.gc_model.specs.Table.{Table, push}
use Rattle.gc_model.specs.Live.{roots_full}
use Rattle.gc_model.specs.Words.{Placing, IsWord}
use Rattle.gc_model.specs.Stores.{StoreView}
use Rattle.gc_model.specs.Holds.{Holds}
use Rattle.gc_model.proofs.Words.{place_even, word_names}
use Rattle.gc_model.specs.Accounts.{Account}
use Rattle.gc_values.specs.declared.root.GcRootIndex.{GcRootIndex}
use Rattle.gc_values.specs.declared.root.RootFault.{RootFault}
use Rattle.gc_values.specs.declared.root.RootFault.TheVariants as fault
use Rattle.gc_store.specs.declared.root_words.RootName.{RootName}
use Rattle.gc_store.specs.declared.root_words.RootWord.{RootWord}
use Rattle.gc_store.specs.declared.root_words.RootAt.{RootAt}
use Rattle.gc_store.specs.declared.root_words.RootAt.TheVariants as found
use Rattle.gc_store.specs.OwnedWords.{HoldsThere}
use Rattle.gc_store.specs.Roots.{NamesReference, handle_of}
use Rattle.gc_store.specs.RootWords.{RootsWord}
use Rattle.gc_store.specs.Stores.{IsSameStore}
use Rattle.gc_store.specs.Values.{IsLive}
use Rattle.gc_paths.specs.declared.entry.PathParent.TheVariants as parent
use Rattle.gc_paths.specs.declared.fault.PathFault.{PathFault}
use Rattle.gc_paths.specs.Walks.{start_root, start_roots, from_root}
use Rattle.gc_paths.specs.Reports.{Told}
use Rattle.gc_paths.specs.Answers.{LacksRoots}
use Rattle.gc_paths.specs.Faults.{search_fault}
use Rattle.gc_paths.specs.Parts.{Parts}
use Rattle.gc_paths.specs.Taking.{TakesReference}
use Rattle.gc_paths.specs.Progress.{Basis, Progress, SearchGoesOn, StoppedSearch, AnswersPart, IsToldBy, IsStartWord, TellsRoot, word_count}
use Rattle.gc_paths.proofs.Growing.{full_lacks, new_named}
use Rattle.gc_paths.proofs.Taken.{keeps_itself, object_taken, number_taken}
use Rattle.gc_paths.proofs.Reading.{stopped_by, answers_more, progress_pushed}

-- the root of a root word that was pushed is live
pub root_live : {D : Type 0} (layouts : Layouts) (s new : StoreView D) (t : Table D) (place : Placing) (a : Account) → Holds layouts s t place → (n : RootName) (h : GcRootIndex) (o : Option RootWord)
    → RootsWord layouts s t place a o (Ok (found.Root n h)) new → IsLive D layouts new h
root_live layouts s new t place a holds n h None finds = absurd (differ finds.0)
  where
    differ : ◌≡◌ {A = Result RootAt RootFault} (Ok (found.Root n h)) (Ok found.End) → ⊥
    differ e = cc
root_live layouts s new t place a holds n h (Some w) finds =
    let r = finds.1.1.0 in
    let pushed = finds.1.1.1.1 in
    record {
      table = push r t;
      holds = (place, pushed.1.0);
      root = r;
      named = new_named layouts s t place holds new r h pushed.0.1.0;
    }

module _ {D : Type 0} (layouts : Layouts) (b : Basis D) (told : List Told) (count : ℕ) (s : StoreView D) (old : Parts) (progress : Progress layouts b told 0 count s old) (w : RootWord) (start : IsStartWord b w) (new : StoreView D) (same : IsSameStore s new) where
  abbrev table : Table D
  table = progress.holds.now

  some_count : 0 < w.word → 1 ≡ word_count w
  some_count some = sym (ap (λ x. cond x 0 1) (ne_eqb w.word 0 (λ none. absurd (omega (arith, some, none)))))

  counts_one : 0 < w.word → count + 1 ≡ count + word_count w
  counts_one some = ap (λ n. count + n) (some_count some)

  -- nothing is named
  pub root_passed : RootsWord layouts s table b.place b.account (Some w) (Ok found.Null) new → SearchGoesOn layouts b told 0 (count + word_count w) new old (TellsRoot b w)
  root_passed (none, is) = record {
    told = told;
    kept = keeps_itself told;
    progress = subst (λ (v : StoreView D). Progress layouts b told 0 (count + word_count w) v old) (sym is) (subst (λ (n : ℕ). Progress layouts b told 0 n s old) nothing progress);
    done = λ p e. absurd (let some = (place_even layouts table b.place s.heap progress.holds.there.0.objects p w.word e).1 in omega (arith, some, none));
  }
    where
      nothing : count ≡ count + word_count w
      nothing = let is_none : word_count w ≡ 0 = ap (λ x. cond x 0 1) (eq-eqb w.word 0 none) in omega (arith, is_none)

  -- the root that is named, in the table
  start_there : (n : RootName) (r : Reference) → n ≡ w.name → 0 < w.word → IsWord b.place r w.word → Contains (start_roots b.scoped b.table) (start_root n r)
  start_there n r named some is =
      let one = start some in
      let same_reference : one.0.reference ≡ r = word_names layouts table b.place s.heap progress.holds.there.0.objects one.0.reference r w.word one.1.1.1 is in
      subst (Contains (start_roots b.scoped b.table)) (λ i. record { name = (one.1.1.0 ∙ sym named) i; reference = same_reference i }) one.1.0

  module _ (n : RootName) (h : GcRootIndex) (after : Parts) (result : Result (Unit {0}) PathFault) (takes : (t : Table D) (place : Placing) (q : Reference) → Holds layouts new t place → NamesReference new t h q → TakesReference place q h (parent.FromRoot n) 0 old after result)
      (named : n ≡ w.name) (some : 0 < w.word) (free : roots_full table ≡ false) (is_new : h ≡ handle_of new (length table.scoped) table.drops) where
    module _ (p : ℕ) (is : IsWord b.place (at p) w.word) (there : HoldsThere layouts new (push (at p) table) b.place b.account) where
      names_new : NamesReference new (push (at p) table) h (at p)
      names_new = new_named layouts s table b.place progress.holds.there.0 new (at p) h is_new

      takes_object : (r : Result (Unit {0}) PathFault) → TakesReference b.place (at p) h (parent.FromRoot n) 0 old after r
          → AnswersPart layouts b (SearchGoesOn layouts b told 0 (count + 1) new after (λ then. IsToldBy then p 0)) (LacksRoots b.table (count + 1)) r new
      takes_object (Ok done) taken =
          object_taken layouts b told 0 (count + 1) new old (progress_pushed layouts b told 0 count s old progress new same (at p) free there) p h (parent.FromRoot n) names_new
          (refl, start_there n (at p) named some is) (from_root n (start_there n (at p) named some is)) (omega arith) (let few = progress.few in omega (arith, few)) taken.0 after taken.1.0 taken.1.1
      takes_object (Err why) taken = stopped_by layouts b (SearchGoesOn layouts b told 0 (count + 1) new after (λ then. IsToldBy then p 0)) (LacksRoots b.table (count + 1)) why new taken (count + 1, (progress_pushed layouts b told 0 count s old progress new same (at p) free there).holds)

      same_position : (q : ℕ) → b.place q ≡ Some w.word → p ≡ q
      same_position q e = progress.holds.there.0.objects.injective p q w.word is e

      pub object_rooted : AnswersPart layouts b (SearchGoesOn layouts b told 0 (count + 1) new after (TellsRoot b w)) (LacksRoots b.table (count + 1)) result new
      object_rooted =
          answers_more layouts b told 0 (count + 1) new after (λ then. IsToldBy then p 0) (TellsRoot b w) (LacksRoots b.table (count + 1)) result
          (λ then by q e. subst (λ (x : ℕ). IsToldBy then x 0) (same_position q e) by)
          (takes_object result (takes (push (at p) table) b.place (at p) there.0 names_new))

    module _ (k : ℕ) (is : IsWord b.place (small k) w.word) (there : HoldsThere layouts new (push (small k) table) b.place b.account) where
      no_object : (p : ℕ) → b.place p ≡ Some w.word → ⊥
      no_object p e = let even = (place_even layouts table b.place s.heap progress.holds.there.0.objects p w.word e).0 in absurd (omega (arith, even, is))

      takes_number : (r : Result (Unit {0}) PathFault) → TakesReference b.place (small k) h (parent.FromRoot n) 0 old after r
          → AnswersPart layouts b (SearchGoesOn layouts b told 0 (count + 1) new after (TellsRoot b w)) (LacksRoots b.table (count + 1)) r new
      takes_number (Ok done) taken = number_taken layouts b told 0 (count + 1) new old (progress_pushed layouts b told 0 count s old progress new same (small k) free there) after (TellsRoot b w) taken (λ p e. absurd (no_object p e))
      takes_number (Err why) taken = stopped_by layouts b (SearchGoesOn layouts b told 0 (count + 1) new after (TellsRoot b w)) (LacksRoots b.table (count + 1)) why new taken (count + 1, (progress_pushed layouts b told 0 count s old progress new same (small k) free there).holds)

      pub number_rooted : AnswersPart layouts b (SearchGoesOn layouts b told 0 (count + 1) new after (TellsRoot b w)) (LacksRoots b.table (count + 1)) result new
      number_rooted = takes_number result (takes (push (small k) table) b.place (small k) there.0 (new_named layouts s table b.place progress.holds.there.0 new (small k) h is_new))

    by_reference : (r : Reference) → IsWord b.place r w.word → HoldsThere layouts new (push r table) b.place b.account → AnswersPart layouts b (SearchGoesOn layouts b told 0 (count + 1) new after (TellsRoot b w)) (LacksRoots b.table (count + 1)) result new
    by_reference null is there = absurd (omega (arith, is, some))
    by_reference (small k) is there = number_rooted k is there
    by_reference (at p) is there = object_rooted p is there

  -- what a root word names was taken
  pub root_taken : (n : RootName) (h : GcRootIndex) → RootsWord layouts s table b.place b.account (Some w) (Ok (found.Root n h)) new → (after : Parts) (result : Result (Unit {0}) PathFault)
      → ((t : Table D) (place : Placing) (q : Reference) → Holds layouts new t place → NamesReference new t h q → TakesReference place q h (parent.FromRoot n) 0 old after result)
      → AnswersPart layouts b (SearchGoesOn layouts b told 0 (count + word_count w) new after (TellsRoot b w)) (LacksRoots b.table (count + word_count w)) result new
  root_taken n h finds after result takes =
      let pushed = finds.1.1.1.1 in
      subst (λ (m : ℕ). AnswersPart layouts b (SearchGoesOn layouts b told 0 m new after (TellsRoot b w)) (LacksRoots b.table m) result new) (counts_one finds.1.0)
      (by_reference n h after result takes finds.0 finds.1.0 pushed.0.0 pushed.0.1.0 finds.1.1.0 finds.1.1.1.0 pushed.1)

  -- or no root was pushed for it
  pub root_refused : (why : RootFault) (Went : Type 0) → RootsWord layouts s table b.place b.account (Some w) (Err why) new → new ≡ s → AnswersPart layouts b Went (LacksRoots b.table (count + word_count w)) (Err (search_fault why)) new
  root_refused fault.WrongStore Went finds is = absurd finds.1.1.1
  root_refused fault.Unrooted Went finds is = absurd finds.1.1.1
  root_refused fault.RootsFull Went finds is = (
    subst (LacksRoots b.table) (counts_one finds.0) (full_lacks b.table table count progress.holds.grown finds.1.1.1.0),
    subst (StoppedSearch layouts b) (sym is) (count, progress.holds),
  )
  root_refused fault.Memory Went finds is = subst (StoppedSearch layouts b) (sym is) (count, progress.holds)
