-- What is answered of a path to one object.
use Rattle.std.proofs.Common.{◌≡◌, ℕ, ◌%◌, ◌<◌, List, [], length, Some, None, Ok, Err, Result, position, nat_eq, false, sym, ap, ◌∙◌, subst, arith}
use Rattle.std.proofs.lemmas.List.{append-nil}
use Rattle.std.proofs.lemmas.Option.{slice_get_within}
use Rattle.gc_types.specs.declared.kind.Layouts.{Layouts}
use Rattle.gc_model.specs.Stores.{StoreView}
use Rattle.gc_model.specs.Table.{Table, Push}
use Rattle.gc_model.specs.Words.{Placing}
use Rattle.gc_model.proofs.Words.{place_even}
use Rattle.gc_model.specs.Accounts.{Account}
use Rattle.gc_store.specs.OwnedWords.{HoldsThere}
use Rattle.gc_values.specs.declared.root.RootFault.{RootFault}
use Rattle.gc_paths.specs.declared.entry.PathEntry.{PathEntry}
use Rattle.gc_paths.specs.declared.fault.PathFault.{PathFault}
use Rattle.gc_paths.specs.Answers.{OnlyPushed, Reports}
use Rattle.gc_paths.specs.Faults.{search_fault}
use Rattle.gc_paths.specs.Progress.{Basis}
use Rattle.gc_paths.specs.Targets.{AreEarlier, HasRootRoom, FindsPath, LeadsNowhere, PathOf}
use Rattle.gc_paths.proofs.Leading.{are_earlier, found_entry, leads_there, leads_nowhere}

-- a store's refusal, handed on
pub refused_as : {A B : Type 0} (why root : RootFault) (out : PathFault) → out ≡ search_fault why → ◌≡◌ {A = Result A RootFault} (Err why) (Err root) → ◌≡◌ {A = Result B PathFault} (Err out) (Err (search_fault root))
refused_as why root out is same = let e : why ≡ root = cc in ap Err (is ∙ ap search_fault e)

-- a word is no refusal
pub not_refused : {A : Type 0} (word : A) (root : RootFault) → ◌≡◌ {A = Result A RootFault} (Ok word) (Err root) → ⊥
not_refused word root e = absurd (cc)

-- the entry that was found is one of them
pub number_within : (word : ℕ) (es : List PathEntry) (k : ℕ) → position (λ (e : PathEntry). nat_eq e.word word) es ≡ Some k → k < length es
number_within word es k found = let e = found_entry word es k found in slice_get_within es k e.0 e.1.0

module _ {D : Type 0} (layouts : Layouts) (s : StoreView D) (t : Table D) (place : Placing) (a : Account) (there : HoldsThere layouts s t place a) where
  -- no root is pushed
  pub nothing_pushed : OnlyPushed layouts t place a s
  nothing_pushed = record {
    more = [];
    holds = subst (λ (u : Table D). HoldsThere layouts s u place a) (ap (λ (ps : List Push). record t { pushes = ps }) (sym (append-nil t.pushes))) there;
  }

  -- an object's word is even
  pub never_odd : (p word : ℕ) → place p ≡ Some word → word % 2 ≡ 1 → ⊥
  never_odd p word is odd = let even = (place_even layouts t place s.heap there.0.objects p word is).0 in omega (arith, even, odd)

  module _ (es : List PathEntry) (reports : Reports false t place es) where
    basis : Basis D
    basis = record { scoped = false; table = t; place = place; account = a }

    room : HasRootRoom false t
    room = record { count = reports.count; needs = reports.needs; room = reports.room }

    pub parents_earlier : AreEarlier es
    unfolding basis
    parents_earlier = subst AreEarlier (sym reports.result_is) (are_earlier basis reports.told reports.report)

    module _ (p word : ℕ) (placed : place p ≡ Some word) where
      alone : (q : ℕ) → place q ≡ Some word → q ≡ p
      alone q is = there.0.objects.injective q p word is placed

      pub leads : (k : ℕ) (path : List PathEntry) → position (λ (e : PathEntry). nat_eq e.word word) es ≡ Some k → PathOf es k path → FindsPath t place p path
      unfolding basis
      leads k path found by =
          let walk = leads_there basis reports.told reports.report p word placed alone k path
          (subst (λ (xs : List PathEntry). position (λ (e : PathEntry). nat_eq e.word word) xs ≡ Some k) reports.result_is found)
          (subst (λ (xs : List PathEntry). PathOf xs k path) reports.result_is by) in
          record { told = walk.0; result_is = walk.1.0; path = walk.1.1; room = room }

      pub nowhere : position (λ (e : PathEntry). nat_eq e.word word) es ≡ None → LeadsNowhere t p
      unfolding basis
      nowhere none = record {
        none = leads_nowhere basis reports.told reports.report p word placed alone (subst (λ (xs : List PathEntry). position (λ (e : PathEntry). nat_eq e.word word) xs ≡ None) reports.result_is none);
        room = room;
      }
