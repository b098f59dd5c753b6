-- A version is given up.
use Rattle.std.proofs.Common.{◌≡◌, Bool, true, false, Option, Some, Result, Ok, Err, MatchResult, sym, ap, ◌∙◌, subst}
use Rattle.gc_types.specs.declared.kind.Layouts.{Layouts}
use Rattle.gc_model.specs.Table.{Table}
use Rattle.gc_model.specs.Stores.{StoreView}
use Rattle.gc_model.specs.Accounts.{Account}
use Rattle.gc_values.specs.declared.root.GcRootIndex.{GcRootIndex}
use Rattle.gc_values.specs.declared.root.RootFault.{RootFault}
use Rattle.gc_values.specs.declared.root.RootFault.TheVariants as fault
use Rattle.gc_store.specs.OwnedRoots.{ReleasesHandle}
use Rattle.gc_lists.specs.Answers.{Releases}
use Rattle.gc_lists.specs.Versions.{is_version_of}

module _ {D : Type 0} (layouts : Layouts) (s : StoreView D) (t : Table D) (a : Account) (version : Option GcRootIndex) (handle : GcRootIndex) (new : StoreView D) (some : version ≡ Some handle) where
  pub was_released : (result : Result Bool RootFault) (was_live : Bool) → result ≡ Ok was_live → ReleasesHandle layouts s t a handle result new
      → (is_version_of s version ≡ true) × Releases layouts s t a version new
  was_released result was_live is releases =
      let by = subst (λ (r : Result Bool RootFault). ReleasesHandle layouts s t a handle r new) is releases in
      (ap (is_version_of s) some ∙ by.0, subst (λ (v : Option GcRootIndex). Releases layouts s t a v new) (sym some) (was_live, by.1))

  other_store : (why : RootFault) → ReleasesHandle layouts s t a handle (Err why) new → is_version_of s (Some handle) ≡ false
  other_store fault.WrongStore by = by
  other_store fault.Unrooted by = absurd by
  other_store fault.RootsFull by = absurd by
  other_store fault.Memory by = absurd by

  pub was_handed_back : (result : Result Bool RootFault) (why : RootFault) → result ≡ Err why → ReleasesHandle layouts s t a handle result new → is_version_of s version ≡ false
  was_handed_back result why is releases = ap (is_version_of s) some ∙ other_store why (subst (λ (r : Result Bool RootFault). ReleasesHandle layouts s t a handle r new) is releases)

-- what is handed back has the root that it had
pub same_root : {V : Type 0} (root_of : V → Option GcRootIndex) (version : V) (Done Other : Type 0) (result : Result (Unit {0}) V) → MatchResult result (λ done. Done) (λ back. Other × (back ≡ version))
    → MatchResult result (λ done. Done) (λ back. Other × (root_of back ≡ root_of version))
same_root root_of version Done Other (Ok done) told = told
same_root root_of version Done Other (Err back) told = (told.0, ap root_of told.1)
