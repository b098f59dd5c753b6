-- What a version stands for. A version is empty or has an owned root: here it is the handle of that, or none.
use Rattle.std.specs.Prelude.{◌≡◌, ℕ, ℤ, Bool, true, List, Option, Some, None}
use Rattle.gc_types.specs.declared.kind.Layouts.{Layouts}
use Rattle.gc_model.specs.Values.{Reference, null}
use Rattle.gc_model.specs.Table.{Table}
use Rattle.gc_model.specs.Stores.{StoreView}
use Rattle.gc_model.specs.Holds.{HoldsTable}
use Rattle.gc_values.specs.declared.root.GcRootIndex.{GcRootIndex}
use Rattle.gc_store.specs.Roots.{is_of_store, NamesOwned}
use Rattle.gc_lists.specs.Lists.{IsList, IsListOf}

-- whether a version is empty or the store's
abbrev pub is_version_of : {D : Type 0} → StoreView D → Option GcRootIndex → Bool
is_version_of s None = true
is_version_of s (Some handle) = is_of_store s handle

-- the version is empty, which is as null, or its owned root is live and names that reference
abbrev pub VersionNames : {D : Type 0} → StoreView D → Table D → Option GcRootIndex → Reference → Type 0
VersionNames s t None r = r ≡ null
VersionNames s t (Some handle) r = NamesOwned s t handle r

-- the version stands for what its reference is
pub record VersionStands {D : Type 0} (s : StoreView D) (t : Table D) (version : Option GcRootIndex) (Is : Reference → Type 0) : Type 0 where
  pub reference : Reference
  pub names : VersionNames s t version reference
  pub is : Is reference

-- it stands for that list, and for one whose cells are of that type
abbrev pub StandsForList : {D : Type 0} → StoreView D → Table D → Option GcRootIndex → List ℤ → Type 0
StandsForList s t version xs = VersionStands s t version (λ r. IsList t.types t.objects r xs)

abbrev pub StandsForListOf : {D : Type 0} → StoreView D → Table D → Option GcRootIndex → ℕ → List ℤ → Type 0
StandsForListOf s t version ty xs = VersionStands s t version (IsListOf t.types t.objects ty xs)

-- a version of this store stands for some list, in some table that the store holds
pub record IsListIn (D : Type 0) (layouts : Layouts) (s : StoreView D) (version : Option GcRootIndex) : Type 0 where
  pub table : Table D
  pub holds : HoldsTable layouts s table
  pub numbers : List ℤ
  pub stands : StandsForList s table version numbers

-- so with cells of that type
pub record IsListOfIn (D : Type 0) (layouts : Layouts) (s : StoreView D) (version : Option GcRootIndex) (ty : ℕ) : Type 0 where
  pub table : Table D
  pub holds : HoldsTable layouts s table
  pub numbers : List ℤ
  pub stands : StandsForListOf s table version ty numbers

abbrev pub ListStands : (D : Type 0) → Layouts → StoreView D → Option GcRootIndex → Type 0
ListStands D layouts s version = is_version_of s version ≡ true → IsListIn D layouts s version

abbrev pub ListOfStands : (D : Type 0) → Layouts → StoreView D → Option GcRootIndex → ℕ → Type 0
ListOfStands D layouts s version ty = is_version_of s version ≡ true → IsListOfIn D layouts s version ty
