-- The object of a line is placed.
use Rattle.std.proofs.Common.{◌≡◌, ℕ, ◌≤◌, ◌^◌, true, List, length, Option, Some, Err, sym, ap, ◌∙◌, subst, arith}
use Rattle.gc_types.specs.declared.kind.Layouts.{Layouts}
use Rattle.gc_types.specs.Declarations.{Declaration, elem_at}
use Rattle.gc_model.specs.Allocation.{Limits, too_large}
use Rattle.gc_model.specs.Sizes.{elements_size}
use Rattle.gc_model.specs.Stores.{StoreView}
use Rattle.gc_model.specs.Table.{Table}
use Rattle.gc_model.specs.Values.{Value, Object, array}
use Rattle.gc_model.specs.Accounts.{Account, HoldsAccount}
use Rattle.gc_model.specs.Policy.{PolicyState}
use Rattle.gc_store.specs.declared.hosts.PlaceHostFault.{PlaceHostFault}
use Rattle.gc_values.specs.declared.faults.PlaceFault.{PlaceFault}
use Rattle.gc_store.specs.HostPlaces.{PlacesHost}
use Rattle.gc_store.specs.Places.{Places, RefusesPlace, size_in_table}
use Rattle.gc_load_image.specs.declared.fault.LoadFault.TheVariants as fault
use Rattle.gc_load_image.specs.Stages.{PlacesLine}
use Rattle.gc_load_image.proofs.SizeLemmas.{elements_count, wide_is_large}

module _ (layouts : Layouts) (counter : Option ℕ) (o : Object ℕ) (p : PolicyState ℕ) (limits' : Limits) (new : StoreView ℕ) where
  -- the table is as it was
  unchanged : (s : StoreView ℕ) → HoldsAccount layouts s p.table p.account → new ≡ s → limits' ≡ p.limits → RefusesPlace layouts p limits' new
  unchanged s holds same limits = record { holds = subst (λ (v : StoreView ℕ). HoldsAccount layouts v p.table p.account) (sym same) holds; limits = limits }

  -- more elements than 32 bits count
  pub elements_large : (s : StoreView ℕ) → HoldsAccount layouts s p.table p.account → new ≡ s → limits' ≡ p.limits → too_large layouts (size_in_table layouts o p.table) ≡ true → PlacesLine layouts counter o p limits' (Err fault.TooLarge) new
  elements_large s holds same limits large = (large, unchanged s holds same limits)

-- how large an array is of so many elements
pub array_large : (layouts : Layouts) (s : StoreView ℕ) (t : Table ℕ) (a : Account) (ty : ℕ) (values : List Value) → HoldsAccount layouts s t a → (element : _) → elem_at s.types ty ≡ Some element → 2 ^ 32 ≤ length values → too_large layouts (size_in_table layouts (array ty values) t) ≡ true
array_large layouts s t a ty values holds element declared wide =
    let found : elem_at t.types ty ≡ Some element = ap (λ (ts : List Declaration). elem_at ts ty) (sym holds.holds.types) ∙ declared in
    let above = elements_count layouts (elem_at t.types ty) element (length values) found in
    wide_is_large layouts (elements_size layouts (elem_at t.types ty) (length values)) (omega (arith, above, wide))

-- a fault that is known
pub told_place : (layouts : Layouts) (counter : Option ℕ) (o : Object ℕ) (p : PolicyState ℕ) (limits' : Limits) (new : StoreView ℕ) (why f : PlaceFault) → why ≡ f → Places layouts counter o p limits' (Err why) new → Places layouts counter o p limits' (Err f) new
told_place layouts counter o p limits' new why f is places = subst (λ (x : PlaceFault). Places layouts counter o p limits' (Err x) new) is places

pub told_host : (layouts : Layouts) (counter : Option ℕ) (value : ℕ) (p : PolicyState ℕ) (limits' : Limits) (new : StoreView ℕ) (why f : PlaceHostFault ℕ) → why ≡ f → PlacesHost layouts counter value p limits' (Err why) new → PlacesHost layouts counter value p limits' (Err f) new
told_host layouts counter value p limits' new why f is places = subst (λ (x : PlaceHostFault ℕ). PlacesHost layouts counter value p limits' (Err x) new) is places
