-- Versions stand where what is constant stays.
use Rattle.std.proofs.Common.{◌≡◌, ℕ, ℤ, List, [], ◌∷◌, ◌++◌, cond, nat_eq, Option, Some, None, true, false, refl, sym, ap, ◌∙◌}
use Rattle.std.proofs.lemmas.List.{append-nil}
use Rattle.gc_model.specs.Values.{Reference}
use Rattle.gc_model.specs.Table.{Table, Owned}
use Rattle.gc_model.specs.OwnedRoots.{owned_among}
use Rattle.gc_model.specs.Stores.{StoreView}
use Rattle.gc_values.specs.declared.root.GcRootIndex.{GcRootIndex}
use Rattle.gc_store.specs.Stores.{IsSameStore}
use Rattle.gc_lists.specs.declared.kit.Kit.{Kit}
use Rattle.gc_lists.specs.Constants.{KeepsConstants}
use Rattle.gc_lists.specs.Frames.{ChangesObjects, ChangesOwned}
use Rattle.gc_lists.specs.Versions.{StandsForListOf, VersionNames}
use Rattle.gc_lists.proofs.Keeping.{owned_same}
use Rattle.gc_lists.proofs.Kept.{appended_keeps, list_of_kept}

pub roots_keep : {D : Type 0} (t u : Table D) (owned : List Owned) → ChangesOwned t owned u → KeepsConstants t u
roots_keep t u owned changes = appended_keeps t u [] [] (ap (λ (v : Table _). v.types) changes.rest ∙ sym (append-nil t.types)) (ap (λ (v : Table _). v.objects) changes.rest ∙ sym (append-nil t.objects))

pub objects_keep : {D : Type 0} {limit : Option ℕ} (kit : Kit) (most : ℕ) (t u : Table D) (owned : List Owned) → ChangesObjects limit kit most t owned u → KeepsConstants t u
objects_keep kit most t u owned changes = appended_keeps t u [] changes.made (ap (λ (v : Table _). v.types) changes.rest ∙ sym (append-nil t.types)) (ap (λ (v : Table _). v.objects) changes.rest)

-- what an owned root names is named still where there are more
owned_more : (number : ℕ) (roots more : List Owned) (r : Reference) → owned_among number roots ≡ Some r → owned_among number (roots ++ more) ≡ Some r
owned_more number [] more r e = absurd (cc e)
owned_more number (x ∷ roots) more r e = elim (nat_eq x.number number) as (λ b. nat_eq x.number number ≡ b → owned_among number ((x ∷ roots) ++ more) ≡ Some r) [
  | true ↦ λ is. ap (λ b. cond b (Some x.reference) (owned_among number (roots ++ more))) is ∙ sym (ap (λ b. cond b (Some x.reference) (owned_among number roots)) is) ∙ e
  | false ↦ λ is. ap (λ b. cond b (Some x.reference) (owned_among number (roots ++ more))) is
      ∙ owned_more number roots more r (sym (ap (λ b. cond b (Some x.reference) (owned_among number roots)) is) ∙ e)
] refl

module _ {D : Type 0} (s new : StoreView D) (t u : Table D) (more : List Owned) (same : IsSameStore s new) (owned : u.owned ≡ t.owned ++ more) where
  pub named_still : (version : Option GcRootIndex) (r : Reference) → VersionNames s t version r → VersionNames new u version r
  named_still None r names = names
  named_still (Some handle) r names = record {
    number = names.number;
    names = names.names ∙ owned_same s new names.number same;
    live = ap (λ (roots : List Owned). owned_among names.number roots) owned ∙ owned_more names.number t.owned more r names.live;
  }

pub version_stays : {D : Type 0} (s new : StoreView D) (t u : Table D) (more : List Owned) (version : Option GcRootIndex) (ty : ℕ) (xs : List ℤ) → IsSameStore s new → KeepsConstants t u → u.owned ≡ t.owned ++ more
    → StandsForListOf s t version ty xs → StandsForListOf new u version ty xs
version_stays s new t u more version ty xs same keeps owned stands = record {
  reference = stands.reference;
  names = named_still s new t u more same owned version stands.reference stands.names;
  is = list_of_kept t u keeps ty xs stands.reference stands.is;
}
