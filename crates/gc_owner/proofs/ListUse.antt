-- The list that a collection has of the roots: what calls leave of it, and that it is empty while none is under way.
use Rattle.std.proofs.Common.{◌≡◌, ℕ, Bool, true, false, cond, List, [], Option, Some, None, refl, ap, ◌∙◌}
use Rattle.gc_roots.specs.Roots.{Root}
use Rattle.gc_owner.specs.RootColumns.{RootsView}

-- what roots have of the list of a collection
pub record ListUse : Type 0 where
  pub listed : Option (List Root)
  pub has_places : Bool

abbrev pub list_use : RootsView → ListUse
list_use r = record { listed = r.listed; has_places = r.has_places }

idle_list : (is_listing : Bool) (roots : List Root) → cond is_listing (Some roots) None ≡ None → is_listing ≡ false
idle_list true roots e = absurd (cc)
idle_list false roots e = refl

pub unused_list : (is_listing : Bool) (roots : List Root) (given : ℕ) (now : RootsView) → (is_listing ≡ false → (roots ≡ []) × (given ≡ 0)) → cond is_listing (Some roots) None ≡ now.listed → now.listed ≡ None → (roots ≡ []) × (given ≡ 0)
unused_list is_listing roots given now empty is none = empty (idle_list is_listing roots (is ∙ none))

-- a list that is there is in use
pub used_list : (is_listing : Bool) (roots listed : List Root) → cond is_listing (Some roots) None ≡ Some listed → (is_listing ≡ true) × (roots ≡ listed)
used_list true roots listed e = (refl, cc)
used_list false roots listed e = absurd (cc)

-- the list changed, and its places are as many as before
pub list_stepped : (old new now : RootsView) (listed : List Root) → old ≡ now → new.listed ≡ Some listed → new.list_spare ≡ old.list_spare → new ≡ record old { listed = new.listed; list_spare = new.list_spare }
    → new ≡ record now { listed = Some listed }
list_stepped old new now listed is listed_is list_spare rest =
    rest ∙ (λ i. record old { listed = listed_is i; list_spare = list_spare i }) ∙ ap (λ (r : RootsView). record r { listed = Some listed }) is
