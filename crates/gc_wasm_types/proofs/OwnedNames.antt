-- The handle of a new owned root names what it was made for.
use Rattle.std.proofs.Common.{inr, ◌≡◌, ◌≢◌, ℕ, List, [], ◌∷◌, ◌++◌, true, false, Some, None, cond, eqb, ap, ◌∙◌, refl, arith}
use Rattle.std.specs.List.{Contains}
use Rattle.std.proofs.lemmas.List.Elements.{Contains-append_left, Contains-append_right}
use Rattle.std.proofs.lemmas.Grind.{common_steps}
use Rattle.gc_types.specs.declared.kind.Layouts.{Layouts}
use Rattle.gc_types.specs.declared.kind.VMGcKind.{VMGcKind}
use Rattle.gc_model.specs.Holds.{HoldsTable}
use Rattle.gc_model.specs.OwnedRoots.{own, owned_among}
use Rattle.gc_model.specs.Stores.{StoreView}
use Rattle.gc_model.specs.Table.{Table, Owned}
use Rattle.gc_model.specs.Values.{Reference, null, small, at}
use Rattle.gc_store.specs.Roots.{owned_handle, NamesReference}
use Rattle.gc_store.specs.Kinds.{IsReferenceOfKind}

-- a root at the end is found by its number, where no other has it
owned_at_end : (number : ℕ) (roots : List Owned) (r : Reference) → ((root : Owned) → Contains roots root → root.number ≢ number)
    → owned_among number (roots ++ record { number = number; reference = r; handles = 1 } ∷ []) ≡ Some r
owned_at_end number [] r differ =
    let test : eqb number number ≡ true = grind (arith, common_steps) in
    ap (λ b. cond b (Some r) None) test
owned_at_end number (x ∷ roots) r differ =
    let ne : x.number ≢ number = differ x (Contains-append_left (x ∷ []) roots x (0, omega arith, refl)) in
    let test : eqb x.number number ≡ false = grind (arith, common_steps) in
    ap (λ b. cond b (Some x.reference) (owned_among number (roots ++ record { number = number; reference = r; handles = 1 } ∷ []))) test
    ∙ owned_at_end number roots r (λ root c. differ root (Contains-append_right (x ∷ []) roots root c))

pub names_owned : {D : Type 0} (layouts : Layouts) (s : StoreView D) (t : Table D) → HoldsTable layouts s t → (new : StoreView D) (r : Reference) → NamesReference new (own r t) (owned_handle new t.owns) r
names_owned layouts s t holds new r = inr (record {
  number = t.owns;
  names = refl;
  live = owned_at_end t.owns t.owned r (λ root c same.
      let found = holds.1.owned.in_store root c in
      let early = holds.1.owned.early found.0 found.1.0 in
      let numbered = found.1.1.number in
      absurd (omega (arith, early, numbered, same)));
})

pub kind_owned : {D : Type 0} (kind : VMGcKind) (t : Table D) (q r : Reference) → IsReferenceOfKind kind t r → IsReferenceOfKind kind (own q t) r
kind_owned kind t q null is = is
kind_owned kind t q (small n) is = is
kind_owned kind t q (at p) is = is
