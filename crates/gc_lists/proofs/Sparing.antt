-- What giving a version up leaves of the others.
use Rattle.std.proofs.Common.{◌≡◌, ◌≢◌, ◌<◌, ◌-◌, ◌==◌, ℕ, List, [], ◌∷◌, cond, not, Bool, true, false, Option, Some, None, refl, sym, ap, ◌∙◌, arith}
use Rattle.std.specs.List.{Contains}
use Rattle.std.proofs.lemmas.Bool.{ne_eqb}
use Rattle.std.proofs.lemmas.List.Elements.{Contains-append_left, Contains-append_right}
use Rattle.std.proofs.lemmas.Bool.Decides.{nat_tests}
use Rattle.std.proofs.lemmas.Option.{same_Some}
use Rattle.gc_types.specs.declared.kind.Layouts.{Layouts}
use Rattle.gc_model.specs.Values.{Reference}
use Rattle.gc_model.specs.Table.{Table, Owned}
use Rattle.gc_model.specs.OwnedRoots.{drop_handle, handles_changed, owned_among, handled_roots}
use Rattle.gc_model.specs.Stores.{StoreView}
use Rattle.gc_model.proofs.OwnedRoots.{owned_one}
use Rattle.gc_model.specs.Accounts.{Account, HoldsAccount}
use Rattle.gc_values.specs.declared.root.GcRootIndex.{GcRootIndex}
use Rattle.gc_store.specs.OwnedRoots.{DropsHandle}
use Rattle.gc_store.specs.Roots.{owned_handle}
use Rattle.gc_store.specs.Stores.{IsSameStore}
use Rattle.gc_lists.specs.Answers.{AreApart, HasNewRoot, LeavesVersion, Releases}
use Rattle.gc_lists.specs.Versions.{VersionNames}
use Rattle.gc_lists.proofs.Keeping.{owned_same}

-- an owned root is found still by its number where another one has a handle less
other_among : (n k : ℕ) (roots : List Owned) (r : Reference) → k ≢ n → ((root : Owned) → Contains roots root → 0 < root.handles) → owned_among k roots ≡ Some r
    → owned_among k (handled_roots (handles_changed n (λ m. m - 1) roots)) ≡ Some r
other_among n k [] r differ some e = absurd (cc e)
other_among n k (x ∷ xs) r differ some e =
    elim (x.number == k) as (λ b. (x.number == k) ≡ b → owned_among k (handled_roots (handles_changed n (λ m. m - 1) (x ∷ xs))) ≡ Some r) [
      | true ↦ λ is.
          let same : x.number ≡ k = grind (arith, nat_tests, is) in
          let has = some x (Contains-append_left (x ∷ []) xs x (0, omega arith, refl)) in
          ap (λ b. owned_among k (handled_roots (cond b (record x { handles = x.handles - 1 }) x ∷ handles_changed n (λ m. m - 1) xs))) (ne_eqb x.number n (λ e'. differ (sym same ∙ e')))
          ∙ ap (λ b. owned_among k (cond (not b) (x ∷ handled_roots (handles_changed n (λ m. m - 1) xs)) (handled_roots (handles_changed n (λ m. m - 1) xs)))) (ne_eqb x.handles 0 (λ none. absurd (omega (arith, none, has))))
          ∙ ap (λ b. cond b (Some x.reference) (owned_among k (handled_roots (handles_changed n (λ m. m - 1) xs)))) is
          ∙ sym (ap (λ b. cond b (Some x.reference) (owned_among k xs)) is) ∙ e
      | false ↦ λ is.
          let later = other_among n k xs r differ (λ root c. some root (Contains-append_right (x ∷ []) xs root c)) (sym (ap (λ b. cond b (Some x.reference) (owned_among k xs)) is) ∙ e) in
          elim (x.number == n) as (λ b. owned_among k (handled_roots (cond b (record x { handles = x.handles - 1 }) x ∷ handles_changed n (λ m. m - 1) xs)) ≡ Some r) [
            | true ↦ passed_over k (record x { handles = x.handles - 1 }) (handled_roots (handles_changed n (λ m. m - 1) xs)) r is later
            | false ↦ passed_over k x (handled_roots (handles_changed n (λ m. m - 1) xs)) r is later
          ]
    ] refl
  where
    -- a root with another number, kept or not, is none of those that are found
    passed_over : (k : ℕ) (y : Owned) (rest : List Owned) (r : Reference) → (y.number == k) ≡ false → owned_among k rest ≡ Some r → owned_among k (cond (not (y.handles == 0)) (y ∷ rest) rest) ≡ Some r
    passed_over k y rest r is later = elim (not (y.handles == 0)) as (λ b. owned_among k (cond b (y ∷ rest) rest) ≡ Some r) [
      | true ↦ ap (λ b. cond b (Some y.reference) (owned_among k rest)) is ∙ later
      | false ↦ later
    ]

module _ {D : Type 0} (layouts : Layouts) (s : StoreView D) (t : Table D) (a : Account) (holds : HoldsAccount layouts s t a) where
  -- an owned root was made before those to come
  pub numbered_before : (n : ℕ) (r : Reference) → owned_among n t.owned ≡ Some r → n < t.owns
  numbered_before n r e =
      let found = owned_one n t.owned r e in
      let entry = holds.holds.owned.in_store found.0 found.1.0 in
      let early = holds.holds.owned.early entry.0 entry.1.0 in
      let numbered = entry.1.1.number in
      let same = found.1.1.0 in
      omega (arith, early, numbered, same)

  -- each has handles
  has_handles : (root : Owned) → Contains t.owned root → 0 < root.handles
  has_handles root c = (holds.holds.owned.in_store root c).1.1.held

  module _ (new : StoreView D) (same : IsSameStore s new) where
    -- a version that stood is apart from one that was answered now
    pub new_apart : (version made : Option GcRootIndex) (r : Reference) → VersionNames s t version r → HasNewRoot new t made → AreApart version made
    new_apart None made r names is handle e = absurd (cc e)
    new_apart (Some h) None r names is handle e = λ no. cc no
    new_apart (Some h) (Some m) r names is handle e = λ e'.
        let both : m ≡ h = same_Some m h (e' ∙ sym e) in
        let numbers : t.owns ≡ names.number = ap (λ (x : GcRootIndex). x.generation) (sym is ∙ both ∙ names.names ∙ owned_same s new names.number same) in
        let before = numbered_before names.number r names.live in
        absurd (omega (arith, numbers, before))

    dropped : (gone : GcRootIndex) (was_live : Bool) (version : Option GcRootIndex) (r : Reference) → DropsHandle layouts s t a gone was_live new → AreApart (Some gone) version → VersionNames s t version r → LeavesVersion layouts t a version r new
    dropped gone false version r drops apart names = record { owned = t.owned; holds = drops.1; names = named version names }
      where
        named : (v : Option GcRootIndex) → VersionNames s t v r → VersionNames new t v r
        named None is = is
        named (Some h) is = record { number = is.number; names = is.names ∙ owned_same s new is.number same; live = is.live }
    dropped gone true None r drops apart names = record { owned = (drop_handle drops.0.number t).owned; holds = drops.1.1; names = names }
    dropped gone true (Some h) r drops apart names =
        let differ : names.number ≢ drops.0.number = λ e. apart gone refl (ap (λ (x : GcRootIndex). Some x) (names.names ∙ ap (owned_handle s) e ∙ sym drops.1.0.is)) in
        record {
          owned = (drop_handle drops.0.number t).owned;
          holds = drops.1.1;
          names = record {
            number = names.number;
            names = names.names ∙ owned_same s new names.number same;
            live = other_among drops.0.number names.number t.owned r differ has_handles names.live;
          };
        }

    -- a version was given up, and another one names what it named
    pub others_left : (gone version : Option GcRootIndex) (r : Reference) → Releases layouts s t a gone new → AreApart gone version → VersionNames s t version r → LeavesVersion layouts t a version r new
    others_left None version r releases apart names = record { owned = t.owned; holds = releases; names = named version names }
      where
        named : (v : Option GcRootIndex) → VersionNames s t v r → VersionNames new t v r
        named None is = is
        named (Some h) is = record { number = is.number; names = is.names ∙ owned_same s new is.number same; live = is.live }
    others_left (Some gone) version r releases apart names = dropped gone releases.0 version r releases.1 apart names
