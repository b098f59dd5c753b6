-- A call's end: its scope is left.
use Rattle.std.proofs.Common.{inl, inr, ◌≡◌, ◌⊎◌, ℕ, ◌+◌, ◌-◌, ◌*◌, ◌≤◌, ◌<◌, ◌^◌, ◌||◌, nat_le, nat_eq, ℤ, T, Bool, true, false, List, [], ◌∷◌, ◌++◌, take, length, Option, Some, None, sym, ap, ◌∙◌, refl, subst, arith, leb-true, eqb-true, pow_mono, length-append}
use Rattle.std.specs.Ordering.{int_cmp}
use Rattle.std.specs.FinMap as finite
use Rattle.std.specs.FinMap.Entries.{find, is_sorted}
use Rattle.gc_types.specs.declared.kind.Layouts.{Layouts}
use Rattle.gc_model.specs.Live.{roots_full}
use Rattle.gc_model.specs.Table.{Table, leave}
use Rattle.gc_model.specs.Stores.{StoreView}
use Rattle.gc_values.specs.declared.root.GcRootIndex.{GcRootIndex}
use Rattle.gc_lists.specs.Frames.{ChangesOwned, most_objects}
use Rattle.gc_lists.specs.Refusals.{LacksCallRoots}
use Rattle.gc_lists.specs.Versions.{is_version_of, VersionNames}
use Rattle.gc_model.specs.Values.{Reference}
use Rattle.gc_maps.specs.Trees.{height, pairs}
use Rattle.gc_maps.specs.Maps.{IntMap, StandsForMapOf, MapStands}
use Rattle.gc_maps.specs.Parts.{NamesLink, RootIs}
use Rattle.gc_maps.specs.Searching.{IsSearch, SearchIn}
use Rattle.gc_maps.specs.Ends.{Pushes}
use Rattle.gc_lists.proofs.Scopes.{leave_counts}
use Rattle.gc_maps.proofs.Sizes.{square}

pub take_front : {X : Type 0} (xs ys : List X) → take (length xs) (xs ++ ys) ≡ xs
take_front [] ys = refl
take_front (x ∷ xs) ys = ap (λ zs. x ∷ zs) (take_front xs ys)

or_cases : (a b : Bool) → (a || b) ≡ true → (a ≡ true) ⊎ (b ≡ true)
or_cases true b e = inl refl
or_cases false b e = inr e

module _ {D : Type 0} (t : Table D) where
  pub pushes_left : (most : ℕ) (u : Table D) → Pushes most t u → ChangesOwned t t.owned (leave (length t.scoped) u)
  pushes_left most u pushes = subst (λ (w : Table D). ChangesOwned t t.owned (leave (length t.scoped) w)) (sym pushes.rest) (record {
    pushes = pushes.pushes;
    counts = leave_counts (length t.scoped) t (record t { scoped = t.scoped ++ pushes.scoped; pushes = t.pushes ++ pushes.pushes }) refl (omega arith);
    rest = λ i. record t {
      scoped = take_front t.scoped pushes.scoped i;
      pushes = t.pushes ++ pushes.pushes;
      drops = (leave (length t.scoped) (record t { scoped = t.scoped ++ pushes.scoped; pushes = t.pushes ++ pushes.pushes })).drops;
    };
  })

  full_cases : (most count extra drops : ℕ) → extra < most_objects → (nat_le most (count + extra) || nat_eq drops (2 ^ 64 - 1)) ≡ true → (most < count + most_objects) ⊎ (drops ≡ 2 ^ 64 - 1)
  full_cases most count extra drops few e = elim (or_cases (nat_le most (count + extra)) (nat_eq drops (2 ^ 64 - 1)) e) [
    | inl full ↦ let below = leb-true most (count + extra) full in inl (omega (arith, below, few))
    | inr end ↦ inr (eqb-true drops (2 ^ 64 - 1) end)
  ]

  pub lacks_roots : (most : ℕ) (u : Table D) → most < most_objects → Pushes most t u → roots_full u ≡ true → LacksCallRoots t
  lacks_roots most u below pushes full =
      let few = pushes.few in
      let at : roots_full (record t { scoped = t.scoped ++ pushes.scoped; pushes = t.pushes ++ pushes.pushes }) ≡ true = subst (λ (w : Table D). roots_full w ≡ true) pushes.rest full in
      full_cases t.max_scoped (length t.scoped) (length pushes.scoped) t.drops (omega (arith, few, below)) (rw length-append at at)

-- what the version of a map names
module _ {D : Type 0} (s : StoreView D) (t : Table D) (version : Option GcRootIndex) (ty : ℕ) (m : IntMap) (stands : StandsForMapOf s t version ty m) where
  link_named : (v : Option GcRootIndex) (r : Reference) → VersionNames s t v r → NamesLink s t v r
  link_named None r names = names
  link_named (Some h) r names = inr names

  pub map_root : RootIs s t ty version stands.is.tree
  map_root = record { reference = stands.reference; names = link_named version stands.reference stands.names; is = stands.is.is }

  pub map_search : IsSearch stands.is.tree
  map_search = record { balanced = stands.is.balanced; rising = subst (λ (es : List (ℤ × ℤ)). T (is_sorted int_cmp es)) stands.is.entries (finite.entries_sorted m) }

  pub map_find : (key : ℤ) → find int_cmp key (pairs stands.is.tree) ≡ finite.get m key
  map_find key = sym (finite.get-entries m key ∙ ap (find int_cmp key) stands.is.entries)

  pub map_steps : (before now : ℕ) → now ≤ before + height stands.is.tree → 2 ^ (now - before) ≤ (finite.len m + 1) * (finite.len m + 1)
  map_steps before now few =
      let mono : 2 ^ (now - before) ≤ 2 ^ height stands.is.tree = pow_mono (omega (arith, few)) in
      let wide = square stands.is.tree stands.is.balanced in
      let count : length (pairs stands.is.tree) ≡ finite.len m = ap length (sym stands.is.entries) ∙ sym (finite.len-entries m) in
      subst (λ (n : ℕ). 2 ^ (now - before) ≤ (n + 1) * (n + 1)) count (omega (arith, mono, wide))

pub map_in : {D : Type 0} (layouts : Layouts) (s : StoreView D) (version : Option GcRootIndex) → MapStands D layouts s version → is_version_of s version ≡ true → SearchIn D layouts s version
map_in layouts s version stands own =
    let in_some = stands own in
    record {
      table = in_some.1.table;
      holds = in_some.1.holds;
      ty = in_some.0;
      tree = in_some.1.stands.is.tree;
      is = map_root s in_some.1.table version in_some.0 in_some.1.entries in_some.1.stands;
      search = map_search s in_some.1.table version in_some.0 in_some.1.entries in_some.1.stands;
    }
