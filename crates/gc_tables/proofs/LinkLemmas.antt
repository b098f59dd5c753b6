-- How each change of the places keeps the count and the chain of free places.
use Rattle.std.proofs.Common.{◌≡◌, ◌≢◌, ◌⊎◌, inl, inr, ℕ, zero, suc, ◌+◌, ◌-◌, ◌<◌, ◌≤◌, true, List, [], ◌∷◌, ◌++◌, map, length, get_or, set, Option, Some, None, is_some, IsSome, slice_get, refl, sym, ap, subst, ◌∙◌, arith, length-set, true≢false}
use Rattle.std.proofs.lemmas.Bool.{cases_eq}
use Rattle.std.proofs.lemmas.List.{map-set, map_push, length-map, length_push, get_or-map, get_or-set_same, get_or-set_other, get_or_past}
use Rattle.std.proofs.lemmas.Option.{slice_get_within, slice_get-get_or, slice_get_read, get_or_from_slice_get, none-some}
use Rattle.std.specs.Ordering.{nat_cmp}
use Rattle.std.specs.Cmp.{nat_cmp_total}
use Rattle.std.specs.FinMap as finite
use Rattle.gc_tables.specs.declared.slab.Entry.{Entry}
use Rattle.gc_tables.specs.declared.slab.Entry.TheVariants.{Free, Occupied}
use Rattle.gc_tables.specs.SideTables.{max_entries}
use Rattle.gc_tables.specs.Slots.{value_of, map_of, entry_map, IsChain, IsLinked}
use Rattle.gc_tables.proofs.SlotLemmas.{entries-map_of, get-map_of, map_of-push, map_of-set_some, map_of-set_none, len-added, len-replaced, len-removed}

module _ {X : Type 0} where
  -- a place begins one chain at most
  chain_unique : (es : List (Entry X)) (m n : ℕ) (first : Option ℕ) → IsChain es m first → IsChain es n first → m ≡ n
  chain_unique es zero zero first p q = refl
  chain_unique es zero (suc n) None p q = absurd q
  chain_unique es zero (suc n) (Some id) p q = absurd (cc)
  chain_unique es (suc m) zero None p q = absurd p
  chain_unique es (suc m) zero (Some id) p q = absurd (cc)
  chain_unique es (suc m) (suc n) None p q = absurd p
  chain_unique es (suc m) (suc n) (Some id) p q =
      let a = p.1 in
      let b = q.1 in
      let same : q.0 ≡ p.0 = cc in
      ap suc (chain_unique es m n p.0 p.2 (subst (IsChain es n) same q.2))

  -- a write at a place that is not on the chain keeps the chain
  chain-set : (es : List (Entry X)) (id : ℕ) (e : Entry X) (n : ℕ) (first : Option ℕ) → ((m : ℕ) → m < n → IsChain es (suc m) (Some id) → ⊥) → IsChain es n first → IsChain (set es id e) n first
  chain-set es id e zero first off p = p
  chain-set es id e (suc n) None off p = p
  chain-set es id e (suc n) (Some from) off p =
      let other : from ≢ id = λ same. off n (omega arith) (subst (λ k. IsChain es (suc n) (Some k)) same p) in
      let within = slice_get_within es from _ p.1 in
      let kept : slice_get (set es id e) from ≡ Some (Free p.0) =
      slice_get-get_or (set es id e) from e (omega (arith, length-set es id e))
      ∙ ap Some (get_or-set_other es id from e e other ∙ get_or_from_slice_get es from _ e p.1) in
      (p.0, kept, chain-set es id e n p.0 (λ m below. off m (omega arith)) p.2)

  -- an occupied place is on no chain
  occupied_off : (es : List (Entry X)) (id : ℕ) (v : X) → slice_get es id ≡ Some (Occupied v) → (m : ℕ) → IsChain es (suc m) (Some id) → ⊥
  occupied_off es id v found m p = let listed = p.1 in cc

  -- what the finite map has at a place
  pub get-entry_map : (es : List (Entry X)) (id : ℕ) (e : Entry X) → slice_get es id ≡ Some e → finite.get (entry_map es) id ≡ value_of e
  get-entry_map es id e found =
      get-map_of (map value_of es) id
      ∙ get_or-map value_of es id e None (slice_get_within es id e found)
      ∙ ap value_of (get_or_from_slice_get es id e e found)

  pub get-entry_map-past : (es : List (Entry X)) (id : ℕ) → length es ≤ id → finite.get (entry_map es) id ≡ None
  get-entry_map-past es id past =
      get-map_of (map value_of es) id ∙ get_or_past (map value_of es) id None (omega (arith, length-map es value_of))

  -- an id with a value is that of an occupied place
  pub occupied_at : (es : List (Entry X)) (id : ℕ) → IsSome (finite.get (entry_map es) id) → (v : X) × (slice_get es id ≡ Some (Occupied v))
  occupied_at es id present =
      let some : IsSome (get_or (map value_of es) id None) = subst IsSome (get-map_of (map value_of es) id) present in
      let inside : id < length (map value_of es) = grind (arith, get_or_past) in
      let within : id < length es = omega (arith, length-map es value_of) in
      by_entry (get_or es id (Free None)) (slice_get-get_or es id (Free None) within) (subst IsSome (get_or-map value_of es id (Free None) None within) some)
    where
      by_entry : (e : Entry X) → slice_get es id ≡ Some e → IsSome (value_of e) → (v : X) × (slice_get es id ≡ Some (Occupied v))
      by_entry (Free _) found some = absurd (true≢false (sym some))
      by_entry (Occupied v) found some = (v, found)

  -- what a read of the values finds
  pub read-entry_map : (es : List (Entry X)) (id : ℕ) → get_or (map value_of es) id None ≡ finite.get (entry_map es) id
  read-entry_map es id = sym (get-map_of (map value_of es) id)

  -- what was read at a place and taken from it
  pub read_place : (es : List (Entry X)) (size at id : ℕ) (e taken : Entry X) → size ≡ length es → at ≡ id → id < length es → e ≡ get_or es at e → taken ≡ e → slice_get es id ≡ Some taken
  read_place es size at id e taken size_is same within value is =
      slice_get_read es size id e size_is (omega arith) (subst (λ k. e ≡ get_or es k e) same value) ∙ ap Some (sym is)

  pub entry_map-push : (es : List (Entry X)) (v : X) → entry_map (es ++ Occupied v ∷ []) ≡ finite.insert (entry_map es) (length es) v
  entry_map-push es v =
      ap map_of (map_push value_of es (Occupied v)) ∙ map_of-push (map value_of es) v
      ∙ ap (λ n. finite.insert (entry_map es) n v) (length-map es value_of)

  pub entry_map-fill : (es : List (Entry X)) (id : ℕ) (v : X) → id < length es → entry_map (set es id (Occupied v)) ≡ finite.insert (entry_map es) id v
  entry_map-fill es id v within =
      ap map_of (map-set value_of es id (Occupied v)) ∙ map_of-set_some (map value_of es) id v (omega (arith, length-map es value_of))

  pub entry_map-free : (es : List (Entry X)) (id : ℕ) (next : Option ℕ) → id < length es → entry_map (set es id (Free next)) ≡ finite.remove (entry_map es) id
  entry_map-free es id next within =
      ap map_of (map-set value_of es id (Free next)) ∙ map_of-set_none (map value_of es) id (omega (arith, length-map es value_of))

  pub linked-empty : (es : List (Entry X)) → es ≡ [] → IsLinked es None 0
  linked-empty es is =
      subst (λ xs. IsLinked xs None 0) (sym is)
      (record {
        counted = finite.len-entries (map_of []) ∙ ap length (entries-map_of []);
        vacant = 0;
        total = refl;
        chain = refl;
        bounded = omega arith;
      })

  pub entry_map-empty : (es : List (Entry X)) → es ≡ [] → entry_map es ≡ finite.empty
  entry_map-empty es is =
      ap entry_map is
      ∙ finite.same_map nat_cmp_total finite.nat_cmp-IsAntisymmetric _ _ (λ q. get-map_of [] q ∙ sym (finite.get-empty nat_cmp q))

  -- without a free place all are occupied
  pub full_at_end : (es : List (Entry X)) (free : Option ℕ) (count : ℕ) → IsLinked es free count → free ≡ None → count ≡ length es
  full_at_end es free count linked none = by_count linked.vacant linked.total (subst (IsChain es linked.vacant) none linked.chain)
    where
      by_count : (n : ℕ) → count + n ≡ length es → IsChain es n None → count ≡ length es
      by_count zero total chain = omega arith
      by_count (suc n) total chain = absurd chain

  -- the first of the chain is a free place
  pub first_is_free : (es : List (Entry X)) (free : Option ℕ) (id count : ℕ) → IsLinked es free count → free ≡ Some id → (next : Option ℕ) × (slice_get es id ≡ Some (Free next))
  first_is_free es free id count linked some = by_count linked.vacant (subst (IsChain es linked.vacant) some linked.chain)
    where
      by_count : (n : ℕ) → IsChain es n (Some id) → (next : Option ℕ) × (slice_get es id ≡ Some (Free next))
      by_count zero chain = absurd (cc)
      by_count (suc n) chain = (chain.0, chain.1)

  pub linked-push : (es : List (Entry X)) (free : Option ℕ) (count : ℕ) (v : X) → IsLinked es free count → free ≡ None → finite.len (entry_map es) < max_entries → IsLinked (es ++ Occupied v ∷ []) free (count + 1)
  linked-push es free count v linked none below =
      let full = full_at_end es free count linked none in
      let longer = length_push es (Occupied v) in
      let counted = linked.counted in
      record {
        counted = ap finite.len (entry_map-push es v) ∙ len-added _ (length es) v (get-entry_map-past es (length es) (omega arith)) ∙ ap (λ n. n + 1) linked.counted;
        vacant = 0;
        total = omega arith;
        chain = none;
        bounded = omega arith;
      }

  -- the first free place leaves the chain: the rest is shorter, so it doesn't come back to that place
  pub linked-fill : (es : List (Entry X)) (free : Option ℕ) (id count : ℕ) (next : Option ℕ) (v : X) → IsLinked es free count → free ≡ Some id → slice_get es id ≡ Some (Free next) → IsLinked (set es id (Occupied v)) next (count + 1)
  linked-fill es free id count next v linked some found = by_count linked.vacant linked.total (subst (IsChain es linked.vacant) some linked.chain)
    where
      by_count : (n : ℕ) → count + n ≡ length es → IsChain es n (Some id) → IsLinked (set es id (Occupied v)) next (count + 1)
      by_count zero total chain = absurd (cc)
      by_count (suc n) total chain =
          let listed = chain.1 in
          let same : chain.0 ≡ next = cc in
          let off : (m : ℕ) → m < n → IsChain es (suc m) (Some id) → ⊥ =
          λ m below p. omega (arith, chain_unique es (suc m) (suc n) (Some id) p chain) in
          record {
            counted = ap finite.len (entry_map-fill es id v (slice_get_within es id _ found)) ∙ len-added _ id v (get-entry_map es id _ found) ∙ ap (λ k. k + 1) linked.counted;
            vacant = n;
            total = omega (arith, length-set es id (Occupied v));
            chain = chain-set es id (Occupied v) n next off (subst (IsChain es n) same chain.2);
            bounded = omega (arith, length-set es id (Occupied v), linked.bounded);
          }

  -- where a place is occupied there is an entry
  pub linked-some : (es : List (Entry X)) (free : Option ℕ) (id count : ℕ) (v : X) → IsLinked es free count → slice_get es id ≡ Some (Occupied v) → 0 < count
  linked-some es free id count v linked found =
      elim (cases_eq count 0) [
        | inl zero_count ↦
            let empty : entry_map es ≡ finite.empty = finite.empty_of_len (entry_map es) (linked.counted ∙ zero_count) in
            let none : finite.get (entry_map es) id ≡ None = ap (λ m. finite.get m id) empty ∙ finite.get-empty nat_cmp id in
            absurd (none-some v (sym none ∙ get-entry_map es id _ found))
        | inr positive ↦ omega arith
      ]

  pub linked-free : (es : List (Entry X)) (free : Option ℕ) (id count : ℕ) (v : X) → IsLinked es free count → slice_get es id ≡ Some (Occupied v) → IsLinked (set es id (Free free)) (Some id) (count - 1)
  linked-free es free id count v linked found =
      let within = slice_get_within es id _ found in
      let written : slice_get (set es id (Free free)) id ≡ Some (Free free) =
      slice_get-get_or _ id (Free free) (omega (arith, length-set es id (Free free)))
      ∙ ap Some (get_or-set_same es id (Free free) (Free free) within) in
      let positive = linked-some es free id count v linked found in
      record {
        counted = ap finite.len (entry_map-free es id free within) ∙ len-removed _ id v (get-entry_map es id _ found) ∙ ap (λ n. n - 1) linked.counted;
        vacant = suc linked.vacant;
        total = omega (arith, length-set es id (Free free), linked.total);
        chain = (free, written, chain-set es id (Free free) linked.vacant free (λ m _. occupied_off es id v found m) linked.chain);
        bounded = omega (arith, length-set es id (Free free), linked.bounded);
      }

  pub linked-write : (es : List (Entry X)) (free : Option ℕ) (id count : ℕ) (v w : X) → IsLinked es free count → slice_get es id ≡ Some (Occupied v) → IsLinked (set es id (Occupied w)) free count
  linked-write es free id count v w linked found =
      record {
        counted = ap finite.len (entry_map-fill es id w (slice_get_within es id _ found)) ∙ len-replaced _ id v w (get-entry_map es id _ found) ∙ linked.counted;
        vacant = linked.vacant;
        total = omega (arith, length-set es id (Occupied w), linked.total);
        chain = chain-set es id (Occupied w) linked.vacant free (λ m _. occupied_off es id v found m) linked.chain;
        bounded = omega (arith, length-set es id (Occupied w), linked.bounded);
      }

  -- ids are below the greatest number of entries
  pub ids_below : (es : List (Entry X)) (free : Option ℕ) (count id : ℕ) → IsLinked es free count → IsSome (finite.get (entry_map es) id) → id < max_entries
  ids_below es free count id linked present =
      let found = occupied_at es id present in
      let within = slice_get_within es id _ found.1 in
      let bounded = linked.bounded in
      omega arith
